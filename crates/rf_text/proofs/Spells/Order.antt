-- A function that was read: its numbers come in order, and cases stand in an open `switch`.
use Rattle.std.proofs.Common.{◌≡◌, ℕ, ◌+◌, Bool, true, false, cond, not, ◌&&◌, ◌||◌, List, [], ◌∷◌, map, Option, Some, None, Result, Ok, Err, refl, sym, ◌∙◌, ap, subst}
use Rattle.std.specs.List.{All}
use Rattle.std.proofs.lemmas.List.Elements.{All-nil, All-cons, All-head, All-tail}
use Rattle.ir_types.specs.declared.op.Op.{Op}
use Rattle.ir_types.specs.declared.op.Op.TheVariants as ops
use Rattle.ir_types.specs.declared.func.Param.{Param}
use Rattle.ir_types.specs.Formed.{is_terminator}
use Rattle.ir_draft.specs.declared.head.Head.{Head}
use Rattle.ir_draft.specs.declared.line.Line.{Line}
use Rattle.ir_draft.specs.declared.line.Line.TheVariants as line
use Rattle.ir_draft.specs.declared.draft.Numbered.{Numbered}
use Rattle.ir_line.specs.Sound.{IsCallOp}
use Rattle.ir_read.specs.declared.refusal.ReadRefusal.{ReadRefusal}
use Rattle.ir_read.specs.Answers.{◌>>=◌}
use Rattle.ir_read.specs.Bodies.{numbered_from}
use Rattle.ir_read.specs.Numbers.{after_name, after_result, after_param, after_params}
use Rattle.ir_read.specs.Position.{is_between, is_cases, may_stand, spot_after, start, opened, after_label, after_stmt, after_case, after_cases, at_close}
use Rattle.ir_read.specs.Function.{is_foreign, is_outside, after_inst}
use Rattle.ir_read.specs.Forms.{form_in}
use Rattle.ir_read.proofs.Placing.{Place, Opening, no_block, front, place, body_lines}
use Rattle.ir_types_check.specs.Outline as outline
use Rattle.rf_text.specs.Headed.{is_written, IsHead}
use Rattle.rf_text.proofs.Heads.Found.{head_of_line}
use Rattle.rf_text.proofs.Spells.Forms.{IsGoodLine, good_line}
use Rattle.rf_text.proofs.Spells.Numbers.{IsNext, IsTaken, name_taken}

-- ---- what stands in order

-- the next number where an instruction stands, which begins an unnamed block where none is open
abbrev pub here : Bool → ℕ → ℕ
here true n = n
here false n = n + 1

abbrev pub IsNextResult : ℕ → Option (List ℕ) → Type 0
IsNextResult n None = Unit {0}
IsNextResult n (Some name) = IsNext n name

abbrev pub is_switch : Op → Bool
is_switch (ops.Switch other cases to) = true
is_switch _ = false

-- a line where n is the next number, a block is open or not, and a `switch` is
abbrev pub Stands : ℕ → Bool → Bool → Line → Type 0
Stands n open' choosing (line.Label name) = (choosing ≡ false) × IsNext n name
Stands n open' choosing (line.Stmt s) = (choosing ≡ false) × IsNextResult (here open' n) s.result
Stands n open' choosing (line.Case value label) = choosing ≡ true
Stands n open' choosing line.CasesEnd = choosing ≡ true
Stands n open' choosing _ = ⊥

-- the next number, and what is open, after it

abbrev pub next_after : ℕ → Bool → Line → ℕ
next_after n open' (line.Label name) = outline.after_name n name
next_after n open' (line.Stmt s) = outline.after_result (here open' n) s.result
next_after n open' _ = n

abbrev pub open_after : Bool → Line → Bool
open_after open' (line.Label name) = true
open_after open' (line.Stmt s) = not (is_terminator s.op)
open_after open' _ = open'

abbrev pub choosing_after : Bool → Line → Bool
choosing_after choosing (line.Label name) = false
choosing_after choosing (line.Stmt s) = is_switch s.op
choosing_after choosing line.CasesEnd = false
choosing_after choosing _ = choosing

abbrev pub InOrder : ℕ → Bool → Bool → List Numbered → Type 0
InOrder n open' choosing [] = choosing ≡ false
InOrder n open' choosing (x ∷ xs) = Stands n open' choosing x.form × InOrder (next_after n open' x.form) (open_after open' x.form) (choosing_after choosing x.form) xs

abbrev pub ParamsInOrder : ℕ → List Param → Type 0
ParamsInOrder n [] = Unit {0}
ParamsInOrder n (p ∷ ps) = IsNextResult n p.name × ParamsInOrder (outline.after_param n p.name) ps

-- the next number after the parameters
abbrev pub past_params : ℕ → List Param → ℕ
past_params n [] = n
past_params n (p ∷ ps) = past_params (outline.after_param n p.name) ps

abbrev pub IsGood : Numbered → Type 0
IsGood x = IsGoodLine x.form

pub record IsOrdered (head : Head) (body : List Numbered) : Type 0 where
  pub headed : IsHead head
  pub params : ParamsInOrder 0 head.params
  pub lines : InOrder (past_params 0 head.params) false false body
  pub good : All IsGood body

abbrev pub form_of : Numbered → Line
form_of x = x.form

-- ---- answers of the reader

clash : {P : Type 0} → true ≡ false → P
clash e = cc

bind_ok : {A B P : Type 0} (r : Result A ReadRefusal) (f : A → Result B ReadRefusal) (y : B) → (r >>= f) ≡ Ok y → ((x : A) → r ≡ Ok x → f x ≡ Ok y → P) → P
bind_ok (Ok x) f y e k = k x refl e
bind_ok (Err refusal) f y e k = cc

abbrev ok : {A : Type 0} → A → Result A ReadRefusal
ok x = Ok x

ok_is : {A : Type 0} {x y : A} → ok x ≡ ok y → x ≡ y
ok_is e = cc

refused : {A P : Type 0} {refusal : ReadRefusal} {y : A} → Err refusal ≡ Ok y → P
refused e = cc

cond_ok : {A P : Type 0} (b : Bool) (r : Result A ReadRefusal) (refusal : ReadRefusal) (y : A) → cond b r (Err refusal) ≡ Ok y → (b ≡ true → r ≡ Ok y → P) → P
cond_ok true r refusal y e k = k refl e
cond_ok false r refusal y e k = refused e

cond_not : {A P : Type 0} (b : Bool) (r : Result A ReadRefusal) (refusal : ReadRefusal) (y : A) → cond b (Err refusal) r ≡ Ok y → (b ≡ false → r ≡ Ok y → P) → P
cond_not true r refusal y e k = refused e
cond_not false r refusal y e k = k refl e

neither : (a b : Bool) → a || b ≡ false → a ≡ false
neither true b e = clash e
neither false b e = refl

both_true : (a b : Bool) → a && b ≡ true → a ≡ true
both_true true b e = refl
both_true false b e = clash (sym e)

no_call : (p : Place) (op : Op) → is_foreign p op ≡ false → IsCallOp op → ⊥
no_call p (ops.Call site) e c = clash e
no_call p _ e c = c

-- ---- where lines stand

-- what is open in a function
pub record IsAt (spot : Opening) (open' choosing : Bool) : Type 0 where
  pub outside : is_between spot ≡ not open' && not choosing
  pub cases : is_cases spot ≡ choosing
  pub one : open' && choosing ≡ false
  pub shut : choosing ≡ true → (op : Op) → may_stand spot op ≡ false

-- between blocks nothing is open
at_between : (spot : Opening) (open' choosing : Bool) → IsAt spot open' choosing → is_between spot ≡ true → (open' ≡ false) × (choosing ≡ false)
at_between spot false false h e = (refl, refl)
at_between spot true choosing h e = clash (sym e ∙ h.outside)
at_between spot false true h e = clash (sym e ∙ h.outside)

vacant : {P : Type 0} → false ≡ true → P
vacant e = clash (sym e)

spot_is : (op : Op) → IsAt (spot_after op) (not (is_terminator op)) (is_switch op)
spot_is (ops.Phi blocks) = record { outside = refl; cases = refl; one = refl; shut = λ e o. vacant e }
spot_is ops.Ret = record { outside = refl; cases = refl; one = refl; shut = λ e o. vacant e }
spot_is (ops.Br to) = record { outside = refl; cases = refl; one = refl; shut = λ e o. vacant e }
spot_is (ops.CondBr first second) = record { outside = refl; cases = refl; one = refl; shut = λ e o. vacant e }
spot_is (ops.Switch other cases to) = record { outside = refl; cases = refl; one = refl; shut = λ e o. refl }
spot_is ops.Unreachable = record { outside = refl; cases = refl; one = refl; shut = λ e o. vacant e }
spot_is _ = record { outside = refl; cases = refl; one = refl; shut = λ e o. vacant e }

front_is : IsAt front true false
front_is = record { outside = refl; cases = refl; one = refl; shut = λ e o. vacant e }

no_block_is : (open' : Bool) → open' ≡ false → IsAt no_block open' false
no_block_is open' e = subst (λ b. IsAt no_block b false) (sym e) (record { outside = refl; cases = refl; one = refl; shut = λ e o. vacant e })

-- no instruction stands among cases
not_choosing : (spot : Opening) (open' choosing : Bool) (op : Op) → IsAt spot open' choosing → may_stand spot op ≡ true → choosing ≡ false
not_choosing spot open' false op h e = refl
not_choosing spot open' true op h e = clash (sym e ∙ h.shut refl op)

not_open : (open' choosing : Bool) → open' && choosing ≡ false → choosing ≡ true → open' ≡ false
not_open false choosing e c = refl
not_open true choosing e c = clash (sym c ∙ e)

-- ---- parameters

record AreTaken (n : ℕ) (ps : List Param) (after : ℕ) : Type 0 where
  each : ParamsInOrder n ps
  after_is : after ≡ past_params n ps

record IsTakenName (n : ℕ) (name : Option (List ℕ)) (after : ℕ) : Type 0 where
  next : IsNextResult n name
  after_is : after ≡ outline.after_param n name

param_taken : (k n : ℕ) (name : Option (List ℕ)) (after : ℕ) → is_written name ≡ true → after_param k n name ≡ Ok after → IsTakenName n name after
param_taken k n None after h e = record { next = tt; after_is = sym (ok_is e) }
param_taken k n (Some name) after h e = let t : IsTaken n name after = name_taken k n name after h e in record { next = t.next; after_is = t.after_is }

params_taken : (k n : ℕ) (ps : List Param) (after : ℕ) → All (λ (p : Param). is_written p.name ≡ true) ps → after_params k n ps ≡ Ok after → AreTaken n ps after
params_taken k n [] after h e = record { each = tt; after_is = sym (ok_is e) }
params_taken k n (p ∷ ps) after h e =
    bind_ok (after_param k n p.name) _ after e (λ m was now.
    let one : IsTakenName n p.name m = param_taken k n p.name m (All-head (λ (p : Param). is_written p.name ≡ true) p ps h) was in
    let rest : AreTaken m ps after = params_taken k m ps after (All-tail (λ (p : Param). is_written p.name ≡ true) p ps h) now in
    record {
      each = (one.next, subst (λ x. ParamsInOrder x ps) one.after_is rest.each);
      after_is = rest.after_is ∙ ap (λ x. past_params x ps) one.after_is;
    })

-- ---- results

record IsTakenResult (n : ℕ) (name : Option (List ℕ)) (after : ℕ) : Type 0 where
  next : IsNextResult n name
  after_is : after ≡ outline.after_result n name

result_taken : (k n : ℕ) (name : Option (List ℕ)) (after : ℕ) → is_written name ≡ true → after_result k n name ≡ Ok after → IsTakenResult n name after
result_taken k n None after h e = record { next = tt; after_is = sym (ok_is e) }
result_taken k n (Some name) after h e = let t : IsTaken n name after = name_taken k n name after h e in record { next = t.next; after_is = t.after_is }

opened_next : (p : Place) (open' choosing : Bool) → IsAt p.spot open' choosing → choosing ≡ false → (opened p).next ≡ here open' p.next
unfolding opened
opened_next p true choosing h c = ap (λ b. (cond b (place (p.next + 1) p.insts (p.blocks + 1) front) p).next) h.outside
opened_next p false choosing h c = ap (λ b. (cond b (place (p.next + 1) p.insts (p.blocks + 1) front) p).next) (h.outside ∙ ap not c)

-- ---- going through the lines

first_form : {a b : Option Line} {as' bs : List (Option Line)} → a ∷ as' ≡ b ∷ bs → a ≡ b
first_form e = cc

more_forms : {a b : Option Line} {as' bs : List (Option Line)} → a ∷ as' ≡ b ∷ bs → as' ≡ bs
more_forms e = cc

no_form : {P : Type 0} {b : Option Line} {bs : List (Option Line)} → [] ≡ b ∷ bs → P
no_form e = cc

-- lines in order from here, and good
record AreOrdered (n : ℕ) (open' choosing : Bool) (xs : List Numbered) : Type 0 where
  lines : InOrder n open' choosing xs
  good : All IsGood xs

-- with one more line in front, after which q is the position
grown : (p q : Place) (n : ℕ) (open' choosing : Bool) (form : Line) (xs : List Numbered) → IsGoodLine form → Stands p.next open' choosing form → q.next ≡ next_after p.next open' form →
    AreOrdered q.next (open_after open' form) (choosing_after choosing form) xs → AreOrdered p.next open' choosing (record { line = n; form = form } ∷ xs)
grown p q n open' choosing form xs g s e r = record {
  lines = (s, subst (λ x. InOrder x (open_after open' form) (choosing_after choosing form) xs) e r.lines);
  good = All-cons IsGood (record { line = n; form = form }) xs g r.good;
}

lines_ordered : (names : List (List ℕ)) (n k : ℕ) (p end q : Place) (open' choosing : Bool) (body : List (List ℕ)) (forms : List Line) → IsAt p.spot open' choosing → map (form_in true) body ≡ map Some forms → body_lines names n p forms ≡ Ok end →
    at_close k end ≡ Ok q → AreOrdered p.next open' choosing (numbered_from n forms)
unfolding after_inst after_label after_stmt after_case after_cases at_close
lines_ordered names n k p end q open' choosing [] [] at e s shut =
    let same : p ≡ end = ok_is s in
    cond_ok _ (Ok end) _ q shut (λ both _.
    let spot : is_between p.spot ≡ true = ap (λ (x : Place). is_between x.spot) same ∙ both_true (is_between end.spot) _ both in
    record { lines = (at_between p.spot open' choosing at spot).1; good = All-nil IsGood })
lines_ordered names n k p end q open' choosing [] (f ∷ fs) at e s shut = no_form e
lines_ordered names n k p end q open' choosing (l ∷ ls) [] at e s shut = no_form (sym e)
lines_ordered names n k p end q open' choosing (l ∷ ls) (line.Empty ∷ fs) at e s shut = lines_ordered names (n + 1) k p end q open' choosing ls fs at (more_forms e) s shut
lines_ordered names n k p end q open' choosing (l ∷ ls) (line.Kept kept ∷ fs) at e s shut = refused s
lines_ordered names n k p end q open' choosing (l ∷ ls) (line.Define name head ∷ fs) at e s shut = refused s
lines_ordered names n k p end q open' choosing (l ∷ ls) (line.Close ∷ fs) at e s shut = refused s
lines_ordered names n k p end q open' choosing (l ∷ ls) (line.Label name ∷ fs) at e s shut =
    bind_ok (after_label n p name) _ end s (λ r was now.
    cond_ok (is_between p.spot) _ _ r was (λ b then'.
    bind_ok (after_name n p.next name) _ r then' (λ next taken same.
    let none : (open' ≡ false) × (choosing ≡ false) = at_between p.spot open' choosing at b in
    let good : IsGoodLine (line.Label name) = good_line l (line.Label name) (first_form e) tt in
    let t : IsTaken p.next name next = name_taken n p.next name next good taken in
    grown p r n open' choosing (line.Label name) (numbered_from (n + 1) fs) good (none.1, t.next) (sym (ap (λ (x : Place). x.next) (ok_is same)) ∙ t.after_is)
    (lines_ordered names (n + 1) k r end q true false ls fs (subst (λ x. IsAt x true false) (ap (λ (x : Place). x.spot) (ok_is same)) front_is) (more_forms e) now shut))))
lines_ordered names n k p end q open' choosing (l ∷ ls) (line.Stmt x ∷ fs) at e s shut =
    bind_ok (after_inst names n p x) _ end s (λ r was now.
    cond_not (is_outside names p x) _ _ r was (λ b then'.
    cond_ok (may_stand p.spot x.op) _ _ r then' (λ m more.
    bind_ok (after_result n (opened p).next x.result) _ r more (λ next taken same.
    let choose : choosing ≡ false = not_choosing p.spot open' choosing x.op at m in
    let good : IsGoodLine (line.Stmt x) = good_line l (line.Stmt x) (first_form e) (no_call p x.op (neither (is_foreign p x.op) _ b)) in
    let number : (opened p).next ≡ here open' p.next = opened_next p open' choosing at choose in
    let t : IsTakenResult (opened p).next x.result next = result_taken n (opened p).next x.result next good.plain.named taken in
    grown p r n open' choosing (line.Stmt x) (numbered_from (n + 1) fs) good (choose, subst (λ k. IsNextResult k x.result) number t.next)
    (sym (ap (λ (y : Place). y.next) (ok_is same)) ∙ t.after_is ∙ ap (λ k. outline.after_result k x.result) number)
    (lines_ordered names (n + 1) k r end q (not (is_terminator x.op)) (is_switch x.op) ls fs (subst (λ y. IsAt y (not (is_terminator x.op)) (is_switch x.op)) (ap (λ (y : Place). y.spot) (ok_is same)) (spot_is x.op)) (more_forms e) now shut)))))
lines_ordered names n k p end q open' choosing (l ∷ ls) (line.Case value label ∷ fs) at e s shut =
    bind_ok (after_case n p) _ end s (λ r was now.
    cond_ok (is_cases p.spot) (Ok p) _ r was (λ b same.
    let good : IsGoodLine (line.Case value label) = good_line l (line.Case value label) (first_form e) tt in
    grown p r n open' choosing (line.Case value label) (numbered_from (n + 1) fs) good (sym at.cases ∙ b) (sym (ap (λ (x : Place). x.next) (ok_is same)))
    (lines_ordered names (n + 1) k r end q open' choosing ls fs (subst (λ x. IsAt x open' choosing) (ap (λ (x : Place). x.spot) (ok_is same)) at) (more_forms e) now shut)))
lines_ordered names n k p end q open' choosing (l ∷ ls) (line.CasesEnd ∷ fs) at e s shut =
    bind_ok (after_cases n p) _ end s (λ r was now.
    cond_ok (is_cases p.spot) _ _ r was (λ b same.
    let choose : choosing ≡ true = sym at.cases ∙ b in
    let none : open' ≡ false = not_open open' choosing at.one choose in
    grown p r n open' choosing line.CasesEnd (numbered_from (n + 1) fs) tt choose (sym (ap (λ (x : Place). x.next) (ok_is same)))
    (lines_ordered names (n + 1) k r end q open' false ls fs (subst (λ x. IsAt x open' false) (ap (λ (x : Place). x.spot) (ok_is same)) (no_block_is open' none)) (more_forms e) now shut)))

-- a function that was read is in order
pub function_ordered : (names : List (List ℕ)) (n k first : ℕ) (end q : Place) (l : List ℕ) (name : Option (List ℕ)) (head : Head) (body : List (List ℕ)) (forms : List Line) → form_in false l ≡ Some (line.Define name (Some head)) →
    after_params n 0 head.params ≡ Ok first → map (form_in true) body ≡ map Some forms → body_lines names (n + 1) (start first) forms ≡ Ok end → at_close k end ≡ Ok q → IsOrdered head (numbered_from (n + 1) forms)
function_ordered names n k first end q l name head body forms is taken e s shut =
    let headed : IsHead head = head_of_line l name head is in
    let t : AreTaken 0 head.params first = params_taken n 0 head.params first headed.written taken in
    let r : AreOrdered first false false (numbered_from (n + 1) forms) = lines_ordered names (n + 1) k (start first) end q false false body forms (no_block_is false refl) e s shut in
    record { headed = headed; params = t.each; lines = subst (λ x. InOrder x false false (numbered_from (n + 1) forms)) t.after_is r.lines; good = r.good }
