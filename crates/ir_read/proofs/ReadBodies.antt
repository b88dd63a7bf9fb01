-- The body of a function that was read: its lines stand where they may.
use Rattle.std.proofs.Common.{◌≡◌, ℕ, ◌+◌, ◌<◌, ◌⊎◌, inl, inr, Bool, true, false, cond, not, ◌&&◌, ◌||◌, List, [], ◌∷◌, map, Option, Some, None, Result, Ok, Err, nat_eq, refl, sym, ◌∙◌, ap, subst, arith, eqb-true}
use Rattle.std.proofs.lemmas.Bool.Decides.{nat_tests}
use Rattle.ir_lex.specs.Scan.{cut, fault_of}
use Rattle.ir_types.specs.declared.op.Op.{Op}
use Rattle.ir_types.specs.declared.op.Op.TheVariants as ops
use Rattle.ir_types.specs.Formed.{is_phi, is_alloca}
use Rattle.ir_draft.specs.declared.stmt.Stmt.{Stmt}
use Rattle.ir_draft.specs.declared.line.Line.{Line}
use Rattle.ir_draft.specs.declared.line.Line.TheVariants as line
use Rattle.ir_line.specs.Body.{Spells}
use Rattle.ir_line.specs.Sound.{IsCallOp, IsCallLine, IsSoundLine}
use Rattle.ir_line.proofs.BodyLines.{body_spelled}
use Rattle.ir_line.proofs.SoundLines.{sound_line}
use Rattle.ir_line.proofs.WholeLines.{IsWholeLine, whole_line}
use Rattle.ir_line.proofs.Bodies as stage
use Rattle.ir_line.proofs.Bodies.{Stage, May, stage_after, begun, IsStmtAt, Stands, stage_after_line, begun_after, IsBodyFrom, IsBody}
use Rattle.ir_read.specs.declared.position.Position.{Position}
use Rattle.ir_read.specs.declared.position.Spot.{Spot}
use Rattle.ir_read.specs.declared.position.Spot.TheVariants.{Between, Front, After, Cases}
use Rattle.ir_read.specs.declared.refusal.ReadRefusal.{ReadRefusal}
use Rattle.ir_read.specs.Answers.{◌>>=◌}
use Rattle.ir_read.specs.Numbers.{after_name, after_result}
use Rattle.ir_read.specs.Position.{is_between, is_cases, may_stand, spot_after, start, opened, in_first, after_label, after_stmt, after_case, after_cases, at_close}
use Rattle.ir_read.specs.Function.{is_foreign, is_outside, after_inst}
use Rattle.ir_read.specs.Bodies.{numbered_from}
use Rattle.ir_read.proofs.Placing.{body_line, body_lines}
use Rattle.ir_read.specs.Forms.{form_in, form_by, sound_form}

clash : {P : Type 0} → true ≡ false → P
clash e = cc

bind_ok : {A B P : Type 0} (r : Result A ReadRefusal) (f : A → Result B ReadRefusal) (y : B) → (r >>= f) ≡ Ok y → ((x : A) → r ≡ Ok x → f x ≡ Ok y → P) → P
bind_ok (Ok x) f y e k = k x refl e
bind_ok (Err refusal) f y e k = cc

abbrev ok : {A : Type 0} → A → Result A ReadRefusal
ok x = Ok x

ok_is : {A : Type 0} {x y : A} → ok x ≡ ok y → x ≡ y
ok_is e = cc

refused : {A P : Type 0} {refusal : ReadRefusal} {y : A} → Err refusal ≡ Ok y → P
refused e = cc

cond_ok : {A P : Type 0} (b : Bool) (r : Result A ReadRefusal) (refusal : ReadRefusal) (y : A) → cond b r (Err refusal) ≡ Ok y → (b ≡ true → r ≡ Ok y → P) → P
cond_ok true r refusal y e k = k refl e
cond_ok false r refusal y e k = refused e

cond_not : {A P : Type 0} (b : Bool) (r : Result A ReadRefusal) (refusal : ReadRefusal) (y : A) → cond b (Err refusal) r ≡ Ok y → (b ≡ false → r ≡ Ok y → P) → P
cond_not true r refusal y e k = refused e
cond_not false r refusal y e k = k refl e

-- ---- what is open

stage_of : Spot → Stage
stage_of Between = stage.Between
stage_of Front = stage.Front
stage_of After = stage.After
stage_of Cases = stage.Cases

after_op : (op : Op) → stage_after op ≡ stage_of (spot_after op)
unfolding stage_of
after_op (ops.Phi blocks) = refl
after_op ops.Ret = refl
after_op (ops.Br to) = refl
after_op (ops.CondBr first second) = refl
after_op (ops.Switch other cases to) = refl
after_op ops.Unreachable = refl
after_op _ = refl

begun_is : (p : Position) → begun (stage_of p.spot) p.blocks ≡ (opened p).blocks
unfolding stage_of opened
begun_is p = here p.spot refl where
  here : (s : Spot) → p.spot ≡ s → begun (stage_of s) p.blocks ≡ (cond (is_between s) (record { next = p.next + 1; insts = p.insts; blocks = p.blocks + 1; spot = Front }) p).blocks
  here Between e = refl
  here Front e = refl
  here After e = refl
  here Cases e = refl

may : (s : Spot) (op : Op) → may_stand s op ≡ true → May (stage_of s) op
unfolding stage_of
may Between op e = tt
may Front op e = tt
may After op e = here (is_phi op) e where
  here : (b : Bool) → not b ≡ true → b ≡ false
  here true e = sym e
  here false e = refl
may Cases op e = clash (sym e)

is_open_between : (s : Spot) → is_between s ≡ true → stage.IsBetween (stage_of s)
unfolding stage_of
is_open_between Between e = tt
is_open_between Front e = clash (sym e)
is_open_between After e = clash (sym e)
is_open_between Cases e = clash (sym e)

is_open_cases : (s : Spot) → is_cases s ≡ true → stage.IsCases (stage_of s)
unfolding stage_of
is_open_cases Cases e = tt
is_open_cases Front e = clash (sym e)
is_open_cases After e = clash (sym e)
is_open_cases Between e = clash (sym e)

-- ---- lines

no_call : (p : Position) (op : Op) → is_foreign p op ≡ false → IsCallOp op → ⊥
no_call p (ops.Call site) e c = clash e
no_call p _ e c = c

in_front : (p : Position) (op : Op) → is_foreign p op ≡ false → is_alloca op ≡ true → (opened p).blocks ≡ 1
in_front p (ops.Alloca elem align) e a = eqb-true (opened p).blocks 1 (here (in_first p) e) where
  here : (b : Bool) → not b ≡ false → b ≡ true
  here true e = refl
  here false e = clash e
in_front p _ e a = clash (sym a)

neither : (a b : Bool) → a || b ≡ false → a ≡ false
neither true b e = e
neither false b e = refl

-- a line inside a function that has a form
pub record Inside (form : Line) : Type 0 where
  pub sound : IsSoundLine form
  pub whole : IsCallLine form ⊎ IsWholeLine form

inside_form : (l : List ℕ) (form : Line) → form_in true l ≡ Some form → Inside form
unfolding form_in form_by
inside_form l form e = here (fault_of l) e where
  spelled : Spells l (cut l) form → Inside form
  spelled s = record { sound = sound_line l (cut l) form s; whole = whole_line l (cut l) form s }

  here : (f : Option ℕ) → sound_form f true l ≡ Some form → Inside form
  here None e = spelled (body_spelled l (cut l) form e)
  here (Some k) e = cc

stmt_at : (p : Position) (s : Stmt) → Inside (line.Stmt s) → may_stand p.spot s.op ≡ true → is_foreign p s.op ≡ false → IsStmtAt (stage_of p.spot) p.blocks s
stmt_at p s i m f = record {
  sound = i.sound;
  whole = elim i.whole [ inl c ↦ absurd (no_call p s.op f c) | inr x ↦ x ];
  stands = may p.spot s.op m;
  first = λ a. begun_is p ∙ in_front p s.op f a;
  uncalled = no_call p s.op f;
}

-- ---- functions

some_is : {a b : Line} → Some a ≡ Some b → a ≡ b
some_is e = cc

first_form : {a b : Option Line} {as' bs : List (Option Line)} → a ∷ as' ≡ b ∷ bs → a ≡ b
first_form e = cc

more_forms : {a b : Option Line} {as' bs : List (Option Line)} → a ∷ as' ≡ b ∷ bs → as' ≡ bs
more_forms e = cc

no_form : {P : Type 0} {b : Option Line} {bs : List (Option Line)} → [] ≡ b ∷ bs → P
no_form e = cc

-- one line, and what follows it
grown : (p q : Position) (n : ℕ) (form : Line) (fs : List Line) → Stands (stage_of p.spot) p.blocks form → stage_after_line (stage_of p.spot) form ≡ stage_of q.spot → begun_after (stage_of p.spot) p.blocks form ≡ q.blocks →
    IsBodyFrom (stage_of q.spot) q.blocks (numbered_from (n + 1) fs) → IsBodyFrom (stage_of p.spot) p.blocks (record { line = n; form = form } ∷ numbered_from (n + 1) fs)
grown p q n form fs s e f more =
    (s, subst (λ x. IsBodyFrom x (begun_after (stage_of p.spot) p.blocks form) (numbered_from (n + 1) fs)) (sym e) (subst (λ x. IsBodyFrom (stage_of q.spot) x (numbered_from (n + 1) fs)) (sym f) more))

-- lines that stand where they may from here, and after which a brace may stand
body_from : (names : List (List ℕ)) (n k : ℕ) (p end q : Position) (body : List (List ℕ)) (forms : List Line) → map (form_in true) body ≡ map Some forms → body_lines names n p forms ≡ Ok end → at_close k end ≡ Ok q → IsBodyFrom (stage_of p.spot) p.blocks (numbered_from n forms)
unfolding after_label after_inst after_stmt after_case after_cases at_close stage_of
body_from names n k p end q [] [] e s shut =
    let is : p ≡ end = ok_is s in
    cond_ok (is_between end.spot && not (nat_eq end.blocks 0)) (Ok end) _ q shut (λ both _.
    let parts : (is_between end.spot ≡ true) × (not (nat_eq end.blocks 0) ≡ true) = apart (is_between end.spot) _ both in
    subst (λ (x : Position). IsBodyFrom (stage_of x.spot) x.blocks []) (sym is) (is_open_between end.spot parts.0, some end.blocks parts.1))
  where
    apart : (a b : Bool) → a && b ≡ true → (a ≡ true) × (b ≡ true)
    apart true b e = (refl, e)
    apart false b e = clash (sym e)

    some : (k : ℕ) → not (nat_eq k 0) ≡ true → 0 < k
    some k e = grind (arith, nat_tests)
body_from names n k p end q [] (f ∷ fs) e s shut = no_form e
body_from names n k p end q (l ∷ ls) [] e s shut = no_form (sym e)
body_from names n k p end q (l ∷ ls) (line.Empty ∷ fs) e s shut = body_from names (n + 1) k p end q ls fs (more_forms e) s shut
body_from names n k p end q (l ∷ ls) (line.Kept kept ∷ fs) e s shut = refused s
body_from names n k p end q (l ∷ ls) (line.Define name head ∷ fs) e s shut = refused s
body_from names n k p end q (l ∷ ls) (line.Close ∷ fs) e s shut = refused s
body_from names n k p end q (l ∷ ls) (line.Label name ∷ fs) e s shut =
    bind_ok (after_label n p name) _ end s (λ r was now.
    cond_ok (is_between p.spot) _ _ r was (λ b then'.
    bind_ok (after_name n p.next name) _ r then' (λ next _ is.
    grown p r n (line.Label name) fs (is_open_between p.spot b) (ap (λ (x : Position). stage_of x.spot) (ok_is is)) (ap (λ (x : Position). x.blocks) (ok_is is)) (body_from names (n + 1) k r end q ls fs (more_forms e) now shut))))
body_from names n k p end q (l ∷ ls) (line.Stmt x ∷ fs) e s shut =
    bind_ok (after_inst names n p x) _ end s (λ r was now.
    cond_not (is_outside names p x) _ _ r was (λ b then'.
    cond_ok (may_stand p.spot x.op) _ _ r then' (λ m more.
    bind_ok (after_result n (opened p).next x.result) _ r more (λ next _ is.
    let at : IsStmtAt (stage_of p.spot) p.blocks x = stmt_at p x (inside_form l (line.Stmt x) (first_form e)) m (neither (is_foreign p x.op) _ b) in
    grown p r n (line.Stmt x) fs at (after_op x.op ∙ ap (λ (y : Position). stage_of y.spot) (ok_is is)) (begun_is p ∙ ap (λ (y : Position). y.blocks) (ok_is is)) (body_from names (n + 1) k r end q ls fs (more_forms e) now shut)))))
body_from names n k p end q (l ∷ ls) (line.Case value label ∷ fs) e s shut =
    bind_ok (after_case n p) _ end s (λ r was now.
    cond_ok (is_cases p.spot) (Ok p) _ r was (λ b is.
    let i : Inside (line.Case value label) = inside_form l (line.Case value label) (first_form e) in
    grown p r n (line.Case value label) fs i.sound (ap (λ (x : Position). stage_of x.spot) (ok_is is)) (ap (λ (x : Position). x.blocks) (ok_is is)) (body_from names (n + 1) k r end q ls fs (more_forms e) now shut)))
body_from names n k p end q (l ∷ ls) (line.CasesEnd ∷ fs) e s shut =
    bind_ok (after_cases n p) _ end s (λ r was now.
    cond_ok (is_cases p.spot) _ _ r was (λ b is.
    grown p r n line.CasesEnd fs (is_open_cases p.spot b) (ap (λ (x : Position). stage_of x.spot) (ok_is is)) (ap (λ (x : Position). x.blocks) (ok_is is)) (body_from names (n + 1) k r end q ls fs (more_forms e) now shut)))

pub body_is_read : (names : List (List ℕ)) (n k first : ℕ) (end q : Position) (body : List (List ℕ)) (forms : List Line) → map (form_in true) body ≡ map Some forms → body_lines names n (start first) forms ≡ Ok end → at_close k end ≡ Ok q → IsBody (numbered_from n forms)
unfolding stage_of
body_is_read names n k first end q body forms e s shut = body_from names n k (start first) end q body forms e s shut
