-- The lines of an opaque function: what their forms are, in its own text and in a text around it.
use Rattle.std.proofs.Common.{◌≡◌, ℕ, zero, suc, ◌+◌, ◌-◌, ◌==◌, ◌||◌, ◌&&◌, not, Bool, true, false, cond, List, [], ◌∷◌, ◌++◌, length, map, take, drop, Option, Some, None, refl, sym, ◌∙◌, ap, subst, append_assoc, arith}
use Rattle.std.proofs.lemmas.Bool.Decides.{nat_tests}
use Rattle.std.proofs.lemmas.List.{append-nil, map-append}
use Rattle.std.specs.List.{All, list_all}
use Rattle.std.proofs.lemmas.List.Elements.{All-nil, All-cons, All-head, All-tail}
use Rattle.ir_lex.specs.Scan.{cut, fault_of}
use Rattle.ir_lex.proofs.Classes.{both, neither}
use Rattle.ir_draft.specs.declared.head.Head.{Head}
use Rattle.ir_draft.specs.declared.line.Line.{Line}
use Rattle.ir_draft.specs.declared.line.Line.TheVariants as line
use Rattle.ir_line.specs.Body.{read_body}
use Rattle.ir_read.specs.Forms.{form_in, form_by, inside_after, forms_from, forms_of}
use Rattle.ir_read.specs.declared.refusal.ReadRefusal.{ReadRefusal}
use Rattle.ir_read.specs.Faults as faults
use Rattle.ir_read.specs.Faults.{first_fault}
use Rattle.ir_read.specs.Lines.{lines_of, begins_feed, onto}
use Rattle.ir_read.specs.Opaque.{passed_over, is_foreign_line, any_foreign, is_headless, is_opaque, to_brace, joined, text_at}
use Rattle.ir_read.specs.Position.{start}
use Rattle.ir_read.proofs.Placing.{Place, Known}
use Rattle.rf_text.specs.LinesOf.{stays_in_line, is_line}
use Rattle.rf_text.specs.LinesOf as feeds
use Rattle.rf_text.specs.OpaqueText.{opaque_forms, name_in, opaque_name, opaque_in, IsOpaqueText}
use Rattle.rf_text.proofs.Kept.Lines.{sound_line}
use Rattle.rf_text.proofs.Splitting.{line_first}

abbrev pub IsNoBrace : Option Line → Type 0
IsNoBrace f = f ≡ Some line.Close → ⊥

no_brace : {P : Type 0} → IsNoBrace (Some line.Close) → P
no_brace h = absurd (h refl)

-- ---- forms in a function

pub stays_inside : (f : Option Line) → IsNoBrace f → inside_after true f ≡ true
stays_inside None h = refl
stays_inside (Some line.Close) h = no_brace h
stays_inside (Some (line.Define name head)) h = refl
stays_inside (Some line.Empty) h = refl
stays_inside (Some (line.Kept kept)) h = refl
stays_inside (Some (line.Label name)) h = refl
stays_inside (Some (line.Stmt s)) h = refl
stays_inside (Some (line.Case value label)) h = refl
stays_inside (Some line.CasesEnd) h = refl

abbrev pub IsBodyLine : List ℕ → Type 0
IsBodyLine l = form_in true l ≡ Some line.Close → ⊥

-- the forms of the lines of a function after its header, its brace, and the lines after that
pub inside_forms : (body : List (List ℕ)) (brace : List ℕ) (ls : List (List ℕ)) → All IsBodyLine body → form_in true brace ≡ Some line.Close → forms_from true (body ++ brace ∷ ls) ≡ map (form_in true) body ++ Some line.Close ∷ forms_from false ls
inside_forms [] brace ls all e = ap (λ f. f ∷ forms_from (inside_after true f) ls) e
inside_forms (l ∷ body) brace ls all e =
    ap (λ b. form_in true l ∷ forms_from b (body ++ brace ∷ ls)) (stays_inside (form_in true l) (All-head IsBodyLine l body all))
    ∙ ap (λ fs. form_in true l ∷ fs) (inside_forms body brace ls (All-tail IsBodyLine l body all) e)

-- of a whole function
pub function_forms : (l : List ℕ) (name : Option (List ℕ)) (head : Option Head) (body : List (List ℕ)) (brace : List ℕ) (ls : List (List ℕ)) → form_in false l ≡ Some (line.Define name head) → All IsBodyLine body → form_in true brace ≡ Some line.Close →
    forms_from false (l ∷ (body ++ brace ∷ ls)) ≡ Some (line.Define name head) ∷ (map (form_in true) body ++ Some line.Close ∷ forms_from false ls)
function_forms l name head body brace ls is all e =
    ap (λ f. f ∷ forms_from (inside_after false f) (body ++ brace ∷ ls)) is ∙ ap (λ fs. Some (line.Define name head) ∷ fs) (inside_forms body brace ls all e)

pub no_braces : (body : List (List ℕ)) → All IsBodyLine body → All IsNoBrace (map (form_in true) body)
no_braces [] all = All-nil IsNoBrace
no_braces (l ∷ body) all = All-cons IsNoBrace (form_in true l) (map (form_in true) body) (All-head IsBodyLine l body all) (no_braces body (All-tail IsBodyLine l body all))

-- ---- what comes after the brace does not matter

foreign_free : (names : List (List ℕ)) (p : Place) (fs rest more : List (Option Line)) → any_foreign names p (fs ++ Some line.Close ∷ rest) ≡ any_foreign names p (fs ++ Some line.Close ∷ more)
foreign_free names p [] rest more = refl
foreign_free names p (None ∷ fs) rest more = refl
foreign_free names p (Some line.Close ∷ fs) rest more = refl
foreign_free names p (Some line.Empty ∷ fs) rest more = ap (λ b. is_foreign_line names p line.Empty || b) (foreign_free names (passed_over p line.Empty) fs rest more)
foreign_free names p (Some (line.Kept kept) ∷ fs) rest more = ap (λ b. is_foreign_line names p (line.Kept kept) || b) (foreign_free names (passed_over p (line.Kept kept)) fs rest more)
foreign_free names p (Some (line.Define name head) ∷ fs) rest more = ap (λ b. is_foreign_line names p (line.Define name head) || b) (foreign_free names (passed_over p (line.Define name head)) fs rest more)
foreign_free names p (Some (line.Label name) ∷ fs) rest more = ap (λ b. is_foreign_line names p (line.Label name) || b) (foreign_free names (passed_over p (line.Label name)) fs rest more)
foreign_free names p (Some (line.Stmt s) ∷ fs) rest more = ap (λ b. is_foreign_line names p (line.Stmt s) || b) (foreign_free names (passed_over p (line.Stmt s)) fs rest more)
foreign_free names p (Some (line.Case value label) ∷ fs) rest more = ap (λ b. is_foreign_line names p (line.Case value label) || b) (foreign_free names (passed_over p (line.Case value label)) fs rest more)
foreign_free names p (Some line.CasesEnd ∷ fs) rest more = ap (λ b. is_foreign_line names p line.CasesEnd || b) (foreign_free names (passed_over p line.CasesEnd) fs rest more)

pub opaque_free : (known : Known) (head : Option Head) (fs rest more : List (Option Line)) → is_opaque known head (fs ++ Some line.Close ∷ rest) ≡ is_opaque known head (fs ++ Some line.Close ∷ more)
unfolding is_opaque
opaque_free known head fs rest more = ap (λ b. known.other_pointers || is_headless head || b) (foreign_free known.names (start 0) fs rest more)

brace_at : (fs rest : List (Option Line)) → All IsNoBrace fs → to_brace (fs ++ Some line.Close ∷ rest) ≡ suc (length fs)
brace_at [] rest all = refl
brace_at (None ∷ fs) rest all = ap suc (brace_at fs rest (All-tail IsNoBrace None fs all))
brace_at (Some line.Close ∷ fs) rest all = no_brace (All-head IsNoBrace (Some line.Close) fs all)
brace_at (Some line.Empty ∷ fs) rest all = ap suc (brace_at fs rest (All-tail IsNoBrace (Some line.Empty) fs all))
brace_at (Some (line.Kept kept) ∷ fs) rest all = ap suc (brace_at fs rest (All-tail IsNoBrace (Some (line.Kept kept)) fs all))
brace_at (Some (line.Define name head) ∷ fs) rest all = ap suc (brace_at fs rest (All-tail IsNoBrace (Some (line.Define name head)) fs all))
brace_at (Some (line.Label name) ∷ fs) rest all = ap suc (brace_at fs rest (All-tail IsNoBrace (Some (line.Label name)) fs all))
brace_at (Some (line.Stmt s) ∷ fs) rest all = ap suc (brace_at fs rest (All-tail IsNoBrace (Some (line.Stmt s)) fs all))
brace_at (Some (line.Case value label) ∷ fs) rest all = ap suc (brace_at fs rest (All-tail IsNoBrace (Some (line.Case value label)) fs all))
brace_at (Some line.CasesEnd ∷ fs) rest all = ap suc (brace_at fs rest (All-tail IsNoBrace (Some line.CasesEnd) fs all))

pub map_length : {X Y : Type 0} (g : X → Y) (xs : List X) → length (map g xs) ≡ length xs
map_length g [] = refl
map_length g (x ∷ xs) = ap suc (map_length g xs)

take_front : {X : Type 0} (xs : List X) (x : X) (ys : List X) → take (suc (length xs)) (xs ++ x ∷ ys) ≡ xs ++ x ∷ []
take_front [] x ys = refl
take_front (y ∷ xs) x ys = ap (λ zs. y ∷ zs) (take_front xs x ys)

-- the text that is kept of a function
pub text_is : (all : List (List ℕ)) (n : ℕ) (l : List ℕ) (body : List (List ℕ)) (brace : List ℕ) (ls : List (List ℕ)) (rest : List (Option Line)) → drop (n - 1) all ≡ l ∷ (body ++ brace ∷ ls) → All IsBodyLine body →
    text_at all n (map (form_in true) body ++ Some line.Close ∷ rest) ≡ joined (l ∷ (body ++ brace ∷ []))
unfolding text_at
text_is all n l body brace ls rest whole inside =
    ap (λ k. joined (take (suc k) (drop (n - 1) all))) (brace_at (map (form_in true) body) rest (no_braces body inside) ∙ ap suc (map_length (form_in true) body))
    ∙ ap (λ xs. joined (take (suc (suc (length body))) xs)) whole
    ∙ ap (λ xs. joined (l ∷ xs)) (take_front body brace ls)

-- ---- lines with feeds between them

last_byte : (b : ℕ) (ls : List (List ℕ)) (l : List ℕ) → stays_in_line b ≡ true → cond (b == 10) ([] ∷ ls) (cond (b == 13 && begins_feed l) ls (onto b ls)) ≡ onto b ls
last_byte b ls l h =
    let byte : (b == 10) || (b == 13) ≡ false = no_from _ h in
    let feed : (b == 10) ≡ false = (neither _ _ byte).0 in
    let back : (b == 13) ≡ false = (neither (b == 10) _ byte).1 in
    rw (feed, back) refl
  where
    no_from : (b : Bool) → not b ≡ true → b ≡ false
    no_from true h = cc
    no_from false h = refl

last_line : (b : ℕ) (l : List ℕ) → is_line (b ∷ l) ≡ true → lines_of (b ∷ l) ≡ (b ∷ l) ∷ []
last_line b [] h = last_byte b (lines_of []) [] (both (stays_in_line b) _ h).0
last_line b (c ∷ l) h = last_byte b (lines_of (c ∷ l)) (c ∷ l) (both (stays_in_line b) _ h).0 ∙ ap (onto b) (last_line c l (both (stays_in_line b) _ h).1)

abbrev pub HasByte : List ℕ → Type 0
HasByte [] = ⊥
HasByte (b ∷ bs) = Unit {0}

-- lines with feeds between them are these lines again, where the last is not empty
pub joined_lines : (ls : List (List ℕ)) (l : List ℕ) → All (λ l. is_line l ≡ true) (ls ++ l ∷ []) → HasByte l → lines_of (joined (ls ++ l ∷ [])) ≡ ls ++ l ∷ []
joined_lines [] [] all some = absurd some
joined_lines [] (b ∷ l) all some = ap lines_of (append-nil (b ∷ l)) ∙ last_line b l (All-head (λ l. is_line l ≡ true) (b ∷ l) [] all)
joined_lines (k ∷ []) l all some = line_first k (joined (l ∷ [])) (All-head (λ l. is_line l ≡ true) k (l ∷ []) all) ∙ ap (λ xs. k ∷ xs) (joined_lines [] l (All-tail (λ l. is_line l ≡ true) k (l ∷ []) all) some)
joined_lines (k ∷ j ∷ ls) l all some =
    line_first k (joined (j ∷ (ls ++ l ∷ []))) (All-head (λ l. is_line l ≡ true) k (j ∷ (ls ++ l ∷ [])) all)
    ∙ ap (λ xs. k ∷ xs) (joined_lines (j ∷ ls) l (All-tail (λ l. is_line l ≡ true) k (j ∷ (ls ++ l ∷ [])) all) some)

-- with a feed at the end, each has one
pub joined_feeds : (l : List ℕ) (ls : List (List ℕ)) → joined (l ∷ ls) ++ 10 ∷ [] ≡ feeds.joined (l ∷ ls)
joined_feeds l [] = ap (λ bs. bs ++ 10 ∷ []) (append-nil l)
joined_feeds l (m ∷ ls) = append_assoc l (10 ∷ joined (m ∷ ls)) (10 ∷ []) ∙ ap (λ bs. l ++ 10 ∷ bs) (joined_feeds m ls)

-- ---- the text of a function

empty_form : form_in true [] ≡ Some line.Empty
unfolding form_in form_by read_body cut
empty_form = refl

empty_no_brace : form_in true [] ≡ Some line.Close → ⊥
empty_no_brace e = no_close (sym empty_form ∙ e) where
  no_close : Some line.Empty ≡ Some line.Close → ⊥
  no_close e = cc

has_byte : (l : List ℕ) → form_in true l ≡ Some line.Close → HasByte l
has_byte [] e = empty_no_brace e
has_byte (b ∷ l) e = tt

abbrev pub IsOfLine : List ℕ → Type 0
IsOfLine l = is_line l ≡ true

all_lines : (ls : List (List ℕ)) → All (λ l. fault_of l ≡ None) ls → All IsOfLine ls
all_lines [] all = All-nil IsOfLine
all_lines (l ∷ ls) all = All-cons IsOfLine l ls (sound_line l (All-head (λ l. fault_of l ≡ None) l ls all)) (all_lines ls (All-tail (λ l. fault_of l ≡ None) l ls all))

pub text_lines : (l : List ℕ) (body : List (List ℕ)) (brace : List ℕ) → All (λ l. fault_of l ≡ None) (l ∷ (body ++ brace ∷ [])) → form_in true brace ≡ Some line.Close → lines_of (joined (l ∷ (body ++ brace ∷ []))) ≡ l ∷ (body ++ brace ∷ [])
text_lines l body brace sound e = joined_lines (l ∷ body) brace (all_lines (l ∷ (body ++ brace ∷ [])) sound) (has_byte brace e)

pub text_forms : (l : List ℕ) (name : Option (List ℕ)) (head : Option Head) (body : List (List ℕ)) (brace : List ℕ) → All (λ l. fault_of l ≡ None) (l ∷ (body ++ brace ∷ [])) → form_in false l ≡ Some (line.Define name head) → All IsBodyLine body → form_in true brace ≡ Some line.Close →
    opaque_forms (joined (l ∷ (body ++ brace ∷ []))) ≡ Some (line.Define name head) ∷ (map (form_in true) body ++ Some line.Close ∷ [])
text_forms l name head body brace sound is inside e = ap forms_of (text_lines l body brace sound e) ∙ function_forms l name head body brace [] is inside e

pub text_is_opaque : (l : List ℕ) (name : Option (List ℕ)) (head : Option Head) (body : List (List ℕ)) (brace : List ℕ) → All (λ l. fault_of l ≡ None) (l ∷ (body ++ brace ∷ [])) → form_in false l ≡ Some (line.Define name head) → All IsBodyLine body → form_in true brace ≡ Some line.Close →
    IsOpaqueText (joined (l ∷ (body ++ brace ∷ [])))
text_is_opaque l name head body brace sound is inside e = record {
  whole = ap joined (sym (text_lines l body brace sound e));
  sound = subst (All (λ l. fault_of l ≡ None)) (sym (text_lines l body brace sound e)) sound;
  name = name;
  head = head;
  body = map (form_in true) body;
  forms = text_forms l name head body brace sound is inside e;
  inside = no_braces body inside;
}

-- the parts of the text of a function, as lines
pub record Parts (text : List ℕ) : Type 0 where
  pub first : List ℕ
  pub name : Option (List ℕ)
  pub head : Option Head
  pub body : List (List ℕ)
  pub last : List ℕ
  pub lines : lines_of text ≡ first ∷ (body ++ last ∷ [])
  pub header : form_in false first ≡ Some (line.Define name head)
  pub inside : All IsBodyLine body
  pub brace : form_in true last ≡ Some line.Close

first_form : {a b : Option Line} {as' bs : List (Option Line)} → a ∷ as' ≡ b ∷ bs → a ≡ b
first_form e = cc

more_forms : {a b : Option Line} {as' bs : List (Option Line)} → a ∷ as' ≡ b ∷ bs → as' ≡ bs
more_forms e = cc

no_form : {P : Type 0} {b : Option Line} {bs : List (Option Line)} → [] ≡ b ∷ bs → P
no_form e = cc

record Inside (ls : List (List ℕ)) : Type 0 where
  body : List (List ℕ)
  last : List ℕ
  lines : ls ≡ body ++ last ∷ []
  inside : All IsBodyLine body
  brace : form_in true last ≡ Some line.Close

inside_parts : (ls : List (List ℕ)) (fs : List (Option Line)) → forms_from true ls ≡ fs ++ Some line.Close ∷ [] → All IsNoBrace fs → Inside ls
inside_parts [] [] e all = no_form e
inside_parts [] (f ∷ fs) e all = no_form e
inside_parts (l ∷ ls) [] e all =
    let is : form_in true l ≡ Some line.Close = first_form e in
    record { body = []; last = l; lines = ap (λ xs. l ∷ xs) (none ls (ap (λ f. forms_from (inside_after true f) ls) (sym is) ∙ more_forms e)); inside = All-nil IsBodyLine; brace = is } where
      none : (ls : List (List ℕ)) → forms_from false ls ≡ [] → ls ≡ []
      none [] e = refl
      none (l ∷ ls) e = no_form (sym e)
inside_parts (l ∷ ls) (f ∷ fs) e all =
    let is : form_in true l ≡ f = first_form e in
    let free : IsNoBrace f = All-head IsNoBrace f fs all in
    let r : Inside ls = inside_parts ls fs (ap (λ b. forms_from b ls) (sym (ap (inside_after true) is ∙ stays_inside f free)) ∙ more_forms e) (All-tail IsNoBrace f fs all) in
    record { body = l ∷ r.body; last = r.last; lines = ap (λ xs. l ∷ xs) r.lines; inside = All-cons IsBodyLine l r.body (λ c. free (sym is ∙ c)) r.inside; brace = r.brace }

pub parts_of : (text : List ℕ) → IsOpaqueText text → Parts text
parts_of text is = go (lines_of text) refl is.forms where
  go : (ls : List (List ℕ)) → lines_of text ≡ ls → forms_from false ls ≡ Some (line.Define is.name is.head) ∷ (is.body ++ Some line.Close ∷ []) → Parts text
  go [] whole e = no_form e
  go (l ∷ ls) whole e =
      let header : form_in false l ≡ Some (line.Define is.name is.head) = first_form e in
      let r : Inside ls = inside_parts ls is.body (ap (λ f. forms_from (inside_after false f) ls) (sym header) ∙ more_forms e) is.inside in
      record { first = l; name = is.name; head = is.head; body = r.body; last = r.last; lines = whole ∙ ap (λ xs. l ∷ xs) r.lines; header = header; inside = r.inside; brace = r.brace }

-- ---- lines without a lexical fault

abbrev pub IsSound : List ℕ → Type 0
IsSound l = fault_of l ≡ None

refused : {P : Type 0} {x : ReadRefusal} → Some x ≡ None → P
refused e = cc

pub faultless : (n : ℕ) (ls : List (List ℕ)) → first_fault n ls ≡ None → All IsSound ls
faultless n [] e = All-nil IsSound
faultless n (l ∷ ls) e = go (fault_of l) refl e (λ h. faultless (n + 1) ls h) where
  go : (f : Option ℕ) → fault_of l ≡ f → faults.or_later n f (first_fault (n + 1) ls) ≡ None → (first_fault (n + 1) ls ≡ None → All IsSound ls) → All IsSound (l ∷ ls)
  go None f e more = All-cons IsSound l ls f (more e)
  go (Some k) f e more = refused e

sound_front : (xs ys : List (List ℕ)) → All IsSound (xs ++ ys) → All IsSound xs
sound_front [] ys all = All-nil IsSound
sound_front (x ∷ xs) ys all = All-cons IsSound x xs (All-head IsSound x (xs ++ ys) all) (sound_front xs ys (All-tail IsSound x (xs ++ ys) all))

sound_back : (xs ys : List (List ℕ)) → All IsSound (xs ++ ys) → All IsSound ys
sound_back [] ys all = all
sound_back (x ∷ xs) ys all = sound_back xs ys (All-tail IsSound x (xs ++ ys) all)

-- a header, lines and a brace, in front of others
pub record Whole (l : List ℕ) (body : List (List ℕ)) (brace : List ℕ) (ls : List (List ℕ)) : Type 0 where
  pub header : IsSound l
  pub body' : All IsSound body
  pub last : IsSound brace
  pub rest : All IsSound ls
  pub own : All IsSound (l ∷ (body ++ brace ∷ []))

pub whole_sound : (l : List ℕ) (body : List (List ℕ)) (brace : List ℕ) (ls : List (List ℕ)) → All IsSound (l ∷ (body ++ brace ∷ ls)) → Whole l body brace ls
whole_sound l body brace ls all =
    let one : IsSound l = All-head IsSound l (body ++ brace ∷ ls) all in
    let more : All IsSound (body ++ brace ∷ ls) = All-tail IsSound l (body ++ brace ∷ ls) all in
    let back : All IsSound (brace ∷ ls) = sound_back body (brace ∷ ls) more in
    record {
      header = one;
      body' = sound_front body (brace ∷ ls) more;
      last = All-head IsSound brace ls back;
      rest = All-tail IsSound brace ls back;
      own = All-cons IsSound l (body ++ brace ∷ []) one (sound_front (body ++ brace ∷ []) ls (subst (All IsSound) (sym (append_assoc body (brace ∷ []) ls)) more));
    }
