-- A kept line without the spaces at its end is kept as the same.
use Rattle.std.proofs.Common.{◌≡◌, ℕ, not, Bool, true, false, List, [], ◌∷◌, ◌++◌, Option, Some, None, refl, sym, ◌∙◌, ap, subst, arith}
use Rattle.std.proofs.lemmas.Bool.Decides.{nat_tests}
use Rattle.std.specs.List.{list_all}
use Rattle.ir_lex.specs.Bytes.{is_control}
use Rattle.ir_lex.specs.Scan.{cut, texts, fault_of}
use Rattle.ir_lex.specs.Words.{words}
use Rattle.ir_lex.specs.declared.list.Token.{Token}
use Rattle.ir_lex.proofs.Classes.{both}
use Rattle.ir_lex.proofs.Laws.{words_of_line}
use Rattle.ir_lex.proofs.Standing.{Shorter, without_spaces, no_controls}
use Rattle.ir_draft.specs.declared.line.Line.{Line}
use Rattle.ir_draft.specs.declared.line.Line.TheVariants as line
use Rattle.ir_draft.specs.declared.kept.Kept.{Kept}
use Rattle.ir_line.specs.Keeping.{trimmed, kept_of}
use Rattle.ir_line.specs.Outside.{Spells, KeptLine}
use Rattle.ir_line.proofs.OutsideLines.{outside_spelled, outside_read}
use Rattle.ir_read.specs.Forms.{form_in, form_by, sound_form}
use Rattle.rf_text.specs.LinesOf.{stays_in_line, is_line}
use Rattle.rf_text.proofs.Trimmed.{Trimmed, trimmed_is}

nothing : {P : Type 0} {l : Line} → None ≡ Some l → P
nothing e = cc

-- a line that has a form has no fault, and its form is that of its tokens
pub record Formed (inside : Bool) (l : List ℕ) (form : Line) : Type 0 where
  pub sound : fault_of l ≡ None
  pub read : form_by inside l (cut l) ≡ Some form

pub formed : (inside : Bool) (l : List ℕ) (form : Line) → form_in inside l ≡ Some form → Formed inside l form
unfolding form_in
formed inside l form e = here (fault_of l) refl e where
  here : (f : Option ℕ) → fault_of l ≡ f → sound_form f inside l ≡ Some form → Formed inside l form
  here None none e = record { sound = none; read = e }
  here (Some k) some e = nothing e

pub has_form : (inside : Bool) (l : List ℕ) (form : Line) → Formed inside l form → form_in inside l ≡ Some form
unfolding form_in
has_form inside l form f = ap (λ (x : Option ℕ). sound_form x inside l) f.sound ∙ f.read

kept_text : {l : List ℕ} {ts : List Token} {kept : Kept} → Spells l ts (line.Kept kept) → kept.text ≡ trimmed l
kept_text (KeptLine k) = refl

-- a line of the same words that is trimmed to the same is kept as the same
same_kept : (l part : List ℕ) (ts us : List Token) (kept : Kept) → words part us ≡ words l ts → trimmed part ≡ trimmed l → Spells l ts (line.Kept kept) → Spells part us (line.Kept kept)
same_kept l part ts us kept same trim (KeptLine k) =
    let is : kept_of part (words part us) ≡ kept_of l (words l ts) = ap (kept_of part) same ∙ rw trim refl in
    subst (λ (x : Kept). Spells part us (line.Kept x)) is (KeptLine (rw same k))

pub kept_again : (l : List ℕ) (kept : Kept) → form_in false l ≡ Some (line.Kept kept) → form_in false kept.text ≡ Some (line.Kept kept)
unfolding form_by
kept_again l kept e =
    let f : Formed false l (line.Kept kept) = formed false l (line.Kept kept) e in
    let t : Trimmed l = trimmed_is l in
    let sound : fault_of (trimmed l ++ t.spaces) ≡ None = subst (λ (x : List ℕ). fault_of x ≡ None) t.whole f.sound in
    let shorter : Shorter l (trimmed l) = subst (λ (x : List ℕ). Shorter x (trimmed l)) (sym t.whole) (without_spaces (trimmed l) t.spaces sound t.all) in
    let spelled : Spells l (cut l) (line.Kept kept) = outside_spelled l (cut l) (line.Kept kept) f.read in
    let again : Spells (trimmed l) (cut (trimmed l)) (line.Kept kept) = same_kept l (trimmed l) (cut l) (cut (trimmed l)) kept shorter.same t.once spelled in
    subst (λ (x : List ℕ). form_in false x ≡ Some (line.Kept kept)) (sym (kept_text spelled))
    (has_form false (trimmed l) (line.Kept kept) (record { sound = shorter.sound; read = outside_read (trimmed l) (cut (trimmed l)) again }))

-- what is read of a kept line, by its words
pub kept_is : (l : List ℕ) (kept : Kept) → form_in false l ≡ Some (line.Kept kept) → kept ≡ kept_of l (texts l)
unfolding form_by
kept_is l kept e = here (outside_spelled l (cut l) (line.Kept kept) (formed false l (line.Kept kept) e).read) where
  here : {kept : Kept} → Spells l (cut l) (line.Kept kept) → kept ≡ kept_of l (texts l)
  here (KeptLine k) = ap (kept_of l) (words_of_line l)

pub kept_by_text : (l : List ℕ) (kept : Kept) → form_in false l ≡ Some (line.Kept kept) → kept ≡ kept_of kept.text (texts kept.text)
kept_by_text l kept e = kept_is kept.text kept (kept_again l kept e)

-- no control byte ends a line
stays : (b : ℕ) → not (is_control b) ≡ true → stays_in_line b ≡ true
unfolding is_control
stays b h = grind (arith, nat_tests)

all_stay : (l : List ℕ) → list_all (λ b. not (is_control b)) l ≡ true → is_line l ≡ true
all_stay [] h = refl
all_stay (b ∷ bs) h = rw (stays b (both _ _ h).0) (all_stay bs (both (not (is_control b)) _ h).1)

-- a line without a fault is one line
pub sound_line : (l : List ℕ) → fault_of l ≡ None → is_line l ≡ true
sound_line l h = all_stay l (no_controls l h)

pub form_line : (inside : Bool) (l : List ℕ) (form : Line) → form_in inside l ≡ Some form → is_line l ≡ true
form_line inside l form e = sound_line l (formed inside l form e).sound
