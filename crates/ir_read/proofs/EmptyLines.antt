-- An empty line changes nothing; and lines without a fault, one after the other.
use Rattle.std.proofs.Common.{◌≡◌, ℕ, ◌+◌, ◌==◌, Bool, true, false, List, [], ◌∷◌, length, Option, Some, None, Ok, refl, sym, ◌∙◌, arith, inl, inr}
use Rattle.std.proofs.lemmas.Bool.Decides.{eqb_tells}
use Rattle.ir_lex.specs.Scan.{fault_of, cut}
use Rattle.ir_draft.specs.declared.line.Line.TheVariants as line
use Rattle.ir_line.specs.Body.{read_body}
use Rattle.ir_line.specs.Outside.{read_outside}
use Rattle.ir_read.specs.declared.outlook.Outlook.{Outlook}
use Rattle.ir_read.specs.declared.progress.Done.{Done}
use Rattle.ir_read.specs.declared.progress.Current.{Current}
use Rattle.ir_read.specs.declared.progress.Current.TheVariants as current
use Rattle.ir_read.specs.declared.progress.Progress.{Progress}
use Rattle.ir_read.specs.declared.refusal.ReadRefusal.{ReadRefusal}
use Rattle.ir_read.specs.Faults.{first_fault, or_later}
use Rattle.ir_read.specs.Forms.{form_by, form_in}
use Rattle.ir_read.specs.Outlook.{line_seen}
use Rattle.ir_read.specs.Steps.{is_inside, sound_step, current_step, line_step}
use Rattle.ir_read.proofs.InsideLines.{nothing_more}

-- no bytes are an empty line, in a function and outside
empty_form : (inside : Bool) → form_in inside [] ≡ Some line.Empty
unfolding form_in form_by read_body read_outside cut
empty_form true = refl
empty_form false = refl

empty_at : (known : Outlook) (n : ℕ) (ls : List (List ℕ)) (done : Done) (c : Current) → current_step known n ls done c (Some line.Empty) ≡ Ok (record { done = done; current = c })
unfolding sound_step
empty_at known n ls done current.Outside = refl
empty_at known n ls done (current.Sound name o) = refl
empty_at known n ls done (current.Misplaced f) = refl
empty_at known n ls done (current.Opaque from) = refl

by_length : (P : List ℕ → Type 0) (l : List ℕ) → P [] → (length l == 0) ≡ true → P l
by_length P [] h e = h
by_length P (b ∷ bs) h e = elim (eqb_tells (length (b ∷ bs)) 0) [ inl t ↦ absurd (let z = t.1 in omega arith) | inr f ↦ absurd (let z = sym e ∙ f.0 in true_false z) ] where
  true_false : true ≡ false → ⊥
  true_false e = cc

-- so it gives nothing to what is known of the text
pub empty_seen : (o : Outlook) (n : ℕ) (inside : Bool) (l : List ℕ) → inside ≡ false → (length l == 0) ≡ true → line_seen o n inside l ≡ Ok (o, false)
empty_seen o n inside l out e =
    by_length (λ x. line_seen o n inside x ≡ Ok (o, false)) l (rw (out, empty_form false, nothing_more o) refl) e

-- and leaves what is read as it is
pub empty_judged : (known : Outlook) (n : ℕ) (ls : List (List ℕ)) (read : Progress) (l : List ℕ) → (length l == 0) ≡ true → line_step known n ls read (form_in (is_inside read.current) l) ≡ Ok read
empty_judged known n ls read l e =
    by_length (λ x. line_step known n ls read (form_in (is_inside read.current) x) ≡ Ok read) l (rw (empty_form (is_inside read.current), empty_at known n ls read.done read.current) refl) e

none_first : (n : ℕ) (f : Option ℕ) (later : Option ReadRefusal) → or_later n f later ≡ None → (f ≡ None) × (later ≡ None)
none_first n None later e = (refl, e)
none_first n (Some k) later e = cc

-- the first of lines without a fault has none, nor have the others
pub sound_lines : (n : ℕ) (all ls : List (List ℕ)) (l : List ℕ) → all ≡ l ∷ ls → first_fault n all ≡ None → (fault_of l ≡ None) × (first_fault (n + 1) ls ≡ None)
sound_lines n all ls l e h = none_first n (fault_of l) (first_fault (n + 1) ls) (rw e at h)
