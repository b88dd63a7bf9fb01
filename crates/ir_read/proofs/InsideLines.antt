-- Lines inside functions: none is a header or a kept line, so none gives anything to what is known of the whole text; and a brace
-- alone ends the function, as no other line does.
use Rattle.std.proofs.Common.{◌≡◌, ℕ, Bool, true, false, cond, not, ◌||◌, List, [], ◌∷◌, Option, Some, None, Result, Ok, Err, refl, sym, ◌∙◌, ap, subst}
use Rattle.ir_lex.specs.declared.list.Token.{Token}
use Rattle.ir_lex.specs.Scan.{fault_of, cut}
use Rattle.ir_lex.specs.Tokens.{Lexed}
use Rattle.ir_lex.specs.Words.{words}
use Rattle.ir_draft.specs.declared.line.Line.{Line}
use Rattle.ir_draft.specs.declared.line.Line.TheVariants as line
use Rattle.ir_forms.specs.Forms.{Form, Label, line_of}
use Rattle.ir_line.specs.Sound.{IsCallLine}
use Rattle.ir_line.specs.Body.{Spells, NoWord, Brace, Formed, Called, unattached, is_brace, read_form, read_body}
use Rattle.ir_line.proofs.BodyLines.{body_spelled}
use Rattle.ir_line.proofs.SoundLines.{call_is}
use Rattle.ir_read.specs.declared.outlook.Outlook.{Outlook}
use Rattle.ir_read.specs.declared.refusal.ReadRefusal.{ReadRefusal}
use Rattle.ir_read.specs.declared.refusal.ReadRefusal.TheVariants.{OutOfMemory, Lex, NotALine, Misplaced, Limit}
use Rattle.ir_read.specs.Answers.{Gives, Refuses}
use Rattle.ir_read.specs.Faults.{fault_at, unless}
use Rattle.ir_read.specs.Forms.{form_by, form_in, sound_form, inside_after}
use Rattle.ir_read.specs.Outlook.{with_line, line_seen}
use Rattle.ir_read.proofs.LineForms.{form_of_tokens, without_fault}

clash : {P : Type 0} → true ≡ false → P
clash e = cc

-- a line that is no header, no kept line and no brace
abbrev IsPlain : Line → Type 0
IsPlain (line.Kept kept) = ⊥
IsPlain (line.Define name head) = ⊥
IsPlain line.Close = ⊥
IsPlain _ = Unit {0}

formed : (f : Form) → IsPlain (line_of f)
formed (Label name) = tt
formed _ = tt

called : (l : Line) → IsCallLine l → IsPlain l
called (line.Stmt s) c = tt
called _ c = absurd c

plain : (l : List ℕ) (ts : List Token) (form : Line) → Spells l ts form → is_brace (words l ts) ≡ false → IsPlain form
plain l ts form s e = here s where
  here : {form : Line} → Spells l ts form → IsPlain form
  here (NoWord none) = tt
  here (Brace brace) = clash (sym (ap is_brace brace) ∙ e)
  here (Formed f ascii spelled) = formed f
  here (Called form ascii spelled) = called form (call_is l (unattached l ts) form spelled)

nor_false : (b : Bool) → b || false ≡ b
nor_false true = refl
nor_false false = refl

pub nothing_more : (o : Outlook) → record { names = o.names; other_pointers = o.other_pointers || false } ≡ o
nothing_more o = rw (nor_false o.other_pointers) refl

unseen : (o : Outlook) (form : Line) → IsPlain form → with_line o (Some form) ≡ o
unseen o (line.Kept kept) p = absurd p
unseen o (line.Define name head) p = absurd p
unseen o line.Close p = absurd p
unseen o _ p = nothing_more o

stays : (form : Line) → IsPlain form → inside_after true (Some form) ≡ true
stays (line.Kept kept) p = absurd p
stays (line.Define name head) p = absurd p
stays line.Close p = absurd p
stays _ p = refl

closes : (l : List ℕ) (ts : List Token) → is_brace (words l ts) ≡ true → read_body l ts ≡ Some line.Close
unfolding read_body
closes l [] e = clash (sym e)
closes l (t ∷ ts) e = ap (λ brace. cond brace (Some line.Close) (read_form l (t ∷ ts))) e

-- the form of a line inside a function gives nothing, and the next line stands in the function too unless this one is a brace alone
inner : (o : Outlook) (l : List ℕ) (ts : List Token) → (with_line o (read_body l ts) ≡ o) × (inside_after true (read_body l ts) ≡ not (is_brace (words l ts)))
inner o l ts = here (is_brace (words l ts)) (read_body l ts) refl refl where
  here : (brace : Bool) (form : Option Line) → is_brace (words l ts) ≡ brace → read_body l ts ≡ form → (with_line o form ≡ o) × (inside_after true form ≡ not brace)
  here true form eb ef =
      let close : Some line.Close ≡ form = sym (closes l ts eb) ∙ ef in
      subst (λ (f : Option Line). (with_line o f ≡ o) × (inside_after true f ≡ false)) close (nothing_more o, refl)
  here false None eb ef = (nothing_more o, refl)
  here false (Some form) eb ef = let p : IsPlain form = plain l ts form (body_spelled l ts form ef) eb in (unseen o form p, stays form p)

-- a line inside a function gives nothing
pub unchanged : (o : Outlook) (l : List ℕ) → with_line o (form_in true l) ≡ o
unfolding form_in form_by
unchanged o l = here (fault_of l) where
  here : (fault : Option ℕ) → with_line o (sound_form fault true l) ≡ o
  here None = (inner o l (cut l)).0
  here (Some k) = nothing_more o

-- the line after one with these tokens, which is in a function, stands in it unless they are a brace alone
pub goes_on : (n : ℕ) (l : List ℕ) (ts : List Token) → Lexed l ts → unless (fault_at n l) (inside_after true (form_in true l)) ≡ Ok (not (is_brace (words l ts)))
unfolding form_by
goes_on n l ts lexed =
    let form : read_body l ts ≡ form_in true l = form_of_tokens true l ts lexed in
    let next : inside_after true (form_in true l) ≡ not (is_brace (words l ts)) = ap (inside_after true) (sym form) ∙ (inner record { names = []; other_pointers = false } l ts).1 in
    without_fault n l ts (inside_after true (form_in true l)) lexed ∙ ap Ok next

-- what is known after a line inside a function, by whether the next one stands there too
pub seen_inside : (o : Outlook) (n : ℕ) (l : List ℕ) (said : Result Bool ReadRefusal) → Gives (λ next. next) said (unless (fault_at n l) (inside_after true (form_in true l))) →
    Gives {Y = Outlook × Bool} (λ next. (o, next)) said (line_seen o n true l)
seen_inside o n l said g = subst (λ x. Gives {Y = Outlook × Bool} (λ next. (o, next)) said (unless {A = Outlook × Bool} (fault_at n l) (x, inside_after true (form_in true l)))) (sym (unchanged o l)) (here (fault_at n l) said g) where
  refused : (fault : Option ReadRefusal) (e : ReadRefusal) → Refuses e (unless fault (inside_after true (form_in true l))) → Refuses e (unless {A = Outlook × Bool} fault (o, inside_after true (form_in true l)))
  refused fault OutOfMemory r = tt
  refused None (Lex line byte) r = cc
  refused None (NotALine line) r = cc
  refused None (Misplaced line) r = cc
  refused None (Limit which) r = cc
  refused (Some refusal) (Lex line byte) r = cc
  refused (Some refusal) (NotALine line) r = cc
  refused (Some refusal) (Misplaced line) r = cc
  refused (Some refusal) (Limit which) r = cc

  here : (fault : Option ReadRefusal) (said : Result Bool ReadRefusal) → Gives (λ next. next) said (unless fault (inside_after true (form_in true l))) →
      Gives {Y = Outlook × Bool} (λ next. (o, next)) said (unless {A = Outlook × Bool} fault (o, inside_after true (form_in true l)))
  here None (Ok next) r = cc
  here (Some refusal) (Ok next) r = cc
  here fault (Err e) r = refused fault e r
