-- What the readers of a line answer is its form.
use Rattle.std.proofs.Common.{◌≡◌, ℕ, Bool, List, Option, None, Some, Ok, Err, refl, sym, ◌∙◌, ap}
use Rattle.ir_lex.specs.declared.list.Token.{Token}
use Rattle.ir_lex.specs.declared.refusal.LexRefusal.TheVariants as lexical
use Rattle.ir_lex.specs.Faults.{FirstFault, IsRefusal}
use Rattle.ir_lex.specs.Tokens.{Lexed}
use Rattle.ir_lex.specs.Scan.{fault_of, cut}
use Rattle.ir_lex.proofs.Laws.{lexed_is, fault_some}
use Rattle.ir_draft.specs.declared.line.Line.{Line}
use Rattle.ir_line.specs.Body as inside
use Rattle.ir_line.specs.Body.{read_body}
use Rattle.ir_line.specs.Outside as outside
use Rattle.ir_line.specs.Outside.{read_outside}
use Rattle.ir_line.proofs.BodyLines.{body_spelled}
use Rattle.ir_line.proofs.OutsideLines.{outside_spelled}
use Rattle.ir_read.specs.declared.refusal.ReadRefusal.{ReadRefusal}
use Rattle.ir_read.specs.declared.refusal.ReadRefusal.TheVariants.{Lex}
use Rattle.ir_read.specs.Faults.{fault_at, unless}
use Rattle.ir_read.specs.declared.outlook.Outlook.{Outlook}
use Rattle.ir_read.specs.Forms.{form_by, form_in, sound_form, inside_after}
use Rattle.ir_read.specs.Outlook.{with_line, line_seen}

-- where nothing is spelled, nothing is read
pub unread_inside : (line : List ℕ) (ts : List Token) → ((l : Line) → inside.Spells line ts l → Some l ≡ None) → None ≡ read_body line ts
unread_inside line ts none = here (read_body line ts) refl where
  here : (found : Option Line) → read_body line ts ≡ found → None ≡ found
  here None e = refl
  here (Some l) e = let absent : Some l ≡ None = none l (body_spelled line ts l e) in cc

pub unread_outside : (line : List ℕ) (ts : List Token) → ((l : Line) → outside.Spells line ts l → Some l ≡ None) → None ≡ read_outside line ts
unread_outside line ts none = here (read_outside line ts) refl where
  here : (found : Option Line) → read_outside line ts ≡ found → None ≡ found
  here None e = refl
  here (Some l) e = let absent : Some l ≡ None = none l (outside_spelled line ts l e) in cc

-- the form of a line with these tokens
pub form_of_tokens : (inside : Bool) (line : List ℕ) (ts : List Token) → Lexed line ts → form_by inside line ts ≡ form_in inside line
unfolding form_in
form_of_tokens inside line ts lexed =
    let is : (fault_of line ≡ None) × (ts ≡ cut line) = lexed_is line ts lexed in
    ap (form_by inside line) is.1 ∙ ap (λ f. sound_form f inside line) (sym is.0)

-- a line with a lexical fault has no form
pub form_of_fault : (inside : Bool) (line : List ℕ) (k : ℕ) → FirstFault line k → None ≡ form_in inside line
unfolding form_in
form_of_fault inside line k first = ap (λ f. sound_form f inside line) (sym (fault_some line k first))

-- a line with tokens has no fault
pub without_fault : {A : Type 0} (n : ℕ) (line : List ℕ) (ts : List Token) (a : A) → Lexed line ts → unless (fault_at n line) a ≡ Ok a
without_fault n line ts a lexed =
    let is : (fault_of line ≡ None) × (ts ≡ cut line) = lexed_is line ts lexed in
    rw is.0 refl

-- the first fault of a line is its refusal
pub with_fault : {A : Type 0} (n : ℕ) (line : List ℕ) (l byte : ℕ) (a : A) → IsRefusal n line (lexical.Lex l byte) → unless (fault_at n line) a ≡ Err (Lex l byte)
with_fault n line l byte a (k, here, at, first) = rw (fault_some line k first, here, at) refl

-- what is known after a line, by its form
pub seen_line : (o after : Outlook) (n : ℕ) (inside next : Bool) (line : List ℕ) (form : Option Line) → unless (fault_at n line) (form_in inside line) ≡ Ok form →
    after ≡ with_line o form → next ≡ inside_after inside form → line_seen o n inside line ≡ Ok (after, next)
seen_line o after n inside next line form said known goes = here (fault_at n line) said where
  here : (f : Option ReadRefusal) → unless f (form_in inside line) ≡ Ok form → unless {A = Outlook × Bool} f (with_line o (form_in inside line), inside_after inside (form_in inside line)) ≡ Ok (after, next)
  here None e =
      let same : form_in inside line ≡ form = cc in
      rw (same, known, goes) refl
  here (Some refusal) e = cc
