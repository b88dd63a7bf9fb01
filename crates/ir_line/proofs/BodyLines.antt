-- Lines inside functions: what is read is spelled, what is spelled is read, and so no line spells two forms.
use Rattle.std.proofs.Common.{◌≡◌, ℕ, Bool, true, false, cond, List, [], ◌∷◌, Option, Some, None, refl, sym, ◌∙◌, ap, subst, codes, bytes_eq}
use Rattle.std.specs.List.{list_all}
use Rattle.ir_lex.specs.declared.list.Token.{Token}
use Rattle.ir_lex.specs.Words.{word, words}
use Rattle.ir_draft.specs.declared.line.Line.{Line}
use Rattle.ir_draft.specs.declared.line.Line.TheVariants.{Close}
use Rattle.ir_words.specs.Values.{width_of, local_of, act_of}
use Rattle.ir_words.specs.Words.{Words, is_ascii}
use Rattle.ir_words.specs.Reading.{ty_at, kind_at}
use Rattle.ir_forms.specs.Operands.{labelled_at}
use Rattle.ir_forms.specs.Grammar.{read}
use Rattle.ir_forms.specs.Forms.{Form, slots, Spell, line_of, form, plain_line, act_line, choices, choice}
use Rattle.ir_line.specs.Calls.{call}
use Rattle.ir_line.specs.Body.{Spells, NoWord, Brace, Formed, Called, unattached, is_brace, or_call, read_form, read_body}
use Rattle.ir_forms.proofs.Steps.{nothing, clash, some_is, cond_then, bytes_is}
use Rattle.ir_forms.proofs.Trees.{form_spelled, form_read}
use Rattle.ir_line.proofs.CallLines.{call_apart, no_token, one_token}
use Rattle.ir_line.proofs.SpelledCalls.{call_spelled, call_read}

-- no form has no word, and none is a brace
no_words : read line_of form [] ≡ None
unfolding form plain_line labelled_at act_line choices choice kind_at ty_at
no_words = refl

no_brace : read line_of form (codes "}" ∷ []) ≡ None
unfolding form plain_line labelled_at act_line choices choice kind_at ty_at local_of act_of width_of
no_brace = refl

or_call_then : {P : Type 0} (o found : Option Line) (l : Line) → or_call o found ≡ Some l → (o ≡ Some l → P) → (found ≡ Some l → P) → P
or_call_then None found l e form' call' = call' e
or_call_then (Some x) found l e form' call' = form' e

formed : (line : List ℕ) (ts : List Token) (l : Line) → read_form line ts ≡ Some l → Spells line ts l
unfolding read_form
formed line ts l e =
    cond_then (list_all is_ascii (words line ts)) _ _ _ e
    (λ ascii r. or_call_then (read line_of form (words line (unattached line ts))) (call line (unattached line ts)) l r
    (λ er. let f : (f : Form) × (l ≡ line_of f) × Spell (slots f) (words line (unattached line ts)) = form_spelled (words line (unattached line ts)) l er in
    subst (Spells line ts) (sym f.1) (Formed f.0 ascii f.2))
    (λ ec. Called l ascii (call_spelled line (unattached line ts) l ec)))
    (λ _ none. nothing none)

brace_is : (ts : Words) → is_brace ts ≡ true → ts ≡ codes "}" ∷ []
brace_is [] e = clash (sym e)
brace_is (t ∷ []) e = ap (λ (x : List ℕ). x ∷ []) (bytes_is t (codes "}") e)
brace_is (t ∷ u ∷ ts) e = clash (sym e)

pub body_spelled : (line : List ℕ) (ts : List Token) (l : Line) → read_body line ts ≡ Some l → Spells line ts l
unfolding read_body
body_spelled line [] l e = subst (Spells line []) (some_is e) (NoWord refl)
body_spelled line (t ∷ ts) l e =
    cond_then (is_brace (words line (t ∷ ts))) _ _ _ e
    (λ brace r. subst (Spells line (t ∷ ts)) (some_is r) (Brace (brace_is (words line (t ∷ ts)) brace)))
    (λ _ r. formed line (t ∷ ts) l r)

-- a brace alone has no attachments
alone : (line : List ℕ) (t : Token) → word line t ≡ codes "}" → unattached line (t ∷ []) ≡ t ∷ []
alone line t e = rw e refl

-- what is read of a line whose first word is no brace alone
read_on : (line : List ℕ) (t : Token) (ts : List Token) (l : Line) → (word line t ≡ codes "}" → ts ≡ [] → read_body line (t ∷ ts) ≡ Some l) → read_form line (t ∷ ts) ≡ Some l → read_body line (t ∷ ts) ≡ Some l
unfolding read_body
read_on line t [] l brace e = here (bytes_eq (word line t) (codes "}")) refl where
  here : (b : Bool) → bytes_eq (word line t) (codes "}") ≡ b → cond (bytes_eq (word line t) (codes "}")) (Some Close) (read_form line (t ∷ [])) ≡ Some l
  here true eb = brace (bytes_is (word line t) (codes "}") eb) refl
  here false eb = rw eb e
read_on line t (u ∷ ts) l brace e = e

formed_read : (line : List ℕ) (ts : List Token) (f : Form) → list_all is_ascii (words line ts) ≡ true → Spell (slots f) (words line (unattached line ts)) → read_body line ts ≡ Some (line_of f)
unfolding read_form
formed_read line [] f ascii s = nothing (sym no_words ∙ form_read f [] s)
formed_read line (t ∷ ts) f ascii s =
    let r : read_form line (t ∷ ts) ≡ Some (line_of f) = rw (ascii, form_read f (words line (unattached line (t ∷ ts))) s) refl in
    read_on line t ts (line_of f) (λ brace none. brace_form brace none) r where
      brace_form : word line t ≡ codes "}" → ts ≡ [] → read_body line (t ∷ ts) ≡ Some (line_of f)
      brace_form brace none =
          let whole : unattached line (t ∷ ts) ≡ t ∷ [] = rw none (alone line t brace) in
          let one : words line (unattached line (t ∷ ts)) ≡ codes "}" ∷ [] = rw whole (ap (λ (w : List ℕ). w ∷ []) brace) in
          nothing (sym no_brace ∙ form_read f (codes "}" ∷ []) (subst (Spell (slots f)) one s))

called_read : (line : List ℕ) (ts : List Token) (l : Line) → list_all is_ascii (words line ts) ≡ true → call line (unattached line ts) ≡ Some l → read_body line ts ≡ Some l
unfolding read_form
called_read line [] l ascii e = no_token line l e
called_read line (t ∷ ts) l ascii e =
    let r : read_form line (t ∷ ts) ≡ Some l = rw (ascii, call_apart line (unattached line (t ∷ ts)) l e, e) refl in
    read_on line t ts l (λ brace none. brace_call brace none) r where
      brace_call : word line t ≡ codes "}" → ts ≡ [] → read_body line (t ∷ ts) ≡ Some l
      brace_call brace none =
          let whole : unattached line (t ∷ ts) ≡ t ∷ [] = rw none (alone line t brace) in
          one_token line t l (subst (λ (us : List Token). call line us ≡ Some l) whole e)

pub body_read : (line : List ℕ) (ts : List Token) {l : Line} → Spells line ts l → read_body line ts ≡ Some l
unfolding read_body
body_read line ts (NoWord e) = rw e refl
body_read line [] (Brace e) = clash (sym (ap is_brace e))
body_read line (t ∷ ts) (Brace e) = ap (λ (x : Words). cond (is_brace x) (Some Close) (read_form line (t ∷ ts))) e
body_read line ts (Formed f ascii s) = formed_read line ts f ascii s
body_read line ts (Called l ascii s) = called_read line ts l ascii (call_read s)

-- no line inside a function spells two forms
pub body_once : (line : List ℕ) (ts : List Token) {l m : Line} → Spells line ts l → Spells line ts m → l ≡ m
body_once line ts s r = some_is (sym (body_read line ts s) ∙ body_read line ts r)
