-- Labels, braces and empty lines are read again as they are printed.
use Rattle.std.proofs.Common.{◌≡◌, ℕ, true, List, [], ◌∷◌, ◌++◌, Option, Some, refl, sym, ◌∙◌, ap, codes, append_assoc}
use Rattle.ir_lex.specs.Bytes.{is_word_byte, begins_name, is_digit, is_sigil, is_mark, is_blank, is_control}
use Rattle.ir_lex.specs.Scan.{texts, cut, more_len}
use Rattle.ir_lex.specs.Words.{word}
use Rattle.ir_draft.specs.declared.line.Line.{Line}
use Rattle.ir_draft.specs.declared.line.Line.TheVariants.{Empty, Close, Label}
use Rattle.ir_words.specs.Words.{Words}
use Rattle.ir_line.specs.Body.{read_body}
use Rattle.ir_forms.specs.Forms as forms
use Rattle.ir_forms.specs.Forms.{slot, slots}
use Rattle.ir_read.specs.Forms.{form_in, form_by}
use Rattle.rf_text.specs.Shown.{IsLocalName}
use Rattle.rf_text.specs.Printed.{Printed}
use Rattle.rf_text.proofs.Words.Read.{Told, run_texts, plain_append}
use Rattle.rf_text.proofs.Words.Names.{Named, local_named, run_is_plain}
use Rattle.rf_text.proofs.Parts.Of.{colon_texts, told_end}
use Rattle.rf_text.proofs.Insts.Each.{one_line}

label_told : (name : List ℕ) → Named name → Told (slots (forms.Label name)) (name ++ codes ":")
unfolding is_control is_word_byte begins_name
label_told name n =
    let words : texts (name ++ codes ":") ≡ name ∷ codes ":" ∷ texts [] = run_texts name (codes ":") n.run refl ∙ ap (λ (ws : Words). name ∷ ws) (colon_texts []) in
    record { plain = plain_append name (codes ":") (run_is_plain name n.run) refl; spelled = (texts [], record { word = name; first = words; says = n.label }, told_end.spelled) }

pub label_printed : (name : List ℕ) → IsLocalName name → Printed (name ++ codes ":\n") (Label name ∷ [])
label_printed name shown = one_line (forms.Label name) (name ++ codes ":") (sym (append_assoc name (codes ":") (codes "\n"))) refl (label_told name (local_named name shown))

brace_read : form_in true (codes "}") ≡ Some Close
unfolding form_in form_by read_body cut more_len word is_control is_blank is_sigil is_mark is_word_byte begins_name is_digit
brace_read = refl

pub brace_printed : Printed (codes "}\n") (Close ∷ [])
brace_printed = record { lines = codes "}" ∷ []; whole = refl; each = ap (λ (o : Option Line). o ∷ []) brace_read }

empty_read : form_in true [] ≡ Some Empty
unfolding form_in form_by read_body cut
empty_read = refl

pub empty_printed : Printed (codes "\n") (Empty ∷ [])
empty_printed = record { lines = [] ∷ []; whole = refl; each = ap (λ (o : Option Line). o ∷ []) empty_read }
