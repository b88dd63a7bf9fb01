-- What a line inside a function spells.
use Rattle.std.specs.Prelude.{◌≡◌, ℕ, suc, Bool, true, false, ◌&&◌, cond, Option, Some, None, List, [], ◌∷◌, codes, bytes_eq, nat_eq, take}
use Rattle.std.specs.List.{list_all}
use Rattle.ir_lex.specs.declared.list.Token.{Token}
use Rattle.ir_lex.specs.Words.{words}
use Rattle.ir_draft.specs.declared.line.Line.{Line}
use Rattle.ir_draft.specs.declared.line.Line.TheVariants.{Empty, Close}
use Rattle.ir_words.specs.Words.{Words, is_ascii}
use Rattle.ir_line.specs.Calls.{call}
use Rattle.ir_line.specs.CallSpelling.{SpellsCall}
use Rattle.ir_forms.specs.Forms.{Form, slots, Spell, line_of, form}
use Rattle.ir_forms.specs.Grammar.{read}

-- whether a word begins with `!`
abbrev pub is_mark : List ℕ → Bool
is_mark [] = false
is_mark (b ∷ bs) = nat_eq b 33

abbrev pub begins_mark : Words → Bool
begins_mark [] = false
begins_mark (t ∷ ts) = is_mark t

-- how many words stand before the first attachment, which is a comma and a word that begins with `!`
abbrev pub attachment_at : Words → ℕ
attachment_at [] = 0
attachment_at (t ∷ ts) = cond (bytes_eq t (codes ",") && begins_mark ts) 0 (suc (attachment_at ts))

-- the tokens before the attachments, which run to the end of the line
abbrev pub unattached : List ℕ → List Token → List Token
unattached line ts = take (attachment_at (words line ts)) ts

-- what a line inside a function spells, by its bytes and its tokens
pub data Spells (line : List ℕ) (ts : List Token) : Line → Type 0 where
  -- no token
  NoWord : ts ≡ [] → Spells line ts Empty
  -- `}` alone
  Brace : words line ts ≡ codes "}" ∷ [] → Spells line ts Close
  -- a form of parts, in words of ASCII, after which attachments may stand
  Formed : (f : Form) → list_all is_ascii (words line ts) ≡ true → Spell (slots f) (words line (unattached line ts)) → Spells line ts (line_of f)
  -- a call, the same
  Called : (l : Line) → list_all is_ascii (words line ts) ≡ true → SpellsCall line (unattached line ts) l → Spells line ts l

-- the line that the words are found to be
abbrev pub is_brace : Words → Bool
is_brace [] = false
is_brace (t ∷ []) = bytes_eq t (codes "}")
is_brace (t ∷ u ∷ ts) = false

abbrev pub or_call : Option Line → Option Line → Option Line
or_call None found = found
or_call (Some l) found = Some l

-- a form of parts, or a call, that is all of these tokens
abbrev pub form_or_call : List ℕ → List Token → Option Line
form_or_call line ts = or_call (read line_of form (words line ts)) (call line ts)

unfoldable pub read_form : List ℕ → List Token → Option Line
read_form line ts = cond (list_all is_ascii (words line ts)) (form_or_call line (unattached line ts)) None

unfoldable pub read_body : List ℕ → List Token → Option Line
read_body line [] = Some Empty
read_body line (t ∷ ts) = cond (is_brace (words line (t ∷ ts))) (Some Close) (read_form line (t ∷ ts))
