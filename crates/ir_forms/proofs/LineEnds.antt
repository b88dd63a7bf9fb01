-- A line with more words is no form that ends before them.
use Rattle.std.proofs.Common.{◌≡◌, ℕ, ◌≤◌, List, [], ◌∷◌, length, None, refl, arith}
use Rattle.ir_lex.specs.Words.{words}
use Rattle.ir_lex.specs.declared.list.Token.{Token}
use Rattle.ir_forms.specs.Grammar.{ends}
use Rattle.ir_draft.specs.declared.line.Line.{Line}

pub goes_on : (form : Line) (line : List ℕ) (ts : List Token) → 1 ≤ length ts → ends form (words line ts) ≡ None
goes_on form line [] l = absurd (omega arith)
goes_on form line (t ∷ ts) l = refl
