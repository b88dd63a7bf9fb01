-- A line without a fault has the tokens that are cut.
use Rattle.std.proofs.Common.{OnOk, ℕ, List, subst, sym, Result, Ok, Err, ◌≡◌}
use Rattle.ir_lex.specs.Scan.{cut}
use Rattle.ir_lex.specs.Tokens.{Lexed}
use Rattle.ir_lex.specs.declared.list.Token.{Token}
use Rattle.ir_lex.proofs.Laws.{lexed_by_cut}
use Rattle.ir_lex.proofs.scan.cut_into.Goals as goal

lexed_if : {X E : Type 0} (said : Result X E) (line : List ℕ) (ts : List Token) → OnOk said (ts ≡ cut line) → Lexed line (cut line) → OnOk said (Lexed line ts)
lexed_if (Ok x) line ts e h = subst (Lexed line) (sym e) h
lexed_if (Err x) line ts e h = tt

pub returns : goal.returns
returns c = lexed_if _ _ _ c.cut.ensures (lexed_by_cut _ c.requires.sound)
