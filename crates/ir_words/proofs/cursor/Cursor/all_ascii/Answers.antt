-- The words of a line of ASCII are of ASCII.
use Rattle.std.proofs.Common.{sym, ◌∙◌}
use Rattle.ir_words.proofs.FirstBytes.{ascii_words}
use Rattle.ir_words.proofs.cursor.Cursor.all_ascii.Goals as goal

pub returns-then-is_ascii : goal.returns-then-is_ascii
returns-then-is_ascii c = c.if-is_ascii.true ∙ sym (ascii_words _ _ c.if-is_ascii.ensures.cases)
