-- The first fault stands in the line.
use Rattle.std.proofs.Common.{sym, arith}
use Rattle.ir_lex.proofs.Faulty.{found_first}
use Rattle.ir_read.proofs.survey.sound.Goals as goal

pub overflow_add-result : goal.overflow_add-result
overflow_add-result c = let found = (found_first _ _ (sym c.in-Some.ensures)).0 in omega arith
