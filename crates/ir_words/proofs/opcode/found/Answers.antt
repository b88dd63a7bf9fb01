-- What the table of short words has, the whole has.
use Rattle.ir_words.proofs.Tables.{found_short}
use Rattle.ir_words.proofs.opcode.found.Goals as goal

pub returns-in-Some : goal.returns-in-Some
returns-in-Some c = found_short _ _ c.in-Some.ensures
