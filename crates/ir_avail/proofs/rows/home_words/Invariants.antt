use Rattle.ir_avail.specs.Rows.{AreHomes}
use Rattle.ir_avail.proofs.rows.home_words.Given as goal

abbrev pub invariant-loop-column : goal.invariant-loop-column
invariant-loop-column l = AreHomes l.homes l.words.items
