use Rattle.ir_avail.specs.Avoids.{bar_at}
use Rattle.ir_avail.proofs.Lists.{Follows}
use Rattle.ir_avail.proofs.distances.next_round.Given as goal

abbrev pub invariant-loop-number : goal.invariant-loop-number
invariant-loop-number l = Follows l.graph (bar_at l.barred) l.distances l.most l.number l.found l.next.items
