use Rattle.std.proofs.Common.{◌≡◌, ◌+◌, ◌≤◌, length}
use Rattle.std.specs.Prelude.{count_by}
use Rattle.std.specs.Option.{is_none}
use Rattle.ir_avail.specs.Avoids.{bar_at, AreNear}
use Rattle.ir_avail.proofs.distances.distances.Given as goal

abbrev pub invariant-rounds : goal.invariant-rounds
invariant-rounds l = record {
  near : AreNear l.graph (bar_at l.barred) l.end l.distances.items l.most;
  long : length l.distances.items ≡ length l.graph;
  few : l.most + count_by is_none l.distances.items ≤ length l.graph;
}

abbrev pub decreases-rounds : goal.decreases-rounds
decreases-rounds l = count_by is_none l.distances.items
