use Rattle.std.proofs.Common.{◌≡◌, ◌-◌, ◌≤◌, length}
use Rattle.vx_seeds.specs.Reached.{Holds, in_round}
use Rattle.vx_seeds.proofs.reached.search.Given as goal

abbrev pub invariant-loop-rounds : goal.invariant-loop-rounds
invariant-loop-rounds l = record {
  holds : Holds (in_round l.graph l.rounds) l.marks.items l.found.items;
  len : length l.marks.items ≡ length l.graph;
  below : l.rounds ≤ length l.graph;
}

abbrev pub decreases-loop-rounds : goal.decreases-loop-rounds
decreases-loop-rounds l = length l.graph - l.rounds
