use Rattle.std.proofs.Common.{◌≡◌, length}
use Rattle.std.specs.List.{list_all}
use Rattle.vx_seeds.specs.Reached.{is_marked}
use Rattle.vx_seeds.proofs.reached.all_marked.Given as goal

abbrev pub invariant-loop-left : goal.invariant-loop-left
invariant-loop-left l = list_all (is_marked l.marks) l.left ≡ list_all (is_marked l.marks) l.targets

abbrev pub decreases-loop-left : goal.decreases-loop-left
decreases-loop-left l = length l.left
