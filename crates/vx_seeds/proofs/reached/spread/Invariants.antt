use Rattle.std.proofs.Common.{◌≡◌, ℕ, Bool, true, length}
use Rattle.std.specs.List.{list_all}
use Rattle.vx_seeds.specs.Reached.{Holds}
use Rattle.vx_seeds.proofs.reached.spread.Given as goal

abbrev pub invariant-loop-left : goal.invariant-loop-left
invariant-loop-left l = record {
  holds : (p : ℕ → Bool) → list_all p l.fn.targets ≡ true → Holds p l.fn.marks.items l.fn.found.items → Holds p l.marks.items l.found.items × (list_all p l.left ≡ true);
  len : length l.marks.items ≡ length l.fn.marks.items;
}

abbrev pub decreases-loop-left : goal.decreases-loop-left
decreases-loop-left l = length l.left
