-- Up to here both lists have the same items.
use Rattle.std.proofs.Common.{◌≡◌, length, take}
use Rattle.vx_list.proofs.equality.Equal.equal_all.Given as goal

abbrev pub invariant-loop-i : goal.invariant-loop-i
invariant-loop-i g l = (length l.left ≡ length l.right) × (take l.i l.left ≡ take l.i l.right)
