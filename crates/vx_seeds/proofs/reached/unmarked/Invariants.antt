use Rattle.std.proofs.Common.{◌≡◌, ◌≤◌, ◌-◌, ℕ, false, length, slice_index_or}
use Rattle.vx_seeds.proofs.reached.unmarked.Given as goal

abbrev pub invariant-loop-marks : goal.invariant-loop-marks
invariant-loop-marks l = record {
  none : (x : ℕ) → slice_index_or l.marks.items x false ≡ false;
  below : length l.marks.items ≤ l.len;
}

abbrev pub decreases-loop-marks : goal.decreases-loop-marks
decreases-loop-marks l = l.len - length l.marks.items
