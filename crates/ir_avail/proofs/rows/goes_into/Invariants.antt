use Rattle.std.proofs.Common.{◌≡◌, ℕ, ◌<◌, get_or}
use Rattle.std.specs.Int.{bit_at}
use Rattle.ir_avail.proofs.rows.goes_into.Given as goal

abbrev pub invariant-loop-target : goal.invariant-loop-target
invariant-loop-target l =
    (k column : ℕ) → k < l.target-index → bit_at l.row column ≡ 1 → bit_at l.word column ≡ 0
    → bit_at (get_or l.rows (get_or l.targets k 0) 0) column ≡ 1
