-- No place so far.
use Rattle.std.proofs.Common.{◌≡◌, ℕ, get_or, None}
use Rattle.ir_print.proofs.index.empty_row.Given as goal

abbrev pub invariant-loop-place : goal.invariant-loop-place
invariant-loop-place l = (slot : ℕ) → get_or l.row.items slot None ≡ None
