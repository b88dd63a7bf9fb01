use Rattle.std.proofs.Common.{◌≡◌, ℕ, ◌<◌, get_or}
use Rattle.std.specs.Int.{bit_at}
use Rattle.ir_types.specs.Walks.{HasEdge}
use Rattle.ir_avail.proofs.rows.is_closed.Given as goal

abbrev pub invariant-loop-number : goal.invariant-loop-number
invariant-loop-number l =
    (a b column : ℕ) → a < l.number → HasEdge l.graph a b → bit_at (get_or l.rows a 0) column ≡ 1 → bit_at (get_or l.words a 0) column ≡ 0
    → bit_at (get_or l.rows b 0) column ≡ 1
