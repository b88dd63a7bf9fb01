use Rattle.std.proofs.Common.{◌≡◌, ◌+◌, length, drop}
use Rattle.ir_model.specs.Memory.{put}
use Rattle.ir_interp.proofs.accesses.put.Given as goal

abbrev pub invariant-loop-i : goal.invariant-loop-i
invariant-loop-i l =
    (put (drop l.i l.bytes) (l.at + l.i) l.object ≡ put l.bytes l.at l.initial.object) × (length l.object ≡ length l.initial.object)
