-- The bytes passed, with the calm ones of the rest, are the calm ones of all.
use Rattle.std.proofs.Common.{◌≡◌, ◌+◌, length}
use Rattle.std.specs.List.{position_or_len}
use Rattle.ir_lex.specs.Bytes.{is_notable}
use Rattle.ir_lex.proofs.faults.calm_len.Given as goal

abbrev pub invariant-steps : goal.invariant-steps
invariant-steps l = (l.count + length l.rest ≡ length l.bytes) × (l.count + position_or_len is_notable l.rest ≡ position_or_len is_notable l.bytes)

abbrev pub decreases-steps : goal.decreases-steps
decreases-steps l = length l.rest
