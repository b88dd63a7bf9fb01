use Rattle.std.proofs.Common.{◌≡◌, drop}
use Rattle.ir_model.specs.Operations.{each_pair}
use Rattle.ir_interp.specs.Pairing.{lanewise}
use Rattle.ir_interp.specs.Partial.{after}
use Rattle.ir_interp.proofs.pairing.Pairing.each_pair.Given as goal

abbrev pub invariant-loop-a : goal.invariant-loop-a
invariant-loop-a l =
    after l.done (each_pair (lanewise l.self) (drop l.a-index l.left) l.rest) ≡ each_pair (lanewise l.self) l.left l.right
