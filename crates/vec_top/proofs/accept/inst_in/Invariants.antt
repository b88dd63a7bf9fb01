-- Among those that are left is what is among all.
use Rattle.std.proofs.Common.{◌≡◌, drop}
use Rattle.vec_top.specs.Accepts.{inst_in}
use Rattle.vec_top.proofs.accept.inst_in.Given as goal

abbrev pub invariant-loop-block : goal.invariant-loop-block
invariant-loop-block l = inst_in l.id (drop l.block-index l.blocks) ≡ inst_in l.id l.blocks
