-- Among those that are left is what is among all.
use Rattle.std.proofs.Common.{◌≡◌, drop}
use Rattle.vec_top.specs.Accepts.{inst_among}
use Rattle.vec_top.proofs.accept.inst_among.Given as goal

abbrev pub invariant-loop-inst : goal.invariant-loop-inst
invariant-loop-inst l = inst_among l.id (drop l.inst-index l.insts) ≡ inst_among l.id l.insts
