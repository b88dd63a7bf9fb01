use Rattle.std.proofs.Common.{◌≡◌, ◌++◌, take}
use Rattle.vx_serial.proofs.pairing.push_copies.Given as goal

abbrev pub invariant-loop-inst : goal.invariant-loop-inst
invariant-loop-inst l = l.joined ≡ l.initial.joined ++ take l.inst-index l.more
