-- A text that resolves, with uses that are available, is the module, unless its layout has the high byte first.
use Rattle.vec_top.proofs.Accepting.{ordered}
use Rattle.vec_top.proofs.accept.accepted.Goals as goal

pub returns : goal.returns
returns c = ordered c.args.bytes.items c.in_ok-resolved.resolved c.little_endian.result c.in_ok-resolved.ensures c.in_default.ensures.ok c.little_endian.ensures
