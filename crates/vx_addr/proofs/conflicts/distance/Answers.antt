use Rattle.std.proofs.Common.{rules}
use Rattle.std.proofs.lemmas.Int.{wraps}
use Rattle.vx_addr.proofs.conflicts.distance.Goals as goal

pub returns : goal.returns
returns c = search (rules, wraps)
