-- The wrapping sum of the code is the sum, wrapped.
use Rattle.std.proofs.Common.{rules}
use Rattle.std.proofs.lemmas.Int.{wraps}
use Rattle.vx_num.proofs.address.moved.Goals as goal

pub returns : goal.returns
returns c = search (rules, wraps)
