-- The wrapping product of the code is the product, wrapped.
use Rattle.vx_num.proofs.Wrapping.{stride_is}
use Rattle.vx_num.proofs.address.stride.Goals as goal

pub returns : goal.returns
returns c = stride_is _ _ _ c.ranges.index c.ranges.scale.fits c.cast_signed.ensures
