-- Each way to the end has its reply.
use Rattle.std.proofs.Common.{refl}
use Rattle.vec_top.proofs.Outcomes.{from_fault, from_whole, from_failed, not_sure}
use Rattle.vec_top.proofs.top.reply.Goals as goal

pub returns-in-Err : goal.returns-in-Err
returns-in-Err g c = from_fault _ _ _ _ _ _ _ _ _ _ _ _ c.in-Err.fault c.tell.result c.in-Err.ensures c.tell.ensures.which c.tell.ensures.told

pub returns-in-Ok-write_all : goal.returns-in-Ok-write_all
returns-in-Ok-write_all g c =
    from_whole _ _ _ _ _ _ _ _ _ _ _ _ _ _ c.in-Ok.text c.in-Ok.ensures (rw c.as_slice.ensures.value at c.in-Ok-write_all.ensures.whole) c.in-Ok-write_all.ensures.kept refl refl

pub returns : goal.returns
returns g c =
    from_failed _ _ _ _ _ _ _ _ _ _ _ _ _ _ c.in-Ok.text c.tell-in-Err-write_all.result c.tell-in-Err-write_all.ensures.which c.in-Ok.ensures
    (rw c.as_slice.ensures.value at c.in-Err-write_all.ensures.front) c.in-Err-write_all.ensures.fault
    (not_sure _ _ (rw c.as_slice.ensures.value at c.in-Err-write_all.ensures.fits)) c.tell-in-Err-write_all.ensures.told
