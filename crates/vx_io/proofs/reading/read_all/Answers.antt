-- Where a piece was not kept, it was read all the same.
use Rattle.vx_io.proofs.Moves.{ConsumesSome-more}
use Rattle.vx_io.proofs.reading.read_all.Goals as goal

pub returns-in_err-append-in-Ok-clause-read : goal.returns-in_err-append-in-Ok-clause-read
returns-in_err-append-in-Ok-clause-read g c = ConsumesSome-more _ _ _ _ _ c.loop-bytes.invariant.front c.in-Ok.ensures.bytes
