-- What the lines come to one by one is what they are by all of them.
use Rattle.ir_read.proofs.Agreeing.{draft_known}
use Rattle.ir_read.proofs.read.Goals as goal

pub returns : goal.returns
returns c = rw (draft_known c.args.bytes.now c.in_ok-known.known c.in_ok-known.ensures.said) at c.judge.ensures
