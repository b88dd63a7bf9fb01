use Rattle.std.proofs.Common.{◌+◌, None, length, drop, ap, ◌∙◌, arith}
use Rattle.std.proofs.Math.ListN.{length-set}
use Rattle.ir_model.specs.Memory.{put}
use Rattle.ir_interp.proofs.Writes.{put-more}
use Rattle.ir_interp.proofs.accesses.put.Goals as goal

pub loop-i-preserved : goal.loop-i-preserved
loop-i-preserved c =
    let h = c.replace.ensures.now in
    let i = c.loop-i.i in (
      ap (put (drop (i + 1) c.args.bytes.now) (c.args.at + (i + 1))) h
          ∙ put-more c.args.bytes.now c.args.at i c.loop-i.object None (omega arith) (omega arith)
          ∙ c.loop-i.invariant.0,
      (simp length-set at (ap length h)) ∙ c.loop-i.invariant.1,
    )
