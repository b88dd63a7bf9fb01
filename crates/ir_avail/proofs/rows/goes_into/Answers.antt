use Rattle.ir_avail.proofs.Bits.{goes_more}
use Rattle.ir_avail.proofs.rows.goes_into.Goals as goal

pub loop-target-preserved : goal.loop-target-preserved
loop-target-preserved c =
    goes_more c.args.row c.args.word c.row_at-own.result c.loop-target.target-index c.args.targets.now c.args.rows.now c.row_at-own.ensures
    c.if-row-word.false c.loop-target.invariant
