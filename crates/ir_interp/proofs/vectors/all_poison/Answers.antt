use Rattle.std.proofs.Common.{◌+◌, ◌++◌, ap, ◌∙◌, drop, arith}
use Rattle.ir_model.specs.Operations.{all_poison}
use Rattle.ir_interp.proofs.Pieces.{all_poison-more}
use Rattle.ir_interp.proofs.vectors.all_poison.Goals as goal

pub loop-lane-preserved : goal.loop-lane-preserved
loop-lane-preserved c =
    ap (λ done. done ++ all_poison (drop (c.loop-lane._lane-index + 1) c.args.lanes.now)) c.in_ok-push.ensures.ok
    ∙ all_poison-more c.loop-lane.done c.args.lanes.now c.loop-lane._lane-index (omega arith)
    ∙ c.loop-lane.invariant
