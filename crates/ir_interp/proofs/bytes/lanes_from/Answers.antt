use Rattle.std.proofs.Common.{◌∙◌, ap, ◌++◌, ◌∷◌, [], arith}
use Rattle.ir_interp.proofs.Bits.{lanes_from-more}
use Rattle.ir_interp.proofs.bytes.lanes_from.Goals as goal

pub loop-preserved : goal.loop-preserved
loop-preserved c =
    lanes_from-more c.loop.lanes c.push.new.self c.args.count c.loop.counter c.args.size c.loop.rest.now c.after-rest.result.now (omega arith)
    (c.in_ok-push.ensures.ok ∙ ap (λ lane. c.loop.lanes ++ lane ∷ []) c.lane_from.ensures.value) c.after-rest.ensures
    ∙ c.loop.invariant
