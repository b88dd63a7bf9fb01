use Rattle.std.proofs.Common.{◌∙◌, ap, ◌++◌, ◌∷◌, [], arith}
use Rattle.ir_interp.proofs.Bits.{lane_bytes-more}
use Rattle.ir_interp.proofs.bytes.push_lane.Goals as goal

pub loop-preserved : goal.loop-preserved
loop-preserved c =
    lane_bytes-more c.loop.bytes c.push.new.self c.args.size c.loop.counter c.loop.rest c.above_low-rest.result (omega arith) (c.in_ok-push.ensures.ok ∙ ap (λ byte. c.loop.bytes ++ byte ∷ []) c.low_byte.ensures) c.above_low-rest.ensures
    ∙ c.loop.invariant
