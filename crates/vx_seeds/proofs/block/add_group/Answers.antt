use Rattle.std.proofs.Common.{◌∙◌, ap, ◌-◌, ◌++◌}
use Rattle.vx_serial.specs.Regions as region
use Rattle.vx_seeds.specs.Spots.{held}
use Rattle.vx_seeds.proofs.Blocks.{more}
use Rattle.vx_seeds.proofs.block.add_group.Goals as goal

pub loop-bound-preserved : goal.loop-bound-preserved
loop-bound-preserved c =
    let n = c.loop-bound.bound in
    let before = c.loop-bound.regions.items in
    c.in_ok-left.ensures (n - 1)
    ∙ ap (λ k. before ++ region.group_regions k c.args.width (held c.as_slice.result.now)) (more n c.loop-bound-test.true)
    ∙ ap (λ xs. before ++ region.group_regions n c.args.width (held xs)) c.as_slice.ensures.value
    ∙ c.loop-bound.invariant
