use Rattle.std.proofs.Common.{◌∙◌, ap}
use Rattle.std.specs.List.{list_all}
use Rattle.vx_seeds.proofs.Reaching.{all_at}
use Rattle.vx_seeds.proofs.reached.round.Goals as goal

pub loop-block-preserved : goal.loop-block-preserved
loop-block-preserved c =
    let blocks = c.args.blocks.now in
    let k = c.loop-block.block-index in
    record {
      holds = λ p q l a m.
          c.in_ok-spread.ensures.holds q
          (ap (list_all q) c.targets.ensures ∙ l _ (all_at p blocks k _ c.loop-block-test.true a))
          (c.loop-block.invariant.holds p q l a m);
      len = c.spread.ensures.len ∙ c.loop-block.invariant.len;
    }
