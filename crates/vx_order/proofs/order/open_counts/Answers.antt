-- Each link adds one to the count of its end.
use Rattle.std.proofs.Common.{arith, length-set, ◌∙◌}
use Rattle.vx_order.proofs.Counts.{counted_more, counted_below}
use Rattle.vx_order.proofs.order.open_counts.Goals as goal

pub overflow_add-index_mut : goal.overflow_add-index_mut
overflow_add-index_mut c =
    omega (
      arith,
      counted_below c.args.links.now c.loop-to.counts.items c.loop-to.to-index c.index_mut.result.now c.loop-to-test.true
          (omega (arith, c.requires c.loop-to.to-index (0, 0) c.loop-to-test.true, c.loop-to.invariant.len)) c.index_mut.ensures.value (c.loop-to.invariant.each _),
    )

pub loop-to-preserved : goal.loop-to-preserved
loop-to-preserved c = record {
  len = length-set c.loop-to.counts.items _ _ ∙ c.loop-to.invariant.len;
  each = λ v. counted_more c.args.links.now c.loop-to.counts.items c.loop-to.to-index c.index_mut.result.now v _ c.loop-to-test.true
      (omega (arith, c.requires c.loop-to.to-index (0, 0) c.loop-to-test.true, c.loop-to.invariant.len)) c.index_mut.ensures.value (c.loop-to.invariant.each v);
}
