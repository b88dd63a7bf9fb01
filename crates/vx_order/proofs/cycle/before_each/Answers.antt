-- A link from a number with open links is kept for its end.
use Rattle.std.proofs.Common.{arith, length-set, ◌∙◌}
use Rattle.vx_order.proofs.Trails.{before_set, before_kept, all_before}
use Rattle.vx_order.proofs.cycle.before_each.Goals as goal
use Rattle.vx_order.proofs.cycle.before_each.Goals.{then-counts-from-gt0, else-counts-from-gt0}

pub loop-from-preserved : goal.loop-from-preserved
loop-from-preserved c = elim c.if-counts-from-gt0.branch [
  | then-counts-from-gt0 w ↦ rw w.before-is (record {
    len = length-set c.loop-from.before.items _ _ ∙ c.loop-from.invariant.len;
    found = before_set c.args.links.now c.args.counts.now c.loop-from.before.items c.loop-from.from-index c.loop-from-test.true
        (omega (arith, c.loop-from.invariant.len, (c.requires.ends c.loop-from.from-index (0, 0) c.loop-from-test.true).1)) w.if-counts-from-gt0.true c.loop-from.invariant.found;
  })
  | else-counts-from-gt0 w ↦ rw w.before-is (record {
    len = c.loop-from.invariant.len;
    found = before_kept c.args.links.now c.args.counts.now c.loop-from.before.items c.loop-from.from-index c.loop-from-test.true w.if-counts-from-gt0.false c.loop-from.invariant.found;
  })
]

pub returns-clause-before : goal.returns-clause-before
returns-clause-before c = λ v within pos.
    (let b = c.requires.before v within pos in
    all_before c.args.links.now c.args.counts.now c.loop-from.before.items c.loop-from.from-index v c.loop-from-test.false b.0 b.1 c.loop-from.invariant.found)
