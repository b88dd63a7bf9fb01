-- Each end takes one from its count; a count that came to 0 puts it into the set.
use Rattle.std.proofs.Common.{◌≡◌, ℕ, ◌+◌, ◌-◌, ◌<◌, ◌≤◌, length, arith, length-set, ◌∙◌, slice_index, sym, ap, take, set}
use Rattle.std.specs.Ordering.{nat_cmp}
use Rattle.std.specs.BTreeSet.{contains}
use Rattle.vx_order.specs.Walks.{tally}
use Rattle.vx_order.proofs.Counts.{released_more, released_some, ready_more, put_in, left_out, at_zero}
use Rattle.vx_order.proofs.order.release.Goals as goal
use Rattle.vx_order.proofs.order.release.Goals.{then-index-eq0+in_ok-insert, else-index-eq0}

pub overflow_sub-index_mut : goal.overflow_sub-index_mut
overflow_sub-index_mut c = released_some c.args.ends.now c.loop-end.counts.items c.args.counts.now.items c.loop-end.end-index c.index_mut.result.now c.loop-end-test.true
    (omega (arith, c.requires.below c.loop-end.end-index 0 c.loop-end-test.true, c.loop-end.invariant.len)) c.index_mut.ensures.value
    (c.loop-end.invariant.counted (slice_index c.args.ends.now c.loop-end.end-index)) (c.requires.counted (slice_index c.args.ends.now c.loop-end.end-index))

pub loop-end-preserved : goal.loop-end-preserved
loop-end-preserved c =
    let within : slice_index c.args.ends.now c.loop-end.end-index < length c.loop-end.counts.items = omega (arith, c.requires.below c.loop-end.end-index 0 c.loop-end-test.true, c.loop-end.invariant.len) in
    let some : 1 ≤ c.index_mut.result.now = released_some c.args.ends.now c.loop-end.counts.items c.args.counts.now.items c.loop-end.end-index c.index_mut.result.now c.loop-end-test.true
    within c.index_mut.ensures.value (c.loop-end.invariant.counted (slice_index c.args.ends.now c.loop-end.end-index)) (c.requires.counted (slice_index c.args.ends.now c.loop-end.end-index)) in
    let after : (v : ℕ) → slice_index (set c.loop-end.counts.items (slice_index c.args.ends.now c.loop-end.end-index) (c.index_mut.result.now - 1)) v + tally v (take (c.loop-end.end-index + 1) c.args.ends.now) ≡ slice_index c.args.counts.now.items v
    = released_more c.args.ends.now c.loop-end.counts.items c.args.counts.now.items c.loop-end.end-index c.index_mut.result.now c.loop-end-test.true within c.index_mut.ensures.value some c.loop-end.invariant.counted in
    let inside : slice_index c.args.ends.now c.loop-end.end-index < length (set c.loop-end.counts.items (slice_index c.args.ends.now c.loop-end.end-index) (c.index_mut.result.now - 1))
    = rw (length-set c.loop-end.counts.items (slice_index c.args.ends.now c.loop-end.end-index) (c.index_mut.result.now - 1)) within in
    let read : slice_index (set c.loop-end.counts.items (slice_index c.args.ends.now c.loop-end.end-index) (c.index_mut.result.now - 1)) (slice_index c.args.ends.now c.loop-end.end-index) ≡ c.index.result.now
    = at_zero (set c.loop-end.counts.items (slice_index c.args.ends.now c.loop-end.end-index) (c.index_mut.result.now - 1)) (slice_index c.args.ends.now c.loop-end.end-index) c.index.result.now inside c.index.ensures in
    record {
      len = length-set c.loop-end.counts.items _ _ ∙ c.loop-end.invariant.len;
      counted = after;
      ready = λ v. ready_more c.args.ends.now c.loop-end.counts.items c.args.counts.now.items (set c.loop-end.counts.items (slice_index c.args.ends.now c.loop-end.end-index) (c.index_mut.result.now - 1)) c.loop-end.end-index v
          (contains nat_cmp c.args.ready.now v) (contains nat_cmp c.loop-end.ready v) (contains nat_cmp c.if-index-eq0.ready v) c.loop-end-test.true (c.loop-end.invariant.ready v) (c.loop-end.invariant.counted v) (after v)
          (elim c.if-index-eq0.branch [
            | then-index-eq0+in_ok-insert w ↦ put_in (set c.loop-end.counts.items (slice_index c.args.ends.now c.loop-end.end-index) (c.index_mut.result.now - 1)) (slice_index c.args.ends.now c.loop-end.end-index) v
                (contains nat_cmp c.loop-end.ready v) (contains nat_cmp c.if-index-eq0.ready v) (read ∙ w.if-index-eq0.true) (ap (λ s. contains nat_cmp s v) w.ready-is ∙ w.in_ok-insert.ensures.updates.0 v)
            | else-index-eq0 w ↦ left_out (set c.loop-end.counts.items (slice_index c.args.ends.now c.loop-end.end-index) (c.index_mut.result.now - 1)) (slice_index c.args.ends.now c.loop-end.end-index) v
                (contains nat_cmp c.loop-end.ready v) (contains nat_cmp c.if-index-eq0.ready v) (λ z. w.if-index-eq0.false (sym read ∙ z)) (ap (λ s. contains nat_cmp s v) w.ready-is)
          ]);
    }
