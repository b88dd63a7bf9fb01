-- The trail goes on backward, and where it comes back it is a cycle.
use Rattle.std.proofs.Common.{◌≡◌, ◌<◌, ◌++◌, ◌∷◌, [], true, length, arith, length-set, ◌∙◌, ap, sym, subst, inl, inr, slice_index, reverse}
use Rattle.vx_order.specs.Groups.{has}
use Rattle.vx_order.specs.Order.{IsCycle}
use Rattle.vx_order.specs.Backward.{IsOpenBefore, IsTrail}
use Rattle.vx_order.proofs.Counts.{at_zero}
use Rattle.vx_order.proofs.Placing.{head_or_more}
use Rattle.vx_order.proofs.Trails.{from_within, met_more, has_last, has_front, has-reverse, leads_from_trail, reverse_last}
use Rattle.vx_order.proofs.cycle.find_cycle.Goals as goal

pub loop-met-preserved : goal.loop-met-preserved
loop-met-preserved c =
    let inside : c.loop-met.at < length c.in_ok-before.before.items = omega (arith, c.in_ok-before.ensures.len, c.loop-met.invariant.within) in
    let next : slice_index c.in_ok-before.before.items c.loop-met.at ≡ c.index-at.result.now = at_zero c.in_ok-before.before.items c.loop-met.at c.index-at.result.now inside c.index-at.ensures in
    let link : IsOpenBefore c.args.links.now c.args.counts.now c.index-at.result.now c.loop-met.at
    = subst (λ n. IsOpenBefore c.args.links.now c.args.counts.now n c.loop-met.at) next (c.in_ok-before.ensures.before c.loop-met.at c.loop-met.invariant.within c.loop-met.invariant.is_open) in
    let grown : c.push.new.self.items ≡ c.loop-met.trail.items ++ c.loop-met.at ∷ [] = c.in_ok-push.ensures.items in
    record {
      len = length-set c.loop-met.met.items c.loop-met.at true ∙ c.loop-met.invariant.len;
      within = from_within (length c.args.counts.now) c.args.links.now c.index-at.result.now c.loop-met.at c.requires.ends link.link;
      is_open = link.is_open;
      trail = subst (λ t. IsTrail c.args.links.now c.index-at.result.now t) (sym (ap reverse grown ∙ reverse_last c.loop-met.trail.items c.loop-met.at)) (link.link, c.loop-met.invariant.trail);
      met = λ v h. subst (λ t. has t v ≡ true) (sym grown) (met_more c.loop-met.met.items c.loop-met.trail.items c.loop-met.at v c.loop-met.invariant.met h);
      all_open = λ v h. elim (has_last c.loop-met.trail.items c.loop-met.at v (subst (λ t. has t v ≡ true) grown h)) [
        | inl old ↦ c.loop-met.invariant.all_open v old
        | inr e ↦ subst (λ n. 0 < slice_index c.args.counts.now n) e c.loop-met.invariant.is_open
      ];
    }

pub returns : goal.returns
returns c =
    let r = c.in_ok-last_round.ensures in (
      subst (IsCycle c.args.links.now) (sym r.2) (leads_from_trail c.args.links.now c.loop-met.at c.loop-met.at r.0 r.1 (subst (IsTrail c.args.links.now c.loop-met.at) r.3 c.loop-met.invariant.trail)),
      λ v h. elim (head_or_more c.loop-met.at v r.0 (subst (λ t. has t v ≡ true) r.2 h)) [
        | inl e ↦ subst (λ n. 0 < slice_index c.args.counts.now n) e c.loop-met.invariant.is_open
        | inr more ↦ c.loop-met.invariant.all_open v (sym (has-reverse c.loop-met.trail.items v) ∙ (subst (λ t. has t v ≡ true) (sym r.3) (has_front r.0 (c.loop-met.at ∷ r.1) v more)))
      ],
    )
