-- Each turn places the next node; where there is none, a cycle is left.
use Rattle.std.proofs.Common.{◌≡◌, ◌<◌, ◌≤◌, ◌+◌, ◌++◌, ◌∷◌, ◌==◌, ◌||◌, ◌&&◌, [], true, false, cond, ℕ, Some, length, arith, ◌∙◌, ap, sym, subst, slice_index, All, List, not, drop, nat_lt}
use Rattle.std.specs.Ordering.{nat_cmp}
use Rattle.std.specs.BTreeSet.{contains}
use Rattle.vx_order.specs.Groups.{has}
use Rattle.vx_order.specs.Order.{next, place, order_on}
use Rattle.vx_order.specs.Backward.{HasOpenBefore}
use Rattle.vx_order.specs.Walks.{tally, ends_from}
use Rattle.vx_order.proofs.Placing.{IsUnderWay, next_is, next_none, placed_more, both}
use Rattle.vx_order.proofs.Stuck.{links_below, ends_all, empty_has, some_open, open_before, open_is_node, place_none, place_more, release_counted, ends_are_nodes, at_eq, least_le, all_has, row_at, all_last, length_last}
use Rattle.vx_order.proofs.order.order.Goals as goal

pub ends-requires : goal.ends-requires
ends-requires c = λ k d h. (links_below c.args.nodes.now c.args.links.now c.args.bound c.requires.below c.requires.links k d h).0

pub open_counts-requires : goal.open_counts-requires
open_counts-requires c = λ k d h. (links_below c.args.nodes.now c.args.links.now c.args.bound c.requires.below c.requires.links k d h).1

pub first_open-start-requires-clause-some : goal.first_open-start-requires-clause-some
first_open-start-requires-clause-some c =
    let empty : (w : ℕ) → contains nat_cmp c.each.ready w ≡ false = (λ w. empty_has c.each.ready w (λ pos. (let no : false ≡ true = c.in_default.ensures.variant.1 pos in cc))) in
    let few : length c.each.placed.items < length c.args.nodes.now = omega (arith, c.each.invariant.many, c.each-test.true) in
    let found : (k : ℕ) × (k < length c.args.nodes.now) × (0 < slice_index c.each.counts.items (slice_index c.args.nodes.now k))
    = some_open c.args.nodes.now c.args.links.now c.each.placed.items c.each.counts.items (contains nat_cmp c.each.ready) c.requires.ascending c.each.invariant.under empty few in
    (found.0, found.1, subst (λ (xs : List ℕ). 0 < slice_index xs (slice_index c.args.nodes.now found.0)) (sym c.as_slice-in_default.ensures.value) found.2)

pub find_cycle-requires-clause-ends : goal.find_cycle-requires-clause-ends
find_cycle-requires-clause-ends c = subst (λ (n : ℕ). All (λ (l : ℕ × ℕ). (l.0 < n) × (l.1 < n)) c.args.links.now) (sym (ap length c.as_slice-in_default-2.ensures.value ∙ c.each.invariant.len))
    (links_below c.args.nodes.now c.args.links.now c.args.bound c.requires.below c.requires.links)

pub find_cycle-requires-clause-before : goal.find_cycle-requires-clause-before
find_cycle-requires-clause-before c =
    let empty : (w : ℕ) → contains nat_cmp c.each.ready w ≡ false = (λ w. empty_has c.each.ready w (λ pos. (let no : false ≡ true = c.in_default.ensures.variant.1 pos in cc))) in
    subst (λ (xs : List ℕ). HasOpenBefore c.args.links.now xs) (sym c.as_slice-in_default-2.ensures.value)
    (λ v within pos. open_before c.args.nodes.now c.args.links.now c.each.placed.items c.each.counts.items (contains nat_cmp c.each.ready) v c.requires.links c.each.invariant.under empty pos)

pub returns-in_default-clause-refused : goal.returns-in_default-clause-refused
returns-in_default-clause-refused c =
    let empty : (w : ℕ) → contains nat_cmp c.each.ready w ≡ false = (λ w. empty_has c.each.ready w (λ pos. (let no : false ≡ true = c.in_default.ensures.variant.1 pos in cc))) in
    let cycle = c.in_ok-find_cycle.ensures in (
      place_none c.args.nodes.now c.args.links.now c.each.placed.items c.each._node-index c.each-test.true (next_none c.args.nodes.now c.args.links.now c.each.placed.items c.each.counts.items (contains nat_cmp c.each.ready) c.each.invariant.under empty) c.each.invariant.rest,
      cycle.0,
      λ v h. open_is_node c.args.nodes.now c.args.links.now c.each.placed.items c.each.counts.items (contains nat_cmp c.each.ready) v c.requires.links c.each.invariant.under (subst (λ (xs : List ℕ). 0 < slice_index xs v) c.as_slice-in_default-2.ensures.value (cycle.1 v h)),
    )

pub index-requires : goal.index-requires
index-requires c =
    let member : has c.args.nodes.now c.in-Some.node ≡ true = (both (has c.args.nodes.now c.in-Some.node) (not (has c.each.placed.items c.in-Some.node) && (slice_index c.each.counts.items c.in-Some.node == 0)) (sym (c.each.invariant.under.set c.in-Some.node) ∙ c.in-Some.ensures.member)).0 in
    omega (arith, all_has (λ v. v < c.args.bound) c.args.nodes.now c.in-Some.node c.requires.below member, c.in_ok-ends.ensures.0)

pub release-requires-clause-counted : goal.release-requires-clause-counted
release-requires-clause-counted c =
    let member : has c.args.nodes.now c.in-Some.node ≡ true = (both (has c.args.nodes.now c.in-Some.node) (not (has c.each.placed.items c.in-Some.node) && (slice_index c.each.counts.items c.in-Some.node == 0)) (sym (c.each.invariant.under.set c.in-Some.node) ∙ c.in-Some.ensures.member)).0 in
    let within : c.in-Some.node < length c.in_ok-ends.ends.items = omega (arith, all_has (λ v. v < c.args.bound) c.args.nodes.now c.in-Some.node c.requires.below member, c.in_ok-ends.ensures.0) in
    let row : c.as_slice-in-each.result.now ≡ ends_from c.in-Some.node c.args.links.now
    = c.as_slice-in-each.ensures ∙ row_at c.in_ok-ends.ends.items c.in-Some.node c.index.result.now within c.index.ensures ∙ c.in_ok-ends.ensures.1 c.in-Some.node in
    λ v. subst (λ (xs : List ℕ). tally v xs ≤ slice_index c.each.counts.items v) (sym row) (release_counted c.args.nodes.now c.args.links.now c.each.placed.items c.each.counts.items (contains nat_cmp c.each.ready) c.in-Some.node v c.each.invariant.under c.in-Some.ensures.member)

pub release-requires-clause-below : goal.release-requires-clause-below
release-requires-clause-below c =
    let member : has c.args.nodes.now c.in-Some.node ≡ true = (both (has c.args.nodes.now c.in-Some.node) (not (has c.each.placed.items c.in-Some.node) && (slice_index c.each.counts.items c.in-Some.node == 0)) (sym (c.each.invariant.under.set c.in-Some.node) ∙ c.in-Some.ensures.member)).0 in
    let within : c.in-Some.node < length c.in_ok-ends.ends.items = omega (arith, all_has (λ v. v < c.args.bound) c.args.nodes.now c.in-Some.node c.requires.below member, c.in_ok-ends.ensures.0) in
    let row : c.as_slice-in-each.result.now ≡ ends_from c.in-Some.node c.args.links.now
    = c.as_slice-in-each.ensures ∙ row_at c.in_ok-ends.ends.items c.in-Some.node c.index.result.now within c.index.ensures ∙ c.in_ok-ends.ensures.1 c.in-Some.node in
    let low : All (λ e. e < c.args.bound) (ends_from c.in-Some.node c.args.links.now)
    = ends_all (λ e. e < c.args.bound) c.args.links.now c.in-Some.node (λ k d h. (links_below c.args.nodes.now c.args.links.now c.args.bound c.requires.below c.requires.links k d h).1) in
    subst (λ (n : ℕ). All (λ e. e < n) c.as_slice-in-each.result.now) (sym c.each.invariant.len) (subst (λ (xs : List ℕ). All (λ e. e < c.args.bound) xs) (sym row) low)

pub each-preserved : goal.each-preserved
each-preserved c =
    let member : has c.args.nodes.now c.in-Some.node ≡ true = (both (has c.args.nodes.now c.in-Some.node) (not (has c.each.placed.items c.in-Some.node) && (slice_index c.each.counts.items c.in-Some.node == 0)) (sym (c.each.invariant.under.set c.in-Some.node) ∙ c.in-Some.ensures.member)).0 in
    let within : c.in-Some.node < length c.in_ok-ends.ends.items = omega (arith, all_has (λ v. v < c.args.bound) c.args.nodes.now c.in-Some.node c.requires.below member, c.in_ok-ends.ensures.0) in
    let row : c.as_slice-in-each.result.now ≡ ends_from c.in-Some.node c.args.links.now
    = c.as_slice-in-each.ensures ∙ row_at c.in_ok-ends.ends.items c.in-Some.node c.index.result.now within c.index.ensures ∙ c.in_ok-ends.ensures.1 c.in-Some.node in
    let grown : c.push.new.self.items ≡ c.each.placed.items ++ c.in-Some.node ∷ [] = c.in_ok-push.ensures.items in
    let turn : next c.args.nodes.now c.args.links.now c.each.placed.items ≡ Some c.in-Some.node
    = next_is c.args.nodes.now c.args.links.now c.each.placed.items c.each.counts.items (contains nat_cmp c.each.ready) c.in-Some.node c.requires.ascending c.each.invariant.under c.in-Some.ensures.member (λ w t. least_le c.in-Some.node w (c.in-Some.ensures.least w t)) in
    record {
      len = c.in_ok-release.ensures.len ∙ c.each.invariant.len;
      under = subst (λ (xs : List ℕ). IsUnderWay c.args.nodes.now c.args.links.now xs c.release.new.counts.items (contains nat_cmp c.release.new.ready)) (sym grown)
          (placed_more c.args.nodes.now c.args.links.now c.each.placed.items c.each.counts.items c.release.new.counts.items (contains nat_cmp c.each.ready) (contains nat_cmp c.release.new.ready) c.in-Some.node
          c.each.invariant.under c.in-Some.ensures.member
          (λ w. subst (λ (xs : List ℕ). slice_index c.release.new.counts.items w + tally w xs ≡ slice_index c.each.counts.items w) row (c.in_ok-release.ensures.counted w))
          (λ w. subst (λ (xs : List ℕ). contains nat_cmp c.release.new.ready w ≡ (cond (c.in-Some.node == w) false (contains nat_cmp c.each.ready w) || (nat_lt 0 (tally w xs) && (slice_index c.release.new.counts.items w == 0)))) row
          (c.in_ok-release.ensures.ready w ∙ ap (λ b. b || (nat_lt 0 (tally w c.as_slice-in-each.result.now) && (slice_index c.release.new.counts.items w == 0)))
          (c.in-Some.ensures.updates.0 w ∙ ap (λ b. cond b false (contains nat_cmp c.each.ready w)) (at_eq c.in-Some.node w))))
          (λ w h. ends_are_nodes c.args.nodes.now c.args.links.now c.in-Some.node w c.requires.links h));
      rest = subst (λ (xs : List ℕ). place c.args.nodes.now c.args.links.now xs (drop (c.each._node-index + 1) c.args.nodes.now) ≡ order_on c.args.nodes.now c.args.links.now) (sym grown)
          (place_more c.args.nodes.now c.args.links.now c.each.placed.items c.each._node-index c.in-Some.node c.each-test.true turn c.each.invariant.rest);
      below = subst (λ (xs : List ℕ). All (λ v. v < c.args.bound) xs) (sym grown)
          (all_last (λ v. v < c.args.bound) c.each.placed.items c.in-Some.node c.each.invariant.below (all_has (λ v. v < c.args.bound) c.args.nodes.now c.in-Some.node c.requires.below member));
      many = ap length grown ∙ length_last c.each.placed.items c.in-Some.node ∙ ap (λ n. n + 1) c.each.invariant.many;
    }
