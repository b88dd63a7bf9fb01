-- Each group puts its number and its position at its members.
use Rattle.std.proofs.Common.{◌≡◌, ◌<◌, [], ℕ, List, All, cond, arith, ◌∙◌, ap, sym, subst, slice_index, get_or}
use Rattle.vx_order.specs.Groups.{has, owner_of, position_of, least, size}
use Rattle.vx_order.proofs.Stuck.{row_at}
use Rattle.vx_order.proofs.Holding.{groups_few, entry, position_is}
use Rattle.vx_order.proofs.table.Table.of.Goals as goal

pub overflow_cast-number : goal.overflow_cast-number
overflow_cast-number c = omega (arith, groups_few c.args.groups.now c.requires.filled, c.requires.bounded, c.loop-number-test.true)

pub fill-requires : goal.fill-requires
fill-requires c =
    let group : c.as_slice-group.result.now ≡ get_or c.args.groups.now c.loop-number.number []
    = c.as_slice-group.ensures ∙ row_at c.args.groups.now c.loop-number.number c.index-groups-number.result c.loop-number-test.true c.index-groups-number.is in
    subst (λ (n : ℕ). All (λ p. p < n) c.as_slice-group.result.now) (sym c.loop-number.invariant.owners_len)
    (subst (λ (xs : List ℕ). All (λ p. p < size c.args.groups.now) xs) (sym group) (c.requires.within c.loop-number.number [] c.loop-number-test.true))

pub fill-requires-in-loop-number : goal.fill-requires-in-loop-number
fill-requires-in-loop-number c =
    let group : c.as_slice-group.result.now ≡ get_or c.args.groups.now c.loop-number.number []
    = c.as_slice-group.ensures ∙ row_at c.args.groups.now c.loop-number.number c.index-groups-number.result c.loop-number-test.true c.index-groups-number.is in
    subst (λ (n : ℕ). All (λ p. p < n) c.as_slice-group.result.now) (sym c.loop-number.invariant.positions_len)
    (subst (λ (xs : List ℕ). All (λ p. p < size c.args.groups.now) xs) (sym group) (c.requires.within c.loop-number.number [] c.loop-number-test.true))

pub loop-number-preserved : goal.loop-number-preserved
loop-number-preserved c =
    let group : c.as_slice-group.result.now ≡ get_or c.args.groups.now c.loop-number.number []
    = c.as_slice-group.ensures ∙ row_at c.args.groups.now c.loop-number.number c.index-groups-number.result c.loop-number-test.true c.index-groups-number.is in
    record {
      owners_len = c.fill.ensures.len ∙ c.loop-number.invariant.owners_len;
      positions_len = c.fill-in-loop-number.ensures.len ∙ c.loop-number.invariant.positions_len;
      owners = λ p h low. entry c.args.groups.now c.loop-number.number p c.loop-number.number (slice_index c.loop-number.owners.items p) (slice_index c.fill.new.table.items p) (owner_of c.args.groups.now) c.requires c.loop-number-test.true low
          (λ e. e) (λ less. c.loop-number.invariant.owners p h less)
          (subst (λ (xs : List ℕ). slice_index c.fill.new.table.items p ≡ cond (has xs p) c.loop-number.number (slice_index c.loop-number.owners.items p)) group (c.fill.ensures.values p (omega (arith, h, c.loop-number.invariant.owners_len))));
      positions = λ p h low. entry c.args.groups.now c.loop-number.number p c.least.result (slice_index c.loop-number.positions.items p) (slice_index c.fill-in-loop-number.new.table.items p) (position_of c.args.groups.now) c.requires c.loop-number-test.true low
          (λ e. position_is c.args.groups.now c.loop-number.number p c.loop-number-test.true e ∙ sym (c.least.ensures ∙ ap least group)) (λ less. c.loop-number.invariant.positions p h less)
          (subst (λ (xs : List ℕ). slice_index c.fill-in-loop-number.new.table.items p ≡ cond (has xs p) c.least.result (slice_index c.loop-number.positions.items p)) group (c.fill-in-loop-number.ensures.values p (omega (arith, h, c.loop-number.invariant.positions_len))));
    }
