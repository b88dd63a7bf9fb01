-- The slot is linked in after the neighbour that the spot names.
use Rattle.std.proofs.Common.{◌≡◌, sym, subst}
use Rattle.vx_view.specs.UsesAfter.{with_list}
use Rattle.sb_uses.specs.declared.chains.Chains.{Chains}
use Rattle.sb_uses.specs.Chains.{lists}
use Rattle.sb_uses.specs.Places.{put}
use Rattle.sb_uses.specs.Spots.{CanPutBack}
use Rattle.sb_uses.proofs.Steps.{newer-known, after-known, put-in-list}
use Rattle.sb_uses.proofs.use_lists.UseLists.put_back.Goals as goal

pub link-requires-clause-place : goal.link-requires-clause-place
link-requires-clause-place c =
    let can : CanPutBack c.self.inside.chains c.args.value c.args.used c.args.spot = subst (λ (s : Chains). CanPutBack s c.args.value c.args.used c.args.spot) (sym c.self.view_is) c.requires in
    newer-known c.self.inside.chains c.args.value c.args.spot.newer (c.self.invariant c.args.value) can.head can.place

pub link-requires-clause-after : goal.link-requires-clause-after
link-requires-clause-after c =
    let can : CanPutBack c.self.inside.chains c.args.value c.args.used c.args.spot = subst (λ (s : Chains). CanPutBack s c.args.value c.args.used c.args.spot) (sym c.self.view_is) c.requires in
    after-known c.self.inside.chains c.args.value c.args.spot.newer (c.self.invariant c.args.value) can.place

pub invariant_of-self : goal.invariant_of-self
invariant_of-self c =
    let can : CanPutBack c.self.inside.chains c.args.value c.args.used c.args.spot = subst (λ (s : Chains). CanPutBack s c.args.value c.args.used c.args.spot) (sym c.self.view_is) c.requires in
    λ v. (put-in-list c.self.inside.chains c.link.new.self c.args.value c.args.spot.newer c.args.used c.self.invariant can.lacks can.place can.slot c.link.ensures.linked v).1

pub returns-clause-now : goal.returns-clause-now
returns-clause-now c =
    let can : CanPutBack c.self.inside.chains c.args.value c.args.used c.args.spot = subst (λ (s : Chains). CanPutBack s c.args.value c.args.used c.args.spot) (sym c.self.view_is) c.requires in
    λ x. subst
    (λ (s : Chains). lists c.link.new.self x ≡ with_list c.args.value (put c.args.spot.newer c.args.used (lists s c.args.value)) (lists s) x)
    c.self.view_is
    ((put-in-list c.self.inside.chains c.link.new.self c.args.value c.args.spot.newer c.args.used c.self.invariant can.lacks can.place can.slot c.link.ensures.linked x).0)
