-- A head and a slot are made, which changes no list; then the slot is linked in after the head.
use Rattle.std.proofs.Common.{rules, ◌≡◌, refl, None}
use Rattle.ir_types.specs.declared.id.Id.{Id}
use Rattle.sb_uses.specs.Chains.{lists}
use Rattle.sb_uses.proofs.Steps.{entered-list, same-lists, added-lists, after-known}
use Rattle.sb_uses.proofs.use_lists.UseLists.add.Goals as goal

pub invariant_of-self : goal.invariant_of-self
invariant_of-self c = λ v. (entered-list c.self.inside.chains c.enter.new.self c.self.invariant c.enter.ensures.entered v).1

pub returns-in_err-enter-clause-err : goal.returns-in_err-enter-clause-err
returns-in_err-enter-clause-err c =
    let same : (x : Id) → lists c.enter.new.self x ≡ lists c.args.self.now x = same-lists c.self.inside.chains c.args.self.now c.enter.new.self c.self.view_is c.self.invariant c.enter.ensures.entered in
    search (rules, same)

pub link-requires-clause-after : goal.link-requires-clause-after
link-requires-clause-after c =
    after-known c.enter.new.self c.args.value None ((entered-list c.self.inside.chains c.enter.new.self c.self.invariant c.enter.ensures.entered c.args.value).1) refl

pub invariant_of-self-2 : goal.invariant_of-self-2
invariant_of-self-2 c =
    λ v. (added-lists c.self.inside.chains c.args.self.now c.enter.new.self c.link.new.self c.args.value c.args.used c.self.view_is c.self.invariant c.enter.ensures.entered c.requires c.in_ok-enter.ensures.slot c.link.ensures.linked v).1

pub returns-clause-ok : goal.returns-clause-ok
returns-clause-ok c =
    λ x. (added-lists c.self.inside.chains c.args.self.now c.enter.new.self c.link.new.self c.args.value c.args.used c.self.view_is c.self.invariant c.enter.ensures.entered c.requires c.in_ok-enter.ensures.slot c.link.ensures.linked x).0
