-- The neighbours name each other, so the list is without the use; the newer one tells where it comes back.
use Rattle.std.proofs.Common.{◌≡◌, ◌∙◌, ap, true, sym, subst, None, Some}
use Rattle.vx_view.specs.Uses.{taken}
use Rattle.vx_view.specs.UsesAfter.{with_list}
use Rattle.sb_uses.specs.declared.chains.Chains.{Chains}
use Rattle.sb_uses.specs.Chains.{lists, next, prev, known}
use Rattle.sb_uses.specs.Stock.{stood_after}
use Rattle.sb_uses.proofs.Stocks.{stood-prev}
use Rattle.sb_uses.specs.Places.{has, put}
use Rattle.sb_uses.proofs.Steps.{place-known, after-known, taken-out, can-put, all-back}
use Rattle.sb_uses.proofs.use_lists.UseLists.take.Goals as goal

pub unlink-requires-clause-place : goal.unlink-requires-clause-place
unlink-requires-clause-place c =
    let had : has c.args.used (lists c.self.inside.chains c.args.value) ≡ true = subst (λ (s : Chains). has c.args.used (lists s c.args.value) ≡ true) (sym c.self.view_is) c.requires in
    place-known c.self.inside.chains c.args.value c.args.used (c.self.invariant c.args.value) had

pub unlink-requires-clause-after : goal.unlink-requires-clause-after
unlink-requires-clause-after c =
    let had : has c.args.used (lists c.self.inside.chains c.args.value) ≡ true = subst (λ (s : Chains). has c.args.used (lists s c.args.value) ≡ true) (sym c.self.view_is) c.requires in
    after-known c.self.inside.chains c.args.value (Some c.args.used) (c.self.invariant c.args.value) had

pub invariant_of-self : goal.invariant_of-self
invariant_of-self c =
    let had : has c.args.used (lists c.self.inside.chains c.args.value) ≡ true = subst (λ (s : Chains). has c.args.used (lists s c.args.value) ≡ true) (sym c.self.view_is) c.requires in
    λ v. (taken-out c.self.inside.chains c.unlink.new.self c.args.value c.args.used c.self.invariant had c.unlink.ensures.unlinked v).1

pub returns-clause-now : goal.returns-clause-now
returns-clause-now c =
    let had : has c.args.used (lists c.self.inside.chains c.args.value) ≡ true = subst (λ (s : Chains). has c.args.used (lists s c.args.value) ≡ true) (sym c.self.view_is) c.requires in
    λ x. subst (λ (s : Chains). lists c.unlink.new.self x ≡ with_list c.args.value (taken c.args.used (lists s c.args.value)) (lists s) x) c.self.view_is ((taken-out c.self.inside.chains c.unlink.new.self c.args.value c.args.used c.self.invariant had c.unlink.ensures.unlinked x).0)

pub returns-clause-back : goal.returns-clause-back
returns-clause-back c =
    let had : has c.args.used (lists c.self.inside.chains c.args.value) ≡ true = subst (λ (s : Chains). has c.args.used (lists s c.args.value) ≡ true) (sym c.self.view_is) c.requires in
    λ x. subst
    (λ (s : Chains). with_list c.args.value (put c.newer-newer.result c.args.used (lists c.unlink.new.self c.args.value)) (lists c.unlink.new.self) x ≡ lists s x)
    c.self.view_is
    (all-back c.self.inside.chains c.unlink.new.self c.args.value c.newer-newer.result c.args.used (c.self.invariant c.args.value) had c.newer-newer.ensures (λ y. (taken-out c.self.inside.chains c.unlink.new.self c.args.value c.args.used c.self.invariant had c.unlink.ensures.unlinked y).0) x)

pub returns-clause-can : goal.returns-clause-can
returns-clause-can c =
    let had : has c.args.used (lists c.self.inside.chains c.args.value) ≡ true = subst (λ (s : Chains). has c.args.used (lists s c.args.value) ≡ true) (sym c.self.view_is) c.requires in
    can-put c.self.inside.chains c.unlink.new.self c.args.value c.args.used (record { newer = c.newer-newer.result }) (c.self.invariant c.args.value) had c.newer-newer.ensures ((taken-out c.self.inside.chains c.unlink.new.self c.args.value c.args.used c.self.invariant had c.unlink.ensures.unlinked c.args.value).0) c.unlink.ensures.unlinked.known_is

pub returns-clause-spot : goal.returns-clause-spot
returns-clause-spot c =
    let had : has c.args.used (lists c.self.inside.chains c.args.value) ≡ true = subst (λ (s : Chains). has c.args.used (lists s c.args.value) ≡ true) (sym c.self.view_is) c.requires in
    c.newer-newer.ensures
    ∙ stood-prev (next c.self.inside.chains c.args.value) (prev c.self.inside.chains c.args.value) (known c.self.inside.chains c.args.value) None (lists c.self.inside.chains c.args.value) c.args.used (c.self.invariant c.args.value).seg had
    ∙ ap (λ (s : Chains). stood_after c.args.used (lists s c.args.value)) c.self.view_is
