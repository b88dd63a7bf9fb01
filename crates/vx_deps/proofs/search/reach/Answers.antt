use Rattle.std.proofs.Common.{◌≡◌, ◌∙◌, sym, subst, ◌∷◌, List}
use Rattle.ir_types.specs.declared.id.Id.{Id}
use Rattle.vx_view.specs.Views.{Asks}
use Rattle.vx_view.proofs.Asking.{asks_then}
use Rattle.vx_deps.specs.Reach.{LooksFor, LooksAt}
use Rattle.vx_deps.proofs.Stores.{AreOf, IsLeft, fewer, looks_for, is_without, parts_is}
use Rattle.vx_deps.proofs.search.reach.Goals as goal

pub returns-in_err-ids-clause-asks : goal.returns-in_err-ids-clause-asks
returns-in_err-ids-clause-asks g c =
    let all : List Id = c.as_slice-all.result.now in
    let store : Id = c.in-Some.store in
    let more : List Id = c.in-Some.more.now in
    let are : AreOf (store ∷ more) all = subst (λ l. AreOf l all) (parts_is c.loop-store.left.now more store c.in-Some.ensures) c.loop-store.invariant.are in
    subst (λ s. Asks (λ m. LooksFor m s) (g.V.View.seen c.args.view.now) (g.V.View.seen c.looked_at.new.view)) c.as_slice-all.ensures
    (asks_then (λ m. LooksFor m all) (λ m. LooksAt m store) (λ m. LooksFor m all) (g.V.View.seen c.args.view.now) (g.V.View.seen c.loop-store.view) (g.V.View.seen c.looked_at.new.view)
    c.loop-store.invariant.asks c.in_err-ids.ensures.asks (λ m t f q n. n) (λ m t f. looks_for m store more all are))

pub returns-then-has_all-clause-asks : goal.returns-then-has_all-clause-asks
returns-then-has_all-clause-asks g c =
    let all : List Id = c.as_slice-all.result.now in
    let store : Id = c.in-Some.store in
    let more : List Id = c.in-Some.more.now in
    let are : AreOf (store ∷ more) all = subst (λ l. AreOf l all) (parts_is c.loop-store.left.now more store c.in-Some.ensures) c.loop-store.invariant.are in
    subst (λ s. Asks (λ m. LooksFor m s) (g.V.View.seen c.args.view.now) (g.V.View.seen c.looked_at.new.view)) c.as_slice-all.ensures
    (asks_then (λ m. LooksFor m all) (λ m. LooksAt m store) (λ m. LooksFor m all) (g.V.View.seen c.args.view.now) (g.V.View.seen c.loop-store.view) (g.V.View.seen c.looked_at.new.view)
    c.loop-store.invariant.asks c.in_ok-ids.ensures.asks (λ m t f q n. n) (λ m t f. looks_for m store more all are))

pub loop-store-preserved : goal.loop-store-preserved
loop-store-preserved g c =
    let all : List Id = c.as_slice-all.result.now in
    let store : Id = c.in-Some.store in
    let more : List Id = c.in-Some.more.now in
    let split : c.loop-store.left.now ≡ store ∷ more = parts_is c.loop-store.left.now more store c.in-Some.ensures in
    let are : AreOf (store ∷ more) all = subst (λ l. AreOf l all) split c.loop-store.invariant.are in
    let asks = c.in_ok-ids.ensures.asks in
    record {
      asks =
          asks_then (λ m. LooksFor m all) (λ m. LooksAt m store) (λ m. LooksFor m all) (g.V.View.seen c.args.view.now) (g.V.View.seen c.loop-store.view) (g.V.View.seen c.looked_at.new.view)
          c.loop-store.invariant.asks asks (λ m t f q n. n) (λ m t f. looks_for m store more all are);
      are = fewer store more all are;
      left = λ m t f.
          is_without m store more all c.in_ok-ids.ids (subst (λ l. IsLeft m l all) split (c.loop-store.invariant.left m (asks.narrows m t) f))
          (c.in_ok-ids.ensures.is m t f) (sym c.has_all.ensures ∙ c.if-has_all.false);
    }
