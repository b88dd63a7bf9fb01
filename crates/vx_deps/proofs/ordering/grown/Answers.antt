use Rattle.std.proofs.Common.{◌≡◌, ◌∙◌, sym, ap, subst, List, [], ◌∷◌, ◌++◌, append_assoc}
use Rattle.ir_types.specs.declared.id.Id.{Id}
use Rattle.ir_types.specs.declared.module.Module.{Module}
use Rattle.vx_view.specs.UsesAfter.{Contents}
use Rattle.vx_view.proofs.Asking.{asks_then}
use Rattle.vx_deps.specs.Graphs.{held, ids_of, NamesNode}
use Rattle.vx_deps.specs.Ordered.{FollowOn, NamesRow}
use Rattle.vx_deps.proofs.Following.{follow_at, names_row}
use Rattle.vx_deps.proofs.ordering.grown.Goals as goal

pub grow-requires-clause-there : goal.grow-requires-clause-there
grow-requires-clause-there g c =
    let last : Id = c.in-Some.last.now in
    let more : List Id = c.in-Some.more.now in
    let ids : List Id = ids_of (held c.loop-last.graph) in
    let whole : more ++ last ∷ ids ≡ c.args.ids.now =
    sym (append_assoc more (last ∷ []) ids) ∙ ap (λ l. l ++ ids) (sym c.in-Some.ensures.cases.0) ∙ c.loop-last.invariant.ids
    in
    let follow : FollowOn (g.V.View.seen c.loop-last.view).contents.own (more ++ last ∷ ids) =
    subst (FollowOn (g.V.View.seen c.loop-last.view).contents.own) (sym whole)
    (subst (λ (m : Module). FollowOn m c.args.ids.now) (ap (λ (s : Contents). s.own) (sym c.loop-last.invariant.asks.contents)) c.requires.row)
    in
    (follow_at (g.V.View.seen c.loop-last.view).contents.own more last ids follow).0

pub grow-requires-clause-next : goal.grow-requires-clause-next
grow-requires-clause-next g c =
    let last : Id = c.in-Some.last.now in
    let more : List Id = c.in-Some.more.now in
    let ids : List Id = ids_of (held c.loop-last.graph) in
    let whole : more ++ last ∷ ids ≡ c.args.ids.now =
    sym (append_assoc more (last ∷ []) ids) ∙ ap (λ l. l ++ ids) (sym c.in-Some.ensures.cases.0) ∙ c.loop-last.invariant.ids
    in
    let follow : FollowOn (g.V.View.seen c.loop-last.view).contents.own (more ++ last ∷ ids) =
    subst (FollowOn (g.V.View.seen c.loop-last.view).contents.own) (sym whole)
    (subst (λ (m : Module). FollowOn m c.args.ids.now) (ap (λ (s : Contents). s.own) (sym c.loop-last.invariant.asks.contents)) c.requires.row)
    in
    (follow_at (g.V.View.seen c.loop-last.view).contents.own more last ids follow).1

pub returns-in_err-grow-clause-asks : goal.returns-in_err-grow-clause-asks
returns-in_err-grow-clause-asks g c =
    let last : Id = c.in-Some.last.now in
    let more : List Id = c.in-Some.more.now in
    let ids : List Id = ids_of (held c.loop-last.graph) in
    let whole : more ++ last ∷ ids ≡ c.args.ids.now =
    sym (append_assoc more (last ∷ []) ids) ∙ ap (λ l. l ++ ids) (sym c.in-Some.ensures.cases.0) ∙ c.loop-last.invariant.ids
    in
    asks_then (λ m. NamesRow m c.args.ids.now) (λ m. NamesNode m last) (λ m. NamesRow m c.args.ids.now) (g.V.View.seen c.args.view.now) (g.V.View.seen c.loop-last.view) (g.V.View.seen c.grow.new.view)
    c.loop-last.invariant.asks c.in_err-grow.ensures.asks (λ m t f q n. n) (λ m t f. names_row m c.args.ids.now more last ids whole)

pub loop-last-preserved : goal.loop-last-preserved
loop-last-preserved g c =
    let last : Id = c.in-Some.last.now in
    let more : List Id = c.in-Some.more.now in
    let ids : List Id = ids_of (held c.loop-last.graph) in
    let whole : more ++ last ∷ ids ≡ c.args.ids.now =
    sym (append_assoc more (last ∷ []) ids) ∙ ap (λ l. l ++ ids) (sym c.in-Some.ensures.cases.0) ∙ c.loop-last.invariant.ids
    in
    record {
      asks =
          asks_then (λ m. NamesRow m c.args.ids.now) (λ m. NamesNode m last) (λ m. NamesRow m c.args.ids.now) (g.V.View.seen c.args.view.now) (g.V.View.seen c.loop-last.view) (g.V.View.seen c.grow.new.view)
          c.loop-last.invariant.asks c.in_ok-grow.ensures.asks (λ m t f q n. n) (λ m t f. names_row m c.args.ids.now more last ids whole);
      ids = ap (λ l. more ++ l) c.in_ok-grow.ensures.ids ∙ whole;
      right = λ m t f. c.in_ok-grow.ensures.right m t f (c.loop-last.invariant.right m (c.in_ok-grow.ensures.asks.narrows m t) f);
    }
