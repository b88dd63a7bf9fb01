use Rattle.std.proofs.Common.{◌≡◌, ◌∙◌, sym, ap, subst, inl, inr}
use Rattle.ir_types.specs.declared.id.Id.{Id}
use Rattle.ir_types.specs.declared.module.Module.{Module}
use Rattle.ir_types.specs.Formed.{IsFormed}
use Rattle.vx_view.specs.declared.question.Question.TheVariants as ask
use Rattle.vx_view.specs.Answers.{answer}
use Rattle.ir_types.specs.declared.inst.Inst.{Inst}
use Rattle.vx_view.specs.UsesAfter.{Contents}
use Rattle.vx_view.specs.Blocks.{block_at}
use Rattle.vx_view.specs.Conflicts.{access_of}
use Rattle.vx_view.specs.Views.{StandsFor, Asks}
use Rattle.vx_view.proofs.Asking.{asks_none, asks_one, asks_then}
use Rattle.vx_addr.specs.Walks.{Names, on_access}
use Rattle.vx_addr.proofs.Lookups.{if_ok}
use Rattle.vx_deps.specs.declared.node.Node.{Node}
use Rattle.vx_deps.specs.Reach.{id_answered}
use Rattle.vx_deps.specs.Graphs.{as_node, IsKeptOf, IsNodeOf, NamesNode}
use Rattle.vx_deps.proofs.Growing.{node_is, node_names, id_stands}
use Rattle.vx_deps.proofs.node.node_of.Goals as goal

pub returns-in_err-answer-clause-asks : goal.returns-in_err-answer-clause-asks
returns-in_err-answer-clause-asks g c =
    let next : Asks (λ m q. q ≡ ask.Next c.args.id) (g.V.View.seen c.args.view.now) (g.V.View.seen c.ask.new.self) =
    asks_one (ask.Next c.args.id) c.in_ok-ask.field-0 (g.V.View.seen c.args.view.now) (g.V.View.seen c.ask.new.self) c.in_ok-ask.ensures.noted c.in_ok-ask.ensures.own
    in
    subst (Asks (λ m. NamesNode m c.args.id) (g.V.View.seen c.args.view.now)) (sym c.in_err-answer.ensures.err)
    (asks_then (λ m q. q ≡ ask.Next c.args.id) (λ m q. q ≡ ask.Next c.args.id) (λ m. NamesNode m c.args.id) (g.V.View.seen c.args.view.now) (g.V.View.seen c.ask.new.self) (g.V.View.seen c.ask.new.self)
    next (asks_none (λ m q. q ≡ ask.Next c.args.id) (g.V.View.seen c.ask.new.self)) (λ m t f q e. inl e) (λ m t f q e. inl e))

pub returns-clause-is : goal.returns-clause-is
returns-clause-is g c =
    let id : Id = c.args.id in
    let own : Module = (g.V.View.seen c.args.view.now).contents.own in
    let next : Asks (λ m q. q ≡ ask.Next id) (g.V.View.seen c.args.view.now) (g.V.View.seen c.ask.new.self) =
    asks_one (ask.Next id) c.in_ok-ask.field-0 (g.V.View.seen c.args.view.now) (g.V.View.seen c.ask.new.self) c.in_ok-ask.ensures.noted c.in_ok-ask.ensures.own
    in
    let inst : Asks (λ m q. q ≡ ask.Inst id) (g.V.View.seen c.ask.new.self) (g.V.View.seen c.ask-2.new.self) =
    asks_one (ask.Inst id) c.in_ok-answer.answer (g.V.View.seen c.ask.new.self) (g.V.View.seen c.ask-2.new.self) c.in_ok-answer.ensures.noted c.in_ok-answer.ensures.own
    in
    let same : (g.V.View.seen c.ask.new.self).contents.own ≡ own = ap (λ (s : Contents). s.own) next.contents in
    let own_next : answer own (ask.Next id) ≡ c.in_ok-ask.field-0 =
    ap (λ m. answer m (ask.Next id)) (sym same) ∙ c.in_ok-ask.ensures.answers (g.V.View.seen c.ask.new.self).contents.own c.in_ok-ask.ensures.own
    in
    let P : Node → Type 0 = λ node. (m : Module) → StandsFor (g.V.View.seen c.standing.new.view) m → IsFormed m → IsKeptOf (block_at m c.in-Inst.place) m c.in-Inst.inst (as_node node) in
    let Q : Node → Type 0 = λ node. (m : Module) → StandsFor (g.V.View.seen c.standing.new.view) m → IsFormed m → IsNodeOf m id (id_answered (answer own (ask.Next id))) (as_node node) in
    if_ok c.standing.result P Q
    (λ node h m t f.
    let here = c.standing.ensures.asks.narrows m t in
    node_is m f id c.in-Inst.place c.in-Inst.inst (id_answered (answer own (ask.Next id))) (as_node node) (c.in_ok-answer.ensures.answers m here ∙ c.in-Inst.is)
    (ap id_answered (c.in_ok-ask.ensures.answers m (inst.narrows m here) ∙ sym own_next)) (h m t f))
    c.standing.ensures.is

pub returns-clause-id : goal.returns-clause-id
returns-clause-id g c =
    let id : Id = c.args.id in
    let own : Module = (g.V.View.seen c.ask-2.new.self).contents.own in
    if_ok c.standing.result (λ node. node.inst ≡ c.in-Inst.inst) (λ node. node.inst.id ≡ id)
    (λ node h.
    ap (λ (i : Inst). i.id) h ∙ id_stands own id c.in-Inst.place c.in-Inst.inst (c.in_ok-answer.ensures.answers own c.in_ok-answer.ensures.own ∙ c.in-Inst.is))
    c.standing.ensures.inst

pub returns-clause-asks : goal.returns-clause-asks
returns-clause-asks g c =
    let id : Id = c.args.id in
    let next : Asks (λ m q. q ≡ ask.Next id) (g.V.View.seen c.args.view.now) (g.V.View.seen c.ask.new.self) =
    asks_one (ask.Next id) c.in_ok-ask.field-0 (g.V.View.seen c.args.view.now) (g.V.View.seen c.ask.new.self) c.in_ok-ask.ensures.noted c.in_ok-ask.ensures.own
    in
    let inst : Asks (λ m q. q ≡ ask.Inst id) (g.V.View.seen c.ask.new.self) (g.V.View.seen c.ask-2.new.self) =
    asks_one (ask.Inst id) c.in_ok-answer.answer (g.V.View.seen c.ask.new.self) (g.V.View.seen c.ask-2.new.self) c.in_ok-answer.ensures.noted c.in_ok-answer.ensures.own
    in
    let both : Asks (λ m. NamesNode m id) (g.V.View.seen c.args.view.now) (g.V.View.seen c.ask-2.new.self) =
    asks_then (λ m q. q ≡ ask.Next id) (λ m q. q ≡ ask.Inst id) (λ m. NamesNode m id) (g.V.View.seen c.args.view.now) (g.V.View.seen c.ask.new.self) (g.V.View.seen c.ask-2.new.self)
    next inst (λ m t f q e. inl e) (λ m t f q e. inr (inl e))
    in
    asks_then (λ m. NamesNode m id) (λ m. Names (on_access (block_at m c.in-Inst.place) (access_of c.in-Inst.inst))) (λ m. NamesNode m id)
    (g.V.View.seen c.args.view.now) (g.V.View.seen c.ask-2.new.self) (g.V.View.seen c.standing.new.view) both c.standing.ensures.asks (λ m t f q n. n)
    (λ m t f q n.
    inr (inr (node_names m id c.in-Inst.place c.in-Inst.inst (c.in_ok-answer.ensures.answers m (c.standing.ensures.asks.narrows m t) ∙ c.in-Inst.is) q n)))
