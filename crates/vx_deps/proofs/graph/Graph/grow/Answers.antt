use Rattle.std.proofs.Common.{◌∙◌, ap, sym, map, subst, ◌∷◌}
use Rattle.vx_deps.specs.Graphs.{held, ids_of, as_node, IsRight}
use Rattle.vx_deps.proofs.Growing.{grown, ids_more, held_more}
use Rattle.vx_deps.proofs.graph.Graph.grow.Goals as goal

pub returns-clause-ids : goal.returns-clause-ids
returns-clause-ids g c =
    ap ids_of (ap (map as_node) c.in_ok-push.ensures.ok ∙ held_more c.args.self.now.nodes c.in_ok-node.node) ∙ ids_more (held c.args.self.now) (as_node c.in_ok-node.node)
    ∙ ap (λ x. x ∷ ids_of (held c.args.self.now)) c.in_ok-node.ensures.id

pub returns-clause-right : goal.returns-clause-right
returns-clause-right g c m t f right =
    subst (IsRight m) (sym (ap (map as_node) c.in_ok-push.ensures.ok ∙ held_more c.args.self.now.nodes c.in_ok-node.node))
    (grown m f c.args.id _ (as_node c.in_ok-node.node) (c.in_ok-node.ensures.is m t f) (held c.args.self.now) c.requires.next right)
