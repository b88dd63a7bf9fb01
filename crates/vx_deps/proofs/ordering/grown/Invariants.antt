use Rattle.std.proofs.Common.{◌≡◌, ◌++◌, length}
use Rattle.ir_types.specs.declared.module.Module.{Module}
use Rattle.ir_types.specs.Formed.{IsFormed}
use Rattle.vx_view.specs.Views.{StandsFor, Asks}
use Rattle.vx_deps.specs.Graphs.{held, ids_of, IsRight}
use Rattle.vx_deps.specs.Ordered.{NamesRow}
use Rattle.vx_deps.proofs.ordering.grown.Given as goal

abbrev pub invariant-loop-last : goal.invariant-loop-last
invariant-loop-last g l = record {
  asks : Asks (λ m. NamesRow m l.fn.ids) (g.V.View.seen l.fn.view) (g.V.View.seen l.view);
  ids : l.left ++ ids_of (held l.graph) ≡ l.fn.ids;
  right : (m : Module) → StandsFor (g.V.View.seen l.view) m → IsFormed m → IsRight m (held l.graph);
}

abbrev pub decreases-loop-last : goal.decreases-loop-last
decreases-loop-last g l = length l.left
