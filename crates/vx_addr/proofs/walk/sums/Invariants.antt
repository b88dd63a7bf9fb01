use Rattle.ir_types.specs.declared.module.Module.{Module}
use Rattle.ir_types.specs.Formed.{IsFormed}
use Rattle.vx_view.specs.Blocks.{block_at}
use Rattle.vx_view.specs.Views.{StandsFor, Asks}
use Rattle.vx_addr.specs.Parts.{as_walked}
use Rattle.vx_addr.specs.Walks.{Names, on_rest}
use Rattle.vx_addr.proofs.Steps.{SumLeads}
use Rattle.vx_addr.proofs.walk.sums.Given as goal

abbrev pub invariant-loop-walk : goal.invariant-loop-walk
invariant-loop-walk g l = record {
  asks : Asks (λ m. Names (on_rest (block_at m l.place) (as_walked l.fn.walk))) (g.V.View.seen l.fn.view) (g.V.View.seen l.view);
  leads : (m : Module) → StandsFor (g.V.View.seen l.view) m → IsFormed m → SumLeads (block_at m l.place) (as_walked l.fn.walk) (as_walked l.walk);
}

abbrev pub decreases-loop-walk : goal.decreases-loop-walk
decreases-loop-walk g l = l.walk.left
