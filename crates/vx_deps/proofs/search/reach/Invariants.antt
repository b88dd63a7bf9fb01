use Rattle.std.proofs.Common.{length}
use Rattle.ir_types.specs.declared.module.Module.{Module}
use Rattle.ir_types.specs.Formed.{IsFormed}
use Rattle.vx_view.specs.Views.{StandsFor, Asks}
use Rattle.vx_deps.specs.Reach.{LooksFor}
use Rattle.vx_deps.proofs.Stores.{AreOf, IsLeft}
use Rattle.vx_deps.proofs.search.reach.Given as goal

abbrev pub invariant-loop-store : goal.invariant-loop-store
invariant-loop-store g l = record {
  asks : Asks (λ m. LooksFor m l.all) (g.V.View.seen l.fn.view) (g.V.View.seen l.view);
  are : AreOf l.left l.all;
  left : (m : Module) → StandsFor (g.V.View.seen l.view) m → IsFormed m → IsLeft m l.left l.all;
}

abbrev pub decreases-loop-store : goal.decreases-loop-store
decreases-loop-store g l = length l.left
