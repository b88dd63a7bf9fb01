use Rattle.ir_types.specs.declared.module.Module.{Module}
use Rattle.ir_types.specs.Formed.{IsFormed}
use Rattle.vx_view.specs.Views.{StandsFor, Asks}
use Rattle.vx_deps.proofs.Steps.{Backs, Leads}
use Rattle.vx_deps.proofs.trail.back.Given as goal

abbrev pub invariant-loop-trail : goal.invariant-loop-trail
invariant-loop-trail g l = record {
  asks : Asks (Backs l.fn.id) (g.V.View.seen l.fn.view) (g.V.View.seen l.view);
  leads : (m : Module) → StandsFor (g.V.View.seen l.view) m → IsFormed m → Leads l.fn.id m l.trail;
}

abbrev pub decreases-loop-trail : goal.decreases-loop-trail
decreases-loop-trail g l = l.trail.left
