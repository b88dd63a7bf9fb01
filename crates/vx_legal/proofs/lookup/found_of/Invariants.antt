use Rattle.std.proofs.Common.{◌≡◌, true, ◌++◌, length}
use Rattle.ir_types.specs.declared.id.Id.{Id}
use Rattle.ir_types.specs.declared.module.Module.{Module}
use Rattle.ir_types.specs.Formed.{IsFormed}
use Rattle.vx_view.specs.Blocks.{block_at}
use Rattle.vx_view.specs.Views.{StandsFor, Asks}
use Rattle.vx_addr.specs.Walks.{Names}
use Rattle.vx_legal.specs.Found.{found_of, is_lane}
use Rattle.vx_legal.proofs.lookup.found_of.Given as goal

abbrev pub invariant-loop-first : goal.invariant-loop-first
invariant-loop-first g l = record {
  asks : Asks (λ m. Names (is_lane l.fn.lanes)) (g.V.View.seen l.fn.view) (g.V.View.seen l.view);
  is : (m : Module) → StandsFor (g.V.View.seen l.view) m → IsFormed m → l.all ++ found_of (block_at m l.place) l.left ≡ found_of (block_at m l.place) l.fn.lanes;
  lanes : (x : Id) → is_lane l.left x ≡ true → is_lane l.fn.lanes x ≡ true;
}

abbrev pub decreases-loop-first : goal.decreases-loop-first
decreases-loop-first g l = length l.left
