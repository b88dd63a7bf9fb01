-- The pass keeps its role while it draws, and its list grows up to the limit.
use Rattle.std.proofs.Common.{◌≡◌, false, length, ◌-◌}
use Rattle.rg_ticket.specs.Passes.{view, limit_of, IsPassOf}
use Rattle.rg_ticket.proofs.tests.Drawer.run.Given as goal

abbrev pub invariant-drawing : goal.invariant-drawing
invariant-drawing l = IsPassOf l.tickets l.self.pass × ((view l.self.pass).ended ≡ false) × ((view l.self.pass).is_first ≡ (view l.fn.self.pass).is_first)
    × ((view l.self.pass).stands_for ≡ (view l.fn.self.pass).stands_for) × ((view l.self.pass).splits ≡ (view l.fn.self.pass).splits)

abbrev pub decreases-drawing : goal.decreases-drawing
decreases-drawing l = limit_of l.tickets - length (view l.self.pass).numbers
