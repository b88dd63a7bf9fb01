-- As many passes were split off as there are drawers, each fresh.
use Rattle.std.proofs.Common.{◌≡◌, true, false, All, vec_len}
use Rattle.rg_ticket.specs.Passes.{view, IsPassOf}
use Rattle.rg_ticket.proofs.tests.hire.Given as goal

abbrev pub invariant-hiring : goal.invariant-hiring
invariant-hiring l = IsPassOf l.tickets l.first × ((view l.first).is_first ≡ true) × ((view l.first).stands_for ≡ 1) × ((view l.first).splits ≡ vec_len l.drawers) × (vec_len l.drawers ≡ l.counter)
    × All (λ d. IsPassOf l.tickets d.pass × ((view d.pass).ended ≡ false) × ((view d.pass).is_first ≡ false) × ((view d.pass).stands_for ≡ 1)) l.drawers.items
