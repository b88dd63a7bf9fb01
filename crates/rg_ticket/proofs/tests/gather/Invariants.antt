-- The first pass stands for the passes joined so far, and those left stand for one each.
use Rattle.std.proofs.Common.{◌≡◌, ◌+◌, false, All, vec_len}
use Rattle.rg_ticket.specs.Passes.{view, IsPassOf}
use Rattle.rg_ticket.proofs.tests.gather.Given as goal

abbrev pub invariant-joining : goal.invariant-joining
invariant-joining l = IsPassOf l.tickets l.first × ((view l.first).is_first ≡ (view l.fn.first).is_first) × ((view l.first).splits ≡ (view l.fn.first).splits)
    × ((view l.first).stands_for + vec_len l.drawers ≡ (view l.fn.first).stands_for + vec_len l.fn.drawers)
    × All (λ d. IsPassOf l.tickets d.pass × ((view d.pass).is_first ≡ false) × ((view d.pass).stands_for ≡ 1)) l.drawers.items

abbrev pub decreases-joining : goal.decreases-joining
decreases-joining l = vec_len l.drawers
