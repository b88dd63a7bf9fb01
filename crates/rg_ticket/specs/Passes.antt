-- What contracts see of a pass and of the tickets.
use Rattle.std.specs.Prelude.{◌≡◌, ℕ}
use Rattle.rg_ticket.specs.declared.hand.Hand.{Hand}
use Rattle.rg_ticket.specs.declared.pass.Pass.{Pass}
use Rattle.rg_ticket.specs.declared.tickets.Tickets.{Tickets}

-- the hand of a pass
abbrev pub view : Pass → Hand
view pass = pass.seat.me.0

-- the limit of the tickets: the numbers that can be drawn are those below it
abbrev pub limit_of : Tickets → ℕ
limit_of tickets = tickets.limit

-- the pass is one of these tickets
abbrev pub IsPassOf : Tickets → Pass → Type 0
IsPassOf tickets pass = (pass.seat.table_id ≡ tickets.table.shared.table_id) × ((view pass).limit ≡ limit_of tickets)
