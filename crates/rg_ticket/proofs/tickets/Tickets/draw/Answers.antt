-- What the draw owes the table.
use Rattle.std.proofs.Common.{rules}
use Rattle.rg_ticket.proofs.Steps.{draws}
use Rattle.rg_ticket.proofs.tickets.Tickets.draw.Goals as goal

pub fetch_add-found-requires : goal.fetch_add-found-requires
fetch_add-found-requires c = (search rules, search rules, draws _ _ _ c.args.pass.now.seat.me (search rules) (search rules))
