-- What the split owes the table.
use Rattle.std.proofs.Common.{rules}
use Rattle.rg_ticket.proofs.Steps.{splits}
use Rattle.rg_ticket.proofs.tickets.Tickets.split.Goals as goal

pub split_seat-requires : goal.split_seat-requires
split_seat-requires c = (search rules, search rules, splits _ _ c.args.pass.now.seat.me.0 (search rules) (search rules) (search rules))
