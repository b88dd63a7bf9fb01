-- What the join owes the table.
use Rattle.std.proofs.Common.{rules}
use Rattle.rg_ticket.proofs.Steps.{joins, looks}
use Rattle.rg_ticket.proofs.tickets.Tickets.join.Goals as goal

pub join_seat-requires : goal.join_seat-requires
join_seat-requires c = (search rules, search rules, search rules, search rules, joins _ _ c.args.pass.now.seat.me.0 _ c.args.other.seat.me.0 (search rules))

pub load-requires : goal.load-requires
load-requires c = (search rules, search rules, looks _ _ _ c.join_seat.new.seat.me (search rules))
