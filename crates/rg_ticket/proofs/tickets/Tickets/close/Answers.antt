-- What the last state of the table tells of the first pass and the word.
use Rattle.rg_ticket.proofs.Steps.{closes}
use Rattle.rg_ticket.proofs.tickets.Tickets.close.Goals as goal

pub returns-clause-each_once : goal.returns-clause-each_once
returns-clause-each_once c = (closes _ _ _ c.args.pass.seat.me.0 _ _ _ c.args.self.limit_is_key c.close_with-closed.ensures.values.2 c.word-word.ensures c.requires.first c.requires.all_joined).0

pub returns-clause-draws : goal.returns-clause-draws
returns-clause-draws c = (closes _ _ _ c.args.pass.seat.me.0 _ _ _ c.args.self.limit_is_key c.close_with-closed.ensures.values.2 c.word-word.ensures c.requires.first c.requires.all_joined).1
