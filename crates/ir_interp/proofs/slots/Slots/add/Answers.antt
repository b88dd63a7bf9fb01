use Rattle.ir_interp.proofs.Known.{add_over, kept_over}
use Rattle.ir_interp.proofs.slots.Slots.add.Goals as goal

pub returns-in_ok-set : goal.returns-in_ok-set
returns-in_ok-set g c =
    add_over c.args.self.now.items c.set.new.self c.args.id c.args.item c.get.result c.get.ensures c.if-is_none.ensures c.in_ok-set.ensures.ok

pub returns-else-is_none : goal.returns-else-is_none
returns-else-is_none g c = kept_over c.args.self.now.items c.args.id c.args.item c.get.result c.get.ensures c.if-is_none.ensures
