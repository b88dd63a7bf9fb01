use Rattle.vx_seeds.proofs.Answering.{add_new, add_known}
use Rattle.vx_seeds.proofs.known.add.Goals as goal

pub returns-in_ok-set : goal.returns-in_ok-set
returns-in_ok-set c =
    add_new c.args.table.now c.set.new.self c.args.id c.args.known c.get.result c.get.ensures c.if-is_none.ensures c.in_ok-set.ensures.ok

pub returns-else-is_none : goal.returns-else-is_none
returns-else-is_none c = add_known c.args.table.now c.args.id c.args.known c.get.result c.get.ensures c.if-is_none.ensures
