-- A name inside a function comes before one that is defined twice later in the module.
use Rattle.ir_types_check.proofs.Heads.{found_then_own, tops_then_own}
use Rattle.ir_types_check.proofs.tops.names_of.Goals as goal

pub returns-in-Ok : goal.returns-in-Ok
returns-in-Ok c = found_then_own c.heads_of.result c.args.items.now c.heads_of.ensures _ c.in-Ok.is

pub returns : goal.returns
returns c = tops_then_own c.tops_of.result c.args.items.now c.tops_of.ensures
