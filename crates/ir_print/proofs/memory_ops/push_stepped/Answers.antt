-- The pieces in their order.
use Rattle.ir_print.proofs.Pieces.{four}
use Rattle.ir_print.proofs.memory_ops.push_stepped.Goals as goal

pub returns : goal.returns
returns c = four _ _ _ _ _ _ _ _ _ c.in_ok-extend_from_slice.ensures.items c.in_ok-push_flag.ensures c.in_ok-extend_from_slice-2.ensures.items c.in_ok-push_elem.ensures
