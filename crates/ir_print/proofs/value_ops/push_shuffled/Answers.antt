-- The pieces in their order.
use Rattle.ir_print.proofs.Pieces.{three}
use Rattle.ir_print.proofs.value_ops.push_shuffled.Goals as goal

pub returns : goal.returns
returns c = three _ _ _ _ _ _ _ c.in_ok-extend_from_slice.ensures.items c.in_ok-push_two_typed.ensures c.in_ok-extend_from_slice-2.ensures.items
