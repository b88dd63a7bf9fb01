use Rattle.ir_model.proofs.laws.values_keep_their_shapes.Goals as goal
use Rattle.ir_model.proofs.Sound.{start_shape, operands_have_shapes, steps_keep_shapes, results_have_shapes}

pub returns : goal.returns
returns c = record { start = start_shape; operands = operands_have_shapes; step = steps_keep_shapes; result = results_have_shapes }
