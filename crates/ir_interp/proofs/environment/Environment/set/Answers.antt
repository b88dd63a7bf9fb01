use Rattle.std.proofs.Common.{None}
use Rattle.ir_model.specs.declared.value.Value.TheVariants.{Ptr as PtrValue}
use Rattle.ir_interp.proofs.environment.Environment.set.Goals as goal

pub returns : goal.returns
returns c = c.in_ok-set.ensures (λ x. PtrValue None)
