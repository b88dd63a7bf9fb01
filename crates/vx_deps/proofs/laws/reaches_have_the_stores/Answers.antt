use Rattle.vx_deps.proofs.Stores.{near_is, far_is}
use Rattle.vx_deps.proofs.laws.reaches_have_the_stores.Goals as goal

pub returns-clause-near : goal.returns-clause-near
returns-clause-near c m stores ids e = near_is m stores stores ids e

pub returns-clause-far : goal.returns-clause-far
returns-clause-far c m stores e s h = far_is m stores stores e s h
