use Rattle.vx_deps.proofs.Nearness.{grows_near}
use Rattle.vx_deps.proofs.laws.orders_read_near.Goals as goal

pub returns : goal.returns
returns c m f insts stores stand ids e q n = grows_near m f insts stores stand ids e q n
