use Rattle.vx_deps.proofs.Nearness.{near}
use Rattle.vx_deps.proofs.laws.reads_are_near.Goals as goal

pub returns : goal.returns
returns c m f insts stores stand q l = near m f insts stores stand q l
