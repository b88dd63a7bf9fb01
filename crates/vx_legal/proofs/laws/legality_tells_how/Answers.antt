use Rattle.vx_legal.proofs.Telling.{tells}
use Rattle.vx_legal.proofs.laws.legality_tells_how.Goals as goal

pub returns : goal.returns
returns c m block last tree lanes = tells m block last tree lanes
