use Rattle.vx_addr.proofs.Comparing.{effects_are}
use Rattle.vx_addr.proofs.effects.effects_tell_conflicts.Goals as goal

pub returns : goal.returns
returns c m block i j = effects_are m block i j
