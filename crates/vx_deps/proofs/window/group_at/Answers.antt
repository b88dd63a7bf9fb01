use Rattle.std.proofs.Common.{sym}
use Rattle.vx_deps.proofs.Naming.{none_there}
use Rattle.vx_deps.proofs.window.group_at.Goals as goal

pub returns-in-None : goal.returns-in-None
returns-in-None c = none_there c.args.groups.now c.args.number (sym c.in-None.ensures)
