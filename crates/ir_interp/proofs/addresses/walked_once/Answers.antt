use Rattle.std.proofs.Common.{rules}
use Rattle.ir_interp.proofs.Scales.{walked_once-is}
use Rattle.ir_interp.proofs.addresses.walked_once.Goals as goal

pub returns-then-w-le64 : goal.returns-then-w-le64
returns-then-w-le64 c =
    walked_once-is c.args.w _ _ c.args.pointer c.args.index c.stepped.result (search rules) c.scale_of.ensures c.stepped.ensures
