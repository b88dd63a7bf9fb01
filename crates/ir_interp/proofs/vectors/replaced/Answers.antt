use Rattle.std.proofs.Common.{rules}
use Rattle.ir_interp.proofs.Pieces.{replaced-pieces}
use Rattle.ir_interp.proofs.vectors.replaced.Goals as goal

pub returns : goal.returns
returns c =
    replaced-pieces c.args.lanes.now c.args.at c.args.lane _ _ _ _ (search rules)
    c.new-done.ensures c.in_ok-push_all.ensures c.in_ok-push.ensures.ok c.in_ok-push_all-2.ensures
