use Rattle.std.proofs.Common.{sym, ◌∙◌}
use Rattle.ir_avail.proofs.Stands.{param_at}
use Rattle.ir_avail.proofs.known.is_param_at.Goals as goal

pub returns-in-Some : goal.returns-in-Some
returns-in-Some c holds =
    param_at c.args.func.now c.args.value c.args.number c.in-Some.param.now c.in-Some.ensures (sym c.same.ensures ∙ holds)
