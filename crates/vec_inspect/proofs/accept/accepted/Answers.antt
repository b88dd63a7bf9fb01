use Rattle.std.proofs.Common.{sym, subst}
use Rattle.ir_types.specs.Available.{IsAvailable}
use Rattle.ir_types.specs.Formed.{IsFormed}
use Rattle.vec_inspect.proofs.accept.accepted.Goals as goal

pub returns : goal.returns
returns c =
    let from = c.in_ok-module.ensures in
    subst (λ m. IsFormed m) from.4 (c.accepted_is_formed.ensures c.args.bytes.now from.0 from.1 from.2 from.3 (subst (λ m. IsAvailable m) (sym from.4) c.in-Ok.ensures.ok))
