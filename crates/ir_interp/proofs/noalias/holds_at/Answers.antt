use Rattle.std.proofs.Common.{◌+◌, ◌++◌, ◌||◌, not, reverse, take, drop, sym, ap, ◌∙◌}
use Rattle.std.proofs.lemmas.Option.{get_or_from_slice_get}
use Rattle.ir_model.specs.Run.{is_unshared}
use Rattle.ir_interp.proofs.Alone.{holds_at-is}
use Rattle.ir_interp.proofs.noalias.holds_at.Goals as goal

pub returns-else-not-noalias : goal.returns-else-not-noalias
returns-else-not-noalias c = λ value got.
    let args = c.args.args.now in
    let at = c.args.at in
    let v = c.index-args-at.result in
    holds_at-is c.args.globals v value args at c.is_unshared.result (c.index-args-at.is ∙ get_or_from_slice_get args at value v got) c.is_unshared.ensures
    ∙ ap (λ noalias. not noalias || is_unshared c.args.globals value (reverse (take at args) ++ drop (at + 1) args)) (sym c.if-not-noalias.false)
