-- Where parameters are left, nothing fits.
use Rattle.std.proofs.Common.{sym, ◌∙◌}
use Rattle.vec_words.proofs.Params.{too_few}
use Rattle.vec_words.proofs.arguments.values.Goals as goal

pub returns-in-len1-up-params-2 : goal.returns-in-len1-up-params-2
returns-in-len1-up-params-2 c =
    sym c.each.invariant ∙ too_few c.args.globals.now c.each.next c.each.found c.each.params.now c.each.rest.now c.in_default.len_below c.in-len1-up-params-2.len_at_least
