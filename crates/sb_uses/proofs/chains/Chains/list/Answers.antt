-- What was walked and what is left are the list.
use Rattle.std.proofs.Common.{sym, ap, ◌∙◌, List, [], ◌∷◌, ◌++◌, ◌-◌, Option, Some}
use Rattle.std.proofs.lemmas.List.{append_assoc}
use Rattle.ir_types.specs.declared.id.Use.{Use}
use Rattle.sb_uses.specs.Chains.{next, walk}
use Rattle.sb_uses.proofs.Walking.{step-some}
use Rattle.sb_uses.proofs.chains.Chains.list.Goals as goal

pub loop-left-preserved : goal.loop-left-preserved
loop-left-preserved c =
    let n : Option Use → Option Use = next c.args.self.now c.args.value in
    let rest : List Use = walk n (c.loop-left.left - 1) (Some c.in-Some.used) in
    let step = step-some n c.loop-left.left c.loop-left.at c.in-Some.used c.loop-left-test.true (sym c.older.ensures ∙ c.in-Some.is) in
    ap (λ us. us ++ rest) c.in_ok-push.ensures.ok
    ∙ append_assoc c.loop-left.uses (c.in-Some.used ∷ []) rest
    ∙ ap (λ r. c.loop-left.uses ++ r) (sym step)
    ∙ c.loop-left.invariant
