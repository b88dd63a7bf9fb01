use Rattle.std.proofs.Common.{sym, ap, ◌∙◌, ◌++◌, ◌∷◌, [], pos, Some, take}
use Rattle.std.proofs.lemmas.Grind.{take_at_read}
use Rattle.vx_serial.specs.Pair.{leads_at_start, set_lead}
use Rattle.vx_serial.proofs.Start.{leads_at_start-more}
use Rattle.vx_serial.proofs.pairing.leads.Known.at_start.Goals as goal

pub loop-param-preserved : goal.loop-param-preserved
loop-param-preserved c =
    c.in_ok-set.ensures
    ∙ ap (λ leads. set_lead leads c.param-item.result.id (Some (c.param-item.result.id, pos 0))) c.loop-param.invariant
    ∙ sym (leads_at_start-more (take c.loop-param.param-index c.args.params.now) c.param-item.result)
    ∙ ap leads_at_start (ap (λ p. take c.loop-param.param-index c.args.params.now ++ p ∷ []) c.param-item.is ∙ sym (take_at_read c.args.params.now c.loop-param.param-index c.param-item.result c.loop-param-test.true).1)
