use Rattle.std.proofs.Common.{sym, ◌∙◌}
use Rattle.ir_avail.proofs.Stands.{available_param, available_last, miss_none, miss_least}
use Rattle.ir_avail.proofs.miss.least_miss.Goals as goal

pub returns-then-is_param : goal.returns-then-is_param
returns-then-is_param c = available_param c.args.func.now c.args.value c.args.before c.args.end (sym c.if-is_param.ensures)

pub returns-then-is_defined_before : goal.returns-then-is_defined_before
returns-then-is_defined_before c = available_last c.args.func.now c.args.value c.args.before c.args.end (sym c.if-is_defined_before.ensures)

pub returns-in-None : goal.returns-in-None
returns-in-None c =
    miss_none c.args.func.now c.args.value c.args.before c.args.end c.args.graph.now c.deref.result.now c.in_ok-distances.distances.items c.requires
    (c.deref.ensures.value ∙ c.in_ok-barred.ensures) c.in_ok-distances.ensures c.deref-2.result.now c.deref-2.ensures.value c.in-None.ensures

pub returns : goal.returns
returns c =
    miss_least c.args.func.now c.args.value c.args.before c.args.end c.args.graph.now c.deref.result.now c.in_ok-distances.distances.items c.requires
    (c.deref.ensures.value ∙ c.in_ok-barred.ensures) c.in_ok-distances.ensures c.deref-2.result.now c.deref-2.ensures.value c.deref-in-Some.result.now
    c.deref-in-Some.ensures.value c.in-Some.len c.in_ok-least-in-Some.field-0 c.in-Some.ensures c.in_ok-least-in-Some.ensures c.if-is_param.ensures
    c.if-is_defined_before.ensures
