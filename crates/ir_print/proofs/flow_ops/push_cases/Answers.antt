-- Where the targets end first, nothing is left to write.
use Rattle.std.proofs.Common.{◌++◌, ◌∙◌, ap, sym, append-nil}
use Rattle.ir_print.proofs.Pieces.{cases_end}
use Rattle.ir_print.proofs.flow_ops.push_cases.Goals as goal

pub returns-in-empty : goal.returns-in-empty
returns-in-empty c = sym (append-nil c.loop-case.out.items) ∙ ap (λ t. c.loop-case.out.items ++ t) (sym (cases_end c.args.names.now c.args.w _ c.loop-case.targets.now c.in-empty.len_below)) ∙ c.loop-case.invariant
