-- What is written, with the text of what is left, is the whole.
use Rattle.std.proofs.Common.{◌≡◌, ◌++◌, drop}
use Rattle.ir_print.specs.Instructions.{cases_text}
use Rattle.ir_print.proofs.flow_ops.push_cases.Given as goal

abbrev pub invariant-loop-case : goal.invariant-loop-case
invariant-loop-case l = l.out.items ++ cases_text l.names l.w (drop l.case-index l.cases) l.targets ≡ l.fn.out.items ++ cases_text l.names l.w l.cases l.fn.to
