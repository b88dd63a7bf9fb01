-- What is written, with the text of what is left, is the whole.
use Rattle.std.proofs.Common.{◌≡◌, ◌++◌, drop}
use Rattle.ir_print.specs.Text.{more_params}
use Rattle.ir_print.proofs.func.push_more_params.Given as goal

abbrev pub invariant-loop-param : goal.invariant-loop-param
invariant-loop-param l = l.out.items ++ more_params l.names (drop l.param-index l.params) ≡ l.fn.out.items ++ more_params l.names l.params
