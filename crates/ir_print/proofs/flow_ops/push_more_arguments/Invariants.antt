-- What is written, with the text of what is left, is the whole.
use Rattle.std.proofs.Common.{◌≡◌, ◌++◌, drop}
use Rattle.ir_print.specs.Instructions.{more_arguments}
use Rattle.ir_print.proofs.flow_ops.push_more_arguments.Given as goal

abbrev pub invariant-loop-opd : goal.invariant-loop-opd
invariant-loop-opd l = l.out.items ++ more_arguments l.scope.names.now l.scope.globals.now (drop l.opd-index l.opds) l.texts ≡ l.fn.out.items ++ more_arguments l.scope.names.now l.scope.globals.now l.opds l.fn.attrs
