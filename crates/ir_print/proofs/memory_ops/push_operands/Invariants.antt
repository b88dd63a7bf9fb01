-- What is written, with the text of what is left, is the whole.
use Rattle.std.proofs.Common.{◌≡◌, ◌++◌, drop}
use Rattle.ir_print.specs.Instructions.{indices_text}
use Rattle.ir_print.proofs.memory_ops.push_operands.Given as goal

abbrev pub invariant-loop-opd : goal.invariant-loop-opd
invariant-loop-opd l = l.out.items ++ indices_text l.scope.names.now l.scope.globals.now (drop l.opd-index l.opds) ≡ l.fn.out.items ++ indices_text l.scope.names.now l.scope.globals.now l.opds
