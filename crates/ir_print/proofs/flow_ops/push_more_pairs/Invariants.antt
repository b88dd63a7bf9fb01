-- What is written, with the text of what is left, is the whole.
use Rattle.std.proofs.Common.{◌≡◌, ◌++◌, drop}
use Rattle.ir_print.specs.Instructions.{more_pairs}
use Rattle.ir_print.proofs.flow_ops.push_more_pairs.Given as goal

abbrev pub invariant-loop-opd : goal.invariant-loop-opd
invariant-loop-opd l = l.out.items ++ more_pairs l.scope.names.now l.scope.globals.now (drop l.opd-index l.opds) l.from ≡ l.fn.out.items ++ more_pairs l.scope.names.now l.scope.globals.now l.opds l.fn.blocks
