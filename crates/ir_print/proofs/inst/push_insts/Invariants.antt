-- What is written, with the text of what is left, is the whole.
use Rattle.std.proofs.Common.{◌≡◌, ◌++◌, drop}
use Rattle.ir_print.specs.Instructions.{insts_text}
use Rattle.ir_print.proofs.inst.push_insts.Given as goal

abbrev pub invariant-loop-inst : goal.invariant-loop-inst
invariant-loop-inst l = l.out.items ++ insts_text l.scope.names.now l.scope.globals.now (drop l.inst-index l.insts) ≡ l.fn.out.items ++ insts_text l.scope.names.now l.scope.globals.now l.insts
