-- Whatever follows, what is there with what is left is the whole.
use Rattle.std.proofs.Common.{◌≡◌, ◌++◌, List, drop}
use Rattle.ir_print.specs.Names.{Named, locals_from, labels_from, insts_named}
use Rattle.ir_print.proofs.names.Numbering.add_insts.Given as goal

abbrev pub invariant-loop-inst : goal.invariant-loop-inst
invariant-loop-inst l = record {
  locals : (rest : List Named) → l.self.locals.items ++ locals_from l.self.next (insts_named (drop l.inst-index l.insts) rest) ≡ l.fn.self.locals.items ++ locals_from l.fn.self.next (insts_named l.insts rest);
  labels : (rest : List Named) → l.self.labels.items ++ labels_from l.self.next (insts_named (drop l.inst-index l.insts) rest) ≡ l.fn.self.labels.items ++ labels_from l.fn.self.next (insts_named l.insts rest);
}
