-- Whatever follows, what is there with what is left is the whole.
use Rattle.std.proofs.Common.{◌≡◌, ◌++◌, List, drop}
use Rattle.ir_print.specs.Names.{Named, locals_from, labels_from, params_named}
use Rattle.ir_print.proofs.names.Numbering.add_params.Given as goal

abbrev pub invariant-loop-param : goal.invariant-loop-param
invariant-loop-param l = record {
  locals : (rest : List Named) → l.self.locals.items ++ locals_from l.self.next (params_named (drop l.param-index l.params) rest) ≡ l.fn.self.locals.items ++ locals_from l.fn.self.next (params_named l.params rest);
  labels : (rest : List Named) → l.self.labels.items ++ labels_from l.self.next (params_named (drop l.param-index l.params) rest) ≡ l.fn.self.labels.items ++ labels_from l.fn.self.next (params_named l.params rest);
}
