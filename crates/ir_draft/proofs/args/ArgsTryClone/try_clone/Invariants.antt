-- What is copied so far, with what is left, is the whole list.
use Rattle.std.proofs.Common.{◌≡◌, ◌++◌, drop}
use Rattle.ir_draft.proofs.args.ArgsTryClone.try_clone.Given as goal

abbrev pub invariant-loop-arg : goal.invariant-loop-arg
invariant-loop-arg l = l.list ++ drop l.arg-index l.args ≡ l.self
