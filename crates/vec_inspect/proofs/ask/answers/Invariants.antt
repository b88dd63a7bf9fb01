use Rattle.vec_inspect.specs.Ready.{IsReady}
use Rattle.vec_inspect.proofs.ask.answers.Given as goal

abbrev pub invariant-loop-request : goal.invariant-loop-request
invariant-loop-request g l = IsReady (g.V.View.seen l.view)
