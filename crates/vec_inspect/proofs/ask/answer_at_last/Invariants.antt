use Rattle.vec_inspect.specs.Ready.{IsReady}
use Rattle.vec_inspect.proofs.ask.answer_at_last.Given as goal

abbrev pub invariant-loop : goal.invariant-loop
invariant-loop g l = IsReady (g.V.View.seen l.view)
