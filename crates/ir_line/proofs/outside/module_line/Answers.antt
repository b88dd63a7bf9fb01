-- The answer is what was read, which is what is spelled.
use Rattle.std.proofs.Common.{subst}
use Rattle.ir_line.specs.Outside.{read_outside}
use Rattle.ir_line.specs.Answers.{Answers}
use Rattle.ir_line.proofs.Answering.{found_by}
use Rattle.ir_line.proofs.OutsideLines.{outside_spelled, outside_read}
use Rattle.ir_line.proofs.outside.module_line.Goals as goal

pub returns-clause-only : goal.returns-clause-only
returns-clause-only c =
    let same : Answers c.numbered.result (read_outside c.args.line.now c.args.t.now) = c.numbered.ensures.same _ c.read_outside.ensures in
    λ l s. subst (Answers c.numbered.result) (outside_read _ _ s) same

pub returns-clause-found : goal.returns-clause-found
returns-clause-found c =
    let same : Answers c.numbered.result (read_outside c.args.line.now c.args.t.now) = c.numbered.ensures.same _ c.read_outside.ensures in
    found_by c.numbered.result _ same (λ l e. outside_spelled _ _ l e)
