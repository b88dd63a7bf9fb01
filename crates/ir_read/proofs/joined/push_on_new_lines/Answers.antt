-- One line more is written, and one fewer is left.
use Rattle.std.proofs.Common.{◌++◌, ◌-◌, ◌∙◌, ap, take}
use Rattle.ir_read.specs.Lines.{lines_of}
use Rattle.ir_read.specs.Opaque.{on_new_lines}
use Rattle.ir_read.proofs.Joining.{one_pushed}
use Rattle.ir_read.proofs.joined.push_on_new_lines.Goals as goal

pub loop-left-preserved : goal.loop-left-preserved
loop-left-preserved c =
    ap (λ out. out ++ on_new_lines (take (c.loop-left.left - 1) (lines_of c.first_line.result.1.now))) (c.in_ok-extend_from_slice.ensures.items ∙ ap (λ out. out ++ c.first_line.result.0.now) c.in_ok-push.ensures.items)
    ∙ one_pushed c.loop-left.out.items c.first_line.result.0.now c.loop-left.left (lines_of c.loop-left.rest.now) (lines_of c.first_line.result.1.now) c.loop-left-test.true c.first_line.ensures.lines
    ∙ c.loop-left.invariant
