-- What is written, with the text of what is left, is the whole.
use Rattle.std.proofs.Common.{◌≡◌, ◌++◌, take}
use Rattle.ir_read.specs.Lines.{lines_of}
use Rattle.ir_read.specs.Opaque.{on_new_lines}
use Rattle.ir_read.proofs.joined.push_on_new_lines.Given as goal

abbrev pub invariant-loop-left : goal.invariant-loop-left
invariant-loop-left l = l.out.items ++ on_new_lines (take l.left (lines_of l.rest)) ≡ l.fn.out.items ++ on_new_lines (take l.count (lines_of l.bytes))

abbrev pub decreases-loop-left : goal.decreases-loop-left
decreases-loop-left l = l.left
