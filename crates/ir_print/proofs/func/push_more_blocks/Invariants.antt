-- What is written, with the text of what is left, is the whole.
use Rattle.std.proofs.Common.{◌≡◌, ◌++◌, drop}
use Rattle.ir_print.specs.Text.{more_blocks}
use Rattle.ir_print.proofs.func.push_more_blocks.Given as goal

abbrev pub invariant-loop-block : goal.invariant-loop-block
invariant-loop-block l = l.out.items ++ more_blocks l.scope.names.now l.scope.globals.now l.at (drop l.block-index l.blocks) ≡ l.fn.out.items ++ more_blocks l.scope.names.now l.scope.globals.now 1 l.blocks
