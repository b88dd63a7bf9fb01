use Rattle.std.proofs.Common.{◌≡◌, ◌++◌, length}
use Rattle.sb_lines.specs.Filling.{Filling, blocks_filled}
use Rattle.sb_lines.proofs.copying.copy_blocks.Given as goal

-- what was copied and what is left are all
abbrev pub invariant-loop-left : goal.invariant-loop-left
invariant-loop-left g l =
    let c : Filling = λ place insts. g.F.Fill.filling l.fill place in
    l.copy ++ blocks_filled c l.func l.number l.left ≡ blocks_filled c l.func 0 l.blocks

abbrev pub decreases-loop-left : goal.decreases-loop-left
decreases-loop-left g l = length l.left
