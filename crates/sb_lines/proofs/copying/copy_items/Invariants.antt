use Rattle.std.proofs.Common.{◌≡◌, ◌++◌, length}
use Rattle.sb_lines.specs.Filling.{Filling, items_filled}
use Rattle.sb_lines.proofs.copying.copy_items.Given as goal

-- what was copied and what is left are all
abbrev pub invariant-loop-left : goal.invariant-loop-left
invariant-loop-left g l =
    let c : Filling = λ place insts. g.F.Fill.filling l.fill place in
    l.copy ++ items_filled c l.number l.left ≡ items_filled c 0 l.items

abbrev pub decreases-loop-left : goal.decreases-loop-left
decreases-loop-left g l = length l.left
