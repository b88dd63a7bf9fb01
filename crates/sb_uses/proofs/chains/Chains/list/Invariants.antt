use Rattle.std.proofs.Common.{◌≡◌, ◌++◌}
use Rattle.sb_uses.specs.Chains.{next, walk, lists}
use Rattle.sb_uses.proofs.chains.Chains.list.Given as goal

abbrev pub invariant-loop-left : goal.invariant-loop-left
invariant-loop-left l = l.uses ++ walk (next l.self l.value) l.left l.at ≡ lists l.self l.value

abbrev pub decreases-loop-left : goal.decreases-loop-left
decreases-loop-left l = l.left
