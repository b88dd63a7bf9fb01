use Rattle.std.proofs.Common.{◌≡◌, length}
use Rattle.sb_values.specs.Sandboxes.{contents}
use Rattle.sb_values.specs.Fitting.{all_there}
use Rattle.sb_values.proofs.parts.Parts.are_there.Given as goal

abbrev pub invariant-loop-left : goal.invariant-loop-left
invariant-loop-left l = all_there (contents l.self).own l.left ≡ all_there (contents l.self).own l.opds

abbrev pub decreases-loop-left : goal.decreases-loop-left
decreases-loop-left l = length l.left
