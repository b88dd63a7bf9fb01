use Rattle.std.proofs.Common.{◌≡◌, length}
use Rattle.vx_serial.specs.Window.{is_member}
use Rattle.vx_deps.proofs.window.is_member.Given as goal

abbrev pub invariant-loop-left : goal.invariant-loop-left
invariant-loop-left l = is_member l.left l.id ≡ is_member l.fn.bundles l.id

abbrev pub decreases-loop-left : goal.decreases-loop-left
decreases-loop-left l = length l.left
