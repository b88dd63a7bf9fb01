-- Only room changed.
use Rattle.sb_track.proofs.Unwinding.{like_tracked}
use Rattle.sb_track.proofs.tracked.TrackedSand.reserve.Goals as goal

pub invariant_of-self : goal.invariant_of-self
invariant_of-self c = like_tracked c.self.inside.track c.reserve.new.self c.reserve.ensures.like c.self.invariant
