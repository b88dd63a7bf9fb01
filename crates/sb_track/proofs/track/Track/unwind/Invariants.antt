-- What is left to take back leads to where all of it led.
use Rattle.std.proofs.Common.{◌≡◌, reverse, vec_len}
use Rattle.sb_values.specs.Sandboxes.{state}
use Rattle.sb_track.specs.Tracking.{unwound, base, AllUndo, AllKept}
use Rattle.sb_track.proofs.track.Track.unwind.Given as goal

abbrev pub invariant-loop-undo : goal.invariant-loop-undo
invariant-loop-undo l = record {
  base : unwound (reverse l.self.undos.items) (state l.self.sand) ≡ base l.fn.self;
  undo : AllUndo (reverse l.self.undos.items) (state l.self.sand);
  kept : AllKept (reverse l.self.undos.items) l.self.sand;
  mark : l.self.mark ≡ l.fn.self.mark;
  notes : l.self.notes ≡ l.fn.self.notes;
}

abbrev pub decreases-loop-undo : goal.decreases-loop-undo
decreases-loop-undo l = vec_len l.self.undos
