-- The newest change is taken back, and the rest leads to the same.
use Rattle.std.proofs.Common.{rules, ◌≡◌, ◌∙◌, sym, subst, [], ◌∷◌, ◌++◌, reverse}
use Rattle.sb_values.specs.Sandboxes.{State as Inner, state}
use Rattle.sb_track.specs.Tracking.{AllUndo}
use Rattle.sb_track.proofs.Unwinding.{one_back, one_can, one_kept, kept_still}
use Rattle.sb_track.proofs.track.Track.unwind.Goals as goal

pub loop-undo-preserved : goal.loop-undo-preserved
loop-undo-preserved c =
    let items : c.loop-undo.self.undos.items ≡ c.pop.new.self.items ++ c.in-Some.undo ∷ [] = search rules in
    let can = one_can c.loop-undo.self.undos.items c.pop.new.self.items c.in-Some.undo items (state c.loop-undo.self.sand) c.loop-undo.invariant.undo in
    let kept = one_kept c.loop-undo.self.undos.items c.pop.new.self.items c.in-Some.undo items c.loop-undo.self.sand c.loop-undo.invariant.kept in
    record {
      base = one_back c.loop-undo.self.undos.items c.pop.new.self.items c.in-Some.undo items (state c.loop-undo.self.sand) (state c.undo.new.self) c.undo.ensures.now ∙ c.loop-undo.invariant.base;
      undo = subst (λ (s : Inner). AllUndo (reverse c.pop.new.self.items) s) (sym c.undo.ensures.now) can.2;
      kept = kept_still (reverse c.pop.new.self.items) c.loop-undo.self.sand c.undo.new.self c.undo.ensures.keeps kept.1;
      mark = c.loop-undo.invariant.mark;
      notes = c.loop-undo.invariant.notes;
    }
