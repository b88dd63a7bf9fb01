-- What takes the change back is kept, and leads to the same base.
use Rattle.std.proofs.Common.{rules, ◌≡◌, refl, ◌∙◌, sym, ap, subst, min, ◌+◌, ◌-◌, ◌≤◌, length, [], ◌∷◌, ◌++◌, length-append, vec_capacity}
use Rattle.sb_values.specs.Sandboxes as sandbox
use Rattle.sb_values.specs.Sandboxes.{state}
use Rattle.vx_view.specs.UsesAfter.{cost}
use Rattle.sb_track.specs.Tracking.{spare}
use Rattle.sb_track.proofs.Unwinding.{like_tracked, kept_tracked, room_left, costs_one}
use Rattle.sb_track.proofs.track.Track.apply_marked.Goals as goal

pub returns-in_err-undo-clause-tracked : goal.returns-in_err-undo-clause-tracked
returns-in_err-undo-clause-tracked c =
    let same : state c.edit.new.self ≡ state c.args.self.now.sand = search rules in
    like_tracked c.args.self.now (record { sand = c.edit.new.self; undos = c.reserve.new.self; mark = c.args.self.now.mark; notes = c.args.self.now.notes })
    (record { sand = same; keeps = c.edit.ensures.keeps; undos = c.reserve.ensures.items; mark = refl; notes = refl }) c.requires.tracked

pub returns-clause-tracked : goal.returns-clause-tracked
returns-clause-tracked c =
    kept_tracked c.args.self.now (record { sand = c.edit.new.self; undos = c.keep.new.undos; mark = c.args.self.now.mark; notes = c.args.self.now.notes }) c.in_ok-undo.undo
    (record {
      undos = c.keep.ensures.items ∙ ap (λ us. us ++ c.in_ok-undo.undo ∷ []) c.reserve.ensures.items;
      back = c.in_ok-undo.ensures.back;
      can = c.in_ok-undo.ensures.can;
      keeps = c.edit.ensures.keeps;
      mark = refl;
      notes = refl;
    }) c.requires.marked c.requires.tracked

pub returns-clause-room : goal.returns-clause-room
returns-clause-room c within =
    let sand : sandbox.spare c.args.self.now.sand ≤ sandbox.spare c.edit.new.self + cost c.args.change = c.in_ok-undo.ensures.room in
    let made : vec_capacity c.args.self.now.undos ≤ vec_capacity c.reserve.new.self = search rules in
    let long : length c.keep.new.undos.items ≡ length c.args.self.now.undos.items + 1 =
    ap length (c.keep.ensures.items ∙ ap (λ us. us ++ c.in_ok-undo.undo ∷ []) c.reserve.ensures.items) ∙ length-append c.args.self.now.undos.items (c.in_ok-undo.undo ∷ []) in
    subst (λ n. spare c.args.self.now ≤ min (sandbox.spare c.edit.new.self) (vec_capacity c.keep.new.undos - n) + cost c.args.change) (sym long)
    (room_left (sandbox.spare c.args.self.now.sand) (sandbox.spare c.edit.new.self) (cost c.args.change) (vec_capacity c.args.self.now.undos) (vec_capacity c.reserve.new.self) (vec_capacity c.keep.new.undos)
    (length c.args.self.now.undos.items) sand (costs_one c.args.change) made c.keep.ensures.room)
