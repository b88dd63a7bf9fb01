-- One more node, which is the mark of the block.
use Rattle.std.proofs.Common.{rules, ◌≡◌, refl, ap, ◌∙◌, Some, is_some, false, cond, length}
use Rattle.vx_view.specs.Views.{same_place}
use Rattle.sb_lines.specs.declared.arena.Arena.{Arena}
use Rattle.sb_lines.specs.Arena.{mark}
use Rattle.sb_lines.proofs.Writes.{more}
use Rattle.sb_lines.proofs.Opened.{OpenedAt, opened-rings, opened-shown, not-some}
use Rattle.sb_lines.proofs.arena.Arena.open.Goals as goal

pub returns-clause-rings : goal.returns-clause-rings
returns-clause-rings c =
    let len : c.len-at.result ≡ length c.args.self.now.nodes.items = search (rules) in
    let unmarked : is_some (mark c.args.self.now c.args.place) ≡ false = search (rules) in
    let t : Arena = record { frame = c.args.self.now.frame; funcs = c.args.self.now.funcs; params = c.args.self.now.params; nodes = c.push_mark.new.nodes; marks = c.note_mark.new.marks; table = c.args.self.now.table } in
    let opened : OpenedAt c.args.self.now t c.args.place = record {
      none = not-some (mark c.args.self.now c.args.place) unmarked;
      mark_is = λ q. c.in_ok-note_mark.ensures q ∙ ap (λ k. cond (same_place c.args.place q) (Some k) (mark c.args.self.now q)) len;
      node_is = λ _. refl;
      length_is = more c.in_ok-push_mark.ensures.length;
      next_is = c.in_ok-push_mark.ensures.next;
      prev_is = c.in_ok-push_mark.ensures.prev;
      held_is = c.in_ok-push_mark.ensures.held;
    } in
    opened-rings c.args.self.now t c.args.place c.requires.rings opened

pub returns-clause-shown : goal.returns-clause-shown
returns-clause-shown c =
    let len : c.len-at.result ≡ length c.args.self.now.nodes.items = search (rules) in
    let unmarked : is_some (mark c.args.self.now c.args.place) ≡ false = search (rules) in
    let t : Arena = record { frame = c.args.self.now.frame; funcs = c.args.self.now.funcs; params = c.args.self.now.params; nodes = c.push_mark.new.nodes; marks = c.note_mark.new.marks; table = c.args.self.now.table } in
    let opened : OpenedAt c.args.self.now t c.args.place = record {
      none = not-some (mark c.args.self.now c.args.place) unmarked;
      mark_is = λ q. c.in_ok-note_mark.ensures q ∙ ap (λ k. cond (same_place c.args.place q) (Some k) (mark c.args.self.now q)) len;
      node_is = λ _. refl;
      length_is = more c.in_ok-push_mark.ensures.length;
      next_is = c.in_ok-push_mark.ensures.next;
      prev_is = c.in_ok-push_mark.ensures.prev;
      held_is = c.in_ok-push_mark.ensures.held;
    } in
    opened-shown c.args.self.now t c.args.place c.requires.rings opened
