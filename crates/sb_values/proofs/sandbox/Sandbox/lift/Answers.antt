-- A module that is formed has each id once, and its use lists are exact.
use Rattle.std.proofs.Common.{◌≡◌, ◌≤◌, ◌∙◌, ap}
use Rattle.vx_view.specs.Uses.{lifted}
use Rattle.sb_uses.specs.Stock as slots
use Rattle.sb_uses.specs.Stock.{Stock, stock}
use Rattle.sb_uses.specs.Totals.{slots_of}
use Rattle.sb_uses.proofs.Totals.{formed_apart}
use Rattle.sb_values.proofs.Making.{lifted_whole}
use Rattle.sb_values.proofs.sandbox.Sandbox.lift.Goals as goal

pub lift-requires-2 : goal.lift-requires-2
lift-requires-2 c = formed_apart c.args.read.now c.requires

pub invariant_of-result : goal.invariant_of-result
invariant_of-result c =
    let lists : (stock c.reserve.new.self).lists ≡ lifted c.args.read.now = ap (λ (s : Stock). s.lists) c.reserve.ensures.same ∙ c.in_ok-slots.ensures.lists in
    let held : c.reserve.new.self.held ≡ slots_of c.args.read.now = c.reserve.ensures.held ∙ c.in_ok-slots.ensures.held in
    let room : 1 ≤ slots.spare c.reserve.new.self = c.in_ok-reserve.ensures.ok in
    lifted_whole c.args.read.now (record { lines = c.in_ok-lines.lines; slots = c.reserve.new.self }) c.requires c.in_ok-lines.ensures lists held room
