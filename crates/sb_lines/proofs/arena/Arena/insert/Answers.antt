-- The place of an instruction is that of its node, which the new node leaves as it was.
use Rattle.std.proofs.Common.{◌≡◌, sym, ap, ◌∙◌, Some}
use Rattle.sb_lines.specs.Nodes.{held}
use Rattle.sb_lines.specs.Arena.{before_in, before_held}
use Rattle.sb_lines.specs.Steps.{coming}
use Rattle.sb_lines.proofs.Stood.{spot-before, before-place}
use Rattle.sb_lines.proofs.arena.Arena.insert.Goals as goal

pub put_line-requires-clause-place : goal.put_line-requires-clause-place
put_line-requires-clause-place c =
    before-place (held c.enter-at.new.self.nodes.items c.in-Some.spot) c.args.before
    (ap before_in (c.enter-at.ensures.held c.in-Some.spot) ∙ spot-before c.args.self.now c.requires.rings c.args.before c.in-Some.spot c.requires.place (sym c.spot.ensures ∙ c.in-Some.is))

pub returns-clause-contents : goal.returns-clause-contents
returns-clause-contents c =
    let before : before_held c.enter-at.new.self c.in-Some.spot ≡ Some c.args.before =
    ap before_in (c.enter-at.ensures.held c.in-Some.spot) ∙ spot-before c.args.self.now c.requires.rings c.args.before c.in-Some.spot c.requires.place (sym c.spot.ensures ∙ c.in-Some.is) in
    λ q. c.put_line.ensures.contents c.args.before before q ∙ ap (coming c.args.before c.args.inst q) (c.enter-at.ensures.contents q)
