-- One write of an instruction.
use Rattle.std.proofs.Common.{sym, ◌∙◌}
use Rattle.sb_lines.proofs.Writes.{put-law}
use Rattle.sb_lines.proofs.arena.Arena.put.Goals as goal

pub returns-clause-rings : goal.returns-clause-rings
returns-clause-rings c =
    (put-law c.args.self.now c.hold.new.nodes c.requires.rings c.in-Some.at c.in-Some-place_at.place c.in-Line.place c.args.inst c.in-Line.old (sym c.node.ensures ∙ c.in-Some.is) (sym c.place_at.ensures ∙ c.in-Some-place_at.is) (sym c.hold.ensures.was ∙ c.in-Line.is)
    (record { next = c.hold.ensures.next; prev = c.hold.ensures.prev; held = c.hold.ensures.held; length = c.hold.ensures.length })).rings

pub returns-clause-contents : goal.returns-clause-contents
returns-clause-contents c =
    (put-law c.args.self.now c.hold.new.nodes c.requires.rings c.in-Some.at c.in-Some-place_at.place c.in-Line.place c.args.inst c.in-Line.old (sym c.node.ensures ∙ c.in-Some.is) (sym c.place_at.ensures ∙ c.in-Some-place_at.is) (sym c.hold.ensures.was ∙ c.in-Line.is)
    (record { next = c.hold.ensures.next; prev = c.hold.ensures.prev; held = c.hold.ensures.held; length = c.hold.ensures.length })).contents_is

pub returns-clause-back : goal.returns-clause-back
returns-clause-back c =
    (put-law c.args.self.now c.hold.new.nodes c.requires.rings c.in-Some.at c.in-Some-place_at.place c.in-Line.place c.args.inst c.in-Line.old (sym c.node.ensures ∙ c.in-Some.is) (sym c.place_at.ensures ∙ c.in-Some-place_at.is) (sym c.hold.ensures.was ∙ c.in-Line.is)
    (record { next = c.hold.ensures.next; prev = c.hold.ensures.prev; held = c.hold.ensures.held; length = c.hold.ensures.length })).back
