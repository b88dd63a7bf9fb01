-- A node gets its instruction, and is linked in.
use Rattle.std.proofs.Common.{sym, ◌∙◌}
use Rattle.sb_lines.proofs.Writes.{line-law, spot-bound}
use Rattle.sb_lines.proofs.arena.Arena.put_line.Goals as goal

pub link-requires-clause-prev : goal.link-requires-clause-prev
link-requires-clause-prev c =
    spot-bound c.args.self.now c.hold.new.nodes c.requires.rings c.args.at c.args.spot c.in-Some.place _ (sym c.place_at.ensures ∙ c.in-Some.is)
    (record { next = c.hold.ensures.next; prev = c.hold.ensures.prev; held = c.hold.ensures.held; length = c.hold.ensures.length })

pub returns-clause-rings : goal.returns-clause-rings
returns-clause-rings c =
    (line-law c.args.self.now c.hold.new.nodes c.link.new.nodes c.requires.rings c.args.at c.args.spot c.in-Some.place c.args.inst (sym c.place_at.ensures ∙ c.in-Some.is) c.requires.node c.requires.gone
    (record { next = c.hold.ensures.next; prev = c.hold.ensures.prev; held = c.hold.ensures.held; length = c.hold.ensures.length })
    c.link.ensures.linked c.link.ensures.length).rings

pub returns-clause-contents : goal.returns-clause-contents
returns-clause-contents c =
    (line-law c.args.self.now c.hold.new.nodes c.link.new.nodes c.requires.rings c.args.at c.args.spot c.in-Some.place c.args.inst (sym c.place_at.ensures ∙ c.in-Some.is) c.requires.node c.requires.gone
    (record { next = c.hold.ensures.next; prev = c.hold.ensures.prev; held = c.hold.ensures.held; length = c.hold.ensures.length })
    c.link.ensures.linked c.link.ensures.length).contents_is

pub returns-clause-back : goal.returns-clause-back
returns-clause-back c =
    (line-law c.args.self.now c.hold.new.nodes c.link.new.nodes c.requires.rings c.args.at c.args.spot c.in-Some.place c.args.inst (sym c.place_at.ensures ∙ c.in-Some.is) c.requires.node c.requires.gone
    (record { next = c.hold.ensures.next; prev = c.hold.ensures.prev; held = c.hold.ensures.held; length = c.hold.ensures.length })
    c.link.ensures.linked c.link.ensures.length).back
