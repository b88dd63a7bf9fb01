-- A node is taken out of its ring, and holds nothing then.
use Rattle.std.proofs.Common.{sym, ap, ◌∙◌}
use Rattle.sb_lines.specs.Arena.{before_held}
use Rattle.sb_lines.proofs.Writes.{out-law, neighbours, is-none}
use Rattle.sb_lines.proofs.arena.Arena.remove.Goals as goal

pub unreachable-requires-in_default-before_at : goal.unreachable-requires-in_default-before_at
unreachable-requires-in_default-before_at c =
    is-none _ (neighbours c.args.self.now c.requires.rings c.args.id c.in-Some.at c.requires.there (sym c.node.ensures ∙ c.in-Some.is)).before
    (ap (before_held c.args.self.now) (sym c.next_node.ensures) ∙ sym c.before_at.ensures ∙ c.in_default-before_at.is)

pub unlink-requires-clause-next : goal.unlink-requires-clause-next
unlink-requires-clause-next c = (neighbours c.args.self.now c.requires.rings c.args.id c.in-Some.at c.requires.there (sym c.node.ensures ∙ c.in-Some.is)).next_fits

pub unlink-requires-clause-prev : goal.unlink-requires-clause-prev
unlink-requires-clause-prev c = (neighbours c.args.self.now c.requires.rings c.args.id c.in-Some.at c.requires.there (sym c.node.ensures ∙ c.in-Some.is)).prev_fits

pub returns-clause-rings : goal.returns-clause-rings
returns-clause-rings c =
    (out-law c.args.self.now c.unlink.new.nodes c.hold.new.nodes c.requires.rings c.args.id c.in-Some.at c.in-Line.place c.in-Line.inst c.in-Some-before_at.before
    (sym c.node.ensures ∙ c.in-Some.is)
    (sym (c.unlink.ensures.unlinked.held_is c.in-Some.at) ∙ sym c.hold.ensures.was ∙ c.in-Line.is)
    (ap (before_held c.args.self.now) (sym c.next_node.ensures) ∙ sym c.before_at.ensures ∙ c.in-Some-before_at.is)
    c.unlink.ensures.unlinked c.unlink.ensures.length
    (record { next = c.hold.ensures.next; prev = c.hold.ensures.prev; held = c.hold.ensures.held; length = c.hold.ensures.length })).rings

pub returns-clause-contents : goal.returns-clause-contents
returns-clause-contents c =
    (out-law c.args.self.now c.unlink.new.nodes c.hold.new.nodes c.requires.rings c.args.id c.in-Some.at c.in-Line.place c.in-Line.inst c.in-Some-before_at.before
    (sym c.node.ensures ∙ c.in-Some.is)
    (sym (c.unlink.ensures.unlinked.held_is c.in-Some.at) ∙ sym c.hold.ensures.was ∙ c.in-Line.is)
    (ap (before_held c.args.self.now) (sym c.next_node.ensures) ∙ sym c.before_at.ensures ∙ c.in-Some-before_at.is)
    c.unlink.ensures.unlinked c.unlink.ensures.length
    (record { next = c.hold.ensures.next; prev = c.hold.ensures.prev; held = c.hold.ensures.held; length = c.hold.ensures.length })).contents_is

pub returns-clause-back : goal.returns-clause-back
returns-clause-back c =
    (out-law c.args.self.now c.unlink.new.nodes c.hold.new.nodes c.requires.rings c.args.id c.in-Some.at c.in-Line.place c.in-Line.inst c.in-Some-before_at.before
    (sym c.node.ensures ∙ c.in-Some.is)
    (sym (c.unlink.ensures.unlinked.held_is c.in-Some.at) ∙ sym c.hold.ensures.was ∙ c.in-Line.is)
    (ap (before_held c.args.self.now) (sym c.next_node.ensures) ∙ sym c.before_at.ensures ∙ c.in-Some-before_at.is)
    c.unlink.ensures.unlinked c.unlink.ensures.length
    (record { next = c.hold.ensures.next; prev = c.hold.ensures.prev; held = c.hold.ensures.held; length = c.hold.ensures.length })).back

pub returns-clause-place : goal.returns-clause-place
returns-clause-place c =
    (out-law c.args.self.now c.unlink.new.nodes c.hold.new.nodes c.requires.rings c.args.id c.in-Some.at c.in-Line.place c.in-Line.inst c.in-Some-before_at.before
    (sym c.node.ensures ∙ c.in-Some.is)
    (sym (c.unlink.ensures.unlinked.held_is c.in-Some.at) ∙ sym c.hold.ensures.was ∙ c.in-Line.is)
    (ap (before_held c.args.self.now) (sym c.next_node.ensures) ∙ sym c.before_at.ensures ∙ c.in-Some-before_at.is)
    c.unlink.ensures.unlinked c.unlink.ensures.length
    (record { next = c.hold.ensures.next; prev = c.hold.ensures.prev; held = c.hold.ensures.held; length = c.hold.ensures.length })).place
