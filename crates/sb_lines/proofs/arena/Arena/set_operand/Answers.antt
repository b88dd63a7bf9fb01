-- An instruction goes out of its node, and comes back with another operand.
use Rattle.std.proofs.Common.{sym, ◌∙◌}
use Rattle.sb_lines.specs.declared.nodes.Held.TheVariants.{Line, Gone}
use Rattle.sb_lines.proofs.Writes.{Wrote, with_nodes, two-writes, set-law, set-back, set-stands}
use Rattle.sb_lines.proofs.arena.Arena.set_operand.Goals as goal

pub returns-clause-rings : goal.returns-clause-rings
returns-clause-rings c =
    let first : Wrote c.args.self.now c.hold.new.nodes c.in-Some.at Gone = record { next = c.hold.ensures.next; prev = c.hold.ensures.prev; held = c.hold.ensures.held; length = c.hold.ensures.length } in
    let second : Wrote (with_nodes c.args.self.now c.hold.new.nodes) c.hold-2.new.nodes c.in-Some.at (Line c.in-Line.place c.with_operand-inst.result.0) = record { next = c.hold-2.ensures.next; prev = c.hold-2.ensures.prev; held = c.hold-2.ensures.held; length = c.hold-2.ensures.length } in
    let both = two-writes c.args.self.now c.hold.new.nodes c.hold-2.new.nodes c.in-Some.at Gone (Line c.in-Line.place c.with_operand-inst.result.0) first second in
    (set-law c.args.self.now c.hold-2.new.nodes c.requires.rings c.args.id c.in-Some.at c.in-Line.place c.in-Line.inst c.with_operand-inst.result.0 c.args.slot c.args.to c.with_operand-inst.result.1 (sym c.node.ensures ∙ c.in-Some.is) (sym c.hold.ensures.was ∙ c.in-Line.is) c.with_operand-inst.ensures.now
    (set-back c.in-Line.inst c.with_operand-inst.result.0 c.args.slot c.args.to c.with_operand-inst.result.1 c.with_operand-inst.ensures.now c.with_operand-inst.ensures.was) both).rings

pub returns-clause-contents : goal.returns-clause-contents
returns-clause-contents c =
    let first : Wrote c.args.self.now c.hold.new.nodes c.in-Some.at Gone = record { next = c.hold.ensures.next; prev = c.hold.ensures.prev; held = c.hold.ensures.held; length = c.hold.ensures.length } in
    let second : Wrote (with_nodes c.args.self.now c.hold.new.nodes) c.hold-2.new.nodes c.in-Some.at (Line c.in-Line.place c.with_operand-inst.result.0) = record { next = c.hold-2.ensures.next; prev = c.hold-2.ensures.prev; held = c.hold-2.ensures.held; length = c.hold-2.ensures.length } in
    let both = two-writes c.args.self.now c.hold.new.nodes c.hold-2.new.nodes c.in-Some.at Gone (Line c.in-Line.place c.with_operand-inst.result.0) first second in
    (set-law c.args.self.now c.hold-2.new.nodes c.requires.rings c.args.id c.in-Some.at c.in-Line.place c.in-Line.inst c.with_operand-inst.result.0 c.args.slot c.args.to c.with_operand-inst.result.1 (sym c.node.ensures ∙ c.in-Some.is) (sym c.hold.ensures.was ∙ c.in-Line.is) c.with_operand-inst.ensures.now
    (set-back c.in-Line.inst c.with_operand-inst.result.0 c.args.slot c.args.to c.with_operand-inst.result.1 c.with_operand-inst.ensures.now c.with_operand-inst.ensures.was) both).contents_is

pub returns-clause-back : goal.returns-clause-back
returns-clause-back c =
    let first : Wrote c.args.self.now c.hold.new.nodes c.in-Some.at Gone = record { next = c.hold.ensures.next; prev = c.hold.ensures.prev; held = c.hold.ensures.held; length = c.hold.ensures.length } in
    let second : Wrote (with_nodes c.args.self.now c.hold.new.nodes) c.hold-2.new.nodes c.in-Some.at (Line c.in-Line.place c.with_operand-inst.result.0) = record { next = c.hold-2.ensures.next; prev = c.hold-2.ensures.prev; held = c.hold-2.ensures.held; length = c.hold-2.ensures.length } in
    let both = two-writes c.args.self.now c.hold.new.nodes c.hold-2.new.nodes c.in-Some.at Gone (Line c.in-Line.place c.with_operand-inst.result.0) first second in
    (set-law c.args.self.now c.hold-2.new.nodes c.requires.rings c.args.id c.in-Some.at c.in-Line.place c.in-Line.inst c.with_operand-inst.result.0 c.args.slot c.args.to c.with_operand-inst.result.1 (sym c.node.ensures ∙ c.in-Some.is) (sym c.hold.ensures.was ∙ c.in-Line.is) c.with_operand-inst.ensures.now
    (set-back c.in-Line.inst c.with_operand-inst.result.0 c.args.slot c.args.to c.with_operand-inst.result.1 c.with_operand-inst.ensures.now c.with_operand-inst.ensures.was) both).back

pub returns-clause-there : goal.returns-clause-there
returns-clause-there c =
    let first : Wrote c.args.self.now c.hold.new.nodes c.in-Some.at Gone = record { next = c.hold.ensures.next; prev = c.hold.ensures.prev; held = c.hold.ensures.held; length = c.hold.ensures.length } in
    let second : Wrote (with_nodes c.args.self.now c.hold.new.nodes) c.hold-2.new.nodes c.in-Some.at (Line c.in-Line.place c.with_operand-inst.result.0) = record { next = c.hold-2.ensures.next; prev = c.hold-2.ensures.prev; held = c.hold-2.ensures.held; length = c.hold-2.ensures.length } in
    let both = two-writes c.args.self.now c.hold.new.nodes c.hold-2.new.nodes c.in-Some.at Gone (Line c.in-Line.place c.with_operand-inst.result.0) first second in
    set-stands c.args.self.now c.hold-2.new.nodes c.requires.rings c.args.id c.in-Some.at c.in-Line.place c.in-Line.inst c.with_operand-inst.result.0 c.args.slot c.args.to c.with_operand-inst.result.1 (sym c.node.ensures ∙ c.in-Some.is) (sym c.hold.ensures.was ∙ c.in-Line.is) c.with_operand-inst.ensures.now c.with_operand-inst.ensures.was both
