-- What was lifted is the module.
use Rattle.std.proofs.Common.{rules, ◌≡◌, ap, ◌∙◌, List, []}
use Rattle.ir_types.specs.declared.id.Place.{Place}
use Rattle.ir_types.specs.declared.module.Item.{Item}
use Rattle.ir_types.specs.IdTable.{found as item_of}
use Rattle.vx_view.specs.Answers.{either}
use Rattle.sb_lines.specs.Filling.{filled}
use Rattle.sb_lines.specs.Params.{of_func}
use Rattle.sb_lines.specs.Lifting.{shown, items_at}
use Rattle.sb_lines.proofs.Standing.{mark-same}
use Rattle.sb_lines.proofs.Opened.{shown-by}
use Rattle.sb_lines.proofs.Lifted.{either-none, lifted-whole, lifted-seen}
use Rattle.sb_lines.proofs.arena.Arena.lift.Goals as goal

pub returns-clause-whole : goal.returns-clause-whole
returns-clause-whole c =
    let items : List Item = c.args.read.now.items in
    let given : c.as_slice-items.result.now ≡ items = search (rules) in
    let frame : c.lift_items.new.self.frame ≡ filled (λ q insts. []) c.args.read.now = c.in_ok-lift_items.ensures.same.frame ∙ c.make_room.ensures.same.frame ∙ c.in_ok-arena.ensures.frame in
    let shown_is : (q : Place) → shown c.lift_items.new.self q ≡ items_at 0 items q = λ q.
    c.in_ok-lift_items.ensures.shown q
    ∙ ap (λ is. either (items_at 0 is q) (shown c.make_room.new.self q)) given
    ∙ ap (either (items_at 0 items q)) (shown-by c.in_ok-arena.arena c.make_room.new.self q (mark-same c.in_ok-arena.arena c.make_room.new.self c.make_room.ensures.same q) (c.make_room.ensures.contents q) ∙ c.in_ok-arena.ensures.shown q)
    ∙ either-none (items_at 0 items q) in
    lifted-whole c.lift_items.new.self c.args.read.now c.in_ok-lift_items.ensures.rings frame shown_is
    (c.in_ok-lift_items.ensures.same.funcs ∙ c.make_room.ensures.same.funcs ∙ c.in_ok-arena.ensures.funcs)
    (λ id k. ap (λ p. of_func k (item_of p id)) (c.in_ok-lift_items.ensures.same.params ∙ c.make_room.ensures.same.params) ∙ c.in_ok-arena.ensures.params id k)

pub returns-clause-seen : goal.returns-clause-seen
returns-clause-seen c =
    let items : List Item = c.args.read.now.items in
    let given : c.as_slice-items.result.now ≡ items = search (rules) in
    let frame : c.lift_items.new.self.frame ≡ filled (λ q insts. []) c.args.read.now = c.in_ok-lift_items.ensures.same.frame ∙ c.make_room.ensures.same.frame ∙ c.in_ok-arena.ensures.frame in
    let shown_is : (q : Place) → shown c.lift_items.new.self q ≡ items_at 0 items q = λ q.
    c.in_ok-lift_items.ensures.shown q
    ∙ ap (λ is. either (items_at 0 is q) (shown c.make_room.new.self q)) given
    ∙ ap (either (items_at 0 items q)) (shown-by c.in_ok-arena.arena c.make_room.new.self q (mark-same c.in_ok-arena.arena c.make_room.new.self c.make_room.ensures.same q) (c.make_room.ensures.contents q) ∙ c.in_ok-arena.ensures.shown q)
    ∙ either-none (items_at 0 items q) in
    lifted-seen c.lift_items.new.self c.args.read.now c.in_ok-lift_items.ensures.rings frame shown_is
