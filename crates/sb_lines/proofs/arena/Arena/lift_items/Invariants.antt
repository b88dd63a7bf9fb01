use Rattle.std.proofs.Common.{◌≡◌, drop}
use Rattle.ir_types.specs.declared.id.Place.{Place}
use Rattle.vx_view.specs.Answers.{either}
use Rattle.sb_lines.specs.Whole.{IsRings}
use Rattle.sb_lines.specs.Steps.{SameModule}
use Rattle.sb_lines.specs.Lifting.{shown, items_at}
use Rattle.sb_lines.proofs.arena.Arena.lift_items.Given as goal

abbrev pub invariant-loop-item : goal.invariant-loop-item
invariant-loop-item l = record {
  rings : IsRings l.self;
  same : SameModule l.fn.self l.self;
  shown_is : (q : Place) → either (items_at l.number (drop l.item-index l.items) q) (shown l.self q) ≡ either (items_at 0 l.items q) (shown l.fn.self q);
}
