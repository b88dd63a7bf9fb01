use Rattle.std.proofs.Common.{◌≡◌, drop}
use Rattle.ir_types.specs.declared.id.Place.{Place}
use Rattle.vx_view.specs.Answers.{either}
use Rattle.sb_lines.specs.Whole.{IsRings}
use Rattle.sb_lines.specs.Steps.{SameModule}
use Rattle.sb_lines.specs.Lifting.{shown, blocks_at}
use Rattle.sb_lines.proofs.arena.Arena.lift_blocks.Given as goal

abbrev pub invariant-loop-block : goal.invariant-loop-block
invariant-loop-block l = record {
  rings : IsRings l.self;
  same : SameModule l.fn.self l.self;
  shown_is : (q : Place) → either (blocks_at l.func l.number (drop l.block-index l.blocks) q) (shown l.self q) ≡ either (blocks_at l.func 0 l.blocks q) (shown l.fn.self q);
}
