use Rattle.std.proofs.Common.{◌≡◌, ◌++◌, cond, drop}
use Rattle.ir_types.specs.declared.id.Place.{Place}
use Rattle.vx_view.specs.Views.{same_place}
use Rattle.sb_lines.specs.Arena.{contents}
use Rattle.sb_lines.specs.Whole.{IsRings}
use Rattle.sb_lines.specs.Steps.{SameFrame}
use Rattle.sb_lines.proofs.arena.Arena.lift_insts.Given as goal

abbrev pub invariant-loop-inst : goal.invariant-loop-inst
invariant-loop-inst l = record {
  rings : IsRings l.self;
  same : SameFrame l.fn.self l.self;
  contents_is : (q : Place) → cond (same_place l.place q) (contents l.self q ++ drop l.inst-index l.insts) (contents l.self q) ≡ cond (same_place l.place q) (contents l.fn.self q ++ l.insts) (contents l.fn.self q);
}
