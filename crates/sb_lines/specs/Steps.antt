-- What the steps of a change leave as it was.
use Rattle.std.specs.Prelude.{◌≡◌, ℕ, ◌≤◌, Option, IsSome, length, slice_get, option_and_then}
use Rattle.ir_types.specs.declared.id.Id.{Id}
use Rattle.ir_types.specs.declared.opd.Opd.{Opd}
use Rattle.ir_types.specs.declared.inst.Inst.{Inst}
use Rattle.vx_view.specs.Changes.{each, inserting}
use Rattle.sb_lines.specs.declared.spot.Before.{Before}
use Rattle.sb_lines.specs.declared.spot.Before.TheVariants.{Line, End}
use Rattle.sb_lines.specs.declared.arena.Arena.{Arena}
use Rattle.sb_lines.specs.Filling.{Filling, at_end}
use Rattle.sb_lines.specs.Nodes.{held, next, prev}
use Rattle.sb_lines.specs.Arena.{mark, node, standing, before_held, Told}

-- module and parameters
pub record SameModule (s t : Arena) : Type 0 where
  pub frame : t.frame ≡ s.frame
  pub funcs : t.funcs ≡ s.funcs
  pub params : t.params ≡ s.params

-- and marks
pub record SameFrame (s t : Arena) : Type 0 where
  pub frame : t.frame ≡ s.frame
  pub funcs : t.funcs ≡ s.funcs
  pub params : t.params ≡ s.params
  pub marks : t.marks ≡ s.marks

-- all nodes hold and name what they did
pub record IsKept (s t : Arena) : Type 0 where
  pub same : SameFrame s t
  pub held_is : (y : ℕ) → held t.nodes.items y ≡ held s.nodes.items y
  pub next_is : (y : ℕ) → next t.nodes.items y ≡ next s.nodes.items y
  pub prev_is : (y : ℕ) → prev t.nodes.items y ≡ prev s.nodes.items y
  pub length_is : length s.nodes.items ≤ length t.nodes.items

-- ---- where an instruction comes

-- what stands in each block after it came
abbrev pub coming : Before → Inst → Filling
coming (Line x) new q insts = each (inserting x new) insts
coming (End place) new q insts = at_end place new q insts

-- its place is there
abbrev pub HasPlace : Arena → Before → Type 0
HasPlace a (Line x) = IsSome (standing a x)
HasPlace a (End place) = IsSome (mark a place)

-- before what an instruction stands, by its node
abbrev pub stood_before : Arena → Id → Option Before
stood_before a id = option_and_then (λ y. before_held a (next a.nodes.items y)) (node a id)

abbrev pub told_inst : Told → Inst
told_inst s = s.inst

abbrev pub told_operand : ℕ → Option Told → Option Opd
told_operand slot s = option_and_then (λ (t : Told). slice_get t.inst.opds slot) s
