-- Where an instruction comes, and where one stood that was taken out.
--
-- An instruction is put before another, or at the end of a block. One that is taken out stood before what came after it, or at the end.
use Rattle.std.specs.Prelude.{◌≡◌, refl, ℕ, true, false, Option, None, Some, IsSome, [], slice_get, option_and_then, ⊤}
use Rattle.ir_types.specs.declared.id.Id.{Id}
use Rattle.ir_types.specs.declared.id.Place.{Place}
use Rattle.ir_types.specs.declared.opd.Opd.{Opd}
use Rattle.ir_types.specs.declared.inst.Inst.{Inst}
use Rattle.ir_types.specs.declared.module.Module.{Module}
use Rattle.ir_types.specs.Available.{same_id}
use Rattle.vx_view.specs.declared.change.Change.TheVariants.{Insert, Remove, Move}
use Rattle.vx_view.specs.Answers.{found, Standing, after, value, line, doubles}
use Rattle.vx_view.specs.Changes.{edited, removing, applied}
use Rattle.sb_lines.specs.declared.spot.Before.{Before}
use Rattle.sb_lines.specs.declared.spot.Before.TheVariants.{Line, End}
use Rattle.sb_lines.specs.declared.spot.Spot.{Spot}
use Rattle.sb_lines.specs.Filling.{has_block, appended, place_of}

-- the module with an instruction put in
abbrev pub put_in : Before → Inst → Module → Module
put_in (Line x) new m = applied (Insert x new) m
put_in (End place) new m = appended place new m

abbrev pub moved_in : Before → Module → Option Standing → Module
moved_in before m None = m
moved_in before m (Some s) = put_in before s.inst (edited (removing s.inst.id) m)

-- the module with an instruction taken out and put elsewhere
abbrev pub moved_to : Id → Before → Module → Module
moved_to y before m = moved_in before m (found m y)

-- ---- where that can be

abbrev pub HasSpot : Module → Before → Type 0
HasSpot m (Line x) = IsSome (found m x)
HasSpot m (End place) = has_block m place ≡ true

-- the place is there, and no instruction has the id
pub record CanPut (m : Module) (before : Before) (id : Id) : Type 0 where
  pub place : HasSpot m before
  pub lacks : found m id ≡ None

-- what is before another instruction than that of an id
abbrev pub IsBeforeOther : Id → Before → Type 0
IsBeforeOther y (Line x) = same_id x y ≡ false
IsBeforeOther y (End place) = ⊤

-- ---- where one stood

abbrev pub or_end : Place → Option Id → Before
or_end place None = End place
or_end place (Some x) = Line x

abbrev pub spot_of : Id → Standing → Spot
spot_of id s = record { inst = s.inst; before = or_end s.place (after id s.block) }

-- ---- what stands there

abbrev pub inst_of : Standing → Inst
inst_of s = s.inst

abbrev pub operand_at : ℕ → Standing → Option Opd
operand_at slot s = slice_get s.inst.opds slot

-- the operand in a slot of an instruction
abbrev pub operand : Module → Id → ℕ → Option Opd
operand m id slot = option_and_then (operand_at slot) (found m id)

-- ---- worked examples, in the function of a sum 1 and a return 2

abbrev end : Before
end = End (place_of 0 0)

sum_goes_and_comes : put_in (Line (value 2)) (line 9 []) (applied (Remove (value 9)) (put_in (Line (value 2)) (line 9 []) doubles)) ≡ put_in (Line (value 2)) (line 9 []) doubles
sum_goes_and_comes = refl

to_the_end_and_back : applied (Move (value 1) (value 2)) (moved_to (value 1) end doubles) ≡ doubles
to_the_end_and_back = refl
