-- What takes a change back.
--
-- A change leaves what undoes it. Changes are undone in turn, the newest first; each gives module, order and use lists as they were before
-- the change, and what was kept of the lists then.
use Rattle.std.specs.Prelude.{◌≡◌, refl, ℕ, ◌+◌, ◌-◌, ◌<◌, ◌≤◌, true, Option, None, Some, IsSome, List, [], ◌∷◌, length, ⊤}
use Rattle.ir_types.specs.declared.id.Id.{Id}
use Rattle.ir_types.specs.declared.opd.Opd.{Opd}
use Rattle.ir_types.specs.declared.opd.Opd.TheVariants.{Val}
use Rattle.ir_types.specs.declared.module.Module.{Module}
use Rattle.vx_view.specs.declared.change.Change.TheVariants.{Insert, Remove, Replace, SetOperand}
use Rattle.vx_view.specs.Answers.{found, value, line, doubles}
use Rattle.vx_view.specs.Changes.{applied}
use Rattle.vx_view.specs.Uses.{lifted}
use Rattle.sb_uses.specs.Stock.{Stock, HasSlots, withdrawn, restored, set_back, CanRestore, CanSetBack}
use Rattle.sb_uses.specs.StockAfter.{opds_of, stock_after}
use Rattle.sb_lines.specs.Arena.{knows}
use Rattle.sb_lines.specs.Spots.{put_in, moved_to, HasSpot, CanPut, IsBeforeOther, operand}
use Rattle.sb_values.specs.declared.parts.Parts.{Parts}
use Rattle.sb_values.specs.declared.undo.Undo.{Undo}
use Rattle.sb_values.specs.declared.undo.Undo.TheVariants.{Inserted, Removed, Moved, Replaced, Set}
use Rattle.sb_values.specs.Sandboxes.{State, state, IsWhole}

-- the operands of the instruction of an id
abbrev pub opds_at : Module → Id → List Opd
opds_at m id = opds_of (found m id)

abbrev pub operand_set_back : Id → ℕ → Option Opd → Stock → Stock
operand_set_back id slot None s = s
operand_set_back id slot (Some now) s = set_back id slot now s

-- ---- undone

abbrev pub undone : Undo → State → State
undone (Inserted id) s = record {
  own = applied (Remove id) s.own;
  stock = withdrawn id 0 (opds_at s.own id) s.stock;
  held = s.held - length (opds_at s.own id);
}
undone (Removed spot) s = record {
  own = put_in spot.before spot.inst s.own;
  stock = restored spot.inst.opds s.stock;
  held = s.held + length spot.inst.opds;
}
undone (Moved id before) s = record { own = moved_to id before s.own; stock = s.stock; held = s.held }
undone (Replaced old) s = record {
  own = applied (Replace old) s.own;
  stock = restored old.opds (withdrawn old.id 0 (opds_at s.own old.id) s.stock);
  held = s.held - length (opds_at s.own old.id) + length old.opds;
}
undone (Set id slot old) s = record {
  own = applied (SetOperand id slot old) s.own;
  stock = operand_set_back id slot (operand s.own id slot) s.stock;
  held = s.held;
}

-- ---- where that can be

abbrev pub OperandGoesBack : Id → ℕ → Option Opd → Stock → Type 0
OperandGoesBack id slot None s = ⊥
OperandGoesBack id slot (Some now) s = CanSetBack id slot now s

abbrev pub GoesBack : Undo → State → Type 0
GoesBack (Inserted id) s = IsSome (found s.own id) × HasSlots id 0 (opds_at s.own id) s.stock.lists × (length (opds_at s.own id) ≤ s.held)
GoesBack (Removed spot) s = CanPut s.own spot.before spot.inst.id × CanRestore spot.inst.opds s.stock
GoesBack (Moved id before) s = IsSome (found s.own id) × HasSpot s.own before × IsBeforeOther id before
GoesBack (Replaced old) s =
    IsSome (found s.own old.id) × HasSlots old.id 0 (opds_at s.own old.id) s.stock.lists × (length (opds_at s.own old.id) ≤ s.held)
    × CanRestore old.opds (withdrawn old.id 0 (opds_at s.own old.id) s.stock)
GoesBack (Set id slot old) s = OperandGoesBack id slot (operand s.own id slot) s.stock × (0 < s.held)

-- what was taken out still has its place
abbrev pub IsKept : Undo → Parts → Type 0
IsKept (Removed spot) p = knows p.lines spot.inst.id ≡ true
IsKept _ p = ⊤

-- a change can be undone: the state is as the change left it
pub record CanUndo (u : Undo) (p : Parts) : Type 0 where
  pub parts : GoesBack u (state p)
  pub whole : IsWhole (undone u (state p))
  pub kept : IsKept u p

-- what could be kept still is
abbrev pub KeepsPlaces : Parts → Parts → Type 0
KeepsPlaces p q = (u : Undo) → IsKept u p → IsKept u q

-- ---- a worked example: an instruction comes before the return and goes again

abbrev read : State
read = record { own = doubles; stock = record { lists = lifted doubles; kept = [] }; held = 3 }

abbrev more : State
more = record {
  own = applied (Insert (value 2) (line 9 (Val (value 1) ∷ []))) read.own;
  stock = stock_after read.own (Insert (value 2) (line 9 (Val (value 1) ∷ []))) read.stock;
  held = 4;
}

gone_again : (undone (Inserted (value 9)) more).own ≡ doubles
gone_again = refl

with_its_use : (undone (Inserted (value 9)) more).stock.lists (value 1) ≡ lifted doubles (value 1)
with_its_use = refl
