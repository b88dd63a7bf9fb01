-- What each kind of change asks of the parts of a sandbox, and what it makes of them.
use Rattle.std.specs.Prelude.{◌≡◌, ℕ, ◌+◌, ◌<◌, ◌≤◌, Option, None, Some, IsSome, length}
use Rattle.ir_types.specs.declared.id.Id.{Id}
use Rattle.ir_types.specs.declared.opd.Opd.{Opd}
use Rattle.ir_types.specs.declared.inst.Inst.{Inst}
use Rattle.vx_view.specs.declared.change.Change.{Change}
use Rattle.vx_view.specs.declared.change.Change.TheVariants.{Insert, Remove, Move, Replace, SetOperand}
use Rattle.vx_view.specs.Answers.{found, Standing}
use Rattle.vx_view.specs.Changes.{applied}
use Rattle.vx_view.specs.UsesAfter.{cost}
use Rattle.sb_uses.specs.Stock as slots
use Rattle.sb_uses.specs.Stock.{stock, HasSlot, LacksSlot, HasSlots, LacksSlots, taken, slot_taken}
use Rattle.sb_uses.specs.StockAfter.{stock_after}
use Rattle.sb_uses.specs.Totals.{slots_came, slots_gone}
use Rattle.sb_lines.specs.Arena.{seen, room}
use Rattle.sb_lines.specs.declared.spot.Before.TheVariants.{Line}
use Rattle.sb_lines.specs.Spots.{HasSpot, CanPut, IsBeforeOther, operand}
use Rattle.sb_values.specs.declared.parts.Parts.{Parts}
use Rattle.sb_values.specs.declared.undo.Undo.{Undo}
use Rattle.sb_values.specs.Sandboxes.{state, spare}
use Rattle.sb_values.specs.Undoing.{opds_at, undone, GoesBack, IsKept, KeepsPlaces}

-- ---- what is asked

pub record CanInsert (x : Id) (new : Inst) (p : Parts) : Type 0 where
  pub place : CanPut (seen p.lines) (Line x) new.id
  pub room : 0 < room p.lines
  pub lacks : LacksSlots new.id 0 new.opds (stock p.slots).lists
  pub fit : length new.opds ≤ slots.spare p.slots

-- an instruction that stands there with all of its slots
pub record IsHeld (x : Id) (p : Parts) : Type 0 where
  pub there : IsSome (found (seen p.lines) x)
  pub id_is : (s : Standing) → found (seen p.lines) x ≡ Some s → s.inst.id ≡ x
  pub has : HasSlots x 0 (opds_at (seen p.lines) x) (stock p.slots).lists
  pub few : length (opds_at (seen p.lines) x) ≤ p.slots.held

pub record CanReplace (new : Inst) (p : Parts) : Type 0 where
  pub old : IsHeld new.id p
  pub lacks : LacksSlots new.id 0 new.opds (taken new.id 0 (opds_at (seen p.lines) new.id) (stock p.slots)).lists
  pub fit : length new.opds ≤ slots.spare p.slots

pub record CanShift (y x : Id) (p : Parts) : Type 0 where
  pub there : IsSome (found (seen p.lines) y)
  pub place : HasSpot (seen p.lines) (Line x)
  pub other : IsBeforeOther y (Line x)

abbrev pub SlotGoes : Id → ℕ → Opd → Option Opd → Parts → Type 0
SlotGoes x slot new None p = ⊥
SlotGoes x slot new (Some old) p = HasSlot x slot old (stock p.slots).lists × LacksSlot x slot new (slot_taken x slot old (stock p.slots)).lists

pub record CanSet (x : Id) (slot : ℕ) (new : Opd) (p : Parts) : Type 0 where
  pub there : IsSome (operand (seen p.lines) x slot)
  pub id_is : (s : Standing) → found (seen p.lines) x ≡ Some s → s.inst.id ≡ x
  pub goes : SlotGoes x slot new (operand (seen p.lines) x slot) p
  pub held : 0 < p.slots.held
  pub fit : 0 < slots.spare p.slots

abbrev pub CanMake : Change → Parts → Type 0
CanMake (Insert x new) p = CanInsert x new p
CanMake (Remove x) p = IsHeld x p
CanMake (Move y x) p = CanShift y x p
CanMake (Replace new) p = CanReplace new p
CanMake (SetOperand x slot new) p = CanSet x slot new p

-- ---- what is made

pub record IsMade (c : Change) (u : Undo) (p q : Parts) : Type 0 where
  pub own : seen q.lines ≡ applied c (seen p.lines)
  pub stock_is : stock q.slots ≡ stock_after (seen p.lines) c (stock p.slots)
  pub held : q.slots.held + slots_gone (seen p.lines) c ≡ p.slots.held + slots_came c
  pub room : spare p ≤ spare q + cost c
  pub keeps : KeepsPlaces p q
  pub back : undone u (state q) ≡ state p
  pub can : GoesBack u (state q)
  pub kept : IsKept u q
