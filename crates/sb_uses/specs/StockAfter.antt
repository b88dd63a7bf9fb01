-- What a change of a module makes of use lists, with what is kept of them.
--
-- The lists are those after the change; what goes out of them is kept, so that the change can be undone.
use Rattle.std.specs.Prelude.{◌≡◌, refl, ℕ, Option, None, Some, List, [], ◌∷◌, slice_get, ⊤}
use Rattle.ir_types.specs.declared.id.Id.{Id}
use Rattle.ir_types.specs.declared.opd.Opd.{Opd}
use Rattle.ir_types.specs.declared.module.Module.{Module}
use Rattle.vx_view.specs.declared.change.Change.{Change}
use Rattle.vx_view.specs.declared.change.Change.TheVariants.{Insert, Remove, Move, Replace, SetOperand}
use Rattle.vx_view.specs.Answers.{found, Standing, value, doubles}
use Rattle.vx_view.specs.Uses.{lifted}
use Rattle.sb_uses.specs.Stock.{Stock, slot_use, HasSlots, added, taken, replaced, withdrawn, restored, set_back, CanRestore, CanSetBack}

-- without the slots of the instruction that was found
abbrev pub stock_without : Option Standing → Stock → Stock
stock_without None s = s
stock_without (Some i) s = taken i.inst.id 0 i.inst.opds s

abbrev pub slot_replaced : Id → ℕ → Option Opd → Opd → Stock → Stock
slot_replaced user slot None new s = s
slot_replaced user slot (Some old) new s = replaced user slot old new s

abbrev pub slot_set : ℕ → Option Standing → Opd → Stock → Stock
slot_set slot None new s = s
slot_set slot (Some i) new s = slot_replaced i.inst.id slot (slice_get i.inst.opds slot) new s

abbrev pub stock_after : Module → Change → Stock → Stock
stock_after m (Insert x new) s = added new.id 0 new.opds s
stock_after m (Remove x) s = stock_without (found m x) s
stock_after m (Move y x) s = s
stock_after m (Replace new) s = added new.id 0 new.opds (stock_without (found m new.id) s)
stock_after m (SetOperand x slot new) s = slot_set slot (found m x) new s

-- ---- the way back

abbrev pub opds_of : Option Standing → List Opd
opds_of None = []
opds_of (Some i) = i.inst.opds

-- what takes back what a change of the module made of use lists
abbrev pub stock_undone : Module → Change → Stock → Stock
stock_undone m (Insert x new) s = withdrawn new.id 0 new.opds s
stock_undone m (Remove x) s = restored (opds_of (found m x)) s
stock_undone m (Move y x) s = s
stock_undone m (Replace new) s = restored (opds_of (found m new.id)) (withdrawn new.id 0 new.opds s)
stock_undone m (SetOperand x slot new) s = set_back x slot new s

-- and where it can
abbrev pub CanUndo : Module → Change → Stock → Type 0
CanUndo m (Insert x new) s = HasSlots new.id 0 new.opds s.lists
CanUndo m (Remove x) s = CanRestore (opds_of (found m x)) s
CanUndo m (Move y x) s = ⊤
CanUndo m (Replace new) s = HasSlots new.id 0 new.opds s.lists × CanRestore (opds_of (found m new.id)) (withdrawn new.id 0 new.opds s)
CanUndo m (SetOperand x slot new) s = CanSetBack x slot new s

-- ---- a worked example: the sum of a value with itself goes, and its first slot stood after the second

abbrev read : Stock
read = record { lists = lifted doubles; kept = [] }

abbrev gone : Stock
gone = stock_after doubles (Remove (value 1)) read

nothing_is_left : gone.lists (value 0) ≡ []
nothing_is_left = refl

both_are_kept : gone.kept ≡ Some (record { value = value 0; used = slot_use (value 1) 1; spot = record { newer = None } })
    ∷ Some (record { value = value 0; used = slot_use (value 1) 0; spot = record { newer = Some (slot_use (value 1) 1) } }) ∷ []
both_are_kept = refl

and_comes_back : (stock_undone doubles (Remove (value 1)) gone).lists (value 0) ≡ lifted doubles (value 0)
and_comes_back = refl
