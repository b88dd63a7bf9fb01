-- What a change makes of use lists.
--
-- A use that comes is put at the head of its value's list, slot by slot; a use that goes leaves the others in their order. A move
-- changes no list. `changed` is a module with its lists after a change.
use Rattle.std.specs.Prelude.{◌≡◌, refl, ℕ, suc, cond, Option, None, Some, List, [], ◌∷◌, length, slice_get}
use Rattle.ir_types.specs.declared.id.Id.{Id}
use Rattle.ir_types.specs.declared.id.Use.{Use}
use Rattle.ir_types.specs.declared.opd.Opd.{Opd}
use Rattle.ir_types.specs.declared.opd.Opd.TheVariants.{Val}
use Rattle.ir_types.specs.declared.module.Module.{Module}
use Rattle.ir_types.specs.Available.{same_id}
use Rattle.vx_view.specs.declared.change.Change.{Change}
use Rattle.vx_view.specs.declared.change.Change.TheVariants.{Insert, Remove, Move, Replace, SetOperand}
use Rattle.vx_view.specs.Answers.{found, Standing, value, doubles}
use Rattle.vx_view.specs.Changes.{applied}
use Rattle.vx_view.specs.Uses.{Lists, added, taken, lifted}

-- ---- one use

abbrev pub with_list : Id → List Use → Lists → Lists
with_list v uses lists x = cond (same_id v x) uses (lists x)

-- an operand comes into a slot
abbrev pub opd_added : Id → ℕ → Opd → Lists → Lists
opd_added user slot (Val v) lists = with_list v (added (record { user = user; slot = slot }) (lists v)) lists
opd_added user slot _ lists = lists

-- an operand goes out of a slot
abbrev pub opd_taken : Id → ℕ → Opd → Lists → Lists
opd_taken user slot (Val v) lists = with_list v (taken (record { user = user; slot = slot }) (lists v)) lists
opd_taken user slot _ lists = lists

-- ---- all uses of an instruction, from a slot on, the first slot first

abbrev pub all_added : Id → ℕ → List Opd → Lists → Lists
all_added user slot [] lists = lists
all_added user slot (o ∷ os) lists = all_added user (suc slot) os (opd_added user slot o lists)

abbrev pub all_taken : Id → ℕ → List Opd → Lists → Lists
all_taken user slot [] lists = lists
all_taken user slot (o ∷ os) lists = all_taken user (suc slot) os (opd_taken user slot o lists)

-- ---- changes

-- without the uses of the instruction that was found
abbrev pub without_uses : Option Standing → Lists → Lists
without_uses None lists = lists
without_uses (Some s) lists = all_taken s.inst.id 0 s.inst.opds lists

abbrev pub slot_taken : Id → ℕ → Option Opd → Lists → Lists
slot_taken user slot None lists = lists
slot_taken user slot (Some o) lists = opd_taken user slot o lists

abbrev pub without_slot : ℕ → Option Standing → Lists → Lists
without_slot slot None lists = lists
without_slot slot (Some s) lists = slot_taken s.inst.id slot (slice_get s.inst.opds slot) lists

-- the use lists after a change of a module
abbrev pub lists_after : Module → Change → Lists → Lists
lists_after m (Insert x new) lists = all_added new.id 0 new.opds lists
lists_after m (Remove x) lists = without_uses (found m x) lists
lists_after m (Move y x) lists = lists
lists_after m (Replace new) lists = all_added new.id 0 new.opds (without_uses (found m new.id) lists)
lists_after m (SetOperand x slot o) lists = opd_added x slot o (without_slot slot (found m x) lists)

-- a module with its use lists
pub record Contents : Type 0 where
  pub own : Module
  pub lists : Lists

abbrev pub changed : Change → Contents → Contents
changed c s = record { own = applied c s.own; lists = lists_after s.own c s.lists }

-- how much room a change takes at most: one, for an operand that is set two, and for an instruction that comes one more than it has
-- operands
abbrev pub cost : Change → ℕ
cost (Insert x new) = suc (length new.opds)
cost (Remove x) = 1
cost (Move y x) = 1
cost (Replace new) = suc (length new.opds)
cost (SetOperand x slot o) = 2

-- ---- worked examples, in the function of a sum 1 of the parameter 0 with itself

abbrev use_of : ℕ → ℕ → Use
use_of user slot = record { user = value user; slot = slot }

-- the second slot takes a value that the first has too: the new use comes first, and the old one keeps its place
second_set : lists_after doubles (SetOperand (value 1) 0 (Val (value 0))) (lifted doubles) (value 0) ≡ use_of 1 0 ∷ use_of 1 1 ∷ []
second_set = refl

-- the return takes the parameter, and the sum has no use left
return_set : lists_after doubles (SetOperand (value 2) 0 (Val (value 0))) (lifted doubles) (value 0) ≡ use_of 2 0 ∷ use_of 1 1 ∷ use_of 1 0 ∷ []
return_set = refl

sum_is_free : lists_after doubles (SetOperand (value 2) 0 (Val (value 0))) (lifted doubles) (value 1) ≡ []
sum_is_free = refl
