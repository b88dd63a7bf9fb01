-- The neighbourhood of a region's stores: which ids the questions of a trial may name.
--
-- For each store the at most 256 instructions of its block that end at it; what defines their operands in that block, and so on; the
-- parameters and the values of other blocks that these name; the users of all these; and the instruction just before and just after each.
use Rattle.std.specs.Prelude.{◌≡◌, refl, ℕ, ◌-◌, ◌⊎◌, true, Option, None, Some, List, [], ◌∷◌, length, drop}
use Rattle.std.specs.List.{list_any, Contains}
use Rattle.std.proofs.Common.{inl, inr, lit<}
use Rattle.ir_types.specs.declared.id.Id.{Id}
use Rattle.ir_types.specs.declared.inst.Inst.{Inst}
use Rattle.ir_types.specs.declared.module.Module.{Module}
use Rattle.vx_view.specs.Answers.{find, after, before, found, Standing, is_value}
use Rattle.vx_serial.specs.Window.{up_to, id, load, store, block}

-- the last of a list, so many of them at most
abbrev pub last_of : {A : Type 0} → ℕ → List A → List A
last_of n xs = drop (length xs - n) xs

-- the at most 256 instructions of a block that end at a store
abbrev pub looked_at : List Inst → Id → List Inst
looked_at insts at = last_of 256 (up_to at insts)

-- the instruction of a block that has the second id names the first
abbrev pub Names : List Inst → Id → Id → Type 0
Names insts named user = (i : Inst) × (find user insts ≡ Some i) × (list_any (is_value named) i.opds ≡ true)

-- an id is named by the first of these, and each of them by the next, and the last by an instruction
abbrev pub LeadsTo : List Inst → Id → List Id → Id → Type 0
LeadsTo insts x [] user = Names insts x user
LeadsTo insts x (v ∷ vs) user = Names insts x v × LeadsTo insts v vs user

-- an instruction that is looked at for one of the stores, or what leads to one
abbrev pub IsReachedFrom : List Inst → List Id → Id → Type 0
IsReachedFrom insts stores x =
    (at : Id) × Contains stores at × ((i : Inst) × Contains (looked_at insts at) i × ((x ≡ i.id) ⊎ ((path : List Id) × LeadsTo insts x path i.id)))

-- an instruction of the module, by its id, uses a value
abbrev pub IsUser : Module → Id → Id → Type 0
IsUser m value user = (s : Standing) × (found m user ≡ Some s) × (list_any (is_value value) s.inst.opds ≡ true)

-- one that is reached, or a user of one
abbrev pub IsCore : Module → List Inst → List Id → Id → Type 0
IsCore m insts stores x = IsReachedFrom insts stores x ⊎ ((v : Id) × IsReachedFrom insts stores v × IsUser m v x)

-- one stands just before the other, in either order
abbrev pub IsBeside : Module → Id → Id → Type 0
IsBeside m x y = (s : Standing) × (found m x ≡ Some s) × ((after x s.block ≡ Some y) ⊎ (before x None s.block ≡ Some y))

-- the neighbourhood of stores of a block
abbrev pub IsNear : Module → List Inst → List Id → Id → Type 0
IsNear m insts stores x = IsCore m insts stores x ⊎ ((v : Id) × IsCore m insts stores v × IsBeside m v x)

-- ---- worked examples

-- of a short block all that ends at the store is looked at
looked_at_four : looked_at block (id 4) ≡ load 2 0 ∷ load 3 1 ∷ store 4 3 0 ∷ []
looked_at_four = refl

last_two : last_of {A = ℕ} 2 (1 ∷ 2 ∷ 3 ∷ []) ≡ 2 ∷ 3 ∷ []
last_two = refl

-- the pointer 1 is named by the load 3, which the store 4 names
pointer_of_four : LeadsTo block (id 1) (id 3 ∷ []) (id 4)
pointer_of_four = ((load 3 1, refl, refl), (store 4 3 0, refl, refl))
