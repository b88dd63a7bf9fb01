-- Pairs of stores by their places, as the rule names them: which places are a pair, and which pair is the least.
use Rattle.std.specs.Prelude.{◌≡◌, ℕ, zero, suc, ◌<◌, ◌≤◌, ◌⊎◌, false, Option, None, Some, List, [], ◌∷◌, slice_get}
use Rattle.ir_types.specs.declared.inst.Inst.{Inst}
use Rattle.vx_serial.specs.declared.pairing.scan.LedStore.{LedStore}
use Rattle.vx_serial.specs.Pair.{Leads, leads_after, led_store_of, is_memory, joined_to}
use Rattle.vx_serial.specs.PairScan.{found_pair, with_found}

-- where pointers lead before the instruction at a place
abbrev pub leads_before : Leads → List Inst → ℕ → Leads
leads_before leads insts zero = leads
leads_before leads [] (suc n) = leads
leads_before leads (i ∷ is) (suc n) = leads_before (leads_after leads i) is n

-- no instruction from place `from` up to place `to` touches memory
abbrev pub AreQuiet : List Inst → ℕ → ℕ → Type 0
AreQuiet insts from to = (k : ℕ) (x : Inst) → from ≤ k → k < to → slice_get insts k ≡ Some x → is_memory x.op ≡ false

-- a store of a literal at a place, which the instruction at a later place pairs with, and nothing between touches memory
pub record IsPair (leads : Leads) (insts : List Inst) (i j : ℕ) : Type 0 where
  pub order : i < j
  pub earlier : Inst
  pub at_first : slice_get insts i ≡ Some earlier
  pub first : LedStore
  pub is_first : led_store_of (leads_before leads insts i) earlier ≡ Some first
  pub later : Inst
  pub at_second : slice_get insts j ≡ Some later
  pub both : Inst
  pub is_second : joined_to (leads_before leads insts j) first later ≡ Some both
  pub between : AreQuiet insts (suc i) j

-- the pair at two places is not after another one, by the first place and then by the second
abbrev pub NotAfter : ℕ → ℕ → ℕ → ℕ → Type 0
NotAfter i j k l = (i < k) ⊎ ((i ≡ k) × (j ≤ l))

-- the instructions are those with a pair joined, and no pair is before it
pub record IsLeastJoined (leads : Leads) (insts new : List Inst) : Type 0 where
  pub i : ℕ
  pub j : ℕ
  pub pair : IsPair leads insts i j
  pub joins : new ≡ with_found insts (found_pair i j pair.both)
  pub least : (k l : ℕ) → IsPair leads insts k l → NotAfter i j k l

-- the least pair is joined, or there is no pair
abbrev pub JoinsLeast : Leads → List Inst → Option (List Inst) → Type 0
JoinsLeast leads insts None = (k l : ℕ) → IsPair leads insts k l → ⊥
JoinsLeast leads insts (Some new) = IsLeastJoined leads insts new
