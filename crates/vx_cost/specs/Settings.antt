-- What a setting is, which word is the first fault, and the table that settings give.
use Rattle.std.specs.Prelude.{◌≡◌, ℕ, ◌<◌, ◌≤◌, List, ◌++◌, codes, length, Some, slice_get, ◌⊎◌}
use Rattle.std.specs.Fmt.{decimal}
use Rattle.ir_types.specs.declared.table.Table.{Table}
use Rattle.vx_cost.specs.declared.key.Key.{Key}
use Rattle.vx_cost.specs.Keys.{place_of, name_of}

-- the word sets the key's cost to `n`: the key's name, `=`, and `n` in decimal digits; `n` is at most 1,000,000
pub record IsSetting (word : List ℕ) (key : Key) (n : ℕ) : Type 0 where
  pub spelled : word ≡ name_of key ++ (codes "=" ++ decimal n)
  pub bounded : n ≤ 1000000

-- the word at the place `k` sets the key's cost to `n`
pub record SetsAt (words : List (List ℕ)) (k : ℕ) (key : Key) (n : ℕ) : Type 0 where
  pub word : List ℕ
  pub there : slice_get words k ≡ Some word
  pub setting : IsSetting word key n

-- there is a word at the place `k`, and it is not a setting
pub record IsBadAt (words : List (List ℕ)) (k : ℕ) : Type 0 where
  pub there : k < length words
  pub no_setting : (key : Key) (n : ℕ) → SetsAt words k key n → ⊥

-- the word at the place `k` sets a key that a word before it sets
pub record IsTwiceAt (words : List (List ℕ)) (k : ℕ) : Type 0 where
  pub key : Key
  pub earlier : ℕ
  pub before : earlier < k
  pub first_cost : ℕ
  pub first : SetsAt words earlier key first_cost
  pub second_cost : ℕ
  pub second : SetsAt words k key second_cost

-- the word at the place `k` is faulty: not a setting, or of a key that is set already
abbrev pub IsFaultyAt : List (List ℕ) → ℕ → Type 0
IsFaultyAt words k = IsBadAt words k ⊎ IsTwiceAt words k

-- the first faulty word stands at the place `k`
pub record IsFirstFault (words : List (List ℕ)) (k : ℕ) : Type 0 where
  pub fault : IsFaultyAt words k
  pub first : (j : ℕ) → j < k → IsFaultyAt words j → ⊥

-- `new` has the costs that the words set, and for each other key the cost of `old`
pub record IsTableWith (words : List (List ℕ)) (old new : Table) : Type 0 where
  pub set : (k : ℕ) (key : Key) (n : ℕ) → SetsAt words k key n → slice_get new.costs (place_of key) ≡ Some n
  pub kept : (key : Key) → ((k n : ℕ) → SetsAt words k key n → ⊥) → slice_get new.costs (place_of key) ≡ slice_get old.costs (place_of key)
