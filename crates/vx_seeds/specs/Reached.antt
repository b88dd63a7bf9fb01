-- What the search for reached blocks keeps: marks, and the blocks from which it goes on.
--
-- A test of block numbers is any property that is kept along edges; the search marks and finds blocks of which it holds.
use Rattle.std.specs.Prelude.{◌≡◌, refl, [], ◌∷◌, ℕ, ◌<◌, Bool, true, false, nat_eq, List, slice_index_or, length}
use Rattle.std.specs.List.{list_any, list_all}
use Rattle.ir_types.specs.Walks.{targets_at}
use Rattle.vx_serial.specs.Regions.{reached_in, is_reached}

-- each marked block passes a test
abbrev pub Marks : (ℕ → Bool) → List Bool → Type 0
Marks p marks = (x : ℕ) → slice_index_or marks x false ≡ true → p x ≡ true

-- and each that was found does
pub record Holds (p : ℕ → Bool) (marks : List Bool) (found : List ℕ) : Type 0 where
  pub marked : Marks p marks
  pub each : list_all p found ≡ true

-- edges lead from blocks that pass a test to blocks that pass another
abbrev pub Leads : List (List ℕ) → (ℕ → Bool) → (ℕ → Bool) → Type 0
Leads graph p q = (y : ℕ) → p y ≡ true → list_all q (targets_at graph y) ≡ true

-- walks of so many edges at most lead to a block
abbrev pub in_round : List (List ℕ) → ℕ → ℕ → Bool
in_round graph n x = list_any (nat_eq x) (reached_in n graph)

-- a target that is a block is marked
abbrev pub is_marked : List Bool → ℕ → Bool
is_marked marks x = slice_index_or marks x true

-- the first block is marked, and edges lead from marked blocks to marked ones
pub record IsClosed (graph : List (List ℕ)) (marks : List Bool) : Type 0 where
  pub entry : is_marked marks 0 ≡ true
  pub edges : Leads graph (is_marked marks) (is_marked marks)

-- a block is marked exactly where it is reached
abbrev pub AreReached : List (List ℕ) → List Bool → Type 0
AreReached graph marks = (b : ℕ) → b < length graph → slice_index_or marks b false ≡ is_reached graph b

-- ---- a worked example: from block 0 to 1, which one edge leads to and none does not

one_edge : in_round ((1 ∷ []) ∷ [] ∷ []) 1 1 ≡ true
one_edge = refl

no_edge : in_round ((1 ∷ []) ∷ [] ∷ []) 0 1 ≡ false
no_edge = refl
