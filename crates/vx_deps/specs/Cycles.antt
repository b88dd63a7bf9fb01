-- What an order is asked for, and what it means that there is none.
--
-- Groups form a cycle where each has a member that a later member of the next depends on, and the last one has one for the first. A group
-- with a member that depends on another of its own is a cycle by itself.
use Rattle.std.specs.Prelude.{◌≡◌, refl, ◌<◌, ◌⊎◌, true, false, None, List, [], ◌∷◌, length}
use Rattle.std.specs.List.{All, Contains, list_any}
use Rattle.std.proofs.Common.{lit<}
use Rattle.ir_types.specs.declared.id.Id.{Id}
use Rattle.ir_types.specs.Available.{same_id}
use Rattle.vx_serial.specs.Window.{is_member, joined, id}
use Rattle.vx_serial.specs.Bundles.{AreOnce}
use Rattle.vx_deps.specs.declared.refusal.OrderRefusal.{OrderRefusal}
use Rattle.vx_deps.specs.declared.refusal.OrderRefusal.TheVariants.{NoOrder, OutOfMemory}
use Rattle.vx_deps.specs.Orders.{Keeps, HaveMembers, place_of, order_in, links}

-- bundles that stand among some ids: none is empty, all their members are there, and none is twice
pub record AreBundlesOf (ids : List Id) (bundles : List (List Id)) : Type 0 where
  pub filled : All (λ bundle. 0 < length bundle) bundles
  pub members : HaveMembers ids bundles
  pub once : AreOnce (joined bundles)

-- a member of the second group stands later than one of the first, and depends on it
pub record LeadsTo (keeps : Keeps) (ids : List Id) (first second : List Id) : Type 0 where
  pub earlier : Id
  pub later : Id
  pub in_first : list_any (same_id earlier) first ≡ true
  pub in_second : list_any (same_id later) second ≡ true
  pub before : place_of ids earlier < place_of ids later
  pub kept : keeps earlier later ≡ true

-- from one group through others, each to the next, to a last one
abbrev pub LeadThrough : Keeps → List Id → List Id → List (List Id) → List Id → Type 0
LeadThrough keeps ids from [] to = LeadsTo keeps ids from to
LeadThrough keeps ids from (g ∷ gs) to = LeadsTo keeps ids from g × LeadThrough keeps ids g gs to

abbrev pub IsCycle : Keeps → List Id → List (List Id) → Type 0
IsCycle keeps ids [] = ⊥
IsCycle keeps ids (g ∷ gs) = LeadThrough keeps ids g gs g

-- a bundle, or one instruction that is no member of any
abbrev pub IsGroup : List Id → List (List Id) → List Id → Type 0
IsGroup ids bundles group = Contains bundles group ⊎ ((x : Id) × (group ≡ x ∷ []) × (list_any (same_id x) ids ≡ true) × (is_member bundles x ≡ false))

-- there is no order, and those kept are groups of the window and a cycle; or there was no memory
abbrev pub Refuses : Keeps → List Id → List (List Id) → OrderRefusal → Type 0
Refuses keeps ids bundles (NoOrder cycle) = (order_in keeps ids bundles ≡ None) × IsCycle keeps ids cycle × All (IsGroup ids bundles) cycle
Refuses keeps ids bundles OutOfMemory = Unit {0}

-- ---- a worked example: 1 depends on 0 and 2 on 1, where 0 and 2 are a bundle

abbrev around : Keeps
around = links ((0, 1) ∷ (1, 2) ∷ [])

two_groups : IsCycle around (id 0 ∷ id 1 ∷ id 2 ∷ []) ((id 0 ∷ id 2 ∷ []) ∷ (id 1 ∷ []) ∷ [])
two_groups = (
  record { earlier = id 0; later = id 1; in_first = refl; in_second = refl; before = lit< tt; kept = refl },
  record { earlier = id 1; later = id 2; in_first = refl; in_second = refl; before = lit< tt; kept = refl },
)
