-- The lists that slots with neighbours make.
--
-- The list of a value is walked from its head, from each use to the next older one. `walk` takes so many steps at most; there are no
-- more than slots.
use Rattle.std.specs.Prelude.{◌≡◌, ℕ, zero, suc, min, Bool, true, false, ◌&&◌, ◌==◌, List, [], ◌∷◌, length}
use Rattle.std.specs.declared.option.Option.{Option}
use Rattle.std.specs.declared.option.Option.TheVariants.{None, Some}
use Rattle.std.specs.HashMap.{get, spare}
use Rattle.ir_types.specs.declared.id.Id.{Id}
use Rattle.ir_types.specs.declared.id.Use.{Use}
use Rattle.ir_types.specs.Available.{same_id}
use Rattle.vx_view.specs.Uses.{same_use, Lists}
use Rattle.sb_uses.specs.declared.chains.Held.{Held}
use Rattle.sb_uses.specs.declared.chains.Links.{Links}
use Rattle.sb_uses.specs.declared.chains.Chains.{Chains}

-- what contracts see of a `UseLists`
abbrev pub Slots : Type 0
Slots = Chains

-- ---- slots

abbrev pub same_held : Held → Held → Bool
same_held a b = same_id a.value b.value && (same_id a.user b.user && (a.slot == b.slot))

abbrev pub slot_of : Id → Use → Held
slot_of v u = record { value = v; user = u.user; slot = u.slot }

abbrev pub same_end : Option Use → Option Use → Bool
same_end None None = true
same_end None (Some b) = false
same_end (Some a) None = false
same_end (Some a) (Some b) = same_use a b

-- ---- neighbours

abbrev pub newest_of : Option (Option Use) → Option Use
newest_of None = None
newest_of (Some newest) = newest

abbrev pub older_of : Option Links → Option Use
older_of None = None
older_of (Some links) = links.older

abbrev pub newer_of : Option Links → Option Use
newer_of None = None
newer_of (Some links) = links.newer

abbrev pub there : {T : Type 0} → Option T → Bool
there None = false
there (Some item) = true

-- the use after the head, or after a use
abbrev pub next : Chains → Id → Option Use → Option Use
next s v None = newest_of (get same_id s.heads v)
next s v (Some u) = older_of (get same_held s.slots (slot_of v u))

-- the use before a use, or none after the head
abbrev pub prev : Chains → Id → Use → Option Use
prev s v u = newer_of (get same_held s.slots (slot_of v u))

-- there is a head, or a slot
abbrev pub known : Chains → Id → Option Use → Bool
known s v None = there (get same_id s.heads v)
known s v (Some u) = there (get same_held s.slots (slot_of v u))

-- ---- lists

abbrev pub first_then : Option Use → (Use → List Use) → List Use
first_then None rest = []
first_then (Some u) rest = u ∷ rest u

abbrev pub walk : (Option Use → Option Use) → ℕ → Option Use → List Use
walk n zero at = []
walk n (suc k) at = first_then (n at) (λ u. walk n k (Some u))

abbrev pub lists : Chains → Lists
lists s v = walk (next s v) (length s.slots.entries) None

-- ---- room

-- how many uses can be added without more memory
abbrev pub room : Chains → ℕ
room s = min (spare s.heads) (spare s.slots)

-- both have the same room
abbrev pub SameRoom : Chains → Chains → Type 0
SameRoom s t = (spare t.heads ≡ spare s.heads) × (spare t.slots ≡ spare s.slots)
