-- The bundles of a window: all their members stand in it, and none twice.
use Rattle.std.specs.Prelude.{◌≡◌, refl, Bool, ◌||◌, ◌<◌, ◌≤◌, ◌^◌, true, false, List, [], ◌∷◌, map, length}
use Rattle.std.specs.List.{All, list_any}
use Rattle.ir_types.specs.declared.id.Id.{Id}
use Rattle.ir_types.specs.declared.inst.Inst.{Inst}
use Rattle.ir_types.specs.Available.{same_id}
use Rattle.vx_order.specs.Groups.{IsPartition}
use Rattle.vx_serial.specs.Window.{groups_in, joined, id, load, store}

-- no id stands twice
abbrev pub AreOnce : List Id → Type 0
AreOnce [] = Unit {0}
AreOnce (x ∷ xs) = (list_any (same_id x) xs ≡ false) × AreOnce xs

abbrev pub ids_of : List Inst → List Id
ids_of is = map (λ (i : Inst). i.id) is

-- the members of all bundles are instructions of the window, and none is twice
pub record AreBundles (insts : List Inst) (bundles : List (List Id)) : Type 0 where
  pub members : (x : Id) → list_any (same_id x) (joined bundles) ≡ true → list_any (same_id x) (ids_of insts) ≡ true
  pub once : AreOnce (joined bundles)

-- the groups of bundles, of which none is empty, take each place of the window once, as the schedule asks of them
abbrev pub GroupsPartition : Type 0
GroupsPartition =
    (insts : List Inst) (bundles : List (List Id)) → AreOnce (ids_of insts) → AreBundles insts bundles → All (λ bundle. 0 < length bundle) bundles →
    length insts ≤ 2 ^ 32 → IsPartition (groups_in bundles insts)

-- a worked example: in the window of a load, a store and a load, both loads as one bundle, the later one first
abbrev loads : List (List Id)
loads = (id 5 ∷ id 3 ∷ []) ∷ []

loads_are_bundles : AreBundles (load 3 1 ∷ store 4 3 0 ∷ load 5 0 ∷ []) loads
loads_are_bundles = record {
  members = λ x h. by_member (same_id x (id 5)) (same_id x (id 3)) (same_id x (id 4)) h;
  once = (refl, (refl, tt));
}
  where
    by_member : (a b c : Bool) → (a || (b || false)) ≡ true → (b || (c || (a || false))) ≡ true
    by_member true true c h = refl
    by_member true false true h = refl
    by_member true false false h = refl
    by_member false true c h = refl
    by_member false false c h = absurd cc
