-- The functions of a formed and printable module stand where their ids say.
use Rattle.std.proofs.Common.{◌≡◌, ℕ, ◌+◌, List, [], ◌∷◌, ◌++◌, length, refl, arith}
use Rattle.std.proofs.lemmas.List.Elements.{All-head, All-tail}
use Rattle.std.specs.List.{All}
use Rattle.ir_types.specs.declared.id.Id.{Id}
use Rattle.ir_types.specs.declared.module.Item.{Item}
use Rattle.ir_types.specs.declared.module.Item.TheVariants.{Kept, Opaque, Func as FuncItem}
use Rattle.ir_types.specs.declared.module.Module.{Module}
use Rattle.ir_types.specs.Formed.{IsFormedFunc, IsFormedItem, item_ids, ids_of_items}
use Rattle.rf_text.specs.Printable.{IsPlainLine, ids_from, IsCountedItem}
use Rattle.rf_text.proofs.PlainItems.{IsPlainFunc, IsPlainItem}
use Rattle.rf_text.proofs.Named.Places.{ids_split}
use Rattle.rf_text.proofs.Named.Function.{Stands, stands}

-- ---- the functions of a module

-- ids after others
ids_after : (ids rest : List Id) (k q count : ℕ) → q ≡ k + length ids → ids ++ rest ≡ ids_from k count → (j : ℕ) × (rest ≡ ids_from q j)
ids_after [] rest k q count at e = let same : k ≡ q = omega (arith, at) in (count, rw (← same) e)
ids_after (id ∷ ids) rest k q count at e =
    let parts : (j : ℕ) × (id ≡ record { region = 0; k = k }) × (ids ++ rest ≡ ids_from (k + 1) j) = ids_split id (ids ++ rest) k count e in
    ids_after ids rest (k + 1) q parts.0 (omega (arith, at)) parts.2

-- each function is formed and plain, and stands where its ids say
abbrev pub AllStand : Module → ℕ → List Item → Type 0
AllStand m base [] = Unit {0}
AllStand m base (Kept text ∷ items) = IsPlainLine text × AllStand m base items
AllStand m base (Opaque text ∷ items) = AllStand m base items
AllStand m base (FuncItem f ∷ items) = IsFormedFunc m f × IsPlainFunc f × Stands f base × AllStand m (base + length (item_ids (FuncItem f))) items

pub all_stand : (m : Module) (items : List Item) (base count : ℕ) → All (IsFormedItem m) items → All IsPlainItem items → All IsCountedItem items → ids_of_items items ≡ ids_from base count → AllStand m base items
all_stand m [] base count formed plain few ids = tt
all_stand m (Kept text ∷ items) base count formed plain few ids =
    (All-head IsPlainItem (Kept text) items plain, all_stand m items base count (All-tail (IsFormedItem m) (Kept text) items formed) (All-tail IsPlainItem (Kept text) items plain) (All-tail IsCountedItem (Kept text) items few) ids)
all_stand m (Opaque text ∷ items) base count formed plain few ids =
    all_stand m items base count (All-tail (IsFormedItem m) (Opaque text) items formed) (All-tail IsPlainItem (Opaque text) items plain) (All-tail IsCountedItem (Opaque text) items few) ids
all_stand m (FuncItem f ∷ items) base count formed plain few ids =
    let is : IsPlainFunc f = All-head IsPlainItem (FuncItem f) items plain in
    let after : (j : ℕ) × (ids_of_items items ≡ ids_from (base + length (item_ids (FuncItem f))) j) = ids_after (item_ids (FuncItem f)) (ids_of_items items) base (base + length (item_ids (FuncItem f))) count refl ids in (
      All-head (IsFormedItem m) (FuncItem f) items formed,
      is,
      stands f base (ids_of_items items) count is (All-head IsCountedItem (FuncItem f) items few) ids,
      all_stand m items (base + length (item_ids (FuncItem f))) after.0 (All-tail (IsFormedItem m) (FuncItem f) items formed) (All-tail IsPlainItem (FuncItem f) items plain) (All-tail IsCountedItem (FuncItem f) items few) after.1,
    )
