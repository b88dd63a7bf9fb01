-- A draft whose items have the lines that spell a formed module is well typed, whatever the names of the module mean.
use Rattle.std.proofs.Common.{◌≡◌, ℕ, ◌+◌, List, [], ◌∷◌, ◌++◌, length, map, Ok, refl, ◌∙◌, ap}
use Rattle.std.specs.List.{AllZip}
use Rattle.ir_types.specs.declared.module.Item.{Item}
use Rattle.ir_types.specs.declared.module.Item.TheVariants as items
use Rattle.ir_types.specs.declared.module.Module.{Module}
use Rattle.ir_types.specs.Formed.{IsFormed, item_ids, ids_of, ids_of_items}
use Rattle.ir_draft.specs.declared.draft.DraftItem.{DraftItem}
use Rattle.ir_draft.specs.declared.draft.DraftItem.TheVariants as item
use Rattle.ir_types_check.specs.declared.refusal.ResolveRefusal.{ResolveRefusal}
use Rattle.ir_types_check.specs.Answers.{◌>>=◌}
use Rattle.ir_types_check.specs.Scope.{Scope}
use Rattle.ir_types_check.specs.Typed.{item_typed, items_typed}
use Rattle.ir_types_check.proofs.Handed.{TopMeaning}
use Rattle.rf_text.proofs.PlainItems.{plain_items}
use Rattle.rf_text.specs.Printable.{IsPrintable, IsNumbered, IsCounted}
use Rattle.rf_text.proofs.Named.Module.{AllStand, all_stand}
use Rattle.rf_text.proofs.Spelling.Items.{IsDraftOf}
use Rattle.rf_text.proofs.TextLines.Once.{Once, once_ids, once_front, once_back, func_once}
use Rattle.rf_text.proofs.Typed.Marks.{function_is_typed}

all_typed : (m : Module) (tops : Scope TopMeaning) (xs : List DraftItem) (is : List Item) (base : ℕ) → AllStand m base is → Once (ids_of_items is) → AllZip (IsDraftOf m.globals) xs is → items_typed tops xs ≡ Ok tt
all_typed m tops [] [] base all once zip = refl
all_typed m tops [] (i ∷ is) base all once zip = absurd zip
all_typed m tops (x ∷ xs) [] base all once zip = absurd zip
all_typed m tops (item.Kept n kept ∷ xs) (items.Kept text ∷ is) base all once zip = all_typed m tops xs is base all.1 once zip.1
all_typed m tops (item.Func n head body ∷ xs) (items.Func f ∷ is) base all once zip =
    ap (λ r. r >>= λ _. items_typed tops xs) (function_is_typed m f tops base n head body all.0 all.1 all.2 (func_once f (once_front (item_ids (items.Func f)) (ids_of_items is) once)) zip.0.0 zip.0.1)
    ∙ all_typed m tops xs is (base + length (item_ids (items.Func f))) all.3 (once_back (item_ids (items.Func f)) (ids_of_items is) once) zip.1
all_typed m tops (item.Opaque n name text ∷ xs) (items.Opaque said ∷ is) base all once zip = all_typed m tops xs is base all once zip.1
all_typed m tops (item.Opaque n name text ∷ xs) (items.Kept said ∷ is) base all once zip = absurd zip.0
all_typed m tops (item.Opaque n name text ∷ xs) (items.Func f ∷ is) base all once zip = absurd zip.0
all_typed m tops (item.Kept n kept ∷ xs) (items.Opaque text ∷ is) base all once zip = absurd zip.0
all_typed m tops (item.Kept n kept ∷ xs) (items.Func f ∷ is) base all once zip = absurd zip.0
all_typed m tops (item.Func n head body ∷ xs) (items.Kept text ∷ is) base all once zip = absurd zip.0
all_typed m tops (item.Func n head body ∷ xs) (items.Opaque text ∷ is) base all once zip = absurd zip.0

pub items_are_typed : (m : Module) (tops : Scope TopMeaning) (xs : List DraftItem) → IsFormed m → IsPrintable m → IsNumbered m → IsCounted m → AllZip (IsDraftOf m.globals) xs m.items → items_typed tops xs ≡ Ok tt
items_are_typed m tops xs formed printable numbered few zip =
    all_typed m tops xs m.items 0 (all_stand m m.items 0 (length (ids_of m)) formed.items (plain_items m formed printable) few numbered) (once_ids (ids_of_items m.items) formed.once) zip
