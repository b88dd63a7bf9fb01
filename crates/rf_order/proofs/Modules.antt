-- The module with one function in the place of another.
use Rattle.std.proofs.Common.{◌≡◌, refl, sym, ap, ◌∙◌, subst, ℕ, zero, suc, ◌⊎◌, inl, inr, Some, List, [], ◌∷◌, length, slice_get, arith}
use Rattle.std.specs.List.{AllZip}
use Rattle.ir_types.specs.declared.func.Func.{Func}
use Rattle.ir_types.specs.declared.module.Item.{Item}
use Rattle.ir_types.specs.declared.module.Item.TheVariants.{Kept, Opaque, Func as FuncItem}
use Rattle.ir_types.specs.declared.module.Module.{Module}
use Rattle.ir_model.specs.declared.value.Value.{Value}
use Rattle.ir_model.specs.Memory.{Memory}
use Rattle.ir_model.specs.Fits.{Fits}
use Rattle.ir_model.specs.Run.{functions_of, run_found, run_of}
use Rattle.ir_model.specs.Refines.{OutcomeRefines, SameHeader, SameItem, ModuleRefines}
use Rattle.ir_model.proofs.Chain.{header_same}
use Rattle.ir_model.proofs.Same.{outcome_same, zip_same}
use Rattle.rf_order.specs.Functions.{with_function, changed_in, ModulesRefine}
use Rattle.rf_order.proofs.Functions.{outcomes_refined}

item_same : (i : Item) → SameItem i i
item_same (Kept line) = refl
item_same (Opaque text) = refl
item_same (FuncItem f) = header_same f

items_same : (items : List Item) (n : ℕ) (f new : Func) → slice_get (functions_of items) n ≡ Some f → SameHeader new f → AllZip SameItem (with_function items n new) items
items_same [] n f new e h = tt
items_same (Kept line ∷ items) n f new e h = (refl, items_same items n f new e h)
items_same (Opaque text ∷ items) n f new e h = (refl, items_same items n f new e h)
items_same (FuncItem g ∷ items) zero f new e h = (subst (SameHeader new) is h, zip_same SameItem item_same items)
  where
    is : f ≡ g
    is = let s : Some g ≡ Some f = e in cc
items_same (FuncItem g ∷ items) (suc n) f new e h = (header_same g, items_same items n f new e h)

-- the function of the number is the new one, and every other is what it was
found_new : (items : List Item) (n : ℕ) (f new : Func) → slice_get (functions_of items) n ≡ Some f → slice_get (functions_of (with_function items n new)) n ≡ Some new
found_new [] n f new e = absurd cc
found_new (Kept line ∷ items) n f new e = found_new items n f new e
found_new (Opaque text ∷ items) n f new e = found_new items n f new e
found_new (FuncItem g ∷ items) zero f new e = refl
found_new (FuncItem g ∷ items) (suc n) f new e = found_new items n f new e

found_other : (items : List Item) (n k : ℕ) (new : Func) → (k ≡ n → ⊥) → slice_get (functions_of (with_function items n new)) k ≡ slice_get (functions_of items) k
found_other [] n k new apart = refl
found_other (Kept line ∷ items) n k new apart = found_other items n k new apart
found_other (Opaque text ∷ items) n k new apart = found_other items n k new apart
found_other (FuncItem g ∷ items) zero zero new apart = absurd (apart refl)
found_other (FuncItem g ∷ items) zero (suc k) new apart = refl
found_other (FuncItem g ∷ items) (suc n) zero new apart = refl
found_other (FuncItem g ∷ items) (suc n) (suc k) new apart = found_other items n k new (λ e. apart (ap suc e))

same_or_apart : (k n : ℕ) → (k ≡ n) ⊎ (k ≡ n → ⊥)
same_or_apart zero zero = inl refl
same_or_apart zero (suc n) = inr (λ e. omega (arith, e))
same_or_apart (suc k) zero = inr (λ e. omega (arith, e))
same_or_apart (suc k) (suc n) = by_rest (same_or_apart k n)
  where
    by_rest : (k ≡ n) ⊎ (k ≡ n → ⊥) → (suc k ≡ suc n) ⊎ (suc k ≡ suc n → ⊥)
    by_rest (inl e) = inl (ap suc e)
    by_rest (inr apart) = inr (λ e. apart (omega (arith, e)))

pub changed_refines : (m : Module) (n : ℕ) (f new : Func) → slice_get (functions_of m.items) n ≡ Some f → SameHeader new f →
    ((args : List Value) (memory : Memory) → Fits m f args memory → (bound : ℕ) → OutcomeRefines (run_found (length m.globals) (Some new) args memory bound) (run_of m n args memory bound)) →
    ModuleRefines (changed_in m n new) m
changed_refines m n f new found header outcomes = record {
  items = items_same m.items n f new found header;
  runs = λ k g there args memory fits bound. by_number k g there args memory fits bound (same_or_apart k n);
}
  where
    by_number : (k : ℕ) (g : Func) → slice_get (functions_of m.items) k ≡ Some g → (args : List Value) (memory : Memory) → Fits m g args memory → (bound : ℕ) → (k ≡ n) ⊎ (k ≡ n → ⊥) →
        OutcomeRefines (run_of (changed_in m n new) k args memory bound) (run_of m k args memory bound)
    by_number k g there args memory fits bound (inl e) =
        let found_here : slice_get (functions_of m.items) k ≡ Some f = ap (slice_get (functions_of m.items)) e ∙ found in
        let same : Some g ≡ Some f = sym there ∙ found_here in
        let is : g ≡ f = cc in
        let new_here : slice_get (functions_of (with_function m.items n new)) k ≡ Some new = ap (slice_get (functions_of (with_function m.items n new))) e ∙ found_new m.items n f new found in
        subst (λ o. OutcomeRefines (run_found (length m.globals) o args memory bound) (run_of m k args memory bound)) (sym new_here)
        (subst (λ j. OutcomeRefines (run_found (length m.globals) (Some new) args memory bound) (run_of m j args memory bound)) (sym e)
        (outcomes args memory (subst (λ h. Fits m h args memory) is fits) bound))
    by_number k g there args memory fits bound (inr apart) =
        subst (λ o. OutcomeRefines (run_found (length m.globals) o args memory bound) (run_of m k args memory bound)) (sym (found_other m.items n k new apart))
        (outcome_same (run_of m k args memory bound))

pub modules_refined : ModulesRefine
modules_refined m formed func f found at b phis before insts last after reached there cut bundles are groups order =
    changed_refines m func f _ found
    (record { before = refl; ret = refl; name = refl; params = (header_same f).params; after = refl })
    (outcomes_refined m formed func f found at b phis before insts last after reached there cut bundles are groups order)
