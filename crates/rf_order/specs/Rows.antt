-- Rows of instructions that run one after another, rows in another order, and when one run may stand for another.
use Rattle.std.specs.Prelude.{◌≡◌, refl, ◌⊎◌, Bool, false, List, [], ◌∷◌, ◌++◌, nat_eq}
use Rattle.ir_types.specs.declared.id.Id.{Id}
use Rattle.ir_types.specs.declared.ty.Ty.{Ty}
use Rattle.ir_types.specs.declared.inst.Inst.{Inst}
use Rattle.ir_model.specs.Step.{Went, Lost, On, then_go, Reached, Calls, step}

-- instructions in order, of which none ends the block
abbrev pub steps : (Id → Ty) → Calls → List Inst → Reached → Went Reached
steps types calls [] r = On r
steps types calls (i ∷ is) r = then_go (step types calls i r) (steps types calls is)

-- the old run is undefined, or the new one comes to the same
abbrev pub Instead : {A : Type 0} → Went A → Went A → Type 0
Instead new old = (old ≡ Lost) ⊎ (new ≡ old)

-- none of these must stand before an item
abbrev pub NoneBefore : {A : Type 0} → (A → A → Bool) → List A → A → Type 0
NoneBefore depends [] y = Unit {0}
NoneBefore depends (x ∷ xs) y = (depends y x ≡ false) × NoneBefore depends xs y

-- a row in another order, in which each item stands after all that it depends on: again and again one of the items comes next that
-- depends on none of those before it that are left
abbrev pub Reordered : {A : Type 0} → (A → A → Bool) → List A → List A → Type 0
Reordered depends old [] = old ≡ []
Reordered {A} depends old (y ∷ new) =
    (front : List A) × (rest : List A) × (old ≡ front ++ y ∷ rest) × NoneBefore depends front y × Reordered depends (front ++ rest) new

-- where nothing depends on what is equal to it, equal numbers stay beside each other and 2 may pass 1
two_first : Reordered nat_eq (1 ∷ 2 ∷ 3 ∷ []) (2 ∷ 1 ∷ 3 ∷ [])
two_first = (1 ∷ [], 3 ∷ [], refl, (refl, tt), ([], 3 ∷ [], refl, tt, ([], [], refl, tt, refl)))
