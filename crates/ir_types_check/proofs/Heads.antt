-- The names of a module, apart from those inside its functions and with them.
use Rattle.std.proofs.Common.{◌≡◌, Result, Ok, Err, List, [], ◌∷◌, refl, ap, ◌∙◌, sym}
use Rattle.ir_draft.specs.declared.draft.DraftItem.{DraftItem}
use Rattle.ir_draft.specs.declared.draft.DraftItem.TheVariants as item
use Rattle.ir_types_check.specs.declared.tops.Top.TheVariants.{Function}
use Rattle.ir_types_check.specs.declared.tops.Tops.{Tops}
use Rattle.ir_types_check.specs.declared.locals.Locals.{Locals}
use Rattle.ir_types_check.specs.declared.refusal.ResolveRefusal.{ResolveRefusal}
use Rattle.ir_types_check.specs.Answers.{◌>>=◌, Gives}
use Rattle.ir_types_check.specs.Locals.{locals_of}
use Rattle.ir_types_check.specs.Tops.{with_function, with_top, signature_of, with_item, with_items, tops_of}
use Rattle.ir_types_check.specs.InOrder.{with_head, with_heads, own_names, all_own_names, GivesTops}
use Rattle.ir_types_check.proofs.Binding.{bind_ok, refused}

bound_ok : {A : Type 0} (r : Result A ResolveRefusal) → (r >>= λ a. Ok a) ≡ r
bound_ok (Ok a) = refl
bound_ok (Err e) = refl

-- nothing is refused
abbrev fine : Result (Unit {0}) ResolveRefusal
fine = Ok tt

own_then : (r : Result Locals ResolveRefusal) (t : Tops) → (r >>= λ _. Ok t) ≡ ((r >>= λ _. fine) >>= λ _. Ok t)
own_then (Ok l) t = refl
own_then (Err e) t = refl

head_then : (r : Result Tops ResolveRefusal) (o : Result Locals ResolveRefusal) → (r >>= λ after. o >>= λ _. Ok after) ≡ (r >>= λ after. (o >>= λ _. fine) >>= λ _. Ok after)
head_then (Ok t) o = own_then o t
head_then (Err e) o = refl

-- an item's own name comes before those inside it
pub item_by_parts : (t : Tops) (x : DraftItem) → with_item t x ≡ (with_head t x >>= λ after. own_names x >>= λ _. Ok after)
unfolding with_function
item_by_parts t (item.Kept n kept) = sym (bound_ok (with_head t (item.Kept n kept)))
item_by_parts t (item.Opaque n name text) = sym (bound_ok (with_head t (item.Opaque n name text)))
item_by_parts t (item.Func n head body) = head_then (with_top n t head.name (Function (signature_of head))) (locals_of n head body)

own_first : (o more : Result (Unit {0}) ResolveRefusal) (a T : Tops) (f : Tops → Result Tops ResolveRefusal) → f a ≡ (more >>= λ _. Ok T) → ((o >>= λ _. Ok a) >>= f) ≡ ((o >>= λ _. more) >>= λ _. Ok T)
own_first (Ok u) more a T f e = e
own_first (Err x) more a T f e = refl

-- where no name of the module is defined twice, one inside a function may be
pub heads_then_own : (t : Tops) (items : List DraftItem) (T : Tops) → with_heads t items ≡ Ok T → with_items t items ≡ (all_own_names items >>= λ _. Ok T)
heads_then_own t [] T e = e
heads_then_own t (x ∷ xs) T e =
    bind_ok (with_head t x) (λ after. with_heads after xs) T e (λ a here rest.
    ap (λ r. r >>= λ after. with_items after xs) (item_by_parts t x ∙ ap (λ r. r >>= λ after. own_names x >>= λ _. Ok after) here)
    ∙ own_first (own_names x) (all_own_names xs) a T (λ after. with_items after xs) (heads_then_own a xs T rest))

-- an item's name and those inside it
pub item_is : (t : Tops) (x : DraftItem) (a : Tops) (u : Unit {0}) → with_head t x ≡ Ok a → own_names x ≡ Ok u → with_item t x ≡ Ok a
item_is t x a u head own = item_by_parts t x ∙ ap (λ r. r >>= λ after. own_names x >>= λ _. Ok after) head ∙ ap (λ (r : Result (Unit {0}) ResolveRefusal). r >>= λ _. Ok a) own

-- where no name is defined twice, none inside a function is
own_fine : (t : Tops) (items : List DraftItem) (S : Tops) → with_items t items ≡ Ok S → all_own_names items ≡ fine
own_fine t [] S e = refl
own_fine t (x ∷ xs) S e =
    bind_ok (with_item t x) (λ after. with_items after xs) S e (λ a here rest.
    bind_ok (with_head t x) (λ after. own_names x >>= λ _. Ok after) a (sym (item_by_parts t x) ∙ here) (λ b head parts.
    bind_ok (own_names x) (λ _. Ok b) a parts (λ u own _.
    ap (λ (r : Result (Unit {0}) ResolveRefusal). r >>= λ _. all_own_names xs) own ∙ own_fine a xs S rest)))

pub tops_then_own : (r : Result Tops ResolveRefusal) (items : List DraftItem) → Gives (λ (t : Tops). t) r (tops_of items) → GivesTops r items
tops_then_own (Ok T) items e = e ∙ sym (ap (λ (r : Result (Unit {0}) ResolveRefusal). r >>= λ _. Ok T) (own_fine (record { scope = []; globals = [] }) items T e))
tops_then_own (Err refusal) items e = e

pub found_then_own : (r : Result Tops ResolveRefusal) (items : List DraftItem) → Gives (λ (t : Tops). t) r (with_heads (record { scope = []; globals = [] }) items) → (T : Tops) → r ≡ Ok T →
    tops_of items ≡ (all_own_names items >>= λ _. Ok T)
found_then_own (Ok S) items e T is = heads_then_own (record { scope = []; globals = [] }) items T (e ∙ is)
found_then_own (Err refusal) items e T is = refused is
