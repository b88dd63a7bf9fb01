-- The law of changes: in a formed module, a change that fits is undone by its inverse.
use Rattle.std.proofs.Common.{◌≡◌, refl, sym, ap, ◌∙◌, ℕ, suc, Bool, true, false, not, ◌&&◌, Option, None, Some, List, [], ◌∷◌, cond, slice_get}
use Rattle.ir_types.specs.declared.id.Id.{Id}
use Rattle.ir_types.specs.declared.inst.Inst.{Inst}
use Rattle.ir_types.specs.declared.func.Block.{Block}
use Rattle.ir_types.specs.declared.module.Item.{Item}
use Rattle.ir_types.specs.declared.module.Item.TheVariants.{Kept, Opaque, Func as FuncItem}
use Rattle.ir_types.specs.declared.module.Module.{Module}
use Rattle.ir_types.specs.Available.{same_id}
use Rattle.ir_types.specs.Formed.{is_terminator, ends_from, EndsOnce, IsFormedItem, IsFormed, ids_of}
use Rattle.ir_types.proofs.Formed.{Every, every_of_all, every_of_each}
use Rattle.ir_types.proofs.Among.{once_of_pairs}
use Rattle.vx_view.specs.declared.change.Change.{Change}
use Rattle.vx_view.specs.declared.change.Change.TheVariants.{Insert, Remove, Move, Replace, SetOperand}
use Rattle.vx_view.specs.Answers.{funcs_of, param_of, find, found, Standing, standing, either, standing_in, standing_of, id_of, after}
use Rattle.vx_view.specs.Changes.{applied, all_applied, edited, removing, setting, moved, IsNeither, Fits, back_before, back_to, old_operand, inverse}
use Rattle.vx_view.proofs.Removed.{EveryBlock, some_is, no_none, remove_undone}
use Rattle.vx_view.proofs.Undone.{insert_undone, set_undone, put_undone}
use Rattle.vx_view.proofs.Moved.{move_undone}

-- ---- after what ends no block stands another instruction

true_false : true ≡ false → ⊥
true_false e = cc

module _ (x : Id) (i : Inst) (goes_on : is_terminator i.op ≡ false) where
  next_from : (j : Inst) (js : List Inst) → ends_from j js ≡ true → find x (j ∷ js) ≡ Some i → (n : Id) × (after x (j ∷ js) ≡ Some n)
  next_from j [] e f = by_test (same_id j.id x) f
    where
      by_test : (b : Bool) → cond b (Some j) None ≡ Some i → (n : Id) × (cond b None None ≡ Some n)
      by_test true r = absurd (true_false (sym e ∙ ap (λ (k : Inst). is_terminator k.op) (some_is r) ∙ goes_on))
      by_test false r = absurd (no_none r)
  next_from j (k ∷ ks) e f = by_test (same_id j.id x) refl f (λ r. next_from k ks (and_right (not (is_terminator j.op)) (ends_from k ks) e) r)
    where
      and_right : (a b : Bool) → a && b ≡ true → b ≡ true
      and_right true b h = h
      and_right false b h = absurd cc

      by_test : (b : Bool) → same_id j.id x ≡ b → cond b (Some j) (find x (k ∷ ks)) ≡ Some i → (find x (k ∷ ks) ≡ Some i → (n : Id) × (after x (k ∷ ks) ≡ Some n)) →
          (n : Id) × (cond b (id_of (k ∷ ks)) (after x (k ∷ ks)) ≡ Some n)
      by_test true t r more = (k.id, refl)
      by_test false t r more = more r

  next_in : (l : List Inst) → EndsOnce l → find x l ≡ Some i → (n : Id) × (after x l ≡ Some n)
  next_in [] e f = absurd e
  next_in (j ∷ js) e f = next_from j js e f

-- the block in which an instruction stands
module _ (x : Id) (s : Standing) (goes_on : is_terminator s.inst.op ≡ false) where
  next_in_blocks : (k n : ℕ) (bs : List Block) → Every (λ (b : Block). EndsOnce b.insts) bs → standing_in x k n bs ≡ Some s → (v : Id) × (after x s.block ≡ Some v)
  next_in_blocks k n [] h e = absurd (no_none e)
  next_in_blocks k n (b ∷ bs) h e = by_find (find x b.insts) refl e (λ r. next_in_blocks k (suc n) bs h.1 r)
    where
      by_find : (u : Option Inst) → find x b.insts ≡ u → either (standing k n b.insts u) (standing_in x k (suc n) bs) ≡ Some s →
          (standing_in x k (suc n) bs ≡ Some s → (v : Id) × (after x s.block ≡ Some v)) → (v : Id) × (after x s.block ≡ Some v)
      by_find (Some i) t r more =
          let m = next_in x s.inst goes_on b.insts h.0 (t ∙ ap Some (ap (λ (v : Standing). v.inst) (some_is r))) in
          (m.0, ap (after x) (sym (ap (λ (v : Standing). v.block) (some_is r))) ∙ m.1)
      by_find None t r more = more r

  next_in_items : (k : ℕ) (items : List Item) → EveryBlock EndsOnce items → standing_of x k (funcs_of items) ≡ Some s → (v : Id) × (after x s.block ≡ Some v)
  next_in_items k [] h e = absurd (no_none e)
  next_in_items k (Kept text ∷ items) h e = next_in_items k items h.1 e
  next_in_items k (Opaque text ∷ items) h e = next_in_items k items h.1 e
  next_in_items k (FuncItem f ∷ items) h e = by_blocks (standing_in x k 0 f.blocks) refl e (λ r. next_in_items (suc k) items h.1 r)
    where
      by_blocks : (u : Option Standing) → standing_in x k 0 f.blocks ≡ u → either u (standing_of x (suc k) (funcs_of items)) ≡ Some s →
          (standing_of x (suc k) (funcs_of items) ≡ Some s → (v : Id) × (after x s.block ≡ Some v)) → (v : Id) × (after x s.block ≡ Some v)
      by_blocks (Some q) t r more = next_in_blocks k 0 f.blocks h.0 (t ∙ r)
      by_blocks None t r more = more r

items_end : (m : Module) (items : List Item) → Every (IsFormedItem m) items → EveryBlock EndsOnce items
items_end m [] h = tt
items_end m (Kept text ∷ items) h = (tt, items_end m items h.1)
items_end m (Opaque text ∷ items) h = (tt, items_end m items h.1)
items_end m (FuncItem f ∷ items) h =
    (every_of_each (λ (b : Block). EndsOnce b.insts) f.blocks (λ k b e. (h.0.blocks k b e).ends), items_end m items h.1)

pub next_of : (m : Module) → IsFormed m → (x : Id) (s : Standing) → found m x ≡ Some s → is_terminator s.inst.op ≡ false → (v : Id) × (after x s.block ≡ Some v)
next_of m formed x s e goes_on = next_in_items x s goes_on 0 m.items (items_end m m.items (every_of_all (IsFormedItem m) m.items formed.items)) e

-- ---- the law

neither_right : {A B : Type 0} (a : Option A) (b : Option B) → IsNeither a b → b ≡ None
neither_right None None h = refl
neither_right None (Some b) h = absurd h
neither_right (Some a) None h = absurd h
neither_right (Some a) (Some b) h = absurd h

pub undone : (m : Module) (c : Change) → IsFormed m → Fits m c → all_applied (inverse m c) (applied c m) ≡ m
undone m (Insert x new) formed fits = insert_undone m x new (neither_right (param_of new.id (funcs_of m.items)) (found m new.id) fits.1)
undone m (Remove x) formed fits =
    let s = fits.0.0 in
    let next = next_of m formed x s fits.0.1 fits.0.2.2 in
    ap (λ o. all_applied (back_to o (λ t. back_before (after x t.block) (λ n. Insert n t.inst))) (edited (removing x) m)) fits.0.1
    ∙ ap (λ o. all_applied (back_before o (λ n. Insert n s.inst)) (edited (removing x) m)) next.1
    ∙ remove_undone m x next.0 s (once_of_pairs (ids_of m) formed.once) fits.0.1 next.1
undone m (Move y x) formed fits =
    let t = fits.0.0 in
    let s = fits.0.2.1.0 in
    let e : found m y ≡ Some s = fits.0.2.1.1 in
    let next = next_of m formed y s e fits.0.2.1.2.2 in
    ap (λ o. all_applied (back_to o (λ u. back_before (after y u.block) (Move y))) (moved x m o)) e
    ∙ ap (λ o. all_applied (back_before o (Move y)) (moved x m (Some s))) next.1
    ∙ move_undone m y x next.0 s t (once_of_pairs (ids_of m) formed.once) e fits.0.1 fits.1 next.1
undone m (Replace new) formed fits =
    let s = fits.0.0 in
    ap (λ o. all_applied (back_to o (λ t. Replace t.inst ∷ [])) (applied (Replace new) m)) fits.0.1
    ∙ put_undone m new s (once_of_pairs (ids_of m) formed.once) fits.0.1
undone m (SetOperand x slot o) formed fits =
    let s = fits.0.0 in
    let old = fits.0.2.0 in
    ap (λ u. all_applied (back_to u (λ t. old_operand x slot (slice_get t.inst.opds slot))) (edited (setting x slot o) m)) fits.0.1
    ∙ ap (λ u. all_applied (old_operand x slot u) (edited (setting x slot o) m)) fits.0.2.1
    ∙ set_undone m x slot o old s (once_of_pairs (ids_of m) formed.once) fits.0.1 fits.0.2.1
