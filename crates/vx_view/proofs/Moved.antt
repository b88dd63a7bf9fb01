-- An instruction that was moved, and is moved back to before what stood after it.
use Rattle.std.proofs.Common.{◌≡◌, refl, sym, ap, ◌∙◌, ℕ, suc, Bool, true, false, Option, None, Some, List, [], ◌∷◌, ◌++◌, map, cond}
use Rattle.ir_types.specs.declared.id.Id.{Id}
use Rattle.ir_types.specs.declared.inst.Inst.{Inst}
use Rattle.ir_types.specs.declared.func.Block.{Block}
use Rattle.ir_types.specs.declared.module.Item.{Item}
use Rattle.ir_types.specs.declared.module.Item.TheVariants.{Kept, Opaque, Func as FuncItem}
use Rattle.ir_types.specs.declared.module.Module.{Module}
use Rattle.ir_types.specs.Available.{same_id}
use Rattle.ir_types.specs.Formed.{ids_of}
use Rattle.ir_types.proofs.Formed.{Every}
use Rattle.ir_types.proofs.Among.{same_is, Once}
use Rattle.vx_view.specs.Answers.{funcs_of, find, found, Standing, standing, either, standing_in, standing_of, after}
use Rattle.vx_view.specs.Changes.{each, edited_block, edited_item, edited, inserting, removing, moved}
use Rattle.vx_view.proofs.Edits.{EveryInst, IsOther, find_none, items_none, items_only}
use Rattle.vx_view.proofs.Removed.{none_inserted, no_none, remove_undone}
use Rattle.vx_view.proofs.Undone.{insert_undone}

-- ---- what was taken out is not there

module _ (y : Id) where
  find_gone : (l : List Inst) → find y (each (removing y) l) ≡ None
  find_gone [] = refl
  find_gone (i ∷ is) = by_test (same_id i.id y) refl (find_gone is)
    where
      by_test : (b : Bool) → same_id i.id y ≡ b → find y (each (removing y) is) ≡ None → find y (cond b [] (i ∷ []) ++ each (removing y) is) ≡ None
      by_test true t more = more
      by_test false t more = ap (λ b. cond b (Some i) (find y (each (removing y) is))) t ∙ more

  blocks_gone : (k n : ℕ) (bs : List Block) → standing_in y k n (map (edited_block (removing y)) bs) ≡ None
  blocks_gone k n [] = refl
  blocks_gone k n (b ∷ bs) =
      ap (λ u. either (standing k n (each (removing y) b.insts) u) (standing_in y k (suc n) (map (edited_block (removing y)) bs))) (find_gone b.insts)
      ∙ blocks_gone k (suc n) bs

  items_gone : (k : ℕ) (items : List Item) → standing_of y k (funcs_of (map (edited_item (removing y)) items)) ≡ None
  items_gone k [] = refl
  items_gone k (Kept text ∷ items) = items_gone k items
  items_gone k (Opaque text ∷ items) = items_gone k items
  items_gone k (FuncItem f ∷ items) =
      ap (λ u. either u (standing_of y (suc k) (funcs_of (map (edited_item (removing y)) items)))) (blocks_gone k 0 f.blocks) ∙ items_gone (suc k) items

  -- ---- another instruction stays

  module _ (x : Id) (other : same_id y x ≡ false) where
    find_stays : (l : List Inst) → find x (each (removing y) l) ≡ find x l
    find_stays [] = refl
    find_stays (i ∷ is) = by_test (same_id i.id y) refl (find_stays is)
      where
        by_test : (b : Bool) → same_id i.id y ≡ b → find x (each (removing y) is) ≡ find x is →
            find x (cond b [] (i ∷ []) ++ each (removing y) is) ≡ cond (same_id i.id x) (Some i) (find x is)
        by_test true t more = more ∙ ap (λ b. cond b (Some i) (find x is)) (sym (ap (λ v. same_id v x) (same_is i.id y t) ∙ other))
        by_test false t more = ap (λ u. cond (same_id i.id x) (Some i) u) more

    blocks_stay : (k n : ℕ) (bs : List Block) (t : Standing) → standing_in x k n bs ≡ Some t →
        (u : Standing) × (standing_in x k n (map (edited_block (removing y)) bs) ≡ Some u)
    blocks_stay k n [] t e = absurd (no_none e)
    blocks_stay k n (b ∷ bs) t e = by_find (find x b.insts) refl e (λ r. blocks_stay k (suc n) bs t r)
      where
        by_find : (o : Option Inst) → find x b.insts ≡ o → either (standing k n b.insts o) (standing_in x k (suc n) bs) ≡ Some t →
            (standing_in x k (suc n) bs ≡ Some t → (u : Standing) × (standing_in x k (suc n) (map (edited_block (removing y)) bs) ≡ Some u)) →
            (u : Standing) × (standing_in x k n (map (edited_block (removing y)) (b ∷ bs)) ≡ Some u)
        by_find (Some i) q r more =
            (_, ap (λ o. either (standing k n (each (removing y) b.insts) o) (standing_in x k (suc n) (map (edited_block (removing y)) bs))) (find_stays b.insts ∙ q))
        by_find None q r more =
            let m = more r in
            (m.0, ap (λ o. either (standing k n (each (removing y) b.insts) o) (standing_in x k (suc n) (map (edited_block (removing y)) bs))) (find_stays b.insts ∙ q) ∙ m.1)

    items_stay : (k : ℕ) (items : List Item) (t : Standing) → standing_of x k (funcs_of items) ≡ Some t →
        (u : Standing) × (standing_of x k (funcs_of (map (edited_item (removing y)) items)) ≡ Some u)
    items_stay k [] t e = absurd (no_none e)
    items_stay k (Kept text ∷ items) t e = items_stay k items t e
    items_stay k (Opaque text ∷ items) t e = items_stay k items t e
    items_stay k (FuncItem f ∷ items) t e = by_blocks (standing_in x k 0 f.blocks) refl e (λ r. items_stay (suc k) items t r)
      where
        by_blocks : (o : Option Standing) → standing_in x k 0 f.blocks ≡ o → either o (standing_of x (suc k) (funcs_of items)) ≡ Some t →
            (standing_of x (suc k) (funcs_of items) ≡ Some t → (u : Standing) × (standing_of x (suc k) (funcs_of (map (edited_item (removing y)) items)) ≡ Some u)) →
            (u : Standing) × (standing_of x k (funcs_of (map (edited_item (removing y)) (FuncItem f ∷ items))) ≡ Some u)
        by_blocks (Some q) p r more =
            let s = blocks_stay k 0 f.blocks q p in
            (s.0, ap (λ o. either o (standing_of x (suc k) (funcs_of (map (edited_item (removing y)) items)))) s.1)
        by_blocks None p r more = by_new (standing_in x k 0 (map (edited_block (removing y)) f.blocks)) refl (more r)
          where
            by_new : (o : Option Standing) → standing_in x k 0 (map (edited_block (removing y)) f.blocks) ≡ o →
                (u : Standing) × (standing_of x (suc k) (funcs_of (map (edited_item (removing y)) items)) ≡ Some u) →
                (u : Standing) × (standing_of x k (funcs_of (map (edited_item (removing y)) (FuncItem f ∷ items))) ≡ Some u)
            by_new (Some v) p m = (v, ap (λ o. either o (standing_of x (suc k) (funcs_of (map (edited_item (removing y)) items)))) p)
            by_new None p m = (m.0, ap (λ o. either o (standing_of x (suc k) (funcs_of (map (edited_item (removing y)) items)))) p ∙ m.1)

-- ---- what was put in is found

module _ (y x : Id) (new : Inst) (own : same_id new.id y ≡ true) where
  find_new : (l : List Inst) (t : Inst) → Every (IsOther y) l → find x l ≡ Some t → find y (each (inserting x new) l) ≡ Some new
  find_new [] t h e = absurd (no_none e)
  find_new (j ∷ js) t h e = by_test (same_id j.id x) refl e (λ r. find_new js t h.1 r)
    where
      by_test : (b : Bool) → same_id j.id x ≡ b → cond b (Some j) (find x js) ≡ Some t → (find x js ≡ Some t → find y (each (inserting x new) js) ≡ Some new) →
          find y (cond b (new ∷ j ∷ []) (j ∷ []) ++ each (inserting x new) js) ≡ Some new
      by_test true q r more = ap (λ b. cond b (Some new) (find y (j ∷ each (inserting x new) js))) own
      by_test false q r more = ap (λ b. cond b (Some j) (find y (each (inserting x new) js))) h.0 ∙ more r

  find_other : (l : List Inst) → Every (IsOther y) l → find y l ≡ None
  find_other [] h = refl
  find_other (j ∷ js) h = ap (λ b. cond b (Some j) (find y js)) h.0 ∙ find_other js h.1

  blocks_new : (k n : ℕ) (bs : List Block) (t : Standing) → Every (λ (b : Block). Every (IsOther y) b.insts) bs → standing_in x k n bs ≡ Some t →
      (s : Standing) × (standing_in y k n (map (edited_block (inserting x new)) bs) ≡ Some s) × (s.inst ≡ new)
  blocks_new k n [] t h e = absurd (no_none e)
  blocks_new k n (b ∷ bs) t h e = by_find (find x b.insts) refl e (λ r. blocks_new k (suc n) bs t h.1 r)
    where
      by_find : (o : Option Inst) → find x b.insts ≡ o → either (standing k n b.insts o) (standing_in x k (suc n) bs) ≡ Some t →
          (standing_in x k (suc n) bs ≡ Some t → (s : Standing) × (standing_in y k (suc n) (map (edited_block (inserting x new)) bs) ≡ Some s) × (s.inst ≡ new)) →
          (s : Standing) × (standing_in y k n (map (edited_block (inserting x new)) (b ∷ bs)) ≡ Some s) × (s.inst ≡ new)
      by_find (Some i) q r more = (
        record { place = record { func = k; block = n }; block = each (inserting x new) b.insts; inst = new },
        ap (λ o. either (standing k n (each (inserting x new) b.insts) o) (standing_in y k (suc n) (map (edited_block (inserting x new)) bs))) (find_new b.insts i h.0 q),
        refl,
      )
      by_find None q r more =
          let m = more r in
          let none : find y (each (inserting x new) b.insts) ≡ None = ap (find y) (none_inserted x new b.insts (find_none x b.insts q)) ∙ find_other b.insts h.0 in
          (m.0, ap (λ o. either (standing k n (each (inserting x new) b.insts) o) (standing_in y k (suc n) (map (edited_block (inserting x new)) bs))) none ∙ m.1, m.2)

  blocks_old : (k n : ℕ) (bs : List Block) → Every (λ (b : Block). Every (IsOther y) b.insts) bs → standing_in x k n bs ≡ None →
      standing_in y k n (map (edited_block (inserting x new)) bs) ≡ None
  blocks_old k n [] h e = refl
  blocks_old k n (b ∷ bs) h e = by_find (find x b.insts) refl e (λ r. blocks_old k (suc n) bs h.1 r)
    where
      no_some : {A : Type 0} {a : A} → Some a ≡ None → ⊥
      no_some e = cc

      by_find : (o : Option Inst) → find x b.insts ≡ o → either (standing k n b.insts o) (standing_in x k (suc n) bs) ≡ None →
          (standing_in x k (suc n) bs ≡ None → standing_in y k (suc n) (map (edited_block (inserting x new)) bs) ≡ None) →
          standing_in y k n (map (edited_block (inserting x new)) (b ∷ bs)) ≡ None
      by_find (Some i) q r more = absurd (no_some r)
      by_find None q r more =
          let none : find y (each (inserting x new) b.insts) ≡ None = ap (find y) (none_inserted x new b.insts (find_none x b.insts q)) ∙ find_other b.insts h.0 in
          ap (λ o. either (standing k n (each (inserting x new) b.insts) o) (standing_in y k (suc n) (map (edited_block (inserting x new)) bs))) none ∙ more r

  items_new : (k : ℕ) (items : List Item) (t : Standing) → EveryInst (IsOther y) items → standing_of x k (funcs_of items) ≡ Some t →
      (s : Standing) × (standing_of y k (funcs_of (map (edited_item (inserting x new)) items)) ≡ Some s) × (s.inst ≡ new)
  items_new k [] t h e = absurd (no_none e)
  items_new k (Kept text ∷ items) t h e = items_new k items t h.1 e
  items_new k (Opaque text ∷ items) t h e = items_new k items t h.1 e
  items_new k (FuncItem f ∷ items) t h e = by_blocks (standing_in x k 0 f.blocks) refl e (λ r. items_new (suc k) items t h.1 r)
    where
      by_blocks : (o : Option Standing) → standing_in x k 0 f.blocks ≡ o → either o (standing_of x (suc k) (funcs_of items)) ≡ Some t →
          (standing_of x (suc k) (funcs_of items) ≡ Some t → (s : Standing) × (standing_of y (suc k) (funcs_of (map (edited_item (inserting x new)) items)) ≡ Some s) × (s.inst ≡ new)) →
          (s : Standing) × (standing_of y k (funcs_of (map (edited_item (inserting x new)) (FuncItem f ∷ items))) ≡ Some s) × (s.inst ≡ new)
      by_blocks (Some q) p r more =
          let s = blocks_new k 0 f.blocks q h.0 p in
          (s.0, ap (λ o. either o (standing_of y (suc k) (funcs_of (map (edited_item (inserting x new)) items)))) s.1, s.2)
      by_blocks None p r more =
          let m = more r in
          (m.0, ap (λ o. either o (standing_of y (suc k) (funcs_of (map (edited_item (inserting x new)) items)))) (blocks_old k 0 f.blocks h.0 p) ∙ m.1, m.2)

-- ---- modules

pub move_undone : (m : Module) (y x n : Id) (s t : Standing) → Once (ids_of m) → found m y ≡ Some s → found m x ≡ Some t → same_id y x ≡ false → after y s.block ≡ Some n →
    moved n (moved x m (Some s)) (found (moved x m (Some s)) y) ≡ m
move_undone m y x n s t once e u other next =
    let own : same_id s.inst.id y ≡ true = (items_only y 0 m.items s once e).1 in
    let id : s.inst.id ≡ y = same_is s.inst.id y own in
    let rest : edited (removing s.inst.id) m ≡ edited (removing y) m = ap (λ v. edited (removing v) m) id in
    let stays = items_stay y x other 0 m.items t u in
    let lacks : EveryInst (IsOther y) (edited (removing y) m).items = items_none y 0 (edited (removing y) m).items (items_gone y 0 m.items) in
    let new = items_new y x s.inst own 0 (edited (removing y) m).items stays.0 lacks stays.1 in
    let there : found (edited (inserting x s.inst) (edited (removing s.inst.id) m)) y ≡ Some new.0 = ap (λ v. found (edited (inserting x s.inst) v) y) rest ∙ new.1 in
    ap (moved n (edited (inserting x s.inst) (edited (removing s.inst.id) m))) there
    ∙ ap (λ (i : Inst). edited (inserting n i) (edited (removing i.id) (edited (inserting x s.inst) (edited (removing s.inst.id) m)))) new.2
    ∙ ap (edited (inserting n s.inst)) (insert_undone (edited (removing s.inst.id) m) x s.inst (items_gone s.inst.id 0 m.items))
    ∙ ap (edited (inserting n s.inst)) rest
    ∙ remove_undone m y n s once e next
