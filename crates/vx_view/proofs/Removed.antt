-- An instruction that was taken out and is put before what stood after it: the module is as it was.
use Rattle.std.proofs.Common.{◌≡◌, refl, sym, ap, ◌∙◌, subst, ℕ, suc, Bool, true, false, ◌||◌, Option, None, Some, List, [], ◌∷◌, ◌++◌, map, cond}
use Rattle.ir_types.specs.declared.id.Id.{Id}
use Rattle.ir_types.specs.declared.inst.Inst.{Inst}
use Rattle.ir_types.specs.declared.func.Param.{Param}
use Rattle.ir_types.specs.declared.func.Block.{Block}
use Rattle.ir_types.specs.declared.module.Item.{Item}
use Rattle.ir_types.specs.declared.module.Item.TheVariants.{Kept, Opaque, Func as FuncItem}
use Rattle.ir_types.specs.declared.module.Module.{Module}
use Rattle.ir_types.specs.Available.{same_id}
use Rattle.ir_types.specs.Formed.{block_ids, item_ids, ids_of_items, ids_of}
use Rattle.ir_types.proofs.Formed.{Every}
use Rattle.ir_types.proofs.Among.{among, among_left, among_right, same_itself, same_is, Once}
use Rattle.vx_view.specs.Answers.{funcs_of, find, found, Standing, standing, either, standing_in, standing_of, id_of, after}
use Rattle.vx_view.specs.Changes.{Edit, each, edited_block, edited_item, edited, inserting, removing}
use Rattle.vx_view.proofs.Edits.{IsOther, find_none, blocks_none, lacks_list, lacks_blocks, lacks_left, lacks_right, once_left, once_right, once_apart, inst_ids}

-- ---- what holds of each block's instructions

abbrev pub EveryBlockIn : (List Inst → Type 0) → Item → Type 0
EveryBlockIn P (FuncItem f) = Every (λ (b : Block). P b.insts) f.blocks
EveryBlockIn P _ = Unit {0}

abbrev pub EveryBlock : (List Inst → Type 0) → List Item → Type 0
EveryBlock P items = Every (EveryBlockIn P) items

module _ (f g : Edit) where
  abbrev pub ListBack : List Inst → Type 0
  ListBack l = each g (each f l) ≡ l

  blocks_listed : (bs : List Block) → Every (λ (b : Block). ListBack b.insts) bs → map (edited_block g) (map (edited_block f) bs) ≡ bs
  blocks_listed [] h = refl
  blocks_listed (b ∷ bs) h =
      ap (λ l. record { name = b.name; insts = l } ∷ map (edited_block g) (map (edited_block f) bs)) h.0
      ∙ ap (λ u. b ∷ u) (blocks_listed bs h.1)

  items_listed : (items : List Item) → EveryBlock ListBack items → map (edited_item g) (map (edited_item f) items) ≡ items
  items_listed [] h = refl
  items_listed (Kept text ∷ items) h = ap (λ u. Kept text ∷ u) (items_listed items h.1)
  items_listed (Opaque text ∷ items) h = ap (λ u. Opaque text ∷ u) (items_listed items h.1)
  items_listed (FuncItem u ∷ items) h =
      ap (λ bs. FuncItem (record { before = u.before; ret = u.ret; name = u.name; params = u.params; after = u.after; blocks = bs }) ∷ map (edited_item g) (map (edited_item f) items))
      (blocks_listed u.blocks h.0)
      ∙ ap (λ v. FuncItem u ∷ v) (items_listed items h.1)

  pub module_listed : (m : Module) → EveryBlock ListBack m.items → edited g (edited f m) ≡ m
  module_listed m h = ap (λ items. record { items = items; globals = m.globals; big_endian_line = m.big_endian_line }) (items_listed m.items h)

-- ---- one block

true_false : true ≡ false → ⊥
true_false e = cc

false_true : false ≡ true → ⊥
false_true e = cc

pub some_is : {A : Type 0} {p q : A} → Some p ≡ Some q → p ≡ q
some_is e = cc

pub no_none : {A : Type 0} {p : A} → None ≡ Some p → ⊥
no_none e = cc

-- nothing of an id is there to go, or to have something before it
pub none_removed : (x : Id) (l : List Inst) → Every (IsOther x) l → each (removing x) l ≡ l
none_removed x [] h = refl
none_removed x (i ∷ is) h = ap (λ b. cond b [] (i ∷ []) ++ each (removing x) is) h.0 ∙ ap (λ u. i ∷ u) (none_removed x is h.1)

pub none_inserted : (n : Id) (new : Inst) (l : List Inst) → Every (IsOther n) l → each (inserting n new) l ≡ l
none_inserted n new [] h = refl
none_inserted n new (i ∷ is) h = ap (λ b. cond b (new ∷ i ∷ []) (i ∷ []) ++ each (inserting n new) is) h.0 ∙ ap (λ u. i ∷ u) (none_inserted n new is h.1)

-- what stands after an instruction is one of the block
pub after_among : (x n : Id) (l : List Inst) → after x l ≡ Some n → among (inst_ids l) n ≡ true
after_among x n [] e = absurd (no_none e)
after_among x n (j ∷ js) e = by_test (same_id j.id x) e (λ r. after_among x n js r)
  where
    or_right : (a b : Bool) → b ≡ true → (a || b) ≡ true
    or_right true b h = refl
    or_right false b h = h

    first_among : (is : List Inst) → id_of is ≡ Some n → among (inst_ids is) n ≡ true
    first_among [] r = absurd (no_none r)
    first_among (k ∷ ks) r = ap (λ v. same_id v n || among (inst_ids ks) n) (some_is r) ∙ ap (λ b. b || among (inst_ids ks) n) (same_itself n)

    by_test : (b : Bool) → cond b (id_of js) (after x js) ≡ Some n → (after x js ≡ Some n → among (inst_ids js) n ≡ true) → (same_id j.id n || among (inst_ids js) n) ≡ true
    by_test true r more = or_right (same_id j.id n) (among (inst_ids js) n) (first_among js r)
    by_test false r more = or_right (same_id j.id n) (among (inst_ids js) n) (more r)

-- an id that is among others is not one that is not
pub not_same : (x n : Id) (ids : List Id) → among ids x ≡ false → among ids n ≡ true → same_id x n ≡ false
not_same x n ids e r = by_test (same_id x n) refl where
  by_test : (b : Bool) → same_id x n ≡ b → b ≡ false
  by_test true t = absurd (true_false (sym r ∙ ap (among ids) (sym (same_is x n t)) ∙ e))
  by_test false t = refl

put_back : (x n : Id) (i : Inst) (l : List Inst) → Once (inst_ids l) → find x l ≡ Some i → after x l ≡ Some n → each (inserting n i) (each (removing x) l) ≡ l
put_back x n i [] o e a = absurd (no_none e)
put_back x n i (j ∷ js) o e a = by_test (same_id j.id x) refl e a (λ r q. put_back x n i js o.1 r q)
  where
    before_next : (is : List Inst) → Once (inst_ids is) → id_of is ≡ Some n → each (inserting n i) is ≡ i ∷ is
    before_next [] o r = absurd (no_none r)
    before_next (k ∷ ks) o r =
        let here : same_id k.id n ≡ true = ap (λ v. same_id v n) (some_is r) ∙ same_itself n in
        ap (λ b. cond b (i ∷ k ∷ []) (k ∷ []) ++ each (inserting n i) ks) here
        ∙ ap (λ u. i ∷ k ∷ u) (none_inserted n i ks (lacks_list n ks (subst (λ v. among (inst_ids ks) v ≡ false) (some_is r) o.0)))

    by_test : (b : Bool) → same_id j.id x ≡ b → cond b (Some j) (find x js) ≡ Some i → cond b (id_of js) (after x js) ≡ Some n →
        (find x js ≡ Some i → after x js ≡ Some n → each (inserting n i) (each (removing x) js) ≡ js) →
        each (inserting n i) (cond b [] (j ∷ []) ++ each (removing x) js) ≡ j ∷ js
    by_test true t r q more =
        ap (each (inserting n i)) (none_removed x js (lacks_list x js (subst (λ v. among (inst_ids js) v ≡ false) (same_is j.id x t) o.0)))
        ∙ before_next js o.1 q ∙ ap (λ u. u ∷ js) (sym (some_is r))
    by_test false t r q more =
        ap (λ b. cond b (i ∷ j ∷ []) (j ∷ []) ++ each (inserting n i) (each (removing x) js)) (not_same j.id n (inst_ids js) o.0 (after_among x n js q))
        ∙ ap (λ u. j ∷ u) (more r q)

-- a block that has neither is as it was
lacks_both : (x n : Id) (i : Inst) (l : List Inst) → Every (IsOther x) l → Every (IsOther n) l → each (inserting n i) (each (removing x) l) ≡ l
lacks_both x n i l h k = ap (each (inserting n i)) (none_removed x l h) ∙ none_inserted n i l k

-- ---- modules

-- what is among the second is not among the first
pub once_before : (xs ys : List Id) (x : Id) → Once (xs ++ ys) → among ys x ≡ true → among xs x ≡ false
once_before xs ys x o e = by_test (among xs x) refl where
  by_test : (b : Bool) → among xs x ≡ b → b ≡ false
  by_test true t = absurd (true_false (sym e ∙ once_apart xs ys x o t))
  by_test false t = refl

module _ (x n : Id) (s : Standing) (next : after x s.block ≡ Some n) where
  abbrev Restored : List Inst → Type 0
  Restored l = ListBack (removing x) (inserting n s.inst) l

  all_lack : (bs : List Block) → Every (λ (b : Block). Every (IsOther x) b.insts) bs → Every (λ (b : Block). Every (IsOther n) b.insts) bs → Every (λ (b : Block). Restored b.insts) bs
  all_lack [] h k = tt
  all_lack (b ∷ bs) h k = (lacks_both x n s.inst b.insts h.0 k.0, all_lack bs h.1 k.1)

  items_lack : (items : List Item) → among (ids_of_items items) x ≡ false → among (ids_of_items items) n ≡ false → EveryBlock Restored items
  items_lack [] e r = tt
  items_lack (Kept text ∷ items) e r = (tt, items_lack items e r)
  items_lack (Opaque text ∷ items) e r = (tt, items_lack items e r)
  items_lack (FuncItem f ∷ items) e r =
      let params = map (λ (p : Param). p.id) f.params in
      let rest = ids_of_items items in (
        all_lack f.blocks (lacks_blocks x f.blocks (lacks_right params (block_ids f.blocks) x (lacks_left (item_ids (FuncItem f)) rest x e)))
            (lacks_blocks n f.blocks (lacks_right params (block_ids f.blocks) n (lacks_left (item_ids (FuncItem f)) rest n r))),
        items_lack items (lacks_right (item_ids (FuncItem f)) rest x e) (lacks_right (item_ids (FuncItem f)) rest n r),
      )

  find_among : (i : Inst) (l : List Inst) → find x l ≡ Some i → among (inst_ids l) x ≡ true
  find_among i [] e = absurd (no_none e)
  find_among i (j ∷ js) e = by_test (same_id j.id x) refl e (λ r. find_among i js r)
    where
      by_test : (b : Bool) → same_id j.id x ≡ b → cond b (Some j) (find x js) ≡ Some i → (find x js ≡ Some i → among (inst_ids js) x ≡ true) → (b || among (inst_ids js) x) ≡ true
      by_test true t r more = refl
      by_test false t r more = more r

  blocks_restored : (k c : ℕ) (bs : List Block) → Once (block_ids bs) → standing_in x k c bs ≡ Some s →
      Every (λ (b : Block). Restored b.insts) bs × (among (block_ids bs) x ≡ true) × (among (block_ids bs) n ≡ true)
  blocks_restored k c [] o e = absurd (no_none e)
  blocks_restored k c (b ∷ bs) o e = by_find (find x b.insts) refl e (λ r. blocks_restored k (suc c) bs (once_right (inst_ids b.insts) (block_ids bs) o) r)
    where
      by_find : (u : Option Inst) → find x b.insts ≡ u → either (standing k c b.insts u) (standing_in x k (suc c) bs) ≡ Some s →
          (standing_in x k (suc c) bs ≡ Some s → Every (λ (d : Block). Restored d.insts) bs × (among (block_ids bs) x ≡ true) × (among (block_ids bs) n ≡ true)) →
          (Restored b.insts × Every (λ (d : Block). Restored d.insts) bs) × (among (inst_ids b.insts ++ block_ids bs) x ≡ true) × (among (inst_ids b.insts ++ block_ids bs) n ≡ true)
      by_find (Some i) t r more =
          let is : i ≡ s.inst = ap (λ (v : Standing). v.inst) (some_is r) in
          let block : b.insts ≡ s.block = ap (λ (v : Standing). v.block) (some_is r) in
          let after_x : after x b.insts ≡ Some n = ap (after x) block ∙ next in
          let here_x = find_among i b.insts t in
          let here_n = after_among x n b.insts after_x in (
            (
              put_back x n s.inst b.insts (once_left (inst_ids b.insts) (block_ids bs) o) (t ∙ ap Some is) after_x,
              all_lack bs (lacks_blocks x bs (once_apart (inst_ids b.insts) (block_ids bs) x o here_x)) (lacks_blocks n bs (once_apart (inst_ids b.insts) (block_ids bs) n o here_n)),
            ),
            among_left (inst_ids b.insts) (block_ids bs) x here_x,
            among_left (inst_ids b.insts) (block_ids bs) n here_n,
          )
      by_find None t r more =
          let m = more r in (
            (lacks_both x n s.inst b.insts (find_none x b.insts t) (lacks_list n b.insts (once_before (inst_ids b.insts) (block_ids bs) n o m.2)), m.0),
            among_right (inst_ids b.insts) (block_ids bs) x m.1,
            among_right (inst_ids b.insts) (block_ids bs) n m.2,
          )

  items_restored : (k : ℕ) (items : List Item) → Once (ids_of_items items) → standing_of x k (funcs_of items) ≡ Some s →
      EveryBlock Restored items × (among (ids_of_items items) x ≡ true) × (among (ids_of_items items) n ≡ true)
  items_restored k [] o e = absurd (no_none e)
  items_restored k (Kept text ∷ items) o e = let m = items_restored k items o e in ((tt, m.0), m.1, m.2)
  items_restored k (Opaque text ∷ items) o e = let m = items_restored k items o e in ((tt, m.0), m.1, m.2)
  items_restored k (FuncItem f ∷ items) o e =
      by_blocks (standing_in x k 0 f.blocks) refl e (λ r. items_restored (suc k) items (once_right (item_ids (FuncItem f)) (ids_of_items items) o) r)
    where
      params : List Id
      params = map (λ (p : Param). p.id) f.params

      own : List Id
      own = item_ids (FuncItem f)

      rest : List Id
      rest = ids_of_items items

      by_blocks : (u : Option Standing) → standing_in x k 0 f.blocks ≡ u → either u (standing_of x (suc k) (funcs_of items)) ≡ Some s →
          (standing_of x (suc k) (funcs_of items) ≡ Some s → EveryBlock Restored items × (among (ids_of_items items) x ≡ true) × (among (ids_of_items items) n ≡ true)) →
          (Every (λ (b : Block). Restored b.insts) f.blocks × EveryBlock Restored items) × (among (item_ids (FuncItem f) ++ ids_of_items items) x ≡ true) × (among (item_ids (FuncItem f) ++ ids_of_items items) n ≡ true)
      by_blocks (Some q) t r more =
          let here = blocks_restored k 0 f.blocks (once_right params (block_ids f.blocks) (once_left (item_ids (FuncItem f)) (ids_of_items items) o)) (t ∙ r) in
          let in_x : among (item_ids (FuncItem f)) x ≡ true = among_right params (block_ids f.blocks) x here.1 in
          let in_n : among (item_ids (FuncItem f)) n ≡ true = among_right params (block_ids f.blocks) n here.2 in (
            (here.0, items_lack items (once_apart (item_ids (FuncItem f)) (ids_of_items items) x o in_x) (once_apart (item_ids (FuncItem f)) (ids_of_items items) n o in_n)),
            among_left (item_ids (FuncItem f)) (ids_of_items items) x in_x,
            among_left (item_ids (FuncItem f)) (ids_of_items items) n in_n,
          )
      by_blocks None t r more =
          let m = more r in (
            (
              all_lack f.blocks (blocks_none x k 0 f.blocks t)
                  (lacks_blocks n f.blocks (lacks_right params (block_ids f.blocks) n (once_before (item_ids (FuncItem f)) (ids_of_items items) n o m.2))),
              m.0,
            ),
            among_right (item_ids (FuncItem f)) (ids_of_items items) x m.1,
            among_right (item_ids (FuncItem f)) (ids_of_items items) n m.2,
          )

pub remove_undone : (m : Module) (x n : Id) (s : Standing) → Once (ids_of m) → found m x ≡ Some s → after x s.block ≡ Some n →
    edited (inserting n s.inst) (edited (removing x) m) ≡ m
remove_undone m x n s o e next = module_listed (removing x) (inserting n s.inst) m (items_restored x n s next 0 m.items o e).0
