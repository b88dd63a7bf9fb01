-- Edits of each instruction for itself: what one edit does and another takes back, over lists, blocks and modules.
use Rattle.std.proofs.Common.{◌≡◌, refl, sym, ap, ◌∙◌, subst, ℕ, suc, Bool, true, false, ◌||◌, Option, None, Some, List, [], ◌∷◌, ◌++◌, map, cond, append_assoc}
use Rattle.ir_types.specs.declared.id.Id.{Id}
use Rattle.ir_types.specs.declared.inst.Inst.{Inst}
use Rattle.ir_types.specs.declared.func.Param.{Param}
use Rattle.ir_types.specs.declared.func.Block.{Block}
use Rattle.ir_types.specs.declared.module.Item.{Item}
use Rattle.ir_types.specs.declared.module.Item.TheVariants.{Kept, Opaque, Func as FuncItem}
use Rattle.ir_types.specs.declared.module.Module.{Module}
use Rattle.ir_types.specs.Available.{same_id}
use Rattle.ir_types.specs.Formed.{block_ids, item_ids, ids_of_items}
use Rattle.ir_types.proofs.Formed.{Every}
use Rattle.ir_types.proofs.Among.{among, among_left, among_right, same_is, Once}
use Rattle.vx_view.specs.Answers.{funcs_of, find, Standing, standing, either, standing_in, standing_of}
use Rattle.vx_view.specs.Changes.{Edit, each, edited_block, edited_item, edited}

pub each-append : (f : Edit) (xs ys : List Inst) → each f (xs ++ ys) ≡ each f xs ++ each f ys
each-append f [] ys = refl
each-append f (x ∷ xs) ys = ap (λ l. f x ++ l) (each-append f xs ys) ∙ sym (append_assoc (f x) (each f xs) (each f ys))

-- ---- what holds of each instruction

abbrev pub EveryIn : (Inst → Type 0) → Item → Type 0
EveryIn P (FuncItem f) = Every (λ (b : Block). Every P b.insts) f.blocks
EveryIn P _ = Unit {0}

abbrev pub EveryInst : (Inst → Type 0) → List Item → Type 0
EveryInst P items = Every (EveryIn P) items

-- ---- one edit takes back another

module _ (f g : Edit) where
  -- what f makes of an instruction, g makes the instruction again
  abbrev pub Back : Inst → Type 0
  Back i = each g (f i) ≡ i ∷ []

  pub list_back : (l : List Inst) → Every Back l → each g (each f l) ≡ l
  list_back [] h = refl
  list_back (i ∷ is) h = each-append g (f i) (each f is) ∙ ap (λ u. u ++ each g (each f is)) h.0 ∙ ap (λ u. i ∷ u) (list_back is h.1)

  blocks_back : (bs : List Block) → Every (λ (b : Block). Every Back b.insts) bs → map (edited_block g) (map (edited_block f) bs) ≡ bs
  blocks_back [] h = refl
  blocks_back (b ∷ bs) h =
      ap (λ l. record { name = b.name; insts = l } ∷ map (edited_block g) (map (edited_block f) bs)) (list_back b.insts h.0)
      ∙ ap (λ u. b ∷ u) (blocks_back bs h.1)

  item_back : (item : Item) → EveryIn Back item → edited_item g (edited_item f item) ≡ item
  item_back (Kept text) h = refl
  item_back (Opaque text) h = refl
  item_back (FuncItem u) h =
      ap (λ bs. FuncItem (record { before = u.before; ret = u.ret; name = u.name; params = u.params; after = u.after; blocks = bs })) (blocks_back u.blocks h)

  items_back : (items : List Item) → EveryInst Back items → map (edited_item g) (map (edited_item f) items) ≡ items
  items_back [] h = refl
  items_back (item ∷ items) h =
      ap (λ u. u ∷ map (edited_item g) (map (edited_item f) items)) (item_back item h.0) ∙ ap (λ u. item ∷ u) (items_back items h.1)

  pub module_back : (m : Module) → EveryInst Back m.items → edited g (edited f m) ≡ m
  module_back m h = ap (λ items. record { items = items; globals = m.globals; big_endian_line = m.big_endian_line }) (items_back m.items h)

-- ---- what is not found stands nowhere

no_some : {A : Type 0} {a : A} → Some a ≡ None → ⊥
no_some e = cc

module _ (x : Id) where
  abbrev pub IsOther : Inst → Type 0
  IsOther i = same_id i.id x ≡ false

  pub find_none : (l : List Inst) → find x l ≡ None → Every IsOther l
  find_none [] e = tt
  find_none (i ∷ is) e = by_test (same_id i.id x) refl e (λ r. find_none is r)
    where
      by_test : (b : Bool) → same_id i.id x ≡ b → cond b (Some i) (find x is) ≡ None → (find x is ≡ None → Every IsOther is) → (same_id i.id x ≡ false) × Every IsOther is
      by_test true t r more = absurd (no_some r)
      by_test false t r more = (t, more r)

  pub blocks_none : (k n : ℕ) (bs : List Block) → standing_in x k n bs ≡ None → Every (λ (b : Block). Every IsOther b.insts) bs
  blocks_none k n [] e = tt
  blocks_none k n (b ∷ bs) e = by_find (find x b.insts) refl e (λ r. blocks_none k (suc n) bs r)
    where
      by_find : (o : Option Inst) → find x b.insts ≡ o → either (standing k n b.insts o) (standing_in x k (suc n) bs) ≡ None →
          (standing_in x k (suc n) bs ≡ None → Every (λ (c : Block). Every IsOther c.insts) bs) → Every IsOther b.insts × Every (λ (c : Block). Every IsOther c.insts) bs
      by_find None t r more = (find_none b.insts t, more r)
      by_find (Some i) t r more = absurd (no_some r)

  pub items_none : (k : ℕ) (items : List Item) → standing_of x k (funcs_of items) ≡ None → EveryInst IsOther items
  items_none k [] e = tt
  items_none k (Kept text ∷ items) e = (tt, items_none k items e)
  items_none k (Opaque text ∷ items) e = (tt, items_none k items e)
  items_none k (FuncItem f ∷ items) e = by_blocks (standing_in x k 0 f.blocks) refl e (λ r. items_none (suc k) items r)
    where
      by_blocks : (o : Option Standing) → standing_in x k 0 f.blocks ≡ o → either o (standing_of x (suc k) (funcs_of items)) ≡ None →
          (standing_of x (suc k) (funcs_of items) ≡ None → EveryInst IsOther items) → Every (λ (b : Block). Every IsOther b.insts) f.blocks × EveryInst IsOther items
      by_blocks None t r more = (blocks_none k 0 f.blocks t, more r)
      by_blocks (Some s) t r more = absurd (no_some r)

pub every_in : (P Q : Inst → Type 0) → ((i : Inst) → P i → Q i) → (l : List Inst) → Every P l → Every Q l
every_in P Q f [] h = tt
every_in P Q f (i ∷ is) h = (f i h.0, every_in P Q f is h.1)

pub every_inst : (P Q : Inst → Type 0) → ((i : Inst) → P i → Q i) → (items : List Item) → EveryInst P items → EveryInst Q items
every_inst P Q f [] h = tt
every_inst P Q f (Kept text ∷ items) h = (tt, every_inst P Q f items h.1)
every_inst P Q f (Opaque text ∷ items) h = (tt, every_inst P Q f items h.1)
every_inst P Q f (FuncItem u ∷ items) h = (blocks u.blocks h.0, every_inst P Q f items h.1)
  where
    blocks : (bs : List Block) → Every (λ (b : Block). Every P b.insts) bs → Every (λ (b : Block). Every Q b.insts) bs
    blocks [] h = tt
    blocks (b ∷ bs) h = (every_in P Q f b.insts h.0, blocks bs h.1)

-- ---- what is found stands once

pub once_left : (xs ys : List Id) → Once (xs ++ ys) → Once xs
once_left [] ys h = tt
once_left (x ∷ xs) ys h = (not_left xs x h.0, once_left xs ys h.1)
  where
    not_left : (zs : List Id) (z : Id) → among (zs ++ ys) z ≡ false → among zs z ≡ false
    not_left [] z e = refl
    not_left (w ∷ zs) z e = by_test (same_id w z) e (λ r. not_left zs z r)
      where
        by_test : (b : Bool) → (b || among (zs ++ ys) z) ≡ false → (among (zs ++ ys) z ≡ false → among zs z ≡ false) → (b || among zs z) ≡ false
        by_test true r more = absurd cc
        by_test false r more = more r

pub once_right : (xs ys : List Id) → Once (xs ++ ys) → Once ys
once_right [] ys h = h
once_right (x ∷ xs) ys h = once_right xs ys h.1

-- what is among the first is not among the others
pub once_apart : (xs ys : List Id) (x : Id) → Once (xs ++ ys) → among xs x ≡ true → among ys x ≡ false
once_apart [] ys x h e = absurd cc
once_apart (z ∷ zs) ys x h e = by_test (same_id z x) refl e (λ r. once_apart zs ys x h.1 r)
  where
    not_right : (ws : List Id) (w : Id) → among (ws ++ ys) w ≡ false → among ys w ≡ false
    not_right [] w r = r
    not_right (v ∷ ws) w r = by_first (same_id v w) r (λ q. not_right ws w q)
      where
        by_first : (b : Bool) → (b || among (ws ++ ys) w) ≡ false → (among (ws ++ ys) w ≡ false → among ys w ≡ false) → among ys w ≡ false
        by_first true q more = absurd cc
        by_first false q more = more q

    by_test : (b : Bool) → same_id z x ≡ b → (b || among zs x) ≡ true → (among zs x ≡ true → among ys x ≡ false) → among ys x ≡ false
    by_test true t r more = subst (λ v. among ys v ≡ false) (same_is z x t) (not_right zs z h.0)
    by_test false t r more = more r

pub lacks_left : (xs ys : List Id) (x : Id) → among (xs ++ ys) x ≡ false → among xs x ≡ false
lacks_left [] ys x e = refl
lacks_left (w ∷ zs) ys x e = by_test (same_id w x) e (λ r. lacks_left zs ys x r)
  where
    by_test : (b : Bool) → (b || among (zs ++ ys) x) ≡ false → (among (zs ++ ys) x ≡ false → among zs x ≡ false) → (b || among zs x) ≡ false
    by_test true r more = absurd cc
    by_test false r more = more r

pub lacks_right : (xs ys : List Id) (x : Id) → among (xs ++ ys) x ≡ false → among ys x ≡ false
lacks_right [] ys x e = e
lacks_right (w ∷ zs) ys x e = by_test (same_id w x) e (λ r. lacks_right zs ys x r)
  where
    by_test : (b : Bool) → (b || among (zs ++ ys) x) ≡ false → (among (zs ++ ys) x ≡ false → among ys x ≡ false) → among ys x ≡ false
    by_test true r more = absurd cc
    by_test false r more = more r

abbrev pub inst_ids : List Inst → List Id
inst_ids l = map (λ (i : Inst). i.id) l

module _ (x : Id) where
  pub lacks_list : (l : List Inst) → among (inst_ids l) x ≡ false → Every (IsOther x) l
  lacks_list [] e = tt
  lacks_list (i ∷ is) e = by_test (same_id i.id x) refl e (λ r. lacks_list is r)
    where
      by_test : (b : Bool) → same_id i.id x ≡ b → (b || among (inst_ids is) x) ≡ false → (among (inst_ids is) x ≡ false → Every (IsOther x) is) →
          (same_id i.id x ≡ false) × Every (IsOther x) is
      by_test true t r more = absurd cc
      by_test false t r more = (t, more r)

  pub lacks_blocks : (bs : List Block) → among (block_ids bs) x ≡ false → Every (λ (b : Block). Every (IsOther x) b.insts) bs
  lacks_blocks [] e = tt
  lacks_blocks (b ∷ bs) e =
      (lacks_list b.insts (lacks_left (inst_ids b.insts) (block_ids bs) x e), lacks_blocks bs (lacks_right (inst_ids b.insts) (block_ids bs) x e))

  pub lacks_items : (items : List Item) → among (ids_of_items items) x ≡ false → EveryInst (IsOther x) items
  lacks_items [] e = tt
  lacks_items (Kept text ∷ items) e = (tt, lacks_items items e)
  lacks_items (Opaque text ∷ items) e = (tt, lacks_items items e)
  lacks_items (FuncItem f ∷ items) e = (
    lacks_blocks f.blocks (lacks_right (map (λ (p : Param). p.id) f.params) (block_ids f.blocks) x (lacks_left (item_ids (FuncItem f)) (ids_of_items items) x e)),
    lacks_items items (lacks_right (item_ids (FuncItem f)) (ids_of_items items) x e),
  )

  -- an instruction of the id is this one
  abbrev pub IsOnly : Inst → Inst → Type 0
  IsOnly s i = same_id i.id x ≡ true → i ≡ s

  only_other : (s i : Inst) → IsOther x i → IsOnly s i
  only_other s i e t = absurd (no_test (sym t ∙ e)) where
    no_test : true ≡ false → ⊥
    no_test e = cc

  only_others : (s : Inst) (bs : List Block) → Every (λ (b : Block). Every (IsOther x) b.insts) bs → Every (λ (b : Block). Every (IsOnly s) b.insts) bs
  only_others s [] h = tt
  only_others s (b ∷ bs) h = (every_in (IsOther x) (IsOnly s) (only_other s) b.insts h.0, only_others s bs h.1)

  find_only : (l : List Inst) (s : Inst) → Once (inst_ids l) → find x l ≡ Some s → Every (IsOnly s) l × (same_id s.id x ≡ true) × (among (inst_ids l) x ≡ true)
  find_only [] s o e = absurd (no_none e) where
    no_none : None ≡ Some s → ⊥
    no_none e = cc
  find_only (i ∷ is) s o e = by_test (same_id i.id x) refl e (λ r. find_only is s o.1 r)
    where
      by_test : (b : Bool) → same_id i.id x ≡ b → cond b (Some i) (find x is) ≡ Some s →
          (find x is ≡ Some s → Every (IsOnly s) is × (same_id s.id x ≡ true) × (among (inst_ids is) x ≡ true)) →
          ((same_id i.id x ≡ true → i ≡ s) × Every (IsOnly s) is) × (same_id s.id x ≡ true) × ((b || among (inst_ids is) x) ≡ true)
      by_test true t r more =
          let same : i ≡ s = cc in (
            ((λ u. same), every_in (IsOther x) (IsOnly s) (only_other s) is (lacks_list is (subst (λ v. among (inst_ids is) v ≡ false) (same_is i.id x t) o.0))),
            ap (λ (j : Inst). same_id j.id x) (sym same) ∙ t,
            refl,
          )
      by_test false t r more = let m = more r in (((λ u. absurd (no_test (sym t ∙ u))), m.0), m.1, m.2) where
        no_test : false ≡ true → ⊥
        no_test e = cc

  blocks_only : (k n : ℕ) (bs : List Block) (s : Standing) → Once (block_ids bs) → standing_in x k n bs ≡ Some s →
      Every (λ (b : Block). Every (IsOnly s.inst) b.insts) bs × (same_id s.inst.id x ≡ true) × (among (block_ids bs) x ≡ true)
  blocks_only k n [] s o e = absurd (no_none e) where
    no_none : None ≡ Some s → ⊥
    no_none e = cc
  blocks_only k n (b ∷ bs) s o e = by_find (find x b.insts) refl e (λ r. blocks_only k (suc n) bs s (once_right (inst_ids b.insts) (block_ids bs) o) r)
    where
      by_find : (u : Option Inst) → find x b.insts ≡ u → either (standing k n b.insts u) (standing_in x k (suc n) bs) ≡ Some s →
          (standing_in x k (suc n) bs ≡ Some s → Every (λ (c : Block). Every (IsOnly s.inst) c.insts) bs × (same_id s.inst.id x ≡ true) × (among (block_ids bs) x ≡ true)) →
          (Every (IsOnly s.inst) b.insts × Every (λ (c : Block). Every (IsOnly s.inst) c.insts) bs) × (same_id s.inst.id x ≡ true) × (among (inst_ids b.insts ++ block_ids bs) x ≡ true)
      by_find (Some i) t r more =
          let same : i ≡ s.inst = inst_of r in
          let here = find_only b.insts s.inst (once_left (inst_ids b.insts) (block_ids bs) o) (t ∙ ap Some same) in (
            (here.0, only_others s.inst bs (lacks_blocks bs (once_apart (inst_ids b.insts) (block_ids bs) x o here.2))),
            here.1,
            among_left (inst_ids b.insts) (block_ids bs) x here.2,
          )
        where
          inst_of : Some (record { place = record { func = k; block = n }; block = b.insts; inst = i }) ≡ Some s → i ≡ s.inst
          inst_of r = ap (λ (v : Standing). v.inst) (some_is r) where
            some_is : {p q : Standing} → Some p ≡ Some q → p ≡ q
            some_is e = cc
      by_find None t r more =
          let m = more r in
          ((every_in (IsOther x) (IsOnly s.inst) (only_other s.inst) b.insts (find_none x b.insts t), m.0), m.1, among_right (inst_ids b.insts) (block_ids bs) x m.2)

  pub items_only : (k : ℕ) (items : List Item) (s : Standing) → Once (ids_of_items items) → standing_of x k (funcs_of items) ≡ Some s →
      EveryInst (IsOnly s.inst) items × (same_id s.inst.id x ≡ true) × (among (ids_of_items items) x ≡ true)
  items_only k [] s o e = absurd (no_none e) where
    no_none : None ≡ Some s → ⊥
    no_none e = cc
  items_only k (Kept text ∷ items) s o e = let m = items_only k items s o e in ((tt, m.0), m.1, m.2)
  items_only k (Opaque text ∷ items) s o e = let m = items_only k items s o e in ((tt, m.0), m.1, m.2)
  items_only k (FuncItem f ∷ items) s o e =
      by_blocks (standing_in x k 0 f.blocks) refl e (λ r. items_only (suc k) items s (once_right (item_ids (FuncItem f)) (ids_of_items items) o) r)
    where
      params : List Id
      params = map (λ (p : Param). p.id) f.params

      by_blocks : (u : Option Standing) → standing_in x k 0 f.blocks ≡ u → either u (standing_of x (suc k) (funcs_of items)) ≡ Some s →
          (standing_of x (suc k) (funcs_of items) ≡ Some s → EveryInst (IsOnly s.inst) items × (same_id s.inst.id x ≡ true) × (among (ids_of_items items) x ≡ true)) →
          (Every (λ (b : Block). Every (IsOnly s.inst) b.insts) f.blocks × EveryInst (IsOnly s.inst) items) × (same_id s.inst.id x ≡ true)
          × (among (item_ids (FuncItem f) ++ ids_of_items items) x ≡ true)
      by_blocks (Some q) t r more =
          let here = blocks_only k 0 f.blocks s (once_right params (block_ids f.blocks) (once_left (item_ids (FuncItem f)) (ids_of_items items) o)) (t ∙ r) in
          let there : among (item_ids (FuncItem f)) x ≡ true = among_right params (block_ids f.blocks) x here.2 in (
            (here.0, every_inst (IsOther x) (IsOnly s.inst) (only_other s.inst) items (lacks_items items (once_apart (item_ids (FuncItem f)) (ids_of_items items) x o there))),
            here.1,
            among_left (item_ids (FuncItem f)) (ids_of_items items) x there,
          )
      by_blocks None t r more =
          let m = more r in
          ((only_others s.inst f.blocks (blocks_none x k 0 f.blocks t), m.0), m.1, among_right (item_ids (FuncItem f)) (ids_of_items items) x m.2)
