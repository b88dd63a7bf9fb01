-- What a module tells of its context: parameters and uses; the context of a block; another block in a context.
use Rattle.std.proofs.Common.{◌≡◌, refl, sym, ap, ◌∙◌, subst, ℕ, suc, ◌+◌, ◌≤◌, Bool, true, false, ◌&&◌, ◌||◌, Option, None, Some, List, [], ◌∷◌, ◌++◌, map, cond, arith, append_assoc}
use Rattle.std.specs.List.{list_all}
use Rattle.ir_types.specs.declared.id.Id.{Id}
use Rattle.ir_types.specs.declared.id.Use.{Use}
use Rattle.ir_types.specs.declared.opd.Opd.{Opd}
use Rattle.ir_types.specs.declared.inst.Inst.{Inst}
use Rattle.ir_types.specs.declared.func.Block.{Block}
use Rattle.ir_types.specs.declared.func.Func.{Func}
use Rattle.ir_types.specs.declared.module.Item.{Item}
use Rattle.ir_types.specs.declared.module.Item.TheVariants.{Kept, Opaque, Func as FuncItem}
use Rattle.ir_types.specs.declared.module.Module.{Module}
use Rattle.ir_types.specs.Available.{same_id, defines}
use Rattle.ir_types.specs.Formed.{block_ids, item_ids, ids_of_items}
use Rattle.ir_types.proofs.Among.{same_itself}
use Rattle.vx_view.specs.Answers.{funcs_of, param_in, param_of, find, found, Standing, standing, either, standing_in, standing_of, is_value, slots_from, uses_of, uses_in, uses_in_blocks}
use Rattle.sb_uses.specs.Totals.{id_times}
use Rattle.rf_rewrite.specs.Rewritten.{in_block, in_item, with_insts}
use Rattle.rf_rewrite.proofs.Contexts.{Context, func_with, block_with, plug, one_of, times, inst_ids, param_ids, ids_append, times_ids, around}
use Rattle.rf_rewrite.proofs.Facts.{some_is, map_append}

-- ---- parameters

params_in : (f : Func) (bs cs : List Block) (after : List Item) (x : Id) (items : List Item) →
    param_of x (funcs_of (items ++ FuncItem (func_with f bs) ∷ after)) ≡ param_of x (funcs_of (items ++ FuncItem (func_with f cs) ∷ after))
params_in f bs cs after x [] = refl
params_in f bs cs after x (Kept text ∷ items) = params_in f bs cs after x items
params_in f bs cs after x (Opaque text ∷ items) = params_in f bs cs after x items
params_in f bs cs after x (FuncItem g ∷ items) = ap (either (param_in x g.params)) (params_in f bs cs after x items)

-- they are the same whatever stands in the block
pub params_plug : (c : Context) (l k : List Inst) (x : Id) → param_of x (funcs_of (plug c l).items) ≡ param_of x (funcs_of (plug c k).items)
params_plug c l k x = params_in c.func (c.blocks_before ++ block_with c l ∷ c.blocks_after) (c.blocks_before ++ block_with c k ∷ c.blocks_after) c.items_after x c.items_before

-- ---- uses

empty_left : {A : Type 0} (xs ys : List A) → xs ++ ys ≡ [] → xs ≡ []
empty_left [] ys e = refl
empty_left (x ∷ xs) ys e = absurd cc

empty_right : {A : Type 0} (xs ys : List A) → xs ++ ys ≡ [] → ys ≡ []
empty_right [] ys e = e
empty_right (x ∷ xs) ys e = absurd cc

pub empty_both : {A : Type 0} (xs ys : List A) → xs ≡ [] → ys ≡ [] → xs ++ ys ≡ []
empty_both xs ys e f = ap (λ u. u ++ ys) e ∙ f

pub uses_append : (x : Id) (l k : List Inst) → uses_in x (l ++ k) ≡ uses_in x l ++ uses_in x k
uses_append x [] k = refl
uses_append x (i ∷ is) k = ap (λ u. slots_from x i.id 0 i.opds ++ u) (uses_append x is k) ∙ sym (append_assoc (slots_from x i.id 0 i.opds) (uses_in x is) (uses_in x k))

blocks_append : (x : Id) (bs cs : List Block) → uses_in_blocks x (bs ++ cs) ≡ uses_in_blocks x bs ++ uses_in_blocks x cs
blocks_append x [] cs = refl
blocks_append x (b ∷ bs) cs = ap (λ u. uses_in x b.insts ++ u) (blocks_append x bs cs) ∙ sym (append_assoc (uses_in x b.insts) (uses_in_blocks x bs) (uses_in_blocks x cs))

uses_items : List Item → Id → List Use
uses_items items x = uses_of x (funcs_of items)

-- the uses around the block
pub record NoneAround (c : Context) (x : Id) : Type 0 where
  pub items_before : uses_of x (funcs_of c.items_before) ≡ []
  pub blocks_before : uses_in_blocks x c.blocks_before ≡ []
  pub blocks_after : uses_in_blocks x c.blocks_after ≡ []
  pub items_after : uses_of x (funcs_of c.items_after) ≡ []

items_append : (x : Id) (xs ys : List Item) → uses_of x (funcs_of (xs ++ ys)) ≡ uses_of x (funcs_of xs) ++ uses_of x (funcs_of ys)
items_append x [] ys = refl
items_append x (Kept text ∷ xs) ys = items_append x xs ys
items_append x (Opaque text ∷ xs) ys = items_append x xs ys
items_append x (FuncItem f ∷ xs) ys =
    ap (λ u. uses_in_blocks x f.blocks ++ u) (items_append x xs ys) ∙ sym (append_assoc (uses_in_blocks x f.blocks) (uses_of x (funcs_of xs)) (uses_of x (funcs_of ys)))

-- the uses in a module, part by part
pub uses_plug : (c : Context) (l : List Inst) (x : Id) →
    uses_of x (funcs_of (plug c l).items)
    ≡ uses_of x (funcs_of c.items_before) ++ ((uses_in_blocks x c.blocks_before ++ (uses_in x l ++ uses_in_blocks x c.blocks_after)) ++ uses_of x (funcs_of c.items_after))
uses_plug c l x =
    items_append x c.items_before (FuncItem (func_with c.func (c.blocks_before ++ block_with c l ∷ c.blocks_after)) ∷ c.items_after)
    ∙ ap (λ u. uses_of x (funcs_of c.items_before) ++ (u ++ uses_of x (funcs_of c.items_after))) (blocks_append x c.blocks_before (block_with c l ∷ c.blocks_after))

pub no_uses_plug : (c : Context) (l : List Inst) (x : Id) → NoneAround c x → uses_in x l ≡ [] → uses_of x (funcs_of (plug c l).items) ≡ []
no_uses_plug c l x none e =
    uses_plug c l x
    ∙ ap (λ u. u ++ ((uses_in_blocks x c.blocks_before ++ (uses_in x l ++ uses_in_blocks x c.blocks_after)) ++ uses_of x (funcs_of c.items_after))) none.items_before
    ∙ empty_both (uses_in_blocks x c.blocks_before ++ (uses_in x l ++ uses_in_blocks x c.blocks_after)) (uses_of x (funcs_of c.items_after))
    (empty_both (uses_in_blocks x c.blocks_before) (uses_in x l ++ uses_in_blocks x c.blocks_after) none.blocks_before (empty_both (uses_in x l) (uses_in_blocks x c.blocks_after) e none.blocks_after))
    none.items_after

-- ---- users that are all of some ids do not stand where none of these stands

pub all_append : {A : Type 0} (p : A → Bool) (xs ys : List A) → list_all p (xs ++ ys) ≡ true → (list_all p xs ≡ true) × (list_all p ys ≡ true)
all_append p [] ys e = (refl, e)
all_append p (x ∷ xs) ys e = by_test (p x) e (all_append p xs ys)
  where
    by_test : (b : Bool) → (b && list_all p (xs ++ ys)) ≡ true → (list_all p (xs ++ ys) ≡ true → (list_all p xs ≡ true) × (list_all p ys ≡ true)) → ((b && list_all p xs) ≡ true) × (list_all p ys ≡ true)
    by_test true r more = more r
    by_test false r more = absurd cc

module _ (q : Id → Bool) (x : Id) where
  abbrev users : List Use → Bool
  users us = list_all (λ (u : Use). q u.user) us

  slots_none : (user : Id) (slot : ℕ) (os : List Opd) → q user ≡ false → users (slots_from x user slot os) ≡ true → slots_from x user slot os ≡ []
  slots_none user slot [] never e = refl
  slots_none user slot (o ∷ os) never e = by_test (is_value x o) e (slots_none user (suc slot) os never)
    where
      by_test : (b : Bool) → users (cond b (record { user = user; slot = slot } ∷ slots_from x user (suc slot) os) (slots_from x user (suc slot) os)) ≡ true →
          (users (slots_from x user (suc slot) os) ≡ true → slots_from x user (suc slot) os ≡ []) → cond b (record { user = user; slot = slot } ∷ slots_from x user (suc slot) os) (slots_from x user (suc slot) os) ≡ []
      by_test true r more = absurd (both (q user) never r)
        where
          both : (b : Bool) → b ≡ false → (b && users (slots_from x user (suc slot) os)) ≡ true → ⊥
          both true n r = cc
          both false n r = cc
      by_test false r more = more r

  pub none_in : (l : List Inst) → ((y : Id) → 1 ≤ times y l → q y ≡ false) → users (uses_in x l) ≡ true → uses_in x l ≡ []
  none_in [] never e = refl
  none_in (i ∷ is) never e =
      let both = all_append (λ (u : Use). q u.user) (slots_from x i.id 0 i.opds) (uses_in x is) e in
      empty_both (slots_from x i.id 0 i.opds) (uses_in x is)
      (slots_none i.id 0 i.opds (never i.id own) both.0)
      (none_in is (λ y h. never y (more y h)) both.1)
    where
      own : 1 ≤ times i.id (i ∷ is)
      own = let one : one_of i.id i.id ≡ 1 = ap (λ b. cond b 1 0) (same_itself i.id) in omega (arith, one)

      more : (y : Id) → 1 ≤ times y is → 1 ≤ times y (i ∷ is)
      more y h = omega (arith, h)

  none_blocks : (bs : List Block) → ((y : Id) → 1 ≤ id_times y (block_ids bs) → q y ≡ false) → users (uses_in_blocks x bs) ≡ true → uses_in_blocks x bs ≡ []
  none_blocks [] never e = refl
  none_blocks (b ∷ bs) never e =
      let both = all_append (λ (u : Use). q u.user) (uses_in x b.insts) (uses_in_blocks x bs) e in
      empty_both (uses_in x b.insts) (uses_in_blocks x bs) (none_in b.insts (λ y h. never y (here y h)) both.0) (none_blocks bs (λ y h. never y (there y h)) both.1)
    where
      here : (y : Id) → 1 ≤ times y b.insts → 1 ≤ id_times y (block_ids (b ∷ bs))
      here y h = let sum = ids_append y (inst_ids b.insts) (block_ids bs) in let own = times_ids y b.insts in omega (arith, sum, own, h)

      there : (y : Id) → 1 ≤ id_times y (block_ids bs) → 1 ≤ id_times y (block_ids (b ∷ bs))
      there y h = let sum = ids_append y (inst_ids b.insts) (block_ids bs) in omega (arith, sum, h)

  none_items : (items : List Item) → ((y : Id) → 1 ≤ id_times y (ids_of_items items) → q y ≡ false) → users (uses_of x (funcs_of items)) ≡ true → uses_of x (funcs_of items) ≡ []
  none_items [] never e = refl
  none_items (Kept text ∷ items) never e = none_items items never e
  none_items (Opaque text ∷ items) never e = none_items items never e
  none_items (FuncItem f ∷ items) never e =
      let both = all_append (λ (u : Use). q u.user) (uses_in_blocks x f.blocks) (uses_of x (funcs_of items)) e in
      empty_both (uses_in_blocks x f.blocks) (uses_of x (funcs_of items)) (none_blocks f.blocks (λ y h. never y (here y h)) both.0) (none_items items (λ y h. never y (there y h)) both.1)
    where
      here : (y : Id) → 1 ≤ id_times y (block_ids f.blocks) → 1 ≤ id_times y (ids_of_items (FuncItem f ∷ items))
      here y h =
          let sum = ids_append y (item_ids (FuncItem f)) (ids_of_items items) in
          let parts = ids_append y (param_ids f.params) (block_ids f.blocks) in
          omega (arith, sum, parts, h)

      there : (y : Id) → 1 ≤ id_times y (ids_of_items items) → 1 ≤ id_times y (ids_of_items (FuncItem f ∷ items))
      there y h = let sum = ids_append y (item_ids (FuncItem f)) (ids_of_items items) in omega (arith, sum, h)

  -- where no user stands around the block, there is no use around it, and those in it are of such ids
  pub none_around : (c : Context) (l : List Inst) → ((y : Id) → 1 ≤ around c y → q y ≡ false) → users (uses_of x (funcs_of (plug c l).items)) ≡ true →
      NoneAround c x × (users (uses_in x l) ≡ true)
  none_around c l never e =
      let parts = subst (λ us. users us ≡ true) (uses_plug c l x) e in
      let outer = all_append (λ (u : Use). q u.user) (uses_of x (funcs_of c.items_before))
      ((uses_in_blocks x c.blocks_before ++ (uses_in x l ++ uses_in_blocks x c.blocks_after)) ++ uses_of x (funcs_of c.items_after)) parts in
      let func = all_append (λ (u : Use). q u.user) (uses_in_blocks x c.blocks_before ++ (uses_in x l ++ uses_in_blocks x c.blocks_after)) (uses_of x (funcs_of c.items_after)) outer.1 in
      let blocks = all_append (λ (u : Use). q u.user) (uses_in_blocks x c.blocks_before) (uses_in x l ++ uses_in_blocks x c.blocks_after) func.0 in
      let rest = all_append (λ (u : Use). q u.user) (uses_in x l) (uses_in_blocks x c.blocks_after) blocks.1 in (
        record {
          items_before = none_items c.items_before (λ y h. never y (let g = h in omega (arith, g))) outer.0;
          blocks_before = none_blocks c.blocks_before (λ y h. never y (let g = h in omega (arith, g))) blocks.0;
          blocks_after = none_blocks c.blocks_after (λ y h. never y (let g = h in omega (arith, g))) rest.1;
          items_after = none_items c.items_after (λ y h. never y (let g = h in omega (arith, g))) func.1;
        },
        rest.0,
      )

-- ---- the context of a block

pub record BlockSplit (bs : List Block) (insts : List Inst) : Type 0 where
  pub front : List Block
  pub name : Option (List ℕ)
  pub rest : List Block
  pub are : bs ≡ front ++ record { name = name; insts = insts } ∷ rest

split_blocks : (x : Id) (k n : ℕ) (bs : List Block) (s : Standing) → standing_in x k n bs ≡ Some s → BlockSplit bs s.block × (find x s.block ≡ Some s.inst)
split_blocks x k n [] s e = absurd cc
split_blocks x k n (b ∷ bs) s e = by_find (find x b.insts) refl e (split_blocks x k (suc n) bs s)
  where
    by_find : (o : Option Inst) → find x b.insts ≡ o → either (standing k n b.insts o) (standing_in x k (suc n) bs) ≡ Some s →
        (standing_in x k (suc n) bs ≡ Some s → BlockSplit bs s.block × (find x s.block ≡ Some s.inst)) → BlockSplit (b ∷ bs) s.block × (find x s.block ≡ Some s.inst)
    by_find (Some i) t r more =
        let block : b.insts ≡ s.block = ap (λ (v : Standing). v.block) (some_is r) in
        let inst : i ≡ s.inst = ap (λ (v : Standing). v.inst) (some_is r) in (
          record { front = []; name = b.name; rest = bs; are = ap (λ l. record { name = b.name; insts = l } ∷ bs) block },
          subst (λ l. find x l ≡ Some s.inst) block (t ∙ ap Some inst),
        )
    by_find None t r more =
        let m = more r in
        (record { front = b ∷ m.0.front; name = m.0.name; rest = m.0.rest; are = ap (λ u. b ∷ u) m.0.are }, m.1)

pub record ItemSplit (items : List Item) (insts : List Inst) : Type 0 where
  pub front : List Item
  pub func : Func
  pub blocks : BlockSplit func.blocks insts
  pub rest : List Item
  pub are : items ≡ front ++ FuncItem func ∷ rest

split_items : (x : Id) (k : ℕ) (items : List Item) (s : Standing) → standing_of x k (funcs_of items) ≡ Some s → ItemSplit items s.block × (find x s.block ≡ Some s.inst)
split_items x k [] s e = absurd cc
split_items x k (Kept text ∷ items) s e =
    let m = split_items x k items s e in
    (record { front = Kept text ∷ m.0.front; func = m.0.func; blocks = m.0.blocks; rest = m.0.rest; are = ap (λ u. Kept text ∷ u) m.0.are }, m.1)
split_items x k (Opaque text ∷ items) s e =
    let m = split_items x k items s e in
    (record { front = Opaque text ∷ m.0.front; func = m.0.func; blocks = m.0.blocks; rest = m.0.rest; are = ap (λ u. Opaque text ∷ u) m.0.are }, m.1)
split_items x k (FuncItem f ∷ items) s e = by_blocks (standing_in x k 0 f.blocks) refl e (split_items x (suc k) items s)
  where
    by_blocks : (o : Option Standing) → standing_in x k 0 f.blocks ≡ o → either o (standing_of x (suc k) (funcs_of items)) ≡ Some s →
        (standing_of x (suc k) (funcs_of items) ≡ Some s → ItemSplit items s.block × (find x s.block ≡ Some s.inst)) → ItemSplit (FuncItem f ∷ items) s.block × (find x s.block ≡ Some s.inst)
    by_blocks (Some v) t r more =
        let here = split_blocks x k 0 f.blocks s (t ∙ r) in
        (record { front = []; func = f; blocks = here.0; rest = items; are = refl }, here.1)
    by_blocks None t r more =
        let m = more r in
        (record { front = FuncItem f ∷ m.0.front; func = m.0.func; blocks = m.0.blocks; rest = m.0.rest; are = ap (λ u. FuncItem f ∷ u) m.0.are }, m.1)

abbrev context_of : (m : Module) (insts : List Inst) → ItemSplit m.items insts → Context
context_of m insts p = record {
  items_before = p.front;
  func = p.func;
  blocks_before = p.blocks.front;
  name = p.blocks.name;
  blocks_after = p.blocks.rest;
  items_after = p.rest;
  globals = m.globals;
  big = m.big_endian_line;
}

-- a module is the block in which an instruction is found, with what is around it
pub record Split (m : Module) (x : Id) (s : Standing) : Type 0 where
  pub context : Context
  pub whole : plug context s.block ≡ m
  pub finds : find x s.block ≡ Some s.inst

pub split_found : (m : Module) (x : Id) (s : Standing) → found m x ≡ Some s → Split m x s
split_found m x s e =
    let p = split_items x 0 m.items s e in
    record {
      context = context_of m s.block p.0;
      whole =
          ap (λ bs. record { items = p.0.front ++ FuncItem (func_with p.0.func bs) ∷ p.0.rest; globals = m.globals; big_endian_line = m.big_endian_line }) (sym p.0.blocks.are)
          ∙ ap (λ items. record { items = items; globals = m.globals; big_endian_line = m.big_endian_line }) (sym p.0.are);
      finds = p.1;
    }

-- ---- another block in a context

pub defines_none : (x : Id) (l : List Inst) → times x l ≡ 0 → defines x l ≡ false
defines_none x [] e = refl
defines_none x (i ∷ is) e = by_test (same_id i.id x) e (defines_none x is)
  where
    by_test : (b : Bool) → cond b 1 0 + times x is ≡ 0 → (times x is ≡ 0 → defines x is ≡ false) → (b || defines x is) ≡ false
    by_test true r more = absurd (omega (arith, r))
    by_test false r more = more (omega (arith, r))

pub defines_found : (x : Id) (l : List Inst) (i : Inst) → find x l ≡ Some i → defines x l ≡ true
defines_found x [] i e = absurd cc
defines_found x (j ∷ is) i e = by_test (same_id j.id x) e (defines_found x is i)
  where
    by_test : (b : Bool) → cond b (Some j) (find x is) ≡ Some i → (find x is ≡ Some i → defines x is ≡ true) → (b || defines x is) ≡ true
    by_test true r more = refl
    by_test false r more = more r

module _ (x : Id) (new : List Inst) where
  same_blocks : (bs : List Block) → id_times x (block_ids bs) ≡ 0 → map (in_block x new) bs ≡ bs
  same_blocks [] e = refl
  same_blocks (b ∷ bs) e =
      let sum = ids_append x (inst_ids b.insts) (block_ids bs) in
      let own = times_ids x b.insts in
      ap (λ t. record { name = b.name; insts = cond t new b.insts } ∷ map (in_block x new) bs) (defines_none x b.insts (omega (arith, sum, own, e)))
      ∙ ap (λ u. b ∷ u) (same_blocks bs (omega (arith, sum, e)))

  same_items : (items : List Item) → id_times x (ids_of_items items) ≡ 0 → map (in_item x new) items ≡ items
  same_items [] e = refl
  same_items (Kept text ∷ items) e = ap (λ u. Kept text ∷ u) (same_items items e)
  same_items (Opaque text ∷ items) e = ap (λ u. Opaque text ∷ u) (same_items items e)
  same_items (FuncItem g ∷ items) e =
      let sum = ids_append x (item_ids (FuncItem g)) (ids_of_items items) in
      let parts = ids_append x (param_ids g.params) (block_ids g.blocks) in
      ap (λ bs. FuncItem (func_with g bs) ∷ map (in_item x new) items) (same_blocks g.blocks (omega (arith, sum, parts, e)))
      ∙ ap (λ u. FuncItem g ∷ u) (same_items items (omega (arith, sum, e)))

pub with_insts_plug : (c : Context) (l new : List Inst) (x : Id) → around c x ≡ 0 → defines x l ≡ true → with_insts x new (plug c l) ≡ plug c new
with_insts_plug c l new x e there = ap (λ items. record { items = items; globals = c.globals; big_endian_line = c.big }) (
    map_append (in_item x new) c.items_before (FuncItem (func_with c.func (c.blocks_before ++ block_with c l ∷ c.blocks_after)) ∷ c.items_after)
    ∙ ap (λ u. u ++ FuncItem (func_with c.func (map (in_block x new) (c.blocks_before ++ block_with c l ∷ c.blocks_after))) ∷ map (in_item x new) c.items_after) (same_items x new c.items_before (omega (arith, e)))
    ∙ ap (λ bs. c.items_before ++ FuncItem (func_with c.func bs) ∷ map (in_item x new) c.items_after) (
    map_append (in_block x new) c.blocks_before (block_with c l ∷ c.blocks_after)
    ∙ ap (λ u. u ++ in_block x new (block_with c l) ∷ map (in_block x new) c.blocks_after) (same_blocks x new c.blocks_before (omega (arith, e)))
    ∙ ap (λ t. c.blocks_before ++ record { name = c.name; insts = cond t new l } ∷ map (in_block x new) c.blocks_after) there
    ∙ ap (λ u. c.blocks_before ++ block_with c new ∷ u) (same_blocks x new c.blocks_after (omega (arith, e))))
    ∙ ap (λ u. c.items_before ++ FuncItem (func_with c.func (c.blocks_before ++ block_with c new ∷ c.blocks_after)) ∷ u) (same_items x new c.items_after (omega (arith, e))))
