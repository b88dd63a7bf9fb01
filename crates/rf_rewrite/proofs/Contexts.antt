-- A module as the instructions of one block, and all that is around them.
use Rattle.std.proofs.Common.{◌≡◌, refl, ap, ◌∙◌, ℕ, suc, ◌+◌, ◌≤◌, Bool, true, false, Option, None, Some, List, [], ◌∷◌, ◌++◌, map, cond, arith, length}
use Rattle.ir_types.specs.declared.id.Id.{Id}
use Rattle.ir_types.specs.declared.id.Place.{Place}
use Rattle.ir_types.specs.declared.inst.Inst.{Inst}
use Rattle.ir_types.specs.declared.func.Param.{Param}
use Rattle.ir_types.specs.declared.func.Block.{Block}
use Rattle.ir_types.specs.declared.func.Func.{Func}
use Rattle.ir_types.specs.declared.module.Item.{Item}
use Rattle.ir_types.specs.declared.module.Item.TheVariants.{Kept, Opaque, Func as FuncItem}
use Rattle.ir_types.specs.declared.module.Module.{Module}
use Rattle.ir_types.specs.Available.{same_id}
use Rattle.ir_types.specs.Formed.{block_ids, item_ids, ids_of_items, ids_of}
use Rattle.vx_view.specs.Answers.{funcs_of, param_in, param_of, find, found, Standing, standing, either, standing_in, standing_of}
use Rattle.vx_view.specs.Changes.{Edit, each, edited_block, edited_item, edited, IsNeither, IsEither}
use Rattle.sb_uses.specs.Totals.{id_times}
use Rattle.rf_rewrite.proofs.Facts.{map_append}

-- all of a module but the instructions of one block
pub record Context : Type 0 where
  pub items_before : List Item
  pub func : Func
  pub blocks_before : List Block
  pub name : Option (List ℕ)
  pub blocks_after : List Block
  pub items_after : List Item
  pub globals : List (List ℕ)
  pub big : Option ℕ

abbrev pub func_with : Func → List Block → Func
func_with f blocks = record { before = f.before; ret = f.ret; name = f.name; params = f.params; after = f.after; blocks = blocks }

abbrev pub block_with : Context → List Inst → Block
block_with c l = record { name = c.name; insts = l }

abbrev pub items_with : Context → List Inst → List Item
items_with c l = c.items_before ++ FuncItem (func_with c.func (c.blocks_before ++ block_with c l ∷ c.blocks_after)) ∷ c.items_after

-- the module with instructions in that block
abbrev pub plug : Context → List Inst → Module
plug c l = record { items = items_with c l; globals = c.globals; big_endian_line = c.big }

-- ---- how often an id stands

abbrev pub one_of : Id → Id → ℕ
one_of y x = cond (same_id y x) 1 0

abbrev pub times : Id → List Inst → ℕ
times x [] = 0
times x (i ∷ is) = one_of i.id x + times x is

pub times_append : (x : Id) (xs ys : List Inst) → times x (xs ++ ys) ≡ times x xs + times x ys
times_append x [] ys = omega (arith)
times_append x (i ∷ is) ys = let rest = times_append x is ys in omega (arith, rest)

abbrev pub inst_ids : List Inst → List Id
inst_ids l = map (λ (i : Inst). i.id) l

abbrev pub param_ids : List Param → List Id
param_ids ps = map (λ (p : Param). p.id) ps

cond_sum : (b : Bool) (n : ℕ) → cond b (1 + n) n ≡ cond b 1 0 + n
cond_sum true n = omega (arith)
cond_sum false n = omega (arith)

pub ids_sum : (x y : Id) (ys : List Id) → id_times x (y ∷ ys) ≡ one_of y x + id_times x ys
ids_sum x y ys = cond_sum (same_id y x) (id_times x ys)

pub ids_append : (x : Id) (xs ys : List Id) → id_times x (xs ++ ys) ≡ id_times x xs + id_times x ys
ids_append x [] ys = omega (arith)
ids_append x (y ∷ xs) ys =
    let here = ids_sum x y (xs ++ ys) in
    let there = ids_sum x y xs in
    let rest = ids_append x xs ys in
    omega (arith, here, there, rest)

pub times_ids : (x : Id) (l : List Inst) → id_times x (inst_ids l) ≡ times x l
times_ids x [] = refl
times_ids x (i ∷ is) = let here = ids_sum x i.id (inst_ids is) in let rest = times_ids x is in omega (arith, here, rest)

blocks_ids : (x : Id) (bs cs : List Block) → id_times x (block_ids (bs ++ cs)) ≡ id_times x (block_ids bs) + id_times x (block_ids cs)
blocks_ids x [] cs = omega (arith)
blocks_ids x (b ∷ bs) cs =
    let all = ids_append x (inst_ids b.insts) (block_ids (bs ++ cs)) in
    let part = ids_append x (inst_ids b.insts) (block_ids bs) in
    let rest = blocks_ids x bs cs in
    omega (arith, all, part, rest)

items_ids : (x : Id) (xs ys : List Item) → id_times x (ids_of_items (xs ++ ys)) ≡ id_times x (ids_of_items xs) + id_times x (ids_of_items ys)
items_ids x [] ys = omega (arith)
items_ids x (i ∷ xs) ys =
    let all = ids_append x (item_ids i) (ids_of_items (xs ++ ys)) in
    let part = ids_append x (item_ids i) (ids_of_items xs) in
    let rest = items_ids x xs ys in
    omega (arith, all, part, rest)

-- how often an id stands around the block
abbrev pub ahead : Context → Id → ℕ
ahead c x = id_times x (ids_of_items c.items_before) + id_times x (block_ids c.blocks_before)

abbrev pub past : Context → Id → ℕ
past c x = id_times x (block_ids c.blocks_after) + id_times x (ids_of_items c.items_after)

abbrev pub around : Context → Id → ℕ
around c x = (ahead c x + id_times x (param_ids c.func.params)) + past c x

pub ids_plug : (c : Context) (l : List Inst) (x : Id) → id_times x (ids_of (plug c l)) ≡ around c x + times x l
ids_plug c l x =
    let f : Func = func_with c.func (c.blocks_before ++ block_with c l ∷ c.blocks_after) in
    let outer = items_ids x c.items_before (FuncItem (func_with c.func (c.blocks_before ++ block_with c l ∷ c.blocks_after)) ∷ c.items_after) in
    let item = ids_append x (param_ids c.func.params ++ block_ids (c.blocks_before ++ block_with c l ∷ c.blocks_after)) (ids_of_items c.items_after) in
    let parts = ids_append x (param_ids c.func.params) (block_ids (c.blocks_before ++ block_with c l ∷ c.blocks_after)) in
    let blocks = blocks_ids x c.blocks_before (block_with c l ∷ c.blocks_after) in
    let block = ids_append x (inst_ids l) (block_ids c.blocks_after) in
    let own = times_ids x l in
    omega (arith, outer, item, parts, blocks, block, own)

-- ---- what stands nowhere is not found

no_param : (x : Id) (ps : List Param) → id_times x (param_ids ps) ≡ 0 → param_in x ps ≡ None
no_param x [] e = refl
no_param x (p ∷ ps) e = by_test (same_id p.id x) e (no_param x ps)
  where
    by_test : (b : Bool) → cond b (1 + id_times x (param_ids ps)) (id_times x (param_ids ps)) ≡ 0 → (id_times x (param_ids ps) ≡ 0 → param_in x ps ≡ None) → cond b (Some p) (param_in x ps) ≡ None
    by_test true r more = absurd (omega (arith, r))
    by_test false r more = more r

pub no_find : (x : Id) (l : List Inst) → times x l ≡ 0 → find x l ≡ None
no_find x [] e = refl
no_find x (i ∷ is) e = by_test (same_id i.id x) e (no_find x is)
  where
    by_test : (b : Bool) → cond b 1 0 + times x is ≡ 0 → (times x is ≡ 0 → find x is ≡ None) → cond b (Some i) (find x is) ≡ None
    by_test true r more = absurd (omega (arith, r))
    by_test false r more = more (omega (arith, r))

no_standing_in : (x : Id) (k n : ℕ) (bs : List Block) → id_times x (block_ids bs) ≡ 0 → standing_in x k n bs ≡ None
no_standing_in x k n [] e = refl
no_standing_in x k n (b ∷ bs) e =
    let sum = ids_append x (inst_ids b.insts) (block_ids bs) in
    let own = times_ids x b.insts in
    ap (λ o. either (standing k n b.insts o) (standing_in x k (suc n) bs)) (no_find x b.insts (omega (arith, sum, own, e)))
    ∙ no_standing_in x k (suc n) bs (omega (arith, sum, e))

pub no_standing : (x : Id) (k : ℕ) (items : List Item) → id_times x (ids_of_items items) ≡ 0 → standing_of x k (funcs_of items) ≡ None
no_standing x k [] e = refl
no_standing x k (Kept text ∷ items) e = no_standing x k items e
no_standing x k (Opaque text ∷ items) e = no_standing x k items e
no_standing x k (FuncItem f ∷ items) e =
    let sum = ids_append x (item_ids (FuncItem f)) (ids_of_items items) in
    let parts = ids_append x (param_ids f.params) (block_ids f.blocks) in
    ap (λ o. either o (standing_of x (suc k) (funcs_of items))) (no_standing_in x k 0 f.blocks (omega (arith, sum, parts, e)))
    ∙ no_standing x (suc k) items (omega (arith, sum, e))

pub no_param_of : (x : Id) (items : List Item) → id_times x (ids_of_items items) ≡ 0 → param_of x (funcs_of items) ≡ None
no_param_of x [] e = refl
no_param_of x (Kept text ∷ items) e = no_param_of x items e
no_param_of x (Opaque text ∷ items) e = no_param_of x items e
no_param_of x (FuncItem f ∷ items) e =
    let sum = ids_append x (item_ids (FuncItem f)) (ids_of_items items) in
    let parts = ids_append x (param_ids f.params) (block_ids f.blocks) in
    ap (λ o. either o (param_of x (funcs_of items))) (no_param x f.params (omega (arith, sum, parts, e)))
    ∙ no_param_of x items (omega (arith, sum, e))

pub neither_there : (m : Module) (x : Id) → id_times x (ids_of m) ≡ 0 → IsNeither (param_of x (funcs_of m.items)) (found m x)
neither_there m x e = both (param_of x (funcs_of m.items)) (found m x) (no_param_of x m.items e) (no_standing x 0 m.items e)
  where
    both : (o : Option Param) (u : Option Standing) → o ≡ None → u ≡ None → IsNeither o u
    both None None e f = tt
    both (Some p) u e f = absurd cc
    both None (Some s) e f = absurd cc

-- ---- what stands somewhere is found

some_param : (x : Id) (ps : List Param) → param_in x ps ≡ None → id_times x (param_ids ps) ≡ 0
some_param x [] e = refl
some_param x (p ∷ ps) e = by_test (same_id p.id x) e (some_param x ps)
  where
    by_test : (b : Bool) → cond b (Some p) (param_in x ps) ≡ None → (param_in x ps ≡ None → id_times x (param_ids ps) ≡ 0) → cond b (1 + id_times x (param_ids ps)) (id_times x (param_ids ps)) ≡ 0
    by_test true r more = absurd cc
    by_test false r more = more r

pub some_find : (x : Id) (l : List Inst) → find x l ≡ None → times x l ≡ 0
some_find x [] e = refl
some_find x (i ∷ is) e = by_test (same_id i.id x) e (some_find x is)
  where
    by_test : (b : Bool) → cond b (Some i) (find x is) ≡ None → (find x is ≡ None → times x is ≡ 0) → cond b 1 0 + times x is ≡ 0
    by_test true r more = absurd cc
    by_test false r more = let rest = more r in omega (arith, rest)

some_standing_in : (x : Id) (k n : ℕ) (bs : List Block) → standing_in x k n bs ≡ None → id_times x (block_ids bs) ≡ 0
some_standing_in x k n [] e = refl
some_standing_in x k n (b ∷ bs) e = by_find (find x b.insts) refl e (some_standing_in x k (suc n) bs)
  where
    by_find : (o : Option Inst) → find x b.insts ≡ o → either (standing k n b.insts o) (standing_in x k (suc n) bs) ≡ None →
        (standing_in x k (suc n) bs ≡ None → id_times x (block_ids bs) ≡ 0) → id_times x (block_ids (b ∷ bs)) ≡ 0
    by_find None t r more =
        let sum = ids_append x (inst_ids b.insts) (block_ids bs) in
        let own = times_ids x b.insts in
        let none = some_find x b.insts t in
        let rest = more r in
        omega (arith, sum, own, none, rest)
    by_find (Some i) t r more = absurd cc

some_there : (x : Id) (k : ℕ) (items : List Item) → param_of x (funcs_of items) ≡ None → standing_of x k (funcs_of items) ≡ None → id_times x (ids_of_items items) ≡ 0
some_there x k [] e f = refl
some_there x k (Kept text ∷ items) e f = some_there x k items e f
some_there x k (Opaque text ∷ items) e f = some_there x k items e f
some_there x k (FuncItem g ∷ items) e f = by_param (param_in x g.params) refl e (standing_in x k 0 g.blocks) refl f (some_there x (suc k) items)
  where
    by_param : (o : Option Param) → param_in x g.params ≡ o → either o (param_of x (funcs_of items)) ≡ None →
        (u : Option Standing) → standing_in x k 0 g.blocks ≡ u → either u (standing_of x (suc k) (funcs_of items)) ≡ None →
        (param_of x (funcs_of items) ≡ None → standing_of x (suc k) (funcs_of items) ≡ None → id_times x (ids_of_items items) ≡ 0) → id_times x (ids_of_items (FuncItem g ∷ items)) ≡ 0
    by_param None t r None v w more =
        let sum = ids_append x (item_ids (FuncItem g)) (ids_of_items items) in
        let parts = ids_append x (param_ids g.params) (block_ids g.blocks) in
        let none = some_param x g.params t in
        let blocks = some_standing_in x k 0 g.blocks v in
        let rest = more r w in
        omega (arith, sum, parts, none, blocks, rest)
    by_param (Some p) t r u v w more = absurd cc
    by_param None t r (Some s) v w more = absurd cc

pub either_there : (m : Module) (x : Id) → 1 ≤ id_times x (ids_of m) → IsEither (param_of x (funcs_of m.items)) (found m x)
either_there m x h = by_both (param_of x (funcs_of m.items)) refl (found m x) refl
  where
    by_both : (o : Option Param) → param_of x (funcs_of m.items) ≡ o → (u : Option Standing) → found m x ≡ u → IsEither o u
    by_both None e None f = let none = some_there x 0 m.items e f in absurd (omega (arith, none, h))
    by_both None e (Some s) f = tt
    by_both (Some p) e None f = tt
    by_both (Some p) e (Some s) f = tt

-- ---- an instruction of the block is found there

-- how many functions stand before
abbrev pub number_from : ℕ → List Item → ℕ
number_from k [] = k
number_from k (FuncItem f ∷ items) = number_from (suc k) items
number_from k (Kept text ∷ items) = number_from k items
number_from k (Opaque text ∷ items) = number_from k items

abbrev pub place_of : Context → Place
place_of c = record { func = number_from 0 c.items_before; block = length c.blocks_before }

module _ (c : Context) (l : List Inst) (x : Id) (i : Inst) (is : find x l ≡ Some i) where
  abbrev blocks : List Block
  blocks = c.blocks_before ++ block_with c l ∷ c.blocks_after

  in_blocks : (k n : ℕ) (bs : List Block) → id_times x (block_ids bs) ≡ 0 →
      standing_in x k n (bs ++ block_with c l ∷ c.blocks_after) ≡ Some (record { place = record { func = k; block = n + length bs }; block = l; inst = i })
  in_blocks k n [] e =
      ap (λ o. either (standing k n l o) (standing_in x k (suc n) c.blocks_after)) is
      ∙ ap (λ b. Some (record { place = record { func = k; block = b }; block = l; inst = i })) (plus_none n)
    where
      plus_none : (n : ℕ) → n ≡ n + 0
      plus_none n = omega (arith)
  in_blocks k n (b ∷ bs) e =
      let sum = ids_append x (inst_ids b.insts) (block_ids bs) in
      let own = times_ids x b.insts in
      ap (λ o. either (standing k n b.insts o) (standing_in x k (suc n) (bs ++ block_with c l ∷ c.blocks_after))) (no_find x b.insts (omega (arith, sum, own, e)))
      ∙ in_blocks k (suc n) bs (omega (arith, sum, e))
      ∙ ap (λ b. Some (record { place = record { func = k; block = b }; block = l; inst = i })) (next n (length bs))
    where
      next : (n m : ℕ) → suc n + m ≡ n + suc m
      next n m = omega (arith)

  in_items : (k : ℕ) (items : List Item) → id_times x (ids_of_items items) ≡ 0 → id_times x (block_ids c.blocks_before) ≡ 0 →
      standing_of x k (funcs_of (items ++ FuncItem (func_with c.func blocks) ∷ c.items_after))
      ≡ Some (record { place = record { func = number_from k items; block = length c.blocks_before }; block = l; inst = i })
  in_items k [] e f =
      ap (λ o. either o (standing_of x (suc k) (funcs_of c.items_after))) (in_blocks k 0 c.blocks_before f)
      ∙ ap (λ b. Some (record { place = record { func = k; block = b }; block = l; inst = i })) (none_plus (length c.blocks_before))
    where
      none_plus : (n : ℕ) → 0 + n ≡ n
      none_plus n = omega (arith)
  in_items k (Kept text ∷ items) e f = in_items k items e f
  in_items k (Opaque text ∷ items) e f = in_items k items e f
  in_items k (FuncItem g ∷ items) e f =
      let sum = ids_append x (item_ids (FuncItem g)) (ids_of_items items) in
      let parts = ids_append x (param_ids g.params) (block_ids g.blocks) in
      ap (λ o. either o (standing_of x (suc k) (funcs_of (items ++ FuncItem (func_with c.func blocks) ∷ c.items_after)))) (no_standing_in x k 0 g.blocks (omega (arith, sum, parts, e)))
      ∙ in_items (suc k) items (omega (arith, sum, e)) f

  pub found_plug : ahead c x ≡ 0 → found (plug c l) x ≡ Some (record { place = place_of c; block = l; inst = i })
  found_plug e = in_items 0 c.items_before (omega (arith, e)) (omega (arith, e))

-- ---- an edit of what stands in the block

abbrev pub Only : Id → Edit → Type 0
Only x f = (i : Inst) → same_id i.id x ≡ false → f i ≡ i ∷ []

module _ (x : Id) (f : Edit) (only : Only x f) where
  pub each_none : (l : List Inst) → times x l ≡ 0 → each f l ≡ l
  each_none [] e = refl
  each_none (i ∷ is) e = by_test (same_id i.id x) refl e (each_none is)
    where
      by_test : (b : Bool) → same_id i.id x ≡ b → cond b 1 0 + times x is ≡ 0 → (times x is ≡ 0 → each f is ≡ is) → f i ++ each f is ≡ i ∷ is
      by_test true t r more = absurd (omega (arith, r))
      by_test false t r more = ap (λ u. u ++ each f is) (only i t) ∙ ap (λ u. i ∷ u) (more (omega (arith, r)))

  blocks_none : (bs : List Block) → id_times x (block_ids bs) ≡ 0 → map (edited_block f) bs ≡ bs
  blocks_none [] e = refl
  blocks_none (b ∷ bs) e =
      let sum = ids_append x (inst_ids b.insts) (block_ids bs) in
      let own = times_ids x b.insts in
      ap (λ l. record { name = b.name; insts = l } ∷ map (edited_block f) bs) (each_none b.insts (omega (arith, sum, own, e)))
      ∙ ap (λ u. b ∷ u) (blocks_none bs (omega (arith, sum, e)))

  items_none : (items : List Item) → id_times x (ids_of_items items) ≡ 0 → map (edited_item f) items ≡ items
  items_none [] e = refl
  items_none (Kept text ∷ items) e = ap (λ u. Kept text ∷ u) (items_none items e)
  items_none (Opaque text ∷ items) e = ap (λ u. Opaque text ∷ u) (items_none items e)
  items_none (FuncItem g ∷ items) e =
      let sum = ids_append x (item_ids (FuncItem g)) (ids_of_items items) in
      let parts = ids_append x (param_ids g.params) (block_ids g.blocks) in
      ap (λ bs. FuncItem (func_with g bs) ∷ map (edited_item f) items) (blocks_none g.blocks (omega (arith, sum, parts, e)))
      ∙ ap (λ u. FuncItem g ∷ u) (items_none items (omega (arith, sum, e)))

pub edited_plug : (c : Context) (l : List Inst) (x : Id) (f : Edit) → Only x f → around c x ≡ 0 → edited f (plug c l) ≡ plug c (each f l)
edited_plug c l x f only e = ap (λ items. record { items = items; globals = c.globals; big_endian_line = c.big }) (
    map_append (edited_item f) c.items_before (FuncItem (func_with c.func (c.blocks_before ++ block_with c l ∷ c.blocks_after)) ∷ c.items_after)
    ∙ ap (λ u. u ++ FuncItem (func_with c.func (map (edited_block f) (c.blocks_before ++ block_with c l ∷ c.blocks_after))) ∷ map (edited_item f) c.items_after) (items_none x f only c.items_before (omega (arith, e)))
    ∙ ap (λ bs. c.items_before ++ FuncItem (func_with c.func bs) ∷ map (edited_item f) c.items_after) (
    map_append (edited_block f) c.blocks_before (block_with c l ∷ c.blocks_after)
    ∙ ap (λ u. u ++ block_with c (each f l) ∷ map (edited_block f) c.blocks_after) (blocks_none x f only c.blocks_before (omega (arith, e)))
    ∙ ap (λ u. c.blocks_before ++ block_with c (each f l) ∷ u) (blocks_none x f only c.blocks_after (omega (arith, e))))
    ∙ ap (λ u. c.items_before ++ FuncItem (func_with c.func (c.blocks_before ++ block_with c (each f l) ∷ c.blocks_after)) ∷ u) (items_none x f only c.items_after (omega (arith, e))))
