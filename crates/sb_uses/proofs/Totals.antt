-- Totals over a module of which one instruction is edited.
use Rattle.std.proofs.Common.{◌≡◌, refl, sym, ap, ◌∙◌, subst, ℕ, zero, suc, ◌+◌, ◌≤◌, Bool, true, false, ◌||◌, Option, None, Some, List, [], ◌∷◌, ◌++◌, map, cond, arith}
use Rattle.ir_types.specs.declared.id.Id.{Id}
use Rattle.ir_types.specs.declared.inst.Inst.{Inst}
use Rattle.ir_types.specs.declared.func.Param.{Param}
use Rattle.ir_types.specs.declared.func.Block.{Block}
use Rattle.ir_types.specs.declared.module.Item.{Item}
use Rattle.ir_types.specs.declared.module.Item.TheVariants.{Kept, Opaque, Func as FuncItem}
use Rattle.ir_types.specs.declared.module.Module.{Module}
use Rattle.ir_types.specs.Available.{same_id}
use Rattle.ir_types.specs.Formed.{block_ids, item_ids, ids_of_items, ids_of, IsFormed}
use Rattle.ir_types.proofs.Formed.{Every}
use Rattle.ir_types.proofs.Among.{among, among_left, among_right, same_is, same_itself, Once, once_of_pairs}
use Rattle.vx_view.specs.Answers.{funcs_of, param_in, param_of, find, found, Standing, standing, either, standing_in, standing_of}
use Rattle.vx_view.specs.Changes.{Edit, each, edited_block, edited_item, edited, inserting, removing, IsNeither}
use Rattle.vx_view.proofs.Edits.{EveryInst, IsOther, find_none, blocks_none, items_none, once_left, once_right, once_apart, inst_ids, lacks_list, lacks_blocks, lacks_items, items_only}
use Rattle.sb_uses.specs.Totals.{total_in, total_of_blocks, total_of_funcs, total, id_times, IdsApart}

total_append : (w : Inst → ℕ) (xs ys : List Inst) → total_in w (xs ++ ys) ≡ total_in w xs + total_in w ys
total_append w [] ys = omega (arith)
total_append w (x ∷ xs) ys = let rest = total_append w xs ys in omega (arith, rest)

some_is : {A : Type 0} {p q : A} → Some p ≡ Some q → p ≡ q
some_is e = cc

no_none : {A : Type 0} {p : A} → None ≡ Some p → ⊥
no_none e = cc

-- ---- what is found is among the ids

find_stands : (x : Id) (l : List Inst) (s : Inst) → find x l ≡ Some s → among (inst_ids l) x ≡ true
find_stands x [] s e = absurd (no_none e)
find_stands x (i ∷ is) s e = by_test (same_id i.id x) e (find_stands x is s)
  where
    by_test : (b : Bool) → cond b (Some i) (find x is) ≡ Some s → (find x is ≡ Some s → among (inst_ids is) x ≡ true) → (b || among (inst_ids is) x) ≡ true
    by_test true r more = refl
    by_test false r more = more r

blocks_stand : (x : Id) (k n : ℕ) (bs : List Block) (s : Standing) → standing_in x k n bs ≡ Some s → among (block_ids bs) x ≡ true
blocks_stand x k n [] s e = absurd (no_none e)
blocks_stand x k n (b ∷ bs) s e = by_find (find x b.insts) refl e (blocks_stand x k (suc n) bs s)
  where
    by_find : (u : Option Inst) → find x b.insts ≡ u → either (standing k n b.insts u) (standing_in x k (suc n) bs) ≡ Some s → (standing_in x k (suc n) bs ≡ Some s → among (block_ids bs) x ≡ true) →
        among (inst_ids b.insts ++ block_ids bs) x ≡ true
    by_find (Some i) t r more = among_left (inst_ids b.insts) (block_ids bs) x (find_stands x b.insts i t)
    by_find None t r more = among_right (inst_ids b.insts) (block_ids bs) x (more r)

-- ---- an edit at one id

module _ (w : Inst → ℕ) (x : Id) (f : Edit) (only : (i : Inst) → same_id i.id x ≡ false → f i ≡ i ∷ []) where
  same_in : (l : List Inst) → Every (IsOther x) l → total_in w (each f l) ≡ total_in w l
  same_in [] h = refl
  same_in (i ∷ is) h =
      let one : f i ≡ i ∷ [] = only i h.0 in
      let rest = same_in is h.1 in
      ap (λ u. total_in w (u ++ each f is)) one ∙ ap (λ n. w i + n) rest

  same_blocks : (bs : List Block) → Every (λ (b : Block). Every (IsOther x) b.insts) bs → total_of_blocks w (map (edited_block f) bs) ≡ total_of_blocks w bs
  same_blocks [] h = refl
  same_blocks (b ∷ bs) h = let here = same_in b.insts h.0 in let rest = same_blocks bs h.1 in omega (arith, here, rest)

  same_items : (items : List Item) → EveryInst (IsOther x) items → total_of_funcs w (funcs_of (map (edited_item f) items)) ≡ total_of_funcs w (funcs_of items)
  same_items [] h = refl
  same_items (Kept text ∷ items) h = same_items items h.1
  same_items (Opaque text ∷ items) h = same_items items h.1
  same_items (FuncItem u ∷ items) h = let here = same_blocks u.blocks h.0 in let rest = same_items items h.1 in omega (arith, here, rest)

  swapped_in : (s : Inst) (l : List Inst) → Once (inst_ids l) → find x l ≡ Some s → total_in w (each f l) + w s ≡ total_in w l + total_in w (f s)
  swapped_in s [] o e = absurd (no_none e)
  swapped_in s (i ∷ is) o e = by_test (same_id i.id x) refl e (λ r. swapped_in s is o.1 r)
    where
      by_test : (b : Bool) → same_id i.id x ≡ b → cond b (Some i) (find x is) ≡ Some s → (find x is ≡ Some s → total_in w (each f is) + w s ≡ total_in w is + total_in w (f s)) →
          total_in w (f i ++ each f is) + w s ≡ (w i + total_in w is) + total_in w (f s)
      by_test true t r more =
          let is_it : i ≡ s = some_is r in
          let others = same_in is (lacks_list x is (subst (λ v. among (inst_ids is) v ≡ false) (same_is i.id x t) o.0)) in
          let sum = total_append w (f i) (each f is) in
          let at : total_in w (f i) ≡ total_in w (f s) = ap (λ (j : Inst). total_in w (f j)) is_it in
          let weight : w i ≡ w s = ap w is_it in
          omega (arith, others, sum, at, weight)
      by_test false t r more =
          let one : total_in w (f i ++ each f is) ≡ w i + total_in w (each f is) = ap (λ u. total_in w (u ++ each f is)) (only i t) in
          let rest = more r in
          omega (arith, one, rest)

  swapped_blocks : (k n : ℕ) (bs : List Block) (s : Standing) → Once (block_ids bs) → standing_in x k n bs ≡ Some s →
      total_of_blocks w (map (edited_block f) bs) + w s.inst ≡ total_of_blocks w bs + total_in w (f s.inst)
  swapped_blocks k n [] s o e = absurd (no_none e)
  swapped_blocks k n (b ∷ bs) s o e = by_find (find x b.insts) refl e (λ r. swapped_blocks k (suc n) bs s (once_right (inst_ids b.insts) (block_ids bs) o) r)
    where
      by_find : (u : Option Inst) → find x b.insts ≡ u → either (standing k n b.insts u) (standing_in x k (suc n) bs) ≡ Some s →
          (standing_in x k (suc n) bs ≡ Some s → total_of_blocks w (map (edited_block f) bs) + w s.inst ≡ total_of_blocks w bs + total_in w (f s.inst)) →
          (total_in w (each f b.insts) + total_of_blocks w (map (edited_block f) bs)) + w s.inst ≡ (total_in w b.insts + total_of_blocks w bs) + total_in w (f s.inst)
      by_find (Some i) t r more =
          let is_it : i ≡ s.inst = ap (λ (v : Standing). v.inst) (some_is r) in
          let once = once_left (inst_ids b.insts) (block_ids bs) o in
          let here = swapped_in s.inst b.insts once (t ∙ ap Some is_it) in
          let stands = find_stands x b.insts i t in
          let others = same_blocks bs (lacks_blocks x bs (once_apart (inst_ids b.insts) (block_ids bs) x o stands)) in
          omega (arith, here, others)
      by_find None t r more =
          let here = same_in b.insts (find_none x b.insts t) in
          let rest = more r in
          omega (arith, here, rest)

  swapped_items : (k : ℕ) (items : List Item) (s : Standing) → Once (ids_of_items items) → standing_of x k (funcs_of items) ≡ Some s →
      total_of_funcs w (funcs_of (map (edited_item f) items)) + w s.inst ≡ total_of_funcs w (funcs_of items) + total_in w (f s.inst)
  swapped_items k [] s o e = absurd (no_none e)
  swapped_items k (Kept text ∷ items) s o e = swapped_items k items s o e
  swapped_items k (Opaque text ∷ items) s o e = swapped_items k items s o e
  swapped_items k (FuncItem g ∷ items) s o e =
      by_blocks (standing_in x k 0 g.blocks) refl e (λ r. swapped_items (suc k) items s (once_right (item_ids (FuncItem g)) (ids_of_items items) o) r)
    where
      params : List Id
      params = map (λ (p : Param). p.id) g.params

      by_blocks : (u : Option Standing) → standing_in x k 0 g.blocks ≡ u → either u (standing_of x (suc k) (funcs_of items)) ≡ Some s →
          (standing_of x (suc k) (funcs_of items) ≡ Some s → total_of_funcs w (funcs_of (map (edited_item f) items)) + w s.inst ≡ total_of_funcs w (funcs_of items) + total_in w (f s.inst)) →
          (total_of_blocks w (map (edited_block f) g.blocks) + total_of_funcs w (funcs_of (map (edited_item f) items))) + w s.inst
          ≡ (total_of_blocks w g.blocks + total_of_funcs w (funcs_of items)) + total_in w (f s.inst)
      by_blocks (Some q) t r more =
          let once = once_right params (block_ids g.blocks) (once_left (item_ids (FuncItem g)) (ids_of_items items) o) in
          let here = swapped_blocks k 0 g.blocks s once (t ∙ r) in
          let stands = among_right params (block_ids g.blocks) x (blocks_stand x k 0 g.blocks q t) in
          let others = same_items items (lacks_items x items (once_apart (item_ids (FuncItem g)) (ids_of_items items) x o stands)) in
          omega (arith, here, others)
      by_blocks None t r more =
          let here = same_blocks g.blocks (blocks_none x k 0 g.blocks t) in
          let rest = more r in
          omega (arith, here, rest)

  -- the edited instruction for what it was
  pub swapped : (m : Module) (s : Standing) → Once (ids_of m) → found m x ≡ Some s → total w (edited f m) + w s.inst ≡ total w m + total_in w (f s.inst)
  swapped m s o e = swapped_items 0 m.items s o e

-- ---- what no instruction counts

module _ (w : Inst → ℕ) (x : Id) (none : (i : Inst) → same_id i.id x ≡ false → w i ≡ 0) where
  none_in : (l : List Inst) → Every (IsOther x) l → total_in w l ≡ 0
  none_in [] h = refl
  none_in (i ∷ is) h = let here = none i h.0 in let rest = none_in is h.1 in omega (arith, here, rest)

  none_blocks : (bs : List Block) → Every (λ (b : Block). Every (IsOther x) b.insts) bs → total_of_blocks w bs ≡ 0
  none_blocks [] h = refl
  none_blocks (b ∷ bs) h = let here = none_in b.insts h.0 in let rest = none_blocks bs h.1 in omega (arith, here, rest)

  none_items : (items : List Item) → EveryInst (IsOther x) items → total_of_funcs w (funcs_of items) ≡ 0
  none_items [] h = refl
  none_items (Kept text ∷ items) h = none_items items h.1
  none_items (Opaque text ∷ items) h = none_items items h.1
  none_items (FuncItem f ∷ items) h = let here = none_blocks f.blocks h.0 in let rest = none_items items h.1 in omega (arith, here, rest)

  -- where the id is not found
  pub not_found : (m : Module) → found m x ≡ None → total w m ≡ 0
  not_found m e = none_items m.items (items_none x 0 m.items e)

  -- where it was taken out
  removed_in : (l : List Inst) → total_in w (each (removing x) l) ≡ 0
  removed_in [] = refl
  removed_in (i ∷ is) = by_test (same_id i.id x) refl (removed_in is)
    where
      by_test : (b : Bool) → same_id i.id x ≡ b → total_in w (each (removing x) is) ≡ 0 → total_in w (cond b [] (i ∷ []) ++ each (removing x) is) ≡ 0
      by_test true t r = r
      by_test false t r = let here = none i t in omega (arith, here, r)

  removed_blocks : (bs : List Block) → total_of_blocks w (map (edited_block (removing x)) bs) ≡ 0
  removed_blocks [] = refl
  removed_blocks (b ∷ bs) = let here = removed_in b.insts in let rest = removed_blocks bs in omega (arith, here, rest)

  removed_items : (items : List Item) → total_of_funcs w (funcs_of (map (edited_item (removing x)) items)) ≡ 0
  removed_items [] = refl
  removed_items (Kept text ∷ items) = removed_items items
  removed_items (Opaque text ∷ items) = removed_items items
  removed_items (FuncItem f ∷ items) = let here = removed_blocks f.blocks in let rest = removed_items items in omega (arith, here, rest)

  pub taken_out : (m : Module) → total w (edited (removing x) m) ≡ 0
  taken_out m = removed_items m.items

-- the instruction that is found counts as much as all of its id
pub found_total : (w : Inst → ℕ) (x : Id) → ((i : Inst) → same_id i.id x ≡ false → w i ≡ 0) → (m : Module) (s : Standing) → Once (ids_of m) → found m x ≡ Some s → total w m ≡ w s.inst
found_total w x none m s o e =
    let gone = taken_out w x none m in
    let sum = swapped w x (removing x) (λ i t. ap (λ b. cond b [] (i ∷ [])) t) m s o e in
    let nothing : total_in w (removing x s.inst) ≡ 0 = ap (λ b. total_in w (cond b [] (s.inst ∷ []))) ((items_only x 0 m.items s o e).1) in
    omega (arith, gone, sum, nothing)

-- ---- a total that is less in each instruction

module _ (w v : Inst → ℕ) (less : (i : Inst) → w i ≤ v i) where
  less_in : (l : List Inst) → total_in w l ≤ total_in v l
  less_in [] = omega (arith)
  less_in (i ∷ is) = let here = less i in let rest = less_in is in omega (arith, here, rest)

  less_blocks : (bs : List Block) → total_of_blocks w bs ≤ total_of_blocks v bs
  less_blocks [] = omega (arith)
  less_blocks (b ∷ bs) = let here = less_in b.insts in let rest = less_blocks bs in omega (arith, here, rest)

  less_items : (items : List Item) → total_of_funcs w (funcs_of items) ≤ total_of_funcs v (funcs_of items)
  less_items [] = omega (arith)
  less_items (Kept text ∷ items) = less_items items
  less_items (Opaque text ∷ items) = less_items items
  less_items (FuncItem f ∷ items) = let here = less_blocks f.blocks in let rest = less_items items in omega (arith, here, rest)

  pub less_total : (m : Module) → total w m ≤ total v m
  less_total m = less_items m.items

-- ---- an instruction put before one of an id

abbrev scaled : ℕ → ℕ → ℕ
scaled zero n = 0
scaled (suc k) n = n + scaled k n

scaled_sum : (j k n : ℕ) → scaled (j + k) n ≡ scaled j n + scaled k n
scaled_sum zero k n = ap (λ i. scaled i n) zero_left ∙ sum where
  zero_left : 0 + k ≡ k
  zero_left = omega (arith)

  sum : scaled k n ≡ 0 + scaled k n
  sum = omega (arith)
scaled_sum (suc j) k n = ap (λ i. scaled i n) next ∙ (let rest = scaled_sum j k n in omega (arith, rest)) where
  next : suc j + k ≡ suc (j + k)
  next = omega (arith)

abbrev pub one_of : Id → Inst → ℕ
one_of x i = cond (same_id i.id x) 1 0

module _ (w : Inst → ℕ) (x : Id) (new : Inst) where
  inserted_in : (l : List Inst) → total_in w (each (inserting x new) l) ≡ total_in w l + scaled (total_in (one_of x) l) (w new)
  inserted_in [] = refl
  inserted_in (i ∷ is) = by_test (same_id i.id x) (inserted_in is)
    where
      by_test : (b : Bool) → total_in w (each (inserting x new) is) ≡ total_in w is + scaled (total_in (one_of x) is) (w new) →
          total_in w (cond b (new ∷ i ∷ []) (i ∷ []) ++ each (inserting x new) is) ≡ (w i + total_in w is) + scaled (cond b 1 0 + total_in (one_of x) is) (w new)
      by_test true r = let sum = scaled_sum 1 (total_in (one_of x) is) (w new) in omega (arith, r, sum)
      by_test false r = let sum = scaled_sum 0 (total_in (one_of x) is) (w new) in omega (arith, r, sum)

  inserted_blocks : (bs : List Block) → total_of_blocks w (map (edited_block (inserting x new)) bs) ≡ total_of_blocks w bs + scaled (total_of_blocks (one_of x) bs) (w new)
  inserted_blocks [] = refl
  inserted_blocks (b ∷ bs) =
      let here = inserted_in b.insts in
      let rest = inserted_blocks bs in
      let sum = scaled_sum (total_in (one_of x) b.insts) (total_of_blocks (one_of x) bs) (w new) in
      omega (arith, here, rest, sum)

  inserted_items : (items : List Item) → total_of_funcs w (funcs_of (map (edited_item (inserting x new)) items)) ≡ total_of_funcs w (funcs_of items) + scaled (total_of_funcs (one_of x) (funcs_of items)) (w new)
  inserted_items [] = refl
  inserted_items (Kept text ∷ items) = inserted_items items
  inserted_items (Opaque text ∷ items) = inserted_items items
  inserted_items (FuncItem f ∷ items) =
      let here = inserted_blocks f.blocks in
      let rest = inserted_items items in
      let sum = scaled_sum (total_of_blocks (one_of x) f.blocks) (total_of_funcs (one_of x) (funcs_of items)) (w new) in
      omega (arith, here, rest, sum)

  -- where it stands once
  pub inserted_total : (m : Module) → total (one_of x) m ≡ 1 → total w (edited (inserting x new) m) ≡ total w m + w new
  inserted_total m once = let all = inserted_items m.items in let same = ap (λ k. scaled k (w new)) once in let one : scaled 1 (w new) ≡ w new + 0 = refl in omega (arith, all, same, one)

-- ---- ids

among_none : (x : Id) (xs : List Id) → id_times x xs ≡ 0 → among xs x ≡ false
among_none x [] e = refl
among_none x (y ∷ ys) e = by_test (same_id y x) e (among_none x ys)
  where
    by_test : (b : Bool) → cond b (1 + id_times x ys) (id_times x ys) ≡ 0 → (id_times x ys ≡ 0 → among ys x ≡ false) → (b || among ys x) ≡ false
    by_test true r more = absurd (omega (arith, r))
    by_test false r more = more r

none_among : (x : Id) (xs : List Id) → among xs x ≡ false → id_times x xs ≡ 0
none_among x [] e = refl
none_among x (y ∷ ys) e = by_test (same_id y x) e (none_among x ys)
  where
    by_test : (b : Bool) → (b || among ys x) ≡ false → (among ys x ≡ false → id_times x ys ≡ 0) → cond b (1 + id_times x ys) (id_times x ys) ≡ 0
    by_test true r more = absurd cc
    by_test false r more = more r

pub once_of_times : (xs : List Id) → ((x : Id) → id_times x xs ≤ 1) → Once xs
once_of_times [] h = tt
once_of_times (y ∷ ys) h = (among_none y ys own, once_of_times ys (λ x. rest x (h x)))
  where
    own : id_times y ys ≡ 0
    own = let le = h y in let at : id_times y (y ∷ ys) ≡ 1 + id_times y ys = ap (λ b. cond b (1 + id_times y ys) (id_times y ys)) (same_itself y) in omega (arith, le, at)

    rest : (x : Id) → cond (same_id y x) (1 + id_times x ys) (id_times x ys) ≤ 1 → id_times x ys ≤ 1
    rest x le = by_test (same_id y x) le
      where
        by_test : (b : Bool) → cond b (1 + id_times x ys) (id_times x ys) ≤ 1 → id_times x ys ≤ 1
        by_test true e = omega (arith, e)
        by_test false e = e

times_of_once : (xs : List Id) → Once xs → (x : Id) → id_times x xs ≤ 1
times_of_once [] o x = omega (arith)
times_of_once (y ∷ ys) o x = by_test (same_id y x) refl (times_of_once ys o.1 x)
  where
    by_test : (b : Bool) → same_id y x ≡ b → id_times x ys ≤ 1 → cond b (1 + id_times x ys) (id_times x ys) ≤ 1
    by_test true t le = let none = none_among x ys (subst (λ v. among ys v ≡ false) (same_is y x t) o.0) in omega (arith, none)
    by_test false t le = le

pub apart_once : (m : Module) → IdsApart m → Once (ids_of m)
apart_once m apart = once_of_times (ids_of m) apart

pub formed_apart : (m : Module) → IsFormed m → IdsApart m
formed_apart m formed = times_of_once (ids_of m) (once_of_pairs (ids_of m) formed.once)

-- parameters and instructions
abbrev params_times : Id → List Item → ℕ
params_times x [] = 0
params_times x (FuncItem f ∷ items) = id_times x (map (λ (p : Param). p.id) f.params) + params_times x items
params_times x (Kept text ∷ items) = params_times x items
params_times x (Opaque text ∷ items) = params_times x items

times_append : (x : Id) (xs ys : List Id) → id_times x (xs ++ ys) ≡ id_times x xs + id_times x ys
times_append x [] ys = omega (arith)
times_append x (y ∷ xs) ys = by_test (same_id y x) (times_append x xs ys)
  where
    by_test : (b : Bool) → id_times x (xs ++ ys) ≡ id_times x xs + id_times x ys → cond b (1 + id_times x (xs ++ ys)) (id_times x (xs ++ ys)) ≡ cond b (1 + id_times x xs) (id_times x xs) + id_times x ys
    by_test true e = omega (arith, e)
    by_test false e = e

times_in : (x : Id) (l : List Inst) → id_times x (inst_ids l) ≡ total_in (one_of x) l
times_in x [] = refl
times_in x (i ∷ is) = by_test (same_id i.id x) (times_in x is)
  where
    by_test : (b : Bool) → id_times x (inst_ids is) ≡ total_in (one_of x) is → cond b (1 + id_times x (inst_ids is)) (id_times x (inst_ids is)) ≡ cond b 1 0 + total_in (one_of x) is
    by_test true e = omega (arith, e)
    by_test false e = omega (arith, e)

times_blocks : (x : Id) (bs : List Block) → id_times x (block_ids bs) ≡ total_of_blocks (one_of x) bs
times_blocks x [] = refl
times_blocks x (b ∷ bs) = let sum = times_append x (inst_ids b.insts) (block_ids bs) in let here = times_in x b.insts in let rest = times_blocks x bs in omega (arith, sum, here, rest)

times_items : (x : Id) (items : List Item) → id_times x (ids_of_items items) ≡ params_times x items + total_of_funcs (one_of x) (funcs_of items)
times_items x [] = refl
times_items x (Kept text ∷ items) = times_items x items
times_items x (Opaque text ∷ items) = times_items x items
times_items x (FuncItem f ∷ items) =
    let outer = times_append x (item_ids (FuncItem f)) (ids_of_items items) in
    let inner = times_append x (map (λ (p : Param). p.id) f.params) (block_ids f.blocks) in
    let here = times_blocks x f.blocks in
    let rest = times_items x items in
    omega (arith, outer, inner, here, rest)

params_edited : (x : Id) (f : Edit) (items : List Item) → params_times x (map (edited_item f) items) ≡ params_times x items
params_edited x f [] = refl
params_edited x f (Kept text ∷ items) = params_edited x f items
params_edited x f (Opaque text ∷ items) = params_edited x f items
params_edited x f (FuncItem g ∷ items) = ap (λ n. id_times x (map (λ (p : Param). p.id) g.params) + n) (params_edited x f items)

-- an edit that keeps how often an id stands keeps ids apart
pub apart_edited : (f : Edit) (m : Module) → ((x : Id) → total (one_of x) (edited f m) ≤ total (one_of x) m) → IdsApart m → IdsApart (edited f m)
apart_edited f m fewer apart x =
    let was = times_items x m.items in
    let now = times_items x (map (edited_item f) m.items) in
    let params = params_edited x f m.items in
    let le = fewer x in
    let all = apart x in
    omega (arith, was, now, params, le, all)

-- what is no parameter and no instruction stands nowhere
no_params : (x : Id) (ps : List Param) → param_in x ps ≡ None → id_times x (map (λ (p : Param). p.id) ps) ≡ 0
no_params x [] e = refl
no_params x (p ∷ ps) e = by_test (same_id p.id x) e (no_params x ps)
  where
    by_test : (b : Bool) → cond b (Some p) (param_in x ps) ≡ None → (param_in x ps ≡ None → id_times x (map (λ (q : Param). q.id) ps) ≡ 0) →
        cond b (1 + id_times x (map (λ (q : Param). q.id) ps)) (id_times x (map (λ (q : Param). q.id) ps)) ≡ 0
    by_test true r more = absurd cc
    by_test false r more = more r

no_params_of : (x : Id) (items : List Item) → param_of x (funcs_of items) ≡ None → params_times x items ≡ 0
no_params_of x [] e = refl
no_params_of x (Kept text ∷ items) e = no_params_of x items e
no_params_of x (Opaque text ∷ items) e = no_params_of x items e
no_params_of x (FuncItem f ∷ items) e = by_params (param_in x f.params) refl e (no_params_of x items)
  where
    by_params : (o : Option Param) → param_in x f.params ≡ o → either o (param_of x (funcs_of items)) ≡ None → (param_of x (funcs_of items) ≡ None → params_times x items ≡ 0) → id_times x (map (λ (p : Param). p.id) f.params) + params_times x items ≡ 0
    by_params None t r more = let here = no_params x f.params t in let rest = more r in omega (arith, here, rest)
    by_params (Some p) t r more = absurd cc

neither_left : {A B : Type 0} (a : Option A) (b : Option B) → IsNeither a b → a ≡ None
neither_left None None h = refl
neither_left None (Some b) h = absurd h
neither_left (Some a) None h = absurd h
neither_left (Some a) (Some b) h = absurd h

pub neither_right : {A B : Type 0} (a : Option A) (b : Option B) → IsNeither a b → b ≡ None
neither_right None None h = refl
neither_right None (Some b) h = absurd h
neither_right (Some a) None h = absurd h
neither_right (Some a) (Some b) h = absurd h

-- an instruction with a new id keeps ids apart
pub apart_inserted : (f : Edit) (m : Module) (new : Id) → IsNeither (param_of new (funcs_of m.items)) (found m new) →
    ((x : Id) → total (one_of x) (edited f m) ≤ total (one_of x) m + cond (same_id new x) 1 0) → IdsApart m → IdsApart (edited f m)
apart_inserted f m new neither more apart x = by_test (same_id new x) refl (more x)
  where
    was : id_times x (ids_of_items m.items) ≡ params_times x m.items + total (one_of x) m
    was = times_items x m.items

    now : id_times x (ids_of (edited f m)) ≡ params_times x m.items + total (one_of x) (edited f m)
    now = times_items x (map (edited_item f) m.items) ∙ ap (λ n. n + total (one_of x) (edited f m)) (params_edited x f m.items)

    by_test : (b : Bool) → same_id new x ≡ b → total (one_of x) (edited f m) ≤ total (one_of x) m + cond b 1 0 → id_times x (ids_of (edited f m)) ≤ 1
    by_test true t le =
        let at : new ≡ x = same_is new x t in
        let params = no_params_of x m.items (ap (λ v. param_of v (funcs_of m.items)) (sym at) ∙ neither_left (param_of new (funcs_of m.items)) (found m new) neither) in
        let none = not_found (one_of x) x (λ i e. ap (λ b. cond b 1 0) e) m (ap (found m) (sym at) ∙ neither_right (param_of new (funcs_of m.items)) (found m new) neither) in
        let all = now in
        omega (arith, le, params, none, all)
    by_test false t le = let before = was in let all = now in let a = apart x in omega (arith, le, before, all, a)

-- an id stands among instructions once at most
pub insts_apart : (m : Module) → IdsApart m → (x : Id) → total (one_of x) m ≤ 1
insts_apart m apart x = let all = times_items x m.items in let le = apart x in omega (arith, all, le)

-- two edits that together keep how often an id stands
pub apart_twice : (f g : Edit) (m : Module) → ((x : Id) → total (one_of x) (edited f (edited g m)) ≡ total (one_of x) m) → IdsApart m → IdsApart (edited f (edited g m))
apart_twice f g m same apart x =
    let was = times_items x m.items in
    let now = times_items x (map (edited_item f) (map (edited_item g) m.items)) in
    let first = params_edited x g m.items in
    let second = params_edited x f (map (edited_item g) m.items) in
    let e = same x in
    let all = apart x in
    omega (arith, was, now, first, second, e, all)
