-- Another row of instructions in a block: the types of values in the function, the graph, and where definitions stand.
use Rattle.std.proofs.Common.{◌≡◌, refl, sym, ap, ◌∙◌, ℕ, zero, suc, ◌+◌, ◌≤◌, Bool, true, false, ◌||◌, Option, None, Some, List, [], ◌∷◌, ◌++◌, map, cond, nat_eq, nat_lt, slice_get, take, if◌then◌else◌, arith, length}
use Rattle.std.proofs.lemmas.Bool.Decides.{nat_tests}
use Rattle.ir_types.specs.declared.id.Id.{Id}
use Rattle.ir_types.specs.declared.ty.Ty.{Ty}
use Rattle.ir_types.specs.declared.opd.Opd.{Opd}
use Rattle.ir_types.specs.declared.opd.Opd.TheVariants.{Val, Lit, Sym}
use Rattle.ir_types.specs.declared.inst.Inst.{Inst}
use Rattle.ir_types.specs.declared.func.Param.{Param}
use Rattle.ir_types.specs.declared.func.Block.{Block}
use Rattle.ir_types.specs.declared.func.Func.{Func}
use Rattle.ir_types.specs.Walks.{EndsFrom}
use Rattle.ir_types.specs.Available.{same_id, block_targets, graph_of, defines, insts_of, insts_at, stands_from}
use Rattle.ir_types.specs.Formed.{given_ty, ty_in_insts, ty_in_blocks, ty_in_params, or_else, value_ty, opd_ty, block_ids}
use Rattle.ir_types.proofs.Formed.{Every, IsThere}
use Rattle.vx_view.specs.Answers.{find}
use Rattle.sb_uses.specs.Totals.{id_times}
use Rattle.vx_serial.proofs.Decided.{true_false}
use Rattle.rf_rewrite.proofs.Contexts.{Context, block_with, plug, times, inst_ids, param_ids, ids_append, times_ids, around}
use Rattle.rf_rewrite.proofs.Parts.{defines_none}
use Rattle.rf_rewrite.proofs.Window.{find_times}
use Rattle.rf_rewrite.proofs.Gone.{find_some}
use Rattle.rf_rewrite.proofs.Blocks.{get_split, func_in}
use Rattle.rf_rewrite.proofs.Facts.{map_append}

-- ---- lists with another member at one place

pub get_other : {A : Type 0} (xs ys : List A) (x y z : A) (n : ℕ) → (n ≡ length xs → ⊥) → slice_get (xs ++ x ∷ ys) n ≡ Some z → slice_get (xs ++ y ∷ ys) n ≡ Some z
get_other [] ys x y z zero apart e = absurd (apart refl)
get_other [] ys x y z (suc n) apart e = e
get_other (w ∷ xs) ys x y z zero apart e = e
get_other (w ∷ xs) ys x y z (suc n) apart e = get_other xs ys x y z n (λ same. apart (ap suc same)) e

pub same_other : {A : Type 0} (xs ys : List A) (x y : A) (n : ℕ) → (n ≡ length xs → ⊥) → slice_get (xs ++ x ∷ ys) n ≡ slice_get (xs ++ y ∷ ys) n
same_other [] ys x y zero apart = absurd (apart refl)
same_other [] ys x y (suc n) apart = refl
same_other (w ∷ xs) ys x y zero apart = refl
same_other (w ∷ xs) ys x y (suc n) apart = same_other xs ys x y n (λ same. apart (ap suc same))

pub same_length : {A : Type 0} (xs ys : List A) (x y : A) → length (xs ++ x ∷ ys) ≡ length (xs ++ y ∷ ys)
same_length [] ys x y = refl
same_length (w ∷ xs) ys x y = ap suc (same_length xs ys x y)

pub take_all : {A : Type 0} (xs : List A) → take (length xs) xs ≡ xs
take_all [] = refl
take_all (x ∷ xs) = ap (λ u. x ∷ u) (take_all xs)

-- ---- definitions and how often an id stands

pub times_defines : (v : Id) (l : List Inst) → 1 ≤ times v l → defines v l ≡ true
times_defines v [] some = absurd (omega (arith, some))
times_defines v (i ∷ l) some = by_test (same_id i.id v) some (times_defines v l)
  where
    by_test : (b : Bool) → 1 ≤ cond b 1 0 + times v l → (1 ≤ times v l → defines v l ≡ true) → (b || defines v l) ≡ true
    by_test true s more = refl
    by_test false s more = more (omega (arith, s))

pub defines_times : (v : Id) (l : List Inst) → defines v l ≡ true → 1 ≤ times v l
defines_times v l h = by_number (times v l) refl
  where
    by_number : (n : ℕ) → times v l ≡ n → 1 ≤ times v l
    by_number zero e = absurd (true_false (sym h ∙ defines_none v l e))
    by_number (suc n) e = omega (arith, e)

-- ---- types of values

given : Inst → Ty
given i = given_ty i.op i.ty

abbrev pub given_of : Option Inst → Option Ty
given_of None = None
given_of (Some i) = Some (given_ty i.op i.ty)

insts_ty : (y : Id) (l : List Inst) → ty_in_insts y l ≡ given_of (find y l)
insts_ty y [] = refl
insts_ty y (i ∷ l) = by_test (same_id i.id y) (insts_ty y l)
  where
    by_test : (b : Bool) → ty_in_insts y l ≡ given_of (find y l) → (if b then Some (given_ty i.op i.ty) else ty_in_insts y l) ≡ given_of (cond b (Some i) (find y l))
    by_test true e = refl
    by_test false e = e

no_params : (y : Id) (ps : List Param) → id_times y (param_ids ps) ≡ 0 → ty_in_params y ps ≡ None
no_params y [] e = refl
no_params y (p ∷ ps) e = by_test (same_id p.id y) e (no_params y ps)
  where
    by_test : (b : Bool) → cond b (1 + id_times y (param_ids ps)) (id_times y (param_ids ps)) ≡ 0 → (id_times y (param_ids ps) ≡ 0 → ty_in_params y ps ≡ None) → (if b then Some p.ty else ty_in_params y ps) ≡ None
    by_test true r more = absurd (omega (arith, r))
    by_test false r more = more r

none_in : (y : Id) (l : List Inst) → times y l ≡ 0 → ty_in_insts y l ≡ None
none_in y l e = insts_ty y l ∙ by_find (find y l) refl
  where
    by_find : (o : Option Inst) → find y l ≡ o → given_of o ≡ None
    by_find None f = refl
    by_find (Some i) f = let some = find_times y l i f in absurd (omega (arith, some, e))

no_blocks : (y : Id) (bs : List Block) → id_times y (block_ids bs) ≡ 0 → ty_in_blocks y bs ≡ None
no_blocks y [] e = refl
no_blocks y (b ∷ bs) e =
    let sum = ids_append y (inst_ids b.insts) (block_ids bs) in
    let own = times_ids y b.insts in
    ap (λ o. or_else o (ty_in_blocks y bs)) (none_in y b.insts (omega (arith, sum, own, e))) ∙ no_blocks y bs (omega (arith, sum, e))

blocks_at : (y : Id) (bs cs : List Block) (b : Block) → id_times y (block_ids bs) ≡ 0 → ty_in_blocks y (bs ++ b ∷ cs) ≡ or_else (ty_in_insts y b.insts) (ty_in_blocks y cs)
blocks_at y [] cs b e = refl
blocks_at y (d ∷ bs) cs b e =
    let sum = ids_append y (inst_ids d.insts) (block_ids bs) in
    let own = times_ids y d.insts in
    ap (λ o. or_else o (ty_in_blocks y (bs ++ b ∷ cs))) (none_in y d.insts (omega (arith, sum, own, e))) ∙ blocks_at y bs cs b (omega (arith, sum, e))

blocks_same : (y : Id) (bs cs : List Block) (a b : Block) → ty_in_insts y a.insts ≡ ty_in_insts y b.insts → ty_in_blocks y (bs ++ a ∷ cs) ≡ ty_in_blocks y (bs ++ b ∷ cs)
blocks_same y [] cs a b e = ap (λ o. or_else o (ty_in_blocks y cs)) e
blocks_same y (d ∷ bs) cs a b e = ap (or_else (ty_in_insts y d.insts)) (blocks_same y bs cs a b e)

-- the type of what stands in the block and nowhere else
pub own_ty : (c : Context) (l : List Inst) (y : Id) (i : Inst) → around c y ≡ 0 → find y l ≡ Some i → value_ty (func_in c l) y ≡ Some (given_ty i.op i.ty)
own_ty c l y i none e =
    ap (λ o. or_else o (ty_in_blocks y (c.blocks_before ++ block_with c l ∷ c.blocks_after))) (no_params y c.func.params (omega (arith, none)))
    ∙ blocks_at y c.blocks_before c.blocks_after (block_with c l) (omega (arith, none))
    ∙ ap (λ o. or_else o (ty_in_blocks y c.blocks_after)) (insts_ty y l ∙ ap given_of e)

-- what stands nowhere has no type
no_ty : (c : Context) (l : List Inst) (y : Id) → around c y ≡ 0 → times y l ≡ 0 → value_ty (func_in c l) y ≡ None
no_ty c l y none e =
    ap (λ o. or_else o (ty_in_blocks y (c.blocks_before ++ block_with c l ∷ c.blocks_after))) (no_params y c.func.params (omega (arith, none)))
    ∙ blocks_at y c.blocks_before c.blocks_after (block_with c l) (omega (arith, none))
    ∙ ap (λ o. or_else o (ty_in_blocks y c.blocks_after)) (none_in y l e)
    ∙ no_blocks y c.blocks_after (omega (arith, none))

-- where both rows lack a value, its type is the same
outer_ty : (c : Context) (l k : List Inst) (y : Id) → times y l ≡ 0 → times y k ≡ 0 → value_ty (func_in c k) y ≡ value_ty (func_in c l) y
outer_ty c l k y e f = ap (or_else (ty_in_params y c.func.params)) (blocks_same y c.blocks_before c.blocks_after (block_with c k) (block_with c l) (none_in y k f ∙ sym (none_in y l e)))

module _ (c : Context) (l k : List Inst) (few_old : (y : Id) → around c y + times y l ≤ 1) (few : (y : Id) → around c y + times y k ≤ 1)
    (types : (y : Id) (i j : Inst) → find y l ≡ Some i → find y k ≡ Some j → given_ty j.op j.ty ≡ given_ty i.op i.ty) where
  -- a value that was there and is not lost has the type that it had
  pub kept_ty : (y : Id) (t : Ty) → (1 ≤ times y l → 1 ≤ times y k) → value_ty (func_in c l) y ≡ Some t → value_ty (func_in c k) y ≡ Some t
  kept_ty y t stays e = by_old (times y l) refl (times y k) refl
    where
      true_some : (o : Option Ty) → o ≡ None → o ≡ Some t → ⊥
      true_some None a b = cc
      true_some (Some u) a b = cc

      by_old : (n : ℕ) → times y l ≡ n → (j : ℕ) → times y k ≡ j → value_ty (func_in c k) y ≡ Some t
      by_old zero z zero w = outer_ty c l k y z w ∙ e
      by_old zero z (suc j) w = let le = few y in absurd (true_some (value_ty (func_in c l) y) (no_ty c l y (omega (arith, le, w)) z) e)
      by_old (suc n) z j w =
          let old = find_some y l (omega (arith, z)) in
          let there = stays (omega (arith, z)) in
          let new = find_some y k there in
          let le = few y in
          let le_old = few_old y in
          own_ty c k y new.0 (omega (arith, le, there)) new.1
          ∙ ap Some (types y old.0 new.0 old.1 new.1)
          ∙ sym (own_ty c l y old.0 (omega (arith, le_old, z)) old.1)
          ∙ e

  -- the values among some operands are not lost
  abbrev pub Stay : List Opd → Type 0
  Stay os = (slot : ℕ) (y : Id) → slice_get os slot ≡ Some (Val y) → 1 ≤ times y l → 1 ≤ times y k

  pub tys_kept : (os : List Opd) → Stay os → Every IsThere (map (opd_ty (plug c l) (func_in c l)) os) → map (opd_ty (plug c k) (func_in c k)) os ≡ map (opd_ty (plug c l) (func_in c l)) os
  tys_kept [] stay h = refl
  tys_kept (Lit a ∷ os) stay h = ap (λ ts. Some a.ty ∷ ts) (tys_kept os (λ slot y e. stay (suc slot) y e) h.1)
  tys_kept (Sym g ∷ os) stay h =
      ap (λ ts. (if nat_lt g (length c.globals) then Some Rattle.ir_types.specs.declared.ty.Ty.TheVariants.Ptr else None) ∷ ts) (tys_kept os (λ slot y e. stay (suc slot) y e) h.1)
  tys_kept (Val v ∷ os) stay h =
      ap (λ t. t ∷ map (opd_ty (plug c k) (func_in c k)) os) (by_ty (value_ty (func_in c l) v) refl h.0)
      ∙ ap (λ ts. value_ty (func_in c l) v ∷ ts) (tys_kept os (λ slot y e. stay (suc slot) y e) h.1)
    where
      by_ty : (o : Option Ty) → value_ty (func_in c l) v ≡ o → IsThere o → value_ty (func_in c k) v ≡ value_ty (func_in c l) v
      by_ty None e there = elim there [ ]
      by_ty (Some t) e there = kept_ty v t (stay 0 v refl) e ∙ sym e

-- ---- the graph, and where definitions stand

module _ (c : Context) (l k : List Inst) (same : block_targets (block_with c k) ≡ block_targets (block_with c l)) where
  pub graph_same : graph_of (func_in c k) ≡ graph_of (func_in c l)
  graph_same =
      map_append block_targets c.blocks_before (block_with c k ∷ c.blocks_after)
      ∙ ap (λ t. map block_targets c.blocks_before ++ t ∷ map block_targets c.blocks_after) same
      ∙ sym (map_append block_targets c.blocks_before (block_with c l ∷ c.blocks_after))

abbrev pub own_number : Context → ℕ
own_number c = length c.blocks_before

module _ (c : Context) (l k : List Inst) where
  pub insts_own : insts_at (func_in c l) (own_number c) ≡ l
  insts_own = ap insts_of (get_split c.blocks_before c.blocks_after (block_with c l))

  pub insts_other : (n : ℕ) → (n ≡ own_number c → ⊥) → insts_at (func_in c l) n ≡ insts_at (func_in c k) n
  insts_other n apart = ap insts_of (same_other c.blocks_before c.blocks_after (block_with c l) (block_with c k) n apart)

-- a definition that is not lost stands in the other function where it stood
pub stands_kept : (c : Context) (l k : List Inst) (y : Id) → (1 ≤ times y l → 1 ≤ times y k) → (p q : ℕ) (a : ℕ) (rest : List ℕ) (end : ℕ) → EndsFrom a rest end →
    (defines y (take p (insts_at (func_in c l) end)) ≡ true → defines y (take q (insts_at (func_in c k) end)) ≡ true) →
    stands_from (func_in c l) y p a rest ≡ true → stands_from (func_in c k) y q a rest ≡ true
stands_kept c l k y stays p q a [] end e last h = ap (λ n. defines y (take q (insts_at (func_in c k) n))) e ∙ last (sym (ap (λ n. defines y (take p (insts_at (func_in c l) n))) e) ∙ h)
stands_kept c l k y stays p q a (b ∷ rest) end e last h =
    by_test (defines y (insts_at (func_in c l) a)) refl h (stands_kept c l k y stays p q b rest end e last)
  where
    there : defines y (insts_at (func_in c l) a) ≡ true → defines y (insts_at (func_in c k) a) ≡ true
    there d = by_number (nat_eq a (own_number c)) refl
      where
        by_number : (t : Bool) → nat_eq a (own_number c) ≡ t → defines y (insts_at (func_in c k) a) ≡ true
        by_number true n =
            let at : a ≡ own_number c = grind (arith, nat_tests) in
            let was : defines y l ≡ true = sym (ap (λ m. defines y (insts_at (func_in c l) m)) at ∙ ap (defines y) (insts_own c l k)) ∙ d in
            ap (λ m. defines y (insts_at (func_in c k) m)) at ∙ ap (defines y) (insts_own c k l) ∙ times_defines y k (stays (defines_times y l was))
        by_number false n = ap (defines y) (insts_other c k l a apart) ∙ d
          where
            apart : a ≡ own_number c → ⊥
            apart eq = absurd (grind (arith, nat_tests))

    later : (t : Bool) → stands_from (func_in c k) y q b rest ≡ true → (t || stands_from (func_in c k) y q b rest) ≡ true
    later true r = refl
    later false r = r

    by_test : (t : Bool) → defines y (insts_at (func_in c l) a) ≡ t → (t || stands_from (func_in c l) y p b rest) ≡ true → (stands_from (func_in c l) y p b rest ≡ true → stands_from (func_in c k) y q b rest ≡ true) →
        (defines y (insts_at (func_in c k) a) || stands_from (func_in c k) y q b rest) ≡ true
    by_test true t r more = ap (λ s. s || stands_from (func_in c k) y q b rest) (there t)
    by_test false t r more = later (defines y (insts_at (func_in c k) a)) (more r)

-- a definition that stands before a place of the last block stands there on a walk
pub stands_last : (f : Func) (y : Id) (q : ℕ) (a : ℕ) (rest : List ℕ) (end : ℕ) → EndsFrom a rest end → defines y (take q (insts_at f end)) ≡ true → stands_from f y q a rest ≡ true
stands_last f y q a [] end e h = ap (λ n. defines y (take q (insts_at f n))) e ∙ h
stands_last f y q a (b ∷ rest) end e h = later (defines y (insts_at f a)) (stands_last f y q b rest end e h)
  where
    later : (t : Bool) → stands_from f y q b rest ≡ true → (t || stands_from f y q b rest) ≡ true
    later true r = refl
    later false r = r
