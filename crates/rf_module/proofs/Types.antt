-- The type of a value of a function, as the rules look it up in the module.
use Rattle.std.proofs.Common.{◌≡◌, refl, ap, ◌∙◌, ℕ, suc, ◌+◌, ◌≤◌, Bool, true, false, Option, None, Some, List, [], ◌∷◌, ◌++◌, cond, nat_lt, if◌then◌else◌, arith, length}
use Rattle.ir_types.specs.declared.id.Id.{Id}
use Rattle.ir_types.specs.declared.ty.Ty.{Ty}
use Rattle.ir_types.specs.declared.ty.Ty.TheVariants.{Ptr}
use Rattle.ir_types.specs.declared.opd.Opd.{Opd}
use Rattle.ir_types.specs.declared.opd.Opd.TheVariants.{Val, Lit, Sym}
use Rattle.ir_types.specs.declared.inst.Inst.{Inst}
use Rattle.ir_types.specs.declared.func.Param.{Param}
use Rattle.ir_types.specs.declared.func.Block.{Block}
use Rattle.ir_types.specs.declared.module.Item.{Item}
use Rattle.ir_types.specs.declared.module.Item.TheVariants.{Kept, Opaque, Func as FuncItem}
use Rattle.ir_types.specs.Available.{same_id}
use Rattle.ir_types.specs.Formed.{given_ty, ty_in_insts, ty_in_blocks, ty_in_params, or_else, value_ty, opd_ty, block_ids, item_ids, ids_of_items}
use Rattle.vx_view.specs.Answers.{funcs_of, param_in, param_of, find, found, Standing, standing, either, standing_in, standing_of}
use Rattle.sb_uses.specs.Totals.{id_times}
use Rattle.vx_serial.specs.Legal as legal
use Rattle.vx_serial.specs.Legal.{ty_of}
use Rattle.rf_rewrite.proofs.Contexts.{Context, func_with, block_with, plug, one_of, times, inst_ids, param_ids, ids_append, times_ids, around, ids_plug, no_standing, no_param_of}
use Rattle.rf_rewrite.proofs.Window.{find_times}
use Rattle.rf_rewrite.proofs.Blocks.{func_in}

some_is : {A : Type 0} {p q : A} → Some p ≡ Some q → p ≡ q
some_is e = cc

-- ---- where the first of a function that has a type is found

record Typed (t : Ty) (o : Option Standing) : Type 0 where
  standing_is : Standing
  is : o ≡ Some standing_is
  gives : given_ty standing_is.inst.op standing_is.inst.ty ≡ t

insts_find : (y : Id) (l : List Inst) (t : Ty) → ty_in_insts y l ≡ Some t → (i : Inst) × (find y l ≡ Some i) × (given_ty i.op i.ty ≡ t)
insts_find y [] t e = absurd cc
insts_find y (i ∷ l) t e = by_test (same_id i.id y) e (insts_find y l t)
  where
    by_test : (b : Bool) → (if b then Some (given_ty i.op i.ty) else ty_in_insts y l) ≡ Some t → (ty_in_insts y l ≡ Some t → (j : Inst) × (find y l ≡ Some j) × (given_ty j.op j.ty ≡ t)) →
        (j : Inst) × (cond b (Some i) (find y l) ≡ Some j) × (given_ty j.op j.ty ≡ t)
    by_test true r more = (i, refl, some_is r)
    by_test false r more = more r

insts_none : (y : Id) (l : List Inst) → ty_in_insts y l ≡ None → find y l ≡ None
insts_none y [] e = refl
insts_none y (i ∷ l) e = by_test (same_id i.id y) e (insts_none y l)
  where
    by_test : (b : Bool) → (if b then Some (given_ty i.op i.ty) else ty_in_insts y l) ≡ None → (ty_in_insts y l ≡ None → find y l ≡ None) → cond b (Some i) (find y l) ≡ None
    by_test true r more = absurd cc
    by_test false r more = more r

blocks_find : (y : Id) (k n : ℕ) (bs : List Block) (t : Ty) → ty_in_blocks y bs ≡ Some t → Typed t (standing_in y k n bs)
blocks_find y k n [] t e = absurd cc
blocks_find y k n (b ∷ bs) t e = by_ty (ty_in_insts y b.insts) refl e (blocks_find y k (suc n) bs t)
  where
    by_ty : (o : Option Ty) → ty_in_insts y b.insts ≡ o → or_else o (ty_in_blocks y bs) ≡ Some t → (ty_in_blocks y bs ≡ Some t → Typed t (standing_in y k (suc n) bs)) →
        Typed t (either (standing k n b.insts (find y b.insts)) (standing_in y k (suc n) bs))
    by_ty None w r more =
        let rest = more r in
        record { standing_is = rest.standing_is; is = ap (λ o. either (standing k n b.insts o) (standing_in y k (suc n) bs)) (insts_none y b.insts w) ∙ rest.is; gives = rest.gives }
    by_ty (Some u) w r more =
        let f = insts_find y b.insts t (w ∙ r) in
        record { standing_is = record { place = record { func = k; block = n }; block = b.insts; inst = f.0 }; is = ap (λ o. either (standing k n b.insts o) (standing_in y k (suc n) bs)) f.1; gives = f.2 }

blocks_there : (y : Id) (bs : List Block) (t : Ty) → ty_in_blocks y bs ≡ Some t → 1 ≤ id_times y (block_ids bs)
blocks_there y [] t e = absurd cc
blocks_there y (b ∷ bs) t e = by_ty (ty_in_insts y b.insts) refl e (blocks_there y bs t)
  where
    sum : id_times y (block_ids (b ∷ bs)) ≡ id_times y (inst_ids b.insts) + id_times y (block_ids bs)
    sum = ids_append y (inst_ids b.insts) (block_ids bs)

    own : id_times y (inst_ids b.insts) ≡ times y b.insts
    own = times_ids y b.insts

    by_ty : (o : Option Ty) → ty_in_insts y b.insts ≡ o → or_else o (ty_in_blocks y bs) ≡ Some t → (ty_in_blocks y bs ≡ Some t → 1 ≤ id_times y (block_ids bs)) → 1 ≤ id_times y (block_ids (b ∷ bs))
    by_ty None w r more = let some = more r in omega (arith, sum, own, some)
    by_ty (Some u) w r more = let f = insts_find y b.insts t (w ∙ r) in let some = find_times y b.insts f.0 f.1 in omega (arith, sum, own, some)

params_find : (y : Id) (ps : List Param) (t : Ty) → ty_in_params y ps ≡ Some t → (p : Param) × (param_in y ps ≡ Some p) × (p.ty ≡ t)
params_find y [] t e = absurd cc
params_find y (p ∷ ps) t e = by_test (same_id p.id y) e (params_find y ps t)
  where
    by_test : (b : Bool) → (if b then Some p.ty else ty_in_params y ps) ≡ Some t → (ty_in_params y ps ≡ Some t → (q : Param) × (param_in y ps ≡ Some q) × (q.ty ≡ t)) →
        (q : Param) × (cond b (Some p) (param_in y ps) ≡ Some q) × (q.ty ≡ t)
    by_test true r more = (p, refl, some_is r)
    by_test false r more = more r

params_there : (y : Id) (ps : List Param) (p : Param) → param_in y ps ≡ Some p → 1 ≤ id_times y (param_ids ps)
params_there y [] p e = absurd cc
params_there y (q ∷ ps) p e = by_test (same_id q.id y) e (params_there y ps p)
  where
    by_test : (b : Bool) → cond b (Some q) (param_in y ps) ≡ Some p → (param_in y ps ≡ Some p → 1 ≤ id_times y (param_ids ps)) → 1 ≤ cond b (1 + id_times y (param_ids ps)) (id_times y (param_ids ps))
    by_test true r more = omega (arith)
    by_test false r more = more r

no_param_in : (y : Id) (ps : List Param) → id_times y (param_ids ps) ≡ 0 → param_in y ps ≡ None
no_param_in y ps e = by_param (param_in y ps) refl
  where
    by_param : (o : Option Param) → param_in y ps ≡ o → o ≡ None
    by_param None f = refl
    by_param (Some p) f = let some = params_there y ps p f in absurd (omega (arith, some, e))

-- ---- in the module

param_skips : (y : Id) (xs ys : List Item) → id_times y (ids_of_items xs) ≡ 0 → param_of y (funcs_of (xs ++ ys)) ≡ param_of y (funcs_of ys)
param_skips y [] ys e = refl
param_skips y (Kept text ∷ xs) ys e = param_skips y xs ys e
param_skips y (Opaque text ∷ xs) ys e = param_skips y xs ys e
param_skips y (FuncItem g ∷ xs) ys e =
    let sum = ids_append y (item_ids (FuncItem g)) (ids_of_items xs) in
    let parts = ids_append y (param_ids g.params) (block_ids g.blocks) in
    ap (λ o. either o (param_of y (funcs_of (xs ++ ys)))) (no_param_in y g.params (omega (arith, sum, parts, e))) ∙ param_skips y xs ys (omega (arith, sum, e))

no_standing_blocks : (y : Id) (k n : ℕ) (bs : List Block) → id_times y (block_ids bs) ≡ 0 → standing_in y k n bs ≡ None
no_standing_blocks y k n [] e = refl
no_standing_blocks y k n (b ∷ bs) e =
    let sum = ids_append y (inst_ids b.insts) (block_ids bs) in
    let own = times_ids y b.insts in
    ap (λ o. either (standing k n b.insts o) (standing_in y k (suc n) bs)) (Rattle.rf_rewrite.proofs.Contexts.no_find y b.insts (omega (arith, sum, own, e))) ∙ no_standing_blocks y k (suc n) bs (omega (arith, sum, e))

-- what stands in a function is found in it, whatever functions stand before that lack it
standing_skips : (y : Id) (k : ℕ) (xs ys : List Item) → id_times y (ids_of_items xs) ≡ 0 → (j : ℕ) × (standing_of y k (funcs_of (xs ++ ys)) ≡ standing_of y j (funcs_of ys))
standing_skips y k [] ys e = (k, refl)
standing_skips y k (Kept text ∷ xs) ys e = standing_skips y k xs ys e
standing_skips y k (Opaque text ∷ xs) ys e = standing_skips y k xs ys e
standing_skips y k (FuncItem g ∷ xs) ys e =
    let sum = ids_append y (item_ids (FuncItem g)) (ids_of_items xs) in
    let parts = ids_append y (param_ids g.params) (block_ids g.blocks) in
    let rest = standing_skips y (suc k) xs ys (omega (arith, sum, e)) in
    (rest.0, ap (λ o. either o (standing_of y (suc k) (funcs_of (xs ++ ys)))) (no_standing_blocks y k 0 g.blocks (omega (arith, sum, parts, e))) ∙ rest.1)

module _ (c : Context) (l : List Inst) (few : (y : Id) → around c y + times y l ≤ 1) where
  blocks : List Block
  blocks = c.blocks_before ++ block_with c l ∷ c.blocks_after

  -- how often a value stands in the module, part by part
  value_is : (y : Id) (t : Ty) → value_ty (func_in c l) y ≡ Some t → ty_of (plug c l) (Val y) ≡ Some t
  value_is y t e = by_param (ty_in_params y c.func.params) refl e
    where
      block_sum : id_times y (block_ids (c.blocks_before ++ block_with c l ∷ c.blocks_after)) ≡ id_times y (block_ids c.blocks_before) + (times y l + id_times y (block_ids c.blocks_after))
      block_sum = sums c.blocks_before
        where
          sums : (bs : List Block) → id_times y (block_ids (bs ++ block_with c l ∷ c.blocks_after)) ≡ id_times y (block_ids bs) + (times y l + id_times y (block_ids c.blocks_after))
          sums [] = let sum = ids_append y (inst_ids l) (block_ids c.blocks_after) in let own = times_ids y l in omega (arith, sum, own)
          sums (b ∷ bs) =
              let rest = sums bs in
              let one = ids_append y (inst_ids b.insts) (block_ids (bs ++ block_with c l ∷ c.blocks_after)) in
              let two = ids_append y (inst_ids b.insts) (block_ids bs) in
              omega (arith, rest, one, two)

      le : around c y + times y l ≤ 1
      le = few y

      by_param : (o : Option Ty) → ty_in_params y c.func.params ≡ o → or_else o (ty_in_blocks y (c.blocks_before ++ block_with c l ∷ c.blocks_after)) ≡ Some t → ty_of (plug c l) (Val y) ≡ Some t
      by_param (Some u) w r =
          let p = params_find y c.func.params t (w ∙ r) in
          let some = params_there y c.func.params p.0 p.1 in
          ap (λ o. legal.value_ty o (found (plug c l) y))
          (param_skips y c.items_before (FuncItem (func_in c l) ∷ c.items_after) (omega (arith, some, le)) ∙ ap (λ o. either o (param_of y (funcs_of c.items_after))) p.1)
          ∙ ap Some p.2
      by_param None w r =
          let some = blocks_there y (c.blocks_before ++ block_with c l ∷ c.blocks_after) t r in
          let skip = standing_skips y 0 c.items_before (FuncItem (func_in c l) ∷ c.items_after) (omega (arith, some, le, block_sum)) in
          let s = blocks_find y skip.0 0 (c.blocks_before ++ block_with c l ∷ c.blocks_after) t r in
          ap (λ o. legal.value_ty o (found (plug c l) y)) (
          param_skips y c.items_before (FuncItem (func_in c l) ∷ c.items_after) (omega (arith, some, le, block_sum))
          ∙ ap (λ o. either o (param_of y (funcs_of c.items_after))) (no_param_in y c.func.params (omega (arith, some, le, block_sum)))
          ∙ no_param_of y c.items_after (omega (arith, some, le, block_sum)))
          ∙ ap (legal.value_ty None) (skip.1 ∙ ap (λ o. either o (standing_of y (suc skip.0) (funcs_of c.items_after))) s.is)
          ∙ ap Some s.gives

  pub ty_is : (o : Opd) (t : Ty) → opd_ty (plug c l) (func_in c l) o ≡ Some t → ty_of (plug c l) o ≡ Some t
  ty_is (Val y) t e = value_is y t e
  ty_is (Lit a) t e = e
  ty_is (Sym g) t e = by_test (nat_lt g (length c.globals)) e
    where
      by_test : (b : Bool) → (if b then Some Ptr else None) ≡ Some t → Some Ptr ≡ Some t
      by_test true r = r
      by_test false r = absurd cc
