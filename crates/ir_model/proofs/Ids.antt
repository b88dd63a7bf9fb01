-- Ids of a formed module stand once: the type that is found for the id of an instruction is the instruction's.
use Rattle.std.proofs.Common.{◌≡◌, refl, sym, ap, ◌∙◌, subst, ℕ, zero, suc, Bool, true, false, ◌||◌, Option, None, Some, List, [], ◌∷◌, ◌++◌, map, cond, slice_get, if◌then◌else◌}
use Rattle.ir_types.specs.declared.id.Id.{Id}
use Rattle.ir_types.specs.declared.ty.Ty.{Ty}
use Rattle.ir_types.specs.declared.op.Op.{Op}
use Rattle.ir_types.specs.declared.op.Op.TheVariants.{Store}
use Rattle.ir_types.specs.declared.inst.Inst.{Inst}
use Rattle.ir_types.specs.declared.func.Param.{Param}
use Rattle.ir_types.specs.declared.func.Block.{Block}
use Rattle.ir_types.specs.declared.func.Func.{Func}
use Rattle.ir_types.specs.declared.module.Item.{Item}
use Rattle.ir_types.specs.declared.module.Item.TheVariants.{Func as FuncItem}
use Rattle.ir_types.specs.Typed.{is_value}
use Rattle.ir_types.specs.Formed.{given_ty, ty_in_insts, or_else, ty_in_blocks, ty_in_params, value_ty, block_ids, item_ids, ids_of_items}
use Rattle.ir_model.specs.Values.{same_id}
use Rattle.ir_model.specs.Run.{typed_params, typed_insts, typed_blocks, types_of}
use Rattle.ir_types.proofs.Among.{Once, among, among_left, among_right, same_is, same_itself, swapped}

true_false : true ≡ false → ⊥
true_false e = cc

or_no_left : (a b : Bool) → (a || b) ≡ false → a ≡ false
or_no_left false b h = refl
or_no_left true b h = absurd cc

or_no_right : (a b : Bool) → (a || b) ≡ false → b ≡ false
or_no_right false b h = h
or_no_right true b h = absurd cc

no_left : (xs ys : List Id) (x : Id) → among (xs ++ ys) x ≡ false → among xs x ≡ false
no_left xs ys x h = by_test (among xs x) refl where
  by_test : (b : Bool) → among xs x ≡ b → b ≡ false
  by_test false e = refl
  by_test true e = absurd (true_false (sym (among_left xs ys x e) ∙ h))

no_right : (xs ys : List Id) (x : Id) → among (xs ++ ys) x ≡ false → among ys x ≡ false
no_right xs ys x h = by_test (among ys x) refl where
  by_test : (b : Bool) → among ys x ≡ b → b ≡ false
  by_test false e = refl
  by_test true e = absurd (true_false (sym (among_right xs ys x e) ∙ h))

pub once_left : (xs ys : List Id) → Once (xs ++ ys) → Once xs
once_left [] ys h = tt
once_left (x ∷ xs) ys h = (no_left xs ys x h.0, once_left xs ys h.1)

pub once_right : (xs ys : List Id) → Once (xs ++ ys) → Once ys
once_right [] ys h = h
once_right (x ∷ xs) ys h = once_right xs ys h.1

-- what is in the second list is not in the first
pub once_apart : (xs ys : List Id) (x : Id) → Once (xs ++ ys) → among ys x ≡ true → among xs x ≡ false
once_apart [] ys x h e = refl
once_apart (z ∷ xs) ys x h e = by_test (same_id z x) refl (once_apart xs ys x h.1 e)
  where
    by_test : (b : Bool) → same_id z x ≡ b → among xs x ≡ false → (b || among xs x) ≡ false
    by_test false same rest = rest
    by_test true same rest = absurd (true_false (sym e ∙ ap (among ys) (sym (same_is z x same)) ∙ no_right xs ys z h.0))

pub func_once : (items : List Item) (k : ℕ) (f : Func) → slice_get items k ≡ Some (FuncItem f) → Once (ids_of_items items) → Once (item_ids (FuncItem f))
func_once [] k f e h = absurd cc
func_once (i ∷ items) zero f e h = subst (λ j. Once (item_ids j)) (some e) (once_left (item_ids i) (ids_of_items items) h) where
  some : Some i ≡ Some (FuncItem f) → i ≡ FuncItem f
  some e = cc
func_once (i ∷ items) (suc k) f e h = func_once items k f e (once_right (item_ids i) (ids_of_items items) h)

-- ---- the type of an instruction's id

pub inst_among : (is : List Inst) (k : ℕ) (i : Inst) → slice_get is k ≡ Some i → among (map (λ (j : Inst). j.id) is) i.id ≡ true
inst_among [] k i e = absurd cc
inst_among (j ∷ is) zero i e = ap (λ b. b || among (map (λ (j : Inst). j.id) is) i.id) (ap (λ (j : Inst). same_id j.id i.id) (some e) ∙ same_itself i.id) where
  some : Some j ≡ Some i → j ≡ i
  some e = cc
inst_among (j ∷ is) (suc k) i e = by_test (same_id j.id i.id) (inst_among is k i e) where
  by_test : (b : Bool) → among (map (λ (j : Inst). j.id) is) i.id ≡ true → (b || among (map (λ (j : Inst). j.id) is) i.id) ≡ true
  by_test true h = refl
  by_test false h = h

inst_type : (is : List Inst) (k : ℕ) (i : Inst) → slice_get is k ≡ Some i → Once (map (λ (j : Inst). j.id) is) → ty_in_insts i.id is ≡ Some (given_ty i.op i.ty)
inst_type [] k i e h = absurd cc
inst_type (j ∷ is) zero i e h =
    ap (λ (j : Inst). ty_in_insts i.id (j ∷ is)) (some e) ∙ ap (λ b. if b then Some (given_ty i.op i.ty) else ty_in_insts i.id is) (same_itself i.id)
  where
    some : Some j ≡ Some i → j ≡ i
    some e = cc
inst_type (j ∷ is) (suc k) i e h = ap (λ b. if b then Some (given_ty j.op j.ty) else ty_in_insts i.id is) other ∙ inst_type is k i e h.1
  where
    by_test : (b : Bool) → same_id j.id i.id ≡ b → b ≡ false
    by_test false same = refl
    by_test true same = absurd (true_false (sym (inst_among is k i e) ∙ ap (among (map (λ (j : Inst). j.id) is)) (sym (same_is j.id i.id same)) ∙ h.0))

    other : same_id j.id i.id ≡ false
    other = by_test (same_id j.id i.id) refl

no_inst_type : (x : Id) (is : List Inst) → among (map (λ (j : Inst). j.id) is) x ≡ false → ty_in_insts x is ≡ None
no_inst_type x [] h = refl
no_inst_type x (i ∷ is) h =
    ap (λ b. if b then Some (given_ty i.op i.ty) else ty_in_insts x is) (or_no_left (same_id i.id x) (among (map (λ (j : Inst). j.id) is) x) h)
    ∙ no_inst_type x is (or_no_right (same_id i.id x) (among (map (λ (j : Inst). j.id) is) x) h)

no_param_type : (x : Id) (ps : List Param) → among (map (λ (p : Param). p.id) ps) x ≡ false → ty_in_params x ps ≡ None
no_param_type x [] h = refl
no_param_type x (p ∷ ps) h =
    ap (λ b. if b then Some p.ty else ty_in_params x ps) (or_no_left (same_id p.id x) (among (map (λ (q : Param). q.id) ps) x) h)
    ∙ no_param_type x ps (or_no_right (same_id p.id x) (among (map (λ (q : Param). q.id) ps) x) h)

block_among : (bs : List Block) (at : ℕ) (b : Block) (k : ℕ) (i : Inst) → slice_get bs at ≡ Some b → slice_get b.insts k ≡ Some i → among (block_ids bs) i.id ≡ true
block_among [] at b k i e h = absurd cc
block_among (c ∷ bs) zero b k i e h =
    among_left (map (λ (j : Inst). j.id) c.insts) (block_ids bs) i.id (inst_among c.insts k i (ap (λ (d : Block). slice_get d.insts k) (some e) ∙ h))
  where
    some : Some c ≡ Some b → c ≡ b
    some e = cc
block_among (c ∷ bs) (suc at) b k i e h = among_right (map (λ (j : Inst). j.id) c.insts) (block_ids bs) i.id (block_among bs at b k i e h)

block_type : (bs : List Block) (at : ℕ) (b : Block) (k : ℕ) (i : Inst) → slice_get bs at ≡ Some b → slice_get b.insts k ≡ Some i → Once (block_ids bs) →
    ty_in_blocks i.id bs ≡ Some (given_ty i.op i.ty)
block_type [] at b k i e h once = absurd cc
block_type (c ∷ bs) zero b k i e h once =
    ap (λ o. or_else o (ty_in_blocks i.id bs)) (inst_type c.insts k i (ap (λ (d : Block). slice_get d.insts k) (some e) ∙ h) (once_left (map (λ (j : Inst). j.id) c.insts) (block_ids bs) once))
  where
    some : Some c ≡ Some b → c ≡ b
    some e = cc
block_type (c ∷ bs) (suc at) b k i e h once =
    ap (λ o. or_else o (ty_in_blocks i.id bs))
    (no_inst_type i.id c.insts (once_apart (map (λ (j : Inst). j.id) c.insts) (block_ids bs) i.id once (block_among bs at b k i e h)))
    ∙ block_type bs at b k i e h (once_right (map (λ (j : Inst). j.id) c.insts) (block_ids bs) once)

pub value_type : (f : Func) (at : ℕ) (b : Block) (k : ℕ) (i : Inst) → slice_get f.blocks at ≡ Some b → slice_get b.insts k ≡ Some i → Once (item_ids (FuncItem f)) →
    value_ty f i.id ≡ Some (given_ty i.op i.ty)
value_type f at b k i e h once =
    ap (λ o. or_else o (ty_in_blocks i.id f.blocks))
    (no_param_type i.id f.params (once_apart (map (λ (p : Param). p.id) f.params) (block_ids f.blocks) i.id once (block_among f.blocks at b k i e h)))
    ∙ block_type f.blocks at b k i e h (once_right (map (λ (p : Param). p.id) f.params) (block_ids f.blocks) once)

-- ---- the types of ids that a run knows

given_same : (op : Op) (ty t : Ty) → given_ty op ty ≡ t → is_value t ≡ true → ty ≡ t
given_same (Store align) ty t e h = absurd (true_false (sym h ∙ ap is_value (sym e)))
given_same op ty t e h = e

agree_insts : (is : List Inst) (rest : Id → Ty) (x : Id) (o : Option Ty) (t : Ty) → is_value t ≡ true → (o ≡ Some t → rest x ≡ t) → or_else (ty_in_insts x is) o ≡ Some t → typed_insts is rest x ≡ t
agree_insts [] rest x o t h more e = more e
agree_insts (i ∷ is) rest x o t h more e =
    by_test (same_id x i.id) (λ r. agree_insts is rest x o t h more r) (sym (ap (λ b. or_else (if b then Some (given_ty i.op i.ty) else ty_in_insts x is) o) (swapped i.id x)) ∙ e)
  where
    some : (u : Ty) → Some u ≡ Some t → u ≡ t
    some u e = cc

    by_test : (b : Bool) → (or_else (ty_in_insts x is) o ≡ Some t → typed_insts is rest x ≡ t) → or_else (if b then Some (given_ty i.op i.ty) else ty_in_insts x is) o ≡ Some t →
        cond b i.ty (typed_insts is rest x) ≡ t
    by_test true rest e = given_same i.op i.ty t (some (given_ty i.op i.ty) e) h
    by_test false rest e = rest e

agree_blocks : (bs : List Block) (x : Id) (t : Ty) → is_value t ≡ true → ty_in_blocks x bs ≡ Some t → typed_blocks bs x ≡ t
agree_blocks [] x t h e = absurd cc
agree_blocks (b ∷ bs) x t h e = agree_insts b.insts (typed_blocks bs) x (ty_in_blocks x bs) t h (λ r. agree_blocks bs x t h r) e

agree_params : (ps : List Param) (rest : Id → Ty) (x : Id) (o : Option Ty) (t : Ty) → (o ≡ Some t → rest x ≡ t) → or_else (ty_in_params x ps) o ≡ Some t → typed_params ps rest x ≡ t
agree_params [] rest x o t more e = more e
agree_params (p ∷ ps) rest x o t more e =
    by_test (same_id x p.id) (λ r. agree_params ps rest x o t more r) (sym (ap (λ b. or_else (if b then Some p.ty else ty_in_params x ps) o) (swapped p.id x)) ∙ e)
  where
    by_test : (b : Bool) → (or_else (ty_in_params x ps) o ≡ Some t → typed_params ps rest x ≡ t) → or_else (if b then Some p.ty else ty_in_params x ps) o ≡ Some t →
        cond b p.ty (typed_params ps rest x) ≡ t
    by_test true rest e = cc
    by_test false rest e = rest e

-- a value's type is the one that the run knows
pub types_agree : (f : Func) (x : Id) (t : Ty) → value_ty f x ≡ Some t → is_value t ≡ true → types_of f x ≡ t
types_agree f x t e h = agree_params f.params (typed_blocks f.blocks) x (ty_in_blocks x f.blocks) t (λ r. agree_blocks f.blocks x t h r) e
