-- The first value of an id among what a function names has the type that the function gives to that id.
use Rattle.std.proofs.Common.{◌≡◌, ℕ, suc, zero, Bool, true, false, ◌||◌, List, [], ◌∷◌, Option, Some, None, refl, sym, ◌∙◌, ap, if◌then◌else◌}
use Rattle.std.specs.List.{slice_get}
use Rattle.ir_lex.proofs.Classes.{clash}
use Rattle.ir_types.specs.declared.id.Id.{Id}
use Rattle.ir_types.specs.declared.ty.Ty.{Ty}
use Rattle.ir_types.specs.declared.ty.Ty.TheVariants.{Void, Int, Ptr, Row}
use Rattle.ir_types.specs.declared.op.Op.{Op}
use Rattle.ir_types.specs.declared.op.Op.TheVariants.{Store}
use Rattle.ir_types.specs.declared.inst.Inst.{Inst}
use Rattle.ir_types.specs.declared.func.Param.{Param}
use Rattle.ir_types.specs.declared.func.Block.{Block}
use Rattle.ir_types.specs.declared.func.Func.{Func}
use Rattle.ir_types.specs.Formed.{given_ty, ty_in_insts, or_else, ty_in_blocks, ty_in_params, value_ty}
use Rattle.ir_print.specs.Names.{Named, Value, Label, result_named, insts_named, blocks_named, params_named, named_of, same_id, is_store, is_void}
use Rattle.rf_text.proofs.Heads.Shown.{second_true, id_same}

abbrev pub first_in : Id → List Named → Option Ty
first_in id [] = None
first_in id (Value v ty name ∷ vs) = if same_id v id then Some ty else first_in id vs
first_in id (Label name ∷ vs) = first_in id vs

-- a type that is no `void` is given by what is named
abbrev pub Leads : Id → Option Ty → List Named → Type 0
Leads id o vs = (t : Ty) → o ≡ Some t → is_void t ≡ false → first_in id vs ≡ Some t

void_is : (ty : Ty) → is_void ty ≡ true → ty ≡ Void
void_is Void h = refl
void_is (Int w) h = cc
void_is Ptr h = cc
void_is (Row n w) h = cc

-- a store gives nothing, whatever its type is
given_store : (op : Op) (ty : Ty) → is_store op ≡ true → given_ty op ty ≡ Void
given_store (Store align) ty h = refl
given_store op ty h = cc

given_void : (op : Op) (ty : Ty) → is_void ty ≡ true → given_ty op ty ≡ Void
given_void (Store align) ty h = refl
given_void op ty h = void_is ty h

given_other : (op : Op) (ty : Ty) → is_store op ≡ false → given_ty op ty ≡ ty
given_other (Store align) ty h = cc
given_other op ty h = refl

no_void : {P : Type 0} (given t : Ty) → given ≡ Void → Some given ≡ Some t → is_void t ≡ false → P
no_void given t v e n = let same : t ≡ Void = cc in clash (is_void t) n (rw same refl)

inst_leads : (id : Id) (i : Inst) (more o : Option Ty) (rest : List Named) (void store same : Bool) → is_void i.ty ≡ void → is_store i.op ≡ store → same_id i.id id ≡ same → Leads id (or_else more o) rest →
    Leads id (or_else (if same then Some (given_ty i.op i.ty) else more) o) (result_named void store i rest)
inst_leads id i more o rest false false true v s same h = λ t e n. rw same (ap Some (sym (given_other i.op i.ty s)) ∙ e)
inst_leads id i more o rest false false false v s same h = λ t e n. rw same (h t e n)
inst_leads id i more o rest false true true v s same h = λ t e n. no_void (given_ty i.op i.ty) t (given_store i.op i.ty s) e n
inst_leads id i more o rest false true false v s same h = h
inst_leads id i more o rest true store true v s same h = λ t e n. no_void (given_ty i.op i.ty) t (given_void i.op i.ty v) e n
inst_leads id i more o rest true store false v s same h = h

insts_lead : (id : Id) (is : List Inst) (o : Option Ty) (vs : List Named) → Leads id o vs → Leads id (or_else (ty_in_insts id is) o) (insts_named is vs)
insts_lead id [] o vs h = h
insts_lead id (i ∷ is) o vs h =
    inst_leads id i (ty_in_insts id is) o (insts_named is vs) (is_void i.ty) (is_store i.op) (same_id i.id id) refl refl refl (insts_lead id is o vs h)

blocks_lead : (id : Id) (bs : List Block) → Leads id (ty_in_blocks id bs) (blocks_named bs)
blocks_lead id [] = λ t e n. e
blocks_lead id (b ∷ bs) = insts_lead id b.insts (ty_in_blocks id bs) (blocks_named bs) (blocks_lead id bs)

param_leads : (id : Id) (p : Param) (more o : Option Ty) (rest : List Named) (same : Bool) → same_id p.id id ≡ same → Leads id (or_else more o) rest →
    Leads id (or_else (if same then Some p.ty else more) o) (Value p.id p.ty p.name ∷ rest)
param_leads id p more o rest true same h = λ t e n. rw same e
param_leads id p more o rest false same h = λ t e n. rw same (h t e n)

params_lead : (id : Id) (ps : List Param) (o : Option Ty) (vs : List Named) → Leads id o vs → Leads id (or_else (ty_in_params id ps) o) (params_named ps vs)
params_lead id [] o vs h = h
params_lead id (p ∷ ps) o vs h = param_leads id p (ty_in_params id ps) o (params_named ps vs) (same_id p.id id) refl (params_lead id ps o vs h)

pub func_leads : (f : Func) (id : Id) → Leads id (value_ty f id) (named_of f)
func_leads f id = params_lead id f.params (ty_in_blocks id f.blocks) (blocks_named f.blocks) (blocks_lead id f.blocks)

-- ---- what an instruction gives is named

abbrev pub gives_id : Id → List Named → Bool
gives_id id [] = false
gives_id id (Value v ty name ∷ vs) = same_id v id || gives_id id vs
gives_id id (Label name ∷ vs) = gives_id id vs

result_after : (id : Id) (void store : Bool) (i : Inst) (vs : List Named) → gives_id id vs ≡ true → gives_id id (result_named void store i vs) ≡ true
result_after id false false i vs h = second_true (same_id i.id id) _ h
result_after id false true i vs h = h
result_after id true store i vs h = h

insts_after : (id : Id) (is : List Inst) (vs : List Named) → gives_id id vs ≡ true → gives_id id (insts_named is vs) ≡ true
insts_after id [] vs h = h
insts_after id (i ∷ is) vs h = result_after id (is_void i.ty) (is_store i.op) i (insts_named is vs) (insts_after id is vs h)

params_after : (id : Id) (ps : List Param) (vs : List Named) → gives_id id vs ≡ true → gives_id id (params_named ps vs) ≡ true
params_after id [] vs h = h
params_after id (p ∷ ps) vs h = second_true (same_id p.id id) _ (params_after id ps vs h)

absent : {A P : Type 0} {x : A} → None ≡ Some x → P
absent e = cc

module _ (i : Inst) (value : is_void i.ty ≡ false) (other : is_store i.op ≡ false) where
  in_insts : (is : List Inst) (k : ℕ) (vs : List Named) → slice_get is k ≡ Some i → gives_id i.id (insts_named is vs) ≡ true
  in_insts [] k vs e = absent e
  in_insts (j ∷ js) zero vs e =
      let same : j ≡ i = cc in
      rw (same, value, other) (rw (id_same i.id) refl)
  in_insts (j ∷ js) (suc k) vs e = result_after i.id (is_void j.ty) (is_store j.op) j (insts_named js vs) (in_insts js k vs e)

  in_blocks : (bs : List Block) (b : Block) (n k : ℕ) → slice_get bs n ≡ Some b → slice_get b.insts k ≡ Some i → gives_id i.id (blocks_named bs) ≡ true
  in_blocks [] b n k at e = absent at
  in_blocks (c ∷ cs) b zero k at e = let same : c ≡ b = cc in rw same (in_insts b.insts k (blocks_named cs) e)
  in_blocks (c ∷ cs) b (suc n) k at e = insts_after i.id c.insts (blocks_named cs) (in_blocks cs b n k at e)

  pub in_func : (f : Func) (b : Block) (n k : ℕ) → slice_get f.blocks n ≡ Some b → slice_get b.insts k ≡ Some i → gives_id i.id (named_of f) ≡ true
  in_func f b n k at e = params_after i.id f.params (blocks_named f.blocks) (in_blocks f.blocks b n k at e)
