-- The ids of a function: its parameters and instructions have one number after the other, so each value has the type at its place.
use Rattle.std.proofs.Common.{◌≡◌, ℕ, zero, suc, ◌+◌, ◌≤◌, Bool, true, false, ◌==◌, List, [], ◌∷◌, ◌++◌, length, map, Option, Some, None, refl, sym, ◌∙◌, ap, subst, arith, append_assoc, length-append}
use Rattle.std.proofs.lemmas.Bool.Decides.{Decides-eqb}
use Rattle.std.proofs.lemmas.List.{append-nil}
use Rattle.std.specs.Prelude.{slice_get, if◌then◌else◌}
use Rattle.ir_types.specs.declared.id.Id.{Id}
use Rattle.ir_types.specs.declared.ty.Ty.{Ty}
use Rattle.ir_types.specs.declared.op.Op.{Op}
use Rattle.ir_types.specs.declared.op.Op.TheVariants as ops
use Rattle.ir_types.specs.declared.inst.Inst.{Inst}
use Rattle.ir_types.specs.declared.func.Param.{Param}
use Rattle.ir_types.specs.declared.func.Block.{Block}
use Rattle.ir_types.specs.Available.{same_id}
use Rattle.ir_types.specs.Formed.{is_terminator, given_ty, ty_in_insts, or_else, ty_in_blocks, ty_in_params, block_ids}
use Rattle.ir_draft.specs.declared.draft.Numbered.{Numbered}
use Rattle.ir_types_check.specs.declared.outline.At.{At}
use Rattle.ir_types_check.specs.declared.locals.Meaning.{Meaning}
use Rattle.ir_types_check.specs.declared.tops.Top.{Top}
use Rattle.ir_types_check.specs.declared.links.Cases.{Cases}
use Rattle.ir_types_check.specs.declared.building.Built.{Built}
use Rattle.ir_types_check.specs.Scope.{Scope}
use Rattle.ir_types_check.specs.Links.{op_of}
use Rattle.ir_types_check.specs.Blocks.{id_of, closed, open_block, with_last, settled, with_inst, labelled, params_from, param_lines}
use Rattle.ir_types_check.proofs.Binding.{nothing}
use Rattle.ir_types_check.proofs.BodyScope.{stmt_tys, param_tys}
use Rattle.ir_types_check.proofs.BodyBlocks.{IsInst, Stays}

-- ---- instructions in order

abbrev pub flat : List Block → List Inst
flat [] = []
flat (b ∷ bs) = b.insts ++ flat bs

abbrev pub all_insts : Built → List Inst
all_insts b = flat b.blocks ++ (open_block b.current).insts

flat_push : (bs : List Block) (b : Block) → flat (bs ++ b ∷ []) ≡ flat bs ++ b.insts
flat_push [] b = append-nil b.insts
flat_push (x ∷ bs) b = ap (λ xs. x.insts ++ xs) (flat_push bs b) ∙ sym (append_assoc x.insts (flat bs) b.insts)

all_with : (k : ℕ) (b : Built) (inst : Inst) → all_insts (with_inst k b inst) ≡ all_insts b ++ inst ∷ []
unfolding with_inst
all_with k b inst = here (is_terminator inst.op) where
  here : (t : Bool) → all_insts (settled t b.blocks (with_last (open_block b.current) inst) (b.lines ++ k ∷ [])) ≡ all_insts b ++ inst ∷ []
  here true =
      append-nil (flat (b.blocks ++ with_last (open_block b.current) inst ∷ [])) ∙ flat_push b.blocks (with_last (open_block b.current) inst)
      ∙ sym (append_assoc (flat b.blocks) (open_block b.current).insts (inst ∷ []))
  here false = sym (append_assoc (flat b.blocks) (open_block b.current).insts (inst ∷ []))

lines_with : (k : ℕ) (b : Built) (inst : Inst) → (with_inst k b inst).lines ≡ b.lines ++ k ∷ []
unfolding with_inst
lines_with k b inst = here (is_terminator inst.op) where
  here : (t : Bool) → (settled t b.blocks (with_last (open_block b.current) inst) (b.lines ++ k ∷ [])).lines ≡ b.lines ++ k ∷ []
  here true = refl
  here false = refl

-- instructions with ids from the number k on, which give these types
abbrev pub AreCounted : ℕ → List Ty → List Inst → Type 0
AreCounted k [] [] = Unit {0}
AreCounted k (t ∷ ts) (i ∷ insts) = (i.id ≡ id_of k) × (given_ty i.op i.ty ≡ t) × AreCounted (k + 1) ts insts
AreCounted k _ _ = ⊥

counted_more : (k : ℕ) (ts : List Ty) (insts : List Inst) (t : Ty) (i : Inst) → AreCounted k ts insts → i.id ≡ id_of (k + length ts) → given_ty i.op i.ty ≡ t → AreCounted k (ts ++ t ∷ []) (insts ++ i ∷ [])
counted_more k [] [] t i h e f = let z : k + length {A = Ty} [] ≡ k = omega arith in (e ∙ ap id_of z, f, tt)
counted_more k [] (x ∷ insts) t i h e f = absurd h
counted_more k (u ∷ ts) [] t i h e f = absurd h
counted_more k (u ∷ ts) (x ∷ insts) t i h e f =
    let z : k + length (u ∷ ts) ≡ k + 1 + length ts = omega arith in
    (h.0, h.1, counted_more (k + 1) ts insts t i h.2 (e ∙ ap id_of z) f)

given_same : (blocks : List ℕ) (cases : Cases) (op : Op) (t : Ty) → given_ty (op_of blocks cases op) t ≡ given_ty op t
given_same blocks cases (ops.Phi places) t = refl
given_same blocks cases (ops.Br to) t = refl
given_same blocks cases (ops.CondBr first second) t = refl
given_same blocks cases (ops.Switch other values to) t = refl
given_same blocks cases _ t = refl

-- the instructions so far give the types of the lines so far
pub record Counting (k : ℕ) (all : List Ty) (at : At) (S : List (List ℕ)) (b : Built) (rest : List Numbered) : Type 0 where
  pub tys : List Ty
  pub counted : AreCounted k tys (all_insts b)
  pub whole : tys ++ stmt_tys rest ≡ all
  pub lines : length b.lines ≡ k + length tys

pub counting : (tops : Scope Top) (locals : Scope Meaning) (ret : Ty) (edges : List (List ℕ)) (base k : ℕ) (all : List Ty) → Stays tops locals ret edges base (Counting k all)
unfolding labelled
counting tops locals ret edges base k all = record {
  on_label = λ at S b n name rest none h.
      let same : closed b.blocks b.current ≡ b.blocks = ap (closed b.blocks) none in
      let old : (open_block b.current).insts ≡ [] = ap (λ c. (open_block c).insts) none in
      let insts : all_insts b ≡ flat (closed b.blocks b.current) ++ [] = ap (λ xs. flat b.blocks ++ xs) old ∙ ap (λ bs. flat bs ++ []) (sym same) in
      record { tys = h.tys; counted = subst (AreCounted k h.tys) insts h.counted; whole = h.whole; lines = h.lines };
  on_case = λ at S b n value label rest h. record { tys = h.tys; counted = h.counted; whole = h.whole; lines = h.lines };
  on_end = λ at S b n rest h. record { tys = h.tys; counted = h.counted; whole = h.whole; lines = h.lines };
  on_stmt = λ at S b n s rest inst step h.
      let p : IsInst tops locals base (length b.lines) n s rest inst = step.parts in
      let id : inst.id ≡ id_of (k + length h.tys) = p.id ∙ ap id_of h.lines in
      let ty : given_ty inst.op inst.ty ≡ given_ty s.op s.ty = ap (λ t. given_ty inst.op t) p.ty ∙ ap (λ o. given_ty o s.ty) p.op ∙ given_same p.links.blocks p.cases s.op s.ty in
      record {
        tys = h.tys ++ given_ty s.op s.ty ∷ [];
        counted = subst (AreCounted k (h.tys ++ given_ty s.op s.ty ∷ [])) (sym (all_with n b inst)) (counted_more k h.tys (all_insts b) (given_ty s.op s.ty) inst h.counted id ty);
        whole = append_assoc h.tys (given_ty s.op s.ty ∷ []) (stmt_tys rest) ∙ h.whole;
        lines = ap length (lines_with n b inst) ∙ omega (arith, h.lines, length-append b.lines (n ∷ []), length-append h.tys (given_ty s.op s.ty ∷ []));
      };
}

-- ---- types of values

else_none : (o : Option Ty) → or_else o None ≡ o
else_none None = refl
else_none (Some t) = refl

in_append : (v : Id) (xs ys : List Inst) → ty_in_insts v (xs ++ ys) ≡ or_else (ty_in_insts v xs) (ty_in_insts v ys)
in_append v [] ys = refl
in_append v (x ∷ xs) ys = here (same_id x.id v) (in_append v xs ys) where
  here : (b : Bool) → ty_in_insts v (xs ++ ys) ≡ or_else (ty_in_insts v xs) (ty_in_insts v ys) →
      (if b then Some (given_ty x.op x.ty) else ty_in_insts v (xs ++ ys)) ≡ or_else (if b then Some (given_ty x.op x.ty) else ty_in_insts v xs) (ty_in_insts v ys)
  here true e = refl
  here false e = e

pub in_flat : (v : Id) (blocks : List Block) → ty_in_blocks v blocks ≡ ty_in_insts v (flat blocks)
in_flat v [] = refl
in_flat v (b ∷ bs) = ap (or_else (ty_in_insts v b.insts)) (in_flat v bs) ∙ sym (in_append v b.insts (flat bs))

same_yes : (k : ℕ) (v : ℕ) → v ≡ k → same_id (id_of k) (id_of v) ≡ true
same_yes k v e = (Decides-eqb k v).1 (sym e)

same_no : (k : ℕ) (v : ℕ) → (k ≡ v → ⊥) → same_id (id_of k) (id_of v) ≡ false
same_no k v e = here (k == v) refl where
  here : (b : Bool) → (k == v) ≡ b → b ≡ false
  here true s = absurd (e ((Decides-eqb k v).0 s))
  here false s = refl

pub in_counted : (k : ℕ) (ts : List Ty) (insts : List Inst) (j v : ℕ) (t : Ty) → AreCounted k ts insts → slice_get ts j ≡ Some t → v ≡ k + j → ty_in_insts (id_of v) insts ≡ Some t
in_counted k [] insts j v t h e f = nothing e
in_counted k (u ∷ ts) [] j v t h e f = absurd h
in_counted k (u ∷ ts) (i ∷ insts) zero v t h e f =
    let yes' : same_id i.id (id_of v) ≡ true = ap (λ x. same_id x (id_of v)) h.0 ∙ same_yes k v (omega (arith, f)) in
    ap (λ b. if b then Some (given_ty i.op i.ty) else ty_in_insts (id_of v) insts) yes' ∙ ap (λ x. Some x) h.1 ∙ e
in_counted k (u ∷ ts) (i ∷ insts) (suc j) v t h e f =
    let no' : same_id i.id (id_of v) ≡ false = ap (λ x. same_id x (id_of v)) h.0 ∙ same_no k v (λ same. omega (arith, same, f)) in
    ap (λ b. if b then Some (given_ty i.op i.ty) else ty_in_insts (id_of v) insts) no' ∙ in_counted (k + 1) ts insts j v t h.2 e (omega (arith, f))

pub in_params : (k : ℕ) (ps : List Param) (j v : ℕ) (t : Ty) → slice_get (param_tys ps) j ≡ Some t → v ≡ k + j → ty_in_params (id_of v) (params_from k ps) ≡ Some t
in_params k [] j v t e f = nothing e
in_params k (p ∷ ps) zero v t e f = ap (λ b. if b then Some p.ty else ty_in_params (id_of v) (params_from (k + 1) ps)) (same_yes k v (omega (arith, f))) ∙ e
in_params k (p ∷ ps) (suc j) v t e f =
    ap (λ b. if b then Some p.ty else ty_in_params (id_of v) (params_from (k + 1) ps)) (same_no k v (λ same. omega (arith, same, f))) ∙ in_params (k + 1) ps j v t e (omega (arith, f))

pub past_params : (k : ℕ) (ps : List Param) (v : ℕ) → k + length ps ≤ v → ty_in_params (id_of v) (params_from k ps) ≡ None
past_params k [] v f = refl
past_params k (p ∷ ps) v f =
    ap (λ b. if b then Some p.ty else ty_in_params (id_of v) (params_from (k + 1) ps)) (same_no k v (λ same. omega (arith, same, f))) ∙ past_params (k + 1) ps v (omega (arith, f))

-- ---- ids in order

abbrev pub ids_from : ℕ → ℕ → List Id
ids_from k zero = []
ids_from k (suc n) = id_of k ∷ ids_from (k + 1) n

pub ids_append : (k m n : ℕ) → ids_from k (m + n) ≡ ids_from k m ++ ids_from (k + m) n
ids_append k zero n =
    let e : 0 + n ≡ n = omega arith in
    let f : k ≡ k + 0 = omega arith in
    ap (ids_from k) e ∙ ap (λ x. ids_from x n) f
ids_append k (suc m) n =
    let e : suc m + n ≡ suc (m + n) = omega arith in
    let f : k + 1 + m ≡ k + suc m = omega arith in
    ap (ids_from k) e ∙ ap (λ xs. id_of k ∷ xs) (ids_append (k + 1) m n ∙ ap (λ x. ids_from (k + 1) m ++ ids_from x n) f)

pub counted_ids : (k : ℕ) (ts : List Ty) (insts : List Inst) → AreCounted k ts insts → map (λ (i : Inst). i.id) insts ≡ ids_from k (length ts)
counted_ids k [] [] h = refl
counted_ids k [] (i ∷ insts) h = absurd h
counted_ids k (t ∷ ts) [] h = absurd h
counted_ids k (t ∷ ts) (i ∷ insts) h = ap (λ x. x ∷ map (λ (i : Inst). i.id) insts) h.0 ∙ ap (λ xs. id_of k ∷ xs) (counted_ids (k + 1) ts insts h.2)

map_append : (xs ys : List Inst) → map (λ (i : Inst). i.id) (xs ++ ys) ≡ map (λ (i : Inst). i.id) xs ++ map (λ (i : Inst). i.id) ys
map_append [] ys = refl
map_append (x ∷ xs) ys = ap (λ zs. x.id ∷ zs) (map_append xs ys)

pub flat_ids : (blocks : List Block) → block_ids blocks ≡ map (λ (i : Inst). i.id) (flat blocks)
flat_ids [] = refl
flat_ids (b ∷ bs) = ap (λ xs. map (λ (i : Inst). i.id) b.insts ++ xs) (flat_ids bs) ∙ sym (map_append b.insts (flat bs))

pub param_ids : (k : ℕ) (ps : List Param) → map (λ (p : Param). p.id) (params_from k ps) ≡ ids_from k (length ps)
param_ids k [] = refl
param_ids k (p ∷ ps) = ap (λ xs. id_of k ∷ xs) (param_ids (k + 1) ps)

pub length_param_lines : (n : ℕ) (lines : List ℕ) (ps : List Param) → length (param_lines n lines ps) ≡ length lines + length ps
length_param_lines n lines [] = omega arith
length_param_lines n lines (p ∷ ps) = let e : length (param_lines n (lines ++ n ∷ []) ps) ≡ length (lines ++ n ∷ []) + length ps = length_param_lines n (lines ++ n ∷ []) ps in omega (arith, e, length-append lines (n ∷ []))
