-- Each instruction of a formed and printable function fits what is shown.
use Rattle.std.proofs.Common.{◌≡◌, ℕ, suc, ◌<◌, ◌≤◌, ◌==◌, Bool, true, false, cond, List, [], ◌∷◌, length, map, Option, Some, None, refl, ◌∙◌, ap, arith, eq-eqb, slice_index_or, option_map}
use Rattle.std.proofs.Math.Decide.{dec_lt}
use Rattle.std.proofs.lemmas.List.{get_or_past, length-map}
use Rattle.std.proofs.lemmas.List.Elements.{All-weaker}
use Rattle.std.proofs.lemmas.List.Sums.{get_or-le-sum_by}
use Rattle.std.specs.List.{All, count_by}
use Rattle.ir_types.specs.declared.ty.Ty.{Ty}
use Rattle.ir_types.specs.declared.opd.Opd.{Opd}
use Rattle.ir_types.specs.declared.opd.Opd.TheVariants.{Val, Lit, Sym}
use Rattle.ir_types.specs.declared.op.Op.{Op}
use Rattle.ir_types.specs.declared.op.Op.TheVariants.{Phi}
use Rattle.ir_types.specs.declared.inst.Inst.{Inst}
use Rattle.ir_types.specs.declared.func.Param.{Param}
use Rattle.ir_types.specs.declared.func.Block.{Block}
use Rattle.ir_types.specs.declared.func.Func.{Func}
use Rattle.ir_types.specs.declared.module.Module.{Module}
use Rattle.ir_types.specs.Walks.{targets_at}
use Rattle.ir_types.specs.Available.{op_targets, block_targets, graph_of}
use Rattle.ir_types.specs.Formed.{opd_ty, IsTarget, IsIncoming, IsFormedInst}
use Rattle.ir_print.specs.declared.names.Local.{Local}
use Rattle.ir_print.specs.Names.{Named, result_named, insts_named, blocks_named, params_named, named_of, counted, labels_from, names_of, is_store, is_void}
use Rattle.rf_text.specs.Shown.{shown_ty, op_blocks, Fits}
use Rattle.rf_text.proofs.PlainItems.{IsPlainInst}
use Rattle.rf_text.proofs.TextLines.Once.{NamedOnce, Found, found, given_shown}
use Rattle.rf_text.proofs.TextLines.Typed.{Solid, typed_solid}
use Rattle.rf_text.proofs.TextLines.Types.{func_leads, gives_id}

-- ---- the blocks of a function are as many as are shown

abbrev Counts : List Named → ℕ → Type 0
Counts vs k = (n : ℕ) → length (labels_from n vs) ≡ k

result_count : (void store : Bool) (i : Inst) (vs : List Named) (k : ℕ) → Counts vs k → Counts (result_named void store i vs) k
result_count false false i vs k h = λ n. h (counted n i.name)
result_count false true i vs k h = h
result_count true store i vs k h = h

insts_count : (is : List Inst) (vs : List Named) (k : ℕ) → Counts vs k → Counts (insts_named is vs) k
insts_count [] vs k h = h
insts_count (i ∷ is) vs k h = result_count (is_void i.ty) (is_store i.op) i (insts_named is vs) k (insts_count is vs k h)

blocks_count : (bs : List Block) → Counts (blocks_named bs) (length bs)
blocks_count [] = λ n. refl
blocks_count (b ∷ bs) = λ n. ap suc (insts_count b.insts (blocks_named bs) (length bs) (blocks_count bs) (counted n b.name))

params_count : (ps : List Param) (vs : List Named) (k : ℕ) → Counts vs k → Counts (params_named ps vs) k
params_count [] vs k h = h
params_count (p ∷ ps) vs k h = λ n. params_count ps vs k h (counted n p.name)

pub labels_count : (f : Func) → length (names_of f).labels ≡ length f.blocks
labels_count f = params_count f.params (blocks_named f.blocks) (length f.blocks) (blocks_count f.blocks) 0

-- ---- the blocks that an instruction names are there

-- what stands in a list is counted
counted_in : (xs : List ℕ) (k d c : ℕ) → k < length xs → slice_index_or xs k d ≡ c → count_by (λ b. b == c) xs ≡ 0 → ⊥
counted_in xs k d c within is none =
    let least : cond (slice_index_or xs k d == c) 1 0 ≤ count_by (λ b. b == c) xs = get_or-le-sum_by (λ b. cond (b == c) 1 0) xs k d within in
    let here : (slice_index_or xs k d == c) ≡ true = eq-eqb (slice_index_or xs k d) c is in
    let one : 1 ≤ count_by (λ b. b == c) xs = rw here at least in
    omega (arith, one, none)

-- what is no block has no edges
no_edges : (f : Func) (c : ℕ) → length f.blocks ≤ c → targets_at (graph_of f) c ≡ []
no_edges f c past = get_or_past (map block_targets f.blocks) c [] (rw (length-map f.blocks block_targets) past)

edge_block : (f : Func) (number c : ℕ) (blocks : List ℕ) (k d : ℕ) → ((c : ℕ) → count_by (λ b. b == c) blocks ≡ count_by (λ b. b == number) (targets_at (graph_of f) c)) →
    k < length blocks → slice_index_or blocks k d ≡ c → c < length f.blocks
edge_block f number c blocks k d same within is =
    elim (dec_lt c (length f.blocks)) [
      | yes h ↦ h
      | no h ↦ absurd (counted_in blocks k d c within is (same c ∙ ap (count_by (λ b. b == number)) (no_edges f c (omega (arith, h)))))
    ]

blocks_in : (f : Func) (number : ℕ) (op : Op) (os : List Opd) → All (IsTarget f) (op_targets op) → IsIncoming f number op os → All (λ b. b < length f.blocks) (op_blocks op)
blocks_in f number (Phi blocks) os targets incoming = λ k d within. edge_block f number (slice_index_or blocks k d) blocks k d incoming.0 within refl
blocks_in f number op os targets incoming = All-weaker (IsTarget f) (λ b. b < length f.blocks) (λ b is. is.1) (op_targets op) targets

-- ---- the types of operands are shown

module _ (m : Module) (f : Func) (once : NamedOnce (named_of f)) where
  pub same_ty : (o : Opd) (t : Ty) → opd_ty m f o ≡ Some t → is_void t ≡ false → shown_ty (names_of f) m.globals o ≡ Some t
  same_ty (Val id) t e n =
      let l : Found id (names_of f).locals None t = found id 0 (named_of f) None t once (func_leads f id t e n) in
      ap (option_map (λ (l : Local). l.ty)) l.1 ∙ ap Some l.2
  same_ty (Lit literal) t e n = e
  same_ty (Sym g) t e n = e

  same_opd : (o : Opd) (u : Option Ty) (us : List (Option Ty)) → opd_ty m f o ≡ u → Solid (u ∷ us) → shown_ty (names_of f) m.globals o ≡ u
  same_opd o None us e h = absurd h
  same_opd o (Some t) us e h = same_ty o t e h.0

  solid_tail : (u : Option Ty) (us : List (Option Ty)) → Solid (u ∷ us) → Solid us
  solid_tail None us h = absurd h
  solid_tail (Some t) us h = h.1

  same_tys : (os : List Opd) → Solid (map (opd_ty m f) os) → map (shown_ty (names_of f) m.globals) os ≡ map (opd_ty m f) os
  same_tys [] h = refl
  same_tys (o ∷ os) h =
      rw (same_opd o (opd_ty m f o) (map (opd_ty m f) os) refl h, same_tys os (solid_tail (opd_ty m f o) (map (opd_ty m f) os) h)) refl

  -- an instruction whose result, if it has one, is named
  pub inst_fits : (number position : ℕ) (i : Inst) → IsFormedInst m f number position i → IsPlainInst i → (is_void i.ty ≡ false → is_store i.op ≡ false → gives_id i.id (named_of f) ≡ true) →
      Fits f.ret (names_of f) m.globals i
  inst_fits number position i formed plain given = record {
    operands = formed.operands;
    pointers = plain.pointers;
    typed = rw (same_tys i.opds (typed_solid f.ret i.op i.ty (map (opd_ty m f) i.opds) plain.other formed.typed)) formed.typed;
    result = λ value other. given_shown i.id 0 (named_of f) None (given value other);
    blocks = rw (labels_count f) (blocks_in f number i.op i.opds formed.targets formed.incoming);
    other = plain.other;
  }
