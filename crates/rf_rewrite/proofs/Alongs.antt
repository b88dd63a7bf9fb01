-- What is written of a window takes each instruction that was there once at most, whatever ids stand elsewhere.
use Rattle.std.proofs.Common.{◌≡◌, refl, sym, ap, ◌∙◌, ℕ, suc, ◌+◌, ◌≤◌, inl, inr, Bool, true, false, Option, None, Some, List, [], ◌∷◌, ◌++◌, cond, nat_eq, slice_get, arith, length}
use Rattle.std.proofs.lemmas.Bool.Decides.{nat_tests}
use Rattle.ir_types.specs.declared.id.Id.{Id}
use Rattle.ir_types.specs.declared.ty.Ty.{Ty}
use Rattle.ir_types.specs.declared.opd.Opd.{Opd}
use Rattle.ir_types.specs.declared.opd.Opd.TheVariants.{Val, Lit, Sym}
use Rattle.ir_types.specs.declared.op.Op.{Op}
use Rattle.ir_types.specs.declared.op.Op.TheVariants as op
use Rattle.ir_types.specs.declared.inst.Inst.{Inst}
use Rattle.ir_types.specs.declared.module.Module.{Module}
use Rattle.ir_types.specs.Available.{same_id}
use Rattle.ir_types.proofs.Formed.{Every}
use Rattle.ir_types.proofs.Among.{same_is, same_itself}
use Rattle.vx_view.specs.Answers.{find}
use Rattle.vx_view.specs.Changes.{each, removing}
use Rattle.vx_serial.specs.declared.node.How.{How}
use Rattle.vx_serial.specs.declared.node.How.TheVariants.{Widen, Reuse, Ident, Pack}
use Rattle.vx_serial.specs.declared.node.Node.{Node}
use Rattle.vx_serial.specs.Window.{joined}
use Rattle.vx_serial.specs.Rewriting.{Made, Gathering, created, made, gathered, row_of, first_ty, literal_of, index_of, slot_by, slot_of, slots_in, common_op, pointer_of, extracts, widened, bundle_of, group_by, group_in, written, is_created, is_id_in}
use Rattle.vx_serial.proofs.Decided.{true_false}
use Rattle.rf_rewrite.proofs.Contexts.{Context, one_of, times, times_append}
use Rattle.rf_rewrite.proofs.Window.{next_rest, AlongOf, Along}
use Rattle.rf_rewrite.proofs.Taking.{find_removed}
use Rattle.rf_rewrite.proofs.Making.{Kind}

-- ---- how often an id that was there is written

module _ (region : ℕ) (y : Id) (old : nat_eq y.region (suc region) ≡ false) where
  abbrev count : Bool → ℕ
  count b = cond b 1 0

  never : (k : ℕ) → one_of (created region k) y ≡ 0
  never k = by_test (same_id (created region k) y) refl
    where
      nat_same : (n : ℕ) → nat_eq n n ≡ true
      nat_same n = grind (arith, nat_tests)

      by_test : (b : Bool) → same_id (created region k) y ≡ b → count b ≡ 0
      by_test true t = absurd (true_false (sym (nat_same (suc region)) ∙ (ap (λ (v : Id). nat_eq v.region (suc region)) (same_is (created region k) y t) ∙ old)))
      by_test false t = refl

  made_times : (ty : Ty) (o : Op) (opds : List Opd) (s : Made) → times y (made region ty o opds s).insts ≡ times y s.insts
  made_times ty o opds s =
      let sum = times_append y s.insts (record { id = created region s.next; name = None; ty = ty; op = o; opds = opds } ∷ []) in
      let none = never s.next in
      omega (arith, sum, none)

  gathered_times : (t : Ty) (at : ℕ) (os : List Opd) (g : Gathering) → times y (gathered region t at os g).made_so_far.insts ≡ times y g.made_so_far.insts
  gathered_times t at [] g = refl
  gathered_times t at (Lit l ∷ os) g = gathered_times t (suc at) os g
  gathered_times t at (Sym n ∷ os) g =
      gathered_times t (suc at) os (record { vector = Val (created region g.made_so_far.next); made_so_far = made region t op.Insert (g.vector ∷ Sym n ∷ index_of at ∷ []) g.made_so_far })
      ∙ made_times t op.Insert (g.vector ∷ Sym n ∷ index_of at ∷ []) g.made_so_far
  gathered_times t at (Val v ∷ os) g =
      gathered_times t (suc at) os (record { vector = Val (created region g.made_so_far.next); made_so_far = made region t op.Insert (g.vector ∷ Val v ∷ index_of at ∷ []) g.made_so_far })
      ∙ made_times t op.Insert (g.vector ∷ Val v ∷ index_of at ∷ []) g.made_so_far

  slot_times : (m : Module) (number : ℕ) (os : List Opd) (how : How) (s : Made) → times y (slot_by m region number os how s).made_so_far.insts ≡ times y s.insts
  slot_times m number os Widen s = refl
  slot_times m number os (Reuse n) s = refl
  slot_times m number os (Ident v) s = refl
  slot_times m number os (Pack c) s =
      gathered_times (row_of (length os) (first_ty m os)) 0 os (record { vector = literal_of (row_of (length os) (first_ty m os)) os; made_so_far = s })

  slot_of_times : (m : Module) (number : ℕ) (o : Option Node) (s : Made) → times y (slot_of m region number o s).made_so_far.insts ≡ times y s.insts
  slot_of_times m number None s = refl
  slot_of_times m number (Some n) s = slot_times m number n.lanes n.how s

  slots_times : (m : Module) (tree : List Node) (ns : List ℕ) (s : Made) → times y (slots_in m region tree ns s).1.insts ≡ times y s.insts
  slots_times m tree [] s = refl
  slots_times m tree (n ∷ ns) s = slots_times m tree ns (slot_of m region n (slice_get tree n) s).made_so_far ∙ slot_of_times m n (slice_get tree n) s

  extracts_times : (wanted : Id → Bool) (v : Id) (at : ℕ) (is : List Inst) → times y (extracts wanted v at is) ≤ times y is
  extracts_times wanted v at [] = omega (arith)
  extracts_times wanted v at (i ∷ is) = by_test (wanted i.id) (extracts_times wanted v (suc at) is)
    where
      by_test : (b : Bool) → times y (extracts wanted v (suc at) is) ≤ times y is →
          times y (cond b (record { id = i.id; name = i.name; ty = i.ty; op = op.Extract; opds = Val v ∷ index_of at ∷ [] } ∷ extracts wanted v (suc at) is) (extracts wanted v (suc at) is)) ≤ one_of i.id y + times y is
      by_test true le = omega (arith, le)
      by_test false le = omega (arith, le)

  widened_times : (m : Module) (wanted : Id → Bool) (tree : List Node) (number : ℕ) (slots : List ℕ) (is : List Inst) (s : Made) →
      times y (widened m wanted region tree number slots is s).insts ≤ times y s.insts + times y is
  widened_times m wanted tree number slots [] s = omega (arith)
  widened_times m wanted tree number slots (i ∷ is) s =
      let r : List Opd × Made = slots_in m region tree slots s in
      let same = slots_times m tree slots s in
      let vector = made_times (row_of (suc (length is)) (Some i.ty)) (common_op i.op is) ((slots_in m region tree slots s).0 ++ pointer_of i.op i.opds) (slots_in m region tree slots s).1 in
      let few = extracts_times wanted (created region (slots_in m region tree slots s).1.next) 0 (i ∷ is) in
      let sum = times_append y (made region (row_of (suc (length is)) (Some i.ty)) (common_op i.op is) ((slots_in m region tree slots s).0 ++ pointer_of i.op i.opds) (slots_in m region tree slots s).1).insts
      (extracts wanted (created region (slots_in m region tree slots s).1.next) 0 (i ∷ is)) in
      omega (arith, same, vector, few, sum)

  group_times : (m : Module) (wanted : Id → Bool) (tree : List Node) (g : List Inst) (s : Made) → times y (group_in m wanted region tree g s).insts ≤ times y s.insts + times y g
  group_times m wanted tree [] s = omega (arith)
  group_times m wanted tree (i ∷ is) s = by_bundle (bundle_of i.id 0 tree)
    where
      by_bundle : (o : Option (ℕ × List ℕ)) → times y (group_by m wanted region tree (i ∷ is) o s).insts ≤ times y s.insts + times y (i ∷ is)
      by_bundle None = let sum = times_append y s.insts (i ∷ is) in omega (arith, sum)
      by_bundle (Some b) = widened_times m wanted tree b.0 b.1 (i ∷ is) s

  pub written_times : (m : Module) (wanted : Id → Bool) (tree : List Node) (groups : List (List Inst)) (s : Made) →
      times y (written m wanted region tree groups s).insts ≤ times y s.insts + times y (joined groups)
  written_times m wanted tree [] s = omega (arith)
  written_times m wanted tree (g ∷ gs) s =
      let here = group_times m wanted tree g s in
      let rest = written_times m wanted tree gs (group_in m wanted region tree g s) in
      let sum = times_append y g (joined gs) in
      omega (arith, here, rest, sum)

-- ---- along the window

module _ (globals region : ℕ) (lanes : List Id) (window : List Inst) (base : Id → ℕ) (c : Context) (fs : List Inst) (x : Inst) (zs : List Inst) (plain : Rattle.ir_types.specs.Formed.is_phi x.op ≡ false)
    (all : length c.globals ≡ globals) (lane_stands : (y : Id) → is_id_in lanes y ≡ true → (i : Inst) × (find y window ≡ Some i)) where
  pub along_kinds : (is rest : List Inst) → Every (Kind globals region lanes window base) is → ((y : Id) → nat_eq y.region (suc region) ≡ false → times y is ≤ 1) →
      ((y : Id) → nat_eq y.region (suc region) ≡ false → 1 ≤ times y is → find y rest ≡ find y window) → Along globals region lanes c fs x zs plain all rest is
  along_kinds [] rest k few same = tt
  along_kinds (i ∷ is) rest k few same = by_created (is_created region i) refl (along_kinds is)
    where
      own : one_of i.id i.id ≡ 1
      own = ap (λ b. cond b 1 0) (same_itself i.id)

      fewer : (y : Id) → nat_eq y.region (suc region) ≡ false → times y is ≤ 1
      fewer y o = let le = few y o in omega (arith, le)

      by_created : (b : Bool) → is_created region i ≡ b →
          ((r : List Inst) → Every (Kind globals region lanes window base) is → ((y : Id) → nat_eq y.region (suc region) ≡ false → times y is ≤ 1) →
          ((y : Id) → nat_eq y.region (suc region) ≡ false → 1 ≤ times y is → find y r ≡ find y window) → Along globals region lanes c fs x zs plain all r is) →
          AlongOf globals region lanes c fs x zs plain all b (is_id_in lanes i.id) rest i × Along globals region lanes c fs x zs plain all (next_rest globals region lanes b i rest) is
      by_created true e more = (tt, more rest k.1 fewer (λ y o some. same y o (omega (arith, some))))
      by_created false e more = (
        by_kind k.0 (is_id_in lanes i.id) refl,
        more (each (removing i.id) rest) k.1 fewer (λ y o some. find_removed globals region lanes window i.id y rest (apart y o some) ∙ same y o (omega (arith, some))),
      )
        where
          apart : (y : Id) → nat_eq y.region (suc region) ≡ false → 1 ≤ times y is → same_id i.id y ≡ false
          apart y o some = by_test (same_id i.id y) refl
            where
              by_test : (b : Bool) → same_id i.id y ≡ b → b ≡ false
              by_test true t =
                  let le = few y o in
                  let one : one_of i.id y ≡ 1 = ap (λ b. cond b 1 0) t in
                  absurd (omega (arith, le, one, some))
              by_test false t = refl

          here : find i.id rest ≡ find i.id window
          here = same i.id e (omega (arith, own))

          by_kind : Kind globals region lanes window base i → (lane : Bool) → is_id_in lanes i.id ≡ lane → AlongOf globals region lanes c fs x zs plain all false lane rest i
          by_kind (inl cr) lane l = absurd (true_false (sym cr ∙ e))
          by_kind (inr (inl ex)) true l = let s = lane_stands i.id l in (s.0, here ∙ s.1)
          by_kind (inr (inl ex)) false l = absurd (true_false (sym ex.0 ∙ l))
          by_kind (inr (inr kept)) true l = absurd (true_false (sym l ∙ kept.1))
          by_kind (inr (inr kept)) false l = here ∙ kept.0
