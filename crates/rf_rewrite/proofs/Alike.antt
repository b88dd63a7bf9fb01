-- What is created does not depend on which extracts are wanted.
use Rattle.std.proofs.Common.{◌≡◌, refl, sym, ap, ◌∙◌, ℕ, suc, Bool, true, false, Option, None, Some, List, [], ◌∷◌, ◌++◌, cond, slice_get, length}
use Rattle.ir_types.specs.declared.id.Id.{Id}
use Rattle.ir_types.specs.declared.ty.Ty.{Ty}
use Rattle.ir_types.specs.declared.opd.Opd.{Opd}
use Rattle.ir_types.specs.declared.opd.Opd.TheVariants.{Val, Lit, Sym}
use Rattle.ir_types.specs.declared.op.Op.{Op}
use Rattle.ir_types.specs.declared.op.Op.TheVariants as op
use Rattle.ir_types.specs.declared.inst.Inst.{Inst}
use Rattle.ir_types.specs.declared.module.Module.{Module}
use Rattle.ir_types.proofs.Formed.{Every}
use Rattle.vx_serial.specs.declared.node.How.{How}
use Rattle.vx_serial.specs.declared.node.How.TheVariants.{Widen, Reuse, Ident, Pack}
use Rattle.vx_serial.specs.declared.node.Node.{Node}
use Rattle.vx_serial.specs.Rewriting.{Made, Gathering, created, made, gathered, row_of, first_ty, literal_of, index_of, vector_of, of_vector, slot_by, slot_of, slots_in, common_op, pointer_of, extracts, widened_by, bundle_of, group_by, group_in, written, is_created, only_created}

module _ (region : ℕ) where
  pub only_append : (xs ys : List Inst) → only_created region (xs ++ ys) ≡ only_created region xs ++ only_created region ys
  only_append [] ys = refl
  only_append (i ∷ xs) ys = by_test (is_created region i) (only_append xs ys)
    where
      by_test : (b : Bool) → only_created region (xs ++ ys) ≡ only_created region xs ++ only_created region ys →
          cond b (i ∷ only_created region (xs ++ ys)) (only_created region (xs ++ ys)) ≡ cond b (i ∷ only_created region xs) (only_created region xs) ++ only_created region ys
      by_test true e = ap (λ u. i ∷ u) e
      by_test false e = e

  -- two states of the writing in which the same was created
  pub record Alike (s t : Made) : Type 0 where
    pub vectors : s.vectors ≡ t.vectors
    pub next : s.next ≡ t.next
    pub insts : only_created region s.insts ≡ only_created region t.insts

  added_alike : (s t : Made) (xs ys : List Inst) → only_created region s.insts ≡ only_created region t.insts → only_created region xs ≡ only_created region ys →
      only_created region (s.insts ++ xs) ≡ only_created region (t.insts ++ ys)
  added_alike s t xs ys e f = only_append s.insts xs ∙ ap (λ u. u ++ only_created region xs) e ∙ ap (λ u. only_created region t.insts ++ u) f ∙ sym (only_append t.insts ys)

  made_alike : (s t : Made) (ty : Ty) (o : Op) (opds others : List Opd) → Alike s t → opds ≡ others → Alike (made region ty o opds s) (made region ty o others t)
  made_alike s t ty o opds others a e = record {
    vectors = a.vectors;
    next = ap suc a.next;
    insts = added_alike s t (new s.next opds ∷ []) (new t.next others ∷ []) a.insts (ap (λ n. only_created region (new n opds ∷ [])) a.next ∙ ap (λ os. only_created region (new t.next os ∷ [])) e);
  }
    where
      new : ℕ → List Opd → Inst
      new n os = record { id = created region n; name = None; ty = ty; op = o; opds = os }

  pub record BothGather (g h : Gathering) : Type 0 where
    pub vector : g.vector ≡ h.vector
    pub alike : Alike g.made_so_far h.made_so_far

  one_more : (g h : Gathering) (t : Ty) (at : ℕ) (o : Opd) → BothGather g h →
      BothGather (record { vector = Val (created region g.made_so_far.next); made_so_far = made region t op.Insert (g.vector ∷ o ∷ index_of at ∷ []) g.made_so_far })
      (record { vector = Val (created region h.made_so_far.next); made_so_far = made region t op.Insert (h.vector ∷ o ∷ index_of at ∷ []) h.made_so_far })
  one_more g h t at o b = record {
    vector = ap (λ n. Val (created region n)) b.alike.next;
    alike = made_alike g.made_so_far h.made_so_far t op.Insert (g.vector ∷ o ∷ index_of at ∷ []) (h.vector ∷ o ∷ index_of at ∷ []) b.alike (ap (λ v. v ∷ o ∷ index_of at ∷ []) b.vector);
  }

  gathered_alike : (t : Ty) (at : ℕ) (os : List Opd) (g h : Gathering) → BothGather g h → BothGather (gathered region t at os g) (gathered region t at os h)
  gathered_alike t at [] g h b = b
  gathered_alike t at (Lit l ∷ os) g h b = gathered_alike t (suc at) os g h b
  gathered_alike t at (Sym n ∷ os) g h b =
      gathered_alike t (suc at) os (record { vector = Val (created region g.made_so_far.next); made_so_far = made region t op.Insert (g.vector ∷ Sym n ∷ index_of at ∷ []) g.made_so_far })
      (record { vector = Val (created region h.made_so_far.next); made_so_far = made region t op.Insert (h.vector ∷ Sym n ∷ index_of at ∷ []) h.made_so_far }) (one_more g h t at (Sym n) b)
  gathered_alike t at (Val v ∷ os) g h b =
      gathered_alike t (suc at) os (record { vector = Val (created region g.made_so_far.next); made_so_far = made region t op.Insert (g.vector ∷ Val v ∷ index_of at ∷ []) g.made_so_far })
      (record { vector = Val (created region h.made_so_far.next); made_so_far = made region t op.Insert (h.vector ∷ Val v ∷ index_of at ∷ []) h.made_so_far }) (one_more g h t at (Val v) b)

  module _ (m : Module) where
    slot_by_alike : (number : ℕ) (os : List Opd) (how : How) (s t : Made) → Alike s t → BothGather (slot_by m region number os how s) (slot_by m region number os how t)
    slot_by_alike number os Widen s t a = record { vector = ap (λ vs. of_vector (row_of (length os) (first_ty m os)) (vector_of number vs)) a.vectors; alike = a }
    slot_by_alike number os (Reuse n) s t a = record { vector = ap (λ vs. of_vector (row_of (length os) (first_ty m os)) (vector_of n vs)) a.vectors; alike = a }
    slot_by_alike number os (Ident v) s t a = record { vector = refl; alike = a }
    slot_by_alike number os (Pack cause) s t a =
        gathered_alike (row_of (length os) (first_ty m os)) 0 os (record { vector = literal_of (row_of (length os) (first_ty m os)) os; made_so_far = s })
        (record { vector = literal_of (row_of (length os) (first_ty m os)) os; made_so_far = t }) (record { vector = refl; alike = a })

    slot_alike : (number : ℕ) (o : Option Node) (s t : Made) → Alike s t → BothGather (slot_of m region number o s) (slot_of m region number o t)
    slot_alike number None s t a = record { vector = refl; alike = a }
    slot_alike number (Some n) s t a = slot_by_alike number n.lanes n.how s t a

    pub record BothSlots (r q : List Opd × Made) : Type 0 where
      pub vectors : r.0 ≡ q.0
      pub alike : Alike r.1 q.1

    slots_alike : (tree : List Node) (ns : List ℕ) (s t : Made) → Alike s t → BothSlots (slots_in m region tree ns s) (slots_in m region tree ns t)
    slots_alike tree [] s t a = record { vectors = refl; alike = a }
    slots_alike tree (n ∷ ns) s t a =
        let here = slot_alike n (slice_get tree n) s t a in
        let rest = slots_alike tree ns (slot_of m region n (slice_get tree n) s).made_so_far (slot_of m region n (slice_get tree n) t).made_so_far here.alike in
        record {
          vectors =
              ap (λ v. v ∷ (slots_in m region tree ns (slot_of m region n (slice_get tree n) s).made_so_far).0) here.vector
              ∙ ap (λ vs. (slot_of m region n (slice_get tree n) t).vector ∷ vs) rest.vectors;
          alike = rest.alike;
        }

    no_extracts : (wanted : Id → Bool) (v : Id) (at : ℕ) (is : List Inst) → Every (λ (i : Inst). is_created region i ≡ false) is → only_created region (extracts wanted v at is) ≡ []
    no_extracts wanted v at [] h = refl
    no_extracts wanted v at (i ∷ is) h = by_wanted (wanted i.id) (no_extracts wanted v (suc at) is h.1)
      where
        one : Inst
        one = record { id = i.id; name = i.name; ty = i.ty; op = op.Extract; opds = Val v ∷ index_of at ∷ [] }

        by_wanted : (b : Bool) → only_created region (extracts wanted v (suc at) is) ≡ [] →
            only_created region (cond b (record { id = i.id; name = i.name; ty = i.ty; op = op.Extract; opds = Val v ∷ index_of at ∷ [] } ∷ extracts wanted v (suc at) is) (extracts wanted v (suc at) is)) ≡ []
        by_wanted false e = e
        by_wanted true e =
            ap (λ b. cond b (record { id = i.id; name = i.name; ty = i.ty; op = op.Extract; opds = Val v ∷ index_of at ∷ [] } ∷ only_created region (extracts wanted v (suc at) is)) (only_created region (extracts wanted v (suc at) is))) h.0
            ∙ e

    module _ (wanted other : Id → Bool) (tree : List Node) where
      widened_alike : (number : ℕ) (i : Inst) (is : List Inst) (r q : List Opd × Made) → BothSlots r q → Every (λ (j : Inst). is_created region j ≡ false) (i ∷ is) →
          Alike (widened_by wanted region number i is r) (widened_by other region number i is q)
      widened_alike number i is r q b h = record {
        vectors = ap (λ n. (number, created region n) ∷ r.1.vectors) b.alike.next ∙ ap (λ vs. (number, created region q.1.next) ∷ vs) b.alike.vectors;
        next = then.next;
        insts = added_alike (vector r) (vector q) (extracts wanted (created region r.1.next) 0 (i ∷ is)) (extracts other (created region q.1.next) 0 (i ∷ is)) then.insts
            (no_extracts wanted (created region r.1.next) 0 (i ∷ is) h ∙ sym (no_extracts other (created region q.1.next) 0 (i ∷ is) h));
      }
        where
          vector : List Opd × Made → Made
          vector r = made region (row_of (suc (length is)) (Some i.ty)) (common_op i.op is) (r.0 ++ pointer_of i.op i.opds) r.1

          then : Alike (vector r) (vector q)
          then = made_alike r.1 q.1 (row_of (suc (length is)) (Some i.ty)) (common_op i.op is) (r.0 ++ pointer_of i.op i.opds) (q.0 ++ pointer_of i.op i.opds) b.alike (ap (λ u. u ++ pointer_of i.op i.opds) b.vectors)

      group_alike : (is : List Inst) (b : Option (ℕ × List ℕ)) (s t : Made) → Alike s t → Every (λ (j : Inst). is_created region j ≡ false) is →
          Alike (group_by m wanted region tree is b s) (group_by m other region tree is b t)
      group_alike is None s t a h = record { vectors = a.vectors; next = a.next; insts = added_alike s t is is a.insts refl }
      group_alike [] (Some b) s t a h = a
      group_alike (i ∷ is) (Some b) s t a h = widened_alike b.0 i is (slots_in m region tree b.1 s) (slots_in m region tree b.1 t) (slots_alike tree b.1 s t a) h

      in_alike : (g : List Inst) (s t : Made) → Alike s t → Every (λ (j : Inst). is_created region j ≡ false) g → Alike (group_in m wanted region tree g s) (group_in m other region tree g t)
      in_alike [] s t a h = a
      in_alike (i ∷ is) s t a h = group_alike (i ∷ is) (bundle_of i.id 0 tree) s t a h

      pub written_alike : (groups : List (List Inst)) → Every (Every (λ (j : Inst). is_created region j ≡ false)) groups → (s t : Made) → Alike s t →
          Alike (written m wanted region tree groups s) (written m other region tree groups t)
      written_alike [] h s t a = a
      written_alike (g ∷ gs) h s t a = written_alike gs h.1 (group_in m wanted region tree g s) (group_in m other region tree g t) (in_alike g s t a h.0)
