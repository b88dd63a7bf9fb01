-- Instructions that are written one after another: each is fine where it stands, and none gives what is known already.
use Rattle.std.proofs.Common.{◌≡◌, refl, sym, ap, ◌∙◌, subst, ℕ, suc, ◌+◌, ◌<◌, ◌≤◌, Bool, true, false, ◌||◌, Option, None, Some, List, [], ◌∷◌, ◌++◌, map, cond, nat_eq, arith, length, append_assoc}
use Rattle.std.specs.Bool.{⊤}
use Rattle.std.specs.List.{All, list_any}
use Rattle.std.proofs.lemmas.Bool.Decides.{nat_tests}
use Rattle.ir_types.specs.declared.id.Id.{Id}
use Rattle.ir_types.specs.declared.ty.Ty.{Ty}
use Rattle.ir_types.specs.declared.ty.Ty.TheVariants.{Int, Row}
use Rattle.ir_types.specs.declared.opd.Opd.{Opd}
use Rattle.ir_types.specs.declared.opd.Opd.TheVariants.{Val, Lit, Sym}
use Rattle.ir_types.specs.declared.op.Op.{Op}
use Rattle.ir_types.specs.declared.op.Op.TheVariants as op
use Rattle.ir_types.specs.declared.inst.Inst.{Inst}
use Rattle.ir_types.specs.declared.func.Func.{Func}
use Rattle.ir_types.specs.declared.module.Module.{Module}
use Rattle.ir_types.specs.Available.{same_id, op_targets}
use Rattle.ir_types.specs.Typed.{is_vector, is_scalar, IsLiteral, IsTyped}
use Rattle.ir_types.specs.Formed.{given_ty, is_alloca, IsOpd, IsTarget, IsCalling, IsPoisonIfPointer}
use Rattle.ir_types.proofs.Formed.{Every}
use Rattle.ir_types.proofs.Among.{same_is, same_itself}
use Rattle.vx_num.specs.Width.{IsLane}
use Rattle.vx_view.specs.Answers.{is_value as holds}
use Rattle.vx_serial.specs.Rewriting.{Made, Gathering, created, made, gathered, index_of, is_created, only_created, uses_value}
use Rattle.vx_serial.proofs.Decided.{true_false}
use Rattle.rf_module.proofs.Lines.{Known, next, after, ty_by, LineOk, Lines, lines_append}
use Rattle.rf_module.proofs.Exchanged.{all_of_every}

-- ---- what is new

abbrev pub AllNew : Known → List Inst → Type 0
AllNew known [] = ⊤
AllNew known (i ∷ is) = (known i.id ≡ None) × AllNew (next i known) is

pub new_append : (known : Known) (xs ys : List Inst) → AllNew known xs → AllNew (after xs known) ys → AllNew known (xs ++ ys)
new_append known [] ys h k = k
new_append known (i ∷ xs) ys h k = (h.0, new_append (next i known) xs ys h.1 k)

next_keeps : (i : Inst) (known : Known) → known i.id ≡ None → (y : Id) (t : Ty) → known y ≡ Some t → next i known y ≡ Some t
next_keeps i known none y t e = by_test (same_id i.id y) refl
  where
    true_none : (o : Option Ty) → o ≡ None → o ≡ Some t → ⊥
    true_none None a b = cc
    true_none (Some u) a b = cc

    by_test : (b : Bool) → same_id i.id y ≡ b → cond b (Some (given_ty i.op i.ty)) (known y) ≡ Some t
    by_test true s = absurd (true_none (known y) (ap known (sym (same_is i.id y s)) ∙ none) e)
    by_test false s = e

-- what is known stays so
pub new_keeps : (is : List Inst) (known : Known) → AllNew known is → (y : Id) (t : Ty) → known y ≡ Some t → after is known y ≡ Some t
new_keeps [] known h y t e = e
new_keeps (i ∷ is) known h y t e = new_keeps is (next i known) h.1 y t (next_keeps i known h.0 y t e)

-- what is given is known
pub next_own : (i : Inst) (known : Known) → next i known i.id ≡ Some (given_ty i.op i.ty)
next_own i known = ap (λ b. cond b (Some (given_ty i.op i.ty)) (known i.id)) (same_itself i.id)

pub next_other : (i : Inst) (known : Known) (y : Id) → same_id i.id y ≡ false → next i known y ≡ known y
next_other i known y e = ap (λ b. cond b (Some (given_ty i.op i.ty)) (known y)) e

module _ (m : Module) (f : Func) (number region : ℕ) where
  -- instructions that follow what is known
  pub record Step (known : Known) (is : List Inst) : Type 0 where
    pub lines : Lines m f number known is
    pub fresh : AllNew known is

  pub step_none : (known : Known) → Step known []
  step_none known = record { lines = tt; fresh = tt }

  pub step_then : (known : Known) (xs ys : List Inst) → Step known xs → Step (after xs known) ys → Step known (xs ++ ys)
  step_then known xs ys a b = record { lines = lines_append m f number known xs ys a.lines b.lines; fresh = new_append known xs ys a.fresh b.fresh }

  pub step_one : (known : Known) (i : Inst) → LineOk m f number known i → known i.id ≡ None → Step known (i ∷ [])
  step_one known i ok none = record { lines = ((λ plain. ok), tt); fresh = (none, tt) }

  -- no value from a number on is known
  abbrev pub Free : Known → ℕ → Type 0
  Free known n = (k : ℕ) → n ≤ k → known (created region k) ≡ None

  created_apart : (j k : ℕ) → j < k → same_id (created region j) (created region k) ≡ false
  created_apart j k less = by_test (same_id (created region j) (created region k)) refl
    where
      by_test : (b : Bool) → same_id (created region j) (created region k) ≡ b → b ≡ false
      by_test true e = let same : j ≡ k = ap (λ (x : Id). x.k) (same_is (created region j) (created region k) e) in absurd (omega (arith, same, less))
      by_test false e = refl

  abbrev pub new_inst : ℕ → Ty → Op → List Opd → Inst
  new_inst k ty o opds = record { id = created region k; name = None; ty = ty; op = o; opds = opds }

  pub free_next : (known : Known) (n : ℕ) (ty : Ty) (o : Op) (opds : List Opd) → Free known n → Free (next (new_inst n ty o opds) known) (suc n)
  free_next known n ty o opds h k le = next_other (new_inst n ty o opds) known (created region k) (created_apart n k (omega (arith, le))) ∙ h k (omega (arith, le))

  -- a created instruction is fine where its operands and types are
  pub new_ok : (known : Known) (k : ℕ) (ty : Ty) (o : Op) (opds : List Opd) → Every IsOpd opds → Every IsPoisonIfPointer opds → IsTyped f.ret o ty (map (ty_by m f number known) opds) →
      IsCalling m o ty (map (ty_by m f number known) opds) → op_targets o ≡ [] → is_alloca o ≡ false → LineOk m f number known (new_inst k ty o opds)
  new_ok known k ty o opds operands poison typed calling none other = record {
    operands = all_of_every IsOpd opds operands;
    typed = typed;
    calling = calling;
    targets = subst (All (IsTarget f)) (sym none) (λ j d less. absurd (omega (arith, less)));
    allocas = λ e. absurd (true_false (sym e ∙ other));
    plain = record { named = refl; silent = λ e. refl; pointers = all_of_every IsPoisonIfPointer opds poison };
  }

  -- ---- gathers

  module _ (new : List Inst) (n w : ℕ) (row : is_vector (Row n w) ≡ true) (scalar : is_scalar (Int w) ≡ true) (small : n ≤ 16) where
    -- a lane of a type, if what is created uses it
    abbrev pub ReadyIf : Known → Opd → Type 0
    ReadyIf known (Val y) = uses_value y new ≡ true → known y ≡ Some (Int w)
    ReadyIf known (Lit l) = (l.ty ≡ Int w) × IsLiteral l
    ReadyIf known (Sym g) = ⊥

    -- what stands among these is among what is created
    abbrev pub Within : Made → Type 0
    Within s = (y : Id) → uses_value y (only_created region s.insts) ≡ true → uses_value y new ≡ true

    pub record Gathered (known : Known) (g h : Gathering) : Type 0 where
      pub more : List Inst
      pub are : h.made_so_far.insts ≡ g.made_so_far.insts ++ more
      pub step : Step known more
      pub vector : ty_by m f number (after more known) h.vector ≡ Some (Row n w)
      pub operand : IsOpd h.vector
      pub poison : IsPoisonIfPointer h.vector
      pub free : Free (after more known) h.made_so_far.next
      pub vectors : h.made_so_far.vectors ≡ g.made_so_far.vectors

    ready_next : (known : Known) (is : List Inst) → AllNew known is → (os : List Opd) → Every (ReadyIf known) os → Every (ReadyIf (after is known)) os
    ready_next known is fresh [] h = tt
    ready_next known is fresh (Val y ∷ os) h = ((λ u. new_keeps is known fresh y (Int w) (h.0 u)), ready_next known is fresh os h.1)
    ready_next known is fresh (Lit l ∷ os) h = (h.0, ready_next known is fresh os h.1)
    ready_next known is fresh (Sym g ∷ os) h = elim h.0 [ ]

    index_ok : (at : ℕ) → at < 16 → IsOpd (index_of at)
    index_ok at less = (refl, refl, all_of_every (λ lane. IsLane 64 lane) (Some at ∷ []) ((let le = less in omega (arith, le)), tt))

    nat_same : (k : ℕ) → nat_eq k k ≡ true
    nat_same k = grind (arith, nat_tests)

    -- the created instructions among these and one more
    used_last : (y : Id) (is : List Inst) (i : Inst) → is_created region i ≡ true → list_any (holds y) i.opds ≡ true → uses_value y (only_created region (is ++ i ∷ [])) ≡ true
    used_last y [] i cr u = ap (λ b. uses_value y (cond b (i ∷ []) [])) cr ∙ ap (λ b. b || false) u
    used_last y (j ∷ is) i cr u = by_test (is_created region j) (used_last y is i cr u)
      where
        later : (b : Bool) → uses_value y (only_created region (is ++ i ∷ [])) ≡ true → (b || uses_value y (only_created region (is ++ i ∷ []))) ≡ true
        later true h = refl
        later false h = h

        by_test : (b : Bool) → uses_value y (only_created region (is ++ i ∷ [])) ≡ true → uses_value y (cond b (j ∷ only_created region (is ++ i ∷ [])) (only_created region (is ++ i ∷ []))) ≡ true
        by_test true h = later (list_any (holds y) j.opds) h
        by_test false h = h

    -- more created instructions use more
    pub used_more : (y : Id) (xs ys : List Inst) → uses_value y (only_created region xs) ≡ true → uses_value y (only_created region (xs ++ ys)) ≡ true
    used_more y [] ys h = absurd cc
    used_more y (i ∷ xs) ys h = by_test (is_created region i) h (used_more y xs ys)
      where
        by_test : (b : Bool) → uses_value y (cond b (i ∷ only_created region xs) (only_created region xs)) ≡ true → (uses_value y (only_created region xs) ≡ true → uses_value y (only_created region (xs ++ ys)) ≡ true) →
            uses_value y (cond b (i ∷ only_created region (xs ++ ys)) (only_created region (xs ++ ys))) ≡ true
        by_test false r more = more r
        by_test true r more = by_use (list_any (holds y) i.opds) r
          where
            by_use : (b : Bool) → (b || uses_value y (only_created region xs)) ≡ true → (b || uses_value y (only_created region (xs ++ ys))) ≡ true
            by_use true q = refl
            by_use false q = more q

    insert_ok : (known : Known) (k : ℕ) (v o : Opd) (at : ℕ) → at < 16 → ty_by m f number known v ≡ Some (Row n w) → IsOpd v → IsPoisonIfPointer v → ty_by m f number known o ≡ Some (Int w) → IsOpd o → IsPoisonIfPointer o →
        LineOk m f number known (new_inst k (Row n w) op.Insert (v ∷ o ∷ index_of at ∷ []))
    insert_ok known k v o at less tv ov pv t oo po =
        new_ok known k (Row n w) op.Insert (v ∷ o ∷ index_of at ∷ []) (ov, (oo, (index_ok at less, tt))) (pv, (po, ((λ e. absurd cc), tt)))
        (n, w, 64, row, refl, refl, ap (λ u. u ∷ ty_by m f number known o ∷ Some (Int 64) ∷ []) tv ∙ ap (λ u. Some (Row n w) ∷ u ∷ Some (Int 64) ∷ []) t) tt refl refl

    module _ (final : Made) (within : (y : Id) → uses_value y (only_created region final.insts) ≡ true → uses_value y new ≡ true) where
      pub gathered_typed : (known : Known) (at : ℕ) (os : List Opd) (g : Gathering) → at + length os ≤ 16 → Every (ReadyIf known) os → ty_by m f number known g.vector ≡ Some (Row n w) → IsOpd g.vector → IsPoisonIfPointer g.vector →
          Free known g.made_so_far.next → (rest : List Inst) → final.insts ≡ (gathered region (Row n w) at os g).made_so_far.insts ++ rest → Gathered known g (gathered region (Row n w) at os g)
      gathered_typed known at [] g le ready tv ov pv free rest e = record {
        more = [];
        are = none g.made_so_far.insts;
        step = step_none known;
        vector = tv;
        operand = ov;
        poison = pv;
        free = free;
        vectors = refl;
      }
        where
          none : (xs : List Inst) → xs ≡ xs ++ []
          none [] = refl
          none (x ∷ xs) = ap (λ u. x ∷ u) (none xs)
      gathered_typed known at (Lit l ∷ os) g le ready tv ov pv free rest e = gathered_typed known (suc at) os g (omega (arith, le)) ready.1 tv ov pv free rest e
      gathered_typed known at (Sym s ∷ os) g le ready tv ov pv free rest e = elim ready.0 [ ]
      gathered_typed known at (Val y ∷ os) g le ready tv ov pv free rest e =
          with_one (gathered_typed (next inst known) (suc at) os (record { vector = Val (created region g.made_so_far.next); made_so_far = made region (Row n w) op.Insert (g.vector ∷ Val y ∷ index_of at ∷ []) g.made_so_far })
          (omega (arith, le)) (ready_next known (inst ∷ []) (none, tt) os ready.1) (next_own inst known) tt tt (free_next known g.made_so_far.next (Row n w) op.Insert (g.vector ∷ Val y ∷ index_of at ∷ []) free) rest e)
        where
          inst : Inst
          inst = new_inst g.made_so_far.next (Row n w) op.Insert (g.vector ∷ Val y ∷ index_of at ∷ [])

          none : known (created region g.made_so_far.next) ≡ None
          none = free g.made_so_far.next (omega (arith))

          with_one : Gathered (next inst known) (record { vector = Val (created region g.made_so_far.next); made_so_far = made region (Row n w) op.Insert (g.vector ∷ Val y ∷ index_of at ∷ []) g.made_so_far })
              (gathered region (Row n w) (suc at) os (record { vector = Val (created region g.made_so_far.next); made_so_far = made region (Row n w) op.Insert (g.vector ∷ Val y ∷ index_of at ∷ []) g.made_so_far })) →
              Gathered known g (gathered region (Row n w) (suc at) os (record { vector = Val (created region g.made_so_far.next); made_so_far = made region (Row n w) op.Insert (g.vector ∷ Val y ∷ index_of at ∷ []) g.made_so_far }))
          with_one h = record {
            more = inst ∷ h.more;
            are = h.are ∙ append_assoc g.made_so_far.insts (inst ∷ []) h.more;
            step = step_then known (inst ∷ []) h.more
                (step_one known inst (insert_ok known g.made_so_far.next g.vector (Val y) at (let l = le in omega (arith, l)) tv ov pv (ready.0 used) tt tt) none) h.step;
            vector = h.vector;
            operand = h.operand;
            poison = h.poison;
            free = h.free;
            vectors = h.vectors;
          }
            where
              own : list_any (holds y) (g.vector ∷ Val y ∷ index_of at ∷ []) ≡ true
              own = later (holds y g.vector) (ap (λ b. b || (holds y (index_of at) || false)) (same_itself y))
                where
                  later : (b : Bool) → (holds y (Val y) || (holds y (index_of at) || false)) ≡ true → (b || (holds y (Val y) || (holds y (index_of at) || false))) ≡ true
                  later true r = refl
                  later false r = r

              used : uses_value y new ≡ true
              used = within y (
                  ap (λ is. uses_value y (only_created region is)) (e ∙ ap (λ is. is ++ rest) h.are ∙ append_assoc (g.made_so_far.insts ++ inst ∷ []) h.more rest)
                  ∙ used_more y (g.made_so_far.insts ++ inst ∷ []) (h.more ++ rest) (used_last y g.made_so_far.insts inst (nat_same (suc region)) own))
