-- A row of instructions of which each has operands that are known by then, with their types.
use Rattle.std.proofs.Common.{◌≡◌, refl, sym, ap, ◌∙◌, subst, ℕ, ◌+◌, ◌≤◌, Bool, true, false, Option, None, Some, List, [], ◌∷◌, ◌++◌, map, cond, nat_lt, if◌then◌else◌, arith, length}
use Rattle.std.specs.Bool.{⊤}
use Rattle.std.specs.List.{All}
use Rattle.ir_types.specs.declared.id.Id.{Id}
use Rattle.ir_types.specs.declared.ty.Ty.{Ty}
use Rattle.ir_types.specs.declared.ty.Ty.TheVariants.{Ptr}
use Rattle.ir_types.specs.declared.opd.Opd.{Opd}
use Rattle.ir_types.specs.declared.opd.Opd.TheVariants.{Val, Lit, Sym}
use Rattle.ir_types.specs.declared.inst.Inst.{Inst}
use Rattle.ir_types.specs.declared.func.Func.{Func}
use Rattle.ir_types.specs.declared.module.Module.{Module}
use Rattle.ir_types.specs.Available.{same_id, op_targets}
use Rattle.ir_types.specs.Typed.{IsTyped}
use Rattle.ir_types.specs.Formed.{given_ty, is_phi, is_alloca, IsOpd, IsTarget, IsCalling, IsPlainInst}
use Rattle.vx_view.specs.Answers.{find}
use Rattle.rf_rewrite.proofs.Contexts.{times}

-- ---- what is known

-- the types of the values that are known
abbrev pub Known : Type 0
Known = Id → Option Ty

-- once an instruction has run
abbrev pub next : Inst → Known → Known
next i known y = cond (same_id i.id y) (Some (given_ty i.op i.ty)) (known y)

abbrev pub after : List Inst → Known → Known
after [] known = known
after (i ∷ is) known = after is (next i known)

pub after_append : (xs ys : List Inst) (known : Known) (y : Id) → after (xs ++ ys) known y ≡ after ys (after xs known) y
after_append [] ys known y = refl
after_append (i ∷ xs) ys known y = after_append xs ys (next i known) y

pub after_none : (xs : List Inst) (known : Known) (y : Id) → times y xs ≡ 0 → after xs known y ≡ known y
after_none [] known y e = refl
after_none (i ∷ xs) known y e = after_none xs (next i known) y (omega (arith, e)) ∙ by_test (same_id i.id y) e
  where
    by_test : (b : Bool) → cond b 1 0 + times y xs ≡ 0 → cond b (Some (given_ty i.op i.ty)) (known y) ≡ known y
    by_test true r = absurd (omega (arith, r))
    by_test false r = refl

pub after_found : (xs : List Inst) (known : Known) (y : Id) (i : Inst) → find y xs ≡ Some i → times y xs ≤ 1 → after xs known y ≡ Some (given_ty i.op i.ty)
after_found [] known y i e le = absurd cc
after_found (j ∷ xs) known y i e le = by_test (same_id j.id y) refl e le (after_found xs (next j known) y i)
  where
    some_is : Some j ≡ Some i → j ≡ i
    some_is r = cc

    by_test : (b : Bool) → same_id j.id y ≡ b → cond b (Some j) (find y xs) ≡ Some i → cond b 1 0 + times y xs ≤ 1 → (find y xs ≡ Some i → times y xs ≤ 1 → after xs (next j known) y ≡ Some (given_ty i.op i.ty)) →
        after xs (next j known) y ≡ Some (given_ty i.op i.ty)
    by_test true t r few more =
        after_none xs (next j known) y (omega (arith, few)) ∙ ap (λ b. cond b (Some (given_ty j.op j.ty)) (known y)) t ∙ ap (λ (u : Inst). Some (given_ty u.op u.ty)) (some_is r)
    by_test false t r few more = more r (omega (arith, few))

-- ---- rows

module _ (m : Module) (f : Func) (number : ℕ) where
  abbrev pub ty_by : Known → Opd → Option Ty
  ty_by known (Val v) = known v
  ty_by known (Lit l) = Some l.ty
  ty_by known (Sym g) = if nat_lt g (length m.globals) then Some Ptr else None

  -- an instruction that may stand in the block of a number of the function, where so much is known
  pub record LineOk (known : Known) (i : Inst) : Type 0 where
    pub operands : All IsOpd i.opds
    pub typed : IsTyped f.ret i.op i.ty (map (ty_by known) i.opds)
    pub calling : IsCalling m i.op i.ty (map (ty_by known) i.opds)
    pub targets : All (IsTarget f) (op_targets i.op)
    pub allocas : is_alloca i.op ≡ true → number ≡ 0
    pub plain : IsPlainInst i

  -- a phi is left to where it comes from
  abbrev pub Lines : Known → List Inst → Type 0
  Lines known [] = ⊤
  Lines known (i ∷ is) = (is_phi i.op ≡ false → LineOk known i) × Lines (next i known) is

  pub lines_append : (known : Known) (xs ys : List Inst) → Lines known xs → Lines (after xs known) ys → Lines known (xs ++ ys)
  lines_append known [] ys h k = k
  lines_append known (i ∷ xs) ys h k = (h.0, lines_append (next i known) xs ys h.1 k)

  pub line_at : (known : Known) (xs : List Inst) (i : Inst) (ys : List Inst) → Lines known (xs ++ i ∷ ys) → is_phi i.op ≡ false → LineOk (after xs known) i
  line_at known [] i ys h plain = h.0 plain
  line_at known (j ∷ xs) i ys h plain = line_at (next j known) xs i ys h.1 plain

  -- what agrees on what is known is as good
  tys_same : (known other : Known) → (os : List Opd) → ((v : Id) → other v ≡ known v) → map (ty_by other) os ≡ map (ty_by known) os
  tys_same known other [] e = refl
  tys_same known other (Val v ∷ os) e = ap (λ t. t ∷ map (ty_by other) os) (e v) ∙ ap (λ ts. known v ∷ ts) (tys_same known other os e)
  tys_same known other (Lit l ∷ os) e = ap (λ ts. Some l.ty ∷ ts) (tys_same known other os e)
  tys_same known other (Sym g ∷ os) e = ap (λ ts. (if nat_lt g (length m.globals) then Some Ptr else None) ∷ ts) (tys_same known other os e)

  line_same : (known other : Known) (i : Inst) → ((v : Id) → other v ≡ known v) → LineOk known i → LineOk other i
  line_same known other i e h = record {
    operands = h.operands;
    typed = subst (IsTyped f.ret i.op i.ty) (sym (tys_same known other i.opds e)) h.typed;
    calling = subst (IsCalling m i.op i.ty) (sym (tys_same known other i.opds e)) h.calling;
    targets = h.targets;
    allocas = h.allocas;
    plain = h.plain;
  }

  pub lines_same : (known other : Known) (is : List Inst) → ((v : Id) → other v ≡ known v) → Lines known is → Lines other is
  lines_same known other [] e h = tt
  lines_same known other (i ∷ is) e h = (
    (λ plain. line_same known other i e (h.0 plain)),
    lines_same (next i known) (next i other) is (λ v. ap (λ t. cond (same_id i.id v) (Some (given_ty i.op i.ty)) t) (e v)) h.1,
  )
