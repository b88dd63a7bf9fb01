-- The extracts of a widened bundle stand fine after its vector instruction, and what is extracted is known.
use Rattle.std.proofs.Common.{◌≡◌, refl, sym, ap, ◌∙◌, subst, ℕ, suc, ◌+◌, ◌<◌, ◌≤◌, Bool, true, false, Option, None, Some, List, [], ◌∷◌, cond, arith, length}
use Rattle.std.specs.Bool.{⊤}
use Rattle.ir_types.specs.declared.id.Id.{Id}
use Rattle.ir_types.specs.declared.ty.Ty.{Ty}
use Rattle.ir_types.specs.declared.ty.Ty.TheVariants.{Void, Int, Row}
use Rattle.ir_types.specs.declared.opd.Opd.TheVariants.{Val}
use Rattle.ir_types.specs.declared.op.Op.TheVariants as op
use Rattle.ir_types.specs.declared.inst.Inst.{Inst}
use Rattle.ir_types.specs.declared.func.Func.{Func}
use Rattle.ir_types.specs.declared.module.Module.{Module}
use Rattle.ir_types.specs.Available.{same_id}
use Rattle.ir_types.specs.Typed.{is_vector}
use Rattle.ir_types.specs.Formed.{IsOpd, IsPoisonIfPointer, IsPlainInst}
use Rattle.ir_types.proofs.Formed.{Every}
use Rattle.ir_types.proofs.Among.{same_is, same_itself}
use Rattle.vx_serial.specs.Rewriting.{index_of, extracts}
use Rattle.rf_rewrite.proofs.Contexts.{times}
use Rattle.rf_module.proofs.Lines.{Known, next, after, LineOk}
use Rattle.rf_module.proofs.Exchanged.{all_of_every}
use Rattle.rf_module.proofs.Steps.{Step, step_none, step_then, step_one, next_own, next_other}

-- ---- extracts

module _ (m : Module) (f : Func) (number region n : ℕ) (small : n ≤ 16) (wanted : Id → Bool) (v : Id) (w : ℕ) (row : is_vector (Row n w) ≡ true) where
  abbrev extract : ℕ → Inst → Inst
  extract at i = record { id = i.id; name = i.name; ty = i.ty; op = op.Extract; opds = Val v ∷ index_of at ∷ [] }

  -- a lane that is an integer, has a fine name, and is not known yet
  pub record Lane (known : Known) (i : Inst) : Type 0 where
    pub ty : i.ty ≡ Int w
    pub plain : IsPlainInst i
    pub fresh : known i.id ≡ None

  extract_ok : (known : Known) (at : ℕ) (i : Inst) → at < 16 → known v ≡ Some (Row n w) → Lane known i → LineOk m f number known (extract at i)
  extract_ok known at i less e l = record {
    operands = all_of_every IsOpd (Val v ∷ index_of at ∷ []) (tt, ((refl, refl, all_of_every (λ lane. Rattle.vx_num.specs.Width.IsLane 64 lane) (Some at ∷ []) ((let le = less in omega (arith, le)), tt)), tt));
    typed = (n, w, 64, row, refl, l.ty, ap (λ t. t ∷ Some (Int 64) ∷ []) e);
    calling = tt;
    targets = λ j d none. absurd (omega (arith, none));
    allocas = λ r. absurd cc;
    plain = record { named = l.plain.named; silent = λ r. absurd (never (sym l.ty ∙ r)); pointers = all_of_every IsPoisonIfPointer (Val v ∷ index_of at ∷ []) (tt, ((λ r. absurd cc), tt)) };
  }
    where
      never : Int w ≡ Void → ⊥
      never r = cc

  lane_next : (known : Known) (i j : Inst) → same_id i.id j.id ≡ false → Lane known j → Lane (next i known) j
  lane_next known i j apart l = record { ty = l.ty; plain = l.plain; fresh = next_other i known j.id apart ∙ l.fresh }

  lanes_next : (known : Known) (at : ℕ) (i : Inst) (is : List Inst) → Every (λ (j : Inst). same_id i.id j.id ≡ false) is → Every (Lane known) is → Every (Lane (next (extract at i) known)) is
  lanes_next known at i [] apart h = tt
  lanes_next known at i (j ∷ is) apart h =
      (record { ty = h.0.ty; plain = h.0.plain; fresh = next_other (extract at i) known j.id apart.0 ∙ h.0.fresh }, lanes_next known at i is apart.1 h.1)

  -- no lane twice
  abbrev pub Apart : List Inst → Type 0
  Apart [] = ⊤
  Apart (i ∷ is) = Every (λ (j : Inst). same_id i.id j.id ≡ false) is × Apart is

  pub extracts_step : (known : Known) (at : ℕ) (is : List Inst) → at + length is ≤ 16 → known v ≡ Some (Row n w) → Apart is → Every (Lane known) is → Step m f number region known (extracts wanted v at is)
  extracts_step known at [] le e apart h = step_none m f number region known
  extracts_step known at (i ∷ is) le e apart h =
      by_wanted (wanted i.id) (extracts_step known (suc at) is (omega (arith, le)) e apart.1 h.1)
      (extracts_step (next (extract at i) known) (suc at) is (omega (arith, le)) (next_other (extract at i) known v (other (same_id i.id v) refl) ∙ e) apart.1 (lanes_next known at i is apart.0 h.1))
    where
      true_none : (o : Option Ty) → o ≡ None → o ≡ Some (Row n w) → ⊥
      true_none None a b = cc
      true_none (Some u) a b = cc

      other : (b : Bool) → same_id i.id v ≡ b → b ≡ false
      other true s = absurd (true_none (known v) (ap known (sym (same_is i.id v s)) ∙ h.0.fresh) e)
      other false s = refl

      by_wanted : (b : Bool) → Step m f number region known (extracts wanted v (suc at) is) → Step m f number region (next (extract at i) known) (extracts wanted v (suc at) is) →
          Step m f number region known (cond b (extract at i ∷ extracts wanted v (suc at) is) (extracts wanted v (suc at) is))
      by_wanted false without with_one = without
      by_wanted true without with_one =
          step_then m f number region known (extract at i ∷ []) (extracts wanted v (suc at) is)
          (step_one m f number region known (extract at i) (extract_ok known at i (let l = le in omega (arith, l)) e h.0) h.0.fresh) with_one

  -- those after a lane do not give it again
  stays : (i : Inst) (js : List Inst) (k : Known) (from : ℕ) → Every (λ (j : Inst). same_id i.id j.id ≡ false) js → after (extracts wanted v from js) k i.id ≡ k i.id
  stays i [] k from g = refl
  stays i (j ∷ js) k from g = by_wanted (wanted j.id) (stays i js k (suc from) g.1) (stays i js (next (extract from j) k) (suc from) g.1)
    where
      turned : same_id j.id i.id ≡ false
      turned = Rattle.ir_types.proofs.Among.swapped j.id i.id ∙ g.0

      by_wanted : (b : Bool) → after (extracts wanted v (suc from) js) k i.id ≡ k i.id → after (extracts wanted v (suc from) js) (next (extract from j) k) i.id ≡ next (extract from j) k i.id →
          after (cond b (extract from j ∷ extracts wanted v (suc from) js) (extracts wanted v (suc from) js)) k i.id ≡ k i.id
      by_wanted false a d = a
      by_wanted true a d = d ∙ next_other (extract from j) k i.id turned

  -- a lane that is wanted is known after them, with its type
  pub extracts_known : (known : Known) (at : ℕ) (is : List Inst) → Apart is → (y : Id) → 1 ≤ times y is → wanted y ≡ true → Every (Lane known) is → after (extracts wanted v at is) known y ≡ Some (Int w)
  extracts_known known at [] apart y some want h = absurd (omega (arith, some))
  extracts_known known at (i ∷ is) apart y some want h =
      by_own (same_id i.id y) refl some (λ s. extracts_known known (suc at) is apart.1 y s want h.1) (λ s. extracts_known (next (extract at i) known) (suc at) is apart.1 y s want (lanes_next known at i is apart.0 h.1))
    where
      by_wanted : (b : Bool) → after (extracts wanted v (suc at) is) known y ≡ Some (Int w) → after (extracts wanted v (suc at) is) (next (extract at i) known) y ≡ Some (Int w) →
          after (cond b (extract at i ∷ extracts wanted v (suc at) is) (extracts wanted v (suc at) is)) known y ≡ Some (Int w)
      by_wanted false a d = a
      by_wanted true a d = d

      by_own : (b : Bool) → same_id i.id y ≡ b → 1 ≤ cond b 1 0 + times y is → (1 ≤ times y is → after (extracts wanted v (suc at) is) known y ≡ Some (Int w)) →
          (1 ≤ times y is → after (extracts wanted v (suc at) is) (next (extract at i) known) y ≡ Some (Int w)) →
          after (cond (wanted i.id) (extract at i ∷ extracts wanted v (suc at) is) (extracts wanted v (suc at) is)) known y ≡ Some (Int w)
      by_own true t s a d =
          let same = same_is i.id y t in
          subst (λ z. after (cond (wanted i.id) (extract at i ∷ extracts wanted v (suc at) is) (extracts wanted v (suc at) is)) known z ≡ Some (Int w)) same
          (ap (λ b. after (cond b (extract at i ∷ extracts wanted v (suc at) is) (extracts wanted v (suc at) is)) known i.id) (ap wanted same ∙ want)
          ∙ stays i is (next (extract at i) known) (suc at) apart.0 ∙ next_own (extract at i) known ∙ ap Some h.0.ty)
      by_own false t s a d = by_wanted (wanted i.id) (a (omega (arith, s))) (d (omega (arith, s)))
