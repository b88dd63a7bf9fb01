-- A new window that takes each instruction of the old one once at most.
use Rattle.std.proofs.Common.{◌≡◌, refl, sym, ap, ◌∙◌, subst, ℕ, ◌+◌, ◌≤◌, Bool, true, false, Some, List, [], ◌∷◌, ◌++◌, cond, arith}
use Rattle.std.specs.Bool.{⊤}
use Rattle.ir_types.specs.declared.id.Id.{Id}
use Rattle.ir_types.specs.declared.inst.Inst.{Inst}
use Rattle.ir_types.specs.Available.{same_id}
use Rattle.ir_types.proofs.Formed.{Every}
use Rattle.ir_types.proofs.Among.{same_is}
use Rattle.vx_view.specs.Answers.{find}
use Rattle.vx_view.specs.Changes.{each, removing}
use Rattle.vx_serial.specs.Rewriting.{is_created, is_id_in, without}
use Rattle.rf_rewrite.proofs.Contexts.{one_of}
use Rattle.rf_rewrite.proofs.Window.{Known, Moves, FineOf, next_known, next_rest, Fine}

module _ (globals region : ℕ) (lanes : List Id) (window : List Inst) where
  -- how the instruction that is written stands to the one of the window that has its id
  abbrev pub TakenAs : Bool → (Id → ℕ) → Inst → Inst → Type 0
  TakenAs true known i j = (j.ty ≡ i.ty) × Every (Known globals known) i.opds × Moves i
  TakenAs false known i j = (j ≡ i) × Moves i

  abbrev pub TakesOf : Bool → Bool → (Id → ℕ) → (Id → ℕ) → Inst → Type 0
  TakesOf true lane known taken i = (known i.id ≡ 0) × Every (Known globals known) i.opds
  TakesOf false lane known taken i = (taken i.id ≡ 0) × ((j : Inst) × (find i.id window ≡ Some j) × TakenAs lane known i j)

  abbrev pub next_taken : Bool → Inst → (Id → ℕ) → Id → ℕ
  next_taken true i taken y = taken y
  next_taken false i taken y = one_of i.id y + taken y

  -- where so often ids are known and were taken
  abbrev pub Takes : (Id → ℕ) → (Id → ℕ) → List Inst → Type 0
  Takes known taken [] = ⊤
  Takes known taken (i ∷ is) =
      TakesOf (is_created region i) (is_id_in lanes i.id) known taken i
      × Takes (next_known globals region lanes (is_created region i) i known) (next_taken (is_created region i) i taken) is

  -- ---- what is left has what was not taken

  pub find_removed : (x y : Id) (l : List Inst) → same_id x y ≡ false → find y (each (removing x) l) ≡ find y l
  find_removed x y [] e = refl
  find_removed x y (i ∷ l) e = by_test (same_id i.id x) refl (find_removed x y l e)
    where
      by_test : (b : Bool) → same_id i.id x ≡ b → find y (each (removing x) l) ≡ find y l → find y (cond b [] (i ∷ []) ++ each (removing x) l) ≡ cond (same_id i.id y) (Some i) (find y l)
      by_test true t r =
          let other : same_id i.id y ≡ false = ap (λ v. same_id v y) (same_is i.id x t) ∙ e in
          r ∙ sym (ap (λ b. cond b (Some i) (find y l)) other)
      by_test false t r = ap (λ u. cond (same_id i.id y) (Some i) u) r

  pub takes_fine : (is rest : List Inst) (known taken : Id → ℕ) → ((y : Id) → taken y ≡ 0 → find y rest ≡ find y window) → Takes known taken is → Fine globals region lanes known rest is
  takes_fine [] rest known taken same t = tt
  takes_fine (i ∷ is) rest known taken same t = by_case (is_created region i) (is_id_in lanes i.id) t.0 t.1 (λ r k u s h. takes_fine is r k u s h)
    where
      More : Type 0
      More = (r : List Inst) (k u : Id → ℕ) → ((y : Id) → u y ≡ 0 → find y r ≡ find y window) → Takes k u is → Fine globals region lanes k r is

      by_case : (b lane : Bool) → TakesOf b lane known taken i → Takes (next_known globals region lanes b i known) (next_taken b i taken) is → More →
          FineOf globals region lanes b lane known rest i × Fine globals region lanes (next_known globals region lanes b i known) (next_rest globals region lanes b i rest) is
      by_case true lane f rest_takes more = (f, more rest (λ y. one_of i.id y + known y) taken same rest_takes)
      by_case false lane f rest_takes more =
          (by_lane lane f.1.2 (same i.id f.0 ∙ f.1.1), more (each (removing i.id) rest) known (λ y. one_of i.id y + taken y) then rest_takes)
        where
          by_lane : (lane : Bool) → TakenAs lane known i f.1.0 → find i.id rest ≡ Some f.1.0 → FineOf globals region lanes false lane known rest i
          by_lane true h e = (f.1.0, e, h.0, h.1, h.2)
          by_lane false h e = (e ∙ ap Some h.0, h.1)

          then : (y : Id) → one_of i.id y + taken y ≡ 0 → find y (each (removing i.id) rest) ≡ find y window
          then y z = find_removed i.id y rest (by_test (same_id i.id y) z) ∙ same y (omega (arith, z))
            where
              by_test : (b : Bool) → cond b 1 0 + taken y ≡ 0 → b ≡ false
              by_test true e = absurd (omega (arith, e))
              by_test false e = refl

  -- ---- what goes is not written

  abbrev LessTaken : (Id → ℕ) → (Id → ℕ) → Type 0
  LessTaken few more = (y : Id) → few y ≤ more y

  -- none that was created goes
  pub takes_without : (gone : List Id) → ((i : Inst) → is_created region i ≡ true → is_id_in gone i.id ≡ false) → (is : List Inst) (known taken few : Id → ℕ) → LessTaken few taken →
      Takes known taken is → Takes known few (without gone is)
  takes_without gone stays [] known taken few less t = tt
  takes_without gone stays (i ∷ is) known taken few less t =
      by_case (is_id_in gone i.id) refl (is_created region i) refl t.0 t.1 (λ k u f l h. takes_without gone stays is k u f l h)
    where
      More : Type 0
      More = (k u f : Id → ℕ) → LessTaken f u → Takes k u is → Takes k f (without gone is)

      own : (b : Bool) → TakesOf b (is_id_in lanes i.id) known taken i → TakesOf b (is_id_in lanes i.id) known few i
      own true h = h
      own false h = let l = less i.id in let z = h.0 in (omega (arith, l, z), h.1)

      next_less : (b : Bool) → LessTaken (next_taken b i few) (next_taken b i taken)
      next_less true y = less y
      next_less false y = let l = less y in omega (arith, l)

      skip_less : LessTaken few (next_taken false i taken)
      skip_less y = let l = less y in omega (arith, l)

      by_case : (g : Bool) → is_id_in gone i.id ≡ g → (b : Bool) → is_created region i ≡ b → TakesOf b (is_id_in lanes i.id) known taken i →
          Takes (next_known globals region lanes b i known) (next_taken b i taken) is → More → Takes known few (cond g (without gone is) (i ∷ without gone is))
      by_case false e b c h rest more =
          subst (λ v. TakesOf v (is_id_in lanes i.id) known few i × Takes (next_known globals region lanes v i known) (next_taken v i few) (without gone is)) (sym c)
          (own b h, more (next_known globals region lanes b i known) (next_taken b i taken) (next_taken b i few) (next_less b) rest)
      by_case true e true c h rest more = absurd (true_false (sym e ∙ stays i c))
        where
          true_false : true ≡ false → ⊥
          true_false e = cc
      by_case true e false c h rest more = more known (λ y. one_of i.id y + taken y) few skip_less rest
