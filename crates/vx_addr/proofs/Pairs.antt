-- What is found by ids: a form and a conflict, by the blocks of places.
use Rattle.std.proofs.Common.{◌≡◌, refl, sym, ap, ◌∙◌, Bool, true, ◌||◌, Option, None, Some, option_map}
use Rattle.ir_types.specs.declared.id.Id.{Id}
use Rattle.ir_types.specs.declared.id.Place.{Place}
use Rattle.ir_types.specs.declared.inst.Inst.{Inst}
use Rattle.ir_types.specs.declared.opd.Opd.{Opd}
use Rattle.ir_types.specs.declared.module.Module.{Module}
use Rattle.ir_types.specs.Available.{same_id}
use Rattle.vx_view.specs.Addresses.{Form, form, form_in, block_of}
use Rattle.vx_view.specs.Answers.{found, Standing}
use Rattle.vx_view.specs.Blocks.{block_at}
use Rattle.vx_view.specs.Conflicts.{access_of, conflict_in, conflict_at, conflict}
use Rattle.vx_view.proofs.Blocks.{found_block, form_at}
use Rattle.vx_addr.specs.Parts.{where_of, paired, only_place}
use Rattle.vx_addr.specs.Walks.{on_walks, on_access, on_both, form_names, conflict_names, bare}
use Rattle.vx_addr.proofs.Steps.{or_left, or_right, alone}

some_is : {A : Type 0} {p q : A} → Some p ≡ Some q → p ≡ q
some_is e = cc

some_none : {A : Type 0} {p : A} → Some p ≡ None → ⊥
some_none e = cc

none_some : {A : Type 0} {p : A} → None ≡ Some p → ⊥
none_some e = cc

-- ---- one

place_is : (u : Option Standing) (p : Place) → Some p ≡ option_map only_place (option_map where_of u) → (s : Standing) × (u ≡ Some s) × (s.place ≡ p)
place_is None p e = absurd (some_none e)
place_is (Some s) p e = (s, refl, sym (some_is e))

no_place : (u : Option Standing) → None ≡ option_map only_place (option_map where_of u) → u ≡ None
no_place None e = refl
no_place (Some s) e = absurd (none_some e)

module _ (m : Module) (user : Id) (pointer : Opd) where
  pub placed_form : (p : Place) → Some p ≡ option_map only_place (option_map where_of (found m user)) → (f : Form) → f ≡ form_in (block_at m p) pointer → f ≡ form m user pointer
  placed_form p e f h =
      let r = place_is (found m user) p e in
      h ∙ ap (λ q. form_in (block_at m q) pointer) (sym r.2) ∙ sym (form_at m user r.0 r.1 pointer)

  pub placed_names : (p : Place) → Some p ≡ option_map only_place (option_map where_of (found m user)) → (x : Id) → on_walks (block_at m p) pointer x ≡ true → form_names m user pointer x ≡ true
  placed_names p e x h =
      let r = place_is (found m user) p e in
      or_right (same_id user x) (on_walks (block_of (found m user)) pointer x)
      (ap (λ u. on_walks (block_of u) pointer x) r.1 ∙ ap (λ l. on_walks l pointer x) (sym (found_block user r.0 m r.1).0) ∙ ap (λ q. on_walks (block_at m q) pointer x) r.2 ∙ h)

  pub bare_form : None ≡ option_map only_place (option_map where_of (found m user)) → (f : Form) → f ≡ bare pointer → f ≡ form m user pointer
  bare_form e f h = h ∙ sym (alone pointer) ∙ ap (λ u. form_in (block_of u) pointer) (sym (no_place (found m user) e))

-- ---- two

pair_is : (u v : Option Standing) (p : Place) (a b : Inst) → Some (p, a, b) ≡ paired (option_map where_of u) (option_map where_of v) →
    (s : Standing) × (t : Standing) × (u ≡ Some s) × (v ≡ Some t) × (s.place ≡ p) × (s.inst ≡ a) × (t.inst ≡ b)
pair_is None v p a b e = absurd (some_none e)
pair_is (Some s) None p a b e = absurd (some_none e)
pair_is (Some s) (Some t) p a b e =
    let same = some_is e in
    (s, t, refl, refl, sym (ap (λ (w : Place × Inst × Inst). w.0) same), sym (ap (λ (w : Place × Inst × Inst). w.1) same), sym (ap (λ (w : Place × Inst × Inst). w.2) same))

module _ (m : Module) (i j : Id) (p : Place) (a b : Inst) (e : Some (p, a, b) ≡ paired (option_map where_of (found m i)) (option_map where_of (found m j))) where
  pub paired_conflict : (r : Bool) → r ≡ conflict_in m (block_at m p) a b → r ≡ conflict m i j
  paired_conflict r h =
      let q = pair_is (found m i) (found m j) p a b e in
      let s = q.0 in
      let t = q.1 in
      h ∙ ap (λ v. conflict_in m (block_at m v) a b) (sym q.4) ∙ ap (λ l. conflict_in m l a b) (found_block i s m q.2).0
      ∙ ap (λ k. conflict_in m s.block k b) (sym q.5) ∙ ap (λ k. conflict_in m s.block s.inst k) (sym q.6)
      ∙ sym (ap (λ u. conflict_at m u (found m j)) q.2 ∙ ap (conflict_at m (Some s)) q.3)

  pub paired_names : (x : Id) → (on_access (block_at m p) (access_of a) x || on_access (block_at m p) (access_of b) x) ≡ true → conflict_names m i j x ≡ true
  paired_names x h =
      let q = pair_is (found m i) (found m j) p a b e in
      let s = q.0 in
      or_right (same_id i x || same_id j x) (on_both (found m i) (found m j) x)
      (ap (λ u. on_both u (found m j) x) q.2 ∙ ap (λ u. on_both (Some s) u x) q.3
      ∙ ap (λ k. on_access s.block (access_of k) x || on_access s.block (access_of (q.1).inst) x) q.5 ∙ ap (λ k. on_access s.block (access_of a) x || on_access s.block (access_of k) x) q.6
      ∙ ap (λ l. on_access l (access_of a) x || on_access l (access_of b) x) (sym (found_block i s m q.2).0)
      ∙ ap (λ v. on_access (block_at m v) (access_of a) x || on_access (block_at m v) (access_of b) x) q.4 ∙ h)

pub both_names : (m : Module) (i j x : Id) → (same_id i x || same_id j x) ≡ true → conflict_names m i j x ≡ true
both_names m i j x h = or_left (same_id i x || same_id j x) (on_both (found m i) (found m j) x) h
