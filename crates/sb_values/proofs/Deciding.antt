-- What is tested of a change is whether it fits.
use Rattle.std.proofs.Common.{◌≡◌, refl, sym, ap, ◌∙◌, subst, ℕ, suc, ◌+◌, ◌<◌, Bool, true, false, not, ◌&&◌, ◌||◌, nat_lt, Option, None, Some, List, [], ◌∷◌, length, cond, slice_get, is_some, arith}
use Rattle.std.specs.Prelude.{option_map}
use Rattle.std.proofs.lemmas.Bool.Decides.{nat_tests}
use Rattle.std.specs.List.{All}
use Rattle.std.proofs.lemmas.List.Elements.{All-nil, All-cons}
use Rattle.ir_types.specs.declared.id.Id.{Id}
use Rattle.ir_types.specs.declared.id.Use.{Use}
use Rattle.ir_types.specs.declared.ty.Ty.{Ty}
use Rattle.ir_types.specs.declared.opd.Opd.{Opd}
use Rattle.ir_types.specs.declared.opd.Opd.TheVariants.{Val, Lit, Sym}
use Rattle.ir_types.specs.declared.func.Param.{Param}
use Rattle.ir_types.specs.declared.func.Func.{Func}
use Rattle.ir_types.specs.declared.module.Module.{Module}
use Rattle.ir_types.specs.Available.{same_id}
use Rattle.ir_types.specs.Typed.{same_ty}
use Rattle.ir_types.specs.Formed.{is_phi, is_alloca, is_terminator}
use Rattle.ir_types.proofs.Formed.{Every, every_of_all}
use Rattle.ir_types.proofs.SameTypes.{same_is, same_itself}
use Rattle.vx_view.specs.declared.change.Change.{Change}
use Rattle.vx_view.specs.declared.change.Change.TheVariants.{Insert, Remove, Move, Replace, SetOperand}
use Rattle.vx_view.specs.Answers.{funcs_of, param_in, param_of, either, found, Standing, uses_of}
use Rattle.vx_view.specs.Changes.{IsNeither, IsEither, IsThere, Stands, SameType, Fits}
use Rattle.vx_view.specs.Uses.{times, IsExact}
use Rattle.vx_view.specs.UsesAfter.{Contents}
use Rattle.vx_view.specs.Views.{same_place}
use Rattle.vx_view.proofs.Blocks.{place_itself, place_is}
use Rattle.sb_uses.specs.Places.{is_some_use}
use Rattle.sb_uses.proofs.Segments.{use-itself}
use Rattle.sb_lines.specs.Arena.{Told, told_of}
use Rattle.sb_lines.specs.Params.{spot_of, spot_from}
use Rattle.sb_values.specs.Fitting.{told, stands, is_known, is_there, all_there, is_place, is_movable, is_removable, same_types, same_type, holds, fits}

-- ---- truth

and_both : (a b : Bool) → (a && b) ≡ true → (a ≡ true) × (b ≡ true)
and_both true b e = (refl, e)
and_both false b e = absurd cc

both_and : (a b : Bool) → a ≡ true → b ≡ true → (a && b) ≡ true
both_and true b e r = r
both_and false b e r = absurd cc

not_so : (b : Bool) → not b ≡ true → b ≡ false
not_so true e = cc
not_so false e = refl

so_not : (b : Bool) → b ≡ false → not b ≡ true
so_not true e = cc
so_not false e = refl

-- ---- what is there

neither_known : {A B : Type 0} (a : Option A) (b : Option B) → not (is_some a || is_some b) ≡ true → IsNeither a b
neither_known None None e = tt
neither_known None (Some b) e = absurd cc
neither_known (Some a) b e = absurd cc

known_neither : {A B : Type 0} (a : Option A) (b : Option B) → IsNeither a b → not (is_some a || is_some b) ≡ true
known_neither None None e = refl
known_neither None (Some b) e = absurd e
known_neither (Some a) None e = absurd e
known_neither (Some a) (Some b) e = absurd e

known_either : {A B : Type 0} (a : Option A) (b : Option B) → (is_some a || is_some b) ≡ true → IsEither a b
known_either None None e = absurd cc
known_either None (Some b) e = tt
known_either (Some a) None e = tt
known_either (Some a) (Some b) e = tt

either_known : {A B : Type 0} (a : Option A) (b : Option B) → IsEither a b → (is_some a || is_some b) ≡ true
either_known None None e = absurd e
either_known None (Some b) e = refl
either_known (Some a) b e = refl

-- what is kept of an id is there where the id is
told_known : {A B : Type 0} (f : A → B) (o : Option A) → is_some (option_map f o) ≡ is_some o
told_known f None = refl
told_known f (Some a) = refl

spot_known : (x : Id) (k : ℕ) (fs : List Func) → is_some (spot_from x k fs) ≡ is_some (param_of x fs)
spot_known x k [] = refl
spot_known x k (f ∷ fs) = by_param (param_in x f.params) (spot_known x (suc k) fs) where
  by_param : (o : Option Param) → is_some (spot_from x (suc k) fs) ≡ is_some (param_of x fs) → is_some (either (option_map (spot_of k) o) (spot_from x (suc k) fs)) ≡ is_some (either o (param_of x fs))
  by_param None more = more
  by_param (Some p) more = refl

known_is : (m : Module) (x : Id) → is_known m x ≡ (is_some (param_of x (funcs_of m.items)) || is_some (found m x))
known_is m x = ap (λ b. b || is_some (told m x)) (spot_known x 0 (funcs_of m.items)) ∙ ap (λ b. is_some (param_of x (funcs_of m.items)) || b) (told_known told_of (found m x))

less_so : (a b : ℕ) → nat_lt a b ≡ true → a < b
less_so a b e = grind (arith, nat_tests)

so_less : (a b : ℕ) → a < b → nat_lt a b ≡ true
so_less a b e = grind (arith, nat_tests)

module _ (m : Module) where
  there_so : (o : Opd) → is_there m o ≡ true → IsThere m o
  there_so (Val id) e = known_either (param_of id (funcs_of m.items)) (found m id) (sym (known_is m id) ∙ e)
  there_so (Lit l) e = tt
  there_so (Sym g) e = less_so g (length m.globals) e

  so_there : (o : Opd) → IsThere m o → is_there m o ≡ true
  so_there (Val id) e = known_is m id ∙ either_known (param_of id (funcs_of m.items)) (found m id) e
  so_there (Lit l) e = refl
  so_there (Sym g) e = so_less g (length m.globals) e

  all_so : (os : List Opd) → all_there m os ≡ true → All (IsThere m) os
  all_so [] e = All-nil (IsThere m)
  all_so (o ∷ os) e = let r = and_both (is_there m o) (all_there m os) e in All-cons (IsThere m) o os (there_so o r.0) (all_so os r.1)

  every_so : (os : List Opd) → Every (IsThere m) os → all_there m os ≡ true
  every_so [] e = refl
  every_so (o ∷ os) e = both_and (is_there m o) (all_there m os) (so_there o e.0) (every_so os e.1)

  so_all : (os : List Opd) → All (IsThere m) os → all_there m os ≡ true
  so_all os e = every_so os (every_of_all (IsThere m) os e)

  stands_so : (x : Id) (test : Told → Bool) → stands (told m x) test ≡ true → Stands m x (λ s. test (told_of s) ≡ true)
  stands_so x test e = by_found (found m x) refl e where
    no : false ≡ true → ⊥
    no r = cc

    by_found : (o : Option Standing) → found m x ≡ o → stands (option_map told_of o) test ≡ true → Stands m x (λ s. test (told_of s) ≡ true)
    by_found None t r = absurd (no r)
    by_found (Some s) t r = (s, t, r)

  so_stands : (x : Id) (test : Told → Bool) (s : Standing) → found m x ≡ Some s → test (told_of s) ≡ true → stands (told m x) test ≡ true
  so_stands x test s e r = ap (λ o. stands (option_map told_of o) test) e ∙ r

-- ---- types

types_so : (t u : Option Ty) → same_types t u ≡ true → t ≡ u
types_so None None e = refl
types_so None (Some u) e = absurd cc
types_so (Some t) None e = absurd cc
types_so (Some t) (Some u) e = ap Some (same_is t u e)

so_types : (t u : Option Ty) → t ≡ u → same_types t u ≡ true
so_types t u e = subst (λ v. same_types t v ≡ true) e (itself t) where
  itself : (v : Option Ty) → same_types v v ≡ true
  itself None = refl
  itself (Some v) = same_itself v

-- ---- uses

no_use : (us vs : List Use) → ((u : Use) → times u us ≡ times u vs) → us ≡ [] → vs ≡ []
no_use us [] same e = refl
no_use us (v ∷ vs) same e = absurd (omega (arith, none, some)) where
  none : 0 ≡ times v (v ∷ vs)
  none = ap (times v) (sym e) ∙ same v

  some : times v (v ∷ vs) ≡ 1 + times v vs
  some = ap (λ b. cond b (1 + times v vs) (times v vs)) (use-itself v)

is_empty : (us : List Use) → is_some_use us ≡ false → us ≡ []
is_empty [] e = refl
is_empty (u ∷ us) e = absurd cc

module _ (s : Contents) (exact : IsExact s.own s.lists) where
  unused_so : (x : Id) → not (is_some_use (s.lists x)) ≡ true → uses_of x (funcs_of s.own.items) ≡ []
  unused_so x e = no_use (s.lists x) (uses_of x (funcs_of s.own.items)) (exact.same x) (is_empty (s.lists x) (not_so (is_some_use (s.lists x)) e))

  so_unused : (x : Id) → uses_of x (funcs_of s.own.items) ≡ [] → not (is_some_use (s.lists x)) ≡ true
  so_unused x e = ap (λ us. not (is_some_use us)) (no_use (uses_of x (funcs_of s.own.items)) (s.lists x) (λ u. sym (exact.same x u)) e)

  -- ---- changes

  pub fits_so : (c : Change) → fits s c ≡ true → Fits s.own c
  fits_so (Insert x new) e =
      let all = and_both (stands (told s.own x) (λ t. is_place t.inst.op) && not (is_known s.own new.id)) (all_there s.own new.opds) e in
      let both = and_both (stands (told s.own x) (λ t. is_place t.inst.op)) (not (is_known s.own new.id)) all.0 in
      let at = stands_so s.own x (λ t. is_place t.inst.op) both.0 in
      let fresh : not (is_some (param_of new.id (funcs_of s.own.items)) || is_some (found s.own new.id)) ≡ true = ap not (sym (known_is s.own new.id)) ∙ both.1 in
      ((at.0, at.1, not_so (is_phi at.0.inst.op) at.2), neither_known (param_of new.id (funcs_of s.own.items)) (found s.own new.id) fresh, all_so s.own new.opds all.1)
  fits_so (Remove x) e =
      let all = and_both (stands (told s.own x) (λ t. is_removable t.inst.op)) (not (is_some_use (s.lists x))) e in
      let at = stands_so s.own x (λ t. is_removable t.inst.op) all.0 in
      let op = at.0.inst.op in
      let last = and_both (not (is_phi op) && not (is_alloca op)) (not (is_terminator op)) at.2 in
      let first = and_both (not (is_phi op)) (not (is_alloca op)) last.0 in
      ((at.0, at.1, (not_so (is_phi op) first.0, not_so (is_alloca op) first.1, not_so (is_terminator op) last.1)), unused_so x all.1)
  fits_so (Move y x) e =
      let all = and_both (stands (told s.own x) (λ t. is_place t.inst.op && stands (told s.own y) (λ u. same_place u.place t.place && is_movable u.inst.op))) (not (same_id y x)) e in
      let at = stands_so s.own x (λ t. is_place t.inst.op && stands (told s.own y) (λ u. same_place u.place t.place && is_movable u.inst.op)) all.0 in
      let here = and_both (is_place at.0.inst.op) (stands (told s.own y) (λ u. same_place u.place at.0.place && is_movable u.inst.op)) at.2 in
      let other = stands_so s.own y (λ u. same_place u.place at.0.place && is_movable u.inst.op) here.1 in
      let rest = and_both (same_place other.0.place at.0.place) (is_movable other.0.inst.op) other.2 in
      let ops = and_both (not (is_phi other.0.inst.op)) (not (is_terminator other.0.inst.op)) rest.1 in (
        (
          at.0,
          at.1,
          (
            not_so (is_phi at.0.inst.op) here.0,
            (other.0, other.1, (place_is other.0.place at.0.place rest.0, not_so (is_phi other.0.inst.op) ops.0, not_so (is_terminator other.0.inst.op) ops.1)),
          ),
        ),
        not_so (same_id y x) all.1,
      )
  fits_so (Replace new) e =
      let all = and_both (stands (told s.own new.id) (λ t. same_ty t.inst.ty new.ty)) (all_there s.own new.opds) e in
      let at = stands_so s.own new.id (λ t. same_ty t.inst.ty new.ty) all.0 in
      ((at.0, at.1, same_is at.0.inst.ty new.ty at.2), all_so s.own new.opds all.1)
  fits_so (SetOperand x slot o) e =
      let all = and_both (stands (told s.own x) (λ t. holds (slice_get t.inst.opds slot) (λ old. same_type s.own t.place.func old o))) (is_there s.own o) e in
      let at = stands_so s.own x (λ t. holds (slice_get t.inst.opds slot) (λ old. same_type s.own t.place.func old o)) all.0 in
      ((at.0, at.1, by_slot at.0 (slice_get at.0.inst.opds slot) refl at.2), there_so s.own o all.1)
    where
      no : false ≡ true → ⊥
      no r = cc

      by_slot : (t : Standing) (u : Option Opd) → slice_get t.inst.opds slot ≡ u → holds u (λ old. same_type s.own t.place.func old o) ≡ true →
          (old : Opd) × (slice_get t.inst.opds slot ≡ Some old) × SameType s.own t old o
      by_slot t None q r = absurd (no r)
      by_slot t (Some old) q r = (old, q, types_so _ _ r)

  pub so_fits : (c : Change) → Fits s.own c → fits s c ≡ true
  so_fits (Insert x new) e =
      both_and (stands (told s.own x) (λ t. is_place t.inst.op) && not (is_known s.own new.id)) (all_there s.own new.opds)
      (both_and (stands (told s.own x) (λ t. is_place t.inst.op)) (not (is_known s.own new.id))
      (so_stands s.own x (λ t. is_place t.inst.op) e.0.0 e.0.1 (so_not (is_phi e.0.0.inst.op) e.0.2))
      (ap not (known_is s.own new.id) ∙ known_neither (param_of new.id (funcs_of s.own.items)) (found s.own new.id) e.1))
      (so_all s.own new.opds e.2)
  so_fits (Remove x) e =
      let op = e.0.0.inst.op in
      both_and (stands (told s.own x) (λ t. is_removable t.inst.op)) (not (is_some_use (s.lists x)))
      (so_stands s.own x (λ t. is_removable t.inst.op) e.0.0 e.0.1
      (both_and (not (is_phi op) && not (is_alloca op)) (not (is_terminator op))
      (both_and (not (is_phi op)) (not (is_alloca op)) (so_not (is_phi op) e.0.2.0) (so_not (is_alloca op) e.0.2.1)) (so_not (is_terminator op) e.0.2.2)))
      (so_unused x e.1)
  so_fits (Move y x) e =
      let t = e.0.0 in
      let u = e.0.2.1.0 in
      both_and (stands (told s.own x) (λ t. is_place t.inst.op && stands (told s.own y) (λ u. same_place u.place t.place && is_movable u.inst.op))) (not (same_id y x))
      (so_stands s.own x (λ t. is_place t.inst.op && stands (told s.own y) (λ u. same_place u.place t.place && is_movable u.inst.op)) t e.0.1
      (both_and (is_place t.inst.op) (stands (told s.own y) (λ u. same_place u.place t.place && is_movable u.inst.op)) (so_not (is_phi t.inst.op) e.0.2.0)
      (so_stands s.own y (λ u. same_place u.place t.place && is_movable u.inst.op) u e.0.2.1.1
      (both_and (same_place u.place t.place) (is_movable u.inst.op) (ap (λ p. same_place p t.place) e.0.2.1.2.0 ∙ place_itself t.place)
      (both_and (not (is_phi u.inst.op)) (not (is_terminator u.inst.op)) (so_not (is_phi u.inst.op) e.0.2.1.2.1) (so_not (is_terminator u.inst.op) e.0.2.1.2.2))))))
      (so_not (same_id y x) e.1)
  so_fits (Replace new) e =
      both_and (stands (told s.own new.id) (λ t. same_ty t.inst.ty new.ty)) (all_there s.own new.opds)
      (so_stands s.own new.id (λ t. same_ty t.inst.ty new.ty) e.0.0 e.0.1 (ap (λ v. same_ty v new.ty) e.0.2 ∙ same_itself new.ty))
      (so_all s.own new.opds e.1)
  so_fits (SetOperand x slot o) e =
      let t = e.0.0 in
      let old = e.0.2.0 in
      both_and (stands (told s.own x) (λ t. holds (slice_get t.inst.opds slot) (λ old. same_type s.own t.place.func old o))) (is_there s.own o)
      (so_stands s.own x (λ t. holds (slice_get t.inst.opds slot) (λ old. same_type s.own t.place.func old o)) t e.0.1
      (ap (λ u. holds u (λ old. same_type s.own t.place.func old o)) e.0.2.1 ∙ so_types _ _ e.0.2.2))
      (so_there s.own o e.1)

  pub fits_not : (c : Change) → fits s c ≡ false → Fits s.own c → ⊥
  fits_not c e r = true_false (sym (so_fits c r) ∙ e) where
    true_false : true ≡ false → ⊥
    true_false q = cc
