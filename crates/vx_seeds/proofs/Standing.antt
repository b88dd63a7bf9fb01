-- An instruction of a block sees its pointer's form as the block has it.
use Rattle.std.proofs.Common.{◌≡◌, refl, sym, ap, subst, ◌∙◌, ℕ, ◌+◌, Bool, true, false, ◌&&◌, cond, take, drop, Option, None, Some, List, [], ◌∷◌, ◌++◌}
use Rattle.ir_types.specs.declared.id.Id.{Id}
use Rattle.ir_types.specs.declared.id.Place.{Place}
use Rattle.ir_types.specs.declared.inst.Inst.{Inst}
use Rattle.ir_types.specs.declared.func.Param.{Param}
use Rattle.ir_types.specs.declared.opd.Opd.{Opd}
use Rattle.ir_types.specs.declared.module.Module.{Module}
use Rattle.std.proofs.lemmas.List.{take-append-drop, append_assoc, append-nil}
use Rattle.ir_types.specs.declared.ty.Ty.{Ty}
use Rattle.ir_types.specs.declared.op.Op.{Op}
use Rattle.ir_types.specs.declared.op.Op.TheVariants.{Store}
use Rattle.ir_types.specs.Available.{same_id}
use Rattle.ir_types.specs.Typed.{is_scalar}
use Rattle.ir_types.proofs.Among.{same_itself}
use Rattle.vx_view.specs.Conflicts.{access_by, bytes_of}
use Rattle.vx_serial.specs.Regions.{Spot, spot_by, spots_among}
use Rattle.vx_seeds.specs.Spots.{spot_in, stored_through, pointer_of, spot_through, IsThere}
use Rattle.ir_types.specs.Formed.{IsFormed, is_store}
use Rattle.vx_view.specs.Answers.{funcs_of, param_of, find, found, Standing, of_value}
use Rattle.vx_view.specs.Addresses.{form, form_in}
use Rattle.vx_view.specs.Views.{same_place}
use Rattle.vx_view.specs.Blocks.{block_at, in_place}
use Rattle.vx_view.proofs.Blocks.{standing_is, form_at, place_is}

no_none : {A : Type 0} {a : A} → None ≡ Some a → ⊥
no_none e = cc

pub form_here : (m : Module) → IsFormed m → (place : Place) (x : Id) (i : Inst) → find x (block_at m place) ≡ Some i → (p : Opd) → form m x p ≡ form_in (block_at m place) p
form_here m h place x i e p = by_value (param_of x (funcs_of m.items)) (found m x) refl (standing_is m h place x ∙ e) where
  by_place : (s : Standing) (b : Bool) → same_place s.place place ≡ b → found m x ≡ Some s → cond b (Some s.inst) None ≡ Some i → form m x p ≡ form_in (block_at m place) p
  by_place s true t f r = form_at m x s f p ∙ ap (λ q. form_in (block_at m q) p) (place_is s.place place t)
  by_place s false t f r = absurd (no_none r)

  by_value : (u : Option Param) (v : Option Standing) → found m x ≡ v → in_place place (of_value u v) ≡ Some i → form m x p ≡ form_in (block_at m place) p
  by_value (Some q) v f r = absurd (no_none r)
  by_value None None f r = absurd (no_none r)
  by_value None (Some s) f r = by_place s (same_place s.place place) refl f r

-- an instruction among others is found by its id, or one with that id before it is
find_there : (before : List Inst) (i : Inst) (after : List Inst) → IsThere i.id (before ++ i ∷ after)
find_there [] i after = (i, ap (λ b. cond b (Some i) (find i.id after)) (same_itself i.id))
find_there (k ∷ before) i after = by_test (same_id k.id i.id) (find_there before i after) where
  by_test : (b : Bool) → ((j : Inst) × (find i.id (before ++ i ∷ after) ≡ Some j)) → (j : Inst) × (cond b (Some k) (find i.id (before ++ i ∷ after)) ≡ Some j)
  by_test true more = (k, refl)
  by_test false more = more

pub there_at : (block : List Inst) (k : ℕ) (i : Inst) → take (k + 1) block ≡ take k block ++ i ∷ [] → IsThere i.id block
there_at block k i e =
    let whole : take k block ++ i ∷ drop (k + 1) block ≡ block = sym (append_assoc (take k block) (i ∷ []) (drop (k + 1) block)) ∙ ap (λ l. l ++ drop (k + 1) block) (sym e) ∙ take-append-drop (k + 1) block in
    subst (IsThere i.id) whole (find_there (take k block) i (drop (k + 1) block))

-- ---- what is kept of a store

abbrev spots_by : List Inst → Id → Ty → Option Opd → List Spot
spots_by block x t None = []
spots_by block x t (Some p) = record { store = x; form = form_in block p; size = bytes_of t } ∷ []

by_pointer : (block : List Inst) (i : Inst) (u : Option Opd) → spots_by block i.id i.ty u ≡ spot_through block i u
by_pointer block i None = refl
by_pointer block i (Some p) = refl

through : (block : List Inst) (x : Id) (t : Ty) (op : Op) (os : List Opd) (b : Bool) → cond (is_store op && b) (spot_by block x (access_by op t os)) [] ≡ spots_by block x t (cond b (stored_through op os) None)
through block x t (Store align) [] true = refl
through block x t (Store align) (v ∷ []) true = refl
through block x t (Store align) (v ∷ p ∷ []) true = refl
through block x t (Store align) (v ∷ p ∷ q ∷ os) true = refl
through block x t (Store align) os false = refl
through block x t _ os true = refl
through block x t _ os false = refl

-- a store through its pointer
pub spot_is : (block : List Inst) (i : Inst) → spot_in block i ≡ spot_through block i (pointer_of i)
spot_is block i = through block i.id i.ty i.op i.opds (is_scalar i.ty) ∙ by_pointer block i (pointer_of i)

pub spots_more : (block is : List Inst) (i : Inst) → spots_among block (is ++ i ∷ []) ≡ spots_among block is ++ spot_in block i
spots_more block [] i = append-nil (spot_in block i)
spots_more block (j ∷ is) i = ap (λ l. spot_in block j ++ l) (spots_more block is i) ∙ sym (append_assoc (spot_in block j) (spots_among block is) (spot_in block i))
