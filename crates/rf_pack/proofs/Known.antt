-- What is known of pointers: where an id leads, its value is the parameter's pointer moved by the constant.
use Rattle.std.proofs.Common.{◌≡◌, refl, sym, ap, ◌∙◌, ℕ, pos, ◌*ℤ◌, Bool, true, false, None, Some, List, [], ◌∷◌, cond}
use Rattle.std.specs.List.{AllZip}
use Rattle.std.specs.Int.{w64, int_wrap}
use Rattle.std.proofs.lemmas.Int.{int_wrap_fits}
use Rattle.std.proofs.Math.IntN.{+ℤ_idr}
use Rattle.vx_num.specs.Width.{signed}
use Rattle.vx_num.specs.Advance.{advance_of}
use Rattle.ir_types.specs.declared.id.Id.{Id}
use Rattle.ir_types.specs.declared.ty.Ty.{Ty}
use Rattle.ir_types.specs.declared.ty.Ty.TheVariants.{Void, Int, Ptr, Row}
use Rattle.ir_types.specs.declared.func.Param.{Param}
use Rattle.ir_model.specs.declared.value.Value.{Value}
use Rattle.ir_model.specs.declared.value.Value.TheVariants.{Lane as LaneValue, Row as RowValue, Ptr as PtrValue}
use Rattle.ir_model.specs.Values.{Pointer, Env, pointer_of, moved, same_id, with_value}
use Rattle.ir_model.specs.Addresses.{stepped}
use Rattle.ir_model.specs.Run.{start_env}
use Rattle.ir_model.specs.Fits.{ValueFits}
use Rattle.ir_model.proofs.Pointers.{moved-moved}
use Rattle.ir_model.proofs.Indices.{advance-low_index}
use Rattle.vx_serial.specs.Pair.{Lead, Leads, leads_at_start, set_lead, lead_on}
use Rattle.rf_pack.specs.Lanes.{OffsetFits}

-- a value is where its lead says, from the environment at the start
abbrev pub LeadHolds : Env → Lead → Value → Type 0
LeadHolds start None v = Unit {0}
LeadHolds start (Some to) v = pointer_of v ≡ moved (pointer_of (start to.0)) to.1

pub record Known (start : Env) (leads : Leads) (env : Env) : Type 0 where
  pub at : (x : Id) → LeadHolds start (leads x) (env x)

pub known-set : (start : Env) (leads : Leads) (env : Env) (id : Id) (lead : Lead) (v : Value) →
    Known start leads env → LeadHolds start lead v → Known start (set_lead leads id lead) (with_value env id v)
known-set start leads env id lead v k h = record { at = λ x. by_id x (same_id x id) }
  where
    by_id : (x : Id) (b : Bool) → LeadHolds start (cond b lead (leads x)) (cond b v (env x))
    by_id x true = h
    by_id x false = k.at x

-- a pointer that goes on by a literal number of bytes leads on
pub lead_on-holds : (start : Env) (lead : Lead) (v : Value) (c : ℕ) → LeadHolds start lead v →
    LeadHolds start (lead_on lead (Some c ∷ [])) (PtrValue (stepped 64 1 (pointer_of v) (Some c)))
lead_on-holds start None v c h = tt
lead_on-holds start (Some to) v c h =
    ap (λ p. stepped 64 1 p (Some c)) h ∙ on (pointer_of (start to.0))
  where
    step : (p : Pointer) → stepped 64 1 p (Some c) ≡ moved p (signed 64 c *ℤ pos 1)
    step None = refl
    step (Some p) = ap (λ z. Some (p.0, z)) (advance-low_index p.1 c 1)

    on : (p : Pointer) → stepped 64 1 (moved p to.1) (Some c) ≡ moved p (advance_of to.1 c 64 1)
    on p = step (moved p to.1) ∙ moved-moved p to.1 (signed 64 c *ℤ pos 1)

-- ---- at the start

pub moved_nowhere : (p : Pointer) → OffsetFits p → moved p (pos 0) ≡ p
moved_nowhere None fits = refl
moved_nowhere (Some p) fits = ap (λ z. Some (p.0, z)) (ap (int_wrap w64) (+ℤ_idr p.1) ∙ int_wrap_fits w64 p.1 fits)

pub value_offset : (objects : ℕ) (ty : Ty) (v : Value) → ValueFits objects ty v → OffsetFits (pointer_of v)
value_offset objects ty (LaneValue lane) fits = tt
value_offset objects ty (RowValue lanes) fits = tt
value_offset objects ty (PtrValue None) fits = tt
value_offset objects Ptr (PtrValue (Some p)) fits = fits.1
value_offset objects Void (PtrValue (Some p)) fits = elim fits [ ]
value_offset objects (Int w) (PtrValue (Some p)) fits = elim fits [ ]
value_offset objects (Row n w) (PtrValue (Some p)) fits = elim fits [ ]

pub start_offsets : (objects : ℕ) (ps : List Param) (vs : List Value) → AllZip (λ (p : Param) v. ValueFits objects p.ty v) ps vs →
    (x : Id) → OffsetFits (pointer_of (start_env ps vs x))
start_offsets objects [] [] fits x = tt
start_offsets objects [] (v ∷ vs) fits x = tt
start_offsets objects (p ∷ ps) [] fits x = tt
start_offsets objects (p ∷ ps) (v ∷ vs) fits x = by_id (start_offsets objects ps vs fits.1 x) (same_id x p.id)
  where
    by_id : OffsetFits (pointer_of (start_env ps vs x)) → (b : Bool) → OffsetFits (pointer_of (cond b v (start_env ps vs x)))
    by_id rest true = value_offset objects p.ty v fits.0
    by_id rest false = rest

pub lead_at_start : (start : Env) (ps : List Param) → ((x : Id) → OffsetFits (pointer_of (start x))) → (x : Id) → LeadHolds start (leads_at_start ps x) (start x)
lead_at_start start [] fits x = tt
lead_at_start start (p ∷ ps) fits x = by_id (lead_at_start start ps fits x) (same_id x p.id)
  where
    by_id : LeadHolds start (leads_at_start ps x) (start x) → (b : Bool) → LeadHolds start (cond b (Some (x, pos 0)) (leads_at_start ps x)) (start x)
    by_id rest true = sym (moved_nowhere (pointer_of (start x)) (fits x))
    by_id rest false = rest

pub known_at_start : (start : Env) (ps : List Param) → ((x : Id) → OffsetFits (pointer_of (start x))) → Known start (leads_at_start ps) start
known_at_start start ps fits = record { at = lead_at_start start ps fits }
