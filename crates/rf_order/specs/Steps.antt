-- When two neighbouring instructions may swap.
use Rattle.std.specs.Prelude.{◌≡◌, ℕ, Bool, true, false, ◌||◌, None, Some, List, [], ◌∷◌, map}
use Rattle.ir_types.specs.declared.id.Id.{Id}
use Rattle.ir_types.specs.declared.ty.Ty.{Ty}
use Rattle.ir_types.specs.declared.opd.Opd.{Opd}
use Rattle.ir_types.specs.declared.opd.Opd.TheVariants.{Val}
use Rattle.ir_types.specs.declared.inst.Inst.{Inst}
use Rattle.ir_model.specs.Values.{Env, value_of, type_of, same_id}
use Rattle.ir_model.specs.Memory.{Memory}
use Rattle.ir_model.specs.Step.{Calls, Reached, effect_of, callee_of}
use Rattle.rf_order.specs.Rows.{steps, Instead}
use Rattle.rf_order.specs.Swaps.{CallsKeepObjects, Acts, MayPass, Stays}

-- whether one of the operands is the value of an id
abbrev pub uses : Id → List Opd → Bool
uses id [] = false
uses id (Val v ∷ os) = same_id v id || uses id os
uses id (o ∷ os) = uses id os

-- what an instruction comes to in an environment, by the memory
abbrev pub acts_in : (Id → Ty) → Env → Inst → Acts
acts_in types env i m = effect_of i.op i.ty (map (type_of types) i.opds) (map (value_of env) i.opds) m

-- neither uses what the other gives, and they give values of two ids
pub record AreFree (x y : Inst) : Type 0 where
  pub second_free : uses x.id y.opds ≡ false
  pub first_free : uses y.id x.opds ≡ false
  pub differ : (z : Id) → same_id z x.id ≡ true → same_id z y.id ≡ false

-- why a second may go before a first: no call is among them and their effects may swap, or one is a call and the other stays what it is
pub data Passes (types : Id → Ty) (x y : Inst) (env : Env) (m : Memory) : Type 0 where
  BothPlain : callee_of x.op ≡ None → callee_of y.op ≡ None → MayPass (acts_in types env x) (acts_in types env y) m → Passes types x y env m
  OverCall : (callee : List ℕ) → callee_of x.op ≡ Some callee → callee_of y.op ≡ None → Stays (acts_in types env y) m → Passes types x y env m
  CallOver : (callee : List ℕ) → callee_of x.op ≡ None → callee_of y.op ≡ Some callee → Stays (acts_in types env x) m → Passes types x y env m

-- whatever calls come to that leave objects as long as they are
abbrev pub StepsSwap : Type 0
StepsSwap =
    (types : Id → Ty) (calls : Calls) → CallsKeepObjects calls → (x y : Inst) (r : Reached) → AreFree x y → Passes types x y r.state.env r.state.memory →
    Instead (steps types calls (y ∷ x ∷ []) r) (steps types calls (x ∷ y ∷ []) r)
