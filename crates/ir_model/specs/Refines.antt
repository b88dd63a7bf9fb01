-- When one outcome, and when one module, may stand for another.
use Rattle.std.specs.Prelude.{◌≡◌, ℕ, Option, None, Some, List, slice_get, ⊤}
use Rattle.std.specs.List.{AllZip}
use Rattle.ir_types.specs.declared.func.Param.{Param}
use Rattle.ir_types.specs.declared.func.Func.{Func}
use Rattle.ir_types.specs.declared.module.Item.{Item}
use Rattle.ir_types.specs.declared.module.Item.TheVariants.{Kept, Opaque, Func as FuncItem}
use Rattle.ir_types.specs.declared.module.Module.{Module}
use Rattle.ir_model.specs.declared.value.Value.{Value}
use Rattle.ir_model.specs.declared.outcome.Outcome.{Outcome}
use Rattle.ir_model.specs.declared.outcome.Outcome.TheVariants.{Returned, Undefined, Cut}
use Rattle.ir_model.specs.Values.{ValueRefines}
use Rattle.ir_model.specs.Memory.{Memory, MemoryRefines}
use Rattle.ir_model.specs.Run.{functions_of, run_of}
use Rattle.ir_model.specs.Fits.{Fits}

-- both have a value or neither has, and the values refine
abbrev pub ResultRefines : Option Value → Option Value → Type 0
ResultRefines None None = ⊤
ResultRefines (Some new) (Some old) = ValueRefines new old
ResultRefines _ _ = ⊥

-- the old run is undefined, or both end alike and value and memory refine
abbrev pub OutcomeRefines : Outcome → Outcome → Type 0
OutcomeRefines new Undefined = ⊤
OutcomeRefines (Returned new new_memory) (Returned old old_memory) = ResultRefines new old × MemoryRefines new_memory old_memory
OutcomeRefines (Cut new) (Cut old) = MemoryRefines new old
OutcomeRefines _ _ = ⊥

-- two parameters as they are written: all but their ids
pub record SameParam (new old : Param) : Type 0 where
  pub name : new.name ≡ old.name
  pub ty : new.ty ≡ old.ty
  pub attrs : new.attrs ≡ old.attrs
  pub noalias : new.noalias ≡ old.noalias

-- two functions whose headers are written alike
pub record SameHeader (new old : Func) : Type 0 where
  pub before : new.before ≡ old.before
  pub ret : new.ret ≡ old.ret
  pub name : new.name ≡ old.name
  pub params : AllZip SameParam new.params old.params
  pub after : new.after ≡ old.after

-- kept lines and opaque functions are the same, functions of the profile have the same header
abbrev pub SameItem : Item → Item → Type 0
SameItem (Kept new) (Kept old) = new ≡ old
SameItem (Opaque new) (Opaque old) = new ≡ old
SameItem (FuncItem new) (FuncItem old) = SameHeader new old
SameItem _ _ = ⊥

-- the new module may stand for the old one: the same items in number, order and headers, and for every function of the profile, all
-- fitting arguments and memories and every bound on blocks run, an outcome that refines the old one
pub record ModuleRefines (new old : Module) : Type 0 where
  pub items : AllZip SameItem new.items old.items
  pub runs : (func : ℕ) (f : Func) → slice_get (functions_of old.items) func ≡ Some f →
      (args : List Value) (memory : Memory) → Fits old f args memory → (bound : ℕ) →
      OutcomeRefines (run_of new func args memory bound) (run_of old func args memory bound)
