-- Parameters, by the functions of which they are.
use Rattle.std.specs.Prelude.{◌≡◌, refl, ℕ, suc, ◌==◌, cond, Bool, false, Option, None, Some, List, [], ◌∷◌, option_map}
use Rattle.ir_types.specs.declared.id.Id.{Id}
use Rattle.ir_types.specs.declared.ty.Ty.{Ty}
use Rattle.ir_types.specs.declared.ty.Ty.TheVariants.{Int}
use Rattle.ir_types.specs.declared.func.Param.{Param}
use Rattle.ir_types.specs.declared.func.Func.{Func}
use Rattle.ir_types.specs.declared.module.Item.{Item}
use Rattle.ir_types.specs.declared.module.Item.TheVariants.{Func as FuncItem}
use Rattle.vx_view.specs.Answers.{funcs_of, param_in, either, value, doubles}
use Rattle.sb_lines.specs.declared.params.ParamSpot.{ParamSpot}
use Rattle.sb_lines.specs.Filling.{func_after}

abbrev pub spot_of : ℕ → Param → ParamSpot
spot_of func p = record { func = func; noalias = p.noalias; ty = p.ty }

-- the parameter of an id, in the first function that has it
abbrev pub spot_from : Id → ℕ → List Func → Option ParamSpot
spot_from id func [] = None
spot_from id func (f ∷ fs) = either (option_map (spot_of func) (param_in id f.params)) (spot_from id (suc func) fs)

-- ---- function by function

abbrev pub of_func : ℕ → Option ParamSpot → Option ParamSpot
of_func func None = None
of_func func (Some s) = cond (s.func == func) (Some s) None

-- the parameter of an id in one function
abbrev pub param_there : Id → ℕ → Option Func → Option ParamSpot
param_there id func None = None
param_there id func (Some f) = option_map (spot_of func) (param_in id f.params)

-- the parameter of an id in the function k, where that is the item before which so many functions stand
abbrev pub spots_in : Id → ℕ → ℕ → Item → Option ParamSpot
spots_in id k number (FuncItem f) = cond (number == k) (option_map (spot_of number) (param_in id f.params)) None
spots_in id k number other = None

-- or is among these items
abbrev pub spots_at : Id → ℕ → ℕ → List Item → Option ParamSpot
spots_at id k number [] = None
spots_at id k number (item ∷ items) = either (spots_in id k number item) (spots_at id k (func_after number item) items)

-- ---- what is told

-- what a question for a parameter tells of it
pub record Told : Type 0 where
  pub noalias : Bool
  pub ty : Ty

abbrev pub spot_told : ParamSpot → Told
spot_told s = record { noalias = s.noalias; ty = s.ty }

abbrev pub param_told : Param → Told
param_told p = record { noalias = p.noalias; ty = p.ty }

-- ---- a worked example

the_parameter : spot_from (value 0) 0 (funcs_of doubles.items) ≡ Some (record { func = 0; noalias = false; ty = Int 8 })
the_parameter = refl

the_sum_is_none : spot_from (value 1) 0 (funcs_of doubles.items) ≡ None
the_sum_is_none = refl
