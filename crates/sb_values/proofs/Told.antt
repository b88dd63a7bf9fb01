-- What is told of an id is what the module answers.
use Rattle.std.proofs.Common.{◌≡◌, refl, ap, ◌∙◌, ℕ, suc, Bool, true, false, is_some, Option, None, Some, List, [], ◌∷◌}
use Rattle.std.specs.Prelude.{option_map, option_and_then}
use Rattle.ir_types.specs.declared.id.Id.{Id}
use Rattle.ir_types.specs.declared.inst.Inst.{Inst}
use Rattle.ir_types.specs.declared.func.Param.{Param}
use Rattle.ir_types.specs.declared.func.Func.{Func}
use Rattle.vx_view.specs.declared.answer.Answer.{Answer}
use Rattle.vx_view.specs.declared.answer.Answer.TheVariants as says
use Rattle.vx_view.specs.Answers.{param_in, param_of, either, Standing, of_value, beside}
use Rattle.sb_lines.specs.Arena.{Told, told_of}
use Rattle.sb_lines.specs.Params.{spot_of, spot_from}
use Rattle.sb_lines.specs.declared.params.ParamSpot.{ParamSpot}
use Rattle.sb_values.specs.Answering.{id_in}

abbrev param_answer : Option ParamSpot → Answer → Answer
param_answer None other = other
param_answer (Some p) other = says.Param p.noalias p.ty

abbrev of_told : Option Told → Answer
of_told None = says.Nothing
of_told (Some t) = says.Inst t.place t.inst

abbrev param_says : Option Param → Answer → Answer
param_says None other = other
param_says (Some p) other = says.Param p.noalias p.ty

spots_say : (x : Id) (k : ℕ) (fs : List Func) (other : Answer) → param_answer (spot_from x k fs) other ≡ param_says (param_of x fs) other
spots_say x k [] other = refl
spots_say x k (f ∷ fs) other = by_param (param_in x f.params) (spots_say x (suc k) fs other) where
  by_param : (o : Option Param) → param_answer (spot_from x (suc k) fs) other ≡ param_says (param_of x fs) other → param_answer (either (option_map (spot_of k) o) (spot_from x (suc k) fs)) other ≡ param_says (either o (param_of x fs)) other
  by_param None more = more
  by_param (Some p) more = refl

-- a parameter, or what is told of an instruction
pub value_told : (x : Id) (fs : List Func) (s : Option Standing) → param_answer (spot_from x 0 fs) (of_told (option_map told_of s)) ≡ of_value (param_of x fs) s
value_told x fs s = spots_say x 0 fs (of_told (option_map told_of s)) ∙ by_both (param_of x fs) s where
  by_both : (p : Option Param) (o : Option Standing) → param_says p (of_told (option_map told_of o)) ≡ of_value p o
  by_both None None = refl
  by_both None (Some t) = refl
  by_both (Some p) o = refl

pub value_is : (x : Id) (fs : List Func) (s : Option Standing) (p : Option ParamSpot) (t : Option Told) → p ≡ spot_from x 0 fs → t ≡ option_map told_of s → param_answer p (of_told t) ≡ of_value (param_of x fs) s
value_is x fs s p t e r = ap (λ q. param_answer q (of_told t)) e ∙ ap (λ u. param_answer (spot_from x 0 fs) (of_told u)) r ∙ value_told x fs s

abbrev unless : Bool → Option Id → Option Id
unless true at = None
unless false at = at

known_param : (x : Id) (k : ℕ) (fs : List Func) → is_some (spot_from x k fs) ≡ is_some (param_of x fs)
known_param x k [] = refl
known_param x k (f ∷ fs) = by_param (param_in x f.params) (known_param x (suc k) fs) where
  by_param : (o : Option Param) → is_some (spot_from x (suc k) fs) ≡ is_some (param_of x fs) → is_some (either (option_map (spot_of k) o) (spot_from x (suc k) fs)) ≡ is_some (either o (param_of x fs))
  by_param None more = more
  by_param (Some p) more = refl

-- beside a parameter stands no instruction, and beside one its neighbour
pub beside_is : (x : Id) (fs : List Func) (s : Option Standing) (next : List Inst → Option Id) (b : Bool) → b ≡ is_some (spot_from x 0 fs) →
    unless b (option_and_then (λ (t : Standing). next t.block) s) ≡ id_in (beside (param_of x fs) s next)
beside_is x fs s next b e = ap (λ c. unless c (option_and_then (λ (t : Standing). next t.block) s)) (e ∙ known_param x 0 fs) ∙ by_both (param_of x fs) s where
  by_both : (p : Option Param) (o : Option Standing) → unless (is_some p) (option_and_then (λ (t : Standing). next t.block) o) ≡ id_in (beside p o next)
  by_both None None = refl
  by_both None (Some t) = refl
  by_both (Some p) o = refl
