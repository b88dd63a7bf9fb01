-- What is said of arguments where parameters are left.
use Rattle.std.proofs.Common.{◌≡◌, ℕ, ◌<◌, ◌≤◌, None, List, [], ◌∷◌, length, refl, arith}
use Rattle.ir_types.specs.declared.func.Param.{Param}
use Rattle.ir_model.specs.declared.value.Value.{Value}
use Rattle.vec_words.specs.declared.call.Arg.{Arg}
use Rattle.vec_words.specs.Arguments.{values_after}

pub too_few : (globals : List (List ℕ)) (next : ℕ) (before : List Value) (ps : List Param) (args : List Arg) → length args < 1 → 1 ≤ length ps
    → values_after globals next before ps args ≡ None
too_few globals next before [] args h k = absurd (omega arith)
too_few globals next before (p ∷ ps) [] h k = refl
too_few globals next before (p ∷ ps) (a ∷ args) h k = absurd (omega arith)
