-- What each command makes of a module: the text to write, or the place of the first word that does not fit the module.
use Rattle.std.specs.Prelude.{◌≡◌, ℕ, ◌+◌, Option, None, Some, Result, Ok, Err, List, slice_get}
use Rattle.ir_types.specs.declared.ty.Ty.{Ty}
use Rattle.ir_types.specs.declared.ty.Ty.TheVariants.{Void}
use Rattle.ir_types.specs.declared.func.Func.{Func}
use Rattle.ir_types.specs.declared.module.Module.{Module}
use Rattle.ir_print.specs.Text.{text_of}
use Rattle.ir_model.specs.Refines.{ModuleRefines}
use Rattle.ir_model.specs.Run.{functions_of, run_of}
use Rattle.vx_serial.specs.Pair.{pair_of}
use Rattle.rf_text.specs.Again.{IsReadAgain}
use Rattle.vec_words.specs.declared.commands.Command.{Command}
use Rattle.vec_words.specs.declared.commands.Command.TheVariants.{Print, Opt, Run}
use Rattle.vec_words.specs.declared.starts.Start.{Start}
use Rattle.vec_words.specs.Starts.{start_of}
use Rattle.vec_words.specs.Outcomes.{text_of_outcome}

-- the type that a function returns
abbrev pub ret_of : Option Func → Ty
ret_of None = Void
ret_of (Some f) = f.ret

abbrev pub returned_by : Module → ℕ → Ty
returned_by m func = ret_of (slice_get (functions_of m.items) func)

-- the text of a run under a bound; the words of `run` follow three others
abbrev pub outcome_from : Module → ℕ → Result Start ℕ → Result (List ℕ) ℕ
outcome_from m steps (Err place) = Err (place + 3)
outcome_from m steps (Ok s) = Ok (text_of_outcome (run_of m s.func s.args s.memory steps) (returned_by m s.func))

-- the pass of `opt`: two neighbouring stores are joined
abbrev pub optimized : Module → Module
optimized m = pair_of m

-- `print` leaves the module, `opt` makes of it what its pass does, `run` runs a function of it
abbrev pub result_of : Command → Module → Result (List ℕ) ℕ
result_of Print m = Ok (text_of m)
result_of Opt m = Ok (text_of (optimized m))
result_of (Run steps words) m = outcome_from m steps (start_of m words)

-- a module that `opt` makes of another
pub record IsOptimized (m n : Module) : Type 0 where
  -- what is written is its text
  pub written : result_of Opt m ≡ Ok (text_of n)
  -- it is what the pass makes of the other
  pub made : n ≡ optimized m
  -- it may stand for the other, for every function, all fitting arguments and memories and every bound
  pub refines : ModuleRefines n m
  -- its text is read again as it, with its ids given anew, and spells that
  pub again : IsReadAgain n

-- what a command promises of what it writes: what `print` writes is read again as the module, with its ids given anew; what `opt`
-- writes is the text of one module that may stand for what was read, and is read again too
abbrev pub Promises : Command → Module → Type 0
Promises Print m = IsReadAgain m
Promises Opt m = (n : Module) × IsOptimized m n
Promises (Run steps words) m = Unit {0}
