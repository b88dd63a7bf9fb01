-- How a run starts: the function, its arguments and the memory that the words after the options say.
-- Objects are numbered: those of the globals in the module's order, and then those that arguments make, in order.
use Rattle.std.specs.Prelude.{◌≡◌, ℕ, suc, cond, Option, Some, None, Result, Ok, Err, List, [], ◌∷◌, ◌++◌, length, bytes_eq, slice_get}
use Rattle.vx_digits.specs.Optional.{◌>>=◌}
use Rattle.ir_types.specs.declared.func.Func.{Func}
use Rattle.ir_types.specs.declared.module.Module.{Module}
use Rattle.ir_model.specs.Run.{functions_of}
use Rattle.ir_model.specs.Fits.{Fits}
use Rattle.vec_words.specs.declared.call.Arg.{Arg}
use Rattle.vec_words.specs.declared.call.Arg.TheVariants.{Made}
use Rattle.vec_words.specs.declared.global.Given.{Given}
use Rattle.vec_words.specs.declared.starts.Start.{Start}
use Rattle.vec_words.specs.declared.run_words.Called.{Called}
use Rattle.vec_words.specs.Calls.{call_of}
use Rattle.vec_words.specs.Arguments.{values_after}
use Rattle.vec_words.specs.Globals.{untouched, with_words}

-- the first function of a name with its number, where the first of these has the number `n`
abbrev pub named_from : List ℕ → ℕ → List Func → Option (ℕ × Func)
named_from name n [] = None
named_from name n (f ∷ fs) = cond (bytes_eq f.name name) (Some (n, f)) (named_from name (suc n) fs)

-- the objects after others that arguments make
abbrev pub made_after : List (List (Option ℕ)) → List Arg → List (List (Option ℕ))
made_after before [] = before
made_after before (Made bytes ∷ rest) = made_after (before ++ bytes ∷ []) rest
made_after before (_ ∷ rest) = made_after before rest

-- what a call word says, where it fits the module
unfoldable pub called_in : Module → List ℕ → Option Called
called_in m w = do
  call ← call_of w
  found ← named_from call.name 0 (functions_of m.items)
  values ← values_after m.globals (length m.globals) [] found.1.params call.args
  Some (record { func = found.0; made = call.args; args = values })

abbrev pub started : Called → Result Given ℕ → Result Start ℕ
started c (Err at) = Err at
started c (Ok g) = Ok (record { func = c.func; args = c.args; memory = made_after g.memory c.made })

abbrev pub start_called : Module → List (List ℕ) → Option Called → Result Start ℕ
start_called m ws None = Err 0
start_called m ws (Some c) = started c (with_words m.globals (untouched (length m.globals)) 1 ws)

-- the start that a call word and global words say, or the place from 0 of the first word that does not fit
abbrev pub start_of : Module → List (List ℕ) → Result Start ℕ
start_of m [] = Err 0
start_of m (c ∷ ws) = start_called m ws (called_in m c)

-- the function of the start's number is there, and its arguments and its memory fit it
pub record IsFit (m : Module) (s : Start) : Type 0 where
  pub func : Func
  pub found : slice_get (functions_of m.items) s.func ≡ Some func
  pub fits : Fits m func s.args s.memory
