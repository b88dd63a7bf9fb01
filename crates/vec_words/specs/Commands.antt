-- The command that words are, or the place of the word that cannot stand, and the rule of that place.
use Rattle.std.specs.Prelude.{◌≡◌, refl, ℕ, suc, ◌<◌, ◌≤◌, cond, Option, Some, None, Result, Ok, Err, List, [], ◌∷◌, ◌++◌, take, length, bytes_eq, codes}
use Rattle.vx_digits.specs.Numbers.{number_of, one_more}
use Rattle.vec_words.specs.declared.commands.Command.{Command}
use Rattle.vec_words.specs.declared.commands.Command.TheVariants.{Print, Opt, Run}
use Rattle.vec_words.specs.Numbers.{steps_of, plain_of}
use Rattle.vec_words.specs.Calls.{is_some, call_of, contents_of}
use Rattle.vec_words.specs.Pieces.{cut, closed}

-- a command without words of its own
abbrev pub alone : Command → List (List ℕ) → Result Command ℕ
alone c [] = Ok c
alone c (_ ∷ _) = Err 1

-- the place of the first word that is no global word, from a place on
abbrev pub bad_from : ℕ → List (List ℕ) → Option ℕ
bad_from at [] = None
bad_from at (g ∷ gs) = cond (is_some (contents_of g)) (bad_from (suc at) gs) (Some at)

-- the command, unless there is a faulty word
abbrev pub unless : Option ℕ → Command → Result Command ℕ
unless None c = Ok c
unless (Some k) c = Err k

-- a call word and global words
abbrev pub with_call : ℕ → List (List ℕ) → Result Command ℕ
with_call steps [] = Err 3
with_call steps (c ∷ gs) = cond (is_some (call_of c)) (unless (bad_from 4 gs) (Run steps (c ∷ gs))) (Err 3)

abbrev pub with_bound : Option ℕ → List (List ℕ) → Result Command ℕ
with_bound None ws = Err 2
with_bound (Some steps) ws = with_call steps ws

-- what stands after `--steps`
abbrev pub with_steps : List (List ℕ) → Result Command ℕ
with_steps [] = Err 2
with_steps (n ∷ ws) = with_bound (steps_of n) ws

-- what stands after `run`
abbrev pub run_of : List (List ℕ) → Result Command ℕ
run_of [] = Err 1
run_of (o ∷ ws) = cond (bytes_eq o (codes "--steps")) (with_steps ws) (Err 1)

-- `print` alone, `opt` alone, or `run --steps N CALL GLOBAL..`; else the place from 0 of the first word that cannot stand, or the
-- number of words where one is missing
abbrev pub command_of : List (List ℕ) → Result Command ℕ
command_of [] = Err 0
command_of (w ∷ ws) =
    cond (bytes_eq w (codes "print")) (alone Print ws)
    (cond (bytes_eq w (codes "opt")) (alone Opt ws)
    (cond (bytes_eq w (codes "run")) (run_of ws) (Err 0)))

-- some words that hold begin with these
abbrev pub IsFine : List (List ℕ) → Type 0
IsFine front = (more : List (List ℕ)) × (c : Command) × (command_of (front ++ more) ≡ Ok c)

-- k is the least number such that no words that hold begin with the words 0 to k, or their number where every beginning is fine
pub record IsPlace (words : List (List ℕ)) (k : ℕ) : Type 0 where
  pub within : k ≤ length words
  pub fine : IsFine (take k words)
  pub faulty : k < length words → IsFine (take (suc k) words) → ⊥

one_bound : command_of (codes "run" ∷ codes "--steps" ∷ codes "5" ∷ codes "z()" ∷ []) ≡ Ok (Run 5 (codes "z()" ∷ []))
unfolding steps_of plain_of number_of one_more call_of cut closed
one_bound = refl

no_bound : command_of (codes "run" ∷ codes "z()" ∷ []) ≡ Err 1
no_bound = refl

no_call : command_of (codes "run" ∷ codes "--steps" ∷ codes "5" ∷ []) ≡ Err 3
unfolding steps_of plain_of number_of one_more
no_call = refl
