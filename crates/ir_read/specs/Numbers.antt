-- The numbers of what has no name: one counter in a function numbers unnamed parameters, blocks and results in order of text.
use Rattle.std.specs.Prelude.{ℕ, ◌+◌, Bool, false, cond, Option, None, Some, Result, Ok, Err, List, [], ◌∷◌, nat_eq}
use Rattle.std.specs.Char.{is_ascii_digit}
use Rattle.vx_digits.specs.Numbers.{number_of}
use Rattle.ir_types.specs.declared.func.Param.{Param}
use Rattle.ir_read.specs.declared.refusal.ReadRefusal.{ReadRefusal}
use Rattle.ir_read.specs.declared.refusal.ReadRefusal.TheVariants.{Misplaced}
use Rattle.ir_read.specs.Answers.{◌>>=◌}

-- whether a name is a number
abbrev pub is_unnamed : List ℕ → Bool
is_unnamed [] = false
is_unnamed (b ∷ bs) = is_ascii_digit b

abbrev pub is_next : ℕ → Option ℕ → Bool
is_next next None = false
is_next next (Some n) = nat_eq n next

-- the counter after a written name in the line n: a number must be the next, and any other name takes none
unfoldable pub after_name : ℕ → ℕ → List ℕ → Result ℕ ReadRefusal
after_name n next name = cond (is_unnamed name) (cond (is_next next (number_of name)) (Ok (next + 1)) (Err (Misplaced n))) (Ok next)

-- after a result, if there is one
abbrev pub after_result : ℕ → ℕ → Option (List ℕ) → Result ℕ ReadRefusal
after_result n next None = Ok next
after_result n next (Some name) = after_name n next name

-- after a parameter: one without a written name takes the next number
abbrev pub after_param : ℕ → ℕ → Option (List ℕ) → Result ℕ ReadRefusal
after_param n next None = Ok (next + 1)
after_param n next (Some name) = after_name n next name

abbrev pub after_params : ℕ → ℕ → List Param → Result ℕ ReadRefusal
after_params n next [] = Ok next
after_params n next (p ∷ ps) = after_param n next p.name >>= (λ after. after_params n after ps)
