-- The small tools of definitions that find something or nothing.
use Rattle.std.specs.Prelude.{Bool, true, false, Option, Some, None, option_and_then}

infixl 10 ◌>>=◌
abbrev pub ◌>>=◌ : {A B : Type 0} → Option A → (A → Option B) → Option B
o >>= f = option_and_then f o

-- the value, where the test holds
abbrev pub when : {A : Type 0} → Bool → A → Option A
when true a = Some a
when false a = None
