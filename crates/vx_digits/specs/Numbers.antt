-- Decimal numbers by their value, and which number of so many bits one is.
use Rattle.std.specs.Prelude.{◌≡◌, refl, ℕ, ◌+◌, ◌-◌, ◌*◌, ◌^◌, cond, Option, Some, None, List, [], ◌∷◌, nat_eq, nat_lt, nat_le, codes}
use Rattle.std.specs.Char.{is_ascii_digit}
use Rattle.vx_digits.specs.Optional.{◌>>=◌, when}

-- n with one more digit after it, where that is below 2^64
unfoldable pub one_more : ℕ → ℕ → Option ℕ
one_more n d = cond (is_ascii_digit d) (when (nat_lt (n * 10 + (d - 48)) (2 ^ 64)) (n * 10 + (d - 48))) None

-- the number whose decimal digits, after others of the value n, these are
abbrev pub number_from : ℕ → List ℕ → Option ℕ
number_from n [] = Some n
number_from n (d ∷ ds) = one_more n d >>= (λ m. number_from m ds)

-- a number below 2^64 by its value, with leading zeros or without
unfoldable pub number_of : List ℕ → Option ℕ
number_of [] = None
number_of (d ∷ ds) = number_from 0 (d ∷ ds)

-- n of w bits, where it is below 2^w
unfoldable pub fitting : ℕ → ℕ → Option ℕ
fitting w n = cond (nat_lt 64 w) None (when (nat_lt n (2 ^ w)) n)

-- -n of w bits, where it is at least -2^(w - 1)
unfoldable pub negative : ℕ → ℕ → Option ℕ
negative w n = cond (nat_lt 64 w) None (cond (nat_eq n 0) (Some 0) (when (nat_le (2 * n) (2 ^ w)) (2 ^ w - n)))

-- leading zeros count nothing
seven : number_of (codes "007") ≡ Some 7
unfolding number_of one_more
seven = refl

no_digits : number_of [] ≡ None
unfolding number_of
no_digits = refl

highest : number_of (codes "18446744073709551615") ≡ Some 18446744073709551615
unfolding number_of one_more
highest = refl

too_high : number_of (codes "18446744073709551616") ≡ None
unfolding number_of one_more
too_high = refl

-- 8 bits hold 255, and -128 as 128
byte : fitting 8 255 ≡ Some 255
unfolding fitting
byte = refl

no_byte : fitting 8 256 ≡ None
unfolding fitting
no_byte = refl

least_byte : negative 8 128 ≡ Some 128
unfolding negative
least_byte = refl

below_least : negative 8 129 ≡ None
unfolding negative
below_least = refl
