-- Decimal numbers of words: those that may have no leading zero, bounds and offsets.
use Rattle.std.specs.Prelude.{◌≡◌, refl, ℕ, ℤ, pos, ◌+◌, ◌-◌, ◌*◌, ◌^◌, Bool, true, not, cond, Option, Some, None, List, [], ◌∷◌, nat_eq, nat_lt, nat_le, codes}
use Rattle.std.specs.Char.{is_ascii_digit}
use Rattle.vx_digits.specs.Optional.{◌>>=◌, when}
use Rattle.vx_digits.specs.Numbers.{number_of, one_more}

-- whether no zero stands before another digit
abbrev pub is_plain : List ℕ → Bool
is_plain (d ∷ e ∷ ds) = not (nat_eq d 48)
is_plain _ = true

-- a number below 2^64 without a leading zero
unfoldable pub plain_of : List ℕ → Option ℕ
plain_of t = cond (is_plain t) (number_of t) None

-- a bound on blocks: at most 1,000,000
unfoldable pub steps_of : List ℕ → Option ℕ
steps_of t = plain_of t >>= (λ n. when (nat_le n 1000000) n)

-- an offset in bytes: at most 9223372036854775807
unfoldable pub offset_of : List ℕ → Option ℤ
offset_of t = plain_of t >>= (λ n. when (nat_lt n (2 ^ 63)) (pos n))

-- leading zeros count nothing in a literal, and cannot stand in a bound
seven : number_of (codes "007") ≡ Some 7
unfolding number_of one_more
seven = refl

no_bound : steps_of (codes "007") ≡ None
unfolding steps_of plain_of
no_bound = refl

zero_blocks : steps_of (codes "0") ≡ Some 0
unfolding steps_of plain_of number_of one_more
zero_blocks = refl

highest_bound : steps_of (codes "1000000") ≡ Some 1000000
unfolding steps_of plain_of number_of one_more
highest_bound = refl

too_many : steps_of (codes "1000001") ≡ None
unfolding steps_of plain_of number_of one_more
too_many = refl

highest_offset : offset_of (codes "9223372036854775807") ≡ Some (pos 9223372036854775807)
unfolding offset_of plain_of number_of one_more
highest_offset = refl

too_far : offset_of (codes "9223372036854775808") ≡ None
unfolding offset_of plain_of number_of one_more
too_far = refl
