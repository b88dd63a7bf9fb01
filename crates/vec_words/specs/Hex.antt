-- Bytes as pairs of hexadecimal digits, and `??` for poison: read and written.
use Rattle.std.specs.Prelude.{◌≡◌, refl, ℕ, ◌+◌, ◌-◌, ◌*◌, ◌/◌, ◌%◌, ◌&&◌, cond, Option, Some, None, List, [], ◌∷◌, ◌++◌, length, nat_eq, nat_lt, nat_le, codes}
use Rattle.vx_digits.specs.Optional.{◌>>=◌, when}

-- a lower-case hexadecimal digit
unfoldable pub digit_of : ℕ → Option ℕ
digit_of b = cond (nat_le 48 b && nat_le b 57) (Some (b - 48)) (when (nat_le 97 b && nat_le b 102) (b - 87))

-- a byte of two digits, or poison
unfoldable pub byte_of : ℕ → ℕ → Option (Option ℕ)
byte_of a b = cond (nat_eq a 63 && nat_eq b 63) (Some None) (digit_of a >>= (λ high. digit_of b >>= (λ low. Some (Some (16 * high + low)))))

-- the byte of the first two digits, and what follows
unfoldable pub pair_of : List ℕ → Option (Option ℕ × List ℕ)
pair_of (a ∷ b ∷ t) = byte_of a b >>= (λ x. Some (x, t))
pair_of _ = None

-- the bytes that a text says, after others; the pairs may be none
abbrev pub bytes_after : List (Option ℕ) → List ℕ → Option (List (Option ℕ))
bytes_after before [] = Some before
bytes_after before (a ∷ []) = None
bytes_after before (a ∷ b ∷ t) = byte_of a b >>= (λ x. bytes_after (before ++ x ∷ []) t)

-- the bytes that a text says, where they are at most 2^47, as many as an object may have
abbrev pub bytes_of : List ℕ → Option (List (Option ℕ))
bytes_of t = cond (nat_lt 281474976710656 (length t)) None (bytes_after [] t)

-- the digit of a number below 16
abbrev pub digit_text : ℕ → ℕ
digit_text d = cond (nat_lt d 10) (48 + d) (87 + d)

abbrev pub byte_text : Option ℕ → List ℕ
byte_text None = codes "??"
byte_text (Some n) = digit_text (n / 16) ∷ digit_text (n % 16) ∷ []

abbrev pub bytes_text : List (Option ℕ) → List ℕ
bytes_text [] = []
bytes_text (b ∷ bs) = byte_text b ++ bytes_text bs

three_bytes : bytes_of (codes "00??ff") ≡ Some (Some 0 ∷ None ∷ Some 255 ∷ [])
unfolding byte_of digit_of
three_bytes = refl

no_bytes : bytes_of [] ≡ Some []
no_bytes = refl

upper_case : bytes_of (codes "FF") ≡ None
unfolding byte_of digit_of
upper_case = refl

half_a_byte : bytes_of (codes "0") ≡ None
half_a_byte = refl

written : bytes_text (Some 10 ∷ None ∷ Some 255 ∷ []) ≡ codes "0a??ff"
written = refl
