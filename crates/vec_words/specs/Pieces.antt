-- How a word falls into pieces: what stands after a front, round a byte, before a last byte, between commas; and names.
use Rattle.std.specs.Prelude.{◌≡◌, refl, ℕ, suc, ◌+◌, ◌-◌, Bool, true, false, not, ◌&&◌, ◌||◌, cond, Option, Some, None, List, [], ◌∷◌, length, take, drop, slice_index, nat_eq, nat_lt, codes}
use Rattle.std.specs.Char.{is_ascii_digit, is_ascii_alphabetic}
use Rattle.std.specs.List.{list_all}
use Rattle.vx_digits.specs.Optional.{when}

-- what follows a front
abbrev pub past : List ℕ → List ℕ → Option (List ℕ)
past [] t = Some t
past (p ∷ ps) [] = None
past (p ∷ ps) (b ∷ bs) = cond (nat_eq b p) (past ps bs) None

-- how many bytes stand before the first that is `b`
abbrev pub len_to : ℕ → List ℕ → ℕ
len_to b [] = 0
len_to b (x ∷ xs) = cond (nat_eq x b) 0 (suc (len_to b xs))

-- what stands before and after the first byte that is `b`, if there is one
unfoldable pub cut : ℕ → List ℕ → Option (List ℕ × List ℕ)
cut b t = when (nat_lt (len_to b t) (length t)) (take (len_to b t) t, drop (len_to b t + 1) t)

-- what stands before the last byte, where that is `b`
unfoldable pub closed : ℕ → List ℕ → Option (List ℕ)
closed b t = when (nat_lt 0 (length t) && nat_eq (slice_index t (length t - 1)) b) (take (length t - 1) t)

-- whether the next byte stands inside angle brackets
abbrev pub inside_after : Bool → ℕ → Bool
inside_after inside b = cond (nat_eq b 60) true (cond (nat_eq b 62) false inside)

-- how many bytes stand before the first comma outside angle brackets
abbrev pub piece_len : Bool → List ℕ → ℕ
piece_len inside [] = 0
piece_len inside (b ∷ bs) = cond (nat_eq b 44 && not inside) 0 (suc (piece_len (inside_after inside b) bs))

-- what stands before that comma, and what stands after it if there is one
unfoldable pub piece : List ℕ → List ℕ × Option (List ℕ)
piece t = (take (piece_len false t) t, when (nat_lt (piece_len false t) (length t)) (drop (piece_len false t + 1) t))

-- the bytes that a plain name begins with, and those that it goes on with
abbrev pub begins_name : ℕ → Bool
begins_name b = is_ascii_alphabetic b || nat_eq b 45 || nat_eq b 36 || nat_eq b 46 || nat_eq b 95

abbrev pub goes_on : ℕ → Bool
goes_on b = begins_name b || is_ascii_digit b

-- whether the text is a plain name
abbrev pub is_name : List ℕ → Bool
is_name [] = false
is_name (b ∷ bs) = begins_name b && list_all goes_on bs

-- whether a call word may begin with this name: it does not begin with `-`
abbrev pub is_callable : List ℕ → Bool
is_callable [] = false
is_callable (b ∷ bs) = not (nat_eq b 45) && is_name (b ∷ bs)

round_the_sign : cut 61 (codes "g=01=") ≡ Some (codes "g", codes "01=")
unfolding cut
round_the_sign = refl

no_last : closed 41 (codes "a)b") ≡ None
unfolding closed
no_last = refl

-- a comma inside angle brackets separates nothing
row_first : piece (codes "<6,8>,1") ≡ (codes "<6,8>", Some (codes "1"))
unfolding piece
row_first = refl

one_piece : piece (codes "1") ≡ (codes "1", None)
unfolding piece
one_piece = refl
