-- What the string of a `target datalayout` line says of byte order and of pointers.
-- LLVM Language Reference, "Data Layout".
use Rattle.std.specs.Prelude.{◌≡◌, refl, ℕ, Bool, true, false, not, ◌&&◌, ◌||◌, cond, Option, Some, None, List, [], ◌∷◌, codes, take, nat_eq}
use Rattle.std.specs.List.{prefix_len}
use Rattle.vx_digits.specs.Numbers.{number_of, one_more}
use Rattle.ir_lex.specs.Bytes.{quote}
use Rattle.ir_words.specs.Words.{Words}

-- whether a part of the string ends here: at `-`, and at the closing quote
abbrev pub ends_part : List ℕ → Bool
ends_part [] = true
ends_part (b ∷ bs) = nat_eq b 45 || nat_eq b quote

-- whether the first part is `E`
abbrev pub is_big : List ℕ → Bool
is_big [] = false
is_big (b ∷ bs) = nat_eq b 69 && ends_part bs

-- a byte of a field of a part
abbrev pub in_field : ℕ → Bool
in_field b = not (nat_eq b 58 || nat_eq b 45 || nat_eq b quote)

abbrev pub is_64 : Option ℕ → Bool
is_64 None = false
is_64 (Some n) = nat_eq n 64

-- whether the first field, a size, is not 64
abbrev pub is_other_size : List ℕ → Bool
is_other_size bs = not (is_64 (number_of (take (prefix_len in_field bs) bs)))

-- whether a colon stands here, and after it another size
abbrev pub other_after_colon : List ℕ → Bool
other_after_colon [] = false
other_after_colon (b ∷ bs) = nat_eq b 58 && is_other_size bs

-- whether a `0` does, in front of those
abbrev pub other_after_zero : List ℕ → Bool
other_after_zero [] = false
other_after_zero (b ∷ bs) = nat_eq b 48 && other_after_colon bs

-- whether the first part begins with `p:` or `p0:` and has another size
abbrev pub is_other : List ℕ → Bool
is_other [] = false
is_other (b ∷ bs) = nat_eq b 112 && (other_after_colon bs || other_after_zero bs)

-- whether a part passes: `starts` says that one begins here
abbrev pub any_big : Bool → List ℕ → Bool
any_big starts [] = false
any_big starts (b ∷ bs) = starts && is_big (b ∷ bs) || any_big (nat_eq b 45) bs

abbrev pub any_other : Bool → List ℕ → Bool
any_other starts [] = false
any_other starts (b ∷ bs) = starts && is_other (b ∷ bs) || any_other (nat_eq b 45) bs

-- the bytes after the opening quote of the first string
abbrev pub string_of : Words → List ℕ
string_of [] = []
string_of ([] ∷ ts) = string_of ts
string_of ((b ∷ bs) ∷ ts) = cond (nat_eq b quote) bs (string_of ts)

-- a big-endian layout, and one with pointers of 32 bits
big : any_big true (codes "m:e-E\"") ≡ true
big = refl

not_big : any_big true (codes "e-Ei:64\"") ≡ false
not_big = refl

other : any_other true (codes "e-p:32:32-S128\"") ≡ true
unfolding number_of one_more
other = refl

usual : any_other true (codes "p0:064:64-p1:32\"") ≡ false
unfolding number_of one_more
usual = refl
