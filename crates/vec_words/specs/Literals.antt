-- Literals of a call word: how they are spelled, and which lane of a width each is.
use Rattle.std.specs.Prelude.{◌≡◌, refl, ℕ, ◌-◌, ◌*◌, ◌^◌, true, false, cond, Option, Some, None, List, [], ◌∷◌, ◌++◌, bytes_eq, nat_eq, nat_lt, nat_le, codes}
use Rattle.vx_digits.specs.Numbers.{number_of, one_more, fitting, negative}
use Rattle.vx_digits.specs.Optional.{◌>>=◌, when}
use Rattle.vec_words.specs.declared.literal.Lit.{Lit}
use Rattle.vec_words.specs.declared.literal.Lit.TheVariants.{Number, Truth, Poison}

-- a decimal after a minus
abbrev pub minus_of : List ℕ → Option Lit
minus_of t = number_of t >>= (λ n. when (nat_le n (2 ^ 63)) (Number true n))

-- a decimal from -2^63 to 2^64 - 1, leading zeros and `-0` included
unfoldable pub signed_of : List ℕ → Option Lit
signed_of [] = None
signed_of (b ∷ bs) =
    cond (nat_eq b 45)
    (minus_of bs)
    (number_of (b ∷ bs) >>= (λ n. Some (Number false n)))

unfoldable pub lit_of : List ℕ → Option Lit
lit_of t =
    cond (bytes_eq t (codes "poison")) (Some Poison)
    (cond (bytes_eq t (codes "true")) (Some (Truth true))
    (cond (bytes_eq t (codes "false")) (Some (Truth false))
    (signed_of t)))

-- the lane of w bits that a literal is, where it is one: a number in the range of w bits, a truth value of one bit, or poison
unfoldable pub lane_in : ℕ → Lit → Option (Option ℕ)
lane_in w Poison = Some None
lane_in w (Truth b) = when (nat_eq w 1) (Some (cond b 1 0))
lane_in w (Number minus n) = cond minus (negative w n) (fitting w n) >>= (λ x. Some (Some x))

-- the lanes of literals after others
abbrev pub lanes_after : ℕ → List (Option ℕ) → List Lit → Option (List (Option ℕ))
lanes_after w before [] = Some before
lanes_after w before (l ∷ ls) = lane_in w l >>= (λ x. lanes_after w (before ++ x ∷ []) ls)

-- the lane of w bits that a text says
abbrev pub said : ℕ → List ℕ → Option (Option ℕ)
said w t = lit_of t >>= (λ l. lane_in w l)

-- the highest and the least number of 8 bits, and those next to them
highest : said 8 (codes "255") ≡ Some (Some 255)
unfolding lit_of signed_of number_of one_more lane_in fitting
highest = refl

too_high : said 8 (codes "256") ≡ None
unfolding lit_of signed_of number_of one_more lane_in fitting
too_high = refl

least : said 8 (codes "-128") ≡ Some (Some 128)
unfolding lit_of signed_of number_of one_more lane_in negative
least = refl

too_low : said 8 (codes "-129") ≡ None
unfolding lit_of signed_of number_of one_more lane_in negative
too_low = refl

minus_zero : said 64 (codes "-00") ≡ Some (Some 0)
unfolding lit_of signed_of number_of one_more lane_in negative
minus_zero = refl

-- truth values are of one bit alone, where -1 is 1 too
truth : said 1 (codes "true") ≡ Some (Some 1)
unfolding lit_of lane_in
truth = refl

wide_truth : said 8 (codes "true") ≡ None
unfolding lit_of lane_in
wide_truth = refl

minus_one_of_one_bit : said 1 (codes "-1") ≡ Some (Some 1)
unfolding lit_of signed_of number_of one_more lane_in negative
minus_one_of_one_bit = refl
