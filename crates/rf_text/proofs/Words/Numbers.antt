-- Numbers as they are printed: their digits are read again as the number, and none is a zero that is dropped.
use Rattle.std.proofs.Common.{◌≡◌, ℕ, ◌+◌, ◌-◌, ◌*◌, ◌/◌, ◌%◌, ◌^◌, ◌<◌, ◌≤◌, Bool, true, false, cond, not, List, [], ◌∷◌, ◌++◌, nat_eq, nat_lt, Option, Some, None, refl, sym, arith}
use Rattle.std.proofs.lemmas.Bool.Decides.{nat_tests}
use Rattle.std.proofs.lemmas.Fmt.{decimal_by_steps}
use Rattle.std.specs.Fmt.{decimal}
use Rattle.std.specs.List.{list_all}
use Rattle.std.specs.Char.{is_ascii_digit}
use Rattle.vx_digits.specs.Numbers.{number_of, number_from, one_more}
use Rattle.vx_digits.specs.Optional.{◌>>=◌}
use Rattle.ir_lex.specs.Bytes.{is_digit, is_word_byte}
use Rattle.ir_lex.specs.Tokens.{is_number}
use Rattle.ir_lex.proofs.Classes.{both, clash, digit_word}
use Rattle.ir_words.specs.Values.{plain_number}
use Rattle.rf_text.proofs.Words.Read.{is_run}

-- whether the first of these is no zero
abbrev leads : List ℕ → Bool
leads [] = false
leads (d ∷ ds) = not (nat_eq d 48)

-- these are the digits of the number
pub record IsDecimal (n : ℕ) (ds : List ℕ) : Type 0 where
  pub number : is_number ds ≡ true
  pub value : n < 2 ^ 64 → number_from 0 ds ≡ Some n
  pub leading : 0 < n → leads ds ≡ true
  pub short : plain_number ds ≡ ds

number_append : (m : ℕ) (ds es : List ℕ) → number_from m (ds ++ es) ≡ (number_from m ds >>= (λ k. number_from k es))
number_append m [] es = refl
number_append m (d ∷ ds) es = here (one_more m d) (λ k. number_append k ds es) where
  here : (o : Option ℕ) → ((k : ℕ) → number_from k (ds ++ es) ≡ (number_from k ds >>= (λ j. number_from j es))) →
      (o >>= (λ k. number_from k (ds ++ es))) ≡ ((o >>= (λ k. number_from k ds)) >>= (λ k. number_from k es))
  here None next = refl
  here (Some k) next = next k

digit_in : (d : ℕ) → d < 10 → is_ascii_digit (48 + d) ≡ true
digit_in d h = grind (arith, nat_tests)

next_digit : (m d n : ℕ) → d < 10 → n ≡ m * 10 + d → n < 2 ^ 64 → one_more m (48 + d) ≡ Some n
unfolding one_more
next_digit m d n h e small =
    let less : 48 + d - 48 ≡ d = omega arith in
    let below : nat_lt n (2 ^ 64) ≡ true = grind (arith, nat_tests) in
    rw (digit_in d h, less, sym e, below) refl

one_digit : (n : ℕ) → n < 10 → IsDecimal n ((48 + n) ∷ [])
unfolding is_digit
one_digit n h = record {
  number = rw (digit_in n h) refl;
  value = λ small. rw (next_digit 0 n n h (omega arith) small) refl;
  leading = λ some. grind (arith, nat_tests);
  short = refl;
}

number_more : (ds : List ℕ) (d : ℕ) → is_digit d ≡ true → is_number ds ≡ true → is_number (ds ++ d ∷ []) ≡ true
number_more [] d h k = rw h refl
number_more (e ∷ ds) d h k = rw ((both (is_digit e) _ k).0) (all_more ds (both (is_digit e) _ k).1) where
  all_more : (ds : List ℕ) → list_all is_digit ds ≡ true → list_all is_digit (ds ++ d ∷ []) ≡ true
  all_more [] k = rw h refl
  all_more (e ∷ ds) k = rw ((both (is_digit e) _ k).0) (all_more ds (both (is_digit e) _ k).1)

leads_more : (ds es : List ℕ) → leads ds ≡ true → leads (ds ++ es) ≡ true
leads_more [] es h = clash false refl h
leads_more (d ∷ ds) es h = h

leads_short : (ds : List ℕ) → leads ds ≡ true → plain_number ds ≡ ds
leads_short [] h = refl
leads_short (d ∷ []) h = refl
leads_short (d ∷ e ∷ ds) h = here (nat_eq d 48) h where
  here : (t : Bool) → not t ≡ true → cond t (plain_number (e ∷ ds)) (d ∷ e ∷ ds) ≡ d ∷ e ∷ ds
  here true h = cc
  here false h = refl

more_digits : (n : ℕ) (ds : List ℕ) → 10 ≤ n → IsDecimal (n / 10) ds → IsDecimal n (ds ++ ((48 + n % 10) ∷ []))
unfolding is_digit
more_digits n ds h front =
    let low : n % 10 < 10 = omega arith in
    let some : 0 < n / 10 = omega arith in
    let leading : leads (ds ++ (48 + n % 10) ∷ []) ≡ true = leads_more ds _ (front.leading some) in
    record {
      number = number_more ds (48 + n % 10) (digit_in (n % 10) low) front.number;
      value = λ small.
          let before : n / 10 < 2 ^ 64 = omega arith in
          let whole : n ≡ n / 10 * 10 + n % 10 = omega arith in
          rw (number_append 0 ds ((48 + n % 10) ∷ []), front.value before, next_digit (n / 10) (n % 10) n low whole small) refl;
      leading = λ _. leading;
      short = leads_short _ leading;
    }

pub decimal_is : (n : ℕ) → n < 2 ^ 64 → IsDecimal n (decimal n)
decimal_is n small = decimal_by_steps IsDecimal one_digit more_digits n small

-- a printed number is read again
pub decimal_read : (n : ℕ) → n < 2 ^ 64 → number_of (decimal n) ≡ Some n
unfolding number_of
decimal_read n small = here (decimal n) (decimal_is n small) where
  here : (ds : List ℕ) → IsDecimal n ds → number_of ds ≡ Some n
  here [] d = clash false refl d.number
  here (c ∷ ds) d = d.value small

digits_run : (ds : List ℕ) → list_all is_digit ds ≡ true → list_all is_word_byte ds ≡ true
digits_run [] h = refl
digits_run (d ∷ ds) h = rw (digit_word d (both (is_digit d) _ h).0) (digits_run ds (both (is_digit d) _ h).1)

-- and all its bytes are of a word
pub number_run : (ds : List ℕ) → is_number ds ≡ true → list_all is_word_byte ds ≡ true
number_run [] h = refl
number_run (d ∷ ds) h = digits_run (d ∷ ds) h

pub decimal_run : (n : ℕ) → n < 2 ^ 64 → list_all is_word_byte (decimal n) ≡ true
decimal_run n small = number_run (decimal n) (decimal_is n small).number

-- they are one word
pub decimal_word : (n : ℕ) (ds : List ℕ) → IsDecimal n ds → is_run ds ≡ true
decimal_word n [] d = clash false refl d.number
decimal_word n (b ∷ ds) d = number_run (b ∷ ds) d.number
