-- What is shown of a thing: a plain name, or the number that a counter has come to. Either is read again as what it was, and no two
-- are the same where no name is written twice.
use Rattle.std.proofs.Common.{◌≡◌, ℕ, ◌+◌, ◌%◌, ◌^◌, ◌≤◌, ◌<◌, Bool, true, false, List, [], ◌∷◌, ◌++◌, Option, Some, None, bytes_eq, refl, arith}
use Rattle.std.proofs.lemmas.Bool.Decides.{nat_tests}
use Rattle.std.proofs.lemmas.Fmt.{decimal_by_steps, decimal_is_IsNumeral}
use Rattle.std.specs.Char.{is_ascii_digit}
use Rattle.std.specs.Fmt.{decimal}
use Rattle.std.specs.Str.Parse.{digits_value}
use Rattle.std.specs.List.{list_all}
use Rattle.ir_lex.specs.Bytes.{begins_name, is_word_byte, is_digit}
use Rattle.ir_lex.specs.Tokens.{is_name}
use Rattle.ir_lex.proofs.Classes.{both, digit_no_name}
use Rattle.ir_forms.proofs.Steps.{bytes_is}
use Rattle.ir_print.specs.Names.{shown, counted}
use Rattle.ir_types_check.specs.Outline.{is_number, written_name, after_name}
use Rattle.ir_types.specs.Formed.{is_plain}

-- ---- a number

abbrev IsNumber : ℕ → List ℕ → Type 0
IsNumber n ds = is_number ds ≡ true

digit_in : (d : ℕ) → d < 10 → is_ascii_digit (48 + d) ≡ true
digit_in d h = grind (arith, nat_tests)

number_more : (n : ℕ) (ds : List ℕ) → 10 ≤ n → is_number ds ≡ true → is_number (ds ++ ((48 + n % 10) ∷ [])) ≡ true
number_more n [] h k = cc
number_more n (d ∷ ds) h k = k

pub number_is : (n : ℕ) → n < 2 ^ 64 → is_number (decimal n) ≡ true
number_is n small = decimal_by_steps IsNumber (λ k h. digit_in k h) number_more n small

pub numbers_apart : (k n : ℕ) → k < n → n < 2 ^ 64 → bytes_eq (decimal k) (decimal n) ≡ false
numbers_apart k n less small = go (bytes_eq (decimal k) (decimal n)) refl where
  go : (t : Bool) → bytes_eq (decimal k) (decimal n) ≡ t → t ≡ false
  go false e = refl
  go true e =
      let same : decimal k ≡ decimal n = bytes_is (decimal k) (decimal n) e in
      let one : digits_value 10 (decimal k) ≡ k = (decimal_is_IsNumeral k (omega (arith, less, small))).1 in
      let two : digits_value 10 (decimal n) ≡ n = (decimal_is_IsNumeral n small).1 in
      let is : k ≡ n = cc in
      absurd (omega (arith, less, is))

-- ---- a plain name

not_digit : (b : ℕ) → begins_name b ≡ true → is_ascii_digit b ≡ false
unfolding is_digit
not_digit b h = go (is_ascii_digit b) refl where
  go : (t : Bool) → is_ascii_digit b ≡ t → t ≡ false
  go false e = refl
  go true e = let no : begins_name b ≡ false = digit_no_name b e in cc

pub name_is : (name : List ℕ) → is_name name ≡ true → is_number name ≡ false
name_is [] h = cc
name_is (b ∷ bs) h = not_digit b (both (begins_name b) (list_all is_word_byte bs) h).0

-- a name is no number
pub kinds_apart : (name : List ℕ) (n : ℕ) → is_name name ≡ true → n < 2 ^ 64 → bytes_eq name (decimal n) ≡ false
kinds_apart name n h small = go (bytes_eq name (decimal n)) refl where
  go : (t : Bool) → bytes_eq name (decimal n) ≡ t → t ≡ false
  go false e = refl
  go true e =
      let same : name ≡ decimal n = bytes_is name (decimal n) e in
      let one : is_number name ≡ false = name_is name h in
      let two : is_number (decimal n) ≡ true = number_is n small in
      cc

pub apart_kinds : (name : List ℕ) (n : ℕ) → is_name name ≡ true → n < 2 ^ 64 → bytes_eq (decimal n) name ≡ false
apart_kinds name n h small = go (bytes_eq (decimal n) name) refl where
  go : (t : Bool) → bytes_eq (decimal n) name ≡ t → t ≡ false
  go false e = refl
  go true e =
      let same : decimal n ≡ name = bytes_is (decimal n) name e in
      let one : is_number name ≡ false = name_is name h in
      let two : is_number (decimal n) ≡ true = number_is n small in
      cc

-- ---- what is shown

-- what is shown where n is the next number is read as the name that was written, or none, and the counter goes on as it did
pub record Again (n : ℕ) (name : Option (List ℕ)) : Type 0 where
  pub name_again : written_name (shown n name) ≡ name
  pub next_again : after_name n (shown n name) ≡ counted n name

pub again : (n : ℕ) (name : Option (List ℕ)) → n < 2 ^ 64 → is_plain name ≡ true → Again n name
again n None small h = let is : is_number (decimal n) ≡ true = number_is n small in record { name_again = rw is refl; next_again = rw is refl }
again n (Some name) small h = let is : is_number name ≡ false = name_is name h in record { name_again = rw is refl; next_again = rw is refl }

-- the counter grows by one at most
pub counted_most : (n : ℕ) (name : Option (List ℕ)) → counted n name ≤ n + 1
counted_most n None = omega arith
counted_most n (Some name) = omega arith

pub counted_least : (n : ℕ) (name : Option (List ℕ)) → n ≤ counted n name
counted_least n None = omega arith
counted_least n (Some name) = omega arith
