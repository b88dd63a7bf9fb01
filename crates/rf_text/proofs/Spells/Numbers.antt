-- The number that a name is: where it must be the next, the name is that number as it is printed.
use Rattle.std.proofs.Common.{◌≡◌, ℕ, ◌+◌, ◌-◌, ◌*◌, ◌^◌, ◌≤◌, ◌<◌, ◌||◌, ◌&&◌, Bool, true, false, cond, List, [], ◌∷◌, length, Option, Some, None, Result, Ok, Err, nat_eq, nat_lt, bytes_eq, get_or, refl, sym, ◌∙◌, ap, subst, arith, eqb-true}
use Rattle.std.proofs.lemmas.Bool.Decides.{nat_tests}
use Rattle.std.proofs.lemmas.Fmt.{decimal-digits_value}
use Rattle.std.proofs.lemmas.Str.Parse.{numerals_by_value, tells_digits}
use Rattle.std.proofs.lemmas.Str.{digit_value_digit}
use Rattle.std.specs.Char.{is_ascii_digit, digit_value}
use Rattle.std.specs.Fmt.{decimal}
use Rattle.std.specs.List.{list_all}
use Rattle.std.specs.Str.Parse.{AllDigits, digits_value_after, digits_value}
use Rattle.vx_digits.specs.Numbers.{number_of, number_from, one_more}
use Rattle.vx_digits.specs.Optional.{◌>>=◌, when}
use Rattle.ir_lex.specs.Bytes.{begins_name, is_word_byte, is_digit}
use Rattle.ir_lex.specs.Tokens.{is_name, is_number}
use Rattle.ir_lex.proofs.Classes.{both, digit_no_name}
use Rattle.ir_words.specs.Values.{plain_number}
use Rattle.ir_forms.proofs.Steps.{bytes_is}
use Rattle.ir_read.specs.declared.refusal.ReadRefusal.{ReadRefusal}
use Rattle.ir_read.specs.declared.refusal.ReadRefusal.TheVariants.{Misplaced}
use Rattle.ir_read.specs.Numbers as reading
use Rattle.ir_read.specs.Numbers.{is_unnamed, is_next}
use Rattle.ir_types_check.specs.Outline as outline
use Rattle.rf_text.specs.Headed.{is_local_name}

some_is : {A : Type 0} {x y : A} → Some x ≡ Some y → x ≡ y
some_is e = cc

nothing : {A P : Type 0} {y : A} → None ≡ Some y → P
nothing e = cc

clash : {P : Type 0} → true ≡ false → P
clash e = cc

-- ---- the digits of a name

record IsMore (n d m : ℕ) : Type 0 where
  digit : is_ascii_digit d ≡ true
  is : m ≡ n * 10 + (d - 48)
  small : m < 2 ^ 64

more_is : (n d m : ℕ) → one_more n d ≡ Some m → IsMore n d m
unfolding one_more
more_is n d m e = here (is_ascii_digit d) refl e where
  here : (b : Bool) → is_ascii_digit d ≡ b → cond b (when (nat_lt (n * 10 + (d - 48)) (2 ^ 64)) (n * 10 + (d - 48))) None ≡ Some m → IsMore n d m
  here false f e = nothing e
  here true f e = there (nat_lt (n * 10 + (d - 48)) (2 ^ 64)) refl e where
    there : (b : Bool) → nat_lt (n * 10 + (d - 48)) (2 ^ 64) ≡ b → when b (n * 10 + (d - 48)) ≡ Some m → IsMore n d m
    there false g e = nothing e
    there true g e =
        let same : n * 10 + (d - 48) ≡ m = some_is e in
        let less : n * 10 + (d - 48) < 2 ^ 64 = grind (arith, nat_tests) in
        record { digit = f; is = sym same; small = omega (arith, same, less) }

then_is : {A B P : Type 0} (o : Option A) (f : A → Option B) (y : B) → (o >>= f) ≡ Some y → ((x : A) → o ≡ Some x → f x ≡ Some y → P) → P
then_is None f y e k = nothing e
then_is (Some x) f y e k = k x refl e

in_range : (d : ℕ) → is_ascii_digit d ≡ true → digit_value d ≡ d - 48
in_range d h =
    let low : 48 ≤ d = grind (arith, nat_tests) in
    let high : d ≤ 57 = grind (arith, nat_tests) in
    omega (arith, digit_value_digit d (low, high), low)

record IsValue (n : ℕ) (ds : List ℕ) (m : ℕ) : Type 0 where
  digits : AllDigits 10 ds
  is : digits_value_after 10 n ds ≡ m

value_is : (n : ℕ) (ds : List ℕ) (m : ℕ) → number_from n ds ≡ Some m → IsValue n ds m
value_is n [] m e = record { digits = tt; is = some_is e }
value_is n (d ∷ ds) m e = then_is (one_more n d) _ m e (λ k was now.
    let one : IsMore n d k = more_is n d k was in
    let value : digit_value d ≡ d - 48 = in_range d one.digit in
    let rest : IsValue k ds m = value_is k ds m now in
    let same : k ≡ n * 10 + digit_value d = omega (arith, one.is, value) in
    let low : d - 48 < 10 = below d one.digit in
    record { digits = (omega (arith, value, low), rest.digits); is = ap (λ x. digits_value_after 10 x ds) (sym same) ∙ rest.is }) where
      below : (d : ℕ) → is_ascii_digit d ≡ true → d - 48 < 10
      below d h = grind (arith, nat_tests)

small_is : (n : ℕ) (ds : List ℕ) (m : ℕ) → n < 2 ^ 64 → number_from n ds ≡ Some m → m < 2 ^ 64
small_is n [] m h e = subst (λ x. x < 2 ^ 64) (some_is e) h
small_is n (d ∷ ds) m h e = then_is (one_more n d) _ m e (λ k was now. small_is k ds m (more_is n d k was).small now)

-- no zero stands in front of another digit
short : (ds : List ℕ) → plain_number ds ≡ ds → get_or ds 0 0 ≡ 48 → length ds ≡ 1
short [] e z = absurd (omega (arith, z))
short (d ∷ []) e z = refl
short (d ∷ c ∷ ds) e z = here (nat_eq d 48) refl e where
  plain_most : (ds : List ℕ) → length (plain_number ds) < length ds + 1
  plain_most [] = omega arith
  plain_most (d ∷ []) = omega arith
  plain_most (d ∷ c ∷ ds) = most (nat_eq d 48) (plain_most (c ∷ ds)) where
    most : (b : Bool) → length (plain_number (c ∷ ds)) < length (c ∷ ds) + 1 → length (cond b (plain_number (c ∷ ds)) (d ∷ c ∷ ds)) < length (d ∷ c ∷ ds) + 1
    most true h = omega (arith, h)
    most false h = omega arith

  here : (b : Bool) → nat_eq d 48 ≡ b → cond b (plain_number (c ∷ ds)) (d ∷ c ∷ ds) ≡ d ∷ c ∷ ds → length (d ∷ c ∷ ds) ≡ 1
  here true f e = let most : length (plain_number (c ∷ ds)) < length (c ∷ ds) + 1 = plain_most (c ∷ ds) in let same : length (plain_number (c ∷ ds)) ≡ length (d ∷ c ∷ ds) = ap length e in absurd (omega (arith, most, same))
  here false f e = grind (arith, nat_tests)

numeral_is : (n d : ℕ) (ds : List ℕ) → number_from 0 (d ∷ ds) ≡ Some n → plain_number (d ∷ ds) ≡ d ∷ ds → decimal n ≡ d ∷ ds
numeral_is n d ds e plain =
    let v : IsValue 0 (d ∷ ds) n = value_is 0 (d ∷ ds) n e in
    let small : n < 2 ^ 64 = small_is 0 (d ∷ ds) n (omega arith) e in
    ap decimal (sym v.is)
    ∙ decimal-digits_value {P = AllDigits 10} {v = digits_value 10} (numerals_by_value (AllDigits 10) tells_digits) (d ∷ ds) v.digits (omega arith) (short (d ∷ ds) plain) (subst (λ x. x < 2 ^ 64) (sym v.is) small)

-- ---- names

-- a number is the next, as it is printed
abbrev pub IsNext : ℕ → List ℕ → Type 0
IsNext n name = outline.is_number name ≡ true → name ≡ decimal n

same_kind : (name : List ℕ) → is_unnamed name ≡ outline.is_number name
same_kind [] = refl
same_kind (b ∷ bs) = refl

-- a name of a local that begins with a digit is a number without leading zeros
local_plain : (b : ℕ) (bs : List ℕ) → is_ascii_digit b ≡ true → is_local_name (b ∷ bs) ≡ true → plain_number (b ∷ bs) ≡ b ∷ bs
unfolding is_digit
local_plain b bs d h = here (is_name (b ∷ bs)) refl h where
  here : (t : Bool) → is_name (b ∷ bs) ≡ t → t || (is_number (b ∷ bs) && bytes_eq (plain_number (b ∷ bs)) (b ∷ bs)) ≡ true → plain_number (b ∷ bs) ≡ b ∷ bs
  here true f e = let first : begins_name b ≡ true = (both (begins_name b) (list_all is_word_byte bs) f).0 in let other : begins_name b ≡ false = digit_no_name b d in clash (sym first ∙ other)
  here false f e = bytes_is (plain_number (b ∷ bs)) (b ∷ bs) (both (is_number (b ∷ bs)) _ e).1

next_is : (n : ℕ) (o : Option ℕ) → is_next n o ≡ true → o ≡ Some n
next_is n None e = clash (sym e)
next_is n (Some m) e = ap Some (eqb-true m n e)

number_next : (n : ℕ) (name : List ℕ) → is_local_name name ≡ true → is_next n (number_of name) ≡ true → IsNext n name
unfolding number_of
number_next n [] h e d = clash (sym d)
number_next n (b ∷ bs) h e d = sym (numeral_is n b bs (next_is n (number_from 0 (b ∷ bs)) e) (local_plain b bs d h))

abbrev ok : {A : Type 0} → A → Result A ReadRefusal
ok x = Ok x

ok_is : {A : Type 0} {x y : A} → ok x ≡ ok y → x ≡ y
ok_is e = cc

refused : {A P : Type 0} {refusal : ReadRefusal} {y : A} → Err refusal ≡ Ok y → P
refused e = cc

-- a name that the counter takes
pub record IsTaken (n : ℕ) (name : List ℕ) (after : ℕ) : Type 0 where
  pub next : IsNext n name
  pub after_is : after ≡ outline.after_name n name

pub name_taken : (k n : ℕ) (name : List ℕ) (after : ℕ) → is_local_name name ≡ true → reading.after_name k n name ≡ Ok after → IsTaken n name after
unfolding reading.after_name
name_taken k n name after h e = here (is_unnamed name) refl e where
  here : (b : Bool) → is_unnamed name ≡ b → cond b (cond (is_next n (number_of name)) (Ok (n + 1)) (Err (Misplaced k))) (Ok n) ≡ Ok after → IsTaken n name after
  here false f e =
      let kind : outline.is_number name ≡ false = sym (same_kind name) ∙ f in
      record { next = λ d. clash (sym d ∙ kind); after_is = sym (ok_is e) ∙ ap (λ b. cond b (n + 1) n) (sym kind) }
  here true f e = there (is_next n (number_of name)) refl e where
    there : (b : Bool) → is_next n (number_of name) ≡ b → cond b (Ok (n + 1)) (Err (Misplaced k)) ≡ Ok after → IsTaken n name after
    there false g e = refused e
    there true g e = record { next = number_next n name h g; after_is = sym (ok_is e) ∙ ap (λ b. cond b (n + 1) n) (sym (sym (same_kind name) ∙ f)) }
