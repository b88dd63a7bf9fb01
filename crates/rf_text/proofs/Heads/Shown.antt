-- Parameters are shown by names of locals: by those that are written, and by numbers.
use Rattle.std.proofs.Common.{◌≡◌, ℕ, suc, zero, ◌+◌, ◌/◌, ◌%◌, ◌^◌, ◌≤◌, ◌<◌, Bool, true, false, ◌&&◌, ◌||◌, List, [], ◌∷◌, ◌++◌, length, Option, Some, None, bytes_eq, nat_eq, refl, ◌∙◌, ap, arith, eq-eqb, if◌then◌else◌, slice_index_or}
use Rattle.std.proofs.lemmas.Bool.Decides.{nat_tests}
use Rattle.std.proofs.lemmas.Fmt.{decimal_by_steps}
use Rattle.std.proofs.lemmas.List.Folds.{list_all-append}
use Rattle.std.specs.Char.{is_ascii_digit}
use Rattle.std.specs.Fmt.{decimal}
use Rattle.std.specs.List.{All, list_all, list_any}
use Rattle.ir_lex.specs.Bytes.{is_digit}
use Rattle.ir_lex.specs.Tokens.{is_name, is_number}
use Rattle.ir_lex.proofs.Classes.{both}
use Rattle.ir_types.specs.declared.id.Id.{Id}
use Rattle.ir_types.specs.declared.func.Param.{Param}
use Rattle.ir_types.specs.declared.func.Func.{Func}
use Rattle.ir_words.specs.Values.{plain_number}
use Rattle.ir_forms.proofs.Steps.{bytes_same}
use Rattle.ir_print.specs.declared.names.Local.{Local}
use Rattle.ir_print.specs.Names.{Named, Value, Label, params_named, blocks_named, named_of, shown, counted, locals_from, names_of, same_id, last_of, local_of}
use Rattle.rf_text.specs.Headed.{is_local_name, is_written, is_shown, is_named}

-- ---- numbers

-- digits, of which the first is no zero where the number is none, and no zero is dropped
record PlainNumber (n : ℕ) (ds : List ℕ) : Type 0 where
  number : is_number ds ≡ true
  leading : 0 < n → (d : ℕ) (es : List ℕ) → ds ≡ d ∷ es → nat_eq d 48 ≡ false
  short : plain_number ds ≡ ds

digit_in : (d : ℕ) → d < 10 → is_ascii_digit (48 + d) ≡ true
digit_in d h = grind (arith, nat_tests)

no_zero : (n : ℕ) → n < 10 → 0 < n → nat_eq (48 + n) 48 ≡ false
no_zero n h k = grind (arith, nat_tests)

one_digit : (n : ℕ) → n < 10 → PlainNumber n ((48 + n) ∷ [])
unfolding is_digit
one_digit n h = record { number = rw (digit_in n h) refl; leading = λ some d es e. let same : 48 + n ≡ d = cc in rw (← same) (no_zero n h some); short = refl }

all_digits : (ds : List ℕ) → is_number ds ≡ true → list_all is_digit ds ≡ true
all_digits [] h = cc
all_digits (d ∷ ds) h = h

number_more : (n : ℕ) (ds : List ℕ) (d : ℕ) → is_digit d ≡ true → 0 < n → PlainNumber n ds → (m : ℕ) → PlainNumber m (ds ++ (d ∷ []))
number_more n [] d h some p m = let none : is_number [] ≡ true = p.number in cc
number_more n (e ∷ ds) d h some p m =
    let first : nat_eq e 48 ≡ false = p.leading some e ds refl in
    let all : list_all is_digit (e ∷ ds) && list_all is_digit (d ∷ []) ≡ true = rw (all_digits (e ∷ ds) p.number, h) refl in
    record {
      number = list_all-append is_digit (e ∷ ds) (d ∷ []) ∙ all;
      leading = λ _ x xs same. let is : e ≡ x = cc in rw (← is) first;
      short = stays ds first;
    } where
      stays : (ds : List ℕ) → nat_eq e 48 ≡ false → plain_number (e ∷ (ds ++ (d ∷ []))) ≡ e ∷ (ds ++ (d ∷ []))
      stays [] f = rw f refl
      stays (x ∷ xs) f = rw f refl

more_digits : (n : ℕ) (ds : List ℕ) → 10 ≤ n → PlainNumber (n / 10) ds → PlainNumber n (ds ++ ((48 + n % 10) ∷ []))
unfolding is_digit
more_digits n ds h front = let low : n % 10 < 10 = omega arith in let some : 0 < n / 10 = omega (arith, h) in number_more (n / 10) ds (48 + n % 10) (digit_in (n % 10) low) some front n

pub second_true : (a b : Bool) → b ≡ true → a || b ≡ true
second_true true b h = refl
second_true false b h = h

-- a number is the name of a local
pub number_shown : (n : ℕ) → n < 2 ^ 64 → is_local_name (decimal n) ≡ true
number_shown n small =
    let p : PlainNumber n (decimal n) = decimal_by_steps PlainNumber one_digit more_digits n small in
    let same : bytes_eq (plain_number (decimal n)) (decimal n) ≡ true = ap (λ (x : List ℕ). bytes_eq x (decimal n)) p.short ∙ bytes_same (decimal n) in
    second_true (is_name (decimal n)) _ (rw (p.number, same) refl)

-- ---- what is shown of a function's values

shown_is : (n : ℕ) (name : Option (List ℕ)) → n < 2 ^ 64 → is_written name ≡ true → is_local_name (shown n name) ≡ true
shown_is n None small h = number_shown n small
shown_is n (Some name) small h = h

pub counted_most : (n : ℕ) (name : Option (List ℕ)) → counted n name ≤ n + 1
counted_most n None = omega arith
counted_most n (Some name) = omega arith

abbrev pub is_text : Local → Bool
is_text l = is_local_name l.text

pub locals_are : (n : ℕ) (vs : List Named) → list_all is_named vs ≡ true → n + length vs ≤ 2 ^ 64 → list_all is_text (locals_from n vs) ≡ true
locals_are n [] h l = refl
locals_are n (Value id ty name ∷ vs) h l =
    let first : is_local_name (shown n name) ≡ true = shown_is n name (omega (arith, l)) (both (is_written name) _ h).0 in
    rw first (locals_are (counted n name) vs (both (is_written name) _ h).1 (omega (arith, l, counted_most n name)))
locals_are n (Label name ∷ vs) h l = locals_are (counted n name) vs h (omega (arith, l, counted_most n name))

chosen : (same : Bool) (l : Local) (before : Option Local) → is_text l ≡ true → is_shown before ≡ true → is_shown (if same then Some l else before) ≡ true
chosen true l before h k = h
chosen false l before h k = k

-- what was found stays shown
kept_shown : (id : Id) (ls : List Local) (before : Option Local) → list_all is_text ls ≡ true → is_shown before ≡ true → is_shown (last_of id ls before) ≡ true
kept_shown id [] before h k = k
kept_shown id (l ∷ ls) before h k = kept_shown id ls _ (both (is_text l) _ h).1 (chosen (same_id l.id id) l before (both (is_text l) _ h).0 k)

-- what is there is found
pub last_shown : (id : Id) (ls : List Local) (before : Option Local) → list_all is_text ls ≡ true → list_any (λ (l : Local). same_id l.id id) ls ≡ true → is_shown (last_of id ls before) ≡ true
last_shown id [] before h k = cc
last_shown id (l ∷ ls) before h k =
    here (same_id l.id id) k (kept_shown id ls (Some l) (both (is_text l) _ h).1 (both (is_text l) _ h).0) (last_shown id ls before (both (is_text l) _ h).1) where
      here : (t : Bool) → t || list_any (λ (l : Local). same_id l.id id) ls ≡ true → is_shown (last_of id ls (Some l)) ≡ true →
          (list_any (λ (l : Local). same_id l.id id) ls ≡ true → is_shown (last_of id ls before) ≡ true) → is_shown (last_of id ls (if t then Some l else before)) ≡ true
      here true k first next = first
      here false k first next = next k

pub id_same : (id : Id) → same_id id id ≡ true
id_same id = rw (eq-eqb id.region id.region refl, eq-eqb id.k id.k refl) refl

-- each parameter is among what is shown
param_there : (n : ℕ) (ps : List Param) (rest : List Named) (k : ℕ) (d : Param) → k < length ps → list_any (λ (l : Local). same_id l.id (slice_index_or ps k d).id) (locals_from n (params_named ps rest)) ≡ true
param_there n [] rest k d l = absurd (omega (arith, l))
param_there n (p ∷ ps) rest zero d l = rw (id_same p.id) refl
param_there n (p ∷ ps) rest (suc k) d l = second_true (same_id p.id (slice_index_or ps k d).id) _ (param_there (counted n p.name) ps rest k d (omega (arith, l)))

pub all_shown : (f : Func) → list_all is_named (named_of f) ≡ true → length (named_of f) ≤ 2 ^ 64 → All (λ p. is_shown (local_of p.id (names_of f).locals) ≡ true) f.params
all_shown f h l k d within =
    last_shown (slice_index_or f.params k d).id (locals_from 0 (named_of f)) None (locals_are 0 (named_of f) h (omega (arith, l))) (param_there 0 f.params (blocks_named f.blocks) k d within)
