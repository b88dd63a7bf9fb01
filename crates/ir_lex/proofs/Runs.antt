-- How far a run of bytes goes, and where a string ends.
use Rattle.std.proofs.Common.{◌≡◌, ℕ, suc, zero, ◌+◌, ◌<◌, ◌≤◌, ◌==◌, ◌⊎◌, inl, inr, Bool, true, false, cond, List, [], ◌∷◌, length, take, refl, arith}
use Rattle.std.proofs.lemmas.Grind.{common_steps}
use Rattle.std.specs.List.{list_all, prefix_len, position_or_len}
use Rattle.ir_lex.specs.Bytes.{quote, is_digit}
use Rattle.ir_lex.specs.Tokens.{ends_string, is_empty, is_number}
use Rattle.ir_lex.specs.Scan.{one_more, string_len}

-- the bytes of a run pass
pub run_passes : (p : ℕ → Bool) (bs : List ℕ) → list_all p (take (prefix_len p bs) bs) ≡ true
run_passes p [] = refl
run_passes p (b ∷ bs) = let e : 1 + prefix_len p bs ≡ suc (prefix_len p bs) = omega arith in grind (arith, common_steps, e, run_passes p bs)

-- no more bytes pass
pub run_longest : (p : ℕ → Bool) (bs : List ℕ) (m : ℕ) → m ≤ length bs → list_all p (take m bs) ≡ true → m ≤ prefix_len p bs
run_longest p bs zero l h = omega arith
run_longest p [] (suc m) l h = omega arith
run_longest p (b ∷ bs) (suc m) l h = grind (arith, common_steps, run_longest p bs m)

-- a string ends within the line
pub string_within : (bs : List ℕ) → string_len bs ≤ length bs
unfolding string_len
string_within [] = omega arith
string_within (b ∷ bs) = grind (arith, common_steps, string_within bs)

-- a string that closes ends with the first quote
pub string_closed : (bs : List ℕ) → position_or_len (λ b. b == quote) bs < length bs → string_len bs ≡ position_or_len (λ b. b == quote) bs + 1
unfolding string_len
string_closed [] h = omega arith
string_closed (b ∷ bs) h = grind (arith, common_steps, string_closed bs)

-- a string without a closing quote has no bytes
pub string_open : (bs : List ℕ) → length bs ≤ position_or_len (λ b. b == quote) bs → string_len bs ≡ 0
unfolding string_len
string_open [] h = refl
string_open (b ∷ bs) h = grind (arith, common_steps, string_open bs)

-- nothing is taken only where nothing is asked for
pub take_nothing : (m : ℕ) (bs : List ℕ) → m ≤ length bs → take m bs ≡ [] → m ≡ 0
take_nothing zero bs l e = refl
take_nothing (suc m) [] l e = omega arith
take_nothing (suc m) (b ∷ bs) l e = cc

-- digits are none, or a number
pub digits_number : (bs : List ℕ) → list_all is_digit bs ≡ true → (bs ≡ []) ⊎ (is_number bs ≡ true)
digits_number [] h = inl refl
digits_number (b ∷ bs) h = inr h

-- a string that closes is a string
pub string_stands : (bs : List ℕ) → (string_len bs ≡ 0) ⊎ (ends_string (take (string_len bs) bs) ≡ true)
unfolding string_len
string_stands [] = inl refl
string_stands (b ∷ bs) = longer b bs (string_len bs) (b == quote) refl (string_stands bs) where
  longer : (b : ℕ) (bs : List ℕ) (n : ℕ) (t : Bool) → (b == quote) ≡ t → (n ≡ 0) ⊎ (ends_string (take n bs) ≡ true) →
      (cond t 1 (one_more n) ≡ 0) ⊎ (ends_string (take (cond t 1 (one_more n)) (b ∷ bs)) ≡ true)
  longer b bs n true e h = inr (rw e refl)
  longer b bs zero false e h = inl refl
  longer b bs (suc n) false e (inl h) = cc
  longer b bs (suc n) false e (inr h) = inr (rw e h)

-- no string is longer
pub string_longest : (bs : List ℕ) (m : ℕ) → m ≤ length bs → ends_string (take m bs) ≡ true → m ≤ string_len bs
unfolding string_len
string_longest bs zero l h = omega arith
string_longest [] (suc m) l h = omega arith
string_longest (b ∷ bs) (suc m) l h = longer b bs m (string_len bs) (b == quote) refl (omega arith) h (string_longest bs m (omega arith)) where
  empty_none : (m : ℕ) (bs : List ℕ) → m ≤ length bs → is_empty (take m bs) ≡ true → m ≡ 0
  empty_none zero bs l h = refl
  empty_none (suc m) [] l h = omega arith
  empty_none (suc m) (b ∷ bs) l h = cc

  longer : (b : ℕ) (bs : List ℕ) (m n : ℕ) (t : Bool) → (b == quote) ≡ t → m ≤ length bs → ends_string (b ∷ take m bs) ≡ true → (ends_string (take m bs) ≡ true → m ≤ n) →
      suc m ≤ cond t 1 (one_more n)
  longer b bs m n true e l h k = let z = empty_none m bs l (rw e at h) in omega arith
  longer b bs zero n false e l h k = let f = rw e at h in cc
  longer b bs (suc m) zero false e l h k = let z = k (rw e at h) in omega arith
  longer b bs (suc m) (suc n) false e l h k = let z = k (rw e at h) in omega arith
