-- A power of two up to 2^32 is 2 to some power of at most 32.
use Rattle.std.proofs.Common.{◌≡◌, ℕ, suc, zero, ◌*◌, ◌^◌, ◌/◌, ◌%◌, ◌<◌, ◌≤◌, true, List, Some, refl, sym, ◌∙◌, subst, arith, pow_mono}
use Rattle.std.specs.Prelude.{nat_le}
use Rattle.std.specs.Int.{is_power_of_two}
use Rattle.std.specs.Int.Count.{ones, ones_in}
use Rattle.std.proofs.lemmas.Bool.Decides.{nat_tests}
use Rattle.vx_digits.specs.Numbers.{number_of}
use Rattle.vx_digits.specs.Optional.{when}
use Rattle.ir_types.specs.Typed.{IsAlign}
use Rattle.ir_words.specs.Values.{align_of, is_align}
use Rattle.ir_forms.proofs.Steps.{bind_then, when_then, both_true}

no_ones : (d m : ℕ) → m < 2 ^ d → ones_in d m ≡ 0 → m ≡ 0
unfolding ones_in
no_ones zero m few e = omega arith
no_ones (suc d) m few e =
    let twice : 2 ^ suc d ≡ 2 * 2 ^ d = omega arith in
    let low : m % 2 ≡ 0 = omega arith in
    let high : ones_in d (m / 2) ≡ 0 = omega arith in
    let half : m / 2 ≡ 0 = no_ones d (m / 2) (omega arith) high in
    omega arith

zero_one : {P : Type 0} → ◌≡◌ {A = ℕ} 0 1 → P
zero_one e = cc

one_bit : (d n : ℕ) → n < 2 ^ d → ones_in d n ≡ 1 → (k : ℕ) × (n ≡ 2 ^ k)
unfolding ones_in
one_bit zero n few e = zero_one e
one_bit (suc d) n few e = by_low (n % 2) refl (λ m less one. one_bit d m less one) where
  twice : 2 ^ suc d ≡ 2 * 2 ^ d
  twice = omega arith

  by_low : (r : ℕ) → n % 2 ≡ r → ((m : ℕ) → m < 2 ^ d → ones_in d m ≡ 1 → (k : ℕ) × (m ≡ 2 ^ k)) → (k : ℕ) × (n ≡ 2 ^ k)
  by_low zero is deeper =
      let rest : ones_in d (n / 2) ≡ 1 = omega (arith, e, is) in
      let half : (k : ℕ) × (n / 2 ≡ 2 ^ k) = deeper (n / 2) (omega (arith, twice, few)) rest in
      (suc half.0, (let next : 2 ^ suc half.0 ≡ 2 * 2 ^ half.0 = omega arith in omega (arith, half.1, is)))
  by_low (suc r) is deeper =
      let rest : ones_in d (n / 2) ≡ 0 = omega (arith, e, is) in
      let half : n / 2 ≡ 0 = no_ones d (n / 2) (omega (arith, twice, few)) rest in
      (0, omega (arith, is, half, e))

below_power : (n : ℕ) → n < 2 ^ n
below_power zero = omega arith
below_power (suc n) = let less : n < 2 ^ n = below_power n in let twice : 2 ^ suc n ≡ 2 * 2 ^ n = omega arith in omega arith

power_is : (n : ℕ) → is_power_of_two n ≡ true → (k : ℕ) × (n ≡ 2 ^ k)
unfolding ones
power_is n e = one_bit n n (below_power n) (grind (arith, nat_tests))

small : (k : ℕ) → 2 ^ k ≤ 2 ^ 32 → k ≤ 32
small k h = grind (arith, pow_mono {i = 33} {j = k})

pub aligned : (word : List ℕ) (n : ℕ) → align_of word ≡ Some n → IsAlign n
unfolding align_of
aligned word n e =
    bind_then (number_of word) (λ m. when (is_align m) m) n e (λ m _ r.
    when_then (is_align m) m n r (λ fine same.
    let b : (is_power_of_two m ≡ true) × (nat_le m (2 ^ 32) ≡ true) = both_true _ _ fine in
    let p : (k : ℕ) × (m ≡ 2 ^ k) = power_is m b.0 in
    let least : m ≤ 2 ^ 32 = grind (arith, nat_tests) in
    (p.0, small p.0 (subst (λ x. x ≤ 2 ^ 32) p.1 least), sym same ∙ p.1)))
