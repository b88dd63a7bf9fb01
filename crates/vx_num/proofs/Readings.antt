-- Signed readings and the bits of signed numbers undo each other.
use Rattle.std.proofs.Common.{◌≡◌, ℕ, pos, negsuc, suc, ◌-◌, ◌^◌, ◌<◌, ◌-ℤ◌, Bool, true, false, nat_lt, if◌then◌else◌, ap, ◌∙◌, arith}
use Rattle.std.proofs.Math.Nat.{mod-eq_of_lt}
use Rattle.std.proofs.lemmas.Int.{ints}
use Rattle.vx_num.specs.Width.{sign_bit, signed, low_bits}

-- a number below 2^w less 2^w is negative
below-negative : (n m : ℕ) → n < m → pos n -ℤ pos m ≡ negsuc (m - suc n)
below-negative n m lt = omega (arith, ints)

cut-negative : (w e : ℕ) → e < 2 ^ w → low_bits w (negsuc e) ≡ 2 ^ w - 1 - e
cut-negative w e lt = ap (λ x. 2 ^ w - 1 - x) (mod-eq_of_lt lt)

read_back : (w n : ℕ) (b : Bool) → n < 2 ^ w → low_bits w (if b then pos n else pos n -ℤ pos (2 ^ w)) ≡ n
read_back w n true lt = mod-eq_of_lt lt
read_back w n false lt =
    let small : 2 ^ w - suc n < 2 ^ w = omega arith in
    let back : 2 ^ w - 1 - (2 ^ w - suc n) ≡ n = omega arith in
    ap (low_bits w) (below-negative n (2 ^ w) lt) ∙ cut-negative w (2 ^ w - suc n) small ∙ back

-- the bits of a number's signed reading are the number
pub low_bits-signed : (w n : ℕ) → n < 2 ^ w → low_bits w (signed w n) ≡ n
low_bits-signed w n lt = read_back w n (nat_lt n (sign_bit w)) lt
