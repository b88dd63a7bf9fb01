-- Counts of faults, and of calls.
--
-- Each source and each sink counts the calls that failed in it. A caller tells a failure from an invented one by the count: an
-- error may only come where the count of that very object rose.
use Rattle.std.specs.Prelude.{◌≡◌, ℕ, ◌+◌, ◌-◌, ◌^◌, ◌<◌, ◌⊎◌, min, refl}
use Rattle.std.proofs.Common.{inl, inr, lit<}

-- one more than a count, which stays at the last value of a counter of 64 bits
abbrev pub next_count : ℕ → ℕ
next_count n = min (n + 1) (2 ^ 64 - 1)

-- a count rose in a call: it is greater than before, or stands at the last value of a counter
abbrev pub Rose : ℕ → ℕ → Type 0
Rose before now = (before < now) ⊎ (now ≡ 2 ^ 64 - 1)

two_then_three : next_count 2 ≡ 3
two_then_three = refl

last_stays : next_count 18446744073709551615 ≡ 18446744073709551615
last_stays = refl

three_rose : Rose 2 3
three_rose = inl (lit< tt)

last_rose : Rose 18446744073709551615 18446744073709551615
last_rose = inr refl
