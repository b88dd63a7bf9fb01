-- Lanes as they are printed. Each is total: a number that has not so many bits is given some text all the same.
-- LLVM Language Reference, "Simple Constants" and "Poison Values".
use Rattle.std.specs.Prelude.{◌≡◌, refl, ℕ, ◌-◌, ◌^◌, Option, Some, None, List, ◌++◌, codes, nat_eq, nat_lt, if◌then◌else◌}
use Rattle.std.specs.Fmt.{decimal, digits}

-- the number n of w bits, read as signed; of one bit, as a truth value
abbrev pub number_text : ℕ → ℕ → List ℕ
number_text w n =
    if nat_eq w 1 then (if nat_eq n 0 then codes "false" else codes "true")
    else if nat_lt n (2 ^ (w - 1)) then decimal n
    else codes "-" ++ decimal (2 ^ w - n)

-- a lane of w bits
abbrev pub lane_text : ℕ → Option ℕ → List ℕ
lane_text w None = codes "poison"
lane_text w (Some n) = number_text w n

least_byte : number_text 8 128 ≡ codes "-128"
unfolding digits
least_byte = refl

truth : number_text 1 1 ≡ codes "true"
truth = refl
