-- Two calls of a source or a sink, one after the other, and counts that rise.
use Rattle.std.proofs.Common.{ℕ, ◌+◌, ◌^◌, ◌≤◌, ◌-◌, List, ◌++◌, length, take, drop, inl, inr, subst, sym, ap, length-drop, arith, None, Some}
use Rattle.std.specs.Prelude.{Option}
use Rattle.std.specs.Io.KnownBytes.{Appends, Consumes}
use Rattle.std.proofs.KnownBytes.{Appends-trans, Consumes-trans}
use Rattle.std.proofs.lemmas.List.{take_rest}
use Rattle.std.proofs.Math.Seq.{take-add}
use Rattle.vx_io.specs.Count.{Rose}
use Rattle.vx_io.specs.Room.{UsesRoom}
use Rattle.vx_io.specs.Bytes.{ConsumesSome}

-- what was read before a read, and what it gave, were consumed in all
pub ConsumesSome-more : (a b c : Option (List ℕ)) (xs ys : List ℕ) → Consumes a b xs → Consumes b c ys → ConsumesSome a c
ConsumesSome-more a b c xs ys first second = (xs ++ ys, Consumes-trans a b c xs ys first second)

-- a front of what is left stays within the whole
pub within_rest : (xs : List ℕ) (n m : ℕ) → n ≤ length xs → m ≤ length (take (length xs - n) (drop n xs)) → n + m ≤ length xs
within_rest xs n m le more = omega (arith, ap length (take_rest xs n), length-drop n xs)

-- a front was taken, and then a front of the rest
pub Appends-front_more : (a b c : Option (List ℕ)) (xs : List ℕ) (n m : ℕ) → Appends a b (take n xs) → Appends b c (take m (take (length xs - n) (drop n xs))) → Appends a c (take (n + m) xs)
Appends-front_more a b c xs n m first second =
    let rest = subst (λ l. Appends b c (take m l)) (take_rest xs n) second in
    subst (Appends a c) (sym (take-add n m xs)) (Appends-trans a b c _ _ first rest)

-- a count that rose after it did not fall has risen in all
pub Rose-later : (before middle now : ℕ) → before ≤ middle → Rose middle now → Rose before now
Rose-later before middle now le (inl lt) = inl (omega arith)
Rose-later before middle now le (inr last) = inr last

-- a count that rose and then did not fall is greater still, or stood at the last value
pub Rose-earlier : (before middle now : ℕ) → Rose before middle → middle ≤ now → now ≤ 2 ^ 64 - 1 → Rose before now
Rose-earlier before middle now (inl lt) le small = inl (omega arith)
Rose-earlier before middle now (inr last) le small = inr (omega arith)

-- the count of an object that never fails does not rise
pub Rose-zero : Rose 0 0 → ⊥
Rose-zero (inl lt) = omega arith
Rose-zero (inr last) = cc

-- what two calls took used up no more room than both
pub UsesRoom-more : (a b c : Option ℕ) (n m : ℕ) → UsesRoom a b n → UsesRoom b c m → UsesRoom a c (n + m)
UsesRoom-more None b c n m first second = tt
UsesRoom-more (Some x) None c n m first second = absurd first
UsesRoom-more (Some x) (Some y) None n m first second = absurd second
UsesRoom-more (Some x) (Some y) (Some z) n m first second = omega arith
