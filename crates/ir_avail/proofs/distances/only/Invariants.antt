use Rattle.std.proofs.Common.{◌≡◌, ℕ, ◌<◌, length}
use Rattle.std.specs.declared.option.Option.TheVariants.{Some}
use Rattle.ir_avail.specs.Avoids.{distance_at}
use Rattle.ir_avail.proofs.distances.only.Given as goal

abbrev pub invariant-loop-number : goal.invariant-loop-number
invariant-loop-number l = record {
  long : length l.distances.items ≡ l.number;
  here : l.end < l.number → distance_at l.distances.items l.end ≡ Some 0;
  others : (a n : ℕ) → distance_at l.distances.items a ≡ Some n → (a ≡ l.end) × (n ≡ 0);
}
