use Rattle.std.proofs.Common.{◌≡◌, ℕ, Bool, true, length}
use Rattle.std.specs.List.{list_all}
use Rattle.vx_seeds.specs.Reached.{Marks, Holds, Leads}
use Rattle.vx_seeds.proofs.reached.round.Given as goal

abbrev pub invariant-loop-block : goal.invariant-loop-block
invariant-loop-block l = record {
  holds : (p q : ℕ → Bool) → Leads l.graph p q → list_all p l.blocks ≡ true → Marks q l.fn.marks.items → Holds q l.marks.items l.found.items;
  len : length l.marks.items ≡ length l.fn.marks.items;
}
