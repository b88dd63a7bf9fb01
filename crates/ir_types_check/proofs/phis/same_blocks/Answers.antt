-- The sorted lists are one exactly where the counts are.
use Rattle.std.specs.List.Sorted.{IsPermutation}
use Rattle.std.proofs.lemmas.Bool.Decides.{Decides-eqb}
use Rattle.std.proofs.lemmas.List.Sorted.{IsNonDecreasingBy-from_sort}
use Rattle.std.proofs.lemmas.Slice.Eq.{slice_eq-Decides}
use Rattle.ir_types_check.proofs.Counts.{sorted_same, Up}
use Rattle.ir_types_check.proofs.phis.same_blocks.Goals as goal

pub returns : goal.returns
returns c =
    let left : IsPermutation c.args.left.now c.as_slice.result.now = rw c.as_slice.ensures.value (rw c.in_ok-left.ensures.items at c.sort.ensures.permutation) in
    let right : IsPermutation c.args.right.now c.as_slice-2.result.now = rw c.as_slice-2.ensures.value (rw c.in_ok-right.ensures.items at c.sort-2.ensures.permutation) in
    let up : Up c.as_slice.result.now = rw c.as_slice.ensures.value (IsNonDecreasingBy-from_sort (λ x. x) c.sort.new.self.items c.in_ok-sort.ensures.sorted) in
    let up_too : Up c.as_slice-2.result.now = rw c.as_slice-2.ensures.value (IsNonDecreasingBy-from_sort (λ x. x) c.sort-2.new.self.items c.in_ok-sort-2.ensures.sorted) in
    let d = slice_eq-Decides Decides-eqb c.as_slice.result.now c.as_slice-2.result.now c.eq.result c.eq.ensures in
    sorted_same c.args.left.now c.args.right.now c.as_slice.result.now c.as_slice-2.result.now c.eq.result left right up up_too d
