-- The members of the groups so far have their entries.
use Rattle.std.proofs.Common.{◌≡◌, ℕ, ◌<◌, length, slice_index}
use Rattle.vx_order.specs.Groups.{owner_of, position_of, size}
use Rattle.vx_order.proofs.table.Table.of.Given as goal

abbrev pub invariant-loop-number : goal.invariant-loop-number
invariant-loop-number l = record {
  owners_len : length l.owners.items ≡ size l.groups;
  positions_len : length l.positions.items ≡ size l.groups;
  owners : (p : ℕ) → p < size l.groups → owner_of l.groups p < l.number → slice_index l.owners.items p ≡ owner_of l.groups p;
  positions : (p : ℕ) → p < size l.groups → owner_of l.groups p < l.number → slice_index l.positions.items p ≡ position_of l.groups p;
}
