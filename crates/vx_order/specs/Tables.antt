-- The table of groups: what is kept for each place.
use Rattle.std.specs.Prelude.{◌≡◌, ℕ, ◌<◌, List, length, slice_index}
use Rattle.vx_order.specs.Groups.{owner_of, position_of, size}
use Rattle.vx_order.specs.declared.table.Table.{Table}

-- the table has the owner and the position of each place
pub record IsTableOf (groups : List (List ℕ)) (t : Table) : Type 0 where
  pub owners_len : length t.owners.items ≡ size groups
  pub positions_len : length t.positions.items ≡ size groups
  pub owners : (p : ℕ) → p < size groups → slice_index t.owners.items p ≡ owner_of groups p
  pub positions : (p : ℕ) → p < size groups → slice_index t.positions.items p ≡ position_of groups p
