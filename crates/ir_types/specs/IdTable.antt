-- What a table of ids has of each id.
use Rattle.std.specs.Prelude.{ℕ, ◌+◌, ◌-◌, ◌≤◌, ◌&&◌, ◌==◌, nat_le, if◌then◌else◌, List, length, slice_get, vec_capacity}
use Rattle.std.specs.declared.option.Option.{Option}
use Rattle.std.specs.declared.option.Option.TheVariants.{None, Some}
use Rattle.std.specs.HashMap.{get, spare}
use Rattle.ir_types.specs.declared.id.Id.{Id}
use Rattle.ir_types.specs.declared.id_table.IdTable.{IdTable}
use Rattle.ir_types.specs.Available.{same_id}

-- the place of an id in a row of the ids of region 0 from a number on
abbrev pub place : ℕ → Id → Option ℕ
place first id = if (id.region == 0) && nat_le first id.k then Some (id.k - first) else None

-- what stands at a place
abbrev pub item_of : {T : Type 0} → Option (Option T) → Option T
item_of None = None
item_of (Some item) = item

abbrev pub item_at : {T : Type 0} → List (Option T) → Option ℕ → Option T
item_at row None = None
item_at row (Some at) = item_of (slice_get row at)

-- the first of two that is there
abbrev pub either : {T : Type 0} → Option T → Option T → Option T
either None other = other
either (Some item) other = Some item

abbrev pub in_row : {T : Type 0} → ℕ → List (Option T) → Id → Option T
in_row first row id = item_at row (place first id)

-- the item of an id
abbrev pub found : {T : Type 0} → IdTable T → Id → Option T
found t id = either (in_row t.first t.row.items id) (get same_id t.others id)

-- so many more ids can be given items without more memory
abbrev pub HasRoom : {T : Type 0} → IdTable T → ℕ → Type 0
HasRoom t more = (length t.row.items + more ≤ vec_capacity t.row) × (more ≤ spare t.others)
