-- Where the value of each id stands among the locals: in a row by the number of the id, or in a map.
use Rattle.std.specs.Prelude.{◌≡◌, ℕ, ◌-◌, cond, Option, Some, None, List, length, get_or, nat_eq, nat_lt, option_and_then, slice_get}
use Rattle.std.specs.HashMap.{get_by}
use Rattle.ir_types.specs.declared.id.Id.{Id}
use Rattle.ir_print.specs.declared.index.Index.{Index}
use Rattle.ir_print.specs.declared.names.Local.{Local}
use Rattle.ir_print.specs.Names.{same_id, local_of}

-- how far a number is from the first, if that is less than the length
abbrev pub offset : ℕ → ℕ → ℕ → Option ℕ
offset len first k = cond (nat_lt k first) None (cond (nat_lt (k - first) len) (Some (k - first)) None)

-- where an id stands in the row
abbrev pub slot_of : Index → Id → Option ℕ
slot_of x id = cond (nat_eq id.region x.region) (offset (length x.row.items) x.first id.k) None

-- the place of an id that stands there in the row, or nowhere in it
abbrev pub place_by : Index → Id → Option ℕ → Option ℕ
place_by x id (Some slot) = get_or x.row.items slot None
place_by x id None = get_by (same_id id) x.others

abbrev pub place_in : Index → Id → Option ℕ
place_in x id = place_by x id (slot_of x id)

-- it has the place of each id's value
abbrev pub IsIndex : Index → List Local → Type 0
IsIndex x ls = (id : Id) → option_and_then (λ at. slice_get ls at) (place_in x id) ≡ local_of id ls
