-- What a list ends as, where a `&mut` to one of its items is given.
use Rattle.std.specs.Prelude.{ℕ, List, Option, slice_set}
use Rattle.std.specs.Borrow.{LendsIf, Fml, RattleType, MutBor}
use Rattle.vx_list.specs.contracts.seq.Seq.{the_row}
use Rattle.vx_list.specs.contracts.short.Short as short

-- once the borrow ends, the place has what was written last, and where there is no such place the list stays as it is
abbrev pub lends_item : (T : RattleType) → MutBor (List T.Denot) → ℕ → Option (MutBor T.Denot) → Fml
lends_item T list at item = LendsIf (the_row T) T list item (slice_set list.now at) list.now

-- the same of a list that keeps N items inline
abbrev pub lends_short_item : (T N : RattleType) → MutBor (List T.Denot) → ℕ → Option (MutBor T.Denot) → Fml
lends_short_item T N list at item = LendsIf (short.the_row T N) T list item (slice_set list.now at) list.now
