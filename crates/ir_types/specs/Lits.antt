-- The lanes that a `Lits` keeps, and those that are given to be read.
use Rattle.std.specs.Prelude.{ℕ, List, [], ◌∷◌}
use Rattle.std.specs.declared.option.Option.{Option}
use Rattle.std.specs.declared.option.Option.TheVariants.{None, Some}
use Rattle.ir_types.specs.declared.lits.Kept.{Kept}
use Rattle.ir_types.specs.declared.lits.Kept.TheVariants.{Empty, Number, Poison, Many}
use Rattle.ir_types.specs.declared.lits.Lanes.{Lanes}
use Rattle.ir_types.specs.declared.lits.Lanes.TheVariants.{One, All}

abbrev pub kept_lanes : Kept → List (Option ℕ)
kept_lanes Empty = []
kept_lanes (Number n) = Some n ∷ []
kept_lanes Poison = None ∷ []
kept_lanes (Many lanes) = lanes.value

abbrev pub lanes : Lanes → List (Option ℕ)
lanes (One row) = row
lanes (All row) = row.now
