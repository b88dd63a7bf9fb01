-- The bands of a function: each says of its clear bits that no walk comes there without the value.
use Rattle.std.specs.Prelude.{◌≡◌, ℕ, List}
use Rattle.std.specs.List.{All}
use Rattle.ir_types.specs.declared.func.Func.{Func}
use Rattle.ir_types.specs.Available.{graph_of}
use Rattle.ir_avail.specs.declared.rows.Band.{Band}
use Rattle.ir_avail.specs.declared.uses.Facts.{Facts}
use Rattle.ir_avail.specs.Rows.{IsBand}

abbrev pub AreBands : List (List ℕ) → List Band → Type 0
AreBands graph bands = All (λ (band : Band). IsBand graph band.homes.items band.rows.items) bands

-- the graph is the function's, and the bands are of it
abbrev pub AreFacts : Func → Facts → Type 0
AreFacts func facts = (facts.graph ≡ graph_of func) × AreBands (graph_of func) facts.known.bands.items
