-- Room changes the order of entries at most.
use Rattle.ir_types.specs.IdTable.{in_row, either}
use Rattle.ir_types.proofs.id_table.IdTable.reserve.Goals as goal

pub returns-clause-same : goal.returns-clause-same
returns-clause-same g c =
    λ q i. either (in_row c.args.self.now.first (c.reserve.ensures.items i) q) (c.reserve-2.ensures.entries.2 q i)
