-- The place of the id has the item, and every other place what it had.
use Rattle.std.specs.HashMap.{get}
use Rattle.ir_types.specs.Available.{same_id}
use Rattle.ir_types.proofs.IdTables.{row_set}
use Rattle.ir_types.proofs.id_table.IdTable.put_in_row.Goals as goal

pub returns-clause-now : goal.returns-clause-now
returns-clause-now g c =
    let t = c.args.self.now in
    λ q. row_set t.first t.row.items c.args.id c.args.at c.args.item c.requires.place c.requires.there q (get same_id t.others q)
