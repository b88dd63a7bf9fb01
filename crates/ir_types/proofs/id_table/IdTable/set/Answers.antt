-- Each way of giving an id its item keeps its word on room.
use Rattle.std.proofs.Common.{arith, ◌+◌}
use Rattle.ir_types.proofs.id_table.IdTable.set.Goals as goal

pub returns-in-Some-clause-within : goal.returns-in-Some-clause-within
returns-in-Some-clause-within g c =
    λ more room. c.put_in_row.ensures.room more (c.begin.ensures.room more (omega (arith, room.0), omega (arith, room.1)))

pub returns-in-Some-2-clause-had_room : goal.returns-in-Some-2-clause-had_room
returns-in-Some-2-clause-had_room g c = λ room. c.push.ensures.had_room (c.begin.ensures.room 1 room)

pub returns-in-Some-2-clause-within : goal.returns-in-Some-2-clause-within
returns-in-Some-2-clause-within g c = λ more room. c.push.ensures.within more (c.begin.ensures.room (more + 1) room)

pub returns-in_default-clause-had_room : goal.returns-in_default-clause-had_room
returns-in_default-clause-had_room g c = λ room. c.set_other.ensures.had_room (c.begin.ensures.room 1 room)

pub returns-in_default-clause-within : goal.returns-in_default-clause-within
returns-in_default-clause-within g c = λ more room. c.set_other.ensures.within more (c.begin.ensures.room (more + 1) room)
