-- The last lane closes the list.
use Rattle.std.proofs.Common.{rules}
use Rattle.ir_words.specs.Cursors.{left}
use Rattle.ir_words.proofs.LaneLists.{last_lane}
use Rattle.ir_words.proofs.literals.lanes_within.Goals as goal

pub returns-then-not-begins : goal.returns-then-not-begins
returns-then-not-begins c =
    last_lane c.each.found _ c.args.at.line.now c.each.bound.now c.args.w (left c.each.rest) (left c.in_ok-lane.after) (left c.in_ok-expect.field-0) c.in_ok-lane.lane _
    c.each.invariant c.in-len1-up.len_at_least (search rules) (search rules) (search rules) (search rules)
