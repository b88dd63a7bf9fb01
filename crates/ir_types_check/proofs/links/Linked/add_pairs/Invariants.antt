-- The pairs so far, with those that are left, are the whole.
use Rattle.std.proofs.Common.{◌≡◌, length}
use Rattle.ir_types_check.specs.Links.{pairs_onto}
use Rattle.ir_types_check.proofs.links.Linked.add_pairs.Given as goal

abbrev pub invariant-each : goal.invariant-each
invariant-each l =
    pairs_onto l.known.tops.now l.known.locals.now l.known.base l.line l.self l.args l.labels
    ≡ pairs_onto l.known.tops.now l.known.locals.now l.known.base l.line l.fn.self l.fn.args l.fn.labels

abbrev pub decreases-each : goal.decreases-each
decreases-each l = length l.args
