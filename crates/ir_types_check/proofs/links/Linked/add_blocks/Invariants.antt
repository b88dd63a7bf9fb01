-- The blocks so far, with those of the labels that are left, are the whole.
use Rattle.std.proofs.Common.{◌≡◌, length}
use Rattle.ir_types_check.specs.Links.{blocks_onto}
use Rattle.ir_types_check.proofs.links.Linked.add_blocks.Given as goal

abbrev pub invariant-each : goal.invariant-each
invariant-each l = record {
  blocks : blocks_onto l.locals l.line l.self.blocks l.rest ≡ blocks_onto l.locals l.line l.fn.self.blocks l.labels;
  opds : l.self.opds ≡ l.fn.self.opds;
}

abbrev pub decreases-each : goal.decreases-each
decreases-each l = length l.rest
