-- The operands so far, with those that are left, are the whole, and fit where the whole does.
use Rattle.std.proofs.Common.{◌≡◌, ◌&&◌, length}
use Rattle.std.specs.List.{list_all}
use Rattle.ir_types_check.specs.Links.{opds_onto}
use Rattle.ir_types_check.specs.Typed.{arg_fits}
use Rattle.ir_types_check.proofs.links.Linked.add_opds.Given as goal

abbrev pub invariant-each : goal.invariant-each
invariant-each l = record {
  opds : opds_onto l.known.tops.now l.known.locals.now l.known.base l.line l.self.opds l.rest ≡ opds_onto l.known.tops.now l.known.locals.now l.known.base l.line l.fn.self.opds l.args;
  blocks : l.self.blocks ≡ l.fn.self.blocks;
  fits : (l.fits && list_all (arg_fits l.known.locals.now) l.rest) ≡ (l.fn.fits && list_all (arg_fits l.known.locals.now) l.args);
}

abbrev pub decreases-each : goal.decreases-each
decreases-each l = length l.rest
