-- The arguments found and those of the rest are those of all.
use Rattle.std.proofs.Common.{◌≡◌, length}
use Rattle.ir_line.specs.Calls.{arguments_within, with_arguments}
use Rattle.ir_line.proofs.calls.arguments_within.Given as goal

abbrev pub invariant-each : goal.invariant-each
invariant-each l = record {
  whole : with_arguments l.found (arguments_within l.bound l.at.line.now l.rest.tokens.now) ≡ arguments_within l.at.tokens.now l.at.line.now l.at.tokens.now;
  line : l.rest.line.now ≡ l.at.line.now;
}

abbrev pub decreases-each : goal.decreases-each
decreases-each l = length l.bound
