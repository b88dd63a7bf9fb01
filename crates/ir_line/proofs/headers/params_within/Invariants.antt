-- The parameters found and those of the rest are those of all.
use Rattle.std.proofs.Common.{◌≡◌, length}
use Rattle.ir_line.specs.Headers.{params_within, with_params}
use Rattle.ir_line.proofs.headers.params_within.Given as goal

abbrev pub invariant-each : goal.invariant-each
invariant-each l = record {
  whole : with_params l.found (params_within l.bound l.at.line.now l.place l.rest.tokens.now) ≡ params_within l.at.tokens.now l.at.line.now 0 l.at.tokens.now;
  line : l.rest.line.now ≡ l.at.line.now;
}

abbrev pub decreases-each : goal.decreases-each
decreases-each l = length l.bound
