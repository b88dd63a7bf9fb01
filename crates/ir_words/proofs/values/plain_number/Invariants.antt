-- What is left has the same digits without leading zeros.
use Rattle.std.proofs.Common.{◌≡◌, length}
use Rattle.ir_words.specs.Values.{plain_number}
use Rattle.ir_words.proofs.values.plain_number.Given as goal

abbrev pub invariant-each : goal.invariant-each
invariant-each l = plain_number l.rest ≡ plain_number l.digits

abbrev pub decreases-each : goal.decreases-each
decreases-each l = length l.rest
