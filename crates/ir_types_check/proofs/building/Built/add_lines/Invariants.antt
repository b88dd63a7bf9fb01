-- What is built and told so far, with the lines that are left, is the whole.
use Rattle.std.proofs.Common.{◌≡◌, length}
use Rattle.ir_types_check.specs.Answers.{◌>>=◌}
use Rattle.ir_types_check.specs.Blocks.{built_lines}
use Rattle.ir_types_check.specs.InOrder.{told}
use Rattle.ir_types_check.specs.Outline.{start}
use Rattle.ir_types_check.specs.Typed.{lines_typed}
use Rattle.ir_types_check.proofs.building.Built.add_lines.Given as goal

abbrev pub invariant-each : goal.invariant-each
invariant-each l = record {
  built : built_lines l.known.tops.now l.known.locals.now l.known.base l.self l.rest ≡ built_lines l.known.tops.now l.known.locals.now l.known.base l.fn.self l.body;
  typed : (told l.ill >>= λ _. lines_typed l.known.tops.now l.known.locals.now l.known.ret l.known.sources.now l.at l.rest)
      ≡ (told l.fn.ill >>= λ _. lines_typed l.known.tops.now l.known.locals.now l.known.ret l.known.sources.now start l.body);
}

abbrev pub decreases-each : goal.decreases-each
decreases-each l = length l.rest
