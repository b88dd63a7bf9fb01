-- All nodes stay as they are.
use Rattle.std.proofs.Common.{ap, ◌∙◌}
use Rattle.sb_lines.specs.declared.arena.Arena.{Arena}
use Rattle.sb_lines.specs.Arena.{seen}
use Rattle.sb_lines.proofs.Said.{reserved-whole, reserved-seen}
use Rattle.sb_lines.proofs.lines.Lines.reserve.Goals as goal

pub invariant_of-self : goal.invariant_of-self
invariant_of-self c =
    reserved-whole c.self.inside.arena c.reserve.new.self c.self.invariant c.reserve.ensures.kept c.reserve.ensures.node

pub returns-clause-same : goal.returns-clause-same
returns-clause-same c =
    reserved-seen c.self.inside.arena c.reserve.new.self c.self.invariant c.reserve.ensures.kept c.reserve.ensures.node ∙ ap (λ (s : Arena). seen s) c.self.view_is
