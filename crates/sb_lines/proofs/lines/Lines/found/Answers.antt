-- The node of the id tells.
use Rattle.std.proofs.Common.{ap, ◌∙◌, option_map}
use Rattle.vx_view.specs.Answers.{found}
use Rattle.sb_lines.specs.declared.arena.Arena.{Arena}
use Rattle.sb_lines.specs.Arena.{seen, told_of}
use Rattle.sb_lines.proofs.Standings.{told-found}
use Rattle.sb_lines.proofs.lines.Lines.found.Goals as goal

pub returns : goal.returns
returns c =
    c.found.ensures ∙ told-found c.self.inside.arena c.self.invariant c.args.id ∙ ap (λ (s : Arena). option_map told_of (found (seen s) c.args.id)) c.self.view_is
