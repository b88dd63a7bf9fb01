-- The node before holds the instruction before.
use Rattle.std.proofs.Common.{ap, ◌∙◌, None, option_and_then}
use Rattle.vx_view.specs.Answers as of_module
use Rattle.vx_view.specs.Answers.{funcs_of, first_in, found}
use Rattle.sb_lines.specs.declared.arena.Arena.{Arena}
use Rattle.sb_lines.specs.Arena.{seen}
use Rattle.sb_lines.proofs.Standings.{prev-is}
use Rattle.sb_lines.proofs.lines.Lines.prev.Goals as goal

pub returns : goal.returns
returns c =
    c.prev.ensures ∙ prev-is c.self.inside.arena c.self.invariant c.args.id ∙ ap (λ (s : Arena). option_and_then (λ t. of_module.before c.args.id None t.block) (found (seen s) c.args.id)) c.self.view_is
