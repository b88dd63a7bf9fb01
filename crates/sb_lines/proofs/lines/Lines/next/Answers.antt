-- The next node holds the next instruction.
use Rattle.std.proofs.Common.{ap, ◌∙◌, option_and_then}
use Rattle.vx_view.specs.Answers as of_module
use Rattle.vx_view.specs.Answers.{funcs_of, first_in, found}
use Rattle.sb_lines.specs.declared.arena.Arena.{Arena}
use Rattle.sb_lines.specs.Arena.{seen}
use Rattle.sb_lines.proofs.Standings.{next-is}
use Rattle.sb_lines.proofs.lines.Lines.next.Goals as goal

pub returns : goal.returns
returns c =
    c.next.ensures ∙ next-is c.self.inside.arena c.self.invariant c.args.id ∙ ap (λ (s : Arena). option_and_then (λ t. of_module.after c.args.id t.block) (found (seen s) c.args.id)) c.self.view_is
