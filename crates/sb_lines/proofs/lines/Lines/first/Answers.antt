-- The node after the mark holds the first instruction.
use Rattle.std.proofs.Common.{ap, ◌∙◌, slice_get}
use Rattle.vx_view.specs.Answers.{funcs_of, first_in}
use Rattle.sb_lines.specs.declared.arena.Arena.{Arena}
use Rattle.sb_lines.specs.Arena.{seen}
use Rattle.sb_lines.proofs.Standings.{first-there}
use Rattle.sb_lines.proofs.lines.Lines.first.Goals as goal

pub returns : goal.returns
returns c =
    c.first.ensures ∙ first-there c.self.inside.arena c.self.invariant c.args.place ∙ ap (λ (s : Arena). first_in c.args.place.block (slice_get (funcs_of (seen s).items) c.args.place.func)) c.self.view_is
