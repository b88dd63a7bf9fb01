-- What is kept is what the module has.
use Rattle.std.proofs.Common.{◌∙◌, ap, slice_get}
use Rattle.vx_view.specs.Answers.{funcs_of}
use Rattle.vx_view.specs.Changes.{ty_in}
use Rattle.sb_lines.specs.declared.arena.Arena.{Arena}
use Rattle.sb_lines.specs.Arena.{seen}
use Rattle.sb_lines.proofs.Typing.{ty-is}
use Rattle.sb_lines.proofs.lines.Lines.ty_in.Goals as goal

pub returns : goal.returns
returns c =
    c.ty_in.ensures ∙ ty-is c.self.inside.arena c.self.invariant c.args.func c.args.opd.now
    ∙ ap (λ (s : Arena). ty_in (seen s) c.args.opd.now (slice_get (funcs_of (seen s).items) c.args.func)) c.self.view_is
