-- Beside a parameter stands nothing, and beside an instruction its neighbour.
use Rattle.std.proofs.Common.{◌∙◌, sym, true, false}
use Rattle.vx_view.specs.Answers.{funcs_of, found, after}
use Rattle.sb_lines.specs.Arena.{seen}
use Rattle.sb_values.proofs.Told.{beside_is}
use Rattle.sb_values.proofs.parts.Parts.next.Goals as goal

pub returns-then-is_param : goal.returns-then-is_param
returns-then-is_param c =
    beside_is c.args.id (funcs_of (seen c.args.self.now.lines).items) (found (seen c.args.self.now.lines) c.args.id) (after c.args.id) true (sym c.if-is_param.true ∙ c.is_param.ensures)

pub returns : goal.returns
returns c =
    c.next.ensures
    ∙ beside_is c.args.id (funcs_of (seen c.args.self.now.lines).items) (found (seen c.args.self.now.lines) c.args.id) (after c.args.id) false (sym c.if-is_param.false ∙ c.is_param.ensures)
