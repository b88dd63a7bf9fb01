-- What is told of a parameter and of an instruction is what the module answers.
use Rattle.std.proofs.Common.{refl, ◌∙◌, sym, ap, None, Some}
use Rattle.std.specs.Prelude.{option_map}
use Rattle.vx_view.specs.Answers.{funcs_of, found}
use Rattle.sb_lines.specs.Arena.{seen, as_told, told_of}
use Rattle.sb_values.proofs.Told.{value_is}
use Rattle.sb_values.proofs.parts.Parts.found.Goals as goal

pub returns-in-Some : goal.returns-in-Some
returns-in-Some c =
    value_is c.args.id (funcs_of (seen c.args.self.now.lines).items) (found (seen c.args.self.now.lines) c.args.id) (Some c.in-Some.param)
    (option_map told_of (found (seen c.args.self.now.lines) c.args.id)) (sym c.in-Some.is ∙ c.param.ensures) refl

pub returns-in-Some-found : goal.returns-in-Some-found
returns-in-Some-found c =
    value_is c.args.id (funcs_of (seen c.args.self.now.lines).items) (found (seen c.args.self.now.lines) c.args.id) None (Some (as_told c.in-Some-found.found))
    (sym c.in_default.is ∙ c.param.ensures) (ap (option_map as_told) (sym c.in-Some-found.is) ∙ c.found.ensures)

pub returns-in-None : goal.returns-in-None
returns-in-None c =
    value_is c.args.id (funcs_of (seen c.args.self.now.lines).items) (found (seen c.args.self.now.lines) c.args.id) None None
    (sym c.in_default.is ∙ c.param.ensures) (ap (option_map as_told) (sym c.in-None.is) ∙ c.found.ensures)
