-- The map finds what the list has.
use Rattle.std.proofs.Common.{◌∙◌, ap}
use Rattle.ir_types_check.specs.Scope.{meaning}
use Rattle.ir_types_check.proofs.Known.{found}
use Rattle.ir_types_check.proofs.scope.Scope.get.Goals as goal

pub returns : goal.returns
returns g c = c.get.ensures.value ∙ found c.args.name.now c.self.inside.entries.entries ∙ ap (meaning c.args.name.now) c.self.view_is
