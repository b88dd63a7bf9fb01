-- The set finds what the list has.
use Rattle.std.proofs.Common.{◌∙◌, ap}
use Rattle.ir_read.specs.Outlook.{has}
use Rattle.ir_read.proofs.Named.{found}
use Rattle.ir_read.proofs.names.Names.contains.Goals as goal

pub returns : goal.returns
returns c = c.contains.ensures ∙ found c.args.name.now c.self.inside.set.keys ∙ ap (λ names. has names c.args.name.now) c.self.view_is
