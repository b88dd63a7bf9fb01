-- A new name goes last.
use Rattle.std.proofs.Common.{◌≡◌, map, ◌∙◌, ap, refl}
use Rattle.ir_read.proofs.Named.{added, named}
use Rattle.ir_read.proofs.names.Names.add.Goals as goal

pub returns : goal.returns
returns c =
    let same : c.in_ok-key.key.items ≡ c.args.name.now = c.in_ok-key.ensures.items in
    ap (map named) c.in_ok-insert.ensures.keys ∙ added c.in_ok-key.key c.self.inside.set.keys ∙ rw (same, c.self.view_is) refl
