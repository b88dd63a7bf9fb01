-- The map says whether it had the name; one that was not there goes last.
use Rattle.std.proofs.Common.{◌≡◌, map, None, ◌∙◌, ap, refl}
use Rattle.std.specs.Cow.{cow_slice_items}
use Rattle.std.specs.Option.{is_some}
use Rattle.ir_types_check.specs.Scope.{meaning}
use Rattle.ir_types_check.proofs.Known.{added, found, named}
use Rattle.ir_types_check.proofs.scope.Scope.put.Goals as goal

pub returns-clause-was : goal.returns-clause-was
returns-clause-was g c =
    c.is_some.ensures ∙ ap is_some (c.in_ok-before.ensures.old ∙ found (cow_slice_items c.args.key) c.self.inside.entries.entries ∙ rw (c.self.view_is) refl)

pub returns-clause-added : goal.returns-clause-added
returns-clause-added g c absent =
    let none : meaning (cow_slice_items c.args.key) (map named c.self.inside.entries.entries) ≡ None = rw (c.self.view_is) absent in
    ap (map named) c.in_ok-before.ensures.entries ∙ added c.args.key c.args.meaning c.self.inside.entries.entries none ∙ rw (c.self.view_is) refl
