-- The byte is written at the end of what is kept in place.
use Rattle.std.proofs.Common.{rules, subst}
use Rattle.std.proofs.lemmas.List.{take_more_set}
use Rattle.vx_list.specs.Text.{IsKept}
use Rattle.vx_list.proofs.text.Kept.longer.Goals as goal

pub returns-in-Short-clause-value : goal.returns-in-Short-clause-value
returns-in-Short-clause-value c =
    let kept = subst IsKept c.in-Short.is c.requires in
    rw (c.from.ensures, c.in-Short.is) (take_more_set c.in-Short.bytes c.in-Short.len c.args.byte (search (rules, kept)))
