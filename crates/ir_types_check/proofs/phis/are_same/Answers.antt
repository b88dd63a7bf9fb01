-- A list has each block as often as itself.
use Rattle.std.proofs.Common.{◌≡◌, sym}
use Rattle.std.proofs.lemmas.Bool.Decides.{Decides-eqb}
use Rattle.std.proofs.lemmas.Slice.Eq.{slice_eq-Decides}
use Rattle.ir_types_check.proofs.Counts.{same_as_itself}
use Rattle.ir_types_check.proofs.phis.are_same.Goals as goal

pub returns-then-eq : goal.returns-then-eq
returns-then-eq c =
    let same : c.args.left.now ≡ c.args.right.now = (slice_eq-Decides Decides-eqb c.args.left.now c.args.right.now c.eq.result c.eq.ensures).0 c.if-eq.true in
    rw (← same) (sym (same_as_itself c.args.left.now))
