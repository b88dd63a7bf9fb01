use Rattle.std.proofs.Common.{ℕ, subst}
use Rattle.ir_types.specs.Available.{insts_at}
use Rattle.ir_avail.specs.Places.{StandsAt}
use Rattle.ir_avail.proofs.Stands.{available_last, defines_before, clear_available}
use Rattle.ir_avail.proofs.known.clears_at.Goals as goal

pub returns-then-position-at : goal.returns-then-position-at
returns-then-position-at c holds =
    let at = c.stands_at.ensures c.if-not-stands_at.false in
    let P : ℕ → Type 0 = λ v. StandsAt c.args.at.value (insts_at c.args.func.now v) c.args.position in
    available_last c.args.func.now c.args.at.value c.args.at.before c.args.at.end
    (defines_before c.args.at.value (insts_at c.args.func.now c.args.at.end) c.args.position c.args.at.before (subst P c.if-home-at.true at) c.if-position-at.true)

pub returns : goal.returns
returns c holds =
    let at = c.stands_at.ensures c.if-not-stands_at.false in
    clear_available c.args.func.now c.args.at.value c.args.at.before c.args.at.end c.args.column c.args.home c.args.position c.args.band.now.homes.items
    c.args.band.now.rows.items c.requires.band c.requires.home at (c.is_clear.ensures holds)
