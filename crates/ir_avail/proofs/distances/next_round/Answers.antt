use Rattle.std.proofs.Common.{List, ℕ, ◌+◌, subst, sym, arith}
use Rattle.std.specs.declared.option.Option.{Option}
use Rattle.ir_avail.specs.Avoids.{bar_at}
use Rattle.ir_avail.proofs.Lists.{Follows, follows_more}
use Rattle.ir_avail.proofs.distances.next_round.Goals as goal

pub loop-number-preserved : goal.loop-number-preserved
loop-number-preserved c =
    let P : List (Option ℕ) → Type 0 =
    λ xs. Follows c.args.graph.now (bar_at c.args.barred.now) c.args.distances.now c.args.most (c.loop-number.number + 1) c.is_found-found.result xs in
    subst P (sym c.in_ok-push.ensures.items)
    (follows_more c.args.distances.now c.loop-number.next.items c.loop-number.number c.next_distance-distance.result c.loop-number.found
    c.is_found-found.result c.loop-number.invariant.long (omega arith) c.next_distance-distance.ensures.kept c.is_found-found.ensures.one c.is_found-found.ensures.none c.loop-number.invariant
    c.next_distance-distance.ensures)
