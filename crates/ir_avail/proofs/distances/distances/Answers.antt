use Rattle.std.proofs.Common.{ℕ, ◌≡◌, List, length, arith, ◌∙◌, sym, ap, subst}
use Rattle.std.specs.Prelude.{count_by}
use Rattle.std.specs.declared.option.Option.{Option}
use Rattle.std.proofs.lemmas.List.Sums.{count_by-le-length}
use Rattle.std.specs.Option.{is_none}
use Rattle.ir_avail.specs.Avoids.{bar_at, AreNear}
use Rattle.ir_avail.proofs.Ways.{near_start, nearer, all_found, not_false, not_true}
use Rattle.ir_avail.proofs.distances.distances.Goals as goal

pub rounds-init : goal.rounds-init
rounds-init c =
    let made = c.in_ok-distances.ensures in
    let len : length c.in_ok-distances.distances.items ≡ length c.args.graph.now = made.len ∙ c.len.ensures in
    record {
      near = near_start c.args.graph.now (bar_at c.args.barred.now) c.args.end c.in_ok-distances.distances.items (λ h. made.at (omega (arith, c.len.ensures))) made.others;
      long = len;
      few = omega (arith, len, count_by-le-length is_none c.in_ok-distances.distances.items);
    }

pub rounds-preserved : goal.rounds-preserved
rounds-preserved c =
    let kept = c.rounds.invariant in
    let made = c.in_ok-round.ensures in
    let same : c.deref.result.now ≡ c.rounds.distances.items = c.deref.ensures.value in
    let P : List (Option ℕ) → Type 0 = λ xs. AreNear c.args.graph.now (bar_at c.args.barred.now) c.args.end xs c.rounds.most in
    let fewer = made.fewer (not_false c.in_ok-round.round.found c.if-not-round.false) in
    record {
      near = nearer c.args.graph.now (bar_at c.args.barred.now) c.args.end c.deref.result.now c.in_ok-round.round.distances.items c.rounds.most (subst P (sym same) kept.near) made.len made.next;
      long = made.len;
      few = omega (arith, fewer, kept.few, ap (λ (xs : List (Option ℕ)). count_by is_none xs) same);
    }

pub returns-then-not-round : goal.returns-then-not-round
returns-then-not-round c =
    let kept = c.rounds.invariant in
    let made = c.in_ok-round.ensures in
    let same : c.deref.result.now ≡ c.rounds.distances.items = c.deref.ensures.value in
    let P : List (Option ℕ) → Type 0 = λ xs. AreNear c.args.graph.now (bar_at c.args.barred.now) c.args.end xs c.rounds.most in
    all_found c.args.graph.now (bar_at c.args.barred.now) c.args.end c.deref.result.now c.in_ok-round.round.distances.items c.rounds.most (subst P (sym same) kept.near) made.len made.next
    (made.same (not_true c.in_ok-round.round.found c.if-not-round.true))
