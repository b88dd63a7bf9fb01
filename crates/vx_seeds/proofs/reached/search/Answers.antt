use Rattle.std.proofs.Common.{◌≡◌, ◌∙◌, refl, ap, subst, suc, ◌+◌, arith}
use Rattle.std.specs.List.{list_all}
use Rattle.vx_seeds.specs.Reached.{Holds, in_round}
use Rattle.vx_seeds.proofs.Reaching.{begun, round_leads, marks_keep}
use Rattle.vx_seeds.proofs.reached.search.Goals as goal

pub loop-rounds-init : goal.loop-rounds-init
loop-rounds-init c =
    let graph = c.args.graph.now in
    record {
      holds = c.in_ok-mark.ensures.holds (in_round graph 0) refl (begun (in_round graph 0) c.in_ok-marks.marks.items c.new-found.result.items c.in_ok-marks.ensures.none c.new-found.ensures.items);
      len = c.mark.ensures.len ∙ c.in_ok-marks.ensures.len;
      below = omega arith;
    }

pub loop-rounds-preserved : goal.loop-rounds-preserved
loop-rounds-preserved c =
    let graph = c.args.graph.now in
    let r = c.loop-rounds.rounds in
    let more : suc r ≡ r + 1 = omega arith in
    record {
      holds =
          subst (λ k. Holds (in_round graph k) c.round.new.marks.items c.in_ok-found.found.items) more
          (c.in_ok-found.ensures.holds (in_round graph r) (in_round graph (suc r)) (round_leads graph r)
          (ap (list_all (in_round graph r)) c.deref.ensures.value ∙ c.loop-rounds.invariant.holds.each)
          (marks_keep graph r c.loop-rounds.marks.items c.loop-rounds.invariant.holds.marked));
      len = c.round.ensures.len ∙ c.loop-rounds.invariant.len;
      below = omega arith;
    }
