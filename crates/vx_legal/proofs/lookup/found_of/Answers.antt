use Rattle.std.proofs.Common.{◌≡◌, ◌∷◌, List}
use Rattle.ir_types.specs.declared.opd.Opd.{Opd}
use Rattle.vx_view.specs.Answers.{is_value}
use Rattle.vx_view.specs.Blocks.{block_at}
use Rattle.vx_view.proofs.Asking.{asks_then}
use Rattle.vx_addr.specs.Walks.{Names}
use Rattle.vx_addr.proofs.Lookups.{names_more}
use Rattle.vx_legal.specs.Found.{found_of, is_lane}
use Rattle.vx_legal.proofs.Lanes.{is_first, is_later, one_more}
use Rattle.vx_legal.proofs.lookup.found_of.Goals as goal

pub returns-in_err-inst-clause-asks : goal.returns-in_err-inst-clause-asks
returns-in_err-inst-clause-asks g c =
    let o : Opd = c.in-Some.first.now in
    let more : List Opd = c.in-Some.more.now in
    let left : List Opd = c.loop-first.left.now in
    let split : left ≡ o ∷ more = c.in-Some.ensures.cases.0 in
    asks_then (λ m. Names (is_lane c.args.lanes.now)) (λ m. Names (λ x. is_value x o)) (λ m. Names (is_lane c.args.lanes.now)) (g.V.View.seen c.args.view.now) (g.V.View.seen c.loop-first.view) (g.V.View.seen c.inst_of.new.view)
    c.loop-first.invariant.asks c.in_err-inst.ensures.asks (λ m t f q n. n) (λ m t f. names_more (λ x. is_value x o) (is_lane c.args.lanes.now) (λ x h. c.loop-first.invariant.lanes x (is_first left more o x split h)))

pub returns-in_err-push-clause-asks : goal.returns-in_err-push-clause-asks
returns-in_err-push-clause-asks g c =
    let o : Opd = c.in-Some.first.now in
    let more : List Opd = c.in-Some.more.now in
    let left : List Opd = c.loop-first.left.now in
    let split : left ≡ o ∷ more = c.in-Some.ensures.cases.0 in
    asks_then (λ m. Names (is_lane c.args.lanes.now)) (λ m. Names (λ x. is_value x o)) (λ m. Names (is_lane c.args.lanes.now)) (g.V.View.seen c.args.view.now) (g.V.View.seen c.loop-first.view) (g.V.View.seen c.inst_of.new.view)
    c.loop-first.invariant.asks c.in_ok-inst.ensures.asks (λ m t f q n. n) (λ m t f. names_more (λ x. is_value x o) (is_lane c.args.lanes.now) (λ x h. c.loop-first.invariant.lanes x (is_first left more o x split h)))

pub loop-first-preserved : goal.loop-first-preserved
loop-first-preserved g c =
    let o : Opd = c.in-Some.first.now in
    let more : List Opd = c.in-Some.more.now in
    let left : List Opd = c.loop-first.left.now in
    let split : left ≡ o ∷ more = c.in-Some.ensures.cases.0 in
    record {
      asks =
          asks_then (λ m. Names (is_lane c.args.lanes.now)) (λ m. Names (λ x. is_value x o)) (λ m. Names (is_lane c.args.lanes.now)) (g.V.View.seen c.args.view.now) (g.V.View.seen c.loop-first.view) (g.V.View.seen c.inst_of.new.view)
          c.loop-first.invariant.asks c.in_ok-inst.ensures.asks (λ m t f q n. n) (λ m t f. names_more (λ x. is_value x o) (is_lane c.args.lanes.now) (λ x h. c.loop-first.invariant.lanes x (is_first left more o x split h)));
      is = λ m t f.
          one_more (block_at m c.args.place) left more o c.loop-first.all c.push.new.self (found_of (block_at m c.args.place) c.args.lanes.now) c.in_ok-inst.inst split
          (c.loop-first.invariant.is m (c.in_ok-inst.ensures.asks.narrows m t) f) (c.in_ok-inst.ensures.is m t f) c.in_ok-push.ensures.ok;
      lanes = λ x h. c.loop-first.invariant.lanes x (is_later left more o x split h);
    }
