-- A parameter more.
use Rattle.std.proofs.Common.{sym, ap, ◌∙◌, ◌+◌, drop, option_map}
use Rattle.ir_types.specs.IdTable.{found}
use Rattle.vx_view.specs.Answers.{param_in, either}
use Rattle.sb_lines.specs.Params.{spot_of, of_func}
use Rattle.sb_lines.proofs.Kept.{split, own-step, others-step}
use Rattle.sb_lines.proofs.params.keep_all.Goals as goal

pub loop-param-preserved : goal.loop-param-preserved
loop-param-preserved c = record {
  own = λ id.
      own-step (found c.loop-param.params) (found c.keep.new.params) c.args.func c.param-item.result c.in_ok-keep.ensures.none c.in_ok-keep.ensures.now (drop (c.loop-param.param-index + 1) c.args.list.now) id
      ∙ ap (λ ps. either (of_func c.args.func (found c.loop-param.params id)) (option_map (spot_of c.args.func) (param_in id ps))) (sym (split c.args.list.now c.loop-param.param-index c.param-item.result c.loop-param-test.true c.param-item.is))
      ∙ c.loop-param.invariant.own id;
  others = λ id k ne.
      others-step (found c.loop-param.params) (found c.keep.new.params) c.args.func c.param-item.result c.in_ok-keep.ensures.none c.in_ok-keep.ensures.now id k ne
      ∙ c.loop-param.invariant.others id k ne;
}
