use Rattle.std.proofs.Common.{◌≡◌, ℕ, ◌==◌, false, drop, option_map}
use Rattle.ir_types.specs.declared.id.Id.{Id}
use Rattle.ir_types.specs.IdTable.{found}
use Rattle.vx_view.specs.Answers.{param_in, either}
use Rattle.sb_lines.specs.Params.{spot_of, of_func}
use Rattle.sb_lines.proofs.params.keep_all.Given as goal

abbrev pub invariant-loop-param : goal.invariant-loop-param
invariant-loop-param l = record {
  own : (id : Id) → either (of_func l.func (found l.params id)) (option_map (spot_of l.func) (param_in id (drop l.param-index l.list))) ≡ either (of_func l.func (found l.fn.params id)) (option_map (spot_of l.func) (param_in id l.list));
  others : (id : Id) (k : ℕ) → (l.func == k) ≡ false → of_func k (found l.params id) ≡ of_func k (found l.fn.params id);
}
