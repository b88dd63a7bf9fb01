-- One more argument is found, and what is left is read as before.
use Rattle.std.proofs.Common.{rules}
use Rattle.std.proofs.lemmas.List.{take_rest}
use Rattle.ir_line.proofs.Arguments.{one_turn_on}
use Rattle.ir_line.proofs.calls.arguments_within.Goals as goal

pub each-preserved : goal.each-preserved
each-preserved c = record {
  whole =
      one_turn_on c.each.found _ (c.in_ok-arg.arg, c.in_ok-arg.attrs) c.args.at.line.now c.each.rest.line.now c.each.bound.now _ c.each.rest.tokens.now _ _
      c.each.invariant.line c.each.invariant.whole
      (search rules) (take_rest c.each.bound.now 1) (search rules) (search rules) (search rules)
      (λ t. record { args = c.in_ok-push.ensures.ok t; attrs = c.in_ok-push-2.ensures.ok t });
  line = search rules;
}
