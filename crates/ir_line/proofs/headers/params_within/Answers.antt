-- One more parameter is found, and what is left is read as before.
use Rattle.std.proofs.Common.{rules, subst}
use Rattle.std.proofs.lemmas.List.{take_rest}
use Rattle.ir_words.specs.Words.{Gives}
use Rattle.ir_line.proofs.Parameters.{one_turn, last_turn}
use Rattle.ir_line.proofs.headers.params_within.Goals as goal

pub returns-then-not-begins-clause-read : goal.returns-then-not-begins-clause-read
returns-then-not-begins-clause-read c =
    subst (λ read. Gives (λ x. (x.0, x.1.tokens.now)) c.closed.result read)
    (last_turn c.each.found _ c.in_ok-param.param c.args.at.line.now c.in_ok-param.after.line.now c.each.bound.now c.each.rest.tokens.now c.in_ok-param.after.tokens.now c.each.place _
    (search rules) c.each.invariant.whole c.in-len1-up.len_at_least (search rules) (search rules) (search rules))
    c.closed.ensures.read

pub each-preserved : goal.each-preserved
each-preserved c = record {
  whole =
      one_turn c.each.found _ c.in_ok-param.param c.args.at.line.now c.in_ok-param.after.line.now c.each.bound.now _ c.each.rest.tokens.now c.in_ok-param.after.tokens.now _ c.each.place c.in_ok-place.place _
      (search rules) c.each.invariant.whole c.in-len1-up.len_at_least (take_rest c.each.bound.now 1) (search rules) (search rules) (search rules) (search rules) (search rules);
  line = search rules;
}
