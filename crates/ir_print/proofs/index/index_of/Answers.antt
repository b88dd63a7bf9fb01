-- The index finds the local just put in, and what it found before elsewhere.
use Rattle.std.proofs.Common.{rules, ◌≡◌, [], drop, slice_get, ap, sym, ◌∙◌}
use Rattle.std.proofs.lemmas.List.{drop_all}
use Rattle.std.specs.Prelude.{option_and_then}
use Rattle.ir_print.specs.Index.{place_in}
use Rattle.ir_print.specs.Names.{last_of}
use Rattle.ir_print.proofs.Places.{place_step}
use Rattle.ir_print.proofs.index.index_of.Goals as goal

pub loop-at-preserved : goal.loop-at-preserved
loop-at-preserved c = λ id. place_step id c.args.locals.now c.loop-at.at c.index-locals-at.result _ _ (search rules) c.index-locals-at.is (c.in_ok-put.ensures id) (c.loop-at.invariant id)

pub returns : goal.returns
returns c =
    let done : drop c.loop-at.at c.args.locals.now ≡ [] = drop_all c.loop-at.at c.args.locals.now c.loop-at-test.false in
    λ id. sym (ap (λ rest. last_of id rest (option_and_then (λ at. slice_get c.args.locals.now at) (place_in c.loop-at.index id))) done) ∙ c.loop-at.invariant id
