-- The parameters of an item more.
use Rattle.std.proofs.Common.{◌≡◌, sym, ap, ◌∙◌, ◌+◌, [], drop}
use Rattle.std.proofs.lemmas.List.{drop_all}
use Rattle.ir_types.specs.IdTable.{found}
use Rattle.vx_view.specs.Answers.{either}
use Rattle.sb_lines.specs.Filling.{func_after}
use Rattle.sb_lines.specs.Params.{of_func, spots_in, spots_at}
use Rattle.sb_lines.proofs.Kept.{split, either-again, nothing-step}
use Rattle.sb_lines.proofs.params.params_of.Goals as goal

pub loop-item-preserved : goal.loop-item-preserved
loop-item-preserved c = λ id k.
    ap (λ n. either (of_func k (found c.keep_item.new.params id)) (spots_at id k n (drop (c.loop-item.item-index + 1) c.args.items.now))) c.in_ok-number.ensures
    ∙ ap (λ o. either o (spots_at id k (func_after c.loop-item.number c.item-item.result) (drop (c.loop-item.item-index + 1) c.args.items.now))) (c.in_ok-keep_item.ensures id k)
    ∙ either-again (of_func k (found c.loop-item.params id)) (spots_in id k c.loop-item.number c.item-item.result) (spots_at id k (func_after c.loop-item.number c.item-item.result) (drop (c.loop-item.item-index + 1) c.args.items.now))
    ∙ ap (λ is. either (of_func k (found c.loop-item.params id)) (spots_at id k c.loop-item.number is)) (sym (split c.args.items.now c.loop-item.item-index c.item-item.result c.loop-item-test.true c.item-item.is))
    ∙ c.loop-item.invariant id k

pub returns : goal.returns
returns c =
    let done : drop c.loop-item.item-index c.args.items.now ≡ [] = drop_all c.loop-item.item-index c.args.items.now c.loop-item-test.false in
    λ id k.
    nothing-step (of_func k (found c.loop-item.params id))
    ∙ ap (λ is. either (of_func k (found c.loop-item.params id)) (spots_at id k c.loop-item.number is)) (sym done)
    ∙ c.loop-item.invariant id k
