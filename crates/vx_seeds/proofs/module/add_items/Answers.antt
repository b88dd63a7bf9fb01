use Rattle.std.proofs.Common.{◌≡◌, ◌∙◌, sym, ap, ◌+◌, ◌++◌, ◌∷◌, drop, slice_get}
use Rattle.std.proofs.lemmas.List.{drop_more}
use Rattle.ir_types.specs.declared.module.Module.{Module}
use Rattle.vx_view.specs.Answers.{funcs_of}
use Rattle.vx_serial.specs.Regions as region
use Rattle.vx_seeds.proofs.Modules.{first_left}
use Rattle.vx_seeds.proofs.module.add_items.Goals as goal

pub add_item-requires-clause-there : goal.add_item-requires-clause-there
add_item-requires-clause-there c = λ f e.
    let items = c.args.items.now in
    let k = c.loop-item.item-index in
    let left : drop k items ≡ c.item-item.result ∷ drop (k + 1) items = drop_more items k c.item-item.result c.loop-item-test.true ∙ ap (λ s. s ∷ drop (k + 1) items) (sym c.item-item.is) in
    ap (λ (m : Module). slice_get (funcs_of m.items) c.loop-item.number) c.loop-item.invariant.same
    ∙ ap (λ l. slice_get (funcs_of l) c.loop-item.number) c.requires.there
    ∙ first_left c.loop-item.number (funcs_of items) (funcs_of (drop (k + 1) items)) f (c.loop-item.invariant.left ∙ ap funcs_of (left ∙ ap (λ i. i ∷ drop (k + 1) items) e))

pub loop-item-preserved : goal.loop-item-preserved
loop-item-preserved c =
    let items = c.args.items.now in
    let k = c.loop-item.item-index in
    let w = c.args.width in
    let left : drop k items ≡ c.item-item.result ∷ drop (k + 1) items = drop_more items k c.item-item.result c.loop-item-test.true ∙ ap (λ s. s ∷ drop (k + 1) items) (sym c.item-item.is) in
    record {
      done =
          c.in_ok-number.ensures.is (drop (k + 1) items)
          ∙ ap (λ l. c.loop-item.seeds.items ++ region.regions_of w c.loop-item.number (funcs_of l)) (sym left)
          ∙ c.loop-item.invariant.done;
      same = c.in_ok-number.ensures.same ∙ c.loop-item.invariant.same;
      left = c.in_ok-number.ensures.left (drop (k + 1) items) (funcs_of items) (c.loop-item.invariant.left ∙ ap funcs_of left);
    }
