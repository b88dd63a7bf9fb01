use Rattle.std.proofs.Common.{◌≡◌, sym, ap, subst, ◌∙◌, ◌+◌, ◌++◌, ◌∷◌, [], List, take}
use Rattle.std.proofs.lemmas.Grind.{take_at_read}
use Rattle.ir_types.specs.declared.inst.Inst.{Inst}
use Rattle.vx_view.specs.Blocks.{block_at}
use Rattle.vx_serial.specs.Regions as region
use Rattle.vx_seeds.specs.Spots.{spot_in, IsThere}
use Rattle.vx_seeds.proofs.Standing.{there_at, spots_more}
use Rattle.vx_seeds.proofs.spot.spots.Goals as goal

pub add-requires-clause-there : goal.add-requires-clause-there
add-requires-clause-there c =
    let block = c.args.block.now in
    let k = c.loop-inst.inst-index in
    let more : take (k + 1) block ≡ take k block ++ c.inst-item.result ∷ [] =
    (take_at_read block k c.inst-item.result c.loop-inst-test.true).1 ∙ ap (λ p. take k block ++ p ∷ []) (sym c.inst-item.is) in
    let here : block_at c.loop-inst.index c.args.place ≡ block = ap (λ m. block_at m c.args.place) c.loop-inst.invariant.same ∙ c.requires.there in
    subst (IsThere c.inst-item.result.id) (sym here) (there_at block k c.inst-item.result more)

pub loop-inst-preserved : goal.loop-inst-preserved
loop-inst-preserved c =
    let block = c.args.block.now in
    let k = c.loop-inst.inst-index in
    let more : take (k + 1) block ≡ take k block ++ c.inst-item.result ∷ [] =
    (take_at_read block k c.inst-item.result c.loop-inst-test.true).1 ∙ ap (λ p. take k block ++ p ∷ []) (sym c.inst-item.is) in
    let here : block_at c.loop-inst.index c.args.place ≡ block = ap (λ m. block_at m c.args.place) c.loop-inst.invariant.same ∙ c.requires.there in
    record {
      done =
          c.in_ok-add.ensures.is
          ∙ ap (λ l. l ++ spot_in (block_at c.loop-inst.index c.args.place) c.inst-item.result) c.loop-inst.invariant.done
          ∙ ap (λ (b : List Inst). region.spots_among block (take k block) ++ spot_in b c.inst-item.result) here
          ∙ sym (spots_more block (take k block) c.inst-item.result)
          ∙ ap (region.spots_among block) (sym more);
      same = c.in_ok-add.ensures.same ∙ c.loop-inst.invariant.same;
    }
