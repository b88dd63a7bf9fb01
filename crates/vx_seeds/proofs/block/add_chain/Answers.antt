use Rattle.std.proofs.Common.{◌≡◌, ◌∙◌, sym, ap, option_map, not, List, ◌++◌}
use Rattle.std.proofs.lemmas.List.{append_assoc}
use Rattle.vx_serial.specs.Regions as region
use Rattle.vx_seeds.specs.Spots.{at, held}
use Rattle.vx_seeds.proofs.Blocks.{chain_goes}
use Rattle.vx_seeds.proofs.block.add_chain.Goals as goal

pub returns : goal.returns
returns c = λ n.
    let w = c.args.width in
    let start = at c.in-Some.start in
    let group = held c.args.group.now in
    let before = c.args.regions.now.items in
    let whole = region.chain start group in
    let first : held c.deref.result.now ≡ whole = ap held c.deref.ensures.value ∙ c.in_ok-chain.ensures in
    let second : held c.deref-2.result.now ≡ whole = ap held c.deref-2.ensures.value ∙ c.in_ok-chain.ensures in
    ap (λ l. l ++ region.group_regions n w (held c.in_ok-rest.rest.items)) (c.in_ok-cut.ensures ∙ ap (λ k. before ++ region.cut w start k) first)
    ∙ ap (λ l. (before ++ region.cut w start whole) ++ region.group_regions n w l) (c.in_ok-rest.ensures ∙ ap (λ (k : List region.Spot). region.those (λ t. not (region.is_in k t)) group) second)
    ∙ append_assoc before (region.cut w start whole) (region.group_regions n w (region.those (λ t. not (region.is_in whole t)) group))
    ∙ ap (λ l. before ++ l) (chain_goes w n group start (sym c.least.ensures ∙ ap (option_map at) c.in-Some.is))
