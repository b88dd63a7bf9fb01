use Rattle.std.proofs.Common.{◌∙◌, sym, ap, option_map, ◌-◌, ◌++◌, ◌∷◌, []}
use Rattle.std.proofs.lemmas.List.{map-append}
use Rattle.vx_serial.specs.Regions as region
use Rattle.vx_seeds.specs.Spots.{at, held}
use Rattle.vx_seeds.proofs.Chains.{chain_step}
use Rattle.vx_seeds.proofs.Blocks.{more}
use Rattle.vx_seeds.proofs.chain.chain.Goals as goal

pub loop-bound-preserved : goal.loop-bound-preserved
loop-bound-preserved c =
    let n = c.loop-bound.bound in
    let spots = held c.args.spots.now in
    let spot = at c.in-Some.spot in
    ap (λ l. held l ++ region.chain_after (n - 1) spot spots) c.in_ok-push-2.ensures.items
    ∙ ap (λ l. l ++ region.chain_after (n - 1) spot spots) (map-append at c.loop-bound.chain.items (c.in-Some.spot ∷ []))
    ∙ chain_step (held c.loop-bound.chain.items) (n - 1) (at c.loop-bound.last) spots spot _ (sym c.next.ensures ∙ ap (option_map at) c.in-Some.is)
    (ap (λ k. held c.loop-bound.chain.items ++ region.chain_after k (at c.loop-bound.last) spots) (more n c.loop-bound-test.true) ∙ c.loop-bound.invariant)
