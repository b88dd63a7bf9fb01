use Rattle.std.proofs.Common.{◌≡◌, sym, ap, ◌∙◌, ◌++◌, ◌∷◌, [], Some}
use Rattle.std.specs.Option.{option_copied}
use Rattle.std.proofs.lemmas.List.{map-append}
use Rattle.vx_view.specs.Blocks.{block_at}
use Rattle.vx_seeds.specs.Spots.{as_spot, as_spots, pointer_of, spot_through}
use Rattle.vx_seeds.proofs.Standing.{spot_is}
use Rattle.vx_seeds.proofs.spot.add.Goals as goal

pub returns-in_ok-push-in-Some-clause-is : goal.returns-in_ok-push-in-Some-clause-is
returns-in_ok-push-in-Some-clause-is c =
    let block = block_at c.args.index.now c.args.place in
    let pointer : pointer_of c.args.inst.now ≡ Some c.in-Some.pointer.now = sym c.pointer_of.ensures ∙ ap option_copied c.in-Some.is in
    ap as_spots c.in_ok-push-in-Some.ensures.items
    ∙ map-append as_spot c.args.spots.now.items (c.in_ok-spot-in-Some.spot ∷ [])
    ∙ ap (λ s. as_spots c.args.spots.now.items ++ s ∷ []) c.in_ok-spot-in-Some.ensures.is
    ∙ ap (λ l. as_spots c.args.spots.now.items ++ l) (sym (spot_is block c.args.inst.now ∙ ap (spot_through block c.args.inst.now) pointer))
