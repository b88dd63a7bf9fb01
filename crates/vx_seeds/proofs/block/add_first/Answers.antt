use Rattle.std.proofs.Common.{◌≡◌, ◌∙◌, sym, ap, option_map, not, length, ◌++◌}
use Rattle.std.proofs.lemmas.List.{append_assoc, length-map}
use Rattle.vx_serial.specs.Regions as region
use Rattle.vx_seeds.specs.Spots.{at, held}
use Rattle.vx_seeds.proofs.Blocks.{group_goes}
use Rattle.vx_seeds.proofs.block.add_first.Goals as goal

pub returns : goal.returns
returns c = λ n.
    let w = c.args.width in
    let first = at c.in-Some.first in
    let spots = held c.args.spots.now in
    let before = c.args.regions.now.items in
    let own = region.those (region.is_alike first) spots in
    let rest = region.those (λ t. not (region.is_alike first t)) spots in
    let count : length c.args.spots.now ≡ length spots = sym (length-map c.args.spots.now at) in
    ap (λ l. l ++ region.grouped n w (held c.in_ok-rest.rest.items))
    (c.in_ok-add_group.ensures ∙ ap (λ g. before ++ region.group_regions (length c.args.spots.now) w g) c.in_ok-group.ensures ∙ ap (λ k. before ++ region.group_regions k w own) count)
    ∙ ap (λ l. (before ++ region.group_regions (length spots) w own) ++ region.grouped n w l) c.in_ok-rest.ensures
    ∙ append_assoc before (region.group_regions (length spots) w own) (region.grouped n w rest)
    ∙ ap (λ l. before ++ l) (group_goes w n spots first (sym c.first.ensures ∙ ap (option_map at) c.in-Some.is))
