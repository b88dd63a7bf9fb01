use Rattle.std.proofs.Common.{rules, ◌≡◌, ◌≤◌, length, subst, sym, ap, ◌∙◌, get_or, option_map}
use Rattle.vx_view.specs.Addresses.{with_index}
use Rattle.ir_types.specs.Formed.{IsOpd}
use Rattle.vx_addr.specs.Parts.{as_offset}
use Rattle.vx_addr.proofs.After.{no_scales, opd_first, opds_after, one_more}
use Rattle.vx_addr.proofs.indices.+with_indices.Goals as goal

pub returns-in-len1-up-empty : goal.returns-in-len1-up-empty
returns-in-len1-up-empty t c h =
    let few : length c.args.scales.now ≡ 0 = search rules in
    let some : 1 ≤ length c.args.indices.now = search rules in
    no_scales c.args.scales.now c.args.indices.now (as_offset c.args.offset) few some

pub returns-in-Some : goal.returns-in-Some
returns-in-Some t c h =
    let some : 1 ≤ length c.args.indices.now = search rules in
    let opd : IsOpd c.index-item.result = subst IsOpd (sym c.index-item.is) (opd_first c.args.indices.now c.index-item.result h some) in
    let few : 1 ≤ length c.args.scales.now = search rules in
    one_more c.args.scales.now c.args.indices.now (as_offset c.args.offset) (as_offset c.in-Some.offset) 0 c.index-item.result (option_map as_offset c.with_indices.result) few some
    (ap (λ x. with_index x (get_or c.args.scales.now 0 0) (as_offset c.args.offset)) (sym c.index-item.is) ∙ sym (c.with_index.ensures opd) ∙ ap (option_map as_offset) c.in-Some.is)
    (c.with_indices.ensures (opds_after c.args.indices.now h some))
