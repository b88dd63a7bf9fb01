use Rattle.std.proofs.Common.{◌≡◌, sym, ap, ◌∙◌}
use Rattle.vx_view.specs.UsesAfter.{Contents}
use Rattle.vx_view.specs.Addresses.{form_in}
use Rattle.vx_view.specs.Blocks.{block_at}
use Rattle.vx_addr.specs.Parts.{as_form}
use Rattle.vx_seeds.proofs.Standing.{form_here}
use Rattle.vx_seeds.proofs.spot.spot_at.Goals as goal

pub returns-clause-is : goal.returns-clause-is
returns-clause-is c =
    let m = c.args.index.now in
    let own : m ≡ c.form.new.view = sym (ap (λ (k : Contents). k.own) c.in_ok-form.ensures.asks.contents) in
    let form : as_form c.in_ok-form.form ≡ form_in (block_at m c.args.place) c.args.pointer.now =
    c.in_ok-form.ensures.is m own c.requires.formed ∙ form_here m c.requires.formed c.args.place c.args.inst.now.id c.requires.there.0 c.requires.there.1 c.args.pointer.now in
    λ i. record { store = c.args.inst.now.id; form = form i; size = c.bytes_of.ensures i }
