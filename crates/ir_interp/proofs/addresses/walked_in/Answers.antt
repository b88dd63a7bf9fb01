use Rattle.std.proofs.Common.{◌≡◌, ◌*◌, sym, ap, ◌∙◌, rules}
use Rattle.ir_model.specs.Sizes.{bytes_in}
use Rattle.ir_model.specs.Addresses.{stepped}
use Rattle.ir_interp.specs.Walks.{walked_in}
use Rattle.ir_interp.proofs.Scales.{walked_in-is}
use Rattle.ir_interp.proofs.addresses.walked_in.Goals as goal

pub returns-in-Array : goal.returns-in-Array
returns-in-Array c =
    let inside : c.stepped-in-Array.result ≡ stepped c.args.v (bytes_in c.in-Array.e) c.stepped.result c.args.inner
    = c.stepped-in-Array.ensures ∙ ap (λ s. stepped c.args.v s c.stepped.result c.args.inner) c.from.ensures in
    let e = walked_in-is c.args.w c.args.v (c.in-Array.n * bytes_in c.in-Array.e) _ (bytes_in c.in-Array.e) c.args.pointer c.args.index
    c.args.inner c.stepped.result c.stepped-in-Array.result (search rules) (search rules) c.array_scale.ensures c.stepped.ensures inside in
    e ∙ ap (λ t. walked_in t c.args.w c.args.v c.args.pointer c.args.index c.args.inner) (sym c.in-Array.is)
