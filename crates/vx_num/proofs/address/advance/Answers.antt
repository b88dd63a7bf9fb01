-- To wrap on the way changes nothing.
use Rattle.std.proofs.Common.{◌≡◌, pos, ◌+ℤ◌, ◌*ℤ◌, rules, w64, FitsSigned, ◌∙◌}
use Rattle.std.specs.Int.{int_wrap}
use Rattle.std.proofs.lemmas.Int.{to_z-of_z}
use Rattle.vx_num.proofs.Wrapping.{advance_is}
use Rattle.vx_num.proofs.address.advance.Goals as goal

pub returns : goal.returns
returns c =
    let base : FitsSigned w64 c.args.base = c.ranges.base in
    let index : FitsSigned w64 c.signed_reading.result = search rules in
    let step : FitsSigned w64 c.stride.result = search rules in
    let result : FitsSigned w64 c.moved.result = search rules in
    let moved : c.moved.result ≡ int_wrap w64 (c.args.base +ℤ c.stride.result) = simp to_z-of_z at c.moved.ensures in
    let stride : c.stride.result ≡ int_wrap w64 (c.signed_reading.result *ℤ pos c.args.scale) = simp to_z-of_z at c.stride.ensures in
    to_z-of_z w64 c.moved.result result
    ∙ advance_is c.moved.result c.args.base c.stride.result c.signed_reading.result c.args.index c.args.w c.args.scale
    moved stride c.signed_reading.ensures.value
