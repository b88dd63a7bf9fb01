-- Two indices of an address, over an array.
use Rattle.std.specs.Prelude.{ℕ, ◌*◌, Option, None, Some}
use Rattle.ir_types.specs.declared.ty.Elem.{Elem}
use Rattle.ir_types.specs.declared.ty.Elem.TheVariants.{One, Array}
use Rattle.ir_model.specs.Values.{Lane, Pointer}
use Rattle.ir_model.specs.Sizes.{bytes_in}
use Rattle.ir_model.specs.Operations.{narrow}
use Rattle.ir_model.specs.Addresses.{stepped}

-- the first counts whole arrays, the second what is in them
abbrev pub walked_in : Elem → ℕ → ℕ → Pointer → Lane → Lane → Option Pointer
walked_in (Array n e) w v p index inner =
    narrow w (narrow v (Some (stepped v (bytes_in e) (stepped w (n * bytes_in e) p index) inner)))
walked_in (One t) w v p index inner = None
