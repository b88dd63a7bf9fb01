-- How many bytes a value of a type, and what an `alloca` makes or a pointer is stepped over, take in a memory.
use Rattle.std.specs.Prelude.{◌≡◌, refl, ℕ, ◌*◌, ◌/◌}
use Rattle.ir_types.specs.declared.ty.Ty.{Ty}
use Rattle.ir_types.specs.declared.ty.Ty.TheVariants.{Int, Row}
use Rattle.ir_types.specs.declared.ty.Elem.{Elem}
use Rattle.ir_types.specs.declared.ty.Elem.TheVariants.{One, Array}

-- the bytes of a lane or of a lane's type of so many bits
abbrev pub bytes_in : ℕ → ℕ
bytes_in w = w / 8

-- only numbers lie in a memory
abbrev pub size_of : Ty → ℕ
size_of (Int w) = bytes_in w
size_of (Row n w) = n * bytes_in w
size_of _ = 0

abbrev pub elem_size : Elem → ℕ
elem_size (One t) = size_of t
elem_size (Array n w) = n * bytes_in w

size_of_a_row : size_of (Row 4 32) ≡ 16
size_of_a_row = refl

size_of_an_array : elem_size (Array 3 16) ≡ 6
size_of_an_array = refl
