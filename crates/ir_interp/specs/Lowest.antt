-- A lane as its low byte and what is above it; those of poison are poison.
use Rattle.std.specs.Prelude.{◌≡◌, refl, ◌/◌, ◌%◌, None, Some}
use Rattle.ir_model.specs.Values.{Lane}

abbrev pub low_byte : Lane → Lane
low_byte None = None
low_byte (Some n) = Some (n % 256)

abbrev pub above_low : Lane → Lane
above_low None = None
above_low (Some n) = Some (n / 256)

-- 258 is 2 and a 1 above its low byte
low_of_258 : low_byte (Some 258) ≡ Some 2
low_of_258 = refl

above_258 : above_low (Some 258) ≡ Some 1
above_258 = refl
