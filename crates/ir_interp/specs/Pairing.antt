-- The operations on two lanes that work on vectors lane by lane, as functions.
use Rattle.std.specs.Prelude.{◌≡◌, refl, ◌≤◌, true, false, Option, None, Some, ⊤}
use Rattle.vx_num.specs.declared.operations.BinOp.TheVariants.{Add}
use Rattle.ir_model.specs.Values.{Lane}
use Rattle.ir_model.specs.Operations.{bin_lane, cmp_lane, choice}
use Rattle.ir_interp.specs.declared.pairing.Pairing.{Pairing}
use Rattle.ir_interp.specs.declared.pairing.Pairing.TheVariants.{Bin, Cmp, Choice}

abbrev pub lanewise : Pairing → Lane → Lane → Option Lane
lanewise (Bin op flags w) = bin_lane op flags w
lanewise (Cmp pred w) = cmp_lane pred w
lanewise (Choice c) = choice c

-- at most 64 bits
abbrev pub IsNarrow : Pairing → Type 0
IsNarrow (Bin op flags w) = w ≤ 64
IsNarrow (Cmp pred w) = w ≤ 64
IsNarrow (Choice c) = ⊤

-- with the flag `nuw`, 200 and 100 have no sum of 8 bits that is no poison
too_much : lanewise (Bin Add (record { nuw = true; nsw = false; exact = false; disjoint = false }) 8) (Some 200) (Some 100) ≡ Some None
too_much = refl
