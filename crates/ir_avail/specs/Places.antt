-- That an instruction at a position defines a value.
use Rattle.std.specs.Prelude.{◌≡◌, ℕ, true, List, slice_get}
use Rattle.std.specs.declared.option.Option.TheVariants.{Some}
use Rattle.ir_types.specs.declared.id.Id.{Id}
use Rattle.ir_types.specs.declared.inst.Inst.{Inst}
use Rattle.ir_types.specs.Available.{same_id}

abbrev pub StandsAt : Id → List Inst → ℕ → Type 0
StandsAt value insts position = (inst : Inst) × (slice_get insts position ≡ Some inst) × (same_id inst.id value ≡ true)
