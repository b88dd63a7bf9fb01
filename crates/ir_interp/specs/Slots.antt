-- What a table of slots says of ids.
use Rattle.std.specs.Prelude.{None, cond, unwrap_or}
use Rattle.ir_types.specs.declared.id.Id.{Id}
use Rattle.ir_types.specs.declared.id_table.IdTable.{IdTable}
use Rattle.ir_types.specs.declared.ty.Ty.{Ty}
use Rattle.ir_types.specs.declared.ty.Ty.TheVariants.{Void}
use Rattle.ir_types.specs.IdTable.{found}
use Rattle.ir_model.specs.declared.value.Value.{Value}
use Rattle.ir_model.specs.declared.value.Value.TheVariants.{Ptr as PtrValue}
use Rattle.ir_model.specs.Values.{Env, same_id}

-- the item of each id: that of its slot, or where it has none what else is known
abbrev pub over : {T : Type 0} → IdTable T → (Id → T) → Id → T
over slots rest = λ x. unwrap_or (found slots x) (rest x)

-- what is known, with the item of one id another
abbrev pub with_item : {T : Type 0} → (Id → T) → Id → T → Id → T
with_item known id item = λ x. cond (same_id x id) item (known x)

-- the environment that slots keep; an id without a slot is a poison pointer
abbrev pub env_in : IdTable Value → Env
env_in slots = over slots (λ x. PtrValue None)

-- the types that slots keep; an id without a slot has none
abbrev pub types_in : IdTable Ty → Id → Ty
types_in slots = over slots (λ x. Void)
