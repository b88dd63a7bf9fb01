-- What the code says of an instruction and the memory after it, as the effect that it came to.
use Rattle.std.specs.Prelude.{Bool, Option, None, Some, if◌then◌else◌}
use Rattle.ir_types.specs.declared.id_table.IdTable.{IdTable}
use Rattle.ir_model.specs.declared.value.Value.{Value}
use Rattle.ir_model.specs.Memory.{Memory}
use Rattle.ir_model.specs.Accesses.{Effect}
use Rattle.ir_model.specs.Step.{State}
use Rattle.ir_interp.specs.declared.step.Effect.{Effect as Kept}
use Rattle.ir_interp.specs.declared.step.Effect.TheVariants.{Undefined, Result, Nothing}
use Rattle.ir_interp.specs.Slots.{env_in}

-- a memory without a result, where the instruction is defined
abbrev pub stored_if : Bool → Memory → Option Effect
stored_if defined m = if defined then Some (record { result = None; memory = m }) else None

-- a result and a memory
abbrev pub effect_with : Value → Memory → Effect
effect_with v m = record { result = Some v; memory = m }

-- what an instruction came to, with the memory that it left
abbrev pub effect_in : Kept → Memory → Option Effect
effect_in Undefined m = None
effect_in (Result v) m = Some (effect_with v m)
effect_in Nothing m = Some (record { result = None; memory = m })

-- the state of an environment that slots keep and a memory
abbrev pub state_in : IdTable Value → Memory → State
state_in slots m = record { env = env_in slots; memory = m }

-- a state, where it is defined
abbrev pub state_if : Bool → State → Option State
state_if defined s = if defined then Some s else None
