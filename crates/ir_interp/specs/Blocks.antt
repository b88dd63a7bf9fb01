-- What the code says of a block's end, and of the values that phis bring.
use Rattle.std.specs.Prelude.{◌≡◌, refl, ℕ, ◌≤◌, Bool, false, Option, None, Some, List, [], ◌∷◌, length, drop, nat_eq}
use Rattle.ir_types.specs.declared.id.Id.{Id}
use Rattle.ir_types.specs.declared.ty.Ty.{Ty}
use Rattle.ir_types.specs.declared.inst.Inst.{Inst}
use Rattle.ir_model.specs.declared.value.Value.TheVariants.{Lane as LaneValue}
use Rattle.ir_model.specs.Values.{Lane, Env, with_value}
use Rattle.ir_model.specs.Step.{State}
use Rattle.ir_model.specs.Run.{Ended, Stops, Returns, Goes}
use Rattle.ir_model.specs.CallFree.{run_insts, enter}
use Rattle.ir_interp.specs.declared.blocks.Ended.{Ended as Kept}
use Rattle.ir_interp.specs.declared.blocks.Ended.TheVariants.{Stops as KeptStops, Returns as KeptReturns, Goes as KeptGoes}
use Rattle.ir_interp.specs.declared.blocks.Arrival.{Arrival}

-- how a block ends, with the state that it leaves
abbrev pub ended_in : Kept → State → Ended
ended_in KeptStops s = Stops
ended_in (KeptReturns v) s = Returns v s.memory
ended_in (KeptGoes to) s = Goes to s

-- whether a case is the number; poison is none
abbrev pub is_case : ℕ → Lane → Bool
is_case n None = false
is_case n (Some c) = nat_eq n c

-- the environment in which phis have what they bring
abbrev pub arrived : List Arrival → Env → Env
arrived [] env = env
arrived (a ∷ others) env = arrived others (with_value env a.id a.value)

-- what the phis at the head of a block bring on an edge, if all bring something: to enter the block is to run what is after them
-- in the environment in which they have it
abbrev pub IsEntry : Option ℕ → Env → List Inst → Option (List Arrival) → Type 0
IsEntry from edge insts None = (types : Id → Ty) (s : State) → Stops ≡ enter types from edge insts s
IsEntry from edge insts (Some brought) =
    (length brought ≤ length insts)
    × ((types : Id → Ty) (s : State) → run_insts types (drop (length brought) insts) (record { env = arrived brought s.env; memory = s.memory }) ≡ enter types from edge insts s)

-- what came last to an id is its value
abbrev phi : ℕ → Lane → Arrival
phi k lane = record { id = record { region = 0; k = k }; value = LaneValue lane }

last_is_kept : (env : Env) → arrived (phi 1 (Some 7) ∷ phi 2 None ∷ phi 1 (Some 8) ∷ []) env (record { region = 0; k = 1 }) ≡ LaneValue (Some 8)
last_is_kept env = refl

poison_is_no_case : is_case 0 None ≡ false
poison_is_no_case = refl
