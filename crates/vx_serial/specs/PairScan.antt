-- How the code looks for the pair: in one pass, with the last store that may still pair kept.
use Rattle.std.specs.Prelude.{ℕ, ◌+◌, ◌-◌, Option, None, Some, List, [], ◌∷◌, ◌++◌, ℤ, cond, take, drop, option_map}
use Rattle.std.specs.Option.{option_or, option_flatten}
use Rattle.ir_types.specs.declared.id.Id.{Id}
use Rattle.ir_types.specs.declared.id_table.IdTable.{IdTable}
use Rattle.ir_types.specs.declared.inst.Inst.{Inst}
use Rattle.ir_types.specs.IdTable.{found}
use Rattle.vx_serial.specs.declared.pairing.scan.LedStore.{LedStore}
use Rattle.vx_serial.specs.declared.pairing.scan.Waiting.{Waiting}
use Rattle.vx_serial.specs.declared.pairing.scan.Found.{Found}
use Rattle.vx_serial.specs.Pair.{Leads, leads_after, is_memory, led_store_of, joined_to}

-- the leads that a table keeps; where it has nothing, or knows of none, there is none
abbrev pub leads_in : IdTable (Option (Id × ℤ)) → Leads
leads_in table = λ x. option_flatten (found table x)

abbrev pub found_pair : ℕ → ℕ → Inst → Found
found_pair first second both = record { first = first; second = second; both = both }

-- an instruction at a place, as the second of a pair with the waiting store
abbrev pub pair_at : Leads → Option Waiting → ℕ → Inst → Option Found
pair_at leads None at i = None
pair_at leads (Some waiting) at i = cond (is_memory i.op) (option_map (found_pair waiting.place at) (joined_to leads waiting.store i)) None

abbrev pub awaited : ℕ → LedStore → Waiting
awaited place store = record { place = place; store = store }

-- the waiting store after an instruction
abbrev pub waiting_after : Leads → Option Waiting → ℕ → Inst → Option Waiting
waiting_after leads waiting at i = cond (is_memory i.op) (option_map (awaited at) (led_store_of leads i)) waiting

-- the first pair that instructions from a place on complete
abbrev pub scan : Leads → Option Waiting → ℕ → List Inst → Option Found
scan leads waiting at [] = None
scan leads waiting at (i ∷ is) =
    option_or (pair_at leads waiting at i) (scan (leads_after leads i) (waiting_after leads waiting at i) (at + 1) is)

-- the instructions with a pair joined: the first store goes, and both stand in the place of the second
abbrev pub with_found : List Inst → Found → List Inst
with_found insts f =
    take f.first insts ++ (take (f.second - (f.first + 1)) (drop (f.first + 1) insts) ++ (f.both ∷ drop (f.second + 1) insts))
