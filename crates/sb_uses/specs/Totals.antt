-- What is counted over a module: ids, and slots.
--
-- A total adds a number of each instruction. The ids of a module are apart where each stands once, parameters and instructions
-- together; that is so of a formed module, and changes that fit keep it.
use Rattle.std.specs.Prelude.{◌≡◌, refl, ℕ, ◌+◌, ◌≤◌, cond, Option, None, Some, List, [], ◌∷◌, length}
use Rattle.ir_types.specs.declared.id.Id.{Id}
use Rattle.ir_types.specs.declared.inst.Inst.{Inst}
use Rattle.ir_types.specs.declared.func.Block.{Block}
use Rattle.ir_types.specs.declared.func.Func.{Func}
use Rattle.ir_types.specs.declared.module.Module.{Module}
use Rattle.ir_types.specs.Available.{same_id}
use Rattle.ir_types.specs.Formed.{ids_of}
use Rattle.vx_view.specs.declared.change.Change.{Change}
use Rattle.vx_view.specs.declared.change.Change.TheVariants.{Insert, Remove, Replace}
use Rattle.vx_view.specs.Answers.{funcs_of, found, Standing, value, doubles}

abbrev pub total_in : (Inst → ℕ) → List Inst → ℕ
total_in w [] = 0
total_in w (i ∷ is) = w i + total_in w is

abbrev pub total_of_blocks : (Inst → ℕ) → List Block → ℕ
total_of_blocks w [] = 0
total_of_blocks w (b ∷ bs) = total_in w b.insts + total_of_blocks w bs

abbrev pub total_of_funcs : (Inst → ℕ) → List Func → ℕ
total_of_funcs w [] = 0
total_of_funcs w (f ∷ fs) = total_of_blocks w f.blocks + total_of_funcs w fs

abbrev pub total : (Inst → ℕ) → Module → ℕ
total w m = total_of_funcs w (funcs_of m.items)

-- how many slots an instruction holds
abbrev pub width : Inst → ℕ
width i = length i.opds

-- how many slots the instructions of a module hold
abbrev pub slots_of : Module → ℕ
slots_of m = total width m

abbrev pub slots_in : Option Standing → ℕ
slots_in None = 0
slots_in (Some s) = length s.inst.opds

-- how many slots a change brings, and how many go with it
abbrev pub slots_came : Change → ℕ
slots_came (Insert x new) = length new.opds
slots_came (Replace new) = length new.opds
slots_came _ = 0

abbrev pub slots_gone : Module → Change → ℕ
slots_gone m (Remove x) = slots_in (found m x)
slots_gone m (Replace new) = slots_in (found m new.id)
slots_gone m _ = 0

-- how often an id stands among others
abbrev pub id_times : Id → List Id → ℕ
id_times x [] = 0
id_times x (y ∷ ys) = cond (same_id y x) (1 + id_times x ys) (id_times x ys)

abbrev pub IdsApart : Module → Type 0
IdsApart m = (x : Id) → id_times x (ids_of m) ≤ 1

-- ---- worked examples: a sum of two slots, and a return of one

three_slots : slots_of doubles ≡ 3
three_slots = refl

two_go_with_the_sum : slots_gone doubles (Remove (value 1)) ≡ 2
two_go_with_the_sum = refl

the_sum_once : id_times (value 1) (ids_of doubles) ≡ 1
the_sum_once = refl
