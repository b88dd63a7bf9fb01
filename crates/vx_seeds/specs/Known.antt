-- What a table of ids tells of a module: of each id the answer to the question for it.
--
-- The scans have what comes after them as an argument, so that one scan goes on where another ends.
use Rattle.std.specs.Prelude.{◌≡◌, refl, false, ℕ, suc, cond, Option, None, Some, List, [], ◌∷◌}
use Rattle.ir_types.specs.declared.id.Id.{Id}
use Rattle.ir_types.specs.declared.id.Place.{Place}
use Rattle.ir_types.specs.declared.inst.Inst.{Inst}
use Rattle.ir_types.specs.declared.func.Param.{Param}
use Rattle.ir_types.specs.declared.func.Block.{Block}
use Rattle.ir_types.specs.declared.func.Func.{Func}
use Rattle.ir_types.specs.Available.{same_id}
use Rattle.ir_types.specs.IdTable.{found}
use Rattle.vx_view.specs.declared.question.Question.TheVariants as ask
use Rattle.vx_view.specs.declared.answer.Answer.{Answer}
use Rattle.vx_view.specs.declared.answer.Answer.TheVariants as says
use Rattle.ir_types.specs.declared.ty.Ty.TheVariants.{Int}
use Rattle.vx_view.specs.Answers.{funcs_of, answer, doubles, value}
use Rattle.vx_seeds.specs.declared.known.Known.{Known}
use Rattle.vx_seeds.specs.declared.known.Known.TheVariants as known
use Rattle.vx_seeds.specs.declared.known.Table.{Table}

-- the answer that is kept
abbrev pub told : Known → Answer
told (known.Param noalias ty) = says.Param noalias ty
told (known.Inst place inst) = says.Inst place inst.now

-- what is kept of an id, or else another answer
abbrev pub or_answer : Option Known → Answer → Answer
or_answer None a = a
or_answer (Some k) a = told k

-- ---- scans

abbrev pub params_then : Id → List Param → Answer → Answer
params_then q [] a = a
params_then q (p ∷ ps) a = cond (same_id p.id q) (says.Param p.noalias p.ty) (params_then q ps a)

abbrev pub insts_then : Id → Place → List Inst → Answer → Answer
insts_then q place [] a = a
insts_then q place (i ∷ is) a = cond (same_id i.id q) (says.Inst place i) (insts_then q place is a)

abbrev pub blocks_then : Id → ℕ → ℕ → List Block → Answer → Answer
blocks_then q func number [] a = a
blocks_then q func number (b ∷ bs) a = insts_then q (record { func = func; block = number }) b.insts (blocks_then q func (suc number) bs a)

abbrev pub all_params_then : Id → List Func → Answer → Answer
all_params_then q [] a = a
all_params_then q (f ∷ fs) a = params_then q f.params (all_params_then q fs a)

abbrev pub funcs_then : Id → ℕ → List Func → Answer → Answer
funcs_then q func [] a = a
funcs_then q func (f ∷ fs) a = blocks_then q func 0 f.blocks (funcs_then q (suc func) fs a)

-- a table has the answer for each id
abbrev pub IsTable : Table → Type 0
IsTable t = (q : Id) → or_answer (found t.known q) says.Nothing ≡ answer t.asked.now (ask.Inst q)

-- ---- worked examples: a parameter, and an id that nothing has

a_parameter : all_params_then (value 0) (funcs_of doubles.items) says.Nothing ≡ says.Param false (Int 8)
a_parameter = refl

no_instruction : funcs_then (value 7) 0 (funcs_of doubles.items) says.Nothing ≡ says.Nothing
no_instruction = refl
