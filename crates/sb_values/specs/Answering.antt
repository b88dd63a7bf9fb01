-- What a sandbox answers.
use Rattle.std.specs.Prelude.{◌≡◌, refl, Option, None}
use Rattle.ir_types.specs.declared.id.Id.{Id}
use Rattle.vx_view.specs.declared.answer.Answer.{Answer}
use Rattle.vx_view.specs.declared.answer.Answer.TheVariants as says
use Rattle.sb_values.specs.declared.found.Found.{Found}
use Rattle.sb_values.specs.declared.found.Found.TheVariants as is

-- what is found, as an answer
abbrev pub as_answer : Found → Answer
as_answer is.Nothing = says.Nothing
as_answer (is.Param noalias ty) = says.Param noalias ty
as_answer (is.Inst place inst) = says.Inst place inst.now

-- the id that an answer holds
abbrev pub id_in : Answer → Option Id
id_in (says.At id) = id
id_in _ = None

nothing_has_none : id_in says.Nothing ≡ None
nothing_has_none = refl
