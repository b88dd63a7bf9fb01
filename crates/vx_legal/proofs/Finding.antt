-- What is answered for lanes has what the block has of them.
use Rattle.std.proofs.Common.{◌≡◌, refl, sym, ap, ◌∙◌, ◌&&◌, Option, None, Some, List, [], ◌∷◌}
use Rattle.std.specs.List.{list_all}
use Rattle.ir_types.specs.declared.id.Id.{Id}
use Rattle.ir_types.specs.declared.func.Param.{Param}
use Rattle.ir_types.specs.declared.opd.Opd.{Opd}
use Rattle.ir_types.specs.declared.opd.Opd.TheVariants.{Val}
use Rattle.ir_types.specs.declared.inst.Inst.{Inst}
use Rattle.ir_types.specs.declared.module.Module.{Module}
use Rattle.vx_view.specs.declared.answer.Answer.{Answer}
use Rattle.vx_view.specs.declared.question.Question.TheVariants as ask
use Rattle.vx_view.specs.Answers.{answer, found, funcs_of, param_of, of_value, Standing}
use Rattle.vx_serial.specs.Legal.{inst_of, insts_of, is_there, with_lane, value_ty, ty_of}
use Rattle.vx_legal.specs.Found.{found_of, there, ty_answered}

pub there_is : (block : List Inst) → (lanes : List Opd) → there (found_of block lanes) ≡ insts_of block lanes
there_is block [] = refl
there_is block (o ∷ os) = ap (with_lane (inst_of block o)) (there_is block os)

pub all_are : (block : List Inst) → (lanes : List Opd) → list_all is_there (found_of block lanes) ≡ list_all (λ o. is_there (inst_of block o)) lanes
all_are block [] = refl
all_are block (o ∷ os) = ap (λ b. is_there (inst_of block o) && b) (all_are block os)

ty_is : (p : Option Param) (s : Option Standing) → ty_answered (of_value p s) ≡ value_ty p s
ty_is (Some p) s = refl
ty_is None None = refl
ty_is None (Some s) = refl

-- the answer has the type
pub typed : (m : Module) (x : Id) (a : Answer) → answer m (ask.Inst x) ≡ a → ty_answered a ≡ ty_of m (Val x)
typed m x a e = ap ty_answered (sym e) ∙ ty_is (param_of x (funcs_of m.items)) (found m x)
