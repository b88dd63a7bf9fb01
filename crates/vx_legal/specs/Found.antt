-- The rules for what was answered for lanes, lane by lane: the instruction of the block that each one is, if it is one.
use Rattle.std.specs.Prelude.{◌≡◌, refl, Bool, true, Option, None, Some, List, [], ◌∷◌, map}
use Rattle.std.specs.List.{list_any}
use Rattle.ir_types.specs.declared.id.Id.{Id}
use Rattle.ir_types.specs.declared.ty.Ty.{Ty}
use Rattle.ir_types.specs.declared.opd.Opd.{Opd}
use Rattle.ir_types.specs.declared.inst.Inst.{Inst}
use Rattle.ir_types.specs.Formed.{given_ty}
use Rattle.vx_view.specs.Answers.{is_value}
use Rattle.vx_view.specs.Addresses.{value, number}
use Rattle.vx_view.specs.declared.answer.Answer.{Answer}
use Rattle.vx_view.specs.declared.answer.Answer.TheVariants as says
use Rattle.vx_serial.specs.Window.{id, block, load}
use Rattle.vx_serial.specs.Legal.{inst_of, with_lane}

-- what each lane is in a block
abbrev pub found_of : List Inst → List Opd → List (Option Inst)
found_of insts lanes = map (inst_of insts) lanes

-- the instructions among what was answered
abbrev pub there : List (Option Inst) → List Inst
there [] = []
there (f ∷ more) = with_lane f (there more)

-- an id is one of the lanes
abbrev pub is_lane : List Opd → Id → Bool
is_lane lanes x = list_any (is_value x) lanes

-- the type of the value that was answered
abbrev pub ty_answered : Answer → Option Ty
ty_answered (says.Param noalias ty) = Some ty
ty_answered (says.Inst place inst) = Some (given_ty inst.op inst.ty)
ty_answered _ = None

-- ---- worked examples

of_two : found_of block (value 3 ∷ value 9 ∷ number 1 ∷ []) ≡ Some (load 3 1) ∷ None ∷ None ∷ []
of_two = refl

one_is_there : there (Some (load 3 1) ∷ None ∷ []) ≡ load 3 1 ∷ []
one_is_there = refl

is_second : is_lane (number 1 ∷ value 3 ∷ []) (id 3) ≡ true
is_second = refl
