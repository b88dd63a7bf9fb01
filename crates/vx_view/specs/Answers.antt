-- What a module answers, by a scan of its text.
--
-- `answer` has the answer of each question. A question that names an id which is not in the module is answered by nothing; `Next` and
-- `Prev` of a parameter, of a last and a first instruction, and `First` of a block that is not there name no instruction.
-- `Agrees` says that recorded answers are those of a module.
use Rattle.std.specs.Prelude.{◌≡◌, refl, ℕ, suc, Bool, false, ◌&&◌, ◌||◌, nat_lt, nat_eq, cond, Option, None, Some, List, [], ◌∷◌, ◌++◌, slice_get}
use Rattle.std.specs.List.{All}
use Rattle.ir_types.specs.declared.id.Id.{Id}
use Rattle.ir_types.specs.declared.id.Place.{Place}
use Rattle.ir_types.specs.declared.id.Use.{Use}
use Rattle.ir_types.specs.declared.ty.Ty.TheVariants.{Void, Int}
use Rattle.ir_types.specs.declared.opd.Opd.{Opd}
use Rattle.ir_types.specs.declared.opd.Opd.TheVariants.{Val}
use Rattle.ir_types.specs.declared.op.Op.TheVariants.{Ret}
use Rattle.ir_types.specs.declared.inst.Inst.{Inst}
use Rattle.ir_types.specs.declared.func.Param.{Param}
use Rattle.ir_types.specs.declared.func.Block.{Block}
use Rattle.ir_types.specs.declared.func.Func.{Func}
use Rattle.ir_types.specs.declared.module.Item.{Item}
use Rattle.ir_types.specs.declared.module.Item.TheVariants.{Func as FuncItem}
use Rattle.ir_types.specs.declared.module.Module.{Module}
use Rattle.ir_types.specs.Available.{same_id}
use Rattle.vx_view.specs.declared.question.Question.{Question}
use Rattle.vx_view.specs.declared.question.Question.TheVariants as ask
use Rattle.vx_view.specs.declared.answer.Answer.{Answer}
use Rattle.vx_view.specs.declared.answer.Answer.TheVariants as says
use Rattle.vx_view.specs.declared.read.Read.{Read}

-- ---- where things stand

-- the functions of the profile, in order
abbrev pub funcs_of : List Item → List Func
funcs_of [] = []
funcs_of (FuncItem f ∷ items) = f ∷ funcs_of items
funcs_of (_ ∷ items) = funcs_of items

abbrev pub param_in : Id → List Param → Option Param
param_in id [] = None
param_in id (p ∷ ps) = cond (same_id p.id id) (Some p) (param_in id ps)

abbrev pub find : Id → List Inst → Option Inst
find id [] = None
find id (i ∷ is) = cond (same_id i.id id) (Some i) (find id is)

-- the first of two that is there
abbrev pub either : {A : Type 0} → Option A → Option A → Option A
either None other = other
either (Some a) other = Some a

abbrev pub param_of : Id → List Func → Option Param
param_of id [] = None
param_of id (f ∷ fs) = either (param_in id f.params) (param_of id fs)

-- an instruction, with its block and all that stand in it
pub record Standing : Type 0 where
  pub place : Place
  pub block : List Inst
  pub inst : Inst

abbrev pub standing : ℕ → ℕ → List Inst → Option Inst → Option Standing
standing func number insts None = None
standing func number insts (Some i) = Some (record { place = record { func = func; block = number }; block = insts; inst = i })

abbrev pub standing_in : Id → ℕ → ℕ → List Block → Option Standing
standing_in id func number [] = None
standing_in id func number (b ∷ bs) = either (standing func number b.insts (find id b.insts)) (standing_in id func (suc number) bs)

abbrev pub standing_of : Id → ℕ → List Func → Option Standing
standing_of id func [] = None
standing_of id func (f ∷ fs) = either (standing_in id func 0 f.blocks) (standing_of id (suc func) fs)

-- the instruction of an id, with where it stands
abbrev pub found : Module → Id → Option Standing
found m id = standing_of id 0 (funcs_of m.items)

-- ---- neighbours

abbrev pub id_of : List Inst → Option Id
id_of [] = None
id_of (i ∷ is) = Some i.id

-- the instruction after the one of an id
abbrev pub after : Id → List Inst → Option Id
after id [] = None
after id (i ∷ is) = cond (same_id i.id id) (id_of is) (after id is)

-- the instruction before the one of an id, where `last` stands before all of them
abbrev pub before : Id → Option Id → List Inst → Option Id
before id last [] = None
before id last (i ∷ is) = cond (same_id i.id id) last (before id (Some i.id) is)

-- ---- users

abbrev pub is_value : Id → Opd → Bool
is_value id (Val v) = same_id v id
is_value id _ = false

-- the slots from one on that hold a value
abbrev pub slots_from : Id → Id → ℕ → List Opd → List Use
slots_from id user slot [] = []
slots_from id user slot (o ∷ os) = cond (is_value id o) (record { user = user; slot = slot } ∷ slots_from id user (suc slot) os) (slots_from id user (suc slot) os)

abbrev pub uses_in : Id → List Inst → List Use
uses_in id [] = []
uses_in id (i ∷ is) = slots_from id i.id 0 i.opds ++ uses_in id is

abbrev pub uses_in_blocks : Id → List Block → List Use
uses_in_blocks id [] = []
uses_in_blocks id (b ∷ bs) = uses_in id b.insts ++ uses_in_blocks id bs

-- the uses of a value in order of the text
abbrev pub uses_of : Id → List Func → List Use
uses_of id [] = []
uses_of id (f ∷ fs) = uses_in_blocks id f.blocks ++ uses_of id fs

-- of two ids the lesser is that of the lesser region, and in one region that of the lesser number
abbrev pub is_less_id : Id → Id → Bool
is_less_id a b = nat_lt a.region b.region || (nat_eq a.region b.region && nat_lt a.k b.k)

abbrev pub is_less_use : Use → Use → Bool
is_less_use a b = is_less_id a.user b.user || (same_id a.user b.user && nat_lt a.slot b.slot)

abbrev pub put_in_order : Use → List Use → List Use
put_in_order u [] = u ∷ []
put_in_order u (v ∷ vs) = cond (is_less_use u v) (u ∷ v ∷ vs) (v ∷ put_in_order u vs)

-- in order of the user's id and of the slot
abbrev pub in_order : List Use → List Use
in_order [] = []
in_order (u ∷ us) = put_in_order u (in_order us)

-- ---- answers

abbrev pub of_inst : Option Standing → Answer
of_inst None = says.Nothing
of_inst (Some s) = says.Inst s.place s.inst

abbrev pub of_value : Option Param → Option Standing → Answer
of_value (Some p) s = says.Param p.noalias p.ty
of_value None s = of_inst s

-- beside a parameter stands no instruction
abbrev pub beside : Option Param → Option Standing → (List Inst → Option Id) → Answer
beside (Some p) s neighbour = says.At None
beside None None neighbour = says.Nothing
beside None (Some s) neighbour = says.At (neighbour s.block)

abbrev pub users_if : Option Param → Option Standing → List Use → Answer
users_if None None uses = says.Nothing
users_if _ _ uses = says.Users (in_order uses)

abbrev pub first_of : Option Block → Option Id
first_of None = None
first_of (Some b) = id_of b.insts

abbrev pub first_in : ℕ → Option Func → Option Id
first_in number None = None
first_in number (Some f) = first_of (slice_get f.blocks number)

abbrev pub answer : Module → Question → Answer
answer m (ask.Inst id) = of_value (param_of id (funcs_of m.items)) (found m id)
answer m (ask.Next id) = beside (param_of id (funcs_of m.items)) (found m id) (after id)
answer m (ask.Prev id) = beside (param_of id (funcs_of m.items)) (found m id) (before id None)
answer m (ask.Users id) = users_if (param_of id (funcs_of m.items)) (found m id) (uses_of id (funcs_of m.items))
answer m (ask.First place) = says.At (first_in place.block (slice_get (funcs_of m.items) place.func))

-- each recorded question has in the module the recorded answer
abbrev pub Agrees : List Read → Module → Type 0
Agrees reads m = All (λ (r : Read). answer m r.question ≡ r.answer) reads

-- ---- a worked example: a parameter 0, and in one block a sum 1 of it with itself, and a return 2 of the sum

abbrev pub value : ℕ → Id
value k = record { region = 0; k = k }

abbrev pub line : ℕ → List Opd → Inst
line k opds = record { id = value k; name = None; ty = Void; op = Ret; opds = opds }

abbrev pub lines : List Inst
lines = line 1 (Val (value 0) ∷ Val (value 0) ∷ []) ∷ line 2 (Val (value 1) ∷ []) ∷ []

abbrev pub doubles : Module
doubles = record {
  items = FuncItem (record {
    before = [];
    ret = Void;
    name = [];
    params = record { id = value 0; name = None; ty = Int 8; attrs = []; noalias = false } ∷ [];
    after = [];
    blocks = record { name = None; insts = lines } ∷ [];
  }) ∷ [];
  globals = [];
  big_endian_line = None;
}

users_of_the_parameter : answer doubles (ask.Users (value 0)) ≡ says.Users (record { user = value 1; slot = 0 } ∷ record { user = value 1; slot = 1 } ∷ [])
users_of_the_parameter = refl

after_the_sum : answer doubles (ask.Next (value 1)) ≡ says.At (Some (value 2))
after_the_sum = refl

before_the_first : answer doubles (ask.Prev (value 1)) ≡ says.At None
before_the_first = refl

no_such_value : answer doubles (ask.Inst (value 7)) ≡ says.Nothing
no_such_value = refl

no_such_block : answer doubles (ask.First (record { func = 0; block = 1 })) ≡ says.At None
no_such_block = refl
