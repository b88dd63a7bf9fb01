-- What the code keeps of an address, read as the definitions of addresses have it, and what of an instruction lets it be followed.
use Rattle.std.specs.Prelude.{Bool, cond, Option, None, Some, option_map, ⊤}
use Rattle.std.specs.List.{All}
use Rattle.ir_types.specs.declared.id.Place.{Place}
use Rattle.ir_types.specs.declared.opd.Opd.{Opd}
use Rattle.ir_types.specs.declared.op.Op.{Op}
use Rattle.ir_types.specs.declared.op.Op.TheVariants.{Gep}
use Rattle.ir_types.specs.declared.inst.Inst.{Inst}
use Rattle.ir_types.specs.Typed.{IsStep}
use Rattle.ir_types.specs.Formed.{IsOpd, is_alloca}
use Rattle.vx_view.specs.declared.answer.Answer.{Answer}
use Rattle.vx_view.specs.declared.answer.Answer.TheVariants as says
use Rattle.vx_view.specs.Addresses as view
use Rattle.vx_view.specs.Conflicts as view_of
use Rattle.vx_view.specs.Answers.{Standing}
use Rattle.vx_addr.specs.Effects as kept
use Rattle.vx_addr.specs.declared.address.Form.{Form}
use Rattle.vx_addr.specs.declared.effect.Touch.{Touch}
use Rattle.vx_addr.specs.declared.effect.Effect.{Effect}
use Rattle.vx_addr.specs.declared.offset.Offset.{Offset}
use Rattle.vx_addr.specs.declared.sum.Summand.{Summand}
use Rattle.vx_addr.specs.declared.sum.Summand.TheVariants.{Number, Poison, Value, Other}
use Rattle.vx_addr.specs.declared.walk.Walk.{Walk}
use Rattle.vx_addr.specs.declared.access.Access.{Access}
use Rattle.vx_addr.specs.declared.kind.Kind.{Kind}
use Rattle.vx_addr.specs.declared.kind.Kind.TheVariants.{Allocated, Global, Alone, Argument, Unknown}

abbrev pub as_offset : Offset → view.Offset
as_offset o = record { symbol = o.symbol; constant = o.constant }

abbrev pub as_form : Form → view.Form
as_form f = record { root = f.root; offset = record { symbol = f.symbol; constant = f.constant } }

abbrev pub as_walked : Walk → view.Walked
as_walked w = record { pointer = w.pointer; offset = as_offset w.offset; left = w.left }

abbrev pub as_led : Opd × Offset → view.Led
as_led led = (led.0, as_offset led.1)

abbrev pub as_summand : Summand → view.Summand
as_summand (Number n) = view.Number n
as_summand Poison = view.Poison
as_summand (Value v) = view.Value v
as_summand Other = view.Other

abbrev pub as_kind : Kind → view_of.Kind
as_kind Allocated = view_of.Allocated
as_kind Global = view_of.Global
as_kind Alone = view_of.Alone
as_kind Argument = view_of.Argument
as_kind Unknown = view_of.Unknown

abbrev pub as_access : Access → view_of.Access
as_access a = record { pointer = a.pointer.now; size = a.size; writes = a.writes }

-- an instruction and its place, as they are answered
abbrev pub where_of : Standing → Place × Inst
where_of s = (s.place, s.inst)

abbrev pub only_place : Place × Inst → Place
only_place w = w.0

abbrev pub where_answered : Answer → Option (Place × Inst)
where_answered (says.Inst place inst) = Some (place, inst)
where_answered _ = None

-- two instructions and the place of the first, where both are there
abbrev pub paired : Option (Place × Inst) → Option (Place × Inst) → Option (Place × Inst × Inst)
paired (Some first) (Some second) = Some (first.0, first.1, second.1)
paired _ _ = None

abbrev pub inst_kind : Bool → view_of.Kind
inst_kind alloca = cond alloca view_of.Allocated view_of.Unknown

abbrev pub kind_answered : Answer → view_of.Kind
kind_answered (says.Param noalias ty) = view_of.param_kind ty noalias
kind_answered (says.Inst place inst) = inst_kind (is_alloca inst.op)
kind_answered _ = view_of.Unknown

-- ---- what of a formed instruction the walks rest on

abbrev pub IsStepped : Op → Type 0
IsStepped (Gep elem inbounds) = IsStep elem
IsStepped _ = ⊤

-- its literals are of their types, and what it steps over is of whole bytes
pub record IsPlain (inst : Inst) : Type 0 where
  pub opds : All IsOpd inst.opds
  pub step : IsStepped inst.op

-- ---- what is kept of an instruction

abbrev pub as_touch : Touch → kept.Touch
as_touch t = record { form = as_form t.form; kind = as_kind t.kind; size = t.size; writes = t.writes }

abbrev pub as_effect : Effect → kept.Effect
as_effect e = record { call = e.call; minds = e.minds_calls; touch = option_map as_touch e.touch }
