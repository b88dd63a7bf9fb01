-- The type that an operand has in a function, by what is kept of parameters and where instructions stand.
use Rattle.std.specs.Prelude.{ℕ, ◌==◌, cond, nat_lt, Option, None, Some, length, option_map}
use Rattle.ir_types.specs.declared.id.Id.{Id}
use Rattle.ir_types.specs.declared.ty.Ty.{Ty}
use Rattle.ir_types.specs.declared.ty.Ty.TheVariants.{Ptr}
use Rattle.ir_types.specs.declared.opd.Opd.{Opd}
use Rattle.ir_types.specs.declared.opd.Opd.TheVariants.{Val, Lit, Sym}
use Rattle.ir_types.specs.Formed.{given_ty, or_else}
use Rattle.ir_types.specs.IdTable.{found as item_of}
use Rattle.sb_lines.specs.declared.params.ParamSpot.{ParamSpot}
use Rattle.sb_lines.specs.declared.arena.Arena.{Arena}
use Rattle.sb_lines.specs.Params.{of_func}
use Rattle.sb_lines.specs.Arena.{standing, Told}

abbrev pub spot_ty : ParamSpot → Ty
spot_ty s = s.ty

abbrev pub line_ty : ℕ → Option Told → Option Ty
line_ty func None = None
line_ty func (Some t) = cond (t.place.func == func) (Some (given_ty t.inst.op t.inst.ty)) None

abbrev pub value_ty : Arena → ℕ → Id → Option Ty
value_ty a func id = or_else (option_map spot_ty (of_func func (item_of a.params id))) (line_ty func (standing a id))

abbrev pub opd_ty : Arena → ℕ → Opd → Option Ty
opd_ty a func (Val id) = value_ty a func id
opd_ty a func (Lit literal) = Some literal.ty
opd_ty a func (Sym global) = cond (nat_lt global (length a.frame.globals)) (Some Ptr) None

-- there is no type in a function that is not there
abbrev pub ty_of : Arena → ℕ → Opd → Option Ty
ty_of a func opd = cond (nat_lt func a.funcs) (opd_ty a func opd) None
