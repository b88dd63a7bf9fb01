-- What a statement of the profile is like before its names are looked up: its literals are literals of the types that are written for
-- them, and its operation, its type and the written types of its operands fit one another.
use Rattle.std.specs.Prelude.{◌≡◌, ℕ, ◌^◌, ◌<◌, ◌⊎◌, true, Option, Some, None, List, [], ◌∷◌, length, map}
use Rattle.std.specs.List.{All}
use Rattle.ir_types.specs.declared.ty.Ty.{Ty}
use Rattle.ir_types.specs.declared.ty.Ty.TheVariants.{Void, Int}
use Rattle.ir_types.specs.declared.op.Op.{Op}
use Rattle.ir_types.specs.declared.op.Op.TheVariants.{Phi, Ret, Br, CondBr, Switch, Call}
use Rattle.ir_types.specs.declared.literal.Literal.{Literal}
use Rattle.ir_types.specs.Typed.{is_width, is_value, IsLiteral, IsTyped}
use Rattle.ir_draft.specs.declared.written.Written.{Written}
use Rattle.ir_draft.specs.declared.written.Written.TheVariants.{Lit}
use Rattle.ir_draft.specs.declared.written.Arg.{Arg}
use Rattle.ir_draft.specs.declared.stmt.Stmt.{Stmt}
use Rattle.ir_draft.specs.declared.line.Line.{Line}
use Rattle.ir_draft.specs.declared.line.Line.TheVariants as lines

-- a literal is one of the type that is written for it
abbrev pub IsSoundOpd : Ty → Written → Type 0
IsSoundOpd t (Lit literal) = (literal.ty ≡ t) × IsLiteral literal
IsSoundOpd t _ = Unit {0}

abbrev pub IsValueTy : Option Ty → Type 0
IsValueTy None = ⊥
IsValueTy (Some t) = is_value t ≡ true

-- what is returned is of some type, and a `switch` has no cases yet; a call gives nothing or a value and takes values, each with its
-- attributes, whether these are what its callee takes or not; all others are typed
abbrev pub IsSoundOp : Op → Ty → List (Option Ty) → Type 0
IsSoundOp Ret t tys = (t ≡ Void) × ((tys ≡ []) ⊎ ((u : Ty) × (is_value u ≡ true) × (tys ≡ Some u ∷ [])))
IsSoundOp (Switch other cases to) t tys = (w : ℕ) × (is_width w ≡ true) × (t ≡ Void) × (tys ≡ Some (Int w) ∷ [])
IsSoundOp (Call site) t tys = ((t ≡ Void) ⊎ (is_value t ≡ true)) × All IsValueTy tys × (length site.attrs ≡ length tys)
IsSoundOp op t tys = IsTyped Void op t tys

abbrev pub written_types : List Arg → List (Option Ty)
written_types args = map (λ (a : Arg). Some a.ty) args

-- the places of labels that an operation names are there
abbrev pub HasPlaces : Op → ℕ → Type 0
HasPlaces (Phi places) n = All (λ p. p < n) places
HasPlaces (Br to) n = to < n
HasPlaces (CondBr first second) n = (first < n) × (second < n)
HasPlaces (Switch other cases to) n = other < n
HasPlaces _ n = Unit {0}

pub record IsSound (s : Stmt) : Type 0 where
  pub literals : All (λ (a : Arg). IsSoundOpd a.ty a.opd) s.args
  pub typed : IsSoundOp s.op s.ty (written_types s.args)
  pub places : HasPlaces s.op (length s.labels)

abbrev pub IsCallOp : Op → Type 0
IsCallOp (Call site) = Unit {0}
IsCallOp _ = ⊥

-- the literal of a case is a number of its width
pub record IsSoundCase (value : Literal) : Type 0 where
  pub width : ℕ
  pub number : ℕ
  pub profile : is_width width ≡ true
  pub type : value.ty ≡ Int width
  pub lanes : value.lanes ≡ Some number ∷ []
  pub below : number < 2 ^ width

-- what is known of a line inside a function, by its form
abbrev pub IsSoundLine : Line → Type 0
IsSoundLine (lines.Stmt s) = IsSound s
IsSoundLine (lines.Case value label) = IsSoundCase value
IsSoundLine _ = Unit {0}

-- a line that is a call
abbrev pub IsCallLine : Line → Type 0
IsCallLine (lines.Stmt s) = IsCallOp s.op
IsCallLine _ = ⊥
