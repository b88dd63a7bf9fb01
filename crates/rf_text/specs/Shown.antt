-- What is shown of values, blocks and globals is a name that can be read again, and an instruction fits what is shown.
use Rattle.std.specs.Prelude.{◌≡◌, ℕ, ◌^◌, ◌<◌, ◌⊎◌, Bool, true, false, List, [], ◌∷◌, map, length, nat_lt, if◌then◌else◌, option_map}
use Rattle.std.specs.List.{All}
use Rattle.std.specs.declared.option.Option.{Option}
use Rattle.std.specs.declared.option.Option.TheVariants.{None, Some}
use Rattle.std.specs.Fmt.{decimal}
use Rattle.ir_lex.specs.Tokens.{is_name}
use Rattle.ir_types.specs.declared.ty.Ty.{Ty}
use Rattle.ir_types.specs.declared.ty.Ty.TheVariants.{Ptr}
use Rattle.ir_types.specs.declared.opd.Opd.{Opd}
use Rattle.ir_types.specs.declared.opd.Opd.TheVariants.{Val, Lit, Sym}
use Rattle.ir_types.specs.declared.op.Op.{Op}
use Rattle.ir_types.specs.declared.op.Op.TheVariants.{Phi, Call}
use Rattle.ir_types.specs.declared.inst.Inst.{Inst}
use Rattle.ir_types.specs.Available.{op_targets}
use Rattle.ir_types.specs.Typed.{IsTyped}
use Rattle.ir_types.specs.Formed.{IsOpd, IsPoisonIfPointer}
use Rattle.ir_print.specs.declared.names.Local.{Local}
use Rattle.ir_print.specs.Names.{Names, local_of, is_store, is_void}

-- what is shown of a value or a block, without `%`: a plain name, or a number
abbrev pub IsLocalName : List ℕ → Type 0
IsLocalName text = (is_name text ≡ true) ⊎ ((n : ℕ) × (n < 2 ^ 64) × (text ≡ decimal n))

-- whatever is shown of a function's values and blocks and of the module's globals is a name
pub record Shown (ns : Names) (gs : List (List ℕ)) : Type 0 where
  pub locals : All (λ (l : Local). IsLocalName l.text) ns.locals
  pub labels : All IsLocalName ns.labels
  pub globals : All (λ g. is_name g ≡ true) gs

-- the type that an operand is shown with, where what it names is there
abbrev pub shown_ty : Names → List (List ℕ) → Opd → Option Ty
shown_ty ns gs (Val id) = option_map (λ (l : Local). l.ty) (local_of id ns.locals)
shown_ty ns gs (Lit literal) = Some literal.ty
shown_ty ns gs (Sym g) = if nat_lt g (length gs) then Some Ptr else None

-- the blocks that an operation names
abbrev pub op_blocks : Op → List ℕ
op_blocks (Phi blocks) = blocks
op_blocks op = op_targets op

abbrev pub is_call : Op → Bool
is_call (Call site) = true
is_call op = false

-- an instruction, other than a call, of a function that returns `ret`: its literals are of their types, its operands as they are shown
-- have the types that its form asks for, and whatever it names or gives is shown
pub record Fits (ret : Ty) (ns : Names) (gs : List (List ℕ)) (i : Inst) : Type 0 where
  pub operands : All IsOpd i.opds
  pub pointers : All IsPoisonIfPointer i.opds
  pub typed : IsTyped ret i.op i.ty (map (shown_ty ns gs) i.opds)
  pub result : is_void i.ty ≡ false → is_store i.op ≡ false → (l : Local) × (local_of i.id ns.locals ≡ Some l)
  pub blocks : All (λ b. b < length ns.labels) (op_blocks i.op)
  pub other : is_call i.op ≡ false
