-- Operands and labels as they are printed in a function, whose names are `ns` in a module whose globals are `gs`.
-- Each is total: an operand that names nothing has no text.
use Rattle.std.specs.Prelude.{ℕ, Option, Some, None, List, [], ◌∷◌, ◌++◌, codes, slice_get}
use Rattle.ir_types.specs.declared.ty.Ty.{Ty}
use Rattle.ir_types.specs.declared.ty.Ty.TheVariants.{Void, Ptr}
use Rattle.ir_types.specs.declared.opd.Opd.{Opd}
use Rattle.ir_types.specs.declared.opd.Opd.TheVariants.{Val, Lit, Sym}
use Rattle.ir_print.specs.declared.names.Local.{Local}
use Rattle.ir_print.specs.Literals.{ty_text, literal_text}
use Rattle.ir_print.specs.Names.{Names, local_of}

-- a text after one space, where there is one
abbrev pub spaced : List ℕ → List ℕ
spaced [] = []
spaced (b ∷ bs) = 32 ∷ (b ∷ bs)

abbrev pub local_text : Option Local → List ℕ
local_text None = []
local_text (Some l) = codes "%" ++ l.text

abbrev pub local_ty : Option Local → Ty
local_ty None = Void
local_ty (Some l) = l.ty

abbrev pub global_text : Option (List ℕ) → List ℕ
global_text None = []
global_text (Some name) = codes "@" ++ name

-- an operand
abbrev pub opd_text : Names → List (List ℕ) → Opd → List ℕ
opd_text ns gs (Val id) = local_text (local_of id ns.locals)
opd_text ns gs (Lit l) = literal_text l
opd_text ns gs (Sym g) = global_text (slice_get gs g)

-- its type
abbrev pub opd_ty : Names → Opd → Ty
opd_ty ns (Val id) = local_ty (local_of id ns.locals)
opd_ty ns (Lit l) = l.ty
opd_ty ns (Sym g) = Ptr

-- an operand after its type
abbrev pub typed_text : Names → List (List ℕ) → Opd → List ℕ
typed_text ns gs o = ty_text (opd_ty ns o) ++ (codes " " ++ opd_text ns gs o)

-- the operand of a slot, if there is one: bare, or after its type
abbrev pub bare_at : Names → List (List ℕ) → Option Opd → List ℕ
bare_at ns gs None = []
bare_at ns gs (Some o) = opd_text ns gs o

abbrev pub typed_at : Names → List (List ℕ) → Option Opd → List ℕ
typed_at ns gs None = []
typed_at ns gs (Some o) = typed_text ns gs o

abbrev pub ty_at : Names → Option Opd → List ℕ
ty_at ns None = []
ty_at ns (Some o) = ty_text (opd_ty ns o)

abbrev pub block_text : Option (List ℕ) → List ℕ
block_text None = []
block_text (Some name) = codes "%" ++ name

-- a block as a target
abbrev pub label_text : Names → ℕ → List ℕ
label_text ns b = codes "label " ++ block_text (slice_get ns.labels b)
