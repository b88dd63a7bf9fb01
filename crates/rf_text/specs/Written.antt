-- An instruction with names in the place of ids, as the lines of its text have it.
use Rattle.std.specs.Prelude.{◌≡◌, refl, ℕ, ◌+◌, Bool, false, List, [], ◌∷◌, ◌++◌, map, codes, slice_get, unwrap_or}
use Rattle.std.specs.Fmt.{digits}
use Rattle.std.specs.declared.option.Option.{Option}
use Rattle.std.specs.declared.option.Option.TheVariants.{None, Some}
use Rattle.ir_types.specs.declared.id.Id.{Id}
use Rattle.ir_types.specs.declared.ty.Ty.{Ty}
use Rattle.ir_types.specs.declared.ty.Ty.TheVariants.{Void, Int, Ptr}
use Rattle.ir_types.specs.declared.opd.Opd.{Opd}
use Rattle.ir_types.specs.declared.opd.Opd.TheVariants.{Val, Lit as LitOpd, Sym}
use Rattle.ir_types.specs.declared.op.Op.{Op}
use Rattle.ir_types.specs.declared.op.Op.TheVariants.{Load, Phi, Br, CondBr, Switch}
use Rattle.ir_types.specs.declared.inst.Inst.{Inst}
use Rattle.ir_draft.specs.declared.written.Written.{Written}
use Rattle.ir_draft.specs.declared.written.Written.TheVariants.{Local, Symbol, Lit}
use Rattle.ir_draft.specs.declared.written.Arg.{Arg}
use Rattle.ir_draft.specs.declared.stmt.Stmt.{Stmt}
use Rattle.ir_draft.specs.declared.line.Line.{Line}
use Rattle.ir_draft.specs.declared.line.Line.TheVariants.{Stmt as StmtLine, Case, CasesEnd}
use Rattle.ir_print.specs.declared.names.Local.{Local as ShownLocal}
use Rattle.ir_print.specs.Names.{Names, local_of, is_store, is_void}
use Rattle.ir_print.specs.Operands.{opd_ty}
use Rattle.ir_print.specs.Instructions.{inst_text}
use Rattle.rf_text.specs.Shown.{op_blocks}

-- what is shown of a value, of a block and of a global

abbrev pub shown_text : Option ShownLocal → List ℕ
shown_text None = []
shown_text (Some l) = l.text

abbrev pub shown_block : Names → ℕ → List ℕ
shown_block ns b = unwrap_or (slice_get ns.labels b) []

abbrev pub shown_global : List (List ℕ) → ℕ → List ℕ
shown_global gs g = unwrap_or (slice_get gs g) []

-- an operand by its name, or the literal that it is, and with its type
abbrev pub written : Names → List (List ℕ) → Opd → Written
written ns gs (Val id) = Local (shown_text (local_of id ns.locals))
written ns gs (LitOpd literal) = Lit literal
written ns gs (Sym g) = Symbol (shown_global gs g)

abbrev pub arg_of : Names → List (List ℕ) → Opd → Arg
arg_of ns gs o = record { ty = opd_ty ns o; opd = written ns gs o }

-- the numbers from `at` on, one for each of these
abbrev pub places_from : ℕ → List ℕ → List ℕ
places_from at [] = []
places_from at (b ∷ bs) = at ∷ places_from (at + 1) bs

-- the operation with the blocks that its line names in the place of its function's; the cases of a `switch` have lines of their own
abbrev pub op_of : Op → Op
op_of (Phi blocks) = Phi (places_from 0 blocks)
op_of (Br to) = Br 0
op_of (CondBr first second) = CondBr 0 1
op_of (Switch other cases to) = Switch 0 [] []
op_of op = op

-- the blocks that the line names
abbrev pub line_blocks : Op → List ℕ
line_blocks (Switch other cases to) = other ∷ []
line_blocks op = op_blocks op

-- the name of the result, where there is one
abbrev pub result_of : Bool → Bool → List ℕ → Option (List ℕ)
result_of false false text = Some text
result_of void store text = None

abbrev pub stmt_of : Names → List (List ℕ) → Inst → Stmt
stmt_of ns gs i = record {
  result = result_of (is_void i.ty) (is_store i.op) (shown_text (local_of i.id ns.locals));
  ty = i.ty;
  op = op_of i.op;
  args = map (arg_of ns gs) i.opds;
  labels = map (shown_block ns) (line_blocks i.op);
}

-- the cases of a `switch` on a number of the type
abbrev pub cases_of : Names → Ty → List (Option ℕ) → List ℕ → List Line
cases_of ns ty [] bs = []
cases_of ns ty (n ∷ ms) [] = []
cases_of ns ty (n ∷ ms) (b ∷ bs) = Case (record { ty = ty; lanes = n ∷ [] }) (shown_block ns b) ∷ cases_of ns ty ms bs

abbrev pub first_ty : Names → List Opd → Ty
first_ty ns [] = Void
first_ty ns (o ∷ os) = opd_ty ns o

-- the lines after the first
abbrev pub more_forms : Names → List Opd → Op → List Line
more_forms ns os (Switch other cases to) = cases_of ns (first_ty ns os) cases to ++ CasesEnd ∷ []
more_forms ns os op = []

-- the forms of the lines of an instruction
abbrev pub forms_of : Names → List (List ℕ) → Inst → List Line
forms_of ns gs i = StmtLine (stmt_of ns gs i) ∷ more_forms ns i.opds i.op

-- examples: in a function with the pointer `%p`, the number `%0` and the blocks `a` and `1`, the value `%x` is loaded and switched on
ids : ℕ → Id
ids k = record { region = 0; k = k }

seen : Names
seen = record {
  locals = record { id = ids 0; ty = Ptr; text = codes "p" } ∷ record { id = ids 1; ty = Int 32; text = codes "0" } ∷ record { id = ids 2; ty = Int 32; text = codes "x" } ∷ [];
  labels = codes "a" ∷ codes "1" ∷ [];
}

loads : Inst
loads = record { id = ids 2; name = Some (codes "x"); ty = Int 32; op = Load 4; opds = Val (ids 0) ∷ [] }

load_text : inst_text seen [] loads ≡ codes "  %x = load i32, ptr %p, align 4\n"
unfolding ids seen loads digits
load_text = refl

load_form : forms_of seen [] loads ≡ StmtLine (record { result = Some (codes "x"); ty = Int 32; op = Load 4; args = record { ty = Ptr; opd = Local (codes "p") } ∷ []; labels = [] }) ∷ []
unfolding ids seen loads
load_form = refl

switches : Inst
switches = record { id = ids 3; name = None; ty = Void; op = Switch 0 (Some 255 ∷ []) (1 ∷ []); opds = Val (ids 1) ∷ [] }

switch_text : inst_text seen [] switches ≡ codes "  switch i32 %0, label %a [\n    i32 255, label %1\n  ]\n"
unfolding ids seen switches digits
switch_text = refl

switch_forms : forms_of seen [] switches ≡ StmtLine (record { result = None; ty = Void; op = Switch 0 [] []; args = record { ty = Int 32; opd = Local (codes "0") } ∷ []; labels = codes "a" ∷ [] })
    ∷ Case (record { ty = Int 32; lanes = Some 255 ∷ [] }) (codes "1") ∷ CasesEnd ∷ []
unfolding ids seen switches
switch_forms = refl
