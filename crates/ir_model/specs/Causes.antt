-- Why a run is undefined: the causes of undefined behaviour, each at the instruction that has it.
--
-- `IsCause` has what makes an instruction undefined at the values of its operands; `Meets` says that a run comes to such an
-- instruction, and goes along the run as `Run` does. In a formed module, from arguments that fit, a run is undefined for such a
-- cause, or because two `noalias` objects meet at the start, and for nothing else. (Language Reference, "Undefined Behavior".)
use Rattle.std.specs.Prelude.{◌≡◌, refl, ℕ, zero, suc, ℤ, pos, negsuc, ◌+◌, ◌%◌, ◌<◌, ◌⊎◌, true, false, Option, None, Some, List, [], ◌∷◌, length, map, slice_get, ⊤}
use Rattle.std.proofs.Common.{inl, lit<}
use Rattle.vx_num.specs.declared.operations.BinOp.{BinOp}
use Rattle.vx_num.specs.declared.operations.BinOp.TheVariants.{Udiv, Sdiv}
use Rattle.vx_num.specs.Bin.{is_undefined}
use Rattle.ir_types.specs.declared.id.Id.{Id}
use Rattle.ir_types.specs.declared.ty.Ty.{Ty}
use Rattle.ir_types.specs.declared.ty.Ty.TheVariants.{Int, Row}
use Rattle.ir_types.specs.declared.op.Op.{Op}
use Rattle.ir_types.specs.declared.op.Op.TheVariants.{Bin, Load, Store, CondBr, Switch, Unreachable, Call}
use Rattle.ir_types.specs.declared.inst.Inst.{Inst}
use Rattle.ir_types.specs.declared.func.Block.{Block}
use Rattle.ir_types.specs.declared.func.Func.{Func}
use Rattle.ir_types.specs.declared.module.Module.{Module}
use Rattle.ir_types.specs.Formed.{IsFormed}
use Rattle.ir_model.specs.declared.value.Value.{Value}
use Rattle.ir_model.specs.declared.value.Value.TheVariants.{Lane as LaneValue, Row as RowValue}
use Rattle.ir_model.specs.declared.outcome.Outcome.TheVariants.{Undefined}
use Rattle.ir_model.specs.Values.{Lane, Pointer, Env, pointer_of, value_of}
use Rattle.ir_model.specs.Memory.{Object, Memory}
use Rattle.ir_model.specs.Sizes.{size_of}
use Rattle.ir_model.specs.Operations.{low}
use Rattle.ir_model.specs.Step.{State, Went, Lost, On, Reached, Calls, step}
use Rattle.ir_model.specs.Run.{Exit, To, arm_of, with_phi, reached_if, run_block, types_of, start_env, noalias_holds, Ties, no_calls, runs, functions_of, run_of}
use Rattle.ir_model.specs.Fits.{Fits}

-- ---- divisions

-- a division by poison or zero, or one without a result: of the least number or poison by -1
abbrev pub HasNoQuotient : BinOp → ℕ → Lane → Lane → Type 0
HasNoQuotient op w a b = is_undefined op w (low w a) (low w b) ≡ true

-- lanes in one place have no quotient
abbrev pub DividesBadly : BinOp → Ty → List Value → Type 0
DividesBadly op (Int w) (LaneValue a ∷ LaneValue b ∷ []) = HasNoQuotient op w a b
DividesBadly op (Row n w) (RowValue xs ∷ RowValue ys ∷ []) =
    (k : ℕ) × (a : Lane) × (b : Lane) × (slice_get xs k ≡ Some a) × (slice_get ys k ≡ Some b) × HasNoQuotient op w a b
DividesBadly op _ _ = ⊥

-- ---- loads and stores

abbrev pub IsOutside : ℤ → ℕ → ℕ → Type 0
IsOutside (pos at) size len = len < at + size
IsOutside (negsuc _) size len = ⊤

abbrev pub IsMisaligned : ℤ → ℕ → Type 0
IsMisaligned (pos at) align = at % align ≡ 0 → ⊥
IsMisaligned (negsuc _) align = ⊥

-- an access of so many bytes through poison, out of its object, or at an offset that is no multiple of the align
abbrev pub IsBadAccess : ℕ → ℕ → Pointer → Memory → Type 0
IsBadAccess size align None m = ⊤
IsBadAccess size align (Some p) m = (object : Object) × (slice_get m p.0 ≡ Some object) × (IsOutside p.1 size (length object) ⊎ IsMisaligned p.1 align)

-- ---- instructions

-- why an instruction is undefined: its operation and type, the values of its operands, the memory and the bound that is left
abbrev pub IsCause : Calls → Op → Ty → List Value → Memory → ℕ → Type 0
IsCause calls (Bin op flags) t vs m left = DividesBadly op t vs
IsCause calls (Load align) t (p ∷ []) m left = IsBadAccess (size_of t) align (pointer_of p) m
IsCause calls (Store align) t (v ∷ p ∷ []) m left = IsBadAccess (size_of t) align (pointer_of p) m
IsCause calls Unreachable t vs m left = ⊤
IsCause calls (CondBr first second) t (LaneValue None ∷ []) m left = ⊤
IsCause calls (Switch other cases to) t (LaneValue None ∷ []) m left = ⊤
IsCause calls (Call site) t vs m left = calls site.callee vs m left ≡ Lost
IsCause calls _ t vs m left = ⊥

-- ---- runs

-- a part of a run came to something of which P holds
abbrev pub CameTo : {A : Type 0} → (A → Type 0) → Went A → Type 0
CameTo P (On a) = P a
CameTo P _ = ⊥

-- one of the instructions is undefined for a cause, or the first steps and one of the others is
abbrev pub MeetsInsts : (Id → Ty) → Calls → List Inst → Reached → Type 0
MeetsInsts types calls [] r = ⊥
MeetsInsts types calls (i ∷ is) r =
    IsCause calls i.op i.ty (map (value_of r.state.env) i.opds) r.state.memory r.left ⊎ CameTo (MeetsInsts types calls is) (step types calls i r)

-- the same of a block that is entered: no phi has a cause
abbrev pub MeetsFrom : (Id → Ty) → Calls → Option ℕ → Env → List Inst → Reached → Type 0
MeetsFrom types calls from edge [] r = ⊥
MeetsFrom types calls from edge (i ∷ is) r =
    MeetsInsts types calls (i ∷ is) r
    ⊎ CameTo (MeetsFrom types calls from edge is) (reached_if r.left (with_phi edge i.id r.state (arm_of from i.op i.opds)))

abbrev pub MeetsBlock : (Id → Ty) → Calls → Option ℕ → Reached → Option Block → Type 0
MeetsBlock types calls from r None = ⊥
MeetsBlock types calls from r (Some b) = MeetsFrom types calls from r.state.env b.insts r

abbrev pub MeetsNext : (ℕ → Reached → Type 0) → Exit → Type 0
MeetsNext next (To to r) = next to r
MeetsNext next _ = ⊥

-- in the block at a place, or from the block to which it goes on
abbrev pub MeetsAt : Calls → (ℕ → Reached → Type 0) → Func → Option ℕ → ℕ → State → ℕ → Type 0
MeetsAt calls next f from at s zero = ⊥
MeetsAt calls next f from at s (suc left) =
    MeetsBlock (types_of f) calls from (record { state = s; left = left }) (slice_get f.blocks at)
    ⊎ CameTo (MeetsNext next) (run_block (types_of f) calls from (record { state = s; left = left }) (slice_get f.blocks at))

-- a run of a function from a block on comes to an instruction that is undefined for a cause
abbrev pub Meets : Ties → ℕ → Func → Option ℕ → ℕ → Reached → Type 0
Meets tie zero f from at r = ⊥
Meets tie (suc fuel) f from at r =
    MeetsAt (tie (runs tie fuel)) (λ to q. Meets tie fuel f (Some at) to q) f from at r.state r.left

-- why a function is undefined: two `noalias` objects meet at the start, or its run comes to a cause
abbrev pub IsUndefinedFor : Module → Func → List Value → Memory → ℕ → Type 0
IsUndefinedFor m f args memory bound =
    (noalias_holds (length m.globals) [] f.params args ≡ false)
    ⊎ Meets no_calls bound f None 0 (record { state = record { env = start_env f.params args; memory = memory }; left = bound })

-- in a formed module, from arguments that fit, a run is undefined for a cause alone
abbrev pub UndefinedHasCauses : Type 0
UndefinedHasCauses =
    (m : Module) → IsFormed m → (func : ℕ) (f : Func) → slice_get (functions_of m.items) func ≡ Some f → (args : List Value) (memory : Memory) →
    Fits m f args memory → (bound : ℕ) → run_of m func args memory bound ≡ Undefined → IsUndefinedFor m f args memory bound

-- ---- worked examples

by_zero : DividesBadly Udiv (Int 8) (LaneValue (Some 6) ∷ LaneValue (Some 0) ∷ [])
by_zero = refl

-- the second lanes have no quotient
by_a_poison_lane : DividesBadly Sdiv (Row 2 8) (RowValue (Some 6 ∷ Some 7 ∷ []) ∷ RowValue (Some 3 ∷ None ∷ []) ∷ [])
by_a_poison_lane = (1, Some 7, None, refl, refl, refl)

no_room : IsBadAccess 4 1 (Some (0, pos 1)) ((None ∷ None ∷ None ∷ None ∷ []) ∷ [])
no_room = (None ∷ None ∷ None ∷ None ∷ [], refl, inl (lit< tt))
