-- Worked runs: two stores, an undefined run, a run that is cut, and two modules of which one may not stand for the other.
use Rattle.std.specs.Prelude.{◌≡◌, refl, ℕ, ◌<◌, zero, suc, pos, false, Option, None, Some, List, [], ◌∷◌, replicate, codes}
use Rattle.std.specs.Int.{int_wrap}
use Rattle.std.proofs.Common.{subst, inl, inr, lit<}
use Rattle.std.proofs.Math.Dec.{lit≤}
use Rattle.std.proofs.Math.Facts.{sfits_lit}
use Rattle.std.proofs.lemmas.List.Elements.{All-nil, All-cons, All-replicate}
use Rattle.vx_num.specs.Width.{IsLane}
use Rattle.ir_types.specs.declared.id.Id.{Id}
use Rattle.ir_types.specs.declared.ty.Ty.{Ty}
use Rattle.ir_types.specs.declared.ty.Ty.TheVariants.{Void, Int, Ptr}
use Rattle.ir_types.specs.declared.ty.Elem.TheVariants.{One}
use Rattle.ir_types.specs.declared.opd.Opd.{Opd}
use Rattle.ir_types.specs.declared.opd.Opd.TheVariants.{Val, Lit}
use Rattle.ir_types.specs.declared.call_site.CallSite.{CallSite}
use Rattle.ir_types.specs.declared.op.Op.{Op}
use Rattle.ir_types.specs.declared.op.Op.TheVariants.{Gep, Store, Ret, Call}
use Rattle.ir_types.specs.declared.inst.Inst.{Inst}
use Rattle.ir_types.specs.declared.func.Func.{Func}
use Rattle.ir_types.specs.declared.module.Item.TheVariants.{Func as FuncItem}
use Rattle.ir_types.specs.declared.module.Module.{Module}
use Rattle.ir_model.specs.declared.value.Value.TheVariants.{Lane as LaneValue, Ptr as PtrValue}
use Rattle.ir_model.specs.declared.outcome.Outcome.TheVariants.{Returned, Undefined, Cut}
use Rattle.ir_model.specs.Values.{Lane, Env, with_value}
use Rattle.ir_model.specs.Memory.{Memory}
use Rattle.ir_model.specs.Step.{On, Halts, Calls, step}
use Rattle.ir_model.specs.Run.{run_of}
use Rattle.ir_model.specs.Fits.{ObjectFits, Fits}
use Rattle.ir_model.specs.Shapes.{IsShaped}
use Rattle.ir_model.specs.Causes.{IsUndefinedFor}
use Rattle.ir_model.specs.Refines.{ModuleRefines}

abbrev pub id : ℕ → Id
id k = record { region = 0; k = k }

abbrev pub inst : ℕ → Option (List ℕ) → Ty → Op → List Opd → Inst
inst k name ty op opds = record { id = id k; name = name; ty = ty; op = op; opds = opds }

abbrev pub number : ℕ → ℕ → Opd
number w n = Lit (record { ty = Int w; lanes = Some n ∷ [] })

-- define void @b(ptr %p) {
--   %q = getelementptr i8, ptr %p, i64 4
--   store i32 7, ptr %p, align 4
--   store i32 8, ptr %q, align 4
--   ret void
-- }
abbrev pub two_stores : List Inst
two_stores =
    inst 1 (Some (codes "q")) Ptr (Gep (One (Int 8)) false) (Val (id 0) ∷ number 64 4 ∷ [])
    ∷ inst 2 None (Int 32) (Store 4) (number 32 7 ∷ Val (id 0) ∷ [])
    ∷ inst 3 None (Int 32) (Store 4) (number 32 8 ∷ Val (id 1) ∷ [])
    ∷ inst 4 None Void Ret [] ∷ []

abbrev pub func_b : List Inst → Func
func_b insts = record {
  before = [];
  ret = Void;
  name = codes "b";
  after = [];
  params = record { id = id 0; name = Some (codes "p"); ty = Ptr; attrs = []; noalias = false } ∷ [];
  blocks = record { name = None; insts = insts } ∷ [];
}

abbrev pub module_b : List Inst → Module
module_b insts = record { items = FuncItem (func_b insts) ∷ []; globals = []; big_endian_line = None }

abbrev poison_bytes : List Lane
poison_bytes = None ∷ None ∷ None ∷ None ∷ []

-- on an object of eight poison bytes both numbers are stored
run_of_two_stores : run_of (module_b two_stores) 0 (PtrValue (Some (0, pos 0)) ∷ []) ((None ∷ None ∷ None ∷ None ∷ poison_bytes) ∷ []) 1
    ≡ Returned None ((Some 7 ∷ Some 0 ∷ Some 0 ∷ Some 0 ∷ Some 8 ∷ Some 0 ∷ Some 0 ∷ Some 0 ∷ []) ∷ [])
unfolding int_wrap
run_of_two_stores = refl

-- on an object of four bytes the second store has no room
run_without_room : run_of (module_b two_stores) 0 (PtrValue (Some (0, pos 0)) ∷ []) (poison_bytes ∷ []) 1 ≡ Undefined
unfolding int_wrap
run_without_room = refl

-- and that is the cause: the first two instructions step, and the third stores 4 bytes at offset 4 of 4 bytes
why_without_room : IsUndefinedFor (module_b two_stores) (func_b two_stores) (PtrValue (Some (0, pos 0)) ∷ []) (poison_bytes ∷ []) 1
unfolding int_wrap
why_without_room = inr (inl (inl (inr (inr (inl (Some 7 ∷ Some 0 ∷ Some 0 ∷ Some 0 ∷ [], refl, inl (lit< tt)))))))

-- no store goes through poison
run_of_poison : run_of (module_b two_stores) 0 (PtrValue None ∷ []) (poison_bytes ∷ []) 1 ≡ Undefined
unfolding int_wrap
run_of_poison = refl

-- at bound 0 no block runs
run_of_bound_0 : run_of (module_b two_stores) 0 (PtrValue (Some (0, pos 0)) ∷ []) (poison_bytes ∷ []) 0 ≡ Cut (poison_bytes ∷ [])
run_of_bound_0 = refl

-- ---- two modules that do not refine

-- the pointer to the start of an object of eight poison bytes fits
abbrev eight_bytes : Memory
eight_bytes = replicate 8 None ∷ []

fits_b : Fits (module_b two_stores) (func_b two_stores) (PtrValue (Some (0, pos 0)) ∷ []) eight_bytes
fits_b = record {
  typed = ((lit≤ tt, sfits_lit tt), tt);
  objects = All-cons ObjectFits (replicate 8 None) [] (lit≤ tt, All-replicate (IsLane 8) 8 None tt) (All-nil ObjectFits);
  globals = lit≤ tt;
}

abbrev only_second : List Inst
only_second =
    inst 1 (Some (codes "q")) Ptr (Gep (One (Int 8)) false) (Val (id 0) ∷ number 64 4 ∷ [])
    ∷ inst 3 None (Int 32) (Store 4) (number 32 8 ∷ Val (id 1) ∷ [])
    ∷ inst 4 None Void Ret [] ∷ []

abbrev IsNone : Option ℕ → Type 0
IsNone None = Unit {0}
IsNone (Some n) = ⊥

-- without its first store a byte stays poison that is 7 in the run of both, and a number may not become poison
lost_store : ModuleRefines (module_b only_second) (module_b two_stores) → ⊥
unfolding int_wrap
lost_store r = subst IsNone (r.runs 0 (func_b two_stores) refl (PtrValue (Some (0, pos 0)) ∷ []) eight_bytes fits_b 1).1.0.0 tt

-- ---- a call

-- calls that take one of the bound and give 5
abbrev five : Calls
five callee vs m zero = Halts m
five callee vs m (suc left) = On (record { result = Some (LaneValue (Some 5)); memory = m; left = left })

-- %r = call i32 @f()
abbrev call_f : Inst
call_f = inst 1 (Some (codes "r")) (Int 32) (Call (record { tail = []; pre = []; callee = (codes "f"); attrs = []; post = [] })) []

abbrev nowhere : Env
nowhere x = PtrValue None

-- the result is the value of the id, and the bound is what the call left
step_of_call : step (λ x. Void) five call_f (record { state = record { env = nowhere; memory = [] }; left = 3 })
    ≡ On (record { state = record { env = with_value nowhere (id 1) (LaneValue (Some 5)); memory = [] }; left = 2 })
step_of_call = refl

-- where no block is left the call is cut, and the function with it
step_of_cut_call : step (λ x. Void) five call_f (record { state = record { env = nowhere; memory = poison_bytes ∷ [] }; left = 0 }) ≡ Halts (poison_bytes ∷ [])
step_of_cut_call = refl

-- as long as calls are not read a call is undefined
run_of_call : run_of (module_b (call_f ∷ [])) 0 (PtrValue None ∷ []) [] 9 ≡ Undefined
run_of_call = refl

-- ---- shapes

-- `%p` is a pointer: where it has a number, what stands is not of its shape
no_number_for_p : IsShaped (module_b two_stores) (func_b two_stores) (0 ∷ []) 0 (record { env = λ x. LaneValue (Some 4); memory = eight_bytes }) → ⊥
no_number_for_p z = z.values (id 0) Ptr refl refl refl

-- before its instruction `%q` may have any value; where it has run, it names an object that is there
q_names_an_object : IsShaped (module_b two_stores) (func_b two_stores) (0 ∷ []) 1 (record { env = λ x. PtrValue (Some (0, pos 4)); memory = [] }) → 0 < 0
q_names_an_object z = (z.values (id 1) Ptr refl refl refl).0
