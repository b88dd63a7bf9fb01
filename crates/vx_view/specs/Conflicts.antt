-- Which instructions of a block must keep their order: those that conflict in memory, and those that depend on each other.
--
-- Two accesses are apart where their addresses have one root and one symbol and lie far enough from each other, or where their roots
-- differ and are of kinds that never meet. A call may be cut or may end the run, and reads and writes what it likes: it keeps its order with
-- every load, store, alloca, call and division. (Language Reference, "Pointer Aliasing Rules", "noalias".)
use Rattle.std.specs.Prelude.{◌≡◌, refl, ℕ, ℤ, pos, neg_ℤ, ◌-ℤ◌, ◌*◌, ◌/◌, Bool, true, false, not, ◌&&◌, ◌||◌, nat_eq, int_le, cond, Option, None, Some, List, [], ◌∷◌}
use Rattle.std.specs.Int.{w64, int_wrap}
use Rattle.std.specs.List.{list_any}
use Rattle.vx_num.specs.declared.operations.BinOp.{BinOp}
use Rattle.vx_num.specs.declared.operations.BinOp.TheVariants.{Udiv, Sdiv, Urem, Srem}
use Rattle.ir_types.specs.declared.id.Id.{Id}
use Rattle.ir_types.specs.declared.ty.Ty.{Ty}
use Rattle.ir_types.specs.declared.ty.Ty.TheVariants.{Void, Int, Ptr, Row}
use Rattle.ir_types.specs.declared.ty.Elem.TheVariants.{One}
use Rattle.ir_types.specs.declared.opd.Opd.{Opd}
use Rattle.ir_types.specs.declared.opd.Opd.TheVariants.{Val, Lit, Sym}
use Rattle.ir_types.specs.declared.op.Op.{Op}
use Rattle.ir_types.specs.declared.op.Op.TheVariants.{Bin, Gep, Load, Store, Alloca, Call}
use Rattle.ir_types.specs.declared.inst.Inst.{Inst}
use Rattle.ir_types.specs.declared.func.Param.{Param}
use Rattle.ir_types.specs.declared.module.Item.TheVariants.{Func as FuncItem}
use Rattle.ir_types.specs.declared.module.Module.{Module}
use Rattle.ir_types.specs.Available.{same_id}
use Rattle.ir_types.specs.Formed.{is_alloca}
use Rattle.vx_view.specs.Answers.{funcs_of, param_of, found, Standing, is_value}
use Rattle.vx_view.specs.Addresses.{Symbol, Form, form_in, value, number, line}

-- ---- accesses

-- a load or a store: through which pointer, of how many bytes, and whether it writes
pub record Access : Type 0 where
  pub pointer : Opd
  pub size : ℕ
  pub writes : Bool

abbrev pub bytes_of : Ty → ℕ
bytes_of (Int w) = w / 8
bytes_of (Row n w) = n * (w / 8)
bytes_of _ = 0

abbrev pub access_by : Op → Ty → List Opd → Option Access
access_by (Load align) t (p ∷ []) = Some (record { pointer = p; size = bytes_of t; writes = false })
access_by (Store align) t (v ∷ p ∷ []) = Some (record { pointer = p; size = bytes_of t; writes = true })
access_by _ t os = None

abbrev pub access_of : Inst → Option Access
access_of i = access_by i.op i.ty i.opds

-- ---- roots

-- what is known of where a root points
pub data Kind : Type 0 where
  Allocated : Kind
  Global : Kind
  Alone : Kind
  Argument : Kind
  Unknown : Kind

abbrev pub param_kind : Ty → Bool → Kind
param_kind Ptr true = Alone
param_kind Ptr false = Argument
param_kind _ noalias = Unknown

abbrev pub inst_kind : Option Standing → Kind
inst_kind None = Unknown
inst_kind (Some s) = cond (is_alloca s.inst.op) Allocated Unknown

abbrev pub value_kind : Option Param → Option Standing → Kind
value_kind (Some p) s = param_kind p.ty p.noalias
value_kind None s = inst_kind s

-- an alloca of any block, a global, a `noalias` pointer parameter, another pointer parameter, or none of these
abbrev pub kind_of : Module → Opd → Kind
kind_of m (Sym g) = Global
kind_of m (Val id) = value_kind (param_of id (funcs_of m.items)) (found m id)
kind_of m (Lit l) = Unknown

-- two roots that differ and are of these kinds never meet
abbrev pub never_meet : Kind → Kind → Bool
never_meet Allocated Allocated = true
never_meet Allocated Global = true
never_meet Global Allocated = true
never_meet Global Global = true
never_meet Allocated Alone = true
never_meet Alone Allocated = true
never_meet Allocated Argument = true
never_meet Argument Allocated = true
never_meet Alone Alone = true
never_meet Alone Argument = true
never_meet Argument Alone = true
never_meet Alone Global = true
never_meet Global Alone = true
never_meet _ _ = false

-- one value, one global, or poison
abbrev pub same_root : Opd → Opd → Bool
same_root (Val a) (Val b) = same_id a b
same_root (Sym a) (Sym b) = nat_eq a b
same_root (Lit a) (Lit b) = true
same_root _ _ = false

abbrev pub same_symbol : Option Symbol → Option Symbol → Bool
same_symbol None None = true
same_symbol (Some a) (Some b) = same_id a.0 b.0 && nat_eq a.1 b.1
same_symbol _ _ = false

-- ---- apart

-- the second begins where the first ends or later, or ends where the first begins or earlier, by the distance on 64 bits
abbrev pub is_past : ℕ → ℕ → ℤ → Bool
is_past first second distance = int_le (pos first) distance || int_le distance (neg_ℤ (pos second))

abbrev pub is_apart : Module → Form → ℕ → Form → ℕ → Bool
is_apart m a first b second =
    cond (same_root a.root b.root)
    (same_symbol a.offset.symbol b.offset.symbol && is_past first second (int_wrap w64 (b.offset.constant -ℤ a.offset.constant)))
    (never_meet (kind_of m a.root) (kind_of m b.root))

-- ---- conflicts

abbrev pub meet : Module → List Inst → Option Access → Option Access → Bool
meet m block (Some a) (Some b) = (a.writes || b.writes) && not (is_apart m (form_in block a.pointer) a.size (form_in block b.pointer) b.size)
meet m block _ _ = false

abbrev pub is_division : BinOp → Bool
is_division Udiv = true
is_division Sdiv = true
is_division Urem = true
is_division Srem = true
is_division _ = false

abbrev pub is_call : Op → Bool
is_call (Call site) = true
is_call _ = false

-- what keeps its order with calls
abbrev pub minds_calls : Op → Bool
minds_calls (Load align) = true
minds_calls (Store align) = true
minds_calls (Alloca elem align) = true
minds_calls (Call site) = true
minds_calls (Bin op flags) = is_division op
minds_calls _ = false

-- two instructions of a block conflict: a call with what minds it, or two accesses of which one writes and that are not apart
abbrev pub conflict_in : Module → List Inst → Inst → Inst → Bool
conflict_in m block i j =
    is_call i.op && minds_calls j.op || is_call j.op && minds_calls i.op || meet m block (access_of i) (access_of j)

abbrev pub conflict_at : Module → Option Standing → Option Standing → Bool
conflict_at m (Some i) (Some j) = conflict_in m i.block i.inst j.inst
conflict_at m _ _ = false

-- whether two instructions of one block, by their ids, conflict
abbrev pub conflict : Module → Id → Id → Bool
conflict m i j = conflict_at m (found m i) (found m j)

-- a later instruction of a block depends on an earlier one: it uses its result, conflicts with it, or both are allocas
abbrev pub depends : Module → List Inst → Inst → Inst → Bool
depends m block later earlier =
    list_any (is_value earlier.id) later.opds || conflict_in m block earlier later || is_alloca earlier.op && is_alloca later.op

-- ---- worked examples: stores of 32 bits to %0 and 4 bytes after it, and a load from %1

abbrev param : ℕ → Bool → Param
param k noalias = record { id = record { region = 0; k = k }; name = None; ty = Ptr; attrs = []; noalias = noalias }

abbrev store : ℕ → Opd → Inst
store k p = line k (Int 32) (Store 4) (number 7 ∷ p ∷ [])

abbrev block : List Inst
block =
    line 2 Ptr (Gep (One (Int 8)) false) (value 0 ∷ number 4 ∷ [])
    ∷ store 3 (value 0) ∷ store 4 (value 2) ∷ line 5 (Int 32) (Load 4) (value 1 ∷ [])
    ∷ line 6 Ptr (Gep (One (Int 8)) false) (value 0 ∷ number 4294967300 ∷ []) ∷ line 7 (Int 32) (Load 4) (value 6 ∷ []) ∷ []

abbrev two_pointers : Bool → Module
two_pointers noalias = record {
  items = FuncItem (record {
    before = [];
    ret = Void;
    name = [];
    params = param 0 noalias ∷ param 1 false ∷ [];
    after = [];
    blocks = record { name = None; insts = block } ∷ [];
  }) ∷ [];
  globals = [];
  big_endian_line = None;
}

abbrev id : ℕ → Id
id k = record { region = 0; k = k }

-- they touch and do not overlap
neighbours : conflict (two_pointers false) (id 3) (id 4) ≡ false
unfolding int_wrap
neighbours = refl

with_noalias : conflict (two_pointers true) (id 3) (id 5) ≡ false
with_noalias = refl

without_noalias : conflict (two_pointers false) (id 3) (id 5) ≡ true
without_noalias = refl

-- 2^32 + 4 bytes apart are not 4 bytes apart
far_away : conflict (two_pointers false) (id 4) (id 7) ≡ false
unfolding int_wrap
far_away = refl

-- a division does not pass a call
abbrev some_call : Inst
some_call = line 8 Void (Call (record { tail = []; pre = []; callee = []; attrs = []; post = [] })) []

abbrev some_division : Inst
some_division = line 9 (Int 32) (Bin Udiv (record { nuw = false; nsw = false; exact = false; disjoint = false })) (number 6 ∷ number 3 ∷ [])

division_after_a_call : depends (two_pointers false) block some_division some_call ≡ true
division_after_a_call = refl
