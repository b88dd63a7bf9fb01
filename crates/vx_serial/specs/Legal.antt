-- Which bundles of lanes become one instruction: the first rule that holds of lanes, and else they are widened.
--
-- The lanes of an earlier widened node are used again; lanes that are the elements of one vector in order are that vector. Lanes are packed
-- for the first cause that holds, in the order of `Cause`. What is left is widened.
use Rattle.std.specs.Prelude.{◌≡◌, refl, ℕ, suc, ◌*◌, pos, ◌+ℤ◌, Bool, true, false, not, ◌&&◌, ◌||◌, nat_eq, nat_lt, cond, Option, None, Some, List, [], ◌∷◌, ◌++◌, map, length, option_map, is_none, bytes_eq, codes}
use Rattle.std.specs.List.{list_any, list_all}
use Rattle.vx_num.specs.declared.operations.BinOp.{BinOp}
use Rattle.vx_num.specs.declared.operations.BinOp.TheVariants.{Add, Sub}
use Rattle.vx_num.specs.declared.operations.Flags.{Flags}
use Rattle.vx_num.specs.Keywords.{bin_word, pred_word, cast_word}
use Rattle.ir_types.specs.declared.id.Id.{Id}
use Rattle.ir_types.specs.declared.ty.Ty.{Ty}
use Rattle.ir_types.specs.declared.ty.Ty.TheVariants.{Void, Int, Ptr, Row}
use Rattle.ir_types.specs.declared.ty.Elem.TheVariants.{One}
use Rattle.ir_types.specs.declared.opd.Opd.{Opd}
use Rattle.ir_types.specs.declared.opd.Opd.TheVariants.{Val, Lit, Sym}
use Rattle.ir_types.specs.declared.op.Op.{Op}
use Rattle.ir_types.specs.declared.op.Op.TheVariants.{Bin, Icmp, Cast, Select, Extract, Gep, Load, Store, Ret}
use Rattle.ir_types.specs.declared.inst.Inst.{Inst}
use Rattle.ir_types.specs.declared.func.Param.{Param}
use Rattle.ir_types.specs.declared.module.Item.TheVariants.{Func as FuncItem}
use Rattle.ir_types.specs.declared.module.Module.{Module}
use Rattle.ir_types.specs.Available.{same_id}
use Rattle.ir_types.specs.Typed.{is_scalar, lane_width, same_ty}
use Rattle.ir_types.specs.Formed.{is_phi, is_store, given_ty}
use Rattle.vx_view.specs.Answers.{find, funcs_of, param_of, found, Standing}
use Rattle.vx_view.specs.Addresses.{form_in, value, number, line}
use Rattle.vx_view.specs.Conflicts.{Access, access_of, same_root, same_symbol}
use Rattle.vx_serial.specs.declared.cause.Cause.{Cause}
use Rattle.vx_serial.specs.declared.cause.Cause.TheVariants.{Constants, Outside, Kind, Unlike, Wide, Repeated, Taken, Far, Apart, Cycle}
use Rattle.vx_serial.specs.declared.node.How.{How}
use Rattle.vx_serial.specs.declared.node.How.TheVariants.{Widen, Reuse, Ident, Pack}
use Rattle.vx_serial.specs.declared.node.Node.{Node}
use Rattle.vx_serial.specs.Window.{id, order}
use Rattle.std.specs.Int.{int_wrap}
use Rattle.vx_serial.specs.Near.{looked_at}
use Rattle.vx_serial.specs.Regions.{same_constant}

-- ---- lanes that are had already

abbrev pub same_value : Opd → Opd → Bool
same_value (Val a) (Val b) = same_id a b
same_value _ _ = false

abbrev pub same_lanes : List Opd → List Opd → Bool
same_lanes [] [] = true
same_lanes (x ∷ xs) (y ∷ ys) = same_value x y && same_lanes xs ys
same_lanes _ _ = false

abbrev pub is_widened : How → Bool
is_widened Widen = true
is_widened _ = false

-- the first widened node with these lanes, where the first of the nodes has a number
abbrev pub reused : ℕ → List Opd → List Node → Option ℕ
reused at lanes [] = None
reused at lanes (n ∷ ns) = cond (is_widened n.how && same_lanes n.lanes lanes) (Some at) (reused (suc at) lanes ns)

-- the instruction of a block that a lane is
abbrev pub inst_of : List Inst → Opd → Option Inst
inst_of block (Val v) = find v block
inst_of block _ = None

abbrev pub indexed : Id → List (Option ℕ) → Option (Id × ℕ)
indexed v (Some n ∷ []) = Some (v, n)
indexed v _ = None

-- a vector of which an element is taken, and at which literal index
abbrev pub element_by : Op → List Opd → Option (Id × ℕ)
element_by Extract (Val v ∷ Lit l ∷ []) = indexed v l.lanes
element_by _ _ = None

abbrev pub element_of : Option Inst → Option (Id × ℕ)
element_of None = None
element_of (Some i) = element_by i.op i.opds

abbrev pub is_element : Id → ℕ → Option (Id × ℕ) → Bool
is_element v n None = false
is_element v n (Some e) = same_id v e.0 && nat_eq n e.1

abbrev pub are_elements : List Inst → Id → ℕ → List Opd → Bool
are_elements block v at [] = true
are_elements block v at (o ∷ os) = is_element v at (element_of (inst_of block o)) && are_elements block v (suc at) os

-- ---- types

abbrev pub value_ty : Option Param → Option Standing → Option Ty
value_ty (Some p) s = Some p.ty
value_ty None s = option_map (λ (x : Standing). given_ty x.inst.op x.inst.ty) s

-- the type of an operand in a module
abbrev pub ty_of : Module → Opd → Option Ty
ty_of m (Val v) = value_ty (param_of v (funcs_of m.items)) (found m v)
ty_of m (Lit l) = Some l.ty
ty_of m (Sym g) = Some Ptr

abbrev pub same_tys : List (Option Ty) → List (Option Ty) → Bool
same_tys [] [] = true
same_tys (Some t ∷ ts) (Some u ∷ us) = same_ty t u && same_tys ts us
same_tys _ _ = false

-- the vector of so many lanes whose elements lanes are, in order
abbrev pub of_lanes : ℕ → Option Ty → Bool
of_lanes n (Some (Row k w)) = nat_eq n k
of_lanes n _ = false

abbrev pub vector_of : Option (Id × ℕ) → Option Id
vector_of e = option_map (λ (x : Id × ℕ). x.0) e

abbrev pub whole_vector : Module → List Inst → List Opd → Option Id → Option Id
whole_vector m block lanes None = None
whole_vector m block lanes (Some v) = cond (of_lanes (length lanes) (ty_of m (Val v)) && are_elements block v 0 lanes) (Some v) None

abbrev pub identity : Module → List Inst → List Opd → Option Id
identity m block [] = None
identity m block (o ∷ os) = whole_vector m block (o ∷ os) (vector_of (element_of (inst_of block o)))

-- ---- what packs lanes

abbrev pub is_literal : Opd → Bool
is_literal (Lit l) = true
is_literal _ = false

abbrev pub is_there : Option Inst → Bool
is_there None = false
is_there (Some i) = not (is_phi i.op)

-- the instructions that lanes are
abbrev pub with_lane : Option Inst → List Inst → List Inst
with_lane None is = is
with_lane (Some i) is = i ∷ is

abbrev pub insts_of : List Inst → List Opd → List Inst
insts_of block [] = []
insts_of block (o ∷ os) = with_lane (inst_of block o) (insts_of block os)

abbrev pub is_kind : Op → Bool
is_kind (Bin op flags) = true
is_kind (Icmp pred) = true
is_kind (Cast op nneg) = true
is_kind Select = true
is_kind (Load align) = true
is_kind _ = false

-- a store where no node is there yet, and elsewhere a binary operation, comparison, conversion, choice or load that gives an integer
abbrev pub may_widen : Bool → Inst → Bool
may_widen true i = is_store i.op
may_widen false i = is_kind i.op && is_scalar i.ty

-- one operation, and of comparisons one predicate; flags and aligns may differ
abbrev pub same_op : Op → Op → Bool
same_op (Bin a f) (Bin b g) = bytes_eq (bin_word a) (bin_word b)
same_op (Icmp p) (Icmp q) = bytes_eq (pred_word p) (pred_word q)
same_op (Cast a n) (Cast b k) = bytes_eq (cast_word a) (cast_word b)
same_op Select Select = true
same_op (Load a) (Load b) = true
same_op (Store a) (Store b) = true
same_op _ _ = false

abbrev pub is_like : Module → Inst → Inst → Bool
is_like m a b = same_op a.op b.op && same_ty a.ty b.ty && same_tys (map (ty_of m) a.opds) (map (ty_of m) b.opds)

-- all are like the first
abbrev pub are_like : Module → List Inst → Bool
are_like m [] = true
are_like m (i ∷ is) = list_all (is_like m i) is

-- a vector of so many lanes of a type has more than 512 bits; a pointer stays one
abbrev pub is_too_wide : ℕ → Option Ty → Bool
is_too_wide n None = false
is_too_wide n (Some t) = nat_lt 512 (n * lane_width t)

abbrev pub is_wide : Module → ℕ → Inst → Bool
is_wide m n i = is_too_wide n (Some i.ty) || list_any (λ o. is_too_wide n (ty_of m o)) i.opds

abbrev pub is_among : List Inst → Inst → Bool
is_among is i = list_any (λ (j : Inst). same_id j.id i.id) is

abbrev pub are_repeated : List Inst → Bool
are_repeated [] = false
are_repeated (i ∷ is) = is_among is i || are_repeated is

-- a widened node has the lane
abbrev pub is_taken : List Node → Opd → Bool
is_taken tree o = list_any (λ (n : Node). is_widened n.how && list_any (same_value o) n.lanes) tree

-- the second access begins where the first ends, past one root and one symbol
abbrev pub is_next : List Inst → Option Access → Option Access → Bool
is_next block (Some a) (Some b) =
    same_root (form_in block a.pointer).root (form_in block b.pointer).root
    && same_symbol (form_in block a.pointer).offset.symbol (form_in block b.pointer).offset.symbol
    && same_constant (form_in block b.pointer).offset.constant ((form_in block a.pointer).offset.constant +ℤ pos a.size)
is_next block None None = true
is_next block _ _ = false

abbrev pub are_in_a_row : List Inst → List Inst → Bool
are_in_a_row block [] = true
are_in_a_row block (i ∷ []) = true
are_in_a_row block (i ∷ j ∷ is) = is_next block (access_of i) (access_of j) && are_in_a_row block (j ∷ is)

abbrev pub ids_of : List Inst → List Id
ids_of is = map (λ (i : Inst). i.id) is

-- the bundles of the widened nodes
abbrev pub bundles_of : List Inst → List Node → List (List Id)
bundles_of block [] = []
bundles_of block (n ∷ ns) = cond (is_widened n.how) (ids_of (insts_of block n.lanes) ∷ bundles_of block ns) (bundles_of block ns)

-- ---- the first rule that holds

abbrev pub first_cause : List (Bool × Cause) → Option Cause
first_cause [] = None
first_cause (r ∷ rs) = cond r.0 (Some r.1) (first_cause rs)

abbrev pub is_root : List Node → Bool
is_root [] = true
is_root _ = false

-- what packs lanes that stand in a block, where a region's last store is `last` and these nodes stand already; but for the order of bundles
abbrev pub early_causes : Module → List Inst → Id → List Node → List Opd → List Inst → List (Bool × Cause)
early_causes m block last tree lanes is =
    (list_all is_literal lanes, Constants)
    ∷ (not (list_all (λ o. is_there (inst_of block o)) lanes), Outside)
    ∷ (not (list_all (may_widen (is_root tree)) is), Kind)
    ∷ (not (are_like m is), Unlike)
    ∷ (list_any (is_wide m (length lanes)) is, Wide)
    ∷ (are_repeated is, Repeated)
    ∷ (list_any (is_taken tree) lanes, Taken)
    ∷ (not (list_all (is_among (looked_at block last)) is), Far)
    ∷ (not (are_in_a_row block is), Apart) ∷ []

-- the bundles so far and this one have no order
abbrev pub has_cycle : Module → List Inst → Id → List Node → List Inst → Bool
has_cycle m block last tree is = is_none (order m block last (bundles_of block tree ++ ids_of is ∷ []))

abbrev pub causes : Module → List Inst → Id → List Node → List Opd → List Inst → List (Bool × Cause)
causes m block last tree lanes is = early_causes m block last tree lanes is ++ (has_cycle m block last tree is, Cycle) ∷ []

abbrev pub packed : Option Cause → How
packed None = Widen
packed (Some c) = Pack c

abbrev pub or_else : Option How → How → How
or_else None other = other
or_else (Some how) other = how

-- how lanes are had, in a block of a module
abbrev pub legal : Module → List Inst → Id → List Node → List Opd → How
legal m block last tree lanes =
    or_else (option_map Reuse (reused 0 lanes tree))
    (or_else (option_map Ident (identity m block lanes))
    (packed (first_cause (causes m block last tree lanes (insts_of block lanes)))))

-- ---- worked examples

abbrev plain : Flags
plain = record { nuw = false; nsw = false; exact = false; disjoint = false }

abbrev sum : ℕ → BinOp → ℕ → ℕ → Inst
sum k op a b = line k (Int 32) (Bin op plain) (value a ∷ value b ∷ [])

-- %2 = add %0, %1;  %3 = sub of a value and %1;  %4 = add %1, %0;  stores of %2 through %8 and of %4 through a pointer 4 bytes past it
abbrev pub sums_of : ℕ → List Inst
sums_of a =
    sum 2 Add 0 1 ∷ sum 3 Sub a 1 ∷ sum 4 Add 1 0 ∷ line 5 Ptr (Gep (One (Int 8)) false) (value 8 ∷ number 4 ∷ [])
    ∷ line 6 (Int 32) (Store 4) (value 2 ∷ value 8 ∷ []) ∷ line 7 (Int 32) (Store 4) (value 4 ∷ value 5 ∷ []) ∷ line 9 Void Ret [] ∷ []

abbrev sums : List Inst
sums = sums_of 0

abbrev param : ℕ → Ty → Param
param k t = record { id = id k; name = None; ty = t; attrs = []; noalias = false }

-- a function of one block
abbrev pub adding : List Inst → Module
adding insts = record {
  items = FuncItem (record {
    before = [];
    ret = Void;
    name = codes "f";
    params = param 0 (Int 32) ∷ param 1 (Int 32) ∷ param 8 Ptr ∷ [];
    after = [];
    blocks = record { name = None; insts = insts } ∷ [];
  }) ∷ [];
  globals = [];
  big_endian_line = None;
}

abbrev stored : Node
stored = record { lanes = value 6 ∷ value 7 ∷ []; how = Widen; slots = [] }

abbrev had : List Node → ℕ → ℕ → How
had tree a b = legal (adding sums) sums (id 7) tree (value a ∷ value b ∷ [])

-- the two stores are widened, and then the two sums of which they store
stores_first : had [] 6 7 ≡ Widen
unfolding int_wrap
stores_first = refl

then_sums : had (stored ∷ []) 2 4 ≡ Widen
unfolding int_wrap
then_sums = refl

-- a sum and a difference, one sum twice, a parameter, two numbers, and the stores once more
unlike : had (stored ∷ []) 2 3 ≡ Pack Unlike
unlike = refl

repeated : had (stored ∷ []) 2 2 ≡ Pack Repeated
repeated = refl

outside : had (stored ∷ []) 2 0 ≡ Pack Outside
outside = refl

constants : legal (adding sums) sums (id 7) (stored ∷ []) (number 1 ∷ number 2 ∷ []) ≡ Pack Constants
constants = refl

again : had (stored ∷ []) 6 7 ≡ Reuse 0
again = refl

-- a store is no lane of anything but stores, and stores come one after another
no_store : had (stored ∷ []) 7 6 ≡ Pack Kind
no_store = refl

backwards : had [] 7 6 ≡ Pack Apart
unfolding int_wrap
backwards = refl
