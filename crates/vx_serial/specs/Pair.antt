-- `pair_of`: the module in which two neighbouring stores of one function have become one.
--
-- Where a module is not one function of one block with first forms alone and without `noalias`, it stays as it is. Else two stores
-- of i32 literals are looked for, whose pointers lead by byte offsets to one parameter, at constants that differ by exactly 4, with
-- no load and no store between them. Of such pairs the one is taken whose first store is the first, and since nothing that touches
-- memory stands between, its second store is the next instruction that does. The second store becomes the store of both literals
-- as a vector, with the pointer and the align of the store at the lesser constant, and the first one goes.
use Rattle.std.specs.Prelude.{ℕ, ℤ, pos, ◌+ℤ◌, Bool, true, false, not, ◌&&◌, ◌||◌, Option, None, Some, List, [], ◌∷◌, cond, nat_eq, is_none, is_some, option_map, option_and_then}
use Rattle.std.specs.List.{list_all}
use Rattle.std.specs.Option.{option_or}
use Rattle.std.specs.Ordering.{int_eq}
use Rattle.vx_num.specs.Advance.{advance_of}
use Rattle.vx_num.specs.declared.operations.BinOp.TheVariants.{Add}
use Rattle.vx_num.specs.declared.operations.Flags.{Flags}
use Rattle.ir_types.specs.declared.id.Id.{Id}
use Rattle.ir_types.specs.declared.ty.Ty.{Ty}
use Rattle.ir_types.specs.declared.ty.Ty.TheVariants.{Void, Int, Ptr, Row}
use Rattle.ir_types.specs.declared.ty.Elem.{Elem}
use Rattle.ir_types.specs.declared.ty.Elem.TheVariants.{One}
use Rattle.ir_types.specs.declared.opd.Opd.{Opd}
use Rattle.ir_types.specs.declared.opd.Opd.TheVariants.{Val, Lit}
use Rattle.ir_types.specs.declared.op.Op.{Op}
use Rattle.ir_types.specs.declared.op.Op.TheVariants.{Bin, Gep, Load, Store, Ret}
use Rattle.ir_types.specs.declared.inst.Inst.{Inst}
use Rattle.ir_types.specs.declared.func.Param.{Param}
use Rattle.ir_types.specs.declared.func.Block.{Block}
use Rattle.ir_types.specs.declared.func.Func.{Func}
use Rattle.ir_types.specs.declared.module.Item.{Item}
use Rattle.ir_types.specs.declared.module.Item.TheVariants.{Func as FuncItem}
use Rattle.ir_types.specs.declared.module.Module.{Module}
use Rattle.ir_model.specs.Values.{Lane, same_id}
use Rattle.vx_serial.specs.declared.pairing.scan.LedStore.{LedStore}

-- ---- the first forms

abbrev pub is_int : ℕ → Ty → Bool
is_int w (Int v) = nat_eq v w
is_int w _ = false

abbrev pub is_ptr : Ty → Bool
is_ptr Ptr = true
is_ptr _ = false

abbrev pub is_void : Ty → Bool
is_void Void = true
is_void _ = false

abbrev pub is_pair : Ty → Bool
is_pair (Row n w) = nat_eq n 2 && nat_eq w 32
is_pair _ = false

abbrev pub is_byte : Elem → Bool
is_byte (One ty) = is_int 8 ty
is_byte _ = false

abbrev pub is_plain : Flags → Bool
is_plain f = not f.nuw && not f.nsw && not f.exact && not f.disjoint

-- one lane that is a number, and two such
abbrev pub is_number : List Lane → Bool
is_number (Some n ∷ []) = true
is_number _ = false

abbrev pub are_two_numbers : List Lane → Bool
are_two_numbers (Some n ∷ Some m ∷ []) = true
are_two_numbers _ = false

abbrev pub is_local : Opd → Bool
is_local (Val _) = true
is_local _ = false

-- a literal number of w bits
abbrev pub is_literal : ℕ → Opd → Bool
is_literal w (Lit l) = is_int w l.ty && is_number l.lanes
is_literal w _ = false

-- an operand of 32 bits
abbrev pub is_operand : Opd → Bool
is_operand (Val _) = true
is_operand (Lit l) = is_literal 32 (Lit l)
is_operand _ = false

-- a value that is stored: 32 bits, or a literal pair of such
abbrev pub is_storable : Ty → Opd → Bool
is_storable (Int w) o = nat_eq w 32 && is_operand o
is_storable (Row n w) (Lit l) = is_pair (Row n w) && is_pair l.ty && are_two_numbers l.lanes
is_storable _ _ = false

-- a statement of the first forms: a load, a sum, a pointer some bytes further, a store
abbrev pub is_statement_of : Op → Ty → List Opd → Bool
is_statement_of (Load _) ty (p ∷ []) = is_int 32 ty && is_local p
is_statement_of (Bin Add flags) ty (a ∷ b ∷ []) = is_int 32 ty && is_plain flags && is_operand a && is_operand b
is_statement_of (Gep elem inbounds) ty (p ∷ c ∷ []) = is_ptr ty && is_byte elem && not inbounds && is_local p && is_literal 64 c
is_statement_of (Store _) ty (v ∷ p ∷ []) = is_storable ty v && is_local p
is_statement_of _ _ _ = false

-- a result has a written name
abbrev pub is_named : Op → Option (List ℕ) → Bool
is_named (Store _) name = true
is_named _ name = is_some name

abbrev pub is_statement : Inst → Bool
is_statement i = is_statement_of i.op i.ty i.opds && is_named i.op i.name

-- `ret void`
abbrev pub is_return_of : Op → List Opd → Bool
is_return_of Ret [] = true
is_return_of _ _ = false

abbrev pub is_return : Inst → Bool
is_return i = is_void i.ty && is_return_of i.op i.opds

abbrev pub is_last : List Inst → Bool
is_last [] = true
is_last _ = false

-- statements, then `ret void` and nothing more
abbrev pub is_straight : List Inst → Bool
is_straight [] = false
is_straight (i ∷ is) = cond (is_return i) (is_last is) (is_statement i && is_straight is)

abbrev pub is_empty : List ℕ → Bool
is_empty [] = true
is_empty _ = false

abbrev pub is_first_param : Param → Bool
is_first_param p = is_some p.name && (is_ptr p.ty || is_int 32 p.ty) && is_empty p.attrs && not p.noalias

-- one block without a label
abbrev pub is_one_block : List Block → Bool
is_one_block (b ∷ []) = is_none b.name && is_straight b.insts
is_one_block _ = false

-- a function whose whole text is of the first forms
abbrev pub is_first_func : Func → Bool
is_first_func f = is_empty f.before && is_void f.ret && list_all is_first_param f.params && is_empty f.after && is_one_block f.blocks

-- ---- where pointers lead

-- a parameter, and a constant: so many bytes after where the parameter points
abbrev pub Lead : Type 0
Lead = Option (Id × ℤ)

abbrev pub Leads : Type 0
Leads = Id → Lead

-- at the start each parameter leads to itself
abbrev pub leads_at_start : List Param → Leads
leads_at_start [] = λ x. None
leads_at_start (p ∷ ps) = λ x. cond (same_id x p.id) (Some (x, pos 0)) (leads_at_start ps x)

abbrev pub set_lead : Leads → Id → Lead → Leads
set_lead leads id to = λ x. cond (same_id x id) to (leads x)

-- some bytes further, modulo 2^64 as a signed constant
abbrev pub lead_on : Lead → List Lane → Lead
lead_on (Some to) (Some c ∷ []) = Some (to.0, advance_of to.1 c 64 1)
lead_on _ _ = None

-- what an instruction adds: its result leads on from its base, or nowhere; a store has no result
abbrev pub leads_by : Leads → Id → Op → List Opd → Leads
leads_by leads id (Store _) opds = leads
leads_by leads id (Gep _ _) (Val p ∷ Lit l ∷ []) = set_lead leads id (lead_on (leads p) l.lanes)
leads_by leads id _ _ = set_lead leads id None

abbrev pub leads_after : Leads → Inst → Leads
leads_after leads i = leads_by leads i.id i.op i.opds

-- ---- pairs of stores

-- a store of one literal through a pointer that leads to a parameter, as `LedStore` of the code
abbrev pub led_store : ℕ → List Lane → Id → Lead → Option LedStore
led_store align (lane ∷ []) p (Some to) =
    Some (record { lane = lane; pointer = p; align = align; base = to.0; constant = to.1 })
led_store align _ p _ = None

abbrev pub led_store_by : Leads → Op → Ty → List Opd → Option LedStore
led_store_by leads (Store align) (Int w) (Lit l ∷ Val p ∷ []) = led_store align l.lanes p (leads p)
led_store_by leads _ _ _ = None

abbrev pub led_store_of : Leads → Inst → Option LedStore
led_store_of leads i = led_store_by leads i.op i.ty i.opds

abbrev pub is_memory : Op → Bool
is_memory (Load _) = true
is_memory (Store _) = true
is_memory _ = false

-- the store of both literals, in the place of an instruction
abbrev pub both_stored : Inst → LedStore → LedStore → Inst
both_stored j low high = record {
  id = j.id;
  name = j.name;
  ty = Row 2 32;
  op = Store low.align;
  opds = Lit (record { ty = Row 2 32; lanes = low.lane ∷ high.lane ∷ [] }) ∷ Val low.pointer ∷ [];
}

-- by which of two stores at one parameter is 4 bytes after the other
abbrev pub joined_by_distance : Inst → LedStore → LedStore → Option Inst
joined_by_distance j a b =
    cond (int_eq b.constant (a.constant +ℤ pos 4)) (Some (both_stored j a b))
    (cond (int_eq a.constant (b.constant +ℤ pos 4)) (Some (both_stored j b a)) None)

abbrev pub is_lead : Lead → Id → ℤ → Bool
is_lead None base constant = false
is_lead (Some to) base constant = same_id to.0 base && int_eq to.1 constant

-- a store with an earlier one, whose pointer still leads to where it led there, at the same parameter
abbrev pub joined : Leads → Inst → LedStore → LedStore → Option Inst
joined leads j a b = cond (is_lead (leads a.pointer) a.base a.constant && same_id a.base b.base) (joined_by_distance j a b) None

abbrev pub joined_to : Leads → LedStore → Inst → Option Inst
joined_to leads a j = option_and_then (joined leads j a) (led_store_of leads j)

-- the instructions after a store, where it pairs with the next of them that touches memory
abbrev pub paired_with : Leads → LedStore → List Inst → Option (List Inst)
paired_with leads a [] = None
paired_with leads a (j ∷ js) =
    cond (is_memory j.op)
    (option_map (λ both. both ∷ js) (joined_to leads a j))
    (option_map (λ rest. j ∷ rest) (paired_with (leads_after leads j) a js))

-- the instructions with the first pair joined, if there is a pair
abbrev pub paired : Leads → List Inst → Option (List Inst)
paired leads [] = None
paired leads (i ∷ is) =
    option_or
    (option_and_then (λ a. paired_with leads a is) (led_store_of leads i))
    (option_map (λ rest. i ∷ rest) (paired (leads_after leads i) is))

-- ---- modules

abbrev pub or_same : List Inst → Option (List Inst) → List Inst
or_same insts None = insts
or_same insts (Some new) = new

abbrev pub pair_in_blocks : List Param → List Block → List Block
pair_in_blocks params (b ∷ []) = record { name = b.name; insts = or_same b.insts (paired (leads_at_start params) b.insts) } ∷ []
pair_in_blocks params bs = bs

abbrev pub pair_in_func : Func → Func
pair_in_func f = record {
  before = f.before;
  ret = f.ret;
  name = f.name;
  params = f.params;
  after = f.after;
  blocks = pair_in_blocks f.params f.blocks;
}

abbrev pub pair_in_items : List Item → List Item
pair_in_items (FuncItem f ∷ []) = FuncItem (cond (is_first_func f) (pair_in_func f) f) ∷ []
pair_in_items items = items

abbrev pub pair_of : Module → Module
pair_of m = record { items = pair_in_items m.items; globals = m.globals; big_endian_line = m.big_endian_line }
