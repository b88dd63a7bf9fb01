-- The regions of a module: lists of neighbouring stores that may become one vector store.
--
-- The stores of scalars of a block are grouped by root, symbol and width of their addresses. In a group a chain begins at the store with
-- the least constant, the first of those; its next is the first store whose constant is greater by the store's bytes, where that does not
-- overflow. From the front of a chain the greatest power of two of stores is taken that is at most its length, 16 and the lanes of a vector
-- register, and the rest of the chain in the same way, until fewer than two can be taken; what is left is in no region. Then the next
-- chain begins among the stores that are in none. The regions of a block stand in the order of the first of their stores. Only blocks that
-- a walk from the entry reaches have regions.
use Rattle.std.specs.Prelude.{◌≡◌, refl, ℕ, zero, suc, ◌*◌, ◌/◌, ℤ, pos, ◌+ℤ◌, int_le, int_lt, Bool, true, false, not, ◌&&◌, nat_eq, nat_le, cond, min, Option, None, Some, List, [], ◌∷◌, ◌++◌, map, take, drop, length}
use Rattle.std.specs.List.{list_any}
use Rattle.std.specs.Int.{int_wrap}
use Rattle.ir_types.specs.declared.id.Id.{Id}
use Rattle.ir_types.specs.declared.id.Place.{Place}
use Rattle.ir_types.specs.declared.ty.Ty.{Ty}
use Rattle.ir_types.specs.declared.ty.Ty.TheVariants.{Int, Ptr}
use Rattle.ir_types.specs.declared.ty.Elem.TheVariants.{One}
use Rattle.ir_types.specs.declared.op.Op.TheVariants.{Gep, Store}
use Rattle.ir_types.specs.declared.opd.Opd.{Opd}
use Rattle.ir_types.specs.declared.inst.Inst.{Inst}
use Rattle.ir_types.specs.declared.func.Block.{Block}
use Rattle.ir_types.specs.declared.func.Func.{Func}
use Rattle.ir_types.specs.declared.module.Module.{Module}
use Rattle.ir_types.specs.Walks.{targets_at}
use Rattle.ir_types.specs.Available.{same_id, graph_of}
use Rattle.ir_types.specs.Formed.{is_scalar_store}
use Rattle.vx_view.specs.Answers.{funcs_of}
use Rattle.vx_serial.specs.declared.seed.Seed.{Seed}
use Rattle.vx_view.specs.Addresses.{Form, form_in, value, number, line}
use Rattle.vx_view.specs.Conflicts.{Access, access_of, same_root, same_symbol}

-- ---- stores that may be in a region

-- a store of a scalar: its address and how many bytes it writes
pub record Spot : Type 0 where
  pub store : Id
  pub form : Form
  pub size : ℕ

abbrev pub spot_by : List Inst → Id → Option Access → List Spot
spot_by block store None = []
spot_by block store (Some a) = record { store = store; form = form_in block a.pointer; size = a.size } ∷ []

-- those among some instructions of a block, in order
abbrev pub spots_among : List Inst → List Inst → List Spot
spots_among block [] = []
spots_among block (i ∷ is) = cond (is_scalar_store i) (spot_by block i.id (access_of i)) [] ++ spots_among block is

abbrev pub spots : List Inst → List Spot
spots block = spots_among block block

-- ---- groups

-- one root, one symbol and one width
abbrev pub is_alike : Spot → Spot → Bool
is_alike a b = same_root a.form.root b.form.root && same_symbol a.form.offset.symbol b.form.offset.symbol && nat_eq a.size b.size

abbrev pub those : (Spot → Bool) → List Spot → List Spot
those p [] = []
those p (s ∷ ss) = cond (p s) (s ∷ those p ss) (those p ss)

-- ---- chains

abbrev pub constant_of : Spot → ℤ
constant_of s = s.form.offset.constant

-- the one with the least constant, the first of those
abbrev pub least_from : Spot → List Spot → Spot
least_from best [] = best
least_from best (s ∷ ss) = cond (int_lt (constant_of s) (constant_of best)) (least_from s ss) (least_from best ss)

abbrev pub same_constant : ℤ → ℤ → Bool
same_constant x y = int_le x y && int_le y x

-- the second begins where the first ends; constants lie below 2^63, so a sum that is none of 64 bits is no store's
abbrev pub follows : Spot → Spot → Bool
follows a b = same_constant (constant_of b) (constant_of a +ℤ pos a.size)

abbrev pub first_of : (Spot → Bool) → List Spot → Option Spot
first_of p [] = None
first_of p (s ∷ ss) = cond (p s) (Some s) (first_of p ss)

-- a store, if there is one, and what comes after it
abbrev pub on : Option Spot → (Spot → List Spot) → List Spot
on None rest = []
on (Some b) rest = b ∷ rest b

-- the chain that goes on after a store, so many of them at most
abbrev pub chain_after : ℕ → Spot → List Spot → List Spot
chain_after zero a ss = []
chain_after (suc n) a ss = on (first_of (follows a) ss) (λ b. chain_after n b ss)

-- the chain that begins with a store
abbrev pub chain : Spot → List Spot → List Spot
chain a ss = a ∷ chain_after (length ss) a ss

-- ---- pieces of chains

-- the greatest of 16, 8, 4 and 2 that is at most a number; none where that is below 2
abbrev pub power_in : ℕ → ℕ
power_in n = cond (nat_le 16 n) 16 (cond (nat_le 8 n) 8 (cond (nat_le 4 n) 4 (cond (nat_le 2 n) 2 0)))

-- so many from the front, and what is made of the others; nothing where these are none
abbrev pub taken_off : ℕ → List Id → (List Id → List (List Id)) → List (List Id)
taken_off zero ids rest = []
taken_off (suc n) ids rest = take (suc n) ids ∷ rest (drop (suc n) ids)

-- pieces from the front, where a vector has so many lanes, and so many pieces at most
abbrev pub pieces : ℕ → ℕ → List Id → List (List Id)
pieces zero lanes ids = []
pieces (suc n) lanes ids = taken_off (power_in (min lanes (length ids))) ids (λ rest. pieces n lanes rest)

abbrev pub ids_of : List Spot → List Id
ids_of ss = map (λ (s : Spot). s.store) ss

-- the regions of a chain, in registers of so many bits
abbrev pub cut : ℕ → Spot → List Spot → List (List Id)
cut width a c = pieces (length c) (width / (8 * a.size)) (ids_of c)

-- ---- blocks

abbrev pub is_in : List Spot → Spot → Bool
is_in ss s = list_any (λ (t : Spot). same_id t.store s.store) ss

-- the regions of a chain that begins with a store, and then those of the stores that are not in it
abbrev pub with_chain : ℕ → Spot → List Spot → List Spot → (List Spot → List (List Id)) → List (List Id)
with_chain width a c ss rest = cut width a c ++ rest (those (λ t. not (is_in c t)) ss)

-- the regions of a group, so many chains at most
abbrev pub group_regions : ℕ → ℕ → List Spot → List (List Id)
group_regions zero width ss = []
group_regions (suc n) width [] = []
group_regions (suc n) width (s ∷ ss) = with_chain width (least_from s ss) (chain (least_from s ss) (s ∷ ss)) (s ∷ ss) (λ rest. group_regions n width rest)

-- group by group, so many at most
abbrev pub grouped : ℕ → ℕ → List Spot → List (List Id)
grouped zero width ss = []
grouped (suc n) width [] = []
grouped (suc n) width (s ∷ ss) =
    group_regions (length (s ∷ ss)) width (those (is_alike s) (s ∷ ss)) ++ grouped n width (those (λ t. not (is_alike s t)) (s ∷ ss))

-- the first of some lists that has an id
abbrev pub with_store : Id → List (List Id) → List (List Id)
with_store x [] = []
with_store x (r ∷ rs) = cond (list_any (same_id x) r) (r ∷ []) (with_store x rs)

-- a list, if there is one, and then what comes after its stores were passed
abbrev pub passing : List (List Id) → List Id → (List Id → List (List Id)) → List (List Id)
passing [] passed rest = rest passed
passing (r ∷ _) passed rest = r ∷ rest (passed ++ r)

-- lists in the order of the first of their stores, among stores in order; those that were passed stand in a list already
abbrev pub in_order : List Id → List Spot → List (List Id) → List (List Id)
in_order passed [] rs = []
in_order passed (s ∷ ss) rs =
    cond (list_any (same_id s.store) passed) (in_order passed ss rs) (passing (with_store s.store rs) passed (λ all. in_order all ss rs))

-- the regions of a block, in vector registers of so many bits
abbrev pub block_regions : ℕ → List Inst → List (List Id)
block_regions width block = in_order [] (spots block) (grouped (length (spots block)) width (spots block))

-- ---- the module

abbrev pub targets_of_all : List (List ℕ) → List ℕ → List ℕ
targets_of_all graph [] = []
targets_of_all graph (b ∷ bs) = targets_at graph b ++ targets_of_all graph bs

-- the blocks to which walks of so many edges at most lead
abbrev pub reached_in : ℕ → List (List ℕ) → List ℕ
reached_in zero graph = 0 ∷ []
reached_in (suc n) graph = reached_in n graph ++ targets_of_all graph (reached_in n graph)

-- a walk from the entry reaches a block: one with fewer edges than there are blocks does
abbrev pub is_reached : List (List ℕ) → ℕ → Bool
is_reached graph b = list_any (nat_eq b) (reached_in (length graph) graph)

abbrev pub at_place : Place → List (List Id) → List Seed
at_place place [] = []
at_place place (r ∷ rs) = record { place = place; stores = r } ∷ at_place place rs

-- those of some blocks of a function, of which the first has a number
abbrev pub regions_in : ℕ → ℕ → List (List ℕ) → ℕ → List Block → List Seed
regions_in width func graph at [] = []
regions_in width func graph at (b ∷ bs) =
    cond (is_reached graph at) (at_place (record { func = func; block = at }) (block_regions width b.insts)) [] ++ regions_in width func graph (suc at) bs

abbrev pub regions_of : ℕ → ℕ → List Func → List Seed
regions_of width func [] = []
regions_of width func (f ∷ fs) = regions_in width func (graph_of f) 0 f.blocks ++ regions_of width (suc func) fs

-- the regions of a module, in vector registers of so many bits
abbrev pub regions : Module → ℕ → List Seed
regions m width = regions_of width 0 (funcs_of m.items)

-- ---- worked examples

abbrev id : ℕ → Id
id k = record { region = 0; k = k }

abbrev ids : ℕ → ℕ → List Id
ids k zero = []
ids k (suc n) = id k ∷ ids (suc k) n

-- of seven stores four and two are taken where a register has four lanes, and eight and no more of nine where it has sixteen
four_and_two : pieces 7 4 (ids 0 7) ≡ ids 0 4 ∷ ids 4 2 ∷ []
four_and_two = refl

eight_of_nine : pieces 9 16 (ids 0 9) ≡ ids 0 8 ∷ []
eight_of_nine = refl

-- no two lanes of 64 bits stand in a register of 64
no_lanes : pieces 2 1 (ids 0 2) ≡ []
no_lanes = refl

-- %k = gep i8, %p, d, and a store of a number through %p
abbrev past : ℕ → ℕ → ℕ → Inst
past k p d = line k Ptr (Gep (One (Int 8)) false) (value p ∷ number d ∷ [])

abbrev put : ℕ → ℕ → Inst
put k p = line k (Int 32) (Store 4) (number 7 ∷ value p ∷ [])

-- stores to 4 and 0 bytes past %0, and between them to %1 and 4 bytes past it
abbrev crossed : List Inst
crossed = past 2 0 4 ∷ past 3 1 4 ∷ put 4 2 ∷ put 5 1 ∷ put 6 3 ∷ put 7 0 ∷ []

-- two regions, each from the least address on; that of the first store stands first
two_regions : block_regions 128 crossed ≡ (id 7 ∷ id 4 ∷ []) ∷ (id 5 ∷ id 6 ∷ []) ∷ []
unfolding int_wrap
two_regions = refl

-- the first of two stores at one place is taken, and the other is in no region
one_place : block_regions 128 (past 2 0 4 ∷ put 3 0 ∷ put 4 0 ∷ put 5 2 ∷ []) ≡ (id 3 ∷ id 5 ∷ []) ∷ []
unfolding int_wrap
one_place = refl

-- a block that only itself leads to is not reached
looped : is_reached ((2 ∷ []) ∷ (1 ∷ []) ∷ [] ∷ []) 1 ≡ false
looped = refl

passed_to : is_reached ((2 ∷ []) ∷ (1 ∷ []) ∷ [] ∷ []) 2 ≡ true
passed_to = refl
