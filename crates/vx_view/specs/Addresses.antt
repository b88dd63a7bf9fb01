-- The form of an address: a root, at most one symbol with a scale, and a constant.
--
-- From a pointer the walk goes back over `getelementptr`s of one block, each taken whole or not at all: literal indices go into the
-- constant, one index that is none becomes the symbol. Then a symbol of 64 bits is followed back over sums with a literal. At most 64
-- definitions are followed in all. Constants are signed numbers of 64 bits that wrap. (Language Reference, "getelementptr Instruction".)
use Rattle.std.specs.Prelude.{◌≡◌, refl, ℕ, zero, suc, ℤ, pos, negsuc, ◌*◌, ◌/◌, Bool, true, false, ◌&&◌, nat_eq, Option, None, Some, List, [], ◌∷◌, option_map, option_and_then}
use Rattle.std.specs.Int.{int_wrap}
use Rattle.vx_num.specs.Advance.{advance_of}
use Rattle.vx_num.specs.declared.operations.BinOp.TheVariants.{Add, Or}
use Rattle.vx_num.specs.declared.operations.Flags.{Flags}
use Rattle.ir_types.specs.declared.id.Id.{Id}
use Rattle.ir_types.specs.declared.ty.Ty.{Ty}
use Rattle.ir_types.specs.declared.ty.Ty.TheVariants.{Int, Ptr}
use Rattle.ir_types.specs.declared.ty.Elem.{Elem}
use Rattle.ir_types.specs.declared.ty.Elem.TheVariants.{One, Array}
use Rattle.ir_types.specs.declared.opd.Opd.{Opd}
use Rattle.ir_types.specs.declared.opd.Opd.TheVariants.{Val, Lit, Sym}
use Rattle.ir_types.specs.declared.op.Op.{Op}
use Rattle.ir_types.specs.declared.op.Op.TheVariants.{Bin, Gep}
use Rattle.ir_types.specs.declared.inst.Inst.{Inst}
use Rattle.ir_types.specs.declared.module.Module.{Module}
use Rattle.vx_view.specs.Answers.{find, found, Standing}

-- a value that is no literal, times so many bytes
abbrev pub Symbol : Type 0
Symbol = Id × ℕ

-- what is added to a pointer
pub record Offset : Type 0 where
  pub symbol : Option Symbol
  pub constant : ℤ

-- an address: what is added to its root
pub record Form : Type 0 where
  pub root : Opd
  pub offset : Offset

-- ---- one `getelementptr`

-- how many bytes each index counts
abbrev pub scales_of : Elem → List ℕ
scales_of (One (Int w)) = w / 8 ∷ []
scales_of (One _) = []
scales_of (Array n w) = n * (w / 8) ∷ w / 8 ∷ []

-- a symbol where there is none yet; there is no second
abbrev pub beside_symbol : Symbol → ℤ → Option Symbol → Option Offset
beside_symbol s c None = Some (record { symbol = Some s; constant = c })
beside_symbol s c (Some other) = None

abbrev pub with_symbol : Symbol → Offset → Option Offset
with_symbol s o = beside_symbol s o.constant o.symbol

abbrev pub with_lane : Ty → List (Option ℕ) → ℕ → Offset → Option Offset
with_lane (Int w) (Some n ∷ []) scale o = Some (record { symbol = o.symbol; constant = advance_of o.constant n w scale })
with_lane _ _ scale o = None

abbrev pub with_index : Opd → ℕ → Offset → Option Offset
with_index (Lit l) scale o = with_lane l.ty l.lanes scale o
with_index (Val id) scale o = with_symbol (id, scale) o
with_index (Sym g) scale o = None

abbrev pub with_indices : List ℕ → List Opd → Offset → Option Offset
with_indices scales [] o = Some o
with_indices [] (_ ∷ _) o = None
with_indices (s ∷ ss) (x ∷ xs) o = option_and_then (with_indices ss xs) (with_index x s o)

-- a pointer, with what is added to it
abbrev pub Led : Type 0
Led = Opd × Offset

abbrev pub led_op : Op → List Opd → Offset → Option Led
led_op (Gep elem inbounds) (p ∷ xs) o = option_map (λ q. (p, q)) (with_indices (scales_of elem) xs o)
led_op _ _ o = None

abbrev pub led_by : Offset → Option Inst → Option Led
led_by o None = None
led_by o (Some i) = led_op i.op i.opds o

-- back over the definition of a pointer in a block
abbrev pub led_back : List Inst → Opd → Offset → Option Led
led_back block (Val id) o = led_by o (find id block)
led_back block _ o = None

-- ---- one sum

-- what a sum adds
pub data Summand : Type 0 where
  Number : ℕ → Summand
  Poison : Summand
  Value : Id → Summand
  Other : Summand

abbrev pub summand_of : List (Option ℕ) → Summand
summand_of (Some n ∷ []) = Number n
summand_of (None ∷ []) = Poison
summand_of _ = Other

abbrev pub summand : Opd → Summand
summand (Val id) = Value id
summand (Lit l) = summand_of l.lanes
summand (Sym g) = Other

-- a number of 64 bits times the scale goes into the constant
abbrev pub plus : ℕ → ℕ → Option Symbol → ℤ → Offset
plus n scale s c = record { symbol = s; constant = advance_of c n 64 scale }

-- a literal that is not poison goes into the constant and the other summand becomes the symbol; of two literals each that is not poison
-- goes into it, and no symbol is left
abbrev pub summed : Summand → Summand → ℕ → ℤ → Option Offset
summed (Number n) (Value v) scale c = Some (plus n scale (Some (v, scale)) c)
summed (Value v) (Number n) scale c = Some (plus n scale (Some (v, scale)) c)
summed (Number n) (Number k) scale c = Some (plus k scale None (advance_of c n 64 scale))
summed (Number n) Poison scale c = Some (plus n scale None c)
summed Poison (Number n) scale c = Some (plus n scale None c)
summed _ _ scale c = None

-- an addition, or an `or` of disjoint numbers
abbrev pub is_sum : Op → Bool
is_sum (Bin Add flags) = true
is_sum (Bin Or flags) = flags.disjoint
is_sum _ = false

abbrev pub is_wide : Ty → Bool
is_wide (Int w) = nat_eq w 64
is_wide _ = false

abbrev pub summed_by : Bool → List Opd → ℕ → ℤ → Option Offset
summed_by true (a ∷ b ∷ []) scale c = summed (summand a) (summand b) scale c
summed_by _ _ scale c = None

abbrev pub sum_back : ℕ → ℤ → Option Inst → Option Offset
sum_back scale c None = None
sum_back scale c (Some i) = summed_by (is_wide i.ty && is_sum i.op) i.opds scale c

-- back over the definition of a symbol in a block
abbrev pub back_from : List Inst → ℤ → Option Symbol → Option Offset
back_from block c None = None
back_from block c (Some s) = sum_back s.1 c (find s.0 block)

abbrev pub symbol_back : List Inst → Offset → Option Offset
symbol_back block o = back_from block o.constant o.symbol

-- ---- the walks

abbrev pub or_stay : {A B : Type 0} → B → Option A → (A → B) → B
or_stay here None on = here
or_stay here (Some a) on = on a

-- where a walk ended, and how many definitions may still be followed
pub record Walked : Type 0 where
  pub pointer : Opd
  pub offset : Offset
  pub left : ℕ

abbrev pub pointers : ℕ → List Inst → Opd → Offset → Walked
pointers zero block p o = record { pointer = p; offset = o; left = 0 }
pointers (suc n) block p o = or_stay (record { pointer = p; offset = o; left = suc n }) (led_back block p o) (λ led. pointers n block led.0 led.1)

abbrev pub symbols : ℕ → List Inst → Offset → Offset
symbols zero block o = o
symbols (suc n) block o = or_stay o (symbol_back block o) (λ p. symbols n block p)

abbrev pub form_of : List Inst → Walked → Form
form_of block w = record { root = w.pointer; offset = symbols w.left block w.offset }

-- nothing is added
abbrev pub start : Offset
start = record { symbol = None; constant = pos 0 }

-- the form of a pointer in a block
abbrev pub form_in : List Inst → Opd → Form
form_in block p = form_of block (pointers 64 block p start)

abbrev pub block_of : Option Standing → List Inst
block_of None = []
block_of (Some s) = s.block

-- the form of a pointer, as a user of it sees it: definitions are followed in the user's own block
abbrev pub form : Module → Id → Opd → Form
form m user p = form_in (block_of (found m user)) p

-- ---- worked examples: a 16-bit step by a value, and one by that value with its lowest bit set

abbrev pub value : ℕ → Opd
value k = Val (record { region = 0; k = k })

abbrev pub number : ℕ → Opd
number n = Lit (record { ty = Int 64; lanes = Some n ∷ [] })

abbrev pub line : ℕ → Ty → Op → List Opd → Inst
line k ty op opds = record { id = record { region = 0; k = k }; name = None; ty = ty; op = op; opds = opds }

abbrev disjoint : Flags
disjoint = record { nuw = false; nsw = false; exact = false; disjoint = true }

-- %2 = gep i16, %0, %1;  %3 = or disjoint %1, 1;  %4 = gep i16, %0, %3;  %5 = gep i8, %4, -8;  %6 = gep [3 x i16], %0, %1, %1
abbrev steps : List Inst
steps =
    line 2 Ptr (Gep (One (Int 16)) false) (value 0 ∷ value 1 ∷ [])
    ∷ line 3 (Int 64) (Bin Or disjoint) (value 1 ∷ number 1 ∷ [])
    ∷ line 4 Ptr (Gep (One (Int 16)) false) (value 0 ∷ value 3 ∷ [])
    ∷ line 5 Ptr (Gep (One (Int 8)) false) (value 4 ∷ number 18446744073709551608 ∷ [])
    ∷ line 6 Ptr (Gep (Array 3 16) false) (value 0 ∷ value 1 ∷ value 1 ∷ []) ∷ []

abbrev at_symbol : ℤ → Form
at_symbol c = record { root = value 0; offset = record { symbol = Some (record { region = 0; k = 1 }, 2); constant = c } }

by_a_value : form_in steps (value 2) ≡ at_symbol (pos 0)
by_a_value = refl

by_a_sum : form_in steps (value 4) ≡ at_symbol (pos 2)
unfolding int_wrap
by_a_sum = refl

-- literal indices are signed
back_by_eight : form_in steps (value 5) ≡ at_symbol (negsuc 5)
unfolding int_wrap
back_by_eight = refl

-- two indices that are no literals are two symbols, so the pointer itself is the root
two_symbols : form_in steps (value 6) ≡ record { root = value 6; offset = start }
two_symbols = refl
