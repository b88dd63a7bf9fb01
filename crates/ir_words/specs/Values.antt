-- What one word says by itself: a width, a number, a lane, a name, a keyword.
use Rattle.std.specs.Prelude.{◌≡◌, refl, ℕ, ◌+◌, ◌-◌, ◌*◌, ◌^◌, Bool, true, false, ◌&&◌, cond, Option, Some, None, List, [], ◌∷◌, ◌++◌, bytes_eq, nat_eq, nat_lt, nat_le, codes}
use Rattle.std.specs.Char.{is_ascii_digit}
use Rattle.std.specs.Int.{is_power_of_two}
use Rattle.std.specs.List.{list_all}
use Rattle.vx_digits.specs.Numbers.{number_of, one_more, fitting, negative}
use Rattle.vx_digits.specs.Optional.{◌>>=◌, when}
use Rattle.ir_lex.specs.Bytes.{quote, begins_name}
use Rattle.vx_num.specs.declared.operations.BinOp.{BinOp}
use Rattle.vx_num.specs.declared.operations.BinOp.TheVariants.{Add, Sub, Mul, Shl, Udiv, Sdiv, Urem, Srem, Lshr, Ashr, And, Or, Xor}
use Rattle.vx_num.specs.declared.operations.Pred.{Pred}
use Rattle.vx_num.specs.declared.operations.Pred.TheVariants.{Eq, Ne, Ugt, Uge, Ult, Ule, Sgt, Sge, Slt, Sle}
use Rattle.vx_num.specs.declared.operations.CastOp.{CastOp}
use Rattle.vx_num.specs.declared.operations.CastOp.TheVariants.{Zext, Sext, Trunc}
use Rattle.vx_num.specs.Keywords.{bin_word, cast_word, pred_word}
use Rattle.ir_words.specs.declared.opcode.Opcode.{Opcode}
use Rattle.ir_words.specs.declared.opcode.Opcode.TheVariants.{Bin, Cast, Icmp, Select, Extract, Insert, Shuffle, Gep, Load, Alloca, Phi}
use Rattle.ir_words.specs.declared.opcode.Act.{Act}
use Rattle.ir_words.specs.declared.opcode.Act.TheVariants.{Store, Ret, Br, Switch, Unreachable}
use Rattle.ir_words.specs.Words.{by_word}

-- the bits of an integer type
unfoldable pub width_of : List ℕ → Option ℕ
width_of t =
    cond (bytes_eq t (codes "i1")) (Some 1)
    (cond (bytes_eq t (codes "i8")) (Some 8)
    (cond (bytes_eq t (codes "i16")) (Some 16)
    (cond (bytes_eq t (codes "i32")) (Some 32)
    (cond (bytes_eq t (codes "i64")) (Some 64) None))))

-- a power of two from 1 to 2^32
abbrev pub is_align : ℕ → Bool
is_align n = is_power_of_two n && nat_le n (2 ^ 32)

unfoldable pub align_of : List ℕ → Option ℕ
align_of t = number_of t >>= (λ n. when (is_align n) n)

-- a signed decimal of w bits
unfoldable pub decimal_of : ℕ → List ℕ → Option ℕ
decimal_of w [] = None
decimal_of w (b ∷ bs) = cond (nat_eq b 45) (number_of bs >>= (λ n. negative w n)) (number_of (b ∷ bs) >>= (λ n. fitting w n))

-- a number of w bits; of one bit also a truth value
unfoldable pub bits_number : ℕ → List ℕ → Option ℕ
bits_number w t =
    cond (bytes_eq t (codes "true") && nat_eq w 1) (Some 1)
    (cond (bytes_eq t (codes "false") && nat_eq w 1) (Some 0)
    (decimal_of w t))

-- a lane of w bits: poison or a number
unfoldable pub lane_of : ℕ → List ℕ → Option (Option ℕ)
lane_of w t = cond (bytes_eq t (codes "poison")) (Some None) (bits_number w t >>= (λ n. Some (Some n)))

-- digits without their leading zeros
abbrev pub plain_number : List ℕ → List ℕ
plain_number [] = []
plain_number (d ∷ []) = d ∷ []
plain_number (d ∷ e ∷ ds) = cond (nat_eq d 48) (plain_number (e ∷ ds)) (d ∷ e ∷ ds)

-- the name after `%`: a plain one, or a number by its value; a quoted one is none
unfoldable pub named : List ℕ → Option (List ℕ)
named [] = None
named (b ∷ bs) = cond (nat_eq b quote) None (Some (cond (is_ascii_digit b) (plain_number (b ∷ bs)) (b ∷ bs)))

unfoldable pub local_of : List ℕ → Option (List ℕ)
local_of [] = None
local_of (b ∷ bs) = cond (nat_eq b 37) (named bs) None

-- the plain name after `@`
abbrev pub unquoted : List ℕ → Option (List ℕ)
unquoted [] = None
unquoted (b ∷ bs) = cond (nat_eq b quote) None (Some (b ∷ bs))

unfoldable pub symbol_of : List ℕ → Option (List ℕ)
symbol_of [] = None
symbol_of (b ∷ bs) = cond (nat_eq b 64) (unquoted bs) None

-- whether there is a name
abbrev pub is_some : Option (List ℕ) → Bool
is_some None = false
is_some (Some name) = true

-- the name of a label, without its colon: a plain one, or a number by its value
unfoldable pub label_of : List ℕ → Option (List ℕ)
label_of [] = None
label_of (b ∷ bs) = cond (begins_name b) (Some (b ∷ bs)) (when (list_all is_ascii_digit (b ∷ bs)) (plain_number (b ∷ bs)))

-- the words of operations that have a result
abbrev pub opcode_word : Opcode → List ℕ
opcode_word (Bin op) = bin_word op
opcode_word (Cast op) = cast_word op
opcode_word Icmp = codes "icmp"
opcode_word Select = codes "select"
opcode_word Extract = codes "extractelement"
opcode_word Insert = codes "insertelement"
opcode_word Shuffle = codes "shufflevector"
opcode_word Gep = codes "getelementptr"
opcode_word Load = codes "load"
opcode_word Alloca = codes "alloca"
opcode_word Phi = codes "phi"

-- those with words of two or three bytes, of four, and of more
abbrev pub short_opcodes : List Opcode
short_opcodes = Bin Add ∷ Bin Sub ∷ Bin Mul ∷ Bin Shl ∷ Bin And ∷ Bin Or ∷ Bin Xor ∷ Phi ∷ []

abbrev pub four_opcodes : List Opcode
four_opcodes = Bin Udiv ∷ Bin Sdiv ∷ Bin Urem ∷ Bin Srem ∷ Bin Lshr ∷ Bin Ashr ∷ Cast Zext ∷ Cast Sext ∷ Icmp ∷ Load ∷ []

abbrev pub long_opcodes : List Opcode
long_opcodes = Gep ∷ Cast Trunc ∷ Select ∷ Alloca ∷ Extract ∷ Insert ∷ Shuffle ∷ []

abbrev pub opcodes : List Opcode
opcodes = short_opcodes ++ (four_opcodes ++ long_opcodes)

unfoldable pub opcode_of : List ℕ → Option Opcode
opcode_of t = by_word opcode_word opcodes t

-- the same among the words of these lengths alone
abbrev pub short_opcode_of : List ℕ → Option Opcode
short_opcode_of t = by_word opcode_word short_opcodes t

abbrev pub four_opcode_of : List ℕ → Option Opcode
four_opcode_of t = by_word opcode_word four_opcodes t

abbrev pub long_opcode_of : List ℕ → Option Opcode
long_opcode_of t = by_word opcode_word long_opcodes t

abbrev pub longer_opcode_of : List ℕ → Option Opcode
longer_opcode_of t = by_word opcode_word (four_opcodes ++ long_opcodes) t

-- the words of operations that have none
abbrev pub act_word : Act → List ℕ
act_word Store = codes "store"
act_word Ret = codes "ret"
act_word Br = codes "br"
act_word Switch = codes "switch"
act_word Unreachable = codes "unreachable"

abbrev pub acts : List Act
acts = Store ∷ Ret ∷ Br ∷ Switch ∷ Unreachable ∷ []

unfoldable pub act_of : List ℕ → Option Act
act_of t = by_word act_word acts t

-- the same of those whose words have more than five bytes
abbrev pub long_act_of : List ℕ → Option Act
long_act_of t = by_word act_word (Switch ∷ Unreachable ∷ []) t

-- the comparisons
abbrev pub preds : List Pred
preds = Eq ∷ Ne ∷ Ugt ∷ Uge ∷ Ult ∷ Ule ∷ Sgt ∷ Sge ∷ Slt ∷ Sle ∷ []

unfoldable pub pred_of : List ℕ → Option Pred
pred_of t = by_word pred_word preds t

-- the highest and the least number of 8 bits, and those next to them
highest : lane_of 8 (codes "255") ≡ Some (Some 255)
unfolding lane_of bits_number decimal_of number_of one_more fitting
highest = refl

too_high : lane_of 8 (codes "256") ≡ None
unfolding lane_of bits_number decimal_of number_of one_more fitting
too_high = refl

least : lane_of 8 (codes "-128") ≡ Some (Some 128)
unfolding lane_of bits_number decimal_of number_of one_more negative
least = refl

too_low : lane_of 8 (codes "-129") ≡ None
unfolding lane_of bits_number decimal_of number_of one_more negative
too_low = refl

-- `%007` is the local 7, and `%"x"` is none
seven : local_of (codes "%007") ≡ Some (codes "7")
unfolding local_of named
seven = refl

quoted : local_of (codes "%\"x\"") ≡ None
unfolding local_of named
quoted = refl
