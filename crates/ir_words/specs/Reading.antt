-- How each part of a line is read from the front of its words: what it is, and the words that are left.
-- That these readers give exactly what `Pieces` calls a spelling of the part is proved beside them.
use Rattle.std.specs.Prelude.{ℕ, suc, zero, ◌+◌, ◌*◌, ◌^◌, Bool, true, false, not, ◌&&◌, ◌||◌, cond, Option, Some, None, List, [], ◌∷◌, ◌++◌, bytes_eq, nat_eq, nat_le, codes, length, replicate}
use Rattle.vx_digits.specs.Numbers.{number_of}
use Rattle.vx_digits.specs.Optional.{◌>>=◌, when}
use Rattle.ir_types.specs.declared.ty.Ty.{Ty}
use Rattle.ir_types.specs.declared.ty.Ty.TheVariants.{Void, Int, Ptr, Row}
use Rattle.ir_types.specs.declared.ty.Elem.{Elem}
use Rattle.ir_types.specs.declared.ty.Elem.TheVariants.{One, Array}
use Rattle.ir_words.specs.declared.kinds.Kind.{Kind}
use Rattle.ir_words.specs.declared.flags.FlagSet.{FlagSet}
use Rattle.ir_words.specs.declared.flags.FlagSet.TheVariants.{Plain, Wrap, Exact, Disjoint, NonNegative, Address, SameSign}
use Rattle.ir_draft.specs.declared.written.Written.{Written}
use Rattle.ir_draft.specs.declared.written.Written.TheVariants.{Lit}
use Rattle.ir_words.specs.Kinds.{fits}
use Rattle.ir_words.specs.Values.{width_of, lane_of}
use Rattle.ir_words.specs.Words.{Words, one, expect, is_first, after_first}

-- flags

-- the words that a set of flags has
abbrev pub allows : FlagSet → List ℕ → Bool
allows Plain t = false
allows Wrap t = bytes_eq t (codes "nuw") || bytes_eq t (codes "nsw")
allows Exact t = bytes_eq t (codes "exact")
allows Disjoint t = bytes_eq t (codes "disjoint")
allows NonNegative t = bytes_eq t (codes "nneg")
allows Address t = bytes_eq t (codes "inbounds") || bytes_eq t (codes "nuw") || bytes_eq t (codes "nusw")
allows SameSign t = bytes_eq t (codes "samesign")

-- whether the word `v` is among these
abbrev pub has : List ℕ → Words → Bool
has v [] = false
has v (t ∷ ts) = bytes_eq t v || has v ts

-- whether each of these words stands once
abbrev pub is_distinct : Words → Bool
is_distinct [] = true
is_distinct (t ∷ ts) = not (has t ts) && is_distinct ts

-- how many words at the front are of the set
abbrev pub flags_len : FlagSet → Words → ℕ
flags_len set [] = 0
flags_len set (t ∷ ts) = cond (allows set t) (suc (flags_len set ts)) 0

-- so many words at the front, and the rest
abbrev pub split : ℕ → Words → Words × Words
split zero ts = ([], ts)
split (suc n) [] = ([], [])
split (suc n) (t ∷ ts) = (t ∷ (split n ts).0, (split n ts).1)

unfoldable pub flags_at : FlagSet → Words → Option (Words × Words)
flags_at set ts = when (is_distinct (split (flags_len set ts) ts).0) (split (flags_len set ts) ts)

-- types

-- whether a vector of n integers of w bits is of the profile
abbrev pub is_row : ℕ → ℕ → Bool
is_row n w = (nat_eq n 2 || nat_eq n 4 || nat_eq n 8 || nat_eq n 16) && nat_le (n * w) 512

unfoldable pub row_at : Words → Option (Ty × Words)
row_at ts = do
  n ← one number_of ts
  a ← expect (codes "x") n.1
  w ← one width_of a
  b ← expect (codes ">") w.1
  when (is_row n.0 w.0) (Row n.0 w.0, b)

abbrev pub int_at : Words → Option (Ty × Words)
int_at ts = one width_of ts >>= (λ w. Some (Int w.0, w.1))

unfoldable pub ty_at : Words → Option (Ty × Words)
ty_at ts =
    cond (is_first (codes "ptr") ts) (Some (Ptr, after_first ts))
    (cond (is_first (codes "<") ts) (row_at (after_first ts)) (int_at ts))

unfoldable pub kind_at : Kind → Words → Option (Ty × Words)
kind_at k ts = ty_at ts >>= (λ t. when (fits k t.0) t)

-- literals

unfoldable pub typed_lane : ℕ → Words → Option (Option ℕ × Words)
typed_lane w ts = do
  v ← one width_of ts
  l ← one (lane_of w) v.1
  when (nat_eq v.0 w) l

-- more lanes after one, where a comma follows; the words `bound` only count
abbrev pub with_front : List (Option ℕ) → Option (List (Option ℕ) × Words) → Option (List (Option ℕ) × Words)
with_front ls read = read >>= (λ x. Some (ls ++ x.0, x.1))

abbrev pub lanes_within : Words → ℕ → Words → Option (List (Option ℕ) × Words)
lanes_within [] w ts = None
lanes_within (_ ∷ bound) w ts = typed_lane w ts >>= (λ l.
    cond (is_first (codes ",") l.1) (with_front (l.0 ∷ []) (lanes_within bound w (after_first l.1))) (expect (codes ">") l.1 >>= (λ rest. Some (l.0 ∷ [], rest))))

unfoldable pub listed_at : ℕ → ℕ → Words → Option (List (Option ℕ) × Words)
listed_at n w ts = lanes_within ts w ts >>= (λ x. when (nat_eq (length x.0) n) x)

unfoldable pub splat_at : ℕ → ℕ → Words → Option (List (Option ℕ) × Words)
splat_at n w ts = do
  a ← expect (codes "(") ts
  l ← typed_lane w a
  b ← expect (codes ")") l.1
  Some (replicate n l.0, b)

unfoldable pub row_lanes : ℕ → ℕ → Words → Option (List (Option ℕ) × Words)
row_lanes n w ts =
    cond (is_first (codes "poison") ts) (Some (replicate n None, after_first ts))
    (cond (is_first (codes "zeroinitializer") ts) (Some (replicate n (Some 0), after_first ts))
    (cond (is_first (codes "splat") ts) (splat_at n w (after_first ts))
    (expect (codes "<") ts >>= (λ rest. listed_at n w rest))))

-- the lanes of a literal of a type
unfoldable pub lanes_at : Ty → Words → Option (List (Option ℕ) × Words)
lanes_at Void ts = None
lanes_at Ptr ts = expect (codes "poison") ts >>= (λ rest. Some (None ∷ [], rest))
lanes_at (Int w) ts = one (lane_of w) ts >>= (λ l. Some (l.0 ∷ [], l.1))
lanes_at (Row n w) ts = row_lanes n w ts

unfoldable pub literal_at : Ty → Words → Option (Written × Words)
literal_at t ts = lanes_at t ts >>= (λ ls. Some (Lit (record { ty = t; lanes = ls.0 }), ls.1))

-- elements

-- the length of an array: at most 2^32
unfoldable pub length_of : List ℕ → Option ℕ
length_of t = number_of t >>= (λ n. when (nat_le n (2 ^ 32)) n)

-- the bits of an array's element: at least 8
unfoldable pub item_of : List ℕ → Option ℕ
item_of t = width_of t >>= (λ w. when (not (nat_eq w 1)) w)

unfoldable pub array_at : Words → Option (Elem × Words)
array_at ts = do
  n ← one length_of ts
  a ← expect (codes "x") n.1
  w ← one item_of a
  b ← expect (codes "]") w.1
  Some (Array n.0 w.0, b)

unfoldable pub elem_at : Kind → Words → Option (Elem × Words)
elem_at k ts = cond (is_first (codes "[") ts) (array_at (after_first ts)) (kind_at k ts >>= (λ t. Some (One t.0, t.1)))
