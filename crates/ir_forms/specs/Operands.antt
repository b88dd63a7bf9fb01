-- How operands, aligns, masks, blocks and pairs are read from the front of the words: what each is, and the words that are left.
-- That these readers give exactly what `Pieces` calls a spelling of the part is proved beside them.
use Rattle.std.specs.Prelude.{ℕ, ◌+◌, ◌*◌, Bool, true, cond, Option, Some, None, List, [], ◌∷◌, ◌++◌, nat_lt, codes}
use Rattle.std.specs.List.{list_all}
use Rattle.vx_digits.specs.Optional.{◌>>=◌, when}
use Rattle.ir_types.specs.declared.ty.Ty.{Ty}
use Rattle.ir_types.specs.declared.ty.Ty.TheVariants.{Row}
use Rattle.ir_types.specs.Typed.{lane_width}
use Rattle.ir_words.specs.declared.kinds.Kind.{Kind}
use Rattle.ir_words.specs.declared.kinds.Kind.TheVariants.{Mask}
use Rattle.ir_draft.specs.declared.written.Written.{Written}
use Rattle.ir_draft.specs.declared.written.Written.TheVariants.{Local, Symbol}
use Rattle.ir_draft.specs.declared.written.Arg.{Arg}
use Rattle.ir_forms.specs.declared.pairs.Incoming.{Incoming}
use Rattle.ir_words.specs.Kinds.{is_pointer, lanes_of}
use Rattle.ir_words.specs.Values.{align_of, bits_number, local_of, symbol_of, label_of}
use Rattle.ir_words.specs.Words.{Words, one, expect, is_first, after_first}
use Rattle.ir_words.specs.Reading.{is_row, kind_at, lanes_at, literal_at}

-- operands

-- the first of two readings that finds something
abbrev pub choose : {A B : Type 0} → Option A → (A → Option B) → Option B → Option B
choose None f other = other
choose (Some a) f other = f a

unfoldable pub symbol_at : Ty → Words → Option (List ℕ × Words)
symbol_at t ts = cond (is_pointer t) (one symbol_of ts) None

unfoldable pub unnamed_at : Ty → Words → Option (Written × Words)
unnamed_at t ts = choose (symbol_at t ts) (λ x. Some (Symbol x.0, x.1)) (literal_at t ts)

unfoldable pub operand_at : Ty → Words → Option (Written × Words)
operand_at t ts = choose (one local_of ts) (λ x. Some (Local x.0, x.1)) (unnamed_at t ts)

unfoldable pub next_operand_at : Ty → Words → Option (Written × Words)
next_operand_at t ts = expect (codes ",") ts >>= (λ rest. operand_at t rest)

unfoldable pub typed_at : Kind → Words → Option (Arg × Words)
typed_at k ts = do
  t ← kind_at k ts
  o ← operand_at t.0 t.1
  Some (record { ty = t.0; opd = o.0 }, o.1)

unfoldable pub next_typed_at : Kind → Words → Option (Arg × Words)
next_typed_at k ts = expect (codes ",") ts >>= (λ rest. typed_at k rest)

-- aligns, elements and masks

unfoldable pub given_at : Words → Option (Option ℕ × Words)
given_at ts = do
  a ← expect (codes "align") ts
  n ← one align_of a
  Some (Some n.0, n.1)

unfoldable pub aligned_at : Words → Option (Option ℕ × Words)
aligned_at ts = cond (is_first (codes ",") ts) (given_at (after_first ts)) (Some (None, ts))

-- whether an entry of a mask is poison or below n
abbrev pub is_entry : ℕ → Option ℕ → Bool
is_entry n None = true
is_entry n (Some e) = nat_lt e n

-- whether these entries choose among n lanes
abbrev pub are_entries : ℕ → List (Option ℕ) → Bool
are_entries n ls = list_all (is_entry n) ls

-- the entries with the type of the result, where they choose among the lanes of two vectors of the type t
unfoldable pub masked_by : Ty → Ty → List (Option ℕ) → Option (Ty × List (Option ℕ))
masked_by t u ls = when (is_row (lanes_of u) (lane_width t)) (Row (lanes_of u) (lane_width t)) >>= (λ r. when (are_entries (2 * lanes_of t) ls) (r, ls))

unfoldable pub mask_at : Ty → Words → Option ((Ty × List (Option ℕ)) × Words)
mask_at t ts = do
  a ← expect (codes ",") ts
  u ← kind_at Mask a
  ls ← lanes_at u.0 u.1
  m ← masked_by t u.0 ls.0
  Some (m, ls.1)

-- blocks and cases

unfoldable pub target_at : Words → Option (List ℕ × Words)
target_at ts = expect (codes "label") ts >>= (λ rest. one local_of rest)

unfoldable pub next_target_at : Words → Option (List ℕ × Words)
next_target_at ts = expect (codes ",") ts >>= (λ rest. target_at rest)

-- a name and a colon
unfoldable pub labelled_at : Words → Option (List ℕ × Words)
labelled_at [] = None
labelled_at (t ∷ ts) = cond (is_first (codes ":") ts) (label_of t >>= (λ name. Some (name, after_first ts))) None

-- the number of a case
unfoldable pub case_at : Ty → Words → Option (ℕ × Words)
case_at t ts = one (bits_number (lane_width t)) ts

-- pairs of a value and a block

abbrev pub none : Incoming
none = record { args = []; labels = []; blocks = [] }

abbrev pub put : Ty → ℕ → Written → List ℕ → Incoming
put t at o name = record { args = record { ty = t; opd = o } ∷ []; labels = name ∷ []; blocks = at ∷ [] }

-- two lists of pairs, one after the other
abbrev pub both : Incoming → Incoming → Incoming
both i j = record { args = i.args ++ j.args; labels = i.labels ++ j.labels; blocks = i.blocks ++ j.blocks }

unfoldable pub pair_at : Ty → ℕ → Words → Option (Incoming × Words)
pair_at t at ts = do
  a ← expect (codes "[") ts
  o ← operand_at t a
  b ← expect (codes ",") o.1
  l ← one local_of b
  c ← expect (codes "]") l.1
  Some (put t at o.0 l.0, c)

abbrev pub after_pairs : Incoming → Option (Incoming × Words) → Option (Incoming × Words)
after_pairs i read = read >>= (λ x. Some (both i x.0, x.1))

abbrev pub pairs_within : Words → Ty → ℕ → Words → Option (Incoming × Words)
pairs_within [] t at ts = None
pairs_within (_ ∷ bound) t at ts = pair_at t at ts >>= (λ p. cond (is_first (codes ",") p.1) (after_pairs p.0 (pairs_within bound t (at + 1) (after_first p.1))) (Some p))

unfoldable pub pairs_at : Ty → Words → Option (Incoming × Words)
pairs_at t ts = pairs_within ts t 0 ts
