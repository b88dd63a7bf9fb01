-- Forms as trees of parts: what is read first, and how it goes on by what was read.
use Rattle.std.specs.Prelude.{Option, Some, None, [], ◌∷◌}
use Rattle.vx_digits.specs.Optional.{◌>>=◌ as ◌>>>=◌}
use Rattle.ir_words.specs.Values.{local_of, opcode_of, act_of, pred_of}
use Rattle.ir_words.specs.Words.{Words, one, expect}
use Rattle.ir_words.specs.Reading.{flags_at, kind_at, elem_at}
use Rattle.ir_forms.specs.Operands.{operand_at, next_operand_at, typed_at, next_typed_at, aligned_at, mask_at, target_at, next_target_at, labelled_at, case_at, pairs_at, choose}
use Rattle.ir_forms.specs.Pieces.{Piece, Value, Word, Name, Labelled, Code, ActCode, Comparison, Flags, OfKind, Bare, Other, Typed, Also, Aligned, Element, Mask, Target, AlsoTarget, Case, Pairs}

-- a part, read from the front of the words
abbrev pub read_piece : (p : Piece) → Words → Option (Value p × Words)
read_piece (Word v) ts = expect v ts >>>= (λ rest. Some (tt, rest))
read_piece Name ts = one local_of ts
read_piece Labelled ts = labelled_at ts
read_piece Code ts = one opcode_of ts
read_piece ActCode ts = one act_of ts
read_piece Comparison ts = one pred_of ts
read_piece (Flags set) ts = flags_at set ts
read_piece (OfKind k) ts = kind_at k ts
read_piece (Bare t) ts = operand_at t ts
read_piece (Other t) ts = next_operand_at t ts
read_piece (Typed k) ts = typed_at k ts
read_piece (Also k) ts = next_typed_at k ts
read_piece Aligned ts = aligned_at ts
read_piece (Element k) ts = elem_at k ts
read_piece (Mask t) ts = mask_at t ts
read_piece Target ts = target_at ts
read_piece AlsoTarget ts = next_target_at ts
read_piece (Case t) ts = case_at t ts
read_piece (Pairs t) ts = pairs_at t ts

pub data Grammar (R : Type 0) : Type 0 where
  -- the form is known, and the line ends
  Done : R → Grammar R
  -- a part, and what follows
  Then : (p : Piece) → (Value p → Grammar R) → Grammar R
  -- where the part is in front, what follows; else the other tree
  Or : (p : Piece) → (Value p → Grammar R) → Grammar R → Grammar R

infixl 10 ◌>>=◌
abbrev pub ◌>>=◌ : {R : Type 0} (p : Piece) → (Value p → Grammar R) → Grammar R
p >>= k = Then p k

infixl 10 ◌>>◌
abbrev pub ◌>>◌ : {R : Type 0} → Piece → Grammar R → Grammar R
p >> g = Then p (λ _. g)

abbrev pub ends : {A : Type 0} → A → Words → Option A
ends a [] = Some a
ends a (t ∷ ts) = None

-- what a tree reads in the whole of these words, as `view` shows it
abbrev pub read : {R A : Type 0} → (R → A) → Grammar R → Words → Option A
read view (Done r) ts = ends (view r) ts
read view (Then p k) ts = read_piece p ts >>>= (λ x. read view (k x.0) x.1)
read view (Or p k g) ts = choose (read_piece p ts) (λ x. read view (k x.0) x.1) (read view g ts)
