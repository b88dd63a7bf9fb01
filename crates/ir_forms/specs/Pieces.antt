-- The parts of a line and their spellings: for each part a relation from its value to the words that spell it, with the words
-- that follow. A part that may be absent says which word does not follow.
use Rattle.std.specs.Prelude.{◌≡◌, ℕ, ◌+◌, ◌*◌, true, false, Option, Some, None, List, [], ◌∷◌, ◌++◌, codes, length, replicate}
use Rattle.std.specs.List.{list_all}
use Rattle.vx_num.specs.Keywords.{pred_word}
use Rattle.vx_digits.specs.Numbers.{number_of}
use Rattle.vx_num.specs.declared.operations.Pred.{Pred}
use Rattle.ir_types.specs.declared.ty.Ty.{Ty}
use Rattle.ir_types.specs.declared.ty.Ty.TheVariants.{Int, Ptr, Row}
use Rattle.ir_types.specs.declared.ty.Elem.{Elem}
use Rattle.ir_types.specs.declared.ty.Elem.TheVariants.{One, Array}
use Rattle.ir_types.specs.Typed.{lane_width}
use Rattle.ir_words.specs.declared.kinds.Kind.{Kind}
use Rattle.ir_words.specs.declared.flags.FlagSet.{FlagSet}
use Rattle.ir_words.specs.declared.opcode.Opcode.{Opcode}
use Rattle.ir_words.specs.declared.opcode.Act.{Act}
use Rattle.ir_draft.specs.declared.written.Written.{Written}
use Rattle.ir_draft.specs.declared.written.Written.TheVariants.{Local, Symbol, Lit}
use Rattle.ir_draft.specs.declared.written.Arg.{Arg}
use Rattle.ir_forms.specs.declared.pairs.Incoming.{Incoming}
use Rattle.ir_words.specs.Kinds.{fits, is_pointer, lanes_of}
use Rattle.ir_words.specs.Values.{width_of, align_of, bits_number, lane_of, local_of, symbol_of, label_of, opcode_word, act_word}
use Rattle.ir_words.specs.Words.{Words, is_first}
use Rattle.ir_words.specs.Reading.{allows, is_distinct, is_row, length_of, item_of}
use Rattle.ir_forms.specs.Operands.{are_entries, put, both}

-- one word that says v
pub record Says {A : Type 0} (f : List ℕ → Option A) (v : A) (ts rest : Words) : Type 0 where
  pub word : List ℕ
  pub first : ts ≡ word ∷ rest
  pub says : f word ≡ Some v

-- the word `v` and, after it, a part that `P` spells
pub record Led (v : List ℕ) (P : Words → Type 0) (ts : Words) : Type 0 where
  pub follow : Words
  pub first : ts ≡ v ∷ follow
  pub part : P follow

-- flags: each of the set, in any order, each once, and no more of them
pub record SpellsFlags (set : FlagSet) (fs ts rest : Words) : Type 0 where
  pub front : ts ≡ fs ++ rest
  pub of_set : list_all (allows set) fs ≡ true
  pub once : is_distinct fs ≡ true
  pub no_more : (word : List ℕ) (more : Words) → rest ≡ word ∷ more → allows set word ≡ false

-- types: `i8`, `ptr`, `<4 x i8>`; the number of lanes is read by its value
pub data SpellsTy : Ty → Words → Words → Type 0 where
  Integer : (w : ℕ) (word : List ℕ) (rest : Words) → width_of word ≡ Some w → SpellsTy (Int w) (word ∷ rest) rest
  Pointer : (rest : Words) → SpellsTy Ptr (codes "ptr" ∷ rest) rest
  Vector : (n w : ℕ) (count word : List ℕ) (rest : Words) → number_of count ≡ Some n → width_of word ≡ Some w → is_row n w ≡ true →
      SpellsTy (Row n w) (codes "<" ∷ count ∷ codes "x" ∷ word ∷ codes ">" ∷ rest) rest

-- a type of a kind
pub record SpellsKind (k : Kind) (t : Ty) (ts rest : Words) : Type 0 where
  pub spelled : SpellsTy t ts rest
  pub fitting : fits k t ≡ true

-- a lane after its type, as `i8 -1`
pub data SpellsLane (w : ℕ) (l : Option ℕ) : Words → Words → Type 0 where
  Lane : (word lane : List ℕ) (rest : Words) → width_of word ≡ Some w → lane_of w lane ≡ Some l → SpellsLane w l (word ∷ lane ∷ rest) rest

-- lanes joined by commas, with the `>` after them
pub data SpellsList (w : ℕ) : List (Option ℕ) → Words → Words → Type 0 where
  LastLane : (l : Option ℕ) (ts rest : Words) → SpellsLane w l ts (codes ">" ∷ rest) → SpellsList w (l ∷ []) ts rest
  MoreLanes : (l : Option ℕ) (ls : List (Option ℕ)) (ts us rest : Words) → SpellsLane w l ts (codes "," ∷ us) → SpellsList w ls us rest → SpellsList w (l ∷ ls) ts rest

-- the lanes of a vector literal: all poison, all zero, one that stands for all, or a list
pub data SpellsRow (n w : ℕ) : List (Option ℕ) → Words → Words → Type 0 where
  Poison : (rest : Words) → SpellsRow n w (replicate n None) (codes "poison" ∷ rest) rest
  Zero : (rest : Words) → SpellsRow n w (replicate n (Some 0)) (codes "zeroinitializer" ∷ rest) rest
  Splat : (l : Option ℕ) (ts rest : Words) → SpellsLane w l ts (codes ")" ∷ rest) → SpellsRow n w (replicate n l) (codes "splat" ∷ codes "(" ∷ ts) rest
  Listed : (ls : List (Option ℕ)) (ts rest : Words) → length ls ≡ n → SpellsList w ls ts rest → SpellsRow n w ls (codes "<" ∷ ts) rest

-- the lanes of a literal of a type
pub data SpellsLanes : Ty → List (Option ℕ) → Words → Words → Type 0 where
  Scalar : (w : ℕ) (l : Option ℕ) (word : List ℕ) (rest : Words) → lane_of w word ≡ Some l → SpellsLanes (Int w) (l ∷ []) (word ∷ rest) rest
  NoPointer : (rest : Words) → SpellsLanes Ptr (None ∷ []) (codes "poison" ∷ rest) rest
  Lanes : (n w : ℕ) (ls : List (Option ℕ)) (ts rest : Words) → SpellsRow n w ls ts rest → SpellsLanes (Row n w) ls ts rest

-- an operand of a type
pub data SpellsOperand (t : Ty) : Written → Words → Words → Type 0 where
  Named : (name word : List ℕ) (rest : Words) → local_of word ≡ Some name → SpellsOperand t (Local name) (word ∷ rest) rest
  Global : (name word : List ℕ) (rest : Words) → is_pointer t ≡ true → symbol_of word ≡ Some name → SpellsOperand t (Symbol name) (word ∷ rest) rest
  Literal : (ls : List (Option ℕ)) (ts rest : Words) → SpellsLanes t ls ts rest → SpellsOperand t (Lit (record { ty = t; lanes = ls })) ts rest

-- an operand after its type, which is of a kind
pub record SpellsTyped (k : Kind) (a : Arg) (ts rest : Words) : Type 0 where
  pub after : Words
  pub type : SpellsKind k a.ty ts after
  pub operand : SpellsOperand a.ty a.opd after rest

-- an align after a comma, or none
pub data SpellsAligned : Option ℕ → Words → Words → Type 0 where
  Absent : (rest : Words) → is_first (codes ",") rest ≡ false → SpellsAligned None rest rest
  Given : (n : ℕ) (word : List ℕ) (rest : Words) → align_of word ≡ Some n → SpellsAligned (Some n) (codes "," ∷ codes "align" ∷ word ∷ rest) rest

-- one value of a kind, or an array of integers of at least 8 bits
pub data SpellsElem (k : Kind) : Elem → Words → Words → Type 0 where
  Single : (t : Ty) (ts rest : Words) → SpellsKind k t ts rest → SpellsElem k (One t) ts rest
  Items : (n w : ℕ) (count word : List ℕ) (rest : Words) → length_of count ≡ Some n → item_of word ≡ Some w →
      SpellsElem k (Array n w) (codes "[" ∷ count ∷ codes "x" ∷ word ∷ codes "]" ∷ rest) rest

-- the mask of a shuffle of two vectors of the type t, a literal, with the type of the result
pub data SpellsMask (t : Ty) : Ty × List (Option ℕ) → Words → Words → Type 0 where
  Entries : (m : ℕ) (ls : List (Option ℕ)) (ts us rest : Words) → SpellsTy (Row m 32) ts us → SpellsLanes (Row m 32) ls us rest →
      is_row m (lane_width t) ≡ true → are_entries (2 * lanes_of t) ls ≡ true →
      SpellsMask t (Row m (lane_width t), ls) (codes "," ∷ ts) rest

-- one pair of a `phi`
pub data SpellsPair (t : Ty) (at : ℕ) : Incoming → Words → Words → Type 0 where
  Pair : (o : Written) (name word : List ℕ) (ts rest : Words) → SpellsOperand t o ts (codes "," ∷ word ∷ codes "]" ∷ rest) → local_of word ≡ Some name →
      SpellsPair t at (put t at o name) (codes "[" ∷ ts) rest

-- pairs joined by commas, the first at the place `at`
pub data SpellsPairs (t : Ty) : ℕ → Incoming → Words → Words → Type 0 where
  LastPair : (at : ℕ) (i : Incoming) (ts rest : Words) → SpellsPair t at i ts rest → is_first (codes ",") rest ≡ false → SpellsPairs t at i ts rest
  MorePairs : (at : ℕ) (i j : Incoming) (ts us rest : Words) → SpellsPair t at i ts (codes "," ∷ us) → SpellsPairs t (at + 1) j us rest → SpellsPairs t at (both i j) ts rest

-- the parts of which forms are made
pub data Piece : Type 0 where
  -- a word
  Word : List ℕ → Piece
  -- a local
  Name : Piece
  -- a name and a colon
  Labelled : Piece
  -- the keyword of an operation with a result, of one without, and of a comparison
  Code : Piece
  ActCode : Piece
  Comparison : Piece
  -- the flags of a set
  Flags : FlagSet → Piece
  -- a type of a kind
  OfKind : Kind → Piece
  -- an operand of a type, without and with a comma in front
  Bare : Ty → Piece
  Other : Ty → Piece
  -- an operand after its type, without and with a comma in front
  Typed : Kind → Piece
  Also : Kind → Piece
  -- an align, if one is there
  Aligned : Piece
  -- what is stepped over, or made
  Element : Kind → Piece
  -- a comma and a mask for vectors of a type
  Mask : Ty → Piece
  -- `label` and a block, without and with a comma in front
  Target : Piece
  AlsoTarget : Piece
  -- the number of a case
  Case : Ty → Piece
  -- the pairs of a `phi`
  Pairs : Ty → Piece

-- what a part says
abbrev pub Value : Piece → Type 0
Value (Word v) = Unit {0}
Value Name = List ℕ
Value Labelled = List ℕ
Value Code = Opcode
Value ActCode = Act
Value Comparison = Pred
Value (Flags set) = Words
Value (OfKind k) = Ty
Value (Bare t) = Written
Value (Other t) = Written
Value (Typed k) = Arg
Value (Also k) = Arg
Value Aligned = Option ℕ
Value (Element k) = Elem
Value (Mask t) = Ty × List (Option ℕ)
Value Target = List ℕ
Value AlsoTarget = List ℕ
Value (Case t) = ℕ
Value (Pairs t) = Incoming

-- the part p with the value v stands in front of `ts`, and `rest` follows
abbrev pub Takes : (p : Piece) → Value p → Words → Words → Type 0
Takes (Word v) x ts rest = ts ≡ v ∷ rest
Takes Name name ts rest = Says local_of name ts rest
Takes Labelled name ts rest = Says label_of name ts (codes ":" ∷ rest)
Takes Code op ts rest = ts ≡ opcode_word op ∷ rest
Takes ActCode act ts rest = ts ≡ act_word act ∷ rest
Takes Comparison p ts rest = ts ≡ pred_word p ∷ rest
Takes (Flags set) fs ts rest = SpellsFlags set fs ts rest
Takes (OfKind k) t ts rest = SpellsKind k t ts rest
Takes (Bare t) o ts rest = SpellsOperand t o ts rest
Takes (Other t) o ts rest = Led (codes ",") (λ us. SpellsOperand t o us rest) ts
Takes (Typed k) a ts rest = SpellsTyped k a ts rest
Takes (Also k) a ts rest = Led (codes ",") (λ us. SpellsTyped k a us rest) ts
Takes Aligned n ts rest = SpellsAligned n ts rest
Takes (Element k) e ts rest = SpellsElem k e ts rest
Takes (Mask t) m ts rest = SpellsMask t m ts rest
Takes Target name ts rest = Led (codes "label") (λ us. Says local_of name us rest) ts
Takes AlsoTarget name ts rest = Led (codes ",") (λ us. Led (codes "label") (λ vs. Says local_of name vs rest) us) ts
Takes (Case t) n ts rest = Says (bits_number (lane_width t)) n ts rest
Takes (Pairs t) i ts rest = SpellsPairs t 0 i ts rest
