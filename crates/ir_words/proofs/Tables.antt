-- A table of words in two parts: the first part is looked up first.
use Rattle.std.proofs.Common.{◌≡◌, ℕ, Bool, true, false, cond, List, [], ◌∷◌, ◌++◌, Option, Some, None, bytes_eq, refl, sym}
use Rattle.ir_words.specs.declared.opcode.Opcode.{Opcode}
use Rattle.ir_words.specs.Words.{by_word}
use Rattle.ir_words.specs.Values.{opcode_word, opcodes, short_opcodes, four_opcodes, long_opcodes, opcode_of, short_opcode_of, four_opcode_of, longer_opcode_of, long_opcode_of}

-- what the first part has, the whole has
in_first : {A : Type 0} (f : A → List ℕ) (xs ys : List A) (t : List ℕ) (a : A) → by_word f xs t ≡ Some a → by_word f (xs ++ ys) t ≡ Some a
in_first f [] ys t a e = cc
in_first f (x ∷ xs) ys t a e = here (bytes_eq t (f x)) (in_first f xs ys t a) e where
  here : (b : Bool) → (by_word f xs t ≡ Some a → by_word f (xs ++ ys) t ≡ Some a) → cond b (Some x) (by_word f xs t) ≡ Some a → cond b (Some x) (by_word f (xs ++ ys) t) ≡ Some a
  here true ih e = e
  here false ih e = ih e

-- what it has not, is looked up in the second
in_second : {A : Type 0} (f : A → List ℕ) (xs ys : List A) (t : List ℕ) → by_word f xs t ≡ None → by_word f (xs ++ ys) t ≡ by_word f ys t
in_second f [] ys t e = refl
in_second f (x ∷ xs) ys t e = here (bytes_eq t (f x)) (in_second f xs ys t) e where
  here : (b : Bool) → (by_word f xs t ≡ None → by_word f (xs ++ ys) t ≡ by_word f ys t) → cond b (Some x) (by_word f xs t) ≡ None → cond b (Some x) (by_word f (xs ++ ys) t) ≡ by_word f ys t
  here true ih e = cc
  here false ih e = ih e

pub found_short : (t : List ℕ) (code : Opcode) → Some code ≡ short_opcode_of t → Some code ≡ opcode_of t
unfolding opcode_of
found_short t code e = sym (in_first opcode_word short_opcodes (four_opcodes ++ long_opcodes) t code (sym e))

pub none_short : (t : List ℕ) → None ≡ short_opcode_of t → longer_opcode_of t ≡ opcode_of t
unfolding opcode_of
none_short t e = sym (in_second opcode_word short_opcodes (four_opcodes ++ long_opcodes) t (sym e))

pub found_four : (t : List ℕ) (code : Opcode) → Some code ≡ four_opcode_of t → Some code ≡ longer_opcode_of t
found_four t code e = sym (in_first opcode_word four_opcodes long_opcodes t code (sym e))

pub none_four : (t : List ℕ) → None ≡ four_opcode_of t → long_opcode_of t ≡ longer_opcode_of t
none_four t e = sym (in_second opcode_word four_opcodes long_opcodes t (sym e))
