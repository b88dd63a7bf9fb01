-- Facts about lists of tokens and of words.
use Rattle.std.proofs.Common.{◌≡◌, ℕ, suc, zero, ◌+◌, List, [], ◌∷◌, take, drop, refl, ap}
use Rattle.ir_lex.specs.declared.list.Token.{Token}
use Rattle.ir_lex.specs.Words.{word, words}
use Rattle.ir_words.specs.Words.{Words}
use Rattle.ir_words.specs.Reading.{split}

-- the words of a part of the tokens
pub split_words : (line : List ℕ) (n : ℕ) (ts : List Token) → (words line (take n ts), words line (drop n ts)) ≡ split n (words line ts)
split_words line zero ts = refl
split_words line (suc n) [] = refl
split_words line (suc n) (t ∷ ts) = ap (λ (p : Words × Words). (word line t ∷ p.0, p.1)) (split_words line n ts)
