-- The last lane of a list, and what closes it.
use Rattle.std.proofs.Common.{◌≡◌, ℕ, ◌≤◌, false, Option, Some, List, [], ◌∷◌, ◌++◌, length, codes, refl, sym, ◌∙◌, arith}
use Rattle.ir_lex.specs.declared.list.Token.{Token}
use Rattle.ir_lex.specs.Words.{words}
use Rattle.ir_words.specs.Words.{Words, is_first, expect}
use Rattle.ir_words.specs.Reading.{typed_lane, lanes_within, with_front}

pub last_lane : (found new : List (Option ℕ)) (line : List ℕ) (bound : List Token) (w : ℕ) (rest after end : Words) (lane : Option ℕ) (whole : Option (List (Option ℕ) × Words)) →
    with_front found (lanes_within (words line bound) w rest) ≡ whole → 1 ≤ length bound → typed_lane w rest ≡ Some (lane, after) → is_first (codes ",") after ≡ false → expect (codes ">") after ≡ Some end →
    new ≡ found ++ lane ∷ [] → whole ≡ Some (new, end)
last_lane found new line [] w rest after end lane whole e n typed comma close last = absurd (omega arith)
last_lane found new line (t ∷ bound) w rest after end lane whole e n typed comma close last = sym e ∙ rw (typed, comma, close, last) refl
