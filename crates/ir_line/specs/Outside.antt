-- What a line outside functions spells.
use Rattle.std.specs.Prelude.{◌≡◌, ℕ, Bool, true, ◌&&◌, cond, Option, Some, None, List, [], ◌∷◌, codes}
use Rattle.ir_lex.specs.declared.list.Token.{Token}
use Rattle.ir_lex.specs.Words.{words}
use Rattle.ir_draft.specs.declared.line.Line.{Line}
use Rattle.ir_draft.specs.declared.line.Line.TheVariants.{Empty, Kept, Define}
use Rattle.ir_words.specs.Words.{is_first}
use Rattle.ir_line.specs.Keeping.{is_kept, kept_of, first_symbol}
use Rattle.ir_line.specs.Headers.{header, ends_open}

-- what a line outside functions spells, by its bytes and its tokens
pub data Spells (line : List ℕ) (ts : List Token) : Line → Type 0 where
  -- no token
  NoWord : ts ≡ [] → Spells line ts Empty
  -- a line that is kept
  KeptLine : is_kept (words line ts) ≡ true → Spells line ts (Kept (kept_of line (words line ts)))
  -- the first line of a function, with its header where that is of the profile
  Defined : is_first (codes "define") (words line ts) ≡ true → ends_open line ts ≡ true → Spells line ts (Define (first_symbol (words line ts)) (header line ts))

abbrev pub is_define : List ℕ → List Token → Bool
is_define line ts = is_first (codes "define") (words line ts) && ends_open line ts

-- the line that the tokens are found to be
unfoldable pub read_outside : List ℕ → List Token → Option Line
read_outside line [] = Some Empty
read_outside line (t ∷ ts) =
    cond (is_kept (words line (t ∷ ts))) (Some (Kept (kept_of line (words line (t ∷ ts)))))
    (cond (is_define line (t ∷ ts)) (Some (Define (first_symbol (words line (t ∷ ts))) (header line (t ∷ ts)))) None)
