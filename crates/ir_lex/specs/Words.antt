-- The bytes of tokens, which the grammar of lines reads as words.
use Rattle.std.specs.Prelude.{ℕ, ◌-◌, List, map, take, drop}
use Rattle.ir_lex.specs.declared.list.Token.{Token}

-- the bytes of the line from the token's first place to just before its last; what would stand past the line's end is left out
unfoldable pub word : List ℕ → Token → List ℕ
word line t = take (t.to - t.from) (drop t.from line)

-- the bytes of each token
abbrev pub words : List ℕ → List Token → List (List ℕ)
words line ts = map (word line) ts
