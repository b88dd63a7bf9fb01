-- What a lexical fault is.
use Rattle.std.specs.Prelude.{◌≡◌, ℕ, ◌+◌, ◌<◌, ◌==◌, Bool, true, false, cond, not, ◌&&◌, ◌||◌, List, [], ◌∷◌, take, drop}
use Rattle.std.specs.List.{list_any}
use Rattle.ir_lex.specs.Bytes.{quote, semicolon, is_control}
use Rattle.ir_lex.specs.declared.faults.Part.{Part}
use Rattle.ir_lex.specs.declared.faults.Part.TheVariants.{Plain, Quoted, Comment}
use Rattle.ir_lex.specs.declared.refusal.LexRefusal.{LexRefusal}
use Rattle.ir_lex.specs.declared.refusal.LexRefusal.TheVariants.{Lex, OutOfMemory}

-- the part of the line after a byte
abbrev pub enter : Part → ℕ → Part
enter Plain b = cond (b == quote) Quoted (cond (b == semicolon) Comment Plain)
enter Quoted b = cond (b == quote) Plain Quoted
enter Comment b = Comment

-- the part of the line after these bytes
abbrev pub after : Part → List ℕ → Part
after part [] = part
after part (b ∷ bs) = after (enter part b) bs

-- whether a byte there opens a string: a quote outside strings and comments
abbrev pub opens : Part → ℕ → Bool
opens Plain b = b == quote
opens Quoted b = false
opens Comment b = false

-- whether there is a quote among these bytes
abbrev pub has_quote : List ℕ → Bool
has_quote bs = list_any (λ b. b == quote) bs

-- whether the first of these bytes is a fault: a control byte, or a quote that opens a string which does not close
abbrev pub begins_fault : Part → List ℕ → Bool
begins_fault part [] = false
begins_fault part (b ∷ bs) = is_control b || opens part b && not (has_quote bs)

-- whether there is a lexical fault at the place `k` of a line
abbrev pub is_fault : List ℕ → ℕ → Bool
is_fault line k = begins_fault (after Plain (take k line)) (drop k line)

-- the first lexical fault of a line stands at the place `k`
pub record FirstFault (line : List ℕ) (k : ℕ) : Type 0 where
  pub fault : is_fault line k ≡ true
  pub first : (j : ℕ) → j < k → is_fault line j ≡ false

-- the refusal names the line by its number, and its first fault by its byte, counted from 1
abbrev pub IsRefusal : ℕ → List ℕ → LexRefusal → Type 0
IsRefusal number line (Lex l byte) = (k : ℕ) × (l ≡ number) × (byte ≡ k + 1) × FirstFault line k
IsRefusal number line OutOfMemory = Unit {0}
