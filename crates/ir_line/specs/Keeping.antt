-- Lines outside functions that are kept: which they are, and what is read of them.
use Rattle.std.specs.Prelude.{ℕ, ◌-◌, Bool, true, false, not, ◌&&◌, ◌||◌, cond, Option, Some, None, List, [], ◌∷◌, codes, bytes_eq, nat_eq, length, take, reverse}
use Rattle.std.specs.List.{prefix_len}
use Rattle.ir_lex.specs.Bytes.{begins_name}
use Rattle.ir_types.specs.HeaderWords as header_words
use Rattle.ir_draft.specs.declared.kept.Kept.{Kept}
use Rattle.ir_words.specs.Values.{symbol_of, is_some}
use Rattle.ir_words.specs.Words.{Words, is_first, after_first}
use Rattle.ir_words.specs.Reading.{has}
use Rattle.ir_words.specs.Layout.{any_big, any_other, string_of}

-- a plain name
abbrev pub is_name : List ℕ → Bool
is_name [] = false
is_name (b ∷ bs) = begins_name b

-- at least one digit, and digits alone
abbrev pub is_digits : List ℕ → Bool
is_digits = header_words.is_digits

-- nothing, a name or a number: what stands after the `!` of metadata
abbrev pub is_metadata : List ℕ → Bool
is_metadata [] = true
is_metadata (b ∷ bs) = begins_name b || is_digits (b ∷ bs)

-- a plain or a quoted name
abbrev pub is_symbol : List ℕ → Bool
is_symbol [] = false
is_symbol (b ∷ bs) = true

-- whether a line of which this is the first word, and `=` stands after it or not, is kept
unfoldable pub keeps_mark : ℕ → List ℕ → Bool → Bool
keeps_mark b bs equals =
    cond (nat_eq b 33) (is_metadata bs)
    (cond (nat_eq b 64) (is_symbol bs && equals)
    (cond (nat_eq b 37) (is_name bs && equals)
    (cond (nat_eq b 36) (is_name bs)
    (cond (nat_eq b 94) (is_digits bs) false))))

unfoldable pub keeps_word : List ℕ → Bool
keeps_word t =
    bytes_eq t (codes "source_filename") || bytes_eq t (codes "target") || bytes_eq t (codes "declare") || bytes_eq t (codes "attributes") || bytes_eq t (codes "module")

abbrev pub keeps_marked : List ℕ → Bool → Bool
keeps_marked [] equals = false
keeps_marked (b ∷ bs) equals = keeps_mark b bs equals

-- whether a line of these words is kept
abbrev pub is_kept : Words → Bool
is_kept [] = false
is_kept (t ∷ ts) = keeps_word t || keeps_marked t (is_first (codes "=") ts)

-- a line without its trailing spaces
abbrev pub trimmed : List ℕ → List ℕ
trimmed line = take (length line - prefix_len (λ b. nat_eq b 32) (reverse line)) line

-- the name that a line `@name = ..` has
abbrev pub defined : Words → Option (List ℕ)
defined [] = None
defined (t ∷ ts) = cond (is_first (codes "=") ts) (symbol_of t) None

-- the first plain name of a symbol
abbrev pub or_later : Option (List ℕ) → Option (List ℕ) → Option (List ℕ)
or_later None later = later
or_later (Some name) later = Some name

abbrev pub first_symbol : Words → Option (List ℕ)
first_symbol [] = None
first_symbol (t ∷ ts) = or_later (symbol_of t) (first_symbol ts)

abbrev pub declared : Words → Option (List ℕ)
declared ts = cond (is_first (codes "declare") ts) (first_symbol ts) None

-- whether a symbol is no global of its own
abbrev pub is_indirect : Words → Bool
is_indirect ts = has (codes "alias") ts || has (codes "ifunc") ts || has (codes "extern_weak") ts || has (codes "addrspace") ts

-- whether a line is of the layout
abbrev pub is_layout : Words → Bool
is_layout ts = is_first (codes "target") ts && is_first (codes "datalayout") (after_first ts)

-- what is read of a kept line
abbrev pub kept_of : List ℕ → Words → Kept
kept_of line ts = record {
  text = trimmed line;
  symbol = defined ts;
  global = is_some (defined ts) && not (is_indirect ts);
  declared = declared ts;
  big_endian = is_layout ts && any_big true (string_of ts);
  other_pointers = is_layout ts && any_other true (string_of ts);
}
