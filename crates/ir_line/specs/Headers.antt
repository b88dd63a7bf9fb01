-- The header of a function: what stands where between `define` and the last brace.
-- LLVM Language Reference, "Functions" and "Parameter Attributes".
use Rattle.std.specs.Prelude.{ℕ, suc, ◌+◌, ◌-◌, Bool, ◌&&◌, cond, Option, Some, None, option_map, List, [], ◌∷◌, ◌++◌, codes, bytes_eq, nat_eq, length, take, drop}
use Rattle.std.specs.List.{list_all}
use Rattle.vx_digits.specs.Optional.{◌>>=◌}
use Rattle.ir_lex.specs.declared.list.Token.{Token}
use Rattle.ir_lex.specs.Words.{words}
use Rattle.ir_types.specs.declared.ty.Ty.{Ty}
use Rattle.ir_types.specs.declared.ty.Ty.TheVariants.{Void, Row}
use Rattle.ir_types.specs.declared.func.Param.{Param}
use Rattle.ir_draft.specs.declared.head.Head.{Head}
use Rattle.ir_words.specs.Values.{local_of, symbol_of, is_some}
use Rattle.ir_words.specs.Words.{Words, one, is_first, is_ascii}
use Rattle.ir_words.specs.Reading.{ty_at}
use Rattle.ir_types.specs.HeaderWords as header_words

-- the words of a header are those that a formed module's kept parts are described by
abbrev pub last_to : ℕ → List Token → ℕ
last_to = header_words.last_to

abbrev pub span : List ℕ → List Token → List ℕ
span = header_words.span

abbrev pub depth_after : ℕ → List ℕ → ℕ
depth_after = header_words.depth_after

abbrev pub is_attribute : List ℕ → Bool
is_attribute = header_words.is_attribute

abbrev pub goes_on : ℕ → List ℕ → Bool
goes_on = header_words.goes_on

abbrev pub stands : List ℕ → ℕ → Words → Bool
stands = header_words.stands

abbrev pub is_banned : Words → Bool
is_banned = header_words.is_banned

-- how many words of attributes stand at the front
abbrev pub attrs_len : ℕ → Words → ℕ
attrs_len d [] = 0
attrs_len d (t ∷ ts) = cond (goes_on d t) (suc (attrs_len (depth_after d t) ts)) 0

-- how many words a type has
abbrev pub ty_len : Ty → ℕ
ty_len (Row n w) = 5
ty_len _ = 1

abbrev pub attrs_of : List ℕ → List Token → List Token
attrs_of line ts = take (attrs_len 0 (words line ts)) ts

abbrev pub after_attrs : List ℕ → List Token → List Token
after_attrs line ts = drop (attrs_len 0 (words line ts)) ts

-- a parameter's name, if one follows
abbrev pub name_of : Words → Option (List ℕ)
name_of ts = option_map (λ x. x.0) (one local_of ts)

abbrev pub after_name : Option (List ℕ) → List Token → List Token
after_name None ts = ts
after_name (Some name) ts = drop 1 ts

-- a parameter of a type, at a place, with its attributes
abbrev pub param : List ℕ → ℕ → Ty → List Token → Option (List ℕ) → Param
param line at t attrs name = record {
  id = record { region = 0; k = at };
  name = name;
  ty = t;
  attrs = span line attrs;
  noalias = stands (codes "noalias") 0 (words line attrs);
}

-- a parameter after its type, and what follows
unfoldable pub attributed : List ℕ → ℕ → Ty → List Token → Option (Param × List Token)
attributed line at t ts =
    cond (is_banned (words line (attrs_of line ts))) None
    (Some (param line at t (attrs_of line ts) (name_of (words line (after_attrs line ts))), after_name (name_of (words line (after_attrs line ts))) (after_attrs line ts)))

unfoldable pub param_at : List ℕ → ℕ → List Token → Option (Param × List Token)
param_at line at ts = ty_at (words line ts) >>= (λ t. attributed line at t.0 (drop (ty_len t.0) ts))

-- parameters joined by commas, with the `)` after them; the tokens `bound` only count
abbrev pub with_params : List Param → Option (List Param × List Token) → Option (List Param × List Token)
with_params ps read = read >>= (λ x. Some (ps ++ x.0, x.1))

abbrev pub closed : List ℕ → List Param → List Token → Option (List Param × List Token)
closed line ps ts = cond (is_first (codes ")") (words line ts)) (Some (ps, drop 1 ts)) None

abbrev pub params_within : List Token → List ℕ → ℕ → List Token → Option (List Param × List Token)
params_within [] line at ts = None
params_within (_ ∷ bound) line at ts = param_at line at ts >>= (λ p.
    cond (is_first (codes ",") (words line p.1)) (with_params (p.0 ∷ []) (params_within bound line (at + 1) (drop 1 p.1))) (closed line (p.0 ∷ []) p.1))

unfoldable pub params_at : List ℕ → List Token → Option (List Param × List Token)
params_at line ts = cond (is_first (codes ")") (words line ts)) (Some ([], drop 1 ts)) (params_within ts line 0 ts)

-- whether a word is the function's name: a plain one outside parentheses that has `(` after it
abbrev pub is_callee : ℕ → List ℕ → Words → Bool
is_callee d t ts = nat_eq d 0 && is_some (symbol_of t) && is_first (codes "(") ts

-- how many words stand before the first such name, n of them before these; a `)` without its `(` comes before none
abbrev pub name_from : ℕ → ℕ → Words → Option ℕ
name_from n d [] = None
name_from n d (t ∷ ts) =
    cond (is_callee d t ts) (Some n)
    (cond (nat_eq d 0 && bytes_eq t (codes ")")) None
    (name_from (n + 1) (depth_after d t) ts))

-- so many tokens at the end
abbrev pub last_tokens : ℕ → List Token → List Token
last_tokens n ts = drop (length ts - n) ts

-- a type that is all of these words
abbrev pub whole : Option (Ty × Words) → Option Ty
whole None = None
whole (Some (t, [])) = Some t
whole (Some (t, w ∷ ws)) = None

-- the type at the end of these tokens
unfoldable pub ret_of : List ℕ → List Token → Option Ty
ret_of line ts =
    cond (is_first (codes "void") (words line (last_tokens 1 ts))) (Some Void)
    (cond (is_first (codes ">") (words line (last_tokens 1 ts))) (whole (ty_at (words line (last_tokens 5 ts)))) (whole (ty_at (words line (last_tokens 1 ts)))))

-- a header, by the tokens between `define` and the last brace
unfoldable pub head_of : List ℕ → List Token → Option Head
head_of line ts = do
  n ← name_from 0 0 (words line ts)
  name ← one symbol_of (words line (drop n ts))
  t ← ret_of line (take n ts)
  ps ← params_at line (drop 2 (drop n ts))
  Some (record { before = span line (take (n - ty_len t) ts); ret = t; name = name.0; params = ps.0; after = span line ps.1 })

-- the tokens between the first and the last
abbrev pub inner : List Token → List Token
inner ts = take (length ts - 2) (drop 1 ts)

-- the header of a `define` line, where it is of the profile
unfoldable pub header : List ℕ → List Token → Option Head
header line ts = cond (list_all is_ascii (words line ts)) (head_of line (inner ts)) None

-- whether the last token is `{`
abbrev pub ends_open : List ℕ → List Token → Bool
ends_open line ts = is_first (codes "{") (words line (last_tokens 1 ts))
