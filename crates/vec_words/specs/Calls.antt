-- How a call word and the words of globals are spelled.
use Rattle.std.specs.Prelude.{◌≡◌, refl, ℕ, pos, Bool, true, false, cond, Option, Some, None, List, [], ◌∷◌, ◌++◌, bytes_eq, slice_get, codes}
use Rattle.vx_digits.specs.Numbers.{number_of, one_more}
use Rattle.vx_digits.specs.Optional.{◌>>=◌, when}
use Rattle.vec_words.specs.declared.literal.Lit.{Lit}
use Rattle.vec_words.specs.declared.literal.Lit.TheVariants.{Number, Poison}
use Rattle.vec_words.specs.declared.call.Arg.{Arg}
use Rattle.vec_words.specs.declared.call.Arg.TheVariants.{One, Zero, Row, Made, Within, Global}
use Rattle.vec_words.specs.declared.call.Call.{Call}
use Rattle.vec_words.specs.declared.global.Contents.{Contents}
use Rattle.vec_words.specs.Answers.{choose}
use Rattle.vec_words.specs.Numbers.{plain_of, offset_of}
use Rattle.vec_words.specs.Pieces.{past, cut, closed, piece, is_name, is_callable}
use Rattle.vec_words.specs.Literals.{lit_of, signed_of}
use Rattle.vec_words.specs.Hex.{bytes_of, byte_of, digit_of}

-- what follows a piece: nothing, or a comma and a text that goes on
abbrev pub goes_on_with : {A : Type 0} → Option (List ℕ) → A → (List ℕ → Option A) → Option A
goes_on_with None a more = Some a
goes_on_with (Some t) a more = more t

-- a plain name, and one that a call word may begin with
abbrev pub name_of : List ℕ → Option (List ℕ)
name_of t = when (is_name t) t

abbrev pub callable_of : List ℕ → Option (List ℕ)
callable_of t = when (is_callable t) t

-- literals after others, with commas between; the bytes `bound` only count
abbrev pub lits_within : List ℕ → List Lit → List ℕ → Option (List Lit)
lits_within [] before t = None
lits_within (_ ∷ bound) before t = lit_of (piece t).0 >>= (λ l. goes_on_with (piece t).1 (before ++ l ∷ []) (lits_within bound (before ++ l ∷ [])))

-- the lanes of a vector, of which there is one at least, after their `<`
unfoldable pub row_arg : List ℕ → Option Arg
row_arg t = do
  inner ← closed 62 t
  ls ← lits_within inner [] inner
  Some (Row ls)

-- a new object, by its bytes after `mem:`
unfoldable pub made_arg : List ℕ → Option Arg
made_arg t = bytes_of t >>= (λ bytes. Some (Made bytes))

-- whether an argument makes an object
abbrev pub makes : Option Arg → Bool
makes (Some (Made bytes)) = true
makes _ = false

-- an offset in the object of an argument to the left, after `arg:`
unfoldable pub within_arg : List Arg → List ℕ → Option Arg
within_arg before t = do
  parts ← cut 43 t
  i ← plain_of parts.0
  d ← offset_of parts.1
  when (makes (slice_get before i)) (Within i d)

-- an offset in the object of a global, after `@`
unfoldable pub global_arg : List ℕ → Option Arg
global_arg t = do
  parts ← cut 43 t
  name ← name_of parts.0
  d ← offset_of parts.1
  Some (Global name d)

-- `zeroinitializer` or a literal
abbrev pub plain_arg : List ℕ → Option Arg
plain_arg t = cond (bytes_eq t (codes "zeroinitializer")) (Some Zero) (lit_of t >>= (λ l. Some (One l)))

-- an argument, where the arguments `before` stand to its left
unfoldable pub arg_of : List Arg → List ℕ → Option Arg
arg_of before t =
    choose (past (codes "mem:") t) made_arg
    (choose (past (codes "arg:") t) (within_arg before)
    (choose (past (codes "@") t) global_arg
    (choose (past (codes "<") t) row_arg (plain_arg t))))

-- arguments after others, with commas between; the bytes `bound` only count
abbrev pub args_within : List ℕ → List Arg → List ℕ → Option (List Arg)
args_within [] before t = None
args_within (_ ∷ bound) before t = arg_of before (piece t).0 >>= (λ a. goes_on_with (piece t).1 (before ++ a ∷ []) (args_within bound (before ++ a ∷ [])))

-- what stands between the parentheses
abbrev pub args_of : List ℕ → Option (List Arg)
args_of [] = Some []
args_of (b ∷ bs) = args_within (b ∷ bs) [] (b ∷ bs)

-- a call word: a name that does not begin with `-`, and arguments in parentheses
unfoldable pub call_of : List ℕ → Option Call
call_of t = do
  parts ← cut 40 t
  name ← callable_of parts.0
  inner ← closed 41 parts.1
  args ← args_of inner
  Some (record { name = name; args = args })

-- a global word: `@`, a name, `=` and bytes
unfoldable pub contents_of : List ℕ → Option Contents
contents_of t = do
  u ← past (codes "@") t
  parts ← cut 61 u
  name ← name_of parts.0
  bytes ← bytes_of parts.1
  Some (record { name = name; bytes = bytes })

abbrev pub is_some : {A : Type 0} → Option A → Bool
is_some None = false
is_some (Some a) = true

rows : call_of (codes "d(<6,-8>,poison)") ≡ Some (record { name = codes "d"; args = Row (Number false 6 ∷ Number true 8 ∷ []) ∷ One Poison ∷ [] })
unfolding call_of cut closed arg_of row_arg piece lit_of signed_of number_of one_more
rows = refl

objects : call_of (codes "l(mem:0?,1)") ≡ None
unfolding call_of cut closed arg_of made_arg piece byte_of digit_of
objects = refl

pointers : call_of (codes "p(mem:??ff,arg:0+4,@g+0)") ≡ Some (record { name = codes "p"; args = Made (None ∷ Some 255 ∷ []) ∷ Within 0 (pos 4) ∷ Global (codes "g") (pos 0) ∷ [] })
unfolding call_of cut closed arg_of made_arg within_arg global_arg piece byte_of digit_of plain_of offset_of number_of one_more
pointers = refl

-- an object to the right is no object yet
to_the_right : call_of (codes "p(arg:1+0,mem:)") ≡ None
unfolding call_of cut closed arg_of within_arg piece plain_of offset_of number_of one_more
to_the_right = refl

nothing : call_of (codes "z()") ≡ Some (record { name = codes "z"; args = [] })
unfolding call_of cut closed
nothing = refl

option_word : call_of (codes "-z()") ≡ None
unfolding call_of cut
option_word = refl

global_bytes : contents_of (codes "@g=0102") ≡ Some (record { name = codes "g"; bytes = Some 1 ∷ Some 2 ∷ [] })
unfolding contents_of cut byte_of digit_of
global_bytes = refl
