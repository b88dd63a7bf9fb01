-- Calls: what stands where in `%x = TAIL call PRE TYPE @f(ARGS) POST`, and what is kept of it.
-- LLVM Language Reference, "'call' Instruction".
use Rattle.std.specs.Prelude.{◌≡◌, refl, ℕ, suc, ◌+◌, ◌-◌, Bool, not, ◌&&◌, ◌||◌, cond, Option, Some, None, List, [], ◌∷◌, ◌++◌, codes, bytes_eq, nat_eq, length, take, drop}
use Rattle.vx_digits.specs.Numbers.{number_of, one_more, fitting}
use Rattle.vx_digits.specs.Optional.{◌>>=◌, when}
use Rattle.ir_lex.specs.Bytes.{begins_name, is_word_byte, is_digit, is_sigil, is_mark, is_blank}
use Rattle.ir_lex.specs.Scan.{string_len, name_len, more_len, cut}
use Rattle.ir_lex.specs.declared.list.Token.{Token}
use Rattle.ir_lex.specs.Words.{word, words}
use Rattle.ir_types.specs.declared.ty.Ty.{Ty}
use Rattle.ir_types.specs.declared.ty.Ty.TheVariants.{Void, Int}
use Rattle.ir_types.specs.declared.op.Op.TheVariants as ops
use Rattle.ir_draft.specs.declared.written.Written.{Written}
use Rattle.ir_draft.specs.declared.written.Written.TheVariants.{Lit}
use Rattle.ir_types.specs.declared.call_site.CallSite.{CallSite}
use Rattle.ir_draft.specs.declared.written.Arg.{Arg}
use Rattle.ir_line.specs.declared.calls.Arguments.{Arguments}
use Rattle.ir_draft.specs.declared.line.Line.{Line}
use Rattle.ir_draft.specs.declared.line.Line.TheVariants as lines
use Rattle.ir_words.specs.Values.{width_of, decimal_of, bits_number, lane_of, local_of, named, symbol_of, is_some}
use Rattle.ir_words.specs.Words.{Words, one, is_first}
use Rattle.ir_words.specs.Reading.{has, ty_at, lanes_at, literal_at}
use Rattle.ir_forms.specs.Operands.{choose, symbol_at, unnamed_at, operand_at}
use Rattle.ir_line.specs.Headers.{span, depth_after, attrs_len, is_banned, ty_len, ret_of}

-- the callee

-- how many words stand before the first plain name outside parentheses, n of them before these; a `)` without its `(` comes before none
abbrev pub symbol_from : ℕ → ℕ → Words → Option ℕ
symbol_from n d [] = None
symbol_from n d (t ∷ ts) =
    cond (nat_eq d 0 && is_some (symbol_of t)) (Some n)
    (cond (nat_eq d 0 && bytes_eq t (codes ")")) None
    (symbol_from (n + 1) (depth_after d t) ts))

-- one argument

-- how many `<` are open after a word, where d parentheses and so many `<` are open before it; inside parentheses they do not count
abbrev pub angles_after : ℕ → ℕ → List ℕ → ℕ
angles_after d a t = cond (nat_eq d 0 && bytes_eq t (codes "<")) (a + 1) (cond (nat_eq d 0 && bytes_eq t (codes ">")) (a - 1) a)

-- whether a word ends an argument, where d parentheses and a `<` are open: a comma outside of both, or the `)` after all arguments
abbrev pub ends_argument : ℕ → ℕ → List ℕ → Bool
ends_argument d a t = nat_eq d 0 && (bytes_eq t (codes ")") || nat_eq a 0 && bytes_eq t (codes ","))

-- how many words the argument at the front has
abbrev pub argument_len : ℕ → ℕ → Words → ℕ
argument_len d a [] = 0
argument_len d a (t ∷ ts) = cond (ends_argument d a t) 0 (suc (argument_len (depth_after d t) (angles_after d a t) ts))

abbrev pub argument_at : List ℕ → List Token → List Token
argument_at line ts = take (argument_len 0 0 (words line ts)) ts

abbrev pub after_argument : List ℕ → List Token → List Token
after_argument line ts = drop (argument_len 0 0 (words line ts)) ts

-- an operand that is all of the words
abbrev pub whole_operand : Option (Written × Words) → Option Written
whole_operand None = None
whole_operand (Some (o, [])) = Some o
whole_operand (Some (o, w ∷ ws)) = None

-- the longest end of these words that is one operand of the type, after the number of words before it, n of them before these
abbrev pub operand_from : Ty → ℕ → Words → Option (ℕ × Written)
operand_from t n [] = None
operand_from t n (w ∷ ws) = choose (whole_operand (operand_at t (w ∷ ws))) (λ o. Some (n, o)) (operand_from t (n + 1) ws)

-- whether these words are attributes of a call of the profile
abbrev pub are_attributes : Words → Bool
are_attributes ts = nat_eq (attrs_len 0 ts) (length ts) && not (is_banned ts)

-- an argument after its type, with its attributes
unfoldable pub argument_of : List ℕ → Ty → List Token → Option (Arg × List ℕ)
argument_of line t ts = do
  o ← operand_from t 0 (words line ts)
  when (are_attributes (words line (take o.0 ts))) (record { ty = t; opd = o.1 }, span line (take o.0 ts))

-- an argument that is all of these tokens
unfoldable pub argument : List ℕ → List Token → Option (Arg × List ℕ)
argument line ts = ty_at (words line ts) >>= (λ t. argument_of line t.0 (drop (ty_len t.0) ts))

-- the arguments

abbrev pub no_arguments : Arguments
no_arguments = record { args = []; attrs = [] }

abbrev pub one_argument : Arg × List ℕ → Arguments
one_argument a = record { args = a.0 ∷ []; attrs = a.1 ∷ [] }

-- arguments before those that are read
abbrev pub with_arguments : Arguments → Option (Arguments × List Token) → Option (Arguments × List Token)
with_arguments i read = read >>= (λ x. Some (record { args = i.args ++ x.0.args; attrs = i.attrs ++ x.0.attrs }, x.1))

-- the arguments, where a `)` follows
abbrev pub closed_arguments : List ℕ → Arguments → List Token → Option (Arguments × List Token)
closed_arguments line i ts = cond (is_first (codes ")") (words line ts)) (Some (i, drop 1 ts)) None

-- arguments joined by commas, with the `)` after them; the tokens `bound` only count
abbrev pub arguments_within : List Token → List ℕ → List Token → Option (Arguments × List Token)
arguments_within [] line ts = None
arguments_within (_ ∷ bound) line ts = argument line (argument_at line ts) >>= (λ a.
    cond (is_first (codes ",") (words line (after_argument line ts)))
    (with_arguments (one_argument a) (arguments_within bound line (drop 1 (after_argument line ts))))
    (closed_arguments line (one_argument a) (after_argument line ts)))

-- the arguments with the parentheses around them
unfoldable pub arguments_at : List ℕ → List Token → Option (Arguments × List Token)
arguments_at line ts =
    cond (is_first (codes "(") (words line ts))
    (cond (is_first (codes ")") (words line (drop 1 ts))) (Some (no_arguments, drop 2 ts)) (arguments_within (drop 1 ts) line (drop 1 ts)))
    None

-- what stands after the arguments

-- whether each parenthesis has its mate, d more of them being open before
abbrev pub is_balanced : ℕ → Words → Bool
is_balanced d [] = nat_eq d 0
is_balanced d (t ∷ ts) = not (nat_eq d 0 && bytes_eq t (codes ")")) && is_balanced (depth_after d t) ts

-- bundles of operands, in `[ ]`, are outside the profile
abbrev pub may_follow : Words → Bool
may_follow ts = is_balanced 0 ts && not (has (codes "[") ts)

-- the call

-- whether a result is named exactly where there is one
abbrev pub names_result : Option (List ℕ) → Ty → Bool
names_result x Void = not (is_some x)
names_result x _ = is_some x

-- a call of its parts
abbrev pub call_line : Option (List ℕ) → Ty → CallSite → List Arg → Line
call_line x t site args = lines.Stmt (record { result = x; ty = t; op = ops.Call site; args = args; labels = [] })

-- a call of its parts: the tokens of TAIL and PRE, what is called, and the tokens of POST
abbrev pub called : List ℕ → Option (List ℕ) → List Token → List Token → Ty → List ℕ → Arguments → List Token → Line
called line x tail pre t callee i post = call_line x t (record { tail = span line tail; pre = span line pre; callee = callee; attrs = i.attrs; post = span line post }) i.args

-- a call by the tokens after the word `call`
unfoldable pub call_after : List ℕ → Option (List ℕ) → List Token → List Token → Option Line
call_after line x tail ts = do
  n ← symbol_from 0 0 (words line ts)
  f ← one symbol_of (words line (drop n ts))
  t ← ret_of line (take n ts)
  i ← arguments_at line (drop 1 (drop n ts))
  when (names_result x t && may_follow (words line i.1)) (called line x tail (take (n - ty_len t) ts) t f.0 i.0 i.1)

-- how many words TAIL has
abbrev pub tail_len : Words → ℕ
tail_len ts = cond (is_first (codes "tail") ts || is_first (codes "notail") ts) 1 0

abbrev pub tail_of : List ℕ → List Token → List Token
tail_of line ts = take (tail_len (words line ts)) ts

abbrev pub after_tail : List ℕ → List Token → List Token
after_tail line ts = drop (tail_len (words line ts)) ts

-- a call after the name of its result
unfoldable pub call_for : List ℕ → Option (List ℕ) → List Token → Option Line
call_for line x ts = cond (is_first (codes "call") (words line (after_tail line ts))) (call_after line x (tail_of line ts) (drop 1 (after_tail line ts))) None

-- the call that all of these tokens are
unfoldable pub call : List ℕ → List Token → Option Line
call line ts =
    choose (one local_of (words line ts))
    (λ x. cond (is_first (codes "=") (words line (drop 1 ts))) (call_for line (Some x.0) (drop 2 ts)) None)
    (call_for line None ts)

-- examples

abbrev plain : List ℕ
plain = codes "call void @k()"

-- the parts that are absent are empty
plain_call : call plain (cut plain) ≡ Some (lines.Stmt (record { result = None; ty = Void; op = ops.Call (record { tail = []; pre = []; callee = codes "k"; attrs = []; post = [] }); args = []; labels = [] }))
unfolding cut string_len name_len more_len begins_name is_word_byte is_digit is_sigil is_mark is_blank word local_of named symbol_of ret_of arguments_at call_after call_for call
plain_call = refl

-- a value is named
abbrev unnamed : List ℕ
unnamed = codes "call i8 @f()"

unnamed_call : call unnamed (cut unnamed) ≡ None
unfolding cut string_len name_len more_len begins_name is_word_byte is_digit is_sigil is_mark is_blank word local_of named symbol_of width_of ty_at ret_of arguments_at call_after call_for call
unnamed_call = refl

-- `i8 range(0, 5) %a` is eight words, and `<i8 1, i8 2>` seven
comma_in_parentheses : argument_len 0 0 (codes "i8" ∷ codes "range" ∷ codes "(" ∷ codes "0" ∷ codes "," ∷ codes "5" ∷ codes ")" ∷ codes "%a" ∷ codes "," ∷ []) ≡ 8
comma_in_parentheses = refl

comma_in_vector : argument_len 0 0 (codes "<" ∷ codes "i8" ∷ codes "1" ∷ codes "," ∷ codes "i8" ∷ codes "2" ∷ codes ">" ∷ codes ")" ∷ []) ≡ 7
comma_in_vector = refl

-- `align 4` is an attribute and an operand
attribute_first : operand_from (Int 8) 0 (codes "align" ∷ codes "4" ∷ []) ≡ Some (1, Lit (record { ty = Int 8; lanes = Some 4 ∷ [] }))
unfolding operand_at unnamed_at symbol_at literal_at lanes_at local_of lane_of bits_number decimal_of number_of one_more fitting
attribute_first = refl
