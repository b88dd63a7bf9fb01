-- What a call spells, as a relation: which tokens stand where in `%x = TAIL call PRE TYPE @f(ARGS) POST`.
-- LLVM Language Reference, "'call' Instruction".
use Rattle.std.specs.Prelude.{◌≡◌, refl, ℕ, ◌<◌, Bool, true, false, not, ◌&&◌, ◌||◌, Option, Some, None, List, [], ◌∷◌, ◌++◌, codes, bytes_eq, nat_eq, length, drop}
use Rattle.ir_lex.specs.declared.list.Token.{Token}
use Rattle.ir_lex.specs.Words.{word, words}
use Rattle.ir_types.specs.declared.ty.Ty.{Ty}
use Rattle.ir_types.specs.declared.ty.Ty.TheVariants.{Void, Int}
use Rattle.ir_draft.specs.declared.line.Line.{Line}
use Rattle.ir_draft.specs.declared.written.Written.{Written}
use Rattle.ir_draft.specs.declared.written.Arg.{Arg}
use Rattle.ir_words.specs.Values.{width_of, local_of, symbol_of, is_some}
use Rattle.ir_words.specs.Words.{Words}
use Rattle.ir_forms.specs.Pieces.{SpellsTy, Integer, SpellsOperand}
use Rattle.ir_line.specs.declared.calls.Arguments.{Arguments}
use Rattle.ir_line.specs.Headers.{span, depth_after}
use Rattle.ir_line.specs.Calls.{angles_after, ends_argument, are_attributes, no_arguments, one_argument, may_follow, names_result, called}

-- the name of the result and `=`, or nothing
pub data SpellsResult (line : List ℕ) : Option (List ℕ) → List Token → Type 0 where
  Unnamed : SpellsResult line None []
  Named : (name : List ℕ) (x equals : Token) → local_of (word line x) ≡ Some name → word line equals ≡ codes "=" → SpellsResult line (Some name) (x ∷ equals ∷ [])

-- TAIL: `tail`, `notail` or nothing
pub data SpellsTail (line : List ℕ) : List Token → Type 0 where
  Untold : SpellsTail line []
  Tail : (t : Token) → word line t ≡ codes "tail" → SpellsTail line (t ∷ [])
  NoTail : (t : Token) → word line t ≡ codes "notail" → SpellsTail line (t ∷ [])

-- the words of a type that is returned
pub data SpellsRet : Ty → Words → Type 0 where
  NoValue : SpellsRet Void (codes "void" ∷ [])
  Valued : (t : Ty) (ts : Words) → SpellsTy t ts [] → SpellsRet t ts

-- whether these words, with d parentheses open before them, are outside parentheses after them, and none of them is a plain symbol outside
-- parentheses or a `)` without its `(`
abbrev pub are_unnamed : ℕ → Words → Bool
are_unnamed d [] = nat_eq d 0
are_unnamed d (t ∷ ts) = not (nat_eq d 0 && (is_some (symbol_of t) || bytes_eq t (codes ")"))) && are_unnamed (depth_after d t) ts

-- whether the word `by` is the first that ends an argument of these words, with d parentheses and a `<` open before them
abbrev pub ends_by : ℕ → ℕ → Words → List ℕ → Bool
ends_by d a [] by = ends_argument d a by
ends_by d a (t ∷ ts) by = not (ends_argument d a t) && ends_by (depth_after d t) (angles_after d a t) ts by

-- one argument: its type, its attributes, and its operand, which is the longest end that is an operand of the type
pub record SpellsArgument (line : List ℕ) (a : Arg × List ℕ) (ts : List Token) : Type 0 where
  pub type : List Token
  pub kept : List Token
  pub value : List Token
  pub whole : ts ≡ type ++ (kept ++ value)
  pub typed : SpellsTy a.0.ty (words line type) []
  pub operand : SpellsOperand a.0.ty a.0.opd (words line value) []
  pub longest : (m : ℕ) (o : Written) → m < length kept → SpellsOperand a.0.ty o (drop m (words line (kept ++ value))) [] → ⊥
  pub attributes : are_attributes (words line kept) ≡ true
  pub text : a.1 ≡ span line kept

-- arguments joined by commas, with the `)` after them, and what follows
pub data SpellsArguments (line : List ℕ) : Arguments → List Token → List Token → Type 0 where
  LastArgument : (a : Arg × List ℕ) (own : List Token) (close : Token) (rest : List Token) → SpellsArgument line a own → word line close ≡ codes ")" →
      ends_by 0 0 (words line own) (codes ")") ≡ true → SpellsArguments line (one_argument a) (own ++ close ∷ rest) rest
  MoreArguments : (a : Arg × List ℕ) (i : Arguments) (own : List Token) (comma : Token) (us rest : List Token) → SpellsArgument line a own → word line comma ≡ codes "," →
      ends_by 0 0 (words line own) (codes ",") ≡ true → SpellsArguments line i us rest → SpellsArguments line (record { args = a.0 ∷ i.args; attrs = a.1 ∷ i.attrs }) (own ++ comma ∷ us) rest

-- what stands after the `(`, up to the `)`, and what follows
pub data SpellsInside (line : List ℕ) : Arguments → List Token → List Token → Type 0 where
  NoArgument : (close : Token) (rest : List Token) → word line close ≡ codes ")" → SpellsInside line no_arguments (close ∷ rest) rest
  SomeArguments : (i : Arguments) (ts rest : List Token) → SpellsArguments line i ts rest → SpellsInside line i ts rest

-- the tokens are the call
pub record SpellsCall (line : List ℕ) (ts : List Token) (l : Line) : Type 0 where
  pub name : Option (List ℕ)
  pub ret : Ty
  pub callee : List ℕ
  pub found : Arguments
  -- the tokens of each part, and of the words `call`, the callee and `(`
  pub front : List Token
  pub tail : List Token
  pub call : Token
  pub pre : List Token
  pub type : List Token
  pub symbol : Token
  pub paren : Token
  pub inside : List Token
  pub post : List Token
  pub whole : ts ≡ front ++ (tail ++ (call ∷ (pre ++ type) ++ (symbol ∷ paren ∷ inside)))
  pub result : SpellsResult line name front
  pub tailed : SpellsTail line tail
  pub calls : word line call ≡ codes "call"
  pub unnamed : are_unnamed 0 (words line (pre ++ type)) ≡ true
  pub returned : SpellsRet ret (words line type)
  pub named : symbol_of (word line symbol) ≡ Some callee
  pub opens : word line paren ≡ codes "("
  pub arguments : SpellsInside line found inside post
  -- a result is named exactly where there is one, and no bundles of operands follow
  pub gives : names_result name ret ≡ true
  pub follows : may_follow (words line post) ≡ true
  pub is : l ≡ called line name tail pre ret callee found post

-- the comma in `range(0, 5)` ends no argument, the one after it does
in_parentheses : ends_by 0 0 (codes "i8" ∷ codes "range" ∷ codes "(" ∷ codes "0" ∷ codes "," ∷ codes "5" ∷ codes ")" ∷ codes "%a" ∷ []) (codes ",") ≡ true
in_parentheses = refl

outside : ends_by 0 0 (codes "i8" ∷ codes "0" ∷ codes "," ∷ codes "i8" ∷ []) (codes ",") ≡ false
outside = refl

-- a type that is returned is `void` or a type
byte_returned : SpellsRet (Int 8) (codes "i8" ∷ [])
unfolding width_of
byte_returned = Valued (Int 8) _ (Integer 8 (codes "i8") [] refl)
