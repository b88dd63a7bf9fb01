-- The definitions at work on small lines.
use Rattle.std.proofs.Common.{◌≡◌, true, false, [], ◌∷◌, Some, refl}
use Rattle.std.specs.Prelude.{codes}
use Rattle.ir_lex.specs.Bytes.{begins_name, is_word_byte, is_digit, is_sigil, is_mark, is_blank, is_control}
use Rattle.ir_lex.specs.Faults.{after, is_fault}
use Rattle.ir_lex.specs.Tokens.{IsToken, Name, QuotedName, Unnamed, Text, Mark, Run, Single, AreTokens}
use Rattle.ir_lex.specs.Words.{word}
use Rattle.ir_lex.specs.Scan.{string_len, name_len, more_len, cut, texts, fault_from}
use Rattle.ir_lex.specs.declared.faults.Part.TheVariants.{Plain, Quoted, Comment}
use Rattle.ir_lex.proofs.Laws.{tokens_of_cut}

-- `%x`
a_name : IsToken 37 (codes "x")
unfolding is_sigil is_word_byte begins_name
a_name = Name refl refl

-- `@"a b"`
a_quoted_name : IsToken 64 (codes "\"a b\"")
unfolding is_sigil
a_quoted_name = QuotedName refl refl

-- `%12`
an_unnamed_local : IsToken 37 (codes "12")
unfolding is_digit
an_unnamed_local = Unnamed refl refl

-- `"a;"`
a_string : IsToken 34 (codes "a;\"")
a_string = Text refl

-- `!dbg`
a_mark : IsToken 33 (codes "dbg")
unfolding is_mark is_word_byte begins_name
a_mark = Mark refl refl

-- `i32`
a_run : IsToken 105 (codes "32")
unfolding is_word_byte begins_name
a_run = Run refl

-- `,`
a_byte : IsToken 44 []
a_byte = Single refl

-- the tokens of a line by their places
places : cut (codes "a ,") ≡ record { from = 0; to = 1 } ∷ record { from = 2; to = 3 } ∷ []
unfolding cut more_len is_blank is_sigil is_mark is_word_byte begins_name
places = refl

are_tokens : AreTokens 0 (codes "a ,") (record { from = 0; to = 1 } ∷ record { from = 2; to = 3 } ∷ [])
are_tokens = rw (← places) (tokens_of_cut (codes "a ,"))

-- the bytes of a token and of all tokens
a_word : word (codes "add i32") (record { from = 4; to = 7 }) ≡ codes "i32"
unfolding word
a_word = refl

-- the tokens of a line by their bytes; the longest is taken, digits after a name's first byte are of it, and a comment is left out
line_texts : texts (codes "%x = add i32 %12ab, -7 ; \"") ≡ codes "%x" ∷ codes "=" ∷ codes "add" ∷ codes "i32" ∷ codes "%12" ∷ codes "ab" ∷ codes "," ∷ codes "-7" ∷ []
unfolding texts more_len name_len string_len is_blank is_sigil is_mark is_word_byte begins_name is_digit
line_texts = refl

-- a control byte, and a string that does not close: its quote is the fault
control_fault : is_fault (104 ∷ 105 ∷ 1 ∷ []) 2 ≡ true
unfolding is_control
control_fault = refl

string_fault : is_fault (codes "a \"b") 2 ≡ true
unfolding is_control
string_fault = refl

string_closes : is_fault (codes "a \"b\"") 2 ≡ false
unfolding is_control
string_closes = refl

-- a quote in a comment opens nothing
comment_quote : is_fault (codes "a ; \"b") 4 ≡ false
unfolding is_control
comment_quote = refl

first_fault : fault_from Plain 0 (104 ∷ 105 ∷ 1 ∷ []) ≡ Some 2
unfolding is_control
first_fault = refl

-- which part of a line stands after its beginning
in_string : after Plain (codes "a \"b;") ≡ Quoted
in_string = refl

in_comment : after Plain (codes "\"b\" ;\"") ≡ Comment
in_comment = refl
