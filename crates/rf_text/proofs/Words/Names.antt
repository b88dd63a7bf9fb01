-- Names as they are printed: of locals, of globals and of labels.
use Rattle.std.proofs.Common.{◌≡◌, ℕ, inl, inr, Bool, true, false, List, [], ◌∷◌, ◌++◌, nat_eq, Some, refl}
use Rattle.std.specs.Fmt.{decimal}
use Rattle.std.specs.List.{list_all}
use Rattle.std.specs.Char.{is_ascii_digit}
use Rattle.ir_lex.specs.Bytes.{quote, begins_name, is_word_byte, is_digit, is_sigil, is_blank, is_control}
use Rattle.ir_lex.specs.Tokens.{IsToken, Name, Unnamed, is_name}
use Rattle.ir_lex.specs.Scan.{texts}
use Rattle.ir_lex.proofs.Again.{stops}
use Rattle.ir_lex.proofs.Classes.{both, clash, digit_no_name, name_word, digit_word}
use Rattle.ir_words.specs.Values.{local_of, named, symbol_of, label_of}
use Rattle.rf_text.specs.Shown.{IsLocalName}
use Rattle.rf_text.proofs.Words.Read.{is_plain, plain_is, word_plain, is_run, run_plain, one_word}
use Rattle.rf_text.proofs.Words.Numbers.{IsDecimal, decimal_is, number_run}

-- a local's name, as words are made of it
pub record Named (name : List ℕ) : Type 0 where
  pub run : is_run name ≡ true
  pub token : IsToken 37 name
  pub local : local_of (37 ∷ name) ≡ Some name
  pub label : label_of name ≡ Some name

word_no_quote : (b : ℕ) → is_word_byte b ≡ true → nat_eq b quote ≡ false
word_no_quote b h = (plain_is b (word_plain b h)).quoted

plain_named : (name : List ℕ) → is_name name ≡ true → Named name
unfolding local_of named label_of is_sigil is_digit
plain_named [] h = clash false refl h
plain_named (b ∷ bs) h =
    let first : begins_name b ≡ true = (both (begins_name b) _ h).0 in
    let word : is_word_byte b ≡ true = name_word b first in
    let no_digit : is_ascii_digit b ≡ false = digit_test b first (is_ascii_digit b) refl in
    let no_quote : nat_eq b quote ≡ false = word_no_quote b word in
    record {
      run = rw word (both (begins_name b) _ h).1;
      token = Name refl h;
      local = rw (no_quote, no_digit) refl;
      label = rw first refl;
    } where
      digit_test : (b : ℕ) → begins_name b ≡ true → (t : Bool) → is_ascii_digit b ≡ t → t ≡ false
      digit_test b first true e = clash (begins_name b) (digit_no_name b e) first
      digit_test b first false e = refl

number_named : (n : ℕ) (ds : List ℕ) → IsDecimal n ds → Named ds
unfolding local_of named label_of is_sigil is_digit
number_named n [] d = clash false refl d.number
number_named n (b ∷ bs) d =
    let first : is_ascii_digit b ≡ true = (both (is_digit b) _ d.number).0 in
    let no_name : begins_name b ≡ false = digit_no_name b first in
    let no_quote : nat_eq b quote ≡ false = word_no_quote b (digit_word b first) in
    let all : list_all is_ascii_digit (b ∷ bs) ≡ true = d.number in
    record {
      run = number_run (b ∷ bs) d.number;
      token = Unnamed refl d.number;
      local = rw (no_quote, first, d.short) refl;
      label = rw (no_name, all, d.short) refl;
    }

pub local_named : (name : List ℕ) → IsLocalName name → Named name
local_named name (inl h) = plain_named name h
local_named name (inr (n, small, e)) = rw e (number_named n (decimal n) (decimal_is n small))

-- a local is one word
pub local_texts : (name rest : List ℕ) → Named name → stops rest ≡ true → texts (37 ∷ name ++ rest) ≡ (37 ∷ name) ∷ texts rest
unfolding is_blank is_control
local_texts [] rest n stop = clash false refl n.run
local_texts (b ∷ bs) rest n stop = one_word 37 (b ∷ bs) rest (run_plain (b ∷ bs) n.run) refl n.token stop

-- so is a global
pub symbol_texts : (name rest : List ℕ) → is_name name ≡ true → stops rest ≡ true → texts (64 ∷ name ++ rest) ≡ (64 ∷ name) ∷ texts rest
unfolding is_blank is_control is_sigil
symbol_texts [] rest h stop = clash false refl h
symbol_texts (b ∷ bs) rest h stop = one_word 64 (b ∷ bs) rest (run_plain (b ∷ bs) (plain_named (b ∷ bs) h).run) refl (Name refl h) stop

pub symbol_read : (name : List ℕ) → is_name name ≡ true → symbol_of (64 ∷ name) ≡ Some name
unfolding symbol_of
symbol_read [] h = clash false refl h
symbol_read (b ∷ bs) h = let no_quote : nat_eq b quote ≡ false = word_no_quote b (name_word b (both (begins_name b) _ h).0) in rw no_quote refl

pub run_is_plain : (w : List ℕ) → is_run w ≡ true → list_all is_plain w ≡ true
run_is_plain [] h = refl
run_is_plain (b ∷ bs) h = run_plain (b ∷ bs) h

pub symbol_plain : (name : List ℕ) → is_name name ≡ true → list_all is_plain name ≡ true
symbol_plain name h = run_is_plain name (plain_named name h).run
