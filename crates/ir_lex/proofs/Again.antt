-- What bytes are cut into when others stand after them: the laws by which what is printed is read again.
use Rattle.std.proofs.Common.{◌≡◌, ℕ, suc, zero, ◌+◌, ◌≤◌, ◌==◌, inl, inr, Bool, true, false, cond, not, ◌&&◌, ◌||◌, List, [], ◌∷◌, ◌++◌, length, take, drop, Some, None, refl, sym, ◌∙◌, ap, subst, arith, eqb-true, ◌≢◌, length-append}
use Rattle.std.proofs.Math.Seq.{take-length}
use Rattle.std.proofs.lemmas.List.Folds.{list_any-append}
use Rattle.ir_lex.proofs.Runs.{take_nothing}
use Rattle.std.proofs.lemmas.List.{take-append-le, take-append-drop}
use Rattle.std.specs.List.{list_all, prefix_len}
use Rattle.ir_lex.specs.Bytes.{quote, semicolon, begins_name, is_word_byte, is_digit, is_sigil, is_mark, is_blank, is_control}
use Rattle.ir_lex.specs.Faults.{enter, after, opens, has_quote, begins_fault}
use Rattle.ir_lex.specs.Tokens.{IsToken, Name, QuotedName, Unnamed, Text, Mark, Run, Single, Longest, is_string, ends_string, is_empty, is_name, is_number}
use Rattle.ir_lex.specs.Scan.{one_more, string_len, name_len, more_len, texts_from, texts, fault_from}
use Rattle.ir_lex.specs.declared.faults.Part.{Part}
use Rattle.ir_lex.specs.declared.faults.Part.TheVariants.{Plain, Quoted, Comment}
use Rattle.ir_lex.proofs.Classes.{both, either, clash, by_quote, digit_word, name_word, no_word_no_name, mark_no_quote, percent_sigil, sigil_no_quote}
use Rattle.ir_lex.proofs.Longer.{longest_more, longest_once, string_of_quote}

-- the part of the line after two pieces
pub after_append : (part : Part) (bs cs : List ℕ) → after part (bs ++ cs) ≡ after (after part bs) cs
after_append part [] cs = refl
after_append part (b ∷ bs) cs = after_append (enter part b) bs cs

-- a comment does not end in its line
pub after_comment : (bs : List ℕ) → after Comment bs ≡ Comment
after_comment [] = refl
after_comment (b ∷ bs) = after_comment bs

-- a byte of a run opens nothing
word_plain : (b : ℕ) → is_word_byte b ≡ true → enter Plain b ≡ Plain
unfolding is_word_byte begins_name
word_plain b w =
    elim (b == quote) as (λ t. (b == quote) ≡ t → cond t Quoted (cond (b == semicolon) Comment Plain) ≡ Plain) [
      | true ↦ λ q. clash (is_word_byte b) (by_quote (λ x. is_word_byte x ≡ false) refl b q) w
      | false ↦ λ q. elim (b == semicolon) as (λ t. (b == semicolon) ≡ t → cond t Comment Plain ≡ Plain) [
        | true ↦ λ s. clash (is_word_byte b) (subst (λ x. is_word_byte x ≡ false) (sym (eqb-true b semicolon s)) refl) w
        | false ↦ λ s. refl
      ] refl
    ] refl

words_plain : (bs : List ℕ) → list_all is_word_byte bs ≡ true → after Plain bs ≡ Plain
words_plain [] h = refl
words_plain (b ∷ bs) h = rw (word_plain b (both _ _ h).0) (words_plain bs (both _ _ h).1)

digits_plain : (bs : List ℕ) → list_all is_digit bs ≡ true → after Plain bs ≡ Plain
digits_plain [] h = refl
digits_plain (b ∷ bs) h = rw (word_plain b (digit_word b (both _ _ h).0)) (digits_plain bs (both _ _ h).1)

-- after its closing quote a string is over
string_plain : (bs : List ℕ) → ends_string bs ≡ true → after Quoted bs ≡ Plain
string_plain [] h = cc
string_plain (b ∷ bs) h = here (b == quote) bs h (string_plain bs) where
  here : (t : Bool) (bs : List ℕ) → cond t (is_empty bs) (ends_string bs) ≡ true → (ends_string bs ≡ true → after Quoted bs ≡ Plain) → after (cond t Plain Quoted) bs ≡ Plain
  here true [] h next = refl
  here true (b ∷ bs) h next = cc
  here false bs h next = next h

-- a string that does not close goes on
string_open_on : (bs : List ℕ) → string_len bs ≡ 0 → after Quoted bs ≡ Quoted
unfolding string_len
string_open_on [] h = refl
string_open_on (b ∷ bs) h = here (b == quote) (string_len bs) h (string_open_on bs) where
  here : (t : Bool) (n : ℕ) → cond t 1 (one_more n) ≡ 0 → (n ≡ 0 → after Quoted bs ≡ Quoted) → after (cond t Plain Quoted) bs ≡ Quoted
  here true n h next = absurd (omega arith)
  here false zero h next = next refl
  here false (suc n) h next = absurd (omega arith)

-- whether bytes do not go on with a word that stands in front of them: they begin with no byte of a run and no quote
abbrev pub stops : List ℕ → Bool
stops [] = true
stops (b ∷ bs) = not (is_word_byte b) && not (b == quote)

-- a string that begins with the first of these bytes ends in them
abbrev pub Closes : List ℕ → Type 0
Closes [] = Unit {0}
Closes (b ∷ bs) = (b == quote) ≡ true → string_len bs ≢ 0

pub no_from : (b : Bool) → not b ≡ true → b ≡ false
no_from true h = cc
no_from false h = refl

run_stops : (p : ℕ → Bool) (bs rest : List ℕ) → prefix_len p rest ≡ 0 → prefix_len p (bs ++ rest) ≡ prefix_len p bs
run_stops p [] rest h = h
run_stops p (b ∷ bs) rest h = rw (run_stops p bs rest h) refl

-- no word goes on with the bytes after it
word_stops : (rest : List ℕ) → stops rest ≡ true → prefix_len is_word_byte rest ≡ 0
word_stops [] h = refl
word_stops (x ∷ rest) h = let w : is_word_byte x ≡ false = no_from _ (both _ _ h).0 in rw w refl

digits_stop : (rest : List ℕ) → stops rest ≡ true → prefix_len is_digit rest ≡ 0
digits_stop [] h = refl
digits_stop (x ∷ rest) h = here (is_digit x) refl where
  here : (t : Bool) → is_digit x ≡ t → cond t (1 + prefix_len is_digit rest) 0 ≡ 0
  here true e = clash (is_word_byte x) (no_from _ (both _ _ h).0) (digit_word x e)
  here false e = refl

-- a string that closes ends where it ended
string_stops : (bs rest : List ℕ) → string_len bs ≢ 0 → string_len (bs ++ rest) ≡ string_len bs
unfolding string_len
string_stops [] rest h = absurd (h refl)
string_stops (b ∷ bs) rest h = here (b == quote) h (string_stops bs rest) where
  here : (t : Bool) → cond t 1 (one_more (string_len bs)) ≢ 0 → (string_len bs ≢ 0 → string_len (bs ++ rest) ≡ string_len bs) →
      cond t 1 (one_more (string_len (bs ++ rest))) ≡ cond t 1 (one_more (string_len bs))
  here true h next = refl
  here false h next = let more : string_len bs ≢ 0 = (λ z. h (rw z refl)) in rw (next more) refl

test_same : (t : Bool) (x y v w : ℕ) → (t ≡ true → x ≡ v) → (t ≡ false → y ≡ w) → cond t x y ≡ cond t v w
test_same true x y v w h k = h refl
test_same false x y v w h k = k refl

name_none : (b : ℕ) (rest : List ℕ) → stops rest ≡ true → name_len b rest ≡ 0
unfolding name_len
name_none b [] h = refl
name_none b (x ∷ rest) h =
    let q : (x == quote) ≡ false = no_from _ (both _ _ h).1 in
    let n : begins_name x ≡ false = no_word_no_name x (no_from _ (both _ _ h).0) in
    rw (q, n) (here (b == 37)) where
      here : (t : Bool) → cond t (prefix_len is_digit (x ∷ rest)) 0 ≡ 0
      here true = digits_stop (x ∷ rest) h
      here false = refl

name_stops : (b : ℕ) (bs rest : List ℕ) → stops rest ≡ true → Closes bs → name_len b (bs ++ rest) ≡ name_len b bs
unfolding name_len
name_stops b [] rest h closed = name_none b rest h
name_stops b (c ∷ cs) rest h closed =
    test_same (c == quote) _ _ _ _ (λ q. ap one_more (string_stops cs rest (closed q))) (λ q.
    test_same (begins_name c) _ _ _ _ (λ n. rw (run_stops is_word_byte cs rest (word_stops rest h)) refl) (λ n.
    test_same (b == 37) _ _ _ _ (λ p. run_stops is_digit (c ∷ cs) rest (digits_stop rest h)) (λ p. refl)))

-- a token ends where it ended
more_stops : (b : ℕ) (bs rest : List ℕ) → stops rest ≡ true → Closes (b ∷ bs) → (is_sigil b ≡ true → Closes bs) → more_len b (bs ++ rest) ≡ more_len b bs
unfolding more_len
more_stops b bs rest h closed named =
    test_same (is_sigil b) _ _ _ _ (λ s. name_stops b bs rest h (named s)) (λ s.
    test_same (b == quote) _ _ _ _ (λ q. string_stops bs rest (closed q)) (λ q.
    test_same (is_mark b || is_word_byte b) _ _ _ _ (λ w. run_stops is_word_byte bs rest (word_stops rest h)) (λ w. refl)))

-- what is the longest token stays so in front of bytes that stop it
pub longest_before : (b : ℕ) (bs rest : List ℕ) (n : ℕ) → stops rest ≡ true → Closes (b ∷ bs) → (is_sigil b ≡ true → Closes bs) → Longest b bs n → Longest b (bs ++ rest) n
longest_before b bs rest n h closed named token =
    let e : more_len b (bs ++ rest) ≡ n = more_stops b bs rest h closed named ∙ longest_once b bs _ n (longest_more b bs) token in
    subst (Longest b (bs ++ rest)) e (longest_more b (bs ++ rest))

-- a token that is the longest in front of other bytes is so without them
pub longest_alone : (b : ℕ) (bs rest : List ℕ) (n : ℕ) → n ≤ length bs → Longest b (bs ++ rest) n → Longest b bs n
longest_alone b bs rest n l token = record {
  within = l;
  stands = subst (IsToken b) (take-append-le n bs rest l) token.stands;
  longest = λ m short t. token.longest m (omega (arith, length-append bs rest)) (subst (IsToken b) (sym (take-append-le m bs rest short)) t);
}

-- where all strings are closed and no comment has begun, a string at the first byte closes
pub closes_plain : (bs : List ℕ) → after Plain bs ≡ Plain → Closes bs
closes_plain [] h = tt
closes_plain (b ∷ bs) h = λ q z. let open_on : after Quoted bs ≡ Quoted = string_open_on bs z in let e : after (enter Plain b) bs ≡ Plain = h in quoted_not (rw (q, open_on) at e) where
  quoted_not : {P : Type 0} → Quoted ≡ Plain → P
  quoted_not e = cc

-- a byte that is no quote and begins no comment opens nothing
pub plain_byte : (b : ℕ) → (b == quote) ≡ false → (b == semicolon) ≡ false → enter Plain b ≡ Plain
plain_byte b q s = rw (q, s) refl

name_bytes : (bs : List ℕ) → is_name bs ≡ true → after Plain bs ≡ Plain
name_bytes [] h = cc
name_bytes (b ∷ bs) h = words_plain (b ∷ bs) (rw (name_word b (both _ _ h).0) (both _ _ h).1)

number_bytes : (bs : List ℕ) → is_number bs ≡ true → after Plain bs ≡ Plain
number_bytes [] h = cc
number_bytes (b ∷ bs) h = digits_plain (b ∷ bs) h

string_bytes : (bs : List ℕ) → is_string bs ≡ true → after Plain bs ≡ Plain
string_bytes [] h = cc
string_bytes (b ∷ bs) h = let q : (b == quote) ≡ true = (both _ _ h).0 in rw q (string_plain bs (both _ _ h).1)

-- after a token no string is open
pub token_plain : (b : ℕ) (bs : List ℕ) → (b == semicolon) ≡ false → (bs ≡ [] → (b == quote) ≡ false) → IsToken b bs → after Plain (b ∷ bs) ≡ Plain
token_plain b bs s one (Name t h) = rw (plain_byte b (sigil_no_quote b t) s) (name_bytes bs h)
token_plain b bs s one (QuotedName t h) = rw (plain_byte b (sigil_no_quote b t) s) (string_bytes bs h)
token_plain b bs s one (Unnamed e h) = rw (plain_byte b (sigil_no_quote b (percent_sigil b e)) s) (number_bytes bs h)
token_plain b bs s one (Text h) = string_bytes (b ∷ bs) h
token_plain b bs s one (Mark t h) = rw (plain_byte b (mark_no_quote b t) s) (words_plain bs h)
token_plain b bs s one (Run h) = words_plain (b ∷ bs) h
token_plain b bs s one (Single e) = rw (e, plain_byte b (one e) s) refl

-- in front of a byte that opens nothing stands what stands after it
not_quoted : {P : Type 0} → Quoted ≡ Plain → P
not_quoted e = cc

not_comment : {P : Type 0} → Comment ≡ Plain → P
not_comment e = cc

pub blank_plain : (b : ℕ) → is_blank b ≡ true → enter Plain b ≡ Plain
unfolding is_blank
blank_plain b h =
    elim (either (b == 32) (b == 9) h) [
      | inl e ↦ subst (λ x. enter Plain x ≡ Plain) (sym (eqb-true b 32 e)) refl
      | inr e ↦ subst (λ x. enter Plain x ≡ Plain) (sym (eqb-true b 9 e)) refl
    ]

-- after the token at the first byte no string is open, where none is open at the end
rest_plain : (b : ℕ) (bs : List ℕ) → (b == semicolon) ≡ false → after Plain (b ∷ bs) ≡ Plain → after Plain (drop (more_len b bs) bs) ≡ Plain
rest_plain b bs s h =
    let token : after Plain (b ∷ take (more_len b bs) bs) ≡ Plain = token_plain b (take (more_len b bs) bs) s one (longest_more b bs).stands in
    let apart : after Plain (b ∷ bs) ≡ after (after Plain (b ∷ take (more_len b bs) bs)) (drop (more_len b bs) bs) =
    ap (after (enter Plain b)) (sym (take-append-drop (more_len b bs) bs)) ∙ after_append (enter Plain b) (take (more_len b bs) bs) (drop (more_len b bs) bs) in
    subst (λ (p : Part). after p (drop (more_len b bs) bs) ≡ Plain) token (sym apart ∙ h) where
      nothing : (t : Bool) → (b == quote) ≡ t → take (more_len b bs) bs ≡ [] → t ≡ false
      nothing false q e = refl
      nothing true q e =
          let none : more_len b bs ≡ 0 = take_nothing _ bs (longest_more b bs).within e in
          absurd (closes_plain (b ∷ bs) h q (string_of_quote b bs q ∙ none))

      one : take (more_len b bs) bs ≡ [] → (b == quote) ≡ false
      one e = nothing (b == quote) refl e

-- the bytes of the tokens of two pieces are those of the one and of the other, where the first leaves no string open and has
-- no comment, and the second does not go on with a word
texts_append_from : (left : ℕ) (bs rest : List ℕ) → left ≤ length bs → after Plain (drop left bs) ≡ Plain → stops rest ≡ true → texts_from left (bs ++ rest) ≡ texts_from left bs ++ texts_from 0 rest
texts_append_from zero [] rest l h stop = refl
texts_append_from (suc left) [] rest l h stop = absurd (omega arith)
texts_append_from (suc left) (b ∷ bs) rest l h stop = texts_append_from left bs rest (omega arith) h stop
texts_append_from zero (b ∷ bs) rest l h stop =
    here (is_blank b) (b == semicolon) refl refl (λ e. texts_append_from 0 bs rest (omega arith) (subst (λ (p : Part). after p bs ≡ Plain) (blank_plain b e) h) stop)
    (λ s. texts_append_from (more_len b bs) bs rest (longest_more b bs).within (rest_plain b bs s h) stop) where
      token : (n : ℕ) → n ≡ more_len b bs → n ≤ length bs → texts_from n (bs ++ rest) ≡ texts_from n bs ++ texts_from 0 rest →
          (b ∷ take n (bs ++ rest)) ∷ texts_from n (bs ++ rest) ≡ (b ∷ take (more_len b bs) bs) ∷ texts_from (more_len b bs) bs ++ texts_from 0 rest
      token n e l next = rw (take-append-le n bs rest l, next, e) refl

      here : (blank comment : Bool) → is_blank b ≡ blank → (b == semicolon) ≡ comment → (is_blank b ≡ true → texts_from 0 (bs ++ rest) ≡ texts_from 0 bs ++ texts_from 0 rest) →
          ((b == semicolon) ≡ false → texts_from (more_len b bs) (bs ++ rest) ≡ texts_from (more_len b bs) bs ++ texts_from 0 rest) →
          cond blank (texts_from 0 (bs ++ rest)) (cond comment [] ((b ∷ take (more_len b (bs ++ rest)) (bs ++ rest)) ∷ texts_from (more_len b (bs ++ rest)) (bs ++ rest)))
          ≡ cond blank (texts_from 0 bs) (cond comment [] ((b ∷ take (more_len b bs) bs) ∷ texts_from (more_len b bs) bs)) ++ texts_from 0 rest
      here true comment e c skip next = skip e
      here false true e c skip next = not_comment (sym (after_comment bs) ∙ subst (λ (x : ℕ). after (enter Plain x) bs ≡ Plain) (eqb-true b semicolon c) h)
      here false false e c skip next =
          let same : more_len b (bs ++ rest) ≡ more_len b bs =
          more_stops b bs rest stop (closes_plain (b ∷ bs) h) (λ s. closes_plain bs (subst (λ (p : Part). after p bs ≡ Plain) (plain_byte b (sigil_no_quote b s) c) h)) in
          subst (λ (n : ℕ). (b ∷ take n (bs ++ rest)) ∷ texts_from n (bs ++ rest) ≡ (b ∷ take (more_len b bs) bs) ∷ texts_from (more_len b bs) bs ++ texts_from 0 rest)
          (sym same) (token (more_len b bs) refl (longest_more b bs).within (next c))

pub texts_append : (bs rest : List ℕ) → after Plain bs ≡ Plain → stops rest ≡ true → texts (bs ++ rest) ≡ texts bs ++ texts rest
unfolding texts
texts_append bs rest h stop = texts_append_from 0 bs rest (omega arith) h stop

-- nothing is left of a token after its bytes
texts_past : (bs : List ℕ) → texts_from (length bs) bs ≡ []
texts_past [] = refl
texts_past (b ∷ bs) = texts_past bs

-- a token on its own is cut into itself
pub token_alone : (b : ℕ) (bs : List ℕ) → is_blank b ≡ false → (b == semicolon) ≡ false → IsToken b bs → texts (b ∷ bs) ≡ (b ∷ bs) ∷ []
unfolding texts
token_alone b bs blank comment token =
    let whole : Longest b bs (length bs) = record { within = omega arith; stands = subst (IsToken b) (sym (take-length bs)) token; longest = λ m l t. l } in
    let e : more_len b bs ≡ length bs = longest_once b bs _ _ (longest_more b bs) whole in
    rw (blank, comment, e, take-length bs, texts_past bs) refl

-- a space separates
pub texts_space : (bs : List ℕ) → texts (32 ∷ bs) ≡ texts bs
unfolding texts is_blank
texts_space bs = refl

-- where the walk finds no fault does not depend on the place of its first byte
pub fault_shift : (part : Part) (at to : ℕ) (bs : List ℕ) → fault_from part at bs ≡ None → fault_from part to bs ≡ None
fault_shift part at to [] h = refl
fault_shift part at to (b ∷ bs) h = here (begins_fault part (b ∷ bs)) h (fault_shift (enter part b) (at + 1) (to + 1) bs) where
  here : (t : Bool) → cond t (Some at) (fault_from (enter part b) (at + 1) bs) ≡ None →
      (fault_from (enter part b) (at + 1) bs ≡ None → fault_from (enter part b) (to + 1) bs ≡ None) → cond t (Some to) (fault_from (enter part b) (to + 1) bs) ≡ None
  here true h next = cc
  here false h next = next h

-- more bytes after make no fault of what was none
begins_more : (part : Part) (b : ℕ) (bs rest : List ℕ) → begins_fault part (b ∷ bs) ≡ false → begins_fault part (b ∷ bs ++ rest) ≡ false
begins_more part b bs rest h = rw (list_any-append (λ x. x == quote) bs rest) (here (is_control b) (opens part b) (has_quote bs) (has_quote rest) h) where
  here : (c o q r : Bool) → (c || (o && not q)) ≡ false → (c || (o && not (q || r))) ≡ false
  here true o q r h = cc
  here false false q r h = refl
  here false true true r h = refl
  here false true false r h = cc

-- two pieces without a fault have none together
pub fault_append : (part : Part) (at : ℕ) (bs rest : List ℕ) → fault_from part at bs ≡ None → fault_from (after part bs) at rest ≡ None → fault_from part at (bs ++ rest) ≡ None
fault_append part at [] rest h k = k
fault_append part at (b ∷ bs) rest h k =
    here (begins_fault part (b ∷ bs)) refl h (λ f. fault_append (enter part b) (at + 1) bs rest f (fault_shift (after (enter part b) bs) at (at + 1) rest k)) where
      here : (t : Bool) → begins_fault part (b ∷ bs) ≡ t → cond t (Some at) (fault_from (enter part b) (at + 1) bs) ≡ None →
          (fault_from (enter part b) (at + 1) bs ≡ None → fault_from (enter part b) (at + 1) (bs ++ rest) ≡ None) → fault_from part at (b ∷ bs ++ rest) ≡ None
      here true e h next = cc
      here false e h next = rw (begins_more part b bs rest e) (next h)
