-- Bytes of printed lines: they are cut into words that do not depend on what stands after them, have no fault, and bear no attachment.
use Rattle.std.proofs.Common.{◌≡◌, ℕ, suc, zero, ◌+◌, ◌<◌, ◌==◌, Bool, true, false, cond, not, ◌&&◌, List, [], ◌∷◌, ◌++◌, length, take, nat_lt, Some, None, refl, ◌∙◌, ap, arith, codes, bytes_eq}
use Rattle.std.proofs.Math.Seq.{take-length}
use Rattle.std.proofs.lemmas.List.{length-map}
use Rattle.std.proofs.lemmas.Bool.Decides.{nat_tests}
use Rattle.std.specs.List.{list_all}
use Rattle.ir_lex.specs.Bytes.{quote, semicolon, begins_name, is_word_byte, is_blank, is_control}
use Rattle.ir_lex.specs.Faults.{enter, after, begins_fault}
use Rattle.ir_lex.specs.Scan.{texts, texts_from, more_len, cut, fault_of, fault_from}
use Rattle.ir_lex.specs.Tokens.{IsToken, Run}
use Rattle.ir_lex.specs.Words.{words}
use Rattle.ir_lex.proofs.Again.{stops, texts_append, token_alone}
use Rattle.ir_lex.proofs.Classes.{both, clash}
use Rattle.ir_lex.proofs.Laws.{words_of_line}
use Rattle.ir_words.specs.Words.{Words, is_ascii}
use Rattle.ir_line.specs.Body.{is_mark, begins_mark, attachment_at, unattached, Formed, read_body}
use Rattle.ir_forms.specs.Forms.{Form, Slot, slots, Spell, line_of}
use Rattle.ir_line.proofs.BodyLines.{body_read}
use Rattle.ir_read.specs.Forms.{form_in, form_by}

-- a byte of a printed line: no control byte, no quote, no `;`, no `!`, and below 128
abbrev pub is_plain : ℕ → Bool
is_plain b = not (is_control b) && (not (b == quote) && (not (b == semicolon) && (not (b == 33) && nat_lt b 128)))

pub no_from : (b : Bool) → not b ≡ true → b ≡ false
no_from true h = cc
no_from false h = refl

-- what a plain byte is not
pub record NoSign (b : ℕ) : Type 0 where
  pub control : is_control b ≡ false
  pub quoted : (b == quote) ≡ false
  pub comment : (b == semicolon) ≡ false
  pub mark : (b == 33) ≡ false
  pub ascii : nat_lt b 128 ≡ true

pub plain_is : (b : ℕ) → is_plain b ≡ true → NoSign b
plain_is b h =
    let one : _ × _ = both (not (is_control b)) _ h in
    let two : _ × _ = both (not (b == quote)) _ one.1 in
    let three : _ × _ = both (not (b == semicolon)) _ two.1 in
    let four : _ × _ = both (not (b == 33)) _ three.1 in
    record { control = no_from _ one.0; quoted = no_from _ two.0; comment = no_from _ three.0; mark = no_from _ four.0; ascii = four.1 }

-- what a function takes, where that has no name here
abbrev pub Taken : {A B : Type 0} → (A → B) → Type 0
Taken {A} f = A

-- plain bytes leave a part of the line that each of them leaves
stays : (part : Taken enter) → ((b : ℕ) → NoSign b → enter part b ≡ part) → (bs : List ℕ) → list_all is_plain bs ≡ true → after part bs ≡ part
stays part each [] h = refl
stays part each (b ∷ bs) h =
    let stay : enter part b ≡ part = each b (plain_is b (both (is_plain b) _ h).0) in
    rw stay (stays part each bs (both (is_plain b) _ h).1)

-- where none of them is a fault, they have none
sound_from : (part : Taken enter) → ((b : ℕ) → NoSign b → enter part b ≡ part) → ((b : ℕ) (bs : List ℕ) → NoSign b → begins_fault part (b ∷ bs) ≡ false) →
    (at : ℕ) (bs : List ℕ) → list_all is_plain bs ≡ true → fault_from part at bs ≡ None
sound_from part each fine at [] h = refl
sound_from part each fine at (b ∷ bs) h =
    let here : NoSign b = plain_is b (both (is_plain b) _ h).0 in
    rw (fine b bs here, each b here) (sound_from part each fine (at + 1) bs (both (is_plain b) _ h).1)

-- a line of plain bytes has no fault
pub plain_sound : (line : List ℕ) → list_all is_plain line ≡ true → fault_of line ≡ None
plain_sound line h = sound_from _ (λ b n. rw (n.quoted, n.comment) refl) (λ b bs n. rw (n.control, n.quoted) refl) 0 line h

-- what holds of all that begins with a plain byte holds of the words
words_all : (P : List ℕ → Bool) → ((b : ℕ) (bs : List ℕ) → is_plain b ≡ true → P (b ∷ bs) ≡ true) → (left : ℕ) (bs : List ℕ) → list_all is_plain bs ≡ true → list_all P (texts_from left bs) ≡ true
words_all P each left [] h = nothing left where
  nothing : (left : ℕ) → list_all P (texts_from left []) ≡ true
  nothing zero = refl
  nothing (suc left) = refl
words_all P each (suc left) (b ∷ bs) h = words_all P each left bs (both (is_plain b) _ h).1
words_all P each zero (b ∷ bs) h =
    either_way (is_blank b) _ _ (words_all P each 0 bs (both (is_plain b) _ h).1)
    (either_way (b == semicolon) _ _ refl
    (rw (each b (take (more_len b bs) bs) (both (is_plain b) _ h).0) (words_all P each (more_len b bs) bs (both (is_plain b) _ h).1))) where
      either_way : (t : Bool) (xs ys : Words) → list_all P xs ≡ true → list_all P ys ≡ true → list_all P (cond t xs ys) ≡ true
      either_way true xs ys h k = h
      either_way false xs ys h k = k

pub plain_ascii : (bs : List ℕ) → list_all is_plain bs ≡ true → list_all is_ascii (texts bs) ≡ true
unfolding texts
plain_ascii bs h = words_all is_ascii (λ b cs p. (plain_is b p).ascii) 0 bs h

plain_unmarked : (bs : List ℕ) → list_all is_plain bs ≡ true → list_all (λ t. not (is_mark t)) (texts bs) ≡ true
unfolding texts
plain_unmarked bs h = words_all (λ t. not (is_mark t)) (λ b cs p. rw ((plain_is b p).mark) refl) 0 bs h

-- where no word begins with `!`, there is no attachment
no_attachment : (ts : Words) → list_all (λ t. not (is_mark t)) ts ≡ true → attachment_at ts ≡ length ts
no_attachment [] h = refl
no_attachment (t ∷ ts) h = here (bytes_eq t (codes ",")) (begins_mark ts) (attachment_at ts) (unmarked ts (both (not (is_mark t)) _ h).1) (no_attachment ts (both (not (is_mark t)) _ h).1) where
  unmarked : (ts : Words) → list_all (λ t. not (is_mark t)) ts ≡ true → begins_mark ts ≡ false
  unmarked [] h = refl
  unmarked (u ∷ us) h = no_from (is_mark u) (both (not (is_mark u)) _ h).0

  here : (b m : Bool) (n : ℕ) → m ≡ false → n ≡ length ts → cond (b && m) 0 (suc n) ≡ suc (length ts)
  here true true n e next = clash true e refl
  here true false n e next = ap suc next
  here false m n e next = ap suc next

-- a plain line has no attachment
pub all_unattached : (line : List ℕ) → list_all is_plain line ≡ true → unattached line (cut line) ≡ cut line
all_unattached line h =
    let marks : list_all (λ t. not (is_mark t)) (words line (cut line)) ≡ true = rw (words_of_line line) (plain_unmarked line h) in
    let end : attachment_at (words line (cut line)) ≡ length (cut line) = no_attachment _ marks ∙ length-map (cut line) _ in
    rw end (take-length (cut line))

-- these bytes are of a printed line, and their words spell the parts of a form
pub record Told (ss : List Slot) (bs : List ℕ) : Type 0 where
  pub plain : list_all is_plain bs ≡ true
  pub spelled : Spell ss (texts bs)

-- a line whose words spell a form is read as that form
pub line_read : (f : Form) (line : List ℕ) → Told (slots f) line → form_in true line ≡ Some (line_of f)
unfolding form_in form_by
line_read f line told =
    let sound : fault_of line ≡ None = plain_sound line told.plain in
    let ascii : list_all is_ascii (words line (cut line)) ≡ true = rw (words_of_line line) (plain_ascii line told.plain) in
    let whole : words line (unattached line (cut line)) ≡ texts line = rw (all_unattached line told.plain) (words_of_line line) in
    let spelled : Spell (slots f) (words line (unattached line (cut line))) = rw whole told.spelled in
    let read : read_body line (cut line) ≡ Some (line_of f) = body_read line (cut line) (Formed f ascii spelled) in
    rw sound read

-- the bytes of words

abbrev pub is_run : List ℕ → Bool
is_run [] = false
is_run (b ∷ bs) = list_all is_word_byte (b ∷ bs)

word_in : (b : ℕ) → is_word_byte b ≡ true → (35 < b) × (b < 123) × ((b == 59) ≡ false)
unfolding is_word_byte begins_name
word_in b h = grind (arith, nat_tests)

pub word_plain : (b : ℕ) → is_word_byte b ≡ true → is_plain b ≡ true
unfolding is_control
word_plain b h = let range : (35 < b) × (b < 123) × ((b == 59) ≡ false) = word_in b h in grind (arith, nat_tests)

pub run_plain : (bs : List ℕ) → list_all is_word_byte bs ≡ true → list_all is_plain bs ≡ true
run_plain [] h = refl
run_plain (b ∷ bs) h = rw (word_plain b (both (is_word_byte b) _ h).0) (run_plain bs (both (is_word_byte b) _ h).1)

pub plain_append : (bs cs : List ℕ) → list_all is_plain bs ≡ true → list_all is_plain cs ≡ true → list_all is_plain (bs ++ cs) ≡ true
plain_append [] cs h k = k
plain_append (b ∷ bs) cs h k = rw (both (is_plain b) _ h).0 (plain_append bs cs (both (is_plain b) _ h).1 k)

-- a byte of a word is no blank
word_no_blank : (b : ℕ) → is_word_byte b ≡ true → is_blank b ≡ false
unfolding is_blank
word_no_blank b h = let range : (35 < b) × (b < 123) × ((b == 59) ≡ false) = word_in b h in grind (arith, nat_tests)

-- one word in front of what stops it
pub one_word : (b : ℕ) (bs rest : List ℕ) → list_all is_plain (b ∷ bs) ≡ true → is_blank b ≡ false → IsToken b bs → stops rest ≡ true → texts (b ∷ bs ++ rest) ≡ (b ∷ bs) ∷ texts rest
one_word b bs rest plain blank token stop =
    let here : NoSign b = plain_is b (both (is_plain b) _ plain).0 in
    texts_append (b ∷ bs) rest (stays _ (λ b n. rw (n.quoted, n.comment) refl) (b ∷ bs) plain) stop ∙ ap (λ (ws : Words). ws ++ texts rest) (token_alone b bs blank here.comment token)

pub run_texts : (w rest : List ℕ) → is_run w ≡ true → stops rest ≡ true → texts (w ++ rest) ≡ w ∷ texts rest
run_texts [] rest h stop = clash false refl h
run_texts (b ∷ bs) rest h stop = one_word b bs rest (run_plain (b ∷ bs) h) (word_no_blank b (both (is_word_byte b) _ h).0) (Run h) stop
