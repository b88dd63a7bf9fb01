-- The tokens of bytes in front of which, and after which, others stand: they are those of the bytes alone, so many places further.
use Rattle.std.proofs.Common.{◌≡◌, ℕ, suc, zero, ◌+◌, ◌-◌, ◌≤◌, ◌==◌, Bool, true, false, cond, not, ◌&&◌, ◌||◌, List, [], ◌∷◌, ◌++◌, length, map, take, drop, Some, None, refl, sym, ◌∙◌, ap, subst, arith, eqb-true, length-take, append_assoc, nat_eq}
use Rattle.std.proofs.Math.Seq.{drop-append_seam}
use Rattle.std.proofs.lemmas.List.{take-append-le, take-append-drop, map-append, drop_all, append-nil}
use Rattle.std.proofs.lemmas.List.Folds.{list_any-append}
use Rattle.std.specs.List.{list_all}
use Rattle.ir_lex.specs.Bytes.{quote, semicolon, begins_name, is_word_byte, is_blank, is_control}
use Rattle.ir_lex.specs.Ends.{ends_outside, is_outside}
use Rattle.ir_lex.specs.Faults.{enter, after, opens, has_quote, begins_fault}
use Rattle.ir_lex.specs.Tokens.{IsToken, Longest}
use Rattle.ir_lex.specs.Scan.{one_more, string_len, more_len, cut_from, cut, texts_from, texts, fault_from, fault_of}
use Rattle.ir_lex.specs.Words.{word, words}
use Rattle.ir_lex.specs.declared.list.Token.{Token}
use Rattle.ir_lex.specs.declared.faults.Part.{Part}
use Rattle.ir_lex.specs.declared.faults.Part.TheVariants.{Plain, Quoted, Comment}
use Rattle.ir_lex.proofs.Again.{after_append, after_comment, stops, Closes, longest_before, longest_alone, token_plain, blank_plain, plain_byte, fault_shift, fault_append}
use Rattle.ir_lex.proofs.Classes.{both, sigil_no_quote}
use Rattle.ir_lex.proofs.Longer.{longest_more, longest_once, string_of_quote}
use Rattle.ir_lex.proofs.Runs.{take_nothing}
use Rattle.ir_lex.proofs.Laws.{words_of_line}

-- ---- places

-- a token so many places further
abbrev pub shifted : ℕ → Token → Token
shifted n t = record { from = n + t.from; to = n + t.to }

either_way : (f : Token → Token) (t : Bool) (x y v w : List Token) → x ≡ map f v → y ≡ map f w → cond t x y ≡ map f (cond t v w)
either_way f true x y v w h k = h
either_way f false x y v w h k = k

-- what stands n places further is cut into the same tokens, each n places further
pub cut_shift : (left n at : ℕ) (bs : List ℕ) → cut_from left (n + at) bs ≡ map (shifted n) (cut_from left at bs)
cut_shift zero n at [] = refl
cut_shift (suc left) n at [] = refl
cut_shift (suc left) n at (b ∷ bs) = let e : n + at + 1 ≡ n + (at + 1) = omega arith in rw e (cut_shift left n (at + 1) bs)
cut_shift zero n at (b ∷ bs) =
    let e : n + at + 1 ≡ n + (at + 1) = omega arith in
    rw e (either_way (shifted n) (is_blank b) _ _ _ _ (cut_shift 0 n (at + 1) bs)
    (either_way (shifted n) (b == semicolon) _ _ _ _ refl (token (more_len b bs) (cut_shift (more_len b bs) n (at + 1) bs)))) where
      token : (m : ℕ) → cut_from m (n + (at + 1)) bs ≡ map (shifted n) (cut_from m (at + 1) bs) →
          record { from = n + at; to = n + (at + 1) + m } ∷ cut_from m (n + (at + 1)) bs ≡ map (shifted n) (record { from = at; to = at + 1 + m } ∷ cut_from m (at + 1) bs)
      token m h = let e : n + (at + 1) + m ≡ n + (at + 1 + m) = omega arith in rw (h, e) refl

-- each of these tokens ends by the place n
abbrev pub EndBy : ℕ → List Token → Type 0
EndBy n [] = Unit {0}
EndBy n (t ∷ ts) = (t.to ≤ n) × EndBy n ts

-- the tokens of bytes end with the bytes
pub cut_end : (left at : ℕ) (bs : List ℕ) → EndBy (at + length bs) (cut_from left at bs)
cut_end zero at [] = tt
cut_end (suc left) at [] = tt
cut_end (suc left) at (b ∷ bs) = let e : at + suc (length bs) ≡ at + 1 + length bs = omega arith in rw e (cut_end left (at + 1) bs)
cut_end zero at (b ∷ bs) =
    let e : at + suc (length bs) ≡ at + 1 + length bs = omega arith in
    rw e (here _ _ (is_blank b) (b == semicolon) (cut_end 0 (at + 1) bs) (token (more_len b bs) (longest_more b bs).within (cut_end (more_len b bs) (at + 1) bs))) where
      token : (m : ℕ) → m ≤ length bs → EndBy (at + 1 + length bs) (cut_from m (at + 1) bs) → EndBy (at + 1 + length bs) (record { from = at; to = at + 1 + m } ∷ cut_from m (at + 1) bs)
      token m l h = (omega arith, h)

      here : (x y : List Token) (blank comment : Bool) → EndBy (at + 1 + length bs) x → EndBy (at + 1 + length bs) y → EndBy (at + 1 + length bs) (cond blank x (cond comment [] y))
      here x y true comment h k = h
      here x y false true h k = tt
      here x y false false h k = k

-- what is taken of the front does not depend on what stands after it
take_front : (from to : ℕ) (bs rest : List ℕ) → to ≤ length bs → take (to - from) (drop from (bs ++ rest)) ≡ take (to - from) (drop from bs)
take_front zero to bs rest l = let e : to - 0 ≡ to = omega arith in rw e (take-append-le to bs rest l)
take_front (suc from) to [] rest l = let e : to - suc from ≡ 0 = omega (arith, l) in rw e refl
take_front (suc from) zero (b ∷ bs) rest l = let e : 0 - suc from ≡ 0 = omega arith in rw e refl
take_front (suc from) (suc to) (b ∷ bs) rest l = let e : suc to - suc from ≡ to - from = omega arith in rw e (take_front from to bs rest (omega arith))

drop_twice : (m n : ℕ) (bs : List ℕ) → drop (m + n) bs ≡ drop n (drop m bs)
drop_twice zero n bs = let e : 0 + n ≡ n = omega arith in rw e refl
drop_twice (suc m) zero [] = let e : suc m + 0 ≡ suc m = omega arith in rw e refl
drop_twice (suc m) (suc n) [] = let e : suc m + suc n ≡ suc (m + suc n) = omega arith in rw e refl
drop_twice (suc m) n (b ∷ bs) = let e : suc m + n ≡ suc (m + n) = omega arith in rw e (drop_twice m n bs)

-- the bytes of a token, where those that it was cut of stand n places further in a line
pub word_in : (line bs rest : List ℕ) (n : ℕ) (t : Token) → drop n line ≡ bs ++ rest → t.to ≤ length bs → word line (shifted n t) ≡ word bs t
unfolding word
word_in line bs rest n t place l =
    let size : n + t.to - (n + t.from) ≡ t.to - t.from = omega arith in
    rw (size, drop_twice n t.from line, place) (take_front t.from t.to bs rest l)

pub words_in : (line bs rest : List ℕ) (n : ℕ) (ts : List Token) → drop n line ≡ bs ++ rest → EndBy (length bs) ts → words line (map (shifted n) ts) ≡ words bs ts
words_in line bs rest n [] place l = refl
words_in line bs rest n (t ∷ ts) place l = rw (word_in line bs rest n t place l.0, words_in line bs rest n ts place l.1) refl

-- ---- bytes without a fault

-- after a byte that is no fault there is none
fault_next : (part : Part) (b : ℕ) (bs : List ℕ) → fault_from part 0 (b ∷ bs) ≡ None → (begins_fault part (b ∷ bs) ≡ false) × (fault_from (enter part b) 0 bs ≡ None)
fault_next part b bs h = here (begins_fault part (b ∷ bs)) h where
  here : (t : Bool) → cond t (Some 0) (fault_from (enter part b) (0 + 1) bs) ≡ None → (t ≡ false) × (fault_from (enter part b) 0 bs ≡ None)
  here true h = cc
  here false h = (refl, fault_shift (enter part b) 1 0 bs h)

-- nor after more of them
pub fault_rest : (part : Part) (bs cs : List ℕ) → fault_from part 0 (bs ++ cs) ≡ None → fault_from (after part bs) 0 cs ≡ None
fault_rest part [] cs h = h
fault_rest part (b ∷ bs) cs h = fault_rest (enter part b) bs cs (fault_next part b (bs ++ cs) h).1

-- a string that does not close has no quote after its first
open_quote : (bs : List ℕ) → string_len bs ≡ 0 → has_quote bs ≡ false
unfolding string_len
open_quote [] h = refl
open_quote (b ∷ bs) h = here (b == quote) (string_len bs) h (open_quote bs) where
  here : (t : Bool) (n : ℕ) → cond t 1 (one_more n) ≡ 0 → (n ≡ 0 → has_quote bs ≡ false) → t || has_quote bs ≡ false
  here true n h next = absurd (omega (arith, h))
  here false zero h next = next refl
  here false (suc n) h next = absurd (omega (arith, h))

-- a string that begins where there is no fault closes
pub closes_sound : (bs : List ℕ) → fault_from Plain 0 bs ≡ None → Closes bs
closes_sound [] h = tt
closes_sound (b ∷ bs) h = λ q z. here (is_control b) (b == quote) (has_quote bs) (fault_next Plain b bs h).0 q (open_quote bs z) where
  here : {P : Type 0} (c q h : Bool) → c || (q && not h) ≡ false → q ≡ true → h ≡ false → P
  here true q h e f g = cc
  here false true true e f g = cc
  here false true false e f g = cc
  here false false h e f g = cc

-- a quote is no token of its own there
quote_closed : (b : ℕ) (bs : List ℕ) → fault_from Plain 0 (b ∷ bs) ≡ None → more_len b bs ≡ 0 → (b == quote) ≡ false
quote_closed b bs h none = here (b == quote) refl where
  here : (t : Bool) → (b == quote) ≡ t → t ≡ false
  here true q = absurd (closes_sound (b ∷ bs) h q (string_of_quote b bs q ∙ none))
  here false q = refl

-- after a token there no string is open and no comment has begun
token_ends : (b : ℕ) (bs : List ℕ) → (b == semicolon) ≡ false → fault_from Plain 0 (b ∷ bs) ≡ None → after Plain (b ∷ take (more_len b bs) bs) ≡ Plain
token_ends b bs s h = token_plain b (take (more_len b bs) bs) s (λ e. quote_closed b bs h (take_nothing _ bs (longest_more b bs).within e)) (longest_more b bs).stands

-- so what stands after the token has no fault, and leaves open what the whole leaves open
after_token : (b : ℕ) (bs : List ℕ) → (b == semicolon) ≡ false → fault_from Plain 0 (b ∷ bs) ≡ None →
    (fault_from Plain 0 (drop (more_len b bs) bs) ≡ None) × (after Plain (b ∷ bs) ≡ after Plain (drop (more_len b bs) bs))
after_token b bs s h =
    let front : List ℕ = b ∷ take (more_len b bs) bs in
    let back : List ℕ = drop (more_len b bs) bs in
    let whole : b ∷ bs ≡ front ++ back = ap (λ x. b ∷ x) (sym (take-append-drop (more_len b bs) bs)) in
    let ends : after Plain front ≡ Plain = token_ends b bs s h in (
      subst (λ (p : Part). fault_from p 0 back ≡ None) ends (fault_rest Plain front back (subst (λ (x : List ℕ). fault_from Plain 0 x ≡ None) whole h)),
      ap (after Plain) whole ∙ after_append Plain front back ∙ ap (λ (p : Part). after p back) ends,
    )

-- a token there is the same with more bytes after it that stop it
more_before : (b : ℕ) (bs rest : List ℕ) → (b == semicolon) ≡ false → fault_from Plain 0 (b ∷ bs) ≡ None → stops rest ≡ true → more_len b (bs ++ rest) ≡ more_len b bs
more_before b bs rest s h stop =
    longest_once b (bs ++ rest) _ _ (longest_more b (bs ++ rest)) (longest_before b bs rest (more_len b bs) stop (closes_sound (b ∷ bs) h)
    (λ sigil. closes_sound bs (subst (λ (p : Part). fault_from p 0 bs ≡ None) (plain_byte b (sigil_no_quote b sigil) s) (fault_next Plain b bs h).1)) (longest_more b bs))

-- the tokens of two pieces: those of the one, and those of the other so many places further. The first has no fault, and the second
-- does not go on with a word; where the first ends in a comment, the second has no tokens
cut_append_from : (left at : ℕ) (bs rest : List ℕ) → left ≤ length bs → fault_from Plain 0 (drop left bs) ≡ None → stops rest ≡ true →
    (after Plain (drop left bs) ≡ Comment → (n : ℕ) → cut_from 0 n rest ≡ []) → cut_from left at (bs ++ rest) ≡ cut_from left at bs ++ cut_from 0 (at + length bs) rest
cut_append_from zero at [] rest l h stop remark = let e : at + 0 ≡ at = omega arith in rw e refl
cut_append_from (suc left) at [] rest l h stop remark = absurd (omega (arith, l))
cut_append_from (suc left) at (b ∷ bs) rest l h stop remark =
    let e : at + suc (length bs) ≡ at + 1 + length bs = omega arith in
    rw e (cut_append_from left (at + 1) bs rest (omega (arith, l)) h stop remark)
cut_append_from zero at (b ∷ bs) rest l h stop remark =
    let e : at + suc (length bs) ≡ at + 1 + length bs = omega arith in
    rw e (here (is_blank b) (b == semicolon) refl refl
    (λ blank. cut_append_from 0 (at + 1) bs rest (omega arith) (subst (λ (p : Part). fault_from p 0 bs ≡ None) (blank_plain b blank) (fault_next Plain b bs h).1) stop
    (λ c. remark (ap (λ (p : Part). after p bs) (blank_plain b blank) ∙ c)))
    (λ s. cut_append_from (more_len b bs) (at + 1) bs rest (longest_more b bs).within (after_token b bs s h).0 stop (λ c. remark ((after_token b bs s h).1 ∙ c)))) where
      token : (n m : ℕ) → n ≡ m → cut_from m (at + 1) (bs ++ rest) ≡ cut_from m (at + 1) bs ++ cut_from 0 (at + 1 + length bs) rest →
          record { from = at; to = at + 1 + n } ∷ cut_from n (at + 1) (bs ++ rest) ≡ record { from = at; to = at + 1 + m } ∷ (cut_from m (at + 1) bs ++ cut_from 0 (at + 1 + length bs) rest)
      token n m e next = rw (e, next) refl

      here : (blank comment : Bool) → is_blank b ≡ blank → (b == semicolon) ≡ comment →
          (is_blank b ≡ true → cut_from 0 (at + 1) (bs ++ rest) ≡ cut_from 0 (at + 1) bs ++ cut_from 0 (at + 1 + length bs) rest) →
          ((b == semicolon) ≡ false → cut_from (more_len b bs) (at + 1) (bs ++ rest) ≡ cut_from (more_len b bs) (at + 1) bs ++ cut_from 0 (at + 1 + length bs) rest) →
          cond blank (cut_from 0 (at + 1) (bs ++ rest)) (cond comment [] (record { from = at; to = at + 1 + more_len b (bs ++ rest) } ∷ cut_from (more_len b (bs ++ rest)) (at + 1) (bs ++ rest)))
          ≡ cond blank (cut_from 0 (at + 1) bs) (cond comment [] (record { from = at; to = at + 1 + more_len b bs } ∷ cut_from (more_len b bs) (at + 1) bs)) ++ cut_from 0 (at + 1 + length bs) rest
      here true comment e c skip next = skip e
      here false true e c skip next =
          let opened : after Plain (b ∷ bs) ≡ Comment = subst (λ (x : ℕ). after (enter Plain x) bs ≡ Comment) (sym (eqb-true b semicolon c)) (after_comment bs) in
          sym (remark opened (at + 1 + length bs))
      here false false e c skip next = token (more_len b (bs ++ rest)) (more_len b bs) (more_before b bs rest c h stop) (next c)

-- ---- what stands in a line

-- bytes that end outside strings and comments, by the walk
pub ends_plain : (bs : List ℕ) → ends_outside bs ≡ true → after Plain bs ≡ Plain
unfolding ends_outside
ends_plain bs h = here (after Plain bs) h where
  here : (p : Part) → is_outside p ≡ true → p ≡ Plain
  here Plain h = refl
  here Quoted h = cc
  here Comment h = cc

pub plain_ends : (bs : List ℕ) → after Plain bs ≡ Plain → ends_outside bs ≡ true
unfolding ends_outside
plain_ends bs h = rw h refl

-- two pieces without a fault have none together, where the first ends outside strings
pub fault_both : (bs rest : List ℕ) → fault_of bs ≡ None → ends_outside bs ≡ true → fault_of rest ≡ None → fault_of (bs ++ rest) ≡ None
fault_both bs rest h ends k = fault_append Plain 0 bs rest h (subst (λ (p : Part). fault_from p 0 rest ≡ None) (sym (ends_plain bs ends)) k)

pub ends_both : (bs rest : List ℕ) → ends_outside bs ≡ true → ends_outside rest ≡ true → ends_outside (bs ++ rest) ≡ true
ends_both bs rest h k = plain_ends (bs ++ rest) (after_append Plain bs rest ∙ ap (λ (p : Part). after p rest) (ends_plain bs h) ∙ ends_plain rest k)

-- the tokens of two pieces
pub cut_append : (bs rest : List ℕ) → fault_of bs ≡ None → ends_outside bs ≡ true → stops rest ≡ true → cut (bs ++ rest) ≡ cut bs ++ map (shifted (length bs)) (cut rest)
unfolding cut
cut_append bs rest h ends stop =
    let e : 0 + length bs ≡ length bs + 0 = omega arith in
    cut_append_from 0 0 bs rest (omega arith) h stop (λ c. plain_not (sym (ends_plain bs ends) ∙ c)) ∙ ap (λ (n : ℕ). cut_from 0 0 bs ++ cut_from 0 n rest) e
    ∙ ap (λ (x : List Token). cut_from 0 0 bs ++ x) (cut_shift 0 (length bs) 0 rest) where
      plain_not : {P : Type 0} → Plain ≡ Comment → P
      plain_not e = cc

-- these tokens of a line are those of bytes that stand in it
pub record Stands (line part : List ℕ) (ts : List Token) : Type 0 where
  pub at : ℕ
  pub rest : List ℕ
  pub place : drop at line ≡ part ++ rest
  pub tokens : ts ≡ map (shifted at) (cut part)

shift_none : (ts : List Token) → map (shifted 0) ts ≡ ts
shift_none [] = refl
shift_none (t ∷ ts) =
    let e : 0 + t.from ≡ t.from = omega arith in
    let f : 0 + t.to ≡ t.to = omega arith in
    rw (e, f, shift_none ts) refl

shift_twice : (m n : ℕ) (ts : List Token) → map (shifted m) (map (shifted n) ts) ≡ map (shifted (m + n)) ts
shift_twice m n [] = refl
shift_twice m n (t ∷ ts) =
    let e : m + (n + t.from) ≡ m + n + t.from = omega arith in
    let f : m + (n + t.to) ≡ m + n + t.to = omega arith in
    rw (e, f, shift_twice m n ts) refl

-- a line stands in itself
pub stands_whole : (line : List ℕ) → Stands line line (cut line)
stands_whole line = record { at = 0; rest = []; place = sym (append-nil line); tokens = sym (shift_none (cut line)) }

-- the words of such tokens are those of the bytes
pub words_stand : {line part : List ℕ} {ts : List Token} → Stands line part ts → words line ts ≡ texts part
unfolding cut
words_stand {line} {part} s =
    let e : 0 + length part ≡ length part = omega arith in
    let ends : EndBy (length part) (cut_from 0 0 part) = subst (λ (n : ℕ). EndBy n (cut_from 0 0 part)) e (cut_end 0 0 part) in
    ap (words line) s.tokens ∙ words_in line part s.rest s.at (cut part) s.place ends ∙ words_of_line part

-- what stands after a space
pub stands_space : {line part : List ℕ} {ts : List Token} → Stands line (32 ∷ part) ts → Stands line part ts
unfolding cut is_blank
stands_space {line} {part} s = record {
  at = s.at + 1;
  rest = s.rest;
  place = drop_twice s.at 1 line ∙ ap (drop 1) s.place;
  tokens = s.tokens ∙ ap (map (shifted s.at)) (cut_shift 0 1 0 part) ∙ shift_twice s.at 1 (cut_from 0 0 part);
}

-- the tokens of two pieces that stand in a line: those of the first, then those of the second
pub record Apart (line first second : List ℕ) (ts : List Token) : Type 0 where
  pub front : List Token
  pub back : List Token
  pub whole : ts ≡ front ++ back
  pub one : Stands line first front
  pub other : Stands line second back

pub stands_append : {line : List ℕ} {ts : List Token} (bs cs : List ℕ) → fault_of bs ≡ None → ends_outside bs ≡ true → stops cs ≡ true → Stands line (bs ++ cs) ts → Apart line bs cs ts
stands_append {line} {ts} bs cs h ends stop s = record {
  front = map (shifted s.at) (cut bs);
  back = map (shifted (s.at + length bs)) (cut cs);
  whole =
      s.tokens ∙ ap (map (shifted s.at)) (cut_append bs cs h ends stop) ∙ map-append (shifted s.at) (cut bs) (map (shifted (length bs)) (cut cs))
      ∙ ap (λ (x : List Token). map (shifted s.at) (cut bs) ++ x) (shift_twice s.at (length bs) (cut cs));
  one = record { at = s.at; rest = cs ++ s.rest; place = s.place ∙ append_assoc bs cs s.rest; tokens = refl };
  other = record {
    at = s.at + length bs;
    rest = s.rest;
    place = drop_twice s.at (length bs) line ∙ ap (drop (length bs)) (s.place ∙ append_assoc bs cs s.rest) ∙ drop-append_seam bs (cs ++ s.rest);
    tokens = refl;
  };
}

-- ---- the bytes from one token to another

-- the place after the last of these tokens; `to` where there is none
abbrev pub last_end : ℕ → List Token → ℕ
last_end to [] = to
last_end to (t ∷ ts) = last_end t.to ts

-- the tokens `ts` at the front are those of the first `size` bytes
pub record Front (left at : ℕ) (bs : List ℕ) (ts : List Token) : Type 0 where
  pub size : ℕ
  pub within : size ≤ length bs
  pub reaches : left ≤ size
  pub end : last_end at ts ≡ at + size
  pub tokens : cut_from left at (take size bs) ≡ ts
  pub ends : after Plain (drop left (take size bs)) ≡ Plain

nothing_cut : {P : Type 0} {t : Token} {ts : List Token} → [] ≡ t ∷ ts → P
nothing_cut e = cc

first_cut : {t u : Token} {ts us : List Token} → t ∷ ts ≡ u ∷ us → t ≡ u
first_cut e = cc

rest_cut : {t u : Token} {ts us : List Token} → t ∷ ts ≡ u ∷ us → ts ≡ us
rest_cut e = cc

nothing_left : (at : ℕ) (bs : List ℕ) → cut_from (length bs) at bs ≡ []
nothing_left at [] = refl
nothing_left at (b ∷ bs) = nothing_left (at + 1) bs

-- a token that ends within the first bytes is a token of them
more_within : (b n : ℕ) (bs : List ℕ) → more_len b bs ≤ length (take n bs) → more_len b (take n bs) ≡ more_len b bs
more_within b n bs l =
    let long : Longest b (take n bs ++ drop n bs) (more_len b bs) = subst (λ (x : List ℕ). Longest b x (more_len b bs)) (sym (take-append-drop n bs)) (longest_more b bs) in
    longest_once b (take n bs) _ _ (longest_more b (take n bs)) (longest_alone b (take n bs) (drop n bs) (more_len b bs) l long)

-- what ends after the first bytes, where they begin with a token
token_front : (b n : ℕ) (bs : List ℕ) → (b == semicolon) ≡ false → fault_from Plain 0 (b ∷ bs) ≡ None → more_len b bs ≤ length (take n bs) → after Plain (drop (more_len b bs) (take n bs)) ≡ Plain → after Plain (b ∷ take n bs) ≡ Plain
token_front b n bs s h l k =
    let m : ℕ = more_len b bs in
    let xs : List ℕ = take n bs in
    let same : take m xs ≡ take m bs = sym (take-append-le m xs (drop n bs) l) ∙ ap (take m) (take-append-drop n bs) in
    let ends : after Plain (b ∷ take m xs) ≡ Plain = ap (λ (x : List ℕ). after Plain (b ∷ x)) same ∙ token_ends b bs s h in
    ap (λ (x : List ℕ). after Plain (b ∷ x)) (sym (take-append-drop m xs)) ∙ after_append (enter Plain b) (take m xs) (drop m xs) ∙ ap (λ (p : Part). after p (drop m xs)) ends ∙ k

front_cut : (left at : ℕ) (bs : List ℕ) (t : Token) (ts us : List Token) → fault_from Plain 0 (drop left bs) ≡ None → left ≤ length bs → cut_from left at bs ≡ t ∷ (ts ++ us) → Front left at bs (t ∷ ts)
front_cut zero at [] t ts us h l e = nothing_cut e
front_cut (suc left) at [] t ts us h l e = nothing_cut e
front_cut (suc left) at (b ∷ bs) t ts us h l e = longer (front_cut left (at + 1) bs t ts us h (omega (arith, l)) e) where
  longer : Front left (at + 1) bs (t ∷ ts) → Front (suc left) at (b ∷ bs) (t ∷ ts)
  longer f = record {
    size = suc f.size;
    within = let l = f.within in omega (arith, l);
    reaches = let l = f.reaches in omega (arith, l);
    end = let k = f.end in omega (arith, k);
    tokens = f.tokens;
    ends = f.ends;
  }
front_cut zero at (b ∷ bs) t ts us h l e =
    here (is_blank b) (b == semicolon) refl refl e
    (λ blank k. front_cut 0 (at + 1) bs t ts us (subst (λ (p : Part). fault_from p 0 bs ≡ None) (blank_plain b blank) (fault_next Plain b bs h).1) (omega arith) k)
    (λ s. front_cut (more_len b bs) (at + 1) bs) where
      spaced : is_blank b ≡ true → Front 0 (at + 1) bs (t ∷ ts) → Front 0 at (b ∷ bs) (t ∷ ts)
      spaced blank f = record {
        size = suc f.size;
        within = let l = f.within in omega (arith, l);
        reaches = omega arith;
        end = let k = f.end in omega (arith, k);
        tokens = rw blank f.tokens;
        ends = ap (λ (p : Part). after p (take f.size bs)) (blank_plain b blank) ∙ f.ends;
      }

      one : is_blank b ≡ false → (b == semicolon) ≡ false → Front 0 at (b ∷ bs) (record { from = at; to = at + 1 + more_len b bs } ∷ [])
      one blank s =
          let n : ℕ = more_len b bs in
          let all : length (take n bs) ≡ n = omega (arith, length-take n bs, (longest_more b bs).within) in
          let same : more_len b (take n bs) ≡ n = more_within b n bs (omega (arith, all)) in
          let none : cut_from n (at + 1) (take n bs) ≡ [] = ap (λ (m : ℕ). cut_from m (at + 1) (take n bs)) (sym all) ∙ nothing_left (at + 1) (take n bs) in
          let no_more : drop n (take n bs) ≡ [] = drop_all n (take n bs) (omega (arith, all)) in
          record {
            size = suc n;
            within = let l = (longest_more b bs).within in omega (arith, l);
            reaches = omega arith;
            end = omega arith;
            tokens = rw (blank, s, same, none) refl;
            ends = token_front b n bs s h (omega (arith, all)) (ap (after Plain) no_more);
          }

      more : is_blank b ≡ false → (b == semicolon) ≡ false → (u : Token) (ws : List Token) → Front (more_len b bs) (at + 1) bs (u ∷ ws) → Front 0 at (b ∷ bs) (record { from = at; to = at + 1 + more_len b bs } ∷ u ∷ ws)
      more blank s u ws f =
          let all : length (take f.size bs) ≡ f.size = omega (arith, length-take f.size bs, f.within) in
          let fits : more_len b bs ≤ length (take f.size bs) = let l = f.reaches in omega (arith, all, l) in
          let same : more_len b (take f.size bs) ≡ more_len b bs = more_within b f.size bs fits in
          record {
            size = suc f.size;
            within = let l = f.within in omega (arith, l);
            reaches = omega arith;
            end = let k = f.end in omega (arith, k);
            tokens = rw (blank, s, same, f.tokens) refl;
            ends = token_front b f.size bs s h fits f.ends;
          }

      token : is_blank b ≡ false → (b == semicolon) ≡ false → (ts : List Token) → cut_from (more_len b bs) (at + 1) bs ≡ ts ++ us →
          ((u : Token) (ws vs : List Token) → fault_from Plain 0 (drop (more_len b bs) bs) ≡ None → more_len b bs ≤ length bs → cut_from (more_len b bs) (at + 1) bs ≡ u ∷ (ws ++ vs) → Front (more_len b bs) (at + 1) bs (u ∷ ws)) →
          Front 0 at (b ∷ bs) (record { from = at; to = at + 1 + more_len b bs } ∷ ts)
      token blank s [] k next = one blank s
      token blank s (u ∷ ws) k next = more blank s u ws (next u ws us (after_token b bs s h).0 (longest_more b bs).within k)

      here : (blank comment : Bool) → is_blank b ≡ blank → (b == semicolon) ≡ comment →
          cond blank (cut_from 0 (at + 1) bs) (cond comment [] (record { from = at; to = at + 1 + more_len b bs } ∷ cut_from (more_len b bs) (at + 1) bs)) ≡ t ∷ (ts ++ us) →
          (is_blank b ≡ true → cut_from 0 (at + 1) bs ≡ t ∷ (ts ++ us) → Front 0 (at + 1) bs (t ∷ ts)) →
          ((b == semicolon) ≡ false → (u : Token) (ws vs : List Token) → fault_from Plain 0 (drop (more_len b bs) bs) ≡ None → more_len b bs ≤ length bs → cut_from (more_len b bs) (at + 1) bs ≡ u ∷ (ws ++ vs) → Front (more_len b bs) (at + 1) bs (u ∷ ws)) →
          Front 0 at (b ∷ bs) (t ∷ ts)
      here true comment i c k skip next = spaced i (skip i k)
      here false true i c k skip next = nothing_cut k
      here false false i c k skip next = subst (λ (x : Token). Front 0 at (b ∷ bs) (x ∷ ts)) (first_cut k) (token i c ts (rest_cut k) (next c))

-- the tokens from `t` on are those of what stands after the first `skip` bytes
pub record Back (left at : ℕ) (bs : List ℕ) (t : Token) (ts : List Token) : Type 0 where
  pub skip : ℕ
  pub from : t.from ≡ at + skip
  pub tokens : cut_from 0 (at + skip) (drop skip bs) ≡ t ∷ ts
  pub sound : fault_from Plain 0 (drop skip bs) ≡ None

back_cut : (left at : ℕ) (bs : List ℕ) (us : List Token) (t : Token) (ts : List Token) → fault_from Plain 0 (drop left bs) ≡ None → cut_from left at bs ≡ us ++ (t ∷ ts) → Back left at bs t ts
back_cut zero at [] [] t ts h e = nothing_cut e
back_cut zero at [] (u ∷ us) t ts h e = nothing_cut e
back_cut (suc left) at [] [] t ts h e = nothing_cut e
back_cut (suc left) at [] (u ∷ us) t ts h e = nothing_cut e
back_cut (suc left) at (b ∷ bs) us t ts h e = further (back_cut left (at + 1) bs us t ts h e) where
  further : Back left (at + 1) bs t ts → Back (suc left) at (b ∷ bs) t ts
  further f =
      let e : at + suc f.skip ≡ at + 1 + f.skip = omega arith in
      record { skip = suc f.skip; from = rw e f.from; tokens = rw e f.tokens; sound = f.sound }
back_cut zero at (b ∷ bs) us t ts h e =
    here (is_blank b) (b == semicolon) refl refl e
    (λ blank k. back_cut 0 (at + 1) bs us t ts (subst (λ (p : Part). fault_from p 0 bs ≡ None) (blank_plain b blank) (fault_next Plain b bs h).1) k)
    (λ s vs k. back_cut (more_len b bs) (at + 1) bs vs t ts (after_token b bs s h).0 k) where
      further : (left : ℕ) → Back left (at + 1) bs t ts → Back 0 at (b ∷ bs) t ts
      further left f =
          let e : at + suc f.skip ≡ at + 1 + f.skip = omega arith in
          record { skip = suc f.skip; from = rw e f.from; tokens = rw e f.tokens; sound = f.sound }

      token : is_blank b ≡ false → (b == semicolon) ≡ false → (us : List Token) → record { from = at; to = at + 1 + more_len b bs } ∷ cut_from (more_len b bs) (at + 1) bs ≡ us ++ (t ∷ ts) →
          ((vs : List Token) → cut_from (more_len b bs) (at + 1) bs ≡ vs ++ (t ∷ ts) → Back (more_len b bs) (at + 1) bs t ts) → Back 0 at (b ∷ bs) t ts
      token blank s [] k next =
          let e : at + 0 ≡ at = omega arith in
          let same : record { from = at; to = at + 1 + more_len b bs } ≡ t = first_cut k in
          record { skip = 0; from = rw (e, ← same) refl; tokens = rw (e, blank, s) k; sound = h }
      token blank s (u ∷ us) k next = further (more_len b bs) (next us (rest_cut k))

      here : (blank comment : Bool) → is_blank b ≡ blank → (b == semicolon) ≡ comment →
          cond blank (cut_from 0 (at + 1) bs) (cond comment [] (record { from = at; to = at + 1 + more_len b bs } ∷ cut_from (more_len b bs) (at + 1) bs)) ≡ us ++ (t ∷ ts) →
          (is_blank b ≡ true → cut_from 0 (at + 1) bs ≡ us ++ (t ∷ ts) → Back 0 (at + 1) bs t ts) →
          ((b == semicolon) ≡ false → (vs : List Token) → cut_from (more_len b bs) (at + 1) bs ≡ vs ++ (t ∷ ts) → Back (more_len b bs) (at + 1) bs t ts) → Back 0 at (b ∷ bs) t ts
      here true comment i c k skip next = further 0 (skip i k)
      here false true i c k skip next = none us k
        where
          none : (us : List Token) → [] ≡ us ++ (t ∷ ts) → Back 0 at (b ∷ bs) t ts
          none [] k = nothing_cut k
          none (u ∷ us) k = nothing_cut k
      here false false i c k skip next = token i c us k (next c)

-- where strings are closed at the end of the first bytes, these have no fault alone
quoted_closes : (bs : List ℕ) → after Quoted bs ≡ Plain → has_quote bs ≡ true
quoted_closes [] h = cc
quoted_closes (b ∷ bs) h = here (b == quote) h (quoted_closes bs) where
  here : (t : Bool) → after (cond t Plain Quoted) bs ≡ Plain → (after Quoted bs ≡ Plain → has_quote bs ≡ true) → t || has_quote bs ≡ true
  here true h next = refl
  here false h next = next h

fault_first : (part : Part) (at : ℕ) (bs cs : List ℕ) → fault_from part at (bs ++ cs) ≡ None → after part bs ≡ Plain → fault_from part at bs ≡ None
fault_first part at [] cs h k = refl
fault_first part at (b ∷ bs) cs h k =
    here (begins_fault part (b ∷ (bs ++ cs))) refl h (λ f. fault_first (enter part b) (at + 1) bs cs f k) where
      opened : (p : Part) → after (enter p b) bs ≡ Plain → opens p b ≡ true → has_quote bs ≡ true
      opened Plain k o = quoted_closes bs (rw o at k)
      opened Quoted k o = cc
      opened Comment k o = cc

      tests : (c o q r : Bool) → c || (o && not (q || r)) ≡ false → (o ≡ true → q ≡ true) → c || (o && not q) ≡ false
      tests true o q r h next = cc
      tests false false q r h next = refl
      tests false true true r h next = refl
      tests false true false r h next = let z = next refl in cc

      here : (t : Bool) → begins_fault part (b ∷ (bs ++ cs)) ≡ t → cond t (Some at) (fault_from (enter part b) (at + 1) (bs ++ cs)) ≡ None →
          (fault_from (enter part b) (at + 1) (bs ++ cs) ≡ None → fault_from (enter part b) (at + 1) bs ≡ None) → fault_from part at (b ∷ bs) ≡ None
      here true e h next = cc
      here false e h next =
          let sound : begins_fault part (b ∷ bs) ≡ false = tests (is_control b) (opens part b) (has_quote bs) (has_quote cs) (rw (list_any-append (λ x. x == quote) bs cs) at e) (opened part k) in
          rw sound (next h)

-- the bytes from a token to another: alone they have no fault, end outside strings and comments, and have the tokens that they have in the line
pub record Between (line part : List ℕ) (ts : List Token) : Type 0 where
  pub stands : Stands line part ts
  pub sound : fault_of part ≡ None
  pub ends : ends_outside part ≡ true

pub between_tokens : (line : List ℕ) (us : List Token) (t : Token) (ts vs : List Token) → fault_of line ≡ None → cut line ≡ us ++ (t ∷ (ts ++ vs)) →
    Between line (word line (record { from = t.from; to = last_end t.to ts })) (t ∷ ts)
unfolding cut word
between_tokens line us t ts vs h e = back (back_cut 0 0 line us t (ts ++ vs) h e) where
  front : (b : Back 0 0 line t (ts ++ vs)) → Front 0 (0 + b.skip) (drop b.skip line) (t ∷ ts) → Between line (take (last_end t.to ts - t.from) (drop t.from line)) (t ∷ ts)
  front b f =
      let rest : List ℕ = drop b.skip line in
      let from : t.from ≡ b.skip = b.from ∙ omega arith in
      let size : last_end t.to ts - t.from ≡ f.size = let k = f.end in omega (arith, k, from) in
      let same : take (last_end t.to ts - t.from) (drop t.from line) ≡ take f.size rest = rw (size, from) refl in
      let place : drop b.skip line ≡ take f.size rest ++ drop f.size rest = sym (take-append-drop f.size rest) in
      let sum : 0 + b.skip ≡ b.skip + 0 = omega arith in
      let tokens : t ∷ ts ≡ map (shifted b.skip) (cut_from 0 0 (take f.size rest)) = sym f.tokens ∙ ap (λ (n : ℕ). cut_from 0 n (take f.size rest)) sum ∙ cut_shift 0 b.skip 0 (take f.size rest) in
      rw same (record {
        stands = record { at = b.skip; rest = drop f.size rest; place = place; tokens = tokens };
        sound = fault_first Plain 0 (take f.size rest) (drop f.size rest) (subst (λ (x : List ℕ). fault_from Plain 0 x ≡ None) place b.sound) f.ends;
        ends = plain_ends (take f.size rest) f.ends;
      })

  back : Back 0 0 line t (ts ++ vs) → Between line (take (last_end t.to ts - t.from) (drop t.from line)) (t ∷ ts)
  back b = front b (front_cut 0 (0 + b.skip) (drop b.skip line) t ts vs b.sound (omega arith) b.tokens)

-- ---- spaces after a line

-- where no quote follows the first bytes, these have no fault alone
fault_before : (part : Part) (at : ℕ) (bs cs : List ℕ) → fault_from part at (bs ++ cs) ≡ None → has_quote cs ≡ false → fault_from part at bs ≡ None
fault_before part at [] cs h none = refl
fault_before part at (b ∷ bs) cs h none =
    here (begins_fault part (b ∷ (bs ++ cs))) refl h (λ f. fault_before (enter part b) (at + 1) bs cs f none) where
      tests : (c o q r : Bool) → c || (o && not (q || r)) ≡ false → r ≡ false → c || (o && not q) ≡ false
      tests true o q r h e = cc
      tests false false q r h e = refl
      tests false true true r h e = refl
      tests false true false true h e = cc
      tests false true false false h e = cc

      here : (t : Bool) → begins_fault part (b ∷ (bs ++ cs)) ≡ t → cond t (Some at) (fault_from (enter part b) (at + 1) (bs ++ cs)) ≡ None →
          (fault_from (enter part b) (at + 1) (bs ++ cs) ≡ None → fault_from (enter part b) (at + 1) bs ≡ None) → fault_from part at (b ∷ bs) ≡ None
      here true e h next = cc
      here false e h next =
          let sound : begins_fault part (b ∷ bs) ≡ false = tests (is_control b) (opens part b) (has_quote bs) (has_quote cs) (rw (list_any-append (λ x. x == quote) bs cs) at e) none in
          rw sound (next h)

is_space : ℕ → Bool
is_space b = nat_eq b 32

no_quote : (cs : List ℕ) → list_all is_space cs ≡ true → has_quote cs ≡ false
unfolding is_space
no_quote [] h = refl
no_quote (c ∷ cs) h =
    let space : c ≡ 32 = eqb-true c 32 (both _ _ h).0 in
    rw (no_quote cs (both (nat_eq c 32) _ h).1) (subst (λ (x : ℕ). (x == quote) || false ≡ false) (sym space) refl)

no_token : (n : ℕ) (cs : List ℕ) → list_all is_space cs ≡ true → cut_from 0 n cs ≡ []
unfolding is_space is_blank
no_token n [] h = refl
no_token n (c ∷ cs) h =
    let space : c ≡ 32 = eqb-true c 32 (both _ _ h).0 in
    subst (λ (x : ℕ). cut_from 0 n (x ∷ cs) ≡ []) (sym space) (no_token (n + 1) cs (both (nat_eq c 32) _ h).1)

spaces_stop : (cs : List ℕ) → list_all is_space cs ≡ true → stops cs ≡ true
unfolding is_space is_word_byte begins_name
spaces_stop [] h = refl
spaces_stop (c ∷ cs) h = subst (λ (x : ℕ). stops (x ∷ cs) ≡ true) (sym (eqb-true c 32 (both _ _ h).0)) refl

-- a line without the spaces at its end has no fault, and the same tokens with the same words
pub record Shorter (line part : List ℕ) : Type 0 where
  pub sound : fault_of part ≡ None
  pub tokens : cut part ≡ cut line
  pub same : words part (cut part) ≡ words line (cut line)

pub without_spaces : (part spaces : List ℕ) → fault_of (part ++ spaces) ≡ None → list_all (λ b. nat_eq b 32) spaces ≡ true → Shorter (part ++ spaces) part
unfolding cut is_space
without_spaces part spaces h all =
    let sound : fault_of part ≡ None = fault_before Plain 0 part spaces h (no_quote spaces all) in
    let longer : cut (part ++ spaces) ≡ cut part =
    cut_append_from 0 0 part spaces (omega arith) sound (spaces_stop spaces all) (λ c n. no_token n spaces all) ∙ ap (λ (x : List Token). cut_from 0 0 part ++ x) (no_token (0 + length part) spaces all)
    ∙ append-nil (cut_from 0 0 part) in
    let stands : Stands (part ++ spaces) part (cut part) = record { at = 0; rest = spaces; place = refl; tokens = sym (shift_none (cut part)) } in
    record {
      sound = sound;
      tokens = sym longer;
      same = words_of_line part ∙ sym (words_stand stands) ∙ ap (words (part ++ spaces)) (sym longer);
    }

-- a line without a fault has no control bytes
pub no_controls : (line : List ℕ) → fault_of line ≡ None → list_all (λ b. not (is_control b)) line ≡ true
no_controls line h = from Plain line h where
  free : (b : Bool) (rest : Bool) → b || rest ≡ false → not b ≡ true
  free true rest h = cc
  free false rest h = refl

  from : (part : Part) (line : List ℕ) → fault_from part 0 line ≡ None → list_all (λ b. not (is_control b)) line ≡ true
  from part [] h = refl
  from part (b ∷ bs) h =
      let next : (begins_fault part (b ∷ bs) ≡ false) × (fault_from (enter part b) 0 bs ≡ None) = fault_next part b bs h in
      rw (free (is_control b) _ next.0) (from (enter part b) bs next.1)

-- ---- words

-- each of these words is a token
abbrev pub AreWords : List (List ℕ) → Type 0
AreWords [] = Unit {0}
AreWords ([] ∷ ts) = ⊥
AreWords ((b ∷ bs) ∷ ts) = IsToken b bs × AreWords ts

-- the words of a line are tokens
pub texts_are : (line : List ℕ) → AreWords (texts line)
unfolding texts
texts_are line = from 0 line where
  from : (left : ℕ) (bs : List ℕ) → AreWords (texts_from left bs)
  from zero [] = tt
  from (suc left) [] = tt
  from (suc left) (b ∷ bs) = from left bs
  from zero (b ∷ bs) = here (is_blank b) (b == semicolon) _ _ (from 0 bs) ((longest_more b bs).stands, from (more_len b bs) bs)
    where
      here : (blank comment : Bool) (x y : List (List ℕ)) → AreWords x → AreWords y → AreWords (cond blank x (cond comment [] y))
      here true comment x y h k = h
      here false true x y h k = tt
      here false false x y h k = k
