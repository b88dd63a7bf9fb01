-- The walk takes the longest token.
use Rattle.std.proofs.Common.{◌≡◌, ℕ, suc, zero, ◌+◌, ◌≤◌, ◌==◌, ◌⊎◌, inl, inr, Bool, true, false, cond, ◌||◌, List, [], ◌∷◌, length, take, refl, arith, eqb-true}
use Rattle.std.proofs.lemmas.List.Sums.{prefix_len-le-length}
use Rattle.std.specs.List.{list_all, prefix_len}
use Rattle.ir_lex.specs.Bytes.{quote, begins_name, is_word_byte, is_digit, is_sigil, is_mark}
use Rattle.ir_lex.specs.Tokens.{IsToken, Name, QuotedName, Unnamed, Text, Mark, Run, Single, Longest, ends_string}
use Rattle.ir_lex.specs.Scan.{one_more, string_len, name_len, more_len}
use Rattle.ir_lex.proofs.Classes.{both, either, neither, clash, sigil_no_quote, sigil_no_mark, sigil_no_word, percent_sigil, quote_no_mark, quote_no_word, quote_no_name, quote_no_digit, quote_no_sigil, digit_no_name}
use Rattle.ir_lex.proofs.Runs.{run_passes, run_longest, string_within, string_stands, string_longest, take_nothing, digits_number}

by_test : (P : ℕ → Type 0) (t : Bool) (x y : ℕ) → (t ≡ true → P x) → (t ≡ false → P y) → P (cond t x y)
by_test P true x y h k = h refl
by_test P false x y h k = k refl

-- a first byte that begins neither a name nor a string begins a run
most_run : (b : ℕ) (bs : List ℕ) (m : ℕ) → is_sigil b ≡ false → (b == quote) ≡ false → m ≤ length bs → IsToken b (take m bs) → m ≤ prefix_len is_word_byte bs
most_run b bs m s q l (Name t _) = clash _ s t
most_run b bs m s q l (QuotedName t _) = clash _ s t
most_run b bs m s q l (Unnamed e _) = clash _ s (percent_sigil b e)
most_run b bs m s q l (Text t) = clash _ q (both _ _ t).0
most_run b bs m s q l (Mark _ h) = run_longest is_word_byte bs m l h
most_run b bs m s q l (Run h) = run_longest is_word_byte bs m l (both _ _ h).1
most_run b bs m s q l (Single e) = let z = take_nothing m bs l e in omega arith

-- one that begins no run either stands alone
most_single : (b : ℕ) (bs : List ℕ) (m : ℕ) → is_sigil b ≡ false → (b == quote) ≡ false → (is_mark b || is_word_byte b) ≡ false → m ≤ length bs → IsToken b (take m bs) → m ≤ 0
most_single b bs m s q w l (Name t _) = clash _ s t
most_single b bs m s q w l (QuotedName t _) = clash _ s t
most_single b bs m s q w l (Unnamed e _) = clash _ s (percent_sigil b e)
most_single b bs m s q w l (Text t) = clash _ q (both _ _ t).0
most_single b bs m s q w l (Mark t _) = clash _ (neither (is_mark b) _ w).0 t
most_single b bs m s q w l (Run h) = clash _ (neither (is_mark b) (is_word_byte b) w).1 (both (is_word_byte b) _ h).0
most_single b bs m s q w l (Single e) = let z = take_nothing m bs l e in omega arith

-- a quote begins a string
most_string : (b : ℕ) (bs : List ℕ) (m : ℕ) → is_sigil b ≡ false → (b == quote) ≡ true → m ≤ length bs → IsToken b (take m bs) → m ≤ string_len bs
most_string b bs m s q l (Name t _) = clash _ s t
most_string b bs m s q l (QuotedName t _) = clash _ s t
most_string b bs m s q l (Unnamed e _) = clash _ s (percent_sigil b e)
most_string b bs m s q l (Text t) = string_longest bs m l (both _ _ t).1
most_string b bs m s q l (Mark t _) = clash _ (quote_no_mark b q) t
most_string b bs m s q l (Run h) = clash _ (quote_no_word b q) (both _ _ h).0
most_string b bs m s q l (Single e) = let z = take_nothing m bs l e in omega arith

-- after a sigil: a token of more than one byte is a name, a quoted name or a number
pub data Sigil (b c : ℕ) (cs : List ℕ) : Type 0 where
  Plain : begins_name c ≡ true → list_all is_word_byte cs ≡ true → Sigil b c cs
  Quoted : (c == quote) ≡ true → ends_string cs ≡ true → Sigil b c cs
  Digits : b ≡ 37 → is_digit c ≡ true → list_all is_digit cs ≡ true → Sigil b c cs

sigil : (b c : ℕ) (cs : List ℕ) → is_sigil b ≡ true → IsToken b (c ∷ cs) → Sigil b c cs
sigil b c cs s (Name _ h) = Plain (both _ _ h).0 (both _ _ h).1
sigil b c cs s (QuotedName _ h) = Quoted (both _ _ h).0 (both _ _ h).1
sigil b c cs s (Unnamed e h) = Digits e (both _ _ h).0 (both _ _ h).1
sigil b c cs s (Text h) = clash _ (sigil_no_quote b s) (both _ _ h).0
sigil b c cs s (Mark t _) = clash _ (sigil_no_mark b s) t
sigil b c cs s (Run h) = clash _ (sigil_no_word b s) (both _ _ h).0
sigil b c cs s (Single e) = cc

most_quoted : (b c : ℕ) (cs : List ℕ) (m : ℕ) → (c == quote) ≡ true → m ≤ length cs → Sigil b c (take m cs) → suc m ≤ one_more (string_len cs)
most_quoted b c cs m q l (Plain n _) = clash _ (quote_no_name c q) n
most_quoted b c cs m q l (Quoted _ h) = more m cs (string_len cs) h (string_longest cs m l h) where
  more : (m : ℕ) (cs : List ℕ) (n : ℕ) → ends_string (take m cs) ≡ true → m ≤ n → suc m ≤ one_more n
  more zero cs n h l = cc
  more (suc m) cs zero h l = omega arith
  more (suc m) cs (suc n) h l = omega arith
most_quoted b c cs m q l (Digits _ d _) = clash _ (quote_no_digit c q) d

most_name : (b c : ℕ) (cs : List ℕ) (m : ℕ) → (c == quote) ≡ false → begins_name c ≡ true → m ≤ length cs → Sigil b c (take m cs) → suc m ≤ 1 + prefix_len is_word_byte cs
most_name b c cs m q n l (Plain _ h) = let z = run_longest is_word_byte cs m l h in omega arith
most_name b c cs m q n l (Quoted t _) = clash _ q t
most_name b c cs m q n l (Digits _ d _) = clash _ (digit_no_name c d) n

most_digits : (b c : ℕ) (cs : List ℕ) (m : ℕ) → (c == quote) ≡ false → begins_name c ≡ false → m ≤ length cs → Sigil b c (take m cs) → suc m ≤ prefix_len is_digit (c ∷ cs)
most_digits b c cs m q n l (Plain t _) = clash _ n t
most_digits b c cs m q n l (Quoted t _) = clash _ q t
most_digits b c cs m q n l (Digits _ d h) = let z = run_longest is_digit cs m l h in rw d (omega arith)

most_bare : (b c : ℕ) (cs : List ℕ) → (c == quote) ≡ false → begins_name c ≡ false → (b == 37) ≡ false → Sigil b c cs → ⊥
most_bare b c cs q n p (Plain t _) = clash _ n t
most_bare b c cs q n p (Quoted t _) = clash _ q t
most_bare b c cs q n p (Digits e _ _) = clash (b == 37) p (rw e refl)

-- where no token goes further than its first byte, that is the token
alone : (b : ℕ) (bs : List ℕ) → ((m : ℕ) → m ≤ length bs → IsToken b (take m bs) → m ≤ 0) → Longest b bs 0
alone b bs h = record { within = omega arith; stands = Single refl; longest = h }

longest_run : (b : ℕ) (bs : List ℕ) → is_sigil b ≡ false → (b == quote) ≡ false → (is_mark b || is_word_byte b) ≡ true → Longest b bs (prefix_len is_word_byte bs)
longest_run b bs s q w = record {
  within = prefix_len-le-length is_word_byte bs;
  stands =
      elim (either (is_mark b) (is_word_byte b) w) [
        | inl t ↦ Mark t (run_passes is_word_byte bs)
        | inr t ↦ Run (rw t (run_passes is_word_byte bs))
      ];
  longest = λ m. most_run b bs m s q;
}

longest_string : (b : ℕ) (bs : List ℕ) → is_sigil b ≡ false → (b == quote) ≡ true → Longest b bs (string_len bs)
longest_string b bs s q = record {
  within = string_within bs;
  stands =
      elim (string_stands bs) [
        | inl e ↦ rw e (Single refl)
        | inr h ↦ Text (rw q h)
      ];
  longest = λ m. most_string b bs m s q;
}

-- no more bytes after a sigil are a token than those after it that are a name, a quoted name or a number
after_sigil : (b c : ℕ) (cs : List ℕ) (n : ℕ) → is_sigil b ≡ true → ((m : ℕ) → m ≤ length cs → Sigil b c (take m cs) → suc m ≤ n) → (m : ℕ) → m ≤ length (c ∷ cs) → IsToken b (take m (c ∷ cs)) → m ≤ n
after_sigil b c cs n s h zero l t = omega arith
after_sigil b c cs n s h (suc m) l t = h m (omega arith) (sigil b c (take m cs) s t)

longest_quoted : (b c : ℕ) (cs : List ℕ) → is_sigil b ≡ true → (c == quote) ≡ true → Longest b (c ∷ cs) (one_more (string_len cs))
longest_quoted b c cs s q = record {
  within = within (string_len cs) (string_within cs);
  stands = stands (string_len cs) (string_stands cs);
  longest = after_sigil b c cs _ s (λ m. most_quoted b c cs m q);
} where
  within : (n : ℕ) → n ≤ length cs → one_more n ≤ length (c ∷ cs)
  within zero l = omega arith
  within (suc n) l = omega arith

  stands : (n : ℕ) → (n ≡ 0) ⊎ (ends_string (take n cs) ≡ true) → IsToken b (take (one_more n) (c ∷ cs))
  stands zero h = Single refl
  stands (suc n) (inl e) = cc
  stands (suc n) (inr h) = QuotedName s (rw q h)

longest_name : (b c : ℕ) (cs : List ℕ) → is_sigil b ≡ true → (c == quote) ≡ false → begins_name c ≡ true → Longest b (c ∷ cs) (1 + prefix_len is_word_byte cs)
longest_name b c cs s q n = record {
  within = let l = prefix_len-le-length is_word_byte cs in omega arith;
  stands = let e : 1 + prefix_len is_word_byte cs ≡ suc (prefix_len is_word_byte cs) = omega arith in rw e (Name s (rw n (run_passes is_word_byte cs)));
  longest = after_sigil b c cs _ s (λ m. most_name b c cs m q n);
}

longest_number : (b c : ℕ) (cs : List ℕ) → is_sigil b ≡ true → (c == quote) ≡ false → begins_name c ≡ false → (b == 37) ≡ true → Longest b (c ∷ cs) (prefix_len is_digit (c ∷ cs))
longest_number b c cs s q n p = record {
  within = prefix_len-le-length is_digit (c ∷ cs);
  stands =
      elim (digits_number (take (prefix_len is_digit (c ∷ cs)) (c ∷ cs)) (run_passes is_digit (c ∷ cs))) [
        | inl e ↦ Single e
        | inr h ↦ Unnamed (eqb-true b 37 p) h
      ];
  longest = after_sigil b c cs _ s (λ m. most_digits b c cs m q n);
}

longest_sigil : (b : ℕ) (bs : List ℕ) → is_sigil b ≡ true → Longest b bs (name_len b bs)
unfolding name_len
longest_sigil b [] s = alone b [] (λ m l t. omega arith)
longest_sigil b (c ∷ cs) s =
    by_test (Longest b (c ∷ cs)) (c == quote) _ _ (longest_quoted b c cs s) (λ q.
    by_test (Longest b (c ∷ cs)) (begins_name c) _ _ (longest_name b c cs s q) (λ n.
    by_test (Longest b (c ∷ cs)) (b == 37) _ _ (longest_number b c cs s q n) (λ p.
    alone b (c ∷ cs) (after_sigil b c cs 0 s (λ m l t. absurd (most_bare b c (take m cs) q n p t))))))

-- the token that the walk takes is the longest
pub longest_more : (b : ℕ) (bs : List ℕ) → Longest b bs (more_len b bs)
unfolding more_len
longest_more b bs =
    by_test (Longest b bs) (is_sigil b) _ _ (longest_sigil b bs) (λ s.
    by_test (Longest b bs) (b == quote) _ _ (longest_string b bs s) (λ q.
    by_test (Longest b bs) (is_mark b || is_word_byte b) _ _ (longest_run b bs s q) (λ w.
    alone b bs (λ m. most_single b bs m s q w))))

-- a string's bytes are those that the walk takes
pub string_of_quote : (b : ℕ) (bs : List ℕ) → (b == quote) ≡ true → string_len bs ≡ more_len b bs
unfolding more_len
string_of_quote b bs q = rw (quote_no_sigil b q, q) refl

-- there is one longest token
pub longest_once : (b : ℕ) (bs : List ℕ) (m n : ℕ) → Longest b bs m → Longest b bs n → m ≡ n
longest_once b bs m n h k =
    let below : m ≤ n = k.longest m h.within h.stands in
    let above : n ≤ m = h.longest n k.within k.stands in
    omega arith
