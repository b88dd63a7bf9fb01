-- Lines whose only token is a brace, told by their bytes.
use Rattle.std.proofs.Common.{◌≡◌, ℕ, ◌≤◌, ◌==◌, Bool, true, false, ◌&&◌, List, [], ◌∷◌, length, take, drop, get_or, codes, bytes_eq, inl, inr, refl, sym, ◌∙◌, ap, subst, arith, eqb-true}
use Rattle.std.proofs.lemmas.Bool.Decides.{eqb_tells}
use Rattle.ir_lex.specs.Bytes.{is_blank, is_sigil, is_mark, is_word_byte, begins_name, semicolon}
use Rattle.ir_lex.specs.Scan.{texts_from, more_len}
use Rattle.ir_line.specs.Body.{is_brace}

-- whether there are no words
abbrev pub nothing : List (List ℕ) → Bool
nothing ws = length ws == 0

-- a blank in front changes nothing
pub blank_passed : (b : ℕ) (bs : List ℕ) → is_blank b ≡ true → texts_from 0 (b ∷ bs) ≡ texts_from 0 bs
blank_passed b bs h = rw h refl

-- any other byte but a semicolon begins a token
begun : (b : ℕ) (bs : List ℕ) → is_blank b ≡ false → (b == semicolon) ≡ false → texts_from 0 (b ∷ bs) ≡ (b ∷ take (more_len b bs) bs) ∷ texts_from (more_len b bs) bs
begun b bs k s = rw (k, s) refl

remark : (b : ℕ) (bs : List ℕ) → is_blank b ≡ false → (b == semicolon) ≡ true → texts_from 0 (b ∷ bs) ≡ []
remark b bs k s = rw (k, s) refl

some_words : (w : List ℕ) (ws : List (List ℕ)) → nothing (w ∷ ws) ≡ false
some_words w ws = elim (eqb_tells (length (w ∷ ws)) 0) [ inl e ↦ absurd (let z = e.1 in omega arith) | inr e ↦ e.0 ]

-- after a byte that is no blank there is no token exactly where it begins a comment
pub no_token : (b : ℕ) (bs : List ℕ) → is_blank b ≡ false → nothing (texts_from 0 (b ∷ bs)) ≡ (b == 59)
no_token b bs k = here (b == semicolon) refl where
  here : (t : Bool) → (b == semicolon) ≡ t → nothing (texts_from 0 (b ∷ bs)) ≡ (b == 59)
  here true s = ap nothing (remark b bs k s) ∙ sym s
  here false s = ap nothing (begun b bs k s) ∙ some_words (b ∷ take (more_len b bs) bs) (texts_from (more_len b bs) bs) ∙ sym s

one_word : (w : List ℕ) (ws : List (List ℕ)) → bytes_eq w (codes "}") ≡ false → is_brace (w ∷ ws) ≡ false
one_word w [] e = e
one_word w (v ∷ ws) e = refl

one_brace : (ws : List (List ℕ)) → is_brace ((125 ∷ []) ∷ ws) ≡ nothing ws
one_brace [] = refl
one_brace (v ∷ ws) = sym (some_words v ws)

brace_only : (bs : List ℕ) → is_brace ((125 ∷ take (more_len 125 bs) bs) ∷ texts_from (more_len 125 bs) bs) ≡ nothing (texts_from 0 bs)
unfolding more_len is_sigil is_mark is_word_byte begins_name
brace_only bs = one_brace (texts_from 0 bs)

other_word : (b : ℕ) (bs : List ℕ) → (b == 125) ≡ false → bytes_eq (b ∷ bs) (codes "}") ≡ false
other_word b bs e = rw e refl

-- a line whose first token begins here is a brace alone exactly where this is a brace and no token follows
pub brace_here : (b : ℕ) (bs : List ℕ) → is_blank b ≡ false → is_brace (texts_from 0 (b ∷ bs)) ≡ (b == 125) && nothing (texts_from 0 bs)
brace_here b bs k = here (b == semicolon) refl (b == 125) refl where
  here : (t : Bool) → (b == semicolon) ≡ t → (u : Bool) → (b == 125) ≡ u → is_brace (texts_from 0 (b ∷ bs)) ≡ u && nothing (texts_from 0 bs)
  here true s true e = absurd (let x : b ≡ 59 = eqb-true b 59 s in let y : b ≡ 125 = eqb-true b 125 e in omega arith)
  here true s false e = ap is_brace (remark b bs k s)
  here false s true e = ap is_brace (begun b bs k s) ∙ subst (λ (x : ℕ). is_brace ((x ∷ take (more_len x bs) bs) ∷ texts_from (more_len x bs) bs) ≡ nothing (texts_from 0 bs)) (sym (eqb-true b 125 e)) (brace_only bs)
  here false s false e = ap is_brace (begun b bs k s) ∙ one_word (b ∷ take (more_len b bs) bs) (texts_from (more_len b bs) bs) (other_word b (take (more_len b bs) bs) e)

-- the same of a rest of a line, by its first byte
pub alone_at : (rest after : List ℕ) → 1 ≤ length rest → after ≡ drop 1 rest → is_blank (get_or rest 0 0) ≡ false → get_or rest 0 0 ≡ 125 → is_brace (texts_from 0 rest) ≡ nothing (texts_from 0 after)
alone_at [] after l d k e = absurd (omega arith)
alone_at (b ∷ bs) after l d k e =
    let same : after ≡ bs = d in
    let here : b ≡ 125 = e in
    brace_here b bs k ∙ rw (same, here) refl
