-- The type that a function returns: the words that spell it, and how it is read from the end of tokens.
use Rattle.std.proofs.Common.{◌≡◌, ℕ, ◌-◌, ◌≤◌, Bool, true, false, cond, List, [], ◌∷◌, ◌++◌, length, take, drop, Option, Some, None, codes, refl, sym, ◌∙◌, ap, subst, arith, length-append, length-drop, append_assoc}
use Rattle.std.proofs.Math.Seq.{drop-append_seam}
use Rattle.std.proofs.lemmas.List.{map-append, length-map, drop-map}
use Rattle.ir_lex.specs.Words.{word, words}
use Rattle.ir_lex.specs.declared.list.Token.{Token}
use Rattle.ir_types.specs.declared.ty.Ty.{Ty}
use Rattle.ir_types.specs.declared.ty.Ty.TheVariants.{Void}
use Rattle.ir_words.specs.Values.{width_of}
use Rattle.ir_words.specs.Words.{Words, is_first}
use Rattle.ir_words.specs.Reading.{ty_at}
use Rattle.ir_forms.specs.Pieces.{SpellsTy, Integer, Pointer, Vector}
use Rattle.ir_line.specs.Headers.{ty_len, last_tokens, whole, ret_of}
use Rattle.ir_line.specs.CallSpelling.{SpellsRet, NoValue, Valued}
use Rattle.ir_forms.proofs.Parts.{ty_takes, ty_taken}
use Rattle.ir_forms.proofs.Steps.{nothing, some_is, cond_then, first_is, apart}

pub words_append : (line : List ℕ) (ts us : List Token) → words line (ts ++ us) ≡ words line ts ++ words line us
words_append line ts us = map-append (word line) ts us

abbrev pub last_words : ℕ → Words → Words
last_words n ws = drop (length ws - n) ws

pub words_last : (line : List ℕ) (n : ℕ) (ts : List Token) → words line (last_tokens n ts) ≡ last_words n (words line ts)
words_last line n ts = sym (drop-map (word line) (length ts - n) ts) ∙ ap (λ (k : ℕ). drop (k - n) (words line ts)) (sym (length-map ts (word line)))

last_append : (n : ℕ) (ws us : Words) → length us ≡ n → last_words n (ws ++ us) ≡ us
last_append n ws us e =
    let size : length (ws ++ us) - n ≡ length ws = omega (arith, length-append ws us, e) in
    rw size (drop-append_seam ws us)

-- the type by the last word and the last five
abbrev pub ret_by : Words → Words → Option Ty
ret_by last five = cond (is_first (codes "void") last) (Some Void) (cond (is_first (codes ">") last) (whole (ty_at five)) (whole (ty_at last)))

no_void : width_of (codes "void") ≡ None
unfolding width_of
no_void = refl

no_angle : width_of (codes ">") ≡ None
unfolding width_of
no_angle = refl

ret_words : {t : Ty} {us : Words} (ws : Words) → SpellsRet t us → ret_by (last_words 1 (ws ++ us)) (last_words 5 (ws ++ us)) ≡ Some t
ret_words ws NoValue = rw (last_append 1 ws (codes "void" ∷ []) refl) refl
ret_words ws (Valued _ _ (Integer w word rest h)) =
    rw (last_append 1 ws (word ∷ []) refl, apart width_of (codes "void") word w no_void h, apart width_of (codes ">") word w no_angle h, ty_takes (Integer w word [] h)) refl
ret_words ws (Valued _ _ (Pointer rest)) = rw (last_append 1 ws (codes "ptr" ∷ []) refl, ty_takes (Pointer [])) refl
ret_words ws (Valued _ _ (Vector n w count word rest hn hw row)) =
    let front : Words = codes "<" ∷ count ∷ codes "x" ∷ word ∷ [] in
    let last : last_words 1 (ws ++ (codes "<" ∷ count ∷ codes "x" ∷ word ∷ codes ">" ∷ [])) ≡ codes ">" ∷ [] = ap (last_words 1) (sym (append_assoc ws front (codes ">" ∷ []))) ∙ last_append 1 (ws ++ front) (codes ">" ∷ []) refl in
    rw (last, last_append 5 ws (codes "<" ∷ count ∷ codes "x" ∷ word ∷ codes ">" ∷ []) refl, ty_takes (Vector n w count word [] hn hw row)) refl

pub ret_is : (line : List ℕ) (ts : List Token) → ret_of line ts ≡ ret_by (last_words 1 (words line ts)) (last_words 5 (words line ts))
unfolding ret_of
ret_is line ts = ap (λ (x : Words). ret_by x (words line (last_tokens 5 ts))) (words_last line 1 ts) ∙ ap (ret_by (last_words 1 (words line ts))) (words_last line 5 ts)

-- the type that stands at the end is returned
pub ret_reads : (line : List ℕ) (t : Ty) (before ty : List Token) → SpellsRet t (words line ty) → ret_of line (before ++ ty) ≡ Some t
ret_reads line t before ty s =
    ret_is line (before ++ ty) ∙ ap (λ (x : Words). ret_by (last_words 1 x) (last_words 5 x)) (words_append line before ty) ∙ ret_words (words line before) s

-- it has its words
pub spelled_size : {t : Ty} {ts : Words} → SpellsTy t ts [] → length ts ≡ ty_len t
spelled_size (Integer w word rest h) = refl
spelled_size (Pointer rest) = refl
spelled_size (Vector n w count word rest hn hw row) = refl

pub ret_size : {t : Ty} {ts : Words} → SpellsRet t ts → length ts ≡ ty_len t
ret_size NoValue = refl
ret_size (Valued _ _ s) = spelled_size s

-- the type at the end of words is spelled by the last of them
pub record Ends (t : Ty) (ws : Words) : Type 0 where
  pub front : ℕ
  pub within : front ≤ length ws
  pub spelled : SpellsRet t (drop front ws)

whole_is : (o : Option (Ty × Words)) (t : Ty) → whole o ≡ Some t → o ≡ Some (t, [])
whole_is None t e = nothing e
whole_is (Some (u, [])) t e = ap (λ (x : Ty). Some (x, [])) (some_is e)
whole_is (Some (u, w ∷ ws)) t e = nothing e

whole_spelled : (t : Ty) (ws : Words) → whole (ty_at ws) ≡ Some t → SpellsTy t ws []
whole_spelled t ws e = ty_taken ws (t, []) (whole_is (ty_at ws) t e)

one_word : (v : List ℕ) (ws : Words) → length ws ≤ 1 → is_first v ws ≡ true → ws ≡ v ∷ []
one_word v [] l h = cc
one_word v (w ∷ []) l h = first_is v (w ∷ []) h
one_word v (w ∷ u ∷ ws) l h = absurd (omega (arith, l))

pub ret_ends : (t : Ty) (ws : Words) → ret_by (last_words 1 ws) (last_words 5 ws) ≡ Some t → Ends t ws
ret_ends t ws e =
    let short : length (last_words 1 ws) ≤ 1 = omega (arith, length-drop (length ws - 1) ws) in
    cond_then (is_first (codes "void") (last_words 1 ws)) _ _ _ e
    (λ first r. record {
      front = length ws - 1;
      within = omega arith;
      spelled = subst (λ (x : Ty). SpellsRet x (last_words 1 ws)) (some_is r) (subst (SpellsRet Void) (sym (one_word (codes "void") (last_words 1 ws) short first)) NoValue);
    })
    (λ _ e2. cond_then (is_first (codes ">") (last_words 1 ws)) _ _ _ e2
    (λ _ r. record { front = length ws - 5; within = omega arith; spelled = Valued t _ (whole_spelled t (last_words 5 ws) r) })
    (λ _ r. record { front = length ws - 1; within = omega arith; spelled = Valued t _ (whole_spelled t (last_words 1 ws) r) }))
