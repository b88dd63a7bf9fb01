-- The laws of tokens that crates above stand on: the tokens of a line are unique, and are those that the walk cuts.
use Rattle.std.proofs.Common.{◌≡◌, ℕ, suc, zero, ◌+◌, ◌-◌, ◌==◌, Bool, true, false, cond, List, [], ◌∷◌, take, drop, Option, Some, None, refl, sym, ◌∙◌, ap, subst, arith, eqb-true}
use Rattle.ir_lex.specs.Bytes.{semicolon, is_blank}
use Rattle.ir_lex.specs.Faults.{is_fault, FirstFault}
use Rattle.ir_lex.specs.Tokens.{AreTokens, End, Remark, Blank, Next, Lexed}
use Rattle.ir_lex.specs.Words.{word, words}
use Rattle.ir_lex.specs.Scan.{more_len, cut_from, cut, texts_from, texts, fault_from}
use Rattle.ir_lex.specs.declared.list.Token.{Token}
use Rattle.ir_lex.specs.declared.faults.Part.TheVariants.{Plain}
use Rattle.ir_lex.proofs.Classes.{clash}
use Rattle.ir_lex.proofs.Cutting.{cut_skip}
use Rattle.ir_lex.proofs.Faulty.{fault_absent, found_first, first_once}
use Rattle.ir_lex.proofs.Longer.{longest_more, longest_once}

-- what the walk cuts are the tokens
cut_are : (left at : ℕ) (bs : List ℕ) → AreTokens (at + left) (drop left bs) (cut_from left at bs)
cut_are zero at [] = End _
cut_are (suc left) at [] = End _
cut_are (suc left) at (b ∷ bs) =
    let e : at + 1 + left ≡ at + suc left = omega arith in
    subst (λ (x : ℕ). AreTokens x (drop left bs) (cut_from left (at + 1) bs)) e (cut_are left (at + 1) bs)
cut_are zero at (b ∷ bs) =
    let e : at ≡ at + 0 = omega arith in
    let f : at + 1 + 0 ≡ at + 1 = omega arith in
    let after : AreTokens (at + 1) bs (cut_from 0 (at + 1) bs) = subst (λ (x : ℕ). AreTokens x bs (cut_from 0 (at + 1) bs)) f (cut_are zero (at + 1) bs) in
    subst (λ (x : ℕ). AreTokens x (b ∷ bs) (cut_from 0 at (b ∷ bs))) e (here (is_blank b) (b == semicolon) refl refl after (cut_are (more_len b bs) (at + 1) bs)) where
      here : (blank comment : Bool) → is_blank b ≡ blank → (b == semicolon) ≡ comment → AreTokens (at + 1) bs (cut_from 0 (at + 1) bs) →
          AreTokens (at + 1 + more_len b bs) (drop (more_len b bs) bs) (cut_from (more_len b bs) (at + 1) bs) →
          AreTokens at (b ∷ bs) (cond blank (cut_from 0 (at + 1) bs) (cond comment [] (record { from = at; to = at + 1 + more_len b bs } ∷ cut_from (more_len b bs) (at + 1) bs)))
      here true comment e c after next = Blank at b bs _ e after
      here false true e c after next = subst (λ (x : ℕ). AreTokens at (x ∷ bs) []) (sym (eqb-true b semicolon c)) (Remark at bs)
      here false false e c after next = Next at b bs (more_len b bs) _ e c (longest_more b bs) next

-- whatever the tokens are, the walk cuts them
are_cut : {at : ℕ} {bs : List ℕ} {ts : List Token} → AreTokens at bs ts → ts ≡ cut_from 0 at bs
unfolding is_blank
are_cut (End at) = refl
are_cut (Remark at bs) = refl
are_cut (Blank at b bs ts blank rest) = rw (blank, are_cut rest) refl
are_cut (Next at b bs n ts blank comment token rest) =
    let e : more_len b bs ≡ n = longest_once b bs _ n (longest_more b bs) token in
    let skip : cut_from n (at + 1) bs ≡ cut_from 0 (at + 1 + n) (drop n bs) = cut_skip n (at + 1) bs token.within in
    rw (blank, comment, e, skip, are_cut rest) refl

-- the walk gives the tokens of a line
pub tokens_of_cut : (line : List ℕ) → AreTokens 0 line (cut line)
unfolding cut
tokens_of_cut line = cut_are 0 0 line

-- a line without a fault has the tokens that the walk cuts
pub lexed_by_cut : (line : List ℕ) → fault_from Plain 0 line ≡ None → Lexed line (cut line)
lexed_by_cut line h = record { sound = fault_absent Plain 0 line h; tokens = tokens_of_cut line }

-- the tokens of a line are those that the walk cuts
pub tokens_are_cut : (line : List ℕ) (ts : List Token) → AreTokens 0 line ts → ts ≡ cut line
unfolding cut
tokens_are_cut line ts h = are_cut h

-- a line has its tokens once
pub tokens_once : (line : List ℕ) (ts us : List Token) → AreTokens 0 line ts → AreTokens 0 line us → ts ≡ us
tokens_once line ts us h k = tokens_are_cut line ts h ∙ sym (tokens_are_cut line us k)

-- in a line without a fault the walk finds none
pub fault_none : (line : List ℕ) → ((k : ℕ) → is_fault line k ≡ false) → fault_from Plain 0 line ≡ None
fault_none line sound = here (fault_from Plain 0 line) refl where
  here : (found : Option ℕ) → fault_from Plain 0 line ≡ found → found ≡ None
  here None e = refl
  here (Some k) e = clash _ (sound k) (found_first line k e).1.fault

-- the walk finds the first fault
pub fault_some : (line : List ℕ) (k : ℕ) → FirstFault line k → fault_from Plain 0 line ≡ Some k
fault_some line k first = here (fault_from Plain 0 line) refl where
  here : (found : Option ℕ) → fault_from Plain 0 line ≡ found → found ≡ Some k
  here None e = clash _ (fault_absent Plain 0 line e k) first.fault
  here (Some j) e = ap Some (first_once line j k (found_first line j e).1 first)

-- what a line without a fault has for tokens
pub lexed_is : (line : List ℕ) (ts : List Token) → Lexed line ts → (fault_from Plain 0 line ≡ None) × (ts ≡ cut line)
lexed_is line ts h = (fault_none line h.sound, tokens_are_cut line ts h.tokens)

drop_next : (line : List ℕ) (at b : ℕ) (bs : List ℕ) → drop at line ≡ b ∷ bs → drop (at + 1) line ≡ bs
drop_next [] zero b bs e = cc
drop_next [] (suc at) b bs e = cc
drop_next (x ∷ line) zero b bs e = cc
drop_next (x ∷ line) (suc at) b bs e = let s : suc at + 1 ≡ suc (at + 1) = omega arith in rw s (drop_next line at b bs e)

-- the places of a token give its bytes
words_from : (line : List ℕ) (left at : ℕ) (bs : List ℕ) → drop at line ≡ bs → words line (cut_from left at bs) ≡ texts_from left bs
unfolding word
words_from line left at [] e = nothing left where
  nothing : (left : ℕ) → words line (cut_from left at []) ≡ texts_from left []
  nothing zero = refl
  nothing (suc left) = refl
words_from line (suc left) at (b ∷ bs) e = words_from line left (at + 1) bs (drop_next line at b bs e)
words_from line zero at (b ∷ bs) e =
    let next : drop (at + 1) line ≡ bs = drop_next line at b bs e in
    either_way (is_blank b) _ _ _ _ (words_from line 0 (at + 1) bs next)
    (either_way (b == semicolon) _ _ _ _ refl (token (more_len b bs) (words_from line (more_len b bs) (at + 1) bs next))) where
      either_way : (t : Bool) (x y : List Token) (v w : List (List ℕ)) → words line x ≡ v → words line y ≡ w → words line (cond t x y) ≡ cond t v w
      either_way true x y v w h k = h
      either_way false x y v w h k = k

      token : (n : ℕ) → words line (cut_from n (at + 1) bs) ≡ texts_from n bs → words line (record { from = at; to = at + 1 + n } ∷ cut_from n (at + 1) bs) ≡ (b ∷ take n bs) ∷ texts_from n bs
      token n h =
          let size : at + 1 + n - at ≡ suc n = omega arith in
          rw (h, size, e) refl

-- the words of a line are its tokens' bytes
pub words_of_line : (line : List ℕ) → words line (cut line) ≡ texts line
unfolding cut texts
words_of_line line = words_from line 0 0 line refl
