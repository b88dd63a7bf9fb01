-- The walk that cuts a line, token by token.
use Rattle.std.proofs.Common.{◌≡◌, ℕ, suc, zero, ◌+◌, ◌≤◌, ◌≢◌, ◌==◌, false, List, [], ◌∷◌, ◌++◌, length, drop, get_or, refl, arith, length-drop, append_assoc, subst, inl, inr}
use Rattle.std.proofs.lemmas.Bool.Decides.{eqb_tells}
use Rattle.ir_lex.specs.Bytes.{semicolon, is_blank}
use Rattle.ir_lex.specs.Scan.{more_len, cut_from}
use Rattle.ir_lex.specs.declared.list.Token.{Token}

-- the bytes that are left of a token are passed over
pub cut_skip : (n at : ℕ) (bs : List ℕ) → n ≤ length bs → cut_from n at bs ≡ cut_from 0 (at + n) (drop n bs)
cut_skip zero at bs l = let e : at + 0 ≡ at = omega arith in rw e refl
cut_skip (suc n) at [] l = absurd (omega arith)
cut_skip (suc n) at (b ∷ bs) l = let e : at + suc n ≡ at + 1 + n = omega arith in rw e (cut_skip n (at + 1) bs (omega arith))

eqb_no : (a b : ℕ) → a ≢ b → (a == b) ≡ false
eqb_no a b h = elim (eqb_tells a b) [ inl e ↦ absurd (h e.1) | inr e ↦ e.0 ]

-- a token and what the walk cuts after it
pub cut_next : (ts whole new : List Token) (at size n : ℕ) (rest past after : List ℕ) → 1 ≤ length rest → past ≡ drop 1 rest →
    is_blank (get_or rest 0 0) ≡ false → get_or rest 0 0 ≢ 59 → n ≡ more_len (get_or rest 0 0) past → n ≤ length past → after ≡ drop n past →
    new ≡ ts ++ record { from = at; to = at + 1 + n } ∷ [] → (at + length rest ≡ size) × (ts ++ cut_from 0 at rest ≡ whole) →
    (at + 1 + n + length after ≡ size) × (new ++ cut_from 0 (at + 1 + n) after ≡ whole)
cut_next ts whole new at size n [] past after l d blank comment more short e p h = absurd (omega arith)
cut_next ts whole new at size n (b ∷ bs) past after l d blank comment more short e p h =
    let same : past ≡ bs = d in
    let short_bs : n ≤ length bs = subst (λ (x : List ℕ). n ≤ length x) same short in
    let more_bs : n ≡ more_len b bs = subst (λ (x : List ℕ). n ≡ more_len b x) same more in
    let after_is : after ≡ drop n bs = subst (λ (x : List ℕ). after ≡ drop n x) same e in
    let no : (b == semicolon) ≡ false = eqb_no b 59 comment in
    let skip : cut_from n (at + 1) bs ≡ cut_from 0 (at + 1 + n) (drop n bs) = cut_skip n (at + 1) bs short_bs in
    let next : cut_from 0 at (b ∷ bs) ≡ record { from = at; to = at + 1 + n } ∷ cut_from 0 (at + 1 + n) after = rw (blank, no, ← more_bs, skip, after_is) refl in
    (rw after_is (omega (arith, length-drop n bs)), rw p (rw append_assoc (rw (← next) h.1)))
