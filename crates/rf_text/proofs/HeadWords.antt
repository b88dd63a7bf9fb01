-- Pieces of a text that stand one after the other in a line: their tokens, their words, and the bytes from their first to their
-- last token.
use Rattle.std.proofs.Common.{◌≡◌, ℕ, ◌+◌, ◌≤◌, true, List, [], ◌∷◌, ◌++◌, length, map, drop, None, refl, ◌∙◌, ap, subst, arith}
use Rattle.std.specs.List.{concat}
use Rattle.ir_lex.specs.Ends.{ends_outside}
use Rattle.ir_lex.specs.Scan.{cut_from, cut, fault_of}
use Rattle.ir_lex.specs.Words.{word}
use Rattle.ir_lex.specs.declared.list.Token.{Token}
use Rattle.ir_lex.proofs.Again.{stops}
use Rattle.ir_lex.proofs.Standing.{shifted, EndBy, cut_end, word_in, fault_both, Stands, Apart, stands_append, stands_space}
use Rattle.ir_line.specs.Headers.{last_to, span}
use Rattle.ir_print.specs.Operands.{spaced}

-- a piece: it has no fault, it ends outside strings and comments, and its first byte is of no word in front of it
pub record Piece (part : List ℕ) : Type 0 where
  pub sound : fault_of part ≡ None
  pub ends : ends_outside part ≡ true
  pub apart : stops part ≡ true

abbrev pub ArePieces : List (List ℕ) → Type 0
ArePieces [] = Unit {0}
ArePieces (p ∷ ps) = Piece p × ArePieces ps

pub pieces_append : (ps qs : List (List ℕ)) → ArePieces ps → ArePieces qs → ArePieces (ps ++ qs)
pieces_append [] qs h k = k
pieces_append (p ∷ ps) qs h k = (h.0, pieces_append ps qs h.1 k)

stops_append : (bs cs : List ℕ) → stops bs ≡ true → stops cs ≡ true → stops (bs ++ cs) ≡ true
stops_append [] cs h k = k
stops_append (b ∷ bs) cs h k = h

pub pieces_stop : (ps : List (List ℕ)) → ArePieces ps → stops (concat ps) ≡ true
pieces_stop [] h = refl
pieces_stop (p ∷ ps) h = stops_append p (concat ps) h.0.apart (pieces_stop ps h.1)

no_fault : fault_of [] ≡ None
no_fault = refl

no_part : ends_outside [] ≡ true
unfolding ends_outside
no_part = refl

pub pieces_sound : (ps : List (List ℕ)) → ArePieces ps → fault_of (concat ps) ≡ None
pieces_sound [] h = no_fault
pieces_sound (p ∷ ps) h = fault_both p (concat ps) h.0.sound h.0.ends (pieces_sound ps h.1)

-- the tokens of pieces that stand one after the other: those of the first, then those of the others
abbrev pub Parts : List ℕ → List (List ℕ) → List Token → Type 0
Parts line [] ts = ts ≡ []
Parts line (p ∷ ps) ts = (front : List Token) × (back : List Token) × (ts ≡ front ++ back) × Stands line p front × Parts line ps back

pub pieces_stand : (line : List ℕ) (ps : List (List ℕ)) (ts : List Token) → ArePieces ps → Stands line (concat ps) ts → Parts line ps ts
unfolding cut
pieces_stand line [] ts h s = s.tokens
pieces_stand line (p ∷ ps) ts h s =
    let a : Apart line p (concat ps) ts = stands_append p (concat ps) h.0.sound h.0.ends (pieces_stop ps h.1) s in
    (a.front, a.back, a.whole, a.one, pieces_stand line ps a.back h.1 a.other)

-- a part after its space
pub spaced_stands : {line : List ℕ} {ts : List Token} (part : List ℕ) → Stands line (spaced part) ts → Stands line part ts
spaced_stands [] s = s
spaced_stands (b ∷ bs) s = stands_space s

-- the bytes from the first to the last token

last_shifted : (n to : ℕ) (ts : List Token) → last_to (n + to) (map (shifted n) ts) ≡ n + last_to to ts
last_shifted n to [] = refl
last_shifted n to (t ∷ ts) = last_shifted n t.to ts

last_within : (n to : ℕ) (ts : List Token) → to ≤ n → EndBy n ts → last_to to ts ≤ n
last_within n to [] l h = l
last_within n to (t ∷ ts) l h = last_within n t.to ts h.0 h.1

span_shifted : (line part rest : List ℕ) (n : ℕ) (ts : List Token) → drop n line ≡ part ++ rest → EndBy (length part) ts → span line (map (shifted n) ts) ≡ span part ts
span_shifted line part rest n [] place h = refl
span_shifted line part rest n (t ∷ ts) place h =
    ap (λ (to : ℕ). word line (record { from = n + t.from; to = to })) (last_shifted n t.to ts)
    ∙ word_in line part rest n (record { from = t.from; to = last_to t.to ts }) place (last_within (length part) t.to ts h.0 h.1)

pub span_stands : {line part : List ℕ} {ts : List Token} → Stands line part ts → span line ts ≡ span part (cut part)
unfolding cut
span_stands {line} {part} s =
    let e : 0 + length part ≡ length part = omega arith in
    ap (span line) s.tokens ∙ span_shifted line part s.rest s.at (cut_from 0 0 part) s.place (subst (λ (n : ℕ). EndBy n (cut_from 0 0 part)) e (cut_end 0 0 part))
