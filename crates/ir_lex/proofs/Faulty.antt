-- The walk over a line finds its first fault.
use Rattle.std.proofs.Common.{◌≡◌, ℕ, suc, zero, ◌+◌, ◌<◌, ◌≤◌, ◌==◌, ◌||◌, not, Bool, true, false, cond, List, [], ◌∷◌, length, get_or, take, drop, Option, Some, None, inl, inr, refl, subst, arith}
use Rattle.std.proofs.lemmas.Bool.Decides.{eqb_tells, leb_tells}
use Rattle.ir_lex.proofs.Classes.{clash}
use Rattle.ir_lex.specs.Faults.{enter, after, begins_fault, FirstFault}
use Rattle.ir_lex.specs.Scan.{fault_from}
use Rattle.ir_lex.specs.declared.faults.Part.{Part}
use Rattle.std.specs.List.{position_or_len}
use Rattle.ir_lex.specs.Bytes.{quote, semicolon, is_control, is_notable}
use Rattle.ir_lex.specs.declared.faults.Part.TheVariants.{Plain, Quoted, Comment}

-- nothing is found in a line without fault alone
pub fault_absent : (part : Part) (at : ℕ) (line : List ℕ) → fault_from part at line ≡ None → (k : ℕ) → begins_fault (after part (take k line)) (drop k line) ≡ false
fault_absent part at [] h zero = refl
fault_absent part at [] h (suc k) = refl
fault_absent part at (b ∷ bs) h k = here (begins_fault part (b ∷ bs)) refl h k (λ h k. fault_absent (enter part b) (at + 1) bs h k) where
  here : (t : Bool) → begins_fault part (b ∷ bs) ≡ t → cond t (Some at) (fault_from (enter part b) (at + 1) bs) ≡ None → (k : ℕ) →
      (fault_from (enter part b) (at + 1) bs ≡ None → (k : ℕ) → begins_fault (after (enter part b) (take k bs)) (drop k bs) ≡ false) →
      begins_fault (after part (take k (b ∷ bs))) (drop k (b ∷ bs)) ≡ false
  here true e h k next = cc
  here false e h zero next = e
  here false e h (suc k) next = next h k

-- the place `j` in the line is the first fault
pub record FoundAt (part : Part) (line : List ℕ) (j : ℕ) : Type 0 where
  pub within : j < length line
  pub fault : begins_fault (after part (take j line)) (drop j line) ≡ true
  pub first : (i : ℕ) → i < j → begins_fault (after part (take i line)) (drop i line) ≡ false

-- what is found is the first fault
pub fault_there : (part : Part) (at : ℕ) (line : List ℕ) (k : ℕ) → fault_from part at line ≡ Some k → (j : ℕ) × (k ≡ at + j) × FoundAt part line j
fault_there part at [] k h = cc
fault_there part at (b ∷ bs) k h = here (begins_fault part (b ∷ bs)) refl h (λ h. fault_there (enter part b) (at + 1) bs k h) where
  here : (t : Bool) → begins_fault part (b ∷ bs) ≡ t → cond t (Some at) (fault_from (enter part b) (at + 1) bs) ≡ Some k →
      (fault_from (enter part b) (at + 1) bs ≡ Some k → (j : ℕ) × (k ≡ at + 1 + j) × FoundAt (enter part b) bs j) →
      (j : ℕ) × (k ≡ at + j) × FoundAt part (b ∷ bs) j
  here true e h next =
      let same : at ≡ k = cc in
      (0, omega arith, record { within = omega arith; fault = e; first = λ i l. absurd (omega arith) })
  here false e h next = later (next h) where
    earlier : (j : ℕ) → FoundAt (enter part b) bs j → (i : ℕ) → i < suc j → begins_fault (after part (take i (b ∷ bs))) (drop i (b ∷ bs)) ≡ false
    earlier j f zero l = e
    earlier j f (suc i) l = f.first i (omega arith)

    later : (j : ℕ) × (k ≡ at + 1 + j) × FoundAt (enter part b) bs j → (j : ℕ) × (k ≡ at + j) × FoundAt part (b ∷ bs) j
    later (j, same, f) = (suc j, omega arith, record { within = let l = f.within in omega arith; fault = f.fault; first = earlier j f })

-- a line's first fault
pub found_first : (line : List ℕ) (k : ℕ) → fault_from Plain 0 line ≡ Some k → (k < length line) × FirstFault line k
found_first line k h = here (fault_there Plain 0 line k h) where
  here : (j : ℕ) × (k ≡ 0 + j) × FoundAt Plain line j → (k < length line) × FirstFault line k
  here (j, same, f) =
      let e : j ≡ k = omega arith in
      subst (λ (x : ℕ). (x < length line) × FirstFault line x) e (f.within, record { fault = f.fault; first = f.first })

-- there is one first fault
pub first_once : (line : List ℕ) (j k : ℕ) → FirstFault line j → FirstFault line k → j ≡ k
first_once line j k f g =
    elim (eqb_tells j k) [
      | inl h ↦ h.1
      | inr h ↦ elim (leb_tells j k) [
        | inl l ↦ clash _ (g.first j (omega (arith, h.1))) f.fault
        | inr l ↦ clash _ (f.first k l.1) g.fault
      ]
    ]

-- bytes that are not notable are no fault, and leave the part of the line as it is
calm_here : (part : Part) (b : ℕ) (bs : List ℕ) → is_notable b ≡ false → (begins_fault part (b ∷ bs) ≡ false) × (enter part b ≡ part)
unfolding is_notable
calm_here part b bs calm = here part (is_control b) (b == quote) (b == semicolon) refl refl refl calm where
  here : (part : Part) (x y z : Bool) → is_control b ≡ x → (b == quote) ≡ y → (b == semicolon) ≡ z → (is_control b || b == quote || b == semicolon) ≡ false →
      (begins_fault part (b ∷ bs) ≡ false) × (enter part b ≡ part)
  here Plain false false false c q s h = (rw (c, q) refl, rw (q, s) refl)
  here Quoted false false false c q s h = (rw c refl, rw q refl)
  here Comment false false false c q s h = (rw c refl, refl)
  here part true y z c q s h = absurd (let e = rw c at h in cc)
  here part false true z c q s h = absurd (let e = rw (c, q) at h in cc)
  here part false false true c q s h = absurd (let e = rw (c, q, s) at h in cc)

-- so the walk passes over them
pub calm_passed : (part : Part) (at : ℕ) (bs : List ℕ) → fault_from part at bs ≡ fault_from part (at + position_or_len is_notable bs) (drop (position_or_len is_notable bs) bs)
calm_passed part at [] = refl
calm_passed part at (b ∷ bs) = here (is_notable b) refl (calm_passed part (at + 1) bs) where
  here : (t : Bool) → is_notable b ≡ t → fault_from part (at + 1) bs ≡ fault_from part (at + 1 + position_or_len is_notable bs) (drop (position_or_len is_notable bs) bs) →
      fault_from part at (b ∷ bs) ≡ fault_from part (at + cond (not t) (1 + position_or_len is_notable bs) 0) (drop (cond (not t) (1 + position_or_len is_notable bs) 0) (b ∷ bs))
  here true e next = let z : at + 0 ≡ at = omega arith in rw z refl
  here false e next =
      let passed = calm_here part b bs e in
      let z : 1 + position_or_len is_notable bs ≡ suc (position_or_len is_notable bs) = omega arith in
      let s : at + suc (position_or_len is_notable bs) ≡ at + 1 + position_or_len is_notable bs = omega arith in
      rw (z, s, passed.0, passed.1) next

-- past bytes that are not notable the walk finds what it finds before them
pub moved : (part : Part) (place n : ℕ) (rest left : List ℕ) (whole : Option ℕ) → n ≡ position_or_len is_notable rest → left ≡ drop n rest → fault_from part place rest ≡ whole →
    fault_from part (place + n) left ≡ whole
moved part place n rest left whole e d h = rw (d, e) (rw (calm_passed part place rest) at h)

pub none_left : (part : Part) (at : ℕ) (left : List ℕ) → length left < 1 → fault_from part at left ≡ None
none_left part at [] l = refl
none_left part at (b ∷ bs) l = absurd (omega arith)

pub found_here : (part : Part) (at : ℕ) (left : List ℕ) → begins_fault part left ≡ true → fault_from part at left ≡ Some at
found_here part at [] h = cc
found_here part at (b ∷ bs) h = rw h refl

-- one byte further, where it is no fault
pub one_on : (part : Part) (at size : ℕ) (left later : List ℕ) (whole : Option ℕ) → 1 ≤ length left → later ≡ drop 1 left → begins_fault part left ≡ false → at + length left ≡ size → fault_from part at left ≡ whole →
    (at + 1 + length later ≡ size) × (fault_from (enter part (get_or left 0 0)) (at + 1) later ≡ whole)
one_on part at size [] later whole l d b s h = absurd (omega arith)
one_on part at size (x ∷ xs) later whole l d b s h =
    let same : later ≡ xs = d in
    rw same (omega arith, rw b at h)
