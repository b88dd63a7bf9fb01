-- A line without the spaces at its end.
use Rattle.std.proofs.Common.{◌≡◌, ℕ, suc, ◌+◌, ◌-◌, Bool, true, false, ◌&&◌, cond, List, [], ◌∷◌, ◌++◌, length, take, drop, reverse, nat_eq, refl, sym, ◌∙◌, ap, arith, length-append}
use Rattle.std.proofs.Math.Seq.{take-append_seam, take-length}
use Rattle.std.proofs.lemmas.List.{take-append-drop, length-reverse, reverse-append, reverse-reverse}
use Rattle.std.proofs.lemmas.List.Folds.{list_all-append, length-prefix_len}
use Rattle.std.specs.List.{list_all, prefix_len}
use Rattle.ir_lex.proofs.Runs.{run_passes}
use Rattle.ir_line.specs.Keeping.{trimmed}

-- what stands after the bytes that pass does not begin with one that passes
run_over : (p : ℕ → Bool) (bs : List ℕ) → prefix_len p (drop (prefix_len p bs) bs) ≡ 0
run_over p [] = refl
run_over p (b ∷ bs) = here (p b) refl (run_over p bs) where
  here : (t : Bool) → p b ≡ t → prefix_len p (drop (prefix_len p bs) bs) ≡ 0 → prefix_len p (drop (cond t (1 + prefix_len p bs) 0) (b ∷ bs)) ≡ 0
  here true e h = let next : 1 + prefix_len p bs ≡ suc (prefix_len p bs) = omega arith in rw next h
  here false e h = rw e refl

all_reversed : (p : ℕ → Bool) (bs : List ℕ) → list_all p bs ≡ true → list_all p (reverse bs) ≡ true
all_reversed p [] h = refl
all_reversed p (b ∷ bs) h = rw (reverse-append (b ∷ []) bs, list_all-append p (reverse bs) (b ∷ [])) (both (p b) h (all_reversed p bs)) where
  both : (t : Bool) → t && list_all p bs ≡ true → (list_all p bs ≡ true → list_all p (reverse bs) ≡ true) → list_all p (reverse bs) && (t && true) ≡ true
  both true h next = rw (next h) refl
  both false h next = cc

-- a line is what is kept of it and spaces, and what is kept is kept whole
pub record Trimmed (line : List ℕ) : Type 0 where
  pub spaces : List ℕ
  pub whole : line ≡ trimmed line ++ spaces
  pub all : list_all (λ b. nat_eq b 32) spaces ≡ true
  pub once : trimmed (trimmed line) ≡ trimmed line

pub trimmed_is : (line : List ℕ) → Trimmed line
trimmed_is line =
    let p : ℕ → Bool = λ b. nat_eq b 32 in
    let n : ℕ = prefix_len p (reverse line) in
    let xs : List ℕ = take n (reverse line) in
    let ys : List ℕ = drop n (reverse line) in
    let whole : line ≡ reverse ys ++ reverse xs = sym (reverse-reverse line) ∙ ap reverse (sym (take-append-drop n (reverse line))) ∙ reverse-append xs ys in
    let long : length line ≡ length ys + length xs = ap length whole ∙ omega (arith, length-append (reverse ys) (reverse xs), length-reverse ys, length-reverse xs) in
    let size : length line - n ≡ length (reverse ys) = omega (arith, long, length-reverse ys, length-prefix_len p (reverse line)) in
    let kept : trimmed line ≡ reverse ys = ap (λ (m : ℕ). take m line) size ∙ ap (take (length (reverse ys))) whole ∙ take-append_seam (reverse ys) (reverse xs) in
    let none : prefix_len p (reverse (reverse ys)) ≡ 0 = ap (prefix_len p) (reverse-reverse ys) ∙ run_over p (reverse line) in
    let all_of_it : length (reverse ys) - prefix_len p (reverse (reverse ys)) ≡ length (reverse ys) = omega (arith, none) in
    let again : trimmed (reverse ys) ≡ reverse ys = ap (λ (m : ℕ). take m (reverse ys)) all_of_it ∙ take-length (reverse ys) in
    record {
      spaces = reverse xs;
      whole = whole ∙ ap (λ (x : List ℕ). x ++ reverse xs) (sym kept);
      all = all_reversed p xs (run_passes p (reverse line));
      once = ap trimmed kept ∙ again ∙ sym kept;
    }
