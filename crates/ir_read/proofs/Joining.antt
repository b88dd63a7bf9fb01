-- Lines that are written one by one, each after a line feed.
use Rattle.std.proofs.Common.{◌≡◌, ℕ, zero, suc, ◌-◌, ◌<◌, ◌≤◌, List, [], ◌∷◌, ◌++◌, length, take, sym, ◌∙◌, ap, arith, append_assoc}
use Rattle.std.proofs.lemmas.List.{append-nil}
use Rattle.ir_read.specs.Lines.{lines_of}
use Rattle.ir_read.specs.Opaque.{on_new_lines, joined}

-- one more of them
pub one_pushed : (out line : List ℕ) (left : ℕ) (all rest : List (List ℕ)) → 0 < left → all ≡ line ∷ rest → ((out ++ 10 ∷ []) ++ line) ++ on_new_lines (take (left - 1) rest) ≡ out ++ on_new_lines (take left all)
one_pushed out line zero all rest some e = absurd (omega (arith, some))
one_pushed out line (suc k) all rest some e =
    let less : suc k - 1 ≡ k = omega arith in
    ap (λ j. ((out ++ 10 ∷ []) ++ line) ++ on_new_lines (take j rest)) less
    ∙ append_assoc (out ++ 10 ∷ []) line (on_new_lines (take k rest))
    ∙ append_assoc out (10 ∷ []) (line ++ on_new_lines (take k rest))
    ∙ ap (λ (ls : List (List ℕ)). out ++ on_new_lines (take (suc k) ls)) (sym e)

-- none is left
pub none_counted : (out : List ℕ) (left : ℕ) (all : List (List ℕ)) → left ≤ 0 → out ++ on_new_lines (take left all) ≡ out
none_counted out zero all none = append-nil out
none_counted out (suc k) all none = absurd (omega (arith, none))

pub none_left : (out : List ℕ) (left : ℕ) (rest : List ℕ) → length rest ≡ 0 → out ++ on_new_lines (take left (lines_of rest)) ≡ out
none_left out zero [] none = append-nil out
none_left out (suc k) [] none = append-nil out
none_left out left (b ∷ bs) none = absurd (omega (arith, none))

-- the first and those after it
pub first_joined : (line : List ℕ) (more : ℕ) (all rest : List (List ℕ)) → all ≡ line ∷ rest → ([] ++ line) ++ on_new_lines (take more rest) ≡ joined (take (suc more) all)
first_joined line more all rest e = ap (λ (ls : List (List ℕ)). joined (take (suc more) ls)) (sym e)
