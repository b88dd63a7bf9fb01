-- Lines written one after the other are cut into these lines.
use Rattle.std.proofs.Common.{◌≡◌, ℕ, ◌==◌, ◌||◌, not, Bool, true, false, List, [], ◌∷◌, ◌++◌, refl, ◌∙◌, ap}
use Rattle.std.specs.List.{list_all}
use Rattle.ir_lex.proofs.Classes.{both, neither}
use Rattle.ir_read.specs.Lines.{lines_of, onto}
use Rattle.rf_text.specs.LinesOf.{joined, is_line}

no_from : (b : Bool) → not b ≡ true → b ≡ false
no_from true h = cc
no_from false h = refl

-- a line in front of others
pub line_first : (l rest : List ℕ) → is_line l ≡ true → lines_of (l ++ (10 ∷ rest)) ≡ l ∷ lines_of rest
line_first [] rest h = refl
line_first (b ∷ bs) rest h =
    let byte : (b == 10) || (b == 13) ≡ false = no_from _ (both _ _ h).0 in
    let feed : (b == 10) ≡ false = (neither _ _ byte).0 in
    let back : (b == 13) ≡ false = (neither (b == 10) _ byte).1 in
    rw (feed, back) (ap (onto b) (line_first bs rest (both _ _ h).1))

pub lines_of_joined : (ls : List (List ℕ)) → list_all is_line ls ≡ true → lines_of (joined ls) ≡ ls
lines_of_joined [] h = refl
lines_of_joined (l ∷ ls) h = line_first l (joined ls) (both (is_line l) _ h).0 ∙ ap (λ x. l ∷ x) (lines_of_joined ls (both (is_line l) _ h).1)
