-- Pieces that were put one after the other are the whole.
use Rattle.std.proofs.Common.{◌≡◌, ℕ, ◌<◌, List, [], ◌∷◌, ◌++◌, Option, length, refl, ap, append_assoc, ◌∙◌, arith}
use Rattle.ir_print.specs.Names.{Names}
use Rattle.ir_print.specs.Instructions.{cases_text}

pub three : (o x y z a b c : List ℕ) → a ≡ o ++ x → b ≡ a ++ y → c ≡ b ++ z → c ≡ o ++ (x ++ (y ++ z))
three o x y z a b c e f g = g ∙ ap (λ t. t ++ z) (f ∙ ap (λ t. t ++ y) e) ∙ simp append_assoc

pub four : (o w x y z a b c d : List ℕ) → a ≡ o ++ w → b ≡ a ++ x → c ≡ b ++ y → d ≡ c ++ z → d ≡ o ++ (w ++ (x ++ (y ++ z)))
four o w x y z a b c d e f g h = h ∙ ap (λ t. t ++ z) (g ∙ ap (λ t. t ++ y) (f ∙ ap (λ t. t ++ x) e)) ∙ simp append_assoc

-- where no target is left there is no case
pub cases_end : (ns : Names) (w : ℕ) (ms : List (Option ℕ)) (bs : List ℕ) → length bs < 1 → cases_text ns w ms bs ≡ []
cases_end ns w [] bs none = refl
cases_end ns w (m ∷ ms) [] none = refl
cases_end ns w (m ∷ ms) (b ∷ bs) none = absurd (omega arith)
