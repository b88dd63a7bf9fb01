-- One more line of a text that is read line by line.
use Rattle.std.proofs.Common.{◌≡◌, ℕ, ◌+◌, List, ◌∷◌, Result, Ok, sym, ◌∙◌, ap}
use Rattle.ir_read.specs.declared.outlook.Outlook.{Outlook}
use Rattle.ir_read.specs.declared.progress.Progress.{Progress}
use Rattle.ir_read.specs.declared.refusal.ReadRefusal.{ReadRefusal}
use Rattle.ir_read.specs.Answers.{◌>>=◌}
use Rattle.ir_read.specs.Forms.{form_in}
use Rattle.ir_read.specs.Steps.{is_inside, line_step, since, steps_from}

-- where the line is read, the rest goes on from there
pub one_stepped : (known : Outlook) (n : ℕ) (read after : Progress) (from here all rest : List (List ℕ)) (l : List ℕ) → all ≡ l ∷ rest → here ≡ since (is_inside read.current) from all →
    line_step known n here read (form_in (is_inside read.current) l) ≡ Ok after → steps_from known (n + 1) after here rest ≡ steps_from known n read from all
one_stepped known n read after from here all rest l e since_is said =
    sym (ap (λ (ls : List (List ℕ)). steps_from known n read from ls) e ∙ at_line)
  where
    same : since (is_inside read.current) from (l ∷ rest) ≡ here
    same = ap (since (is_inside read.current) from) (sym e) ∙ sym since_is

    at_line : steps_from known n read from (l ∷ rest) ≡ steps_from known (n + 1) after here rest
    at_line =
        ap (λ (h : List (List ℕ)). line_step known n h read (form_in (is_inside read.current) l) >>= (λ x. steps_from known (n + 1) x h rest)) same
        ∙ ap (λ (r : Result Progress ReadRefusal). r >>= (λ x. steps_from known (n + 1) x here rest)) said
