-- The parameters that a list of them gains one by one.
use Rattle.std.proofs.Common.{◌≡◌, refl, sym, ap, ◌∙◌, subst, arith, ℕ, ◌+◌, ◌≤◌, Bool, List, [], ◌∷◌, ◌++◌, length, drop, true, false}
use Rattle.std.specs.Prelude.{codes, cond}
use Rattle.std.proofs.lemmas.List.{append_assoc}
use Rattle.std.specs.declared.option.Option.{Option}
use Rattle.std.specs.declared.option.Option.TheVariants.{None, Some}
use Rattle.ir_lex.specs.declared.list.Token.{Token}
use Rattle.ir_lex.specs.Words.{words}
use Rattle.ir_types.specs.declared.func.Param.{Param}
use Rattle.ir_words.specs.Words.{is_first}
use Rattle.ir_line.specs.Headers.{with_params, params_within, param_at, closed}

with_one_more : (found : List Param) (p : Param) (read : Option (List Param × List Token)) → with_params (found ++ p ∷ []) read ≡ with_params found (with_params (p ∷ []) read)
with_one_more found p None = refl
with_one_more found p (Some x) = rw (append_assoc found (p ∷ []) x.0) refl

-- what a turn of the loop does: one parameter is read, a comma follows, and the rest stays to be read
pub one_turn : (found new : List Param) (p : Param) (line here : List ℕ) (bound fewer rest after next : List Token) (place up : ℕ) (whole : Option (List Param × List Token)) →
    here ≡ line → with_params found (params_within bound line place rest) ≡ whole → 1 ≤ length bound → fewer ≡ drop 1 bound → up ≡ place + 1 → param_at here place rest ≡ Some (p, after) →
    is_first (codes ",") (words here after) ≡ true → next ≡ drop 1 after → new ≡ found ++ p ∷ [] → with_params new (params_within fewer line up next) ≡ whole
one_turn found new p line here [] fewer rest after next place up whole same e some f u g h n x = absurd (omega arith)
one_turn found new p line here (b ∷ bound) fewer rest after next place up whole same e some f u g h n x =
    rw (x, f, n, u) (with_one_more found p (params_within bound line (place + 1) (drop 1 after)) ∙ ap (with_params found) (sym read_one) ∙ e) where
      read : param_at line place rest ≡ Some (p, after)
      read = subst (λ (l : List ℕ). param_at l place rest ≡ Some (p, after)) same g

      comma : is_first (codes ",") (words line after) ≡ true
      comma = subst (λ (l : List ℕ). is_first (codes ",") (words l after) ≡ true) same h

      read_one : params_within (b ∷ bound) line place rest ≡ with_params (p ∷ []) (params_within bound line (place + 1) (drop 1 after))
      read_one = rw (read, comma) refl

with_closed : (line : List ℕ) (found : List Param) (p : Param) (after : List Token) → with_params found (closed line (p ∷ []) after) ≡ closed line (found ++ p ∷ []) after
with_closed line found p after = here (is_first (codes ")") (words line after)) where
  here : (t : Bool) → with_params found (cond t (Some (p ∷ [], drop 1 after)) None) ≡ cond t (Some (found ++ p ∷ [], drop 1 after)) None
  here true = refl
  here false = refl

-- what the last turn does: one parameter is read, no comma follows, and the parameters close there
pub last_turn : (found new : List Param) (p : Param) (line here : List ℕ) (bound rest after : List Token) (place : ℕ) (whole : Option (List Param × List Token)) →
    here ≡ line → with_params found (params_within bound line place rest) ≡ whole → 1 ≤ length bound → param_at here place rest ≡ Some (p, after) →
    is_first (codes ",") (words here after) ≡ false → new ≡ found ++ p ∷ [] → closed here new after ≡ whole
last_turn found new p line here [] rest after place whole same e some g h x = absurd (omega arith)
last_turn found new p line here (b ∷ bound) rest after place whole same e some g h x =
    rw (x, same) (sym (with_closed line found p after) ∙ ap (with_params found) (sym read_one) ∙ e) where
      read : param_at line place rest ≡ Some (p, after)
      read = subst (λ (l : List ℕ). param_at l place rest ≡ Some (p, after)) same g

      comma : is_first (codes ",") (words line after) ≡ false
      comma = subst (λ (l : List ℕ). is_first (codes ",") (words l after) ≡ false) same h

      read_one : params_within (b ∷ bound) line place rest ≡ closed line (p ∷ []) after
      read_one = rw (read, comma) refl
