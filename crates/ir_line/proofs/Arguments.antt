-- The arguments that a list of them gains one by one.
use Rattle.std.proofs.Common.{◌≡◌, refl, sym, ap, ◌∙◌, arith, ℕ, ◌≤◌, List, [], ◌∷◌, ◌++◌, length, drop, true, subst}
use Rattle.std.specs.Prelude.{codes}
use Rattle.std.proofs.lemmas.List.{append_assoc}
use Rattle.std.specs.declared.option.Option.{Option}
use Rattle.std.specs.declared.option.Option.TheVariants.{None, Some}
use Rattle.ir_lex.specs.declared.list.Token.{Token}
use Rattle.ir_line.specs.declared.calls.Arguments.{Arguments}
use Rattle.ir_draft.specs.declared.written.Arg.{Arg}
use Rattle.ir_lex.specs.Words.{words}
use Rattle.ir_words.specs.Words.{is_first}
use Rattle.ir_line.specs.Calls.{with_arguments, one_argument, arguments_within, argument, argument_at, after_argument}

-- one more before those that are read is the same as one more of those that are found
pub with_one_more : (i : Arguments) (a : Arg × List ℕ) (read : Option (Arguments × List Token)) → with_arguments (record { args = i.args ++ a.0 ∷ []; attrs = i.attrs ++ a.1 ∷ [] }) read ≡ with_arguments i (with_arguments (one_argument a) read)
with_one_more i a None = refl
with_one_more i a (Some x) = rw (append_assoc i.args (a.0 ∷ []) x.0.args, append_assoc i.attrs (a.1 ∷ []) x.0.attrs) refl

read_one : (a : Arg × List ℕ) (line : List ℕ) (b : Token) (bound rest : List Token) → argument line (argument_at line rest) ≡ Some a → is_first (codes ",") (words line (after_argument line rest)) ≡ true → arguments_within (b ∷ bound) line rest ≡ with_arguments (one_argument a) (arguments_within bound line (drop 1 (after_argument line rest)))
read_one a line b bound rest g h = rw (g, h) refl

-- what a turn of the loop does: one argument is read, a comma follows, and the rest stays to be read
pub one_turn : (i j : Arguments) (a : Arg × List ℕ) (line : List ℕ) (bound fewer rest next : List Token) (whole : Option (Arguments × List Token)) → with_arguments i (arguments_within bound line rest) ≡ whole → 1 ≤ length bound → fewer ≡ drop 1 bound → next ≡ drop 1 (after_argument line rest) → argument line (argument_at line rest) ≡ Some a → is_first (codes ",") (words line (after_argument line rest)) ≡ true → j ≡ record { args = i.args ++ a.0 ∷ []; attrs = i.attrs ++ a.1 ∷ [] } → with_arguments j (arguments_within fewer line next) ≡ whole
one_turn i j a line [] fewer rest next whole e some f n g h x = absurd (not_some some)
  where
    not_some : 1 ≤ 0 → ⊥
    not_some h = omega (arith, h)
one_turn i j a line (b ∷ bound) fewer rest next whole e some f n g h x =
    rw (x, f, n) (with_one_more i a (arguments_within bound line (drop 1 (after_argument line rest))) ∙ ap (with_arguments i) (sym (read_one a line b bound rest g h)) ∙ e)

-- the same, where the line of what is read is found to be that of the whole
pub one_turn_on : (i j : Arguments) (a : Arg × List ℕ) (line here : List ℕ) (bound fewer rest next : List Token) (whole : Option (Arguments × List Token)) → here ≡ line → with_arguments i (arguments_within bound line rest) ≡ whole → 1 ≤ length bound → fewer ≡ drop 1 bound → next ≡ drop 1 (after_argument here rest) → argument here (argument_at here rest) ≡ Some a → is_first (codes ",") (words here (after_argument here rest)) ≡ true → j ≡ record { args = i.args ++ a.0 ∷ []; attrs = i.attrs ++ a.1 ∷ [] } → with_arguments j (arguments_within fewer line next) ≡ whole
one_turn_on i j a line here bound fewer rest next whole same e some f n g h x =
    one_turn i j a line bound fewer rest next whole e some f (subst (λ (l : List ℕ). next ≡ drop 1 (after_argument l rest)) same n)
    (subst (λ (l : List ℕ). argument l (argument_at l rest) ≡ Some a) same g)
    (subst (λ (l : List ℕ). is_first (codes ",") (words l (after_argument l rest)) ≡ true) same h) x
