-- Scopes: what names mean. A scope has each of its names once.
use Rattle.std.specs.Prelude.{ℕ, cond, Option, Result, Ok, Err, List, [], ◌∷◌, ◌++◌, bytes_eq}
use Rattle.std.specs.Map.{lookup}
use Rattle.std.specs.Option.{is_some}
use Rattle.ir_types_check.specs.declared.refusal.ResolveRefusal.{ResolveRefusal}
use Rattle.ir_types_check.specs.declared.refusal.ResolveRefusal.TheVariants.{TwiceDefined}

abbrev pub Scope : Type 0 → Type 0
Scope M = List (List ℕ × M)

-- the sigils of names: those of the module, and those of a function
abbrev pub of_module : ℕ
of_module = 64

abbrev pub of_function : ℕ
of_function = 37

-- what a name means
abbrev pub meaning : {M : Type 0} → List ℕ → Scope M → Option M
meaning name scope = lookup (bytes_eq name) scope

-- the scope with a name that the line n defines; a name that it has already is defined twice
unfoldable pub define : {M : Type 0} → ℕ → ℕ → List ℕ → M → Scope M → Result (Scope M) ResolveRefusal
define n sigil name m scope = cond (is_some (meaning name scope)) (Err (TwiceDefined n (sigil ∷ name))) (Ok (scope ++ (name, m) ∷ []))
