-- Whether bytes end outside strings and comments, so that what follows them is cut as if it stood alone.
use Rattle.std.specs.Prelude.{◌≡◌, refl, ℕ, Bool, true, false, List, codes}
use Rattle.ir_lex.specs.Faults.{after}
use Rattle.ir_lex.specs.declared.faults.Part.{Part}
use Rattle.ir_lex.specs.declared.faults.Part.TheVariants.{Plain, Quoted, Comment}

-- whether a part of a line is outside strings and comments
abbrev pub is_outside : Part → Bool
is_outside Plain = true
is_outside Quoted = false
is_outside Comment = false

-- whether what stands after these bytes stands outside strings and comments
unfoldable pub ends_outside : List ℕ → Bool
ends_outside bs = is_outside (after Plain bs)

closed_string : ends_outside (codes "section \";\"") ≡ true
unfolding ends_outside
closed_string = refl

comment : ends_outside (codes "nounwind ; never throws") ≡ false
unfolding ends_outside
comment = refl
