-- Places in one list: whether a use is in it, and where one comes back.
use Rattle.std.specs.Prelude.{◌≡◌, refl, ℕ, Bool, true, false, cond, List, [], ◌∷◌}
use Rattle.std.specs.declared.option.Option.{Option}
use Rattle.std.specs.declared.option.Option.TheVariants.{None, Some}
use Rattle.ir_types.specs.declared.id.Use.{Use}
use Rattle.vx_view.specs.Uses.{same_use, taken}
use Rattle.vx_view.specs.Answers.{value}
use Rattle.sb_uses.specs.Chains.{same_end}

-- the list has the use
abbrev pub has : Use → List Use → Bool
has u [] = false
has u (v ∷ vs) = cond (same_use v u) true (has u vs)

-- the list has a use
abbrev pub is_some_use : List Use → Bool
is_some_use [] = false
is_some_use (u ∷ us) = true

-- the place after a newer neighbour is in the list; none stands for the head
abbrev pub stands : Option Use → List Use → Bool
stands None us = true
stands (Some w) us = has w us

-- a use put after its newer neighbour, in a list that comes after `came`
abbrev pub put_from : Option Use → Option Use → Use → List Use → List Use
put_from came newer u [] = u ∷ []
put_from came newer u (v ∷ vs) = cond (same_end came newer) (u ∷ v ∷ vs) (v ∷ put_from (Some v) newer u vs)

-- a use put after its newer neighbour, or at the head
abbrev pub put : Option Use → Use → List Use → List Use
put newer u us = put_from None newer u us

-- ---- worked examples, with the uses 3, 2 and 1, newest first

abbrev pub use_of : ℕ → ℕ → Use
use_of user slot = record { user = value user; slot = slot }

abbrev pub three : List Use
three = use_of 3 0 ∷ use_of 2 0 ∷ use_of 1 0 ∷ []

the_middle_goes : taken (use_of 2 0) three ≡ use_of 3 0 ∷ use_of 1 0 ∷ []
the_middle_goes = refl

and_comes_back : put (Some (use_of 3 0)) (use_of 2 0) (taken (use_of 2 0) three) ≡ three
and_comes_back = refl

to_the_head : put None (use_of 2 0) (taken (use_of 2 0) three) ≡ use_of 2 0 ∷ use_of 3 0 ∷ use_of 1 0 ∷ []
to_the_head = refl
