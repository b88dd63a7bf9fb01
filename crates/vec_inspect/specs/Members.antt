-- Which members of bundles stand against them: one that is not among some ids, and one that is there twice.
use Rattle.std.specs.Prelude.{◌≡◌, refl, Option, None, Some, List, [], ◌∷◌, cond}
use Rattle.std.specs.List.{list_any}
use Rattle.ir_types.specs.declared.id.Id.{Id}
use Rattle.ir_types.specs.Available.{same_id}
use Rattle.vx_serial.specs.Window.{id}

-- the first that is not among some ids
abbrev pub first_outside : List Id → List Id → Option Id
first_outside ids [] = None
first_outside ids (x ∷ xs) = cond (list_any (same_id x) ids) (first_outside ids xs) (Some x)

-- the first that comes again
abbrev pub first_twice : List Id → Option Id
first_twice [] = None
first_twice (x ∷ xs) = cond (list_any (same_id x) xs) (Some x) (first_twice xs)

-- ---- worked examples

one_outside : first_outside (id 1 ∷ id 2 ∷ []) (id 2 ∷ id 3 ∷ id 4 ∷ []) ≡ Some (id 3)
one_outside = refl

one_twice : first_twice (id 1 ∷ id 2 ∷ id 3 ∷ id 2 ∷ []) ≡ Some (id 2)
one_twice = refl

none_twice : first_twice (id 1 ∷ id 2 ∷ []) ≡ None
none_twice = refl
