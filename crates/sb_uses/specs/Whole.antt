-- Slots that are linked as their lists say.
--
-- Each use of a list names its neighbours in it, has a slot, and stands in it once.
use Rattle.std.specs.Prelude.{◌≡◌, refl, cond, Bool, true, false, List, [], ◌∷◌}
use Rattle.std.specs.declared.option.Option.{Option}
use Rattle.std.specs.declared.option.Option.TheVariants.{None, Some}
use Rattle.ir_types.specs.declared.id.Id.{Id}
use Rattle.ir_types.specs.declared.id.Use.{Use}
use Rattle.sb_uses.specs.declared.chains.Chains.{Chains}
use Rattle.sb_uses.specs.Chains.{next, prev, known, lists, walk}
use Rattle.sb_uses.specs.Places.{has, three, use_of}
use Rattle.vx_view.specs.Uses.{same_use}

-- no use is in the list twice
abbrev pub Apart : List Use → Type 0
Apart [] = Unit {0}
Apart (u ∷ us) = (has u us ≡ false) × Apart us

-- from `a` on the slots name each other and are there, as far as the list goes
abbrev pub Seg : (Option Use → Option Use) → (Use → Option Use) → (Option Use → Bool) → Option Use → List Use → Type 0
Seg n p k a [] = n a ≡ None
Seg n p k a (u ∷ us) = ((n a ≡ Some u) × (p u ≡ a)) × ((k (Some u) ≡ true) × Seg n p k (Some u) us)

-- the slots of a value are linked as its list says, and each use is once in it
pub record IsWhole (s : Chains) (v : Id) : Type 0 where
  pub seg : Seg (next s v) (prev s v) (known s v) None (lists s v)
  pub once : Apart (lists s v)

-- ---- worked examples, with the uses 3, 2 and 1, newest first

abbrev after : Option Use → Option Use
after None = Some (use_of 3 0)
after (Some u) = cond (same_use u (use_of 3 0)) (Some (use_of 2 0)) (cond (same_use u (use_of 2 0)) (Some (use_of 1 0)) None)

abbrev before : Use → Option Use
before u = cond (same_use u (use_of 1 0)) (Some (use_of 2 0)) (cond (same_use u (use_of 2 0)) (Some (use_of 3 0)) None)

they_are_walked : walk after 3 None ≡ three
they_are_walked = refl

they_name_each_other : Seg after before (λ c. true) None three
they_name_each_other = ((refl, refl), (refl, ((refl, refl), (refl, ((refl, refl), (refl, refl))))))

each_is_there_once : Apart three
each_is_there_once = (refl, (refl, (refl, tt)))
