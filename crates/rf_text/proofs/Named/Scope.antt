-- Scopes that have each name once: a name that comes next can be defined, and whatever is defined is found.
use Rattle.std.proofs.Common.{◌≡◌, ℕ, Bool, true, false, cond, Ok, None, Some, List, [], ◌∷◌, ◌++◌, bytes_eq, refl, sym, ap, ◌∙◌, append_assoc}
use Rattle.ir_forms.proofs.Steps.{bytes_is, bytes_same}
use Rattle.ir_types_check.specs.Scope.{Scope, define, meaning}

-- bytes that are not the same, in either order
either_order : (a b : List ℕ) → bytes_eq a b ≡ false → bytes_eq b a ≡ false
either_order a b apart = go (bytes_eq b a) refl where
  go : (t : Bool) → bytes_eq b a ≡ t → t ≡ false
  go true same = let is : bytes_eq a b ≡ true = ap (bytes_eq a) (bytes_is b a same) ∙ bytes_same a in cc
  go false same = refl

module _ {M : Type 0} where
  -- no name stands before the same name
  abbrev pub Once : Scope M → Type 0
  Once [] = Unit {0}
  Once (e ∷ rest) = (meaning e.0 rest ≡ None) × Once rest

  -- a name that means nothing where another stands is another
  another : (key name : List ℕ) (m : M) (done rest : Scope M) → meaning key (done ++ (name, m) ∷ rest) ≡ None → bytes_eq key name ≡ false
  another key name m [] rest none = go (bytes_eq key name) none where
    go : (t : Bool) → cond t (Some m) (meaning key rest) ≡ None → t ≡ false
    go true e = cc
    go false e = refl
  another key name m (e ∷ done) rest none = another key name m done rest (go (bytes_eq key e.0) none) where
    go : (t : Bool) → cond t (Some e.1) (meaning key (done ++ (name, m) ∷ rest)) ≡ None → meaning key (done ++ (name, m) ∷ rest) ≡ None
    go true e = cc
    go false e = e

  -- a name that is still to come is new
  pub absent : (done : Scope M) (name : List ℕ) (m : M) (rest : Scope M) → Once (done ++ (name, m) ∷ rest) → meaning name done ≡ None
  absent [] name m rest once = refl
  absent (e ∷ done) name m rest once = rw (either_order e.0 name (another e.0 name m done rest once.0)) (absent done name m rest once.1)

  -- so it can be defined
  pub defined : (n sigil : ℕ) (done : Scope M) (name : List ℕ) (m : M) (rest : Scope M) → Once (done ++ (name, m) ∷ rest) → define n sigil name m done ≡ Ok (done ++ (name, m) ∷ [])
  unfolding define
  defined n sigil done name m rest once = rw (absent done name m rest once) refl

  -- and is found
  pub found : (done : Scope M) (name : List ℕ) (m : M) (rest : Scope M) → Once (done ++ (name, m) ∷ rest) → meaning name (done ++ (name, m) ∷ rest) ≡ Some m
  found [] name m rest once = rw (bytes_same name) refl
  found (e ∷ done) name m rest once = rw (either_order e.0 name (another e.0 name m done rest once.0)) (found done name m rest once.1)

  -- one more of the names is after
  pub moved : (all done : Scope M) (e : List ℕ × M) (rest : Scope M) → all ≡ done ++ e ∷ rest → all ≡ (done ++ e ∷ []) ++ rest
  moved all done e rest whole = whole ∙ sym (append_assoc done (e ∷ []) rest)
