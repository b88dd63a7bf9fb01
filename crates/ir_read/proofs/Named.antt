-- The list of names, kept as the keys of a set.
use Rattle.std.proofs.Common.{◌≡◌, ℕ, Bool, true, false, cond, ◌||◌, List, [], ◌∷◌, ◌++◌, map, refl, ap, ◌∙◌, Vec, Global, if◌then◌else◌}
use Rattle.std.specs.List.{list_any}
use Rattle.std.specs.Str.{bytes_eq}
use Rattle.indexmap.specs.IndexSet.{insert_key}
use Rattle.ir_read.specs.Outlook.{with_name}

-- a name as contracts see it
abbrev pub named : Vec ℕ Global → List ℕ
named k = k.items

-- a look-up by the bytes of a name
pub found : (name : List ℕ) (ks : List (Vec ℕ Global)) → list_any (λ k. bytes_eq name k.items) ks ≡ list_any (bytes_eq name) (map named ks)
found name [] = refl
found name (k ∷ ks) = ap (λ b. bytes_eq name k.items || b) (found name ks)

abbrev pub same_bytes : Vec ℕ Global → Vec ℕ Global → Bool
same_bytes x y = bytes_eq x.items y.items

put_last : (key : Vec ℕ Global) (ks : List (Vec ℕ Global)) → map named (ks ++ key ∷ []) ≡ map named ks ++ key.items ∷ []
put_last key [] = refl
put_last key (k ∷ ks) = ap (λ names. k.items ∷ names) (put_last key ks)

either_way : (there : Bool) (key : Vec ℕ Global) (ks : List (Vec ℕ Global)) → map named (if there then ks else ks ++ key ∷ []) ≡ cond there (map named ks) (map named ks ++ key.items ∷ [])
either_way true key ks = refl
either_way false key ks = put_last key ks

-- a name goes last, if it is new
pub added : (key : Vec ℕ Global) (ks : List (Vec ℕ Global)) → map named (insert_key same_bytes ks key) ≡ with_name (map named ks) key.items
added key ks = either_way (list_any (same_bytes key) ks) key ks ∙ ap (λ there. cond there (map named ks) (map named ks ++ key.items ∷ [])) (found key.items ks)
