-- The list of known names, kept as the entries of a map.
use Rattle.std.proofs.Common.{◌≡◌, ℕ, Bool, true, false, cond, List, [], ◌∷◌, ◌++◌, Some, None, Option, map, refl, ap, ◌∙◌, Global}
use Rattle.std.specs.Cow.{cow_slice_items}
use Rattle.std.specs.declared.borrow.CowSlice.{CowSlice}
use Rattle.std.specs.Map.{lookup}
use Rattle.std.specs.Str.{bytes_eq}
use Rattle.indexmap.specs.IndexMap.{insert_entry}

abbrev pub Key : Type 0
Key = CowSlice ℕ Global

abbrev pub same_bytes : Key → Key → Bool
same_bytes x y = bytes_eq (cow_slice_items x) (cow_slice_items y)

module _ {M : Type 0} where
  -- an entry as contracts see it
  abbrev pub named : Key × M → List ℕ × M
  named e = (cow_slice_items e.0, e.1)

  -- a look-up by the bytes of a name
  pub found : (name : List ℕ) (es : List (Key × M)) → lookup (λ k. bytes_eq name (cow_slice_items k)) es ≡ lookup (bytes_eq name) (map named es)
  found name [] = refl
  found name (e ∷ es) = ap (cond (bytes_eq name (cow_slice_items e.0)) (Some e.1)) (found name es)

  absent_step : (b : Bool) (v : M) (rest : Option M) → cond b (Some v) rest ≡ None → (b ≡ false) × (rest ≡ None)
  absent_step true v rest e = cc
  absent_step false v rest e = (refl, e)

  -- a new name goes last
  pub added : (key : Key) (v : M) (es : List (Key × M)) → lookup (bytes_eq (cow_slice_items key)) (map named es) ≡ None → map named (insert_entry same_bytes es key v) ≡ map named es ++ ((cow_slice_items key), v) ∷ []
  added key v [] none = refl
  added key v (e ∷ es) none =
      let parts : (bytes_eq (cow_slice_items key) (cow_slice_items e.0) ≡ false) × (lookup (bytes_eq (cow_slice_items key)) (map named es) ≡ None) = absent_step (bytes_eq (cow_slice_items key) (cow_slice_items e.0)) e.1 (lookup (bytes_eq (cow_slice_items key)) (map named es)) none in
      ap (λ b. map named (cond b ((e.0, v) ∷ es) (e ∷ insert_entry same_bytes es key v))) parts.0 ∙ ap (λ rest. named e ∷ rest) (added key v es parts.1)
