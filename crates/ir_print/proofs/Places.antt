-- The index from ids to places, one local further.
use Rattle.std.proofs.Common.{◌≡◌, ℕ, ◌+◌, ◌<◌, Bool, true, false, cond, List, ◌∷◌, Some, None, Option, length, drop, refl, ap, sym, ◌∙◌, get_or, slice_get, subst}
use Rattle.std.specs.Prelude.{option_and_then}
use Rattle.std.proofs.lemmas.Option.{slice_get-get_or}
use Rattle.std.proofs.lemmas.List.{drop_more}
use Rattle.ir_types.specs.declared.id.Id.{Id}
use Rattle.ir_print.specs.declared.names.Local.{Local}
use Rattle.ir_print.specs.Names.{same_id, last_of}

-- what is at the place that is found, where the newest place is `i`
found_after : (ls : List Local) (i : ℕ) (x : Local) (old : Option ℕ) → slice_get ls i ≡ Some x → (b : Bool) → option_and_then (λ at. slice_get ls at) (cond b (Some i) old) ≡ cond b (Some x) (option_and_then (λ at. slice_get ls at) old)
found_after ls i x old e true = e
found_after ls i x old e false = refl

pub place_step : (id : Id) (ls : List Local) (i : ℕ) (x : Local) (old new : Option ℕ) → i < length ls → x ≡ get_or ls i x → new ≡ cond (same_id x.id id) (Some i) old → last_of id (drop i ls) (option_and_then (λ at. slice_get ls at) old) ≡ last_of id ls None → last_of id (drop (i + 1) ls) (option_and_then (λ at. slice_get ls at) new) ≡ last_of id ls None
place_step id ls i x old new within here now before =
    let at : slice_get ls i ≡ Some x = slice_get-get_or ls i x within ∙ ap Some (sym here) in
    let put : option_and_then (λ p. slice_get ls p) new ≡ cond (same_id x.id id) (Some x) (option_and_then (λ p. slice_get ls p) old) = ap (option_and_then (λ p. slice_get ls p)) now ∙ found_after ls i x old at (same_id x.id id) in
    let split : drop i ls ≡ x ∷ drop (i + 1) ls = drop_more ls i x within ∙ ap (λ y. y ∷ drop (i + 1) ls) (sym here) in
    ap (last_of id (drop (i + 1) ls)) put ∙ sym (ap (λ rest. last_of id rest (option_and_then (λ p. slice_get ls p) old)) split) ∙ before
