-- One step of a chain, and of its pieces.
use Rattle.std.proofs.Common.{◌≡◌, refl, sym, ap, ◌∙◌, ℕ, zero, suc, min, Some, List, [], ◌∷◌, ◌++◌, length, take, drop}
use Rattle.std.proofs.lemmas.List.{append_assoc}
use Rattle.ir_types.specs.declared.id.Id.{Id}
use Rattle.vx_serial.specs.Regions.{Spot, first_of, follows, on, chain_after, power_in, taken_off, pieces}

-- the chain goes on with the first that follows
pub chain_step : (done : List Spot) (n : ℕ) (a : Spot) (ss : List Spot) (b : Spot) (whole : List Spot) → first_of (follows a) ss ≡ Some b → done ++ chain_after (suc n) a ss ≡ whole →
    (done ++ b ∷ []) ++ chain_after n b ss ≡ whole
chain_step done n a ss b whole e h =
    append_assoc done (b ∷ []) (chain_after n b ss) ∙ ap (λ l. done ++ l) (ap (λ u. on u (λ c. chain_after n c ss)) (sym e)) ∙ h

taken : (size : ℕ) (ids : List Id) (rest : List Id → List (List Id)) → (size ≡ 0 → ⊥) → taken_off size ids rest ≡ take size ids ∷ rest (drop size ids)
taken zero ids rest h = absurd (h refl)
taken (suc n) ids rest h = refl

-- a piece is taken off the front
pub piece_step : (done : List (List Id)) (n lanes size : ℕ) (ids : List Id) (whole : List (List Id)) → size ≡ power_in (min lanes (length ids)) → (size ≡ 0 → ⊥) →
    done ++ pieces (suc n) lanes ids ≡ whole → (done ++ take size ids ∷ []) ++ pieces n lanes (drop size ids) ≡ whole
piece_step done n lanes size ids whole e h p =
    append_assoc done (take size ids ∷ []) (pieces n lanes (drop size ids))
    ∙ ap (λ l. done ++ l) (sym (taken size ids (λ rest. pieces n lanes rest) h) ∙ ap (λ k. taken_off k ids (λ rest. pieces n lanes rest)) e)
    ∙ p
