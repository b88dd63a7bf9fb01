-- Lists in pieces: one item replaced, one put after others, two lists one after another.
use Rattle.std.proofs.Common.{◌≡◌, refl, sym, ap, ◌∙◌, ℕ, zero, suc, ◌+◌, ◌-◌, ◌<◌, None, List, [], ◌∷◌, ◌++◌, length, take, drop, slice_get, slice_set, get_or, arith, append_assoc, length-drop, drop-cons, add-one}
use Rattle.std.proofs.lemmas.List.{take_all}
use Rattle.ir_model.specs.Values.{Lane}
use Rattle.ir_model.specs.Operations.{all_poison}

pub slice_set-pieces : {A : Type 0} (xs : List A) (at : ℕ) (y : A) → at < length xs → slice_set xs at y ≡ take at xs ++ y ∷ drop (suc at) xs
slice_set-pieces [] at y h = absurd (omega arith)
slice_set-pieces (x ∷ xs) zero y h = refl
slice_set-pieces (x ∷ xs) (suc at) y h = ap (λ r. x ∷ r) (slice_set-pieces xs at y (omega arith))

-- the item replaced, as it is put together
pub replaced-pieces : {A : Type 0} (xs : List A) (at : ℕ) (y : A) (a b c d : List A) → at < length xs
    → a ≡ [] → b ≡ a ++ take at xs → c ≡ b ++ y ∷ [] → d ≡ c ++ take (length xs - (at + 1)) (drop (at + 1) xs) → d ≡ slice_set xs at y
replaced-pieces xs at y a b c d h ea eb ec ed =
    ed ∙ ap (λ l. c ++ l) (take_all (length xs - (at + 1)) (drop (at + 1) xs) (omega (arith, length-drop (at + 1) xs)))
    ∙ ap (λ k. c ++ drop k xs) (add-one at)
    ∙ ap (λ l. l ++ drop (suc at) xs) (ec ∙ ap (λ l. l ++ y ∷ []) (eb ∙ ap (λ l. l ++ take at xs) ea))
    ∙ append_assoc (take at xs) (y ∷ []) (drop (suc at) xs) ∙ sym (slice_set-pieces xs at y h)

pub slice_get-left : {A : Type 0} (xs ys : List A) (at : ℕ) → at < length xs → slice_get (xs ++ ys) at ≡ slice_get xs at
slice_get-left [] ys at h = absurd (omega arith)
slice_get-left (x ∷ xs) ys zero h = refl
slice_get-left (x ∷ xs) ys (suc at) h = slice_get-left xs ys at (omega arith)

pub slice_get-right : {A : Type 0} (xs ys : List A) (at k : ℕ) → at ≡ length xs + k → slice_get (xs ++ ys) at ≡ slice_get ys k
slice_get-right [] ys at k e = ap (slice_get ys) (omega arith)
slice_get-right (x ∷ xs) ys zero k e = absurd (omega arith)
slice_get-right (x ∷ xs) ys (suc at) k e = slice_get-right xs ys at k (omega arith)

-- one more lane of poison, and the rest of them
pub all_poison-more : (done lanes : List Lane) (i : ℕ) → i < length lanes
    → (done ++ None ∷ []) ++ all_poison (drop (i + 1) lanes) ≡ done ++ all_poison (drop i lanes)
all_poison-more done lanes i h =
    append_assoc done (None ∷ []) (all_poison (drop (i + 1) lanes))
    ∙ ap (λ r. done ++ r) (sym (ap all_poison (drop-cons lanes i None h ∙ ap (λ k. get_or lanes i None ∷ drop k lanes) (sym (add-one i)))))
