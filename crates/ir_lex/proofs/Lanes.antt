-- From the mask of sixteen bytes to the first of them that is notable.
use Rattle.std.proofs.Common.{◌≡◌, ℕ, ◌%◌, ◌^◌, ◌<◌, ◌≤◌, Bool, true, not, List, [], ◌∷◌, map, length, take, get_or, Fits, w8, refl, ap, ap₂, ◌∙◌, arith}
use Rattle.std.proofs.lemmas.Bool.{agree_below, agree_below_at}
use Rattle.std.proofs.lemmas.Simd.{map-map, mask_l-mod, length-chunk, chunk-fits, first_set_mask_l}
use Rattle.std.proofs.lemmas.List.{length-map}
use Rattle.std.specs.List.{prefix_len, position_or_len}
use lib.Lanes.{zip2, Each1, mask_l, top, chunk}
use Rattle.ir_lex.specs.Bytes.{is_notable}
use Rattle.ir_lex.specs.Lanes.{first_set}

zip2-map : (h : ℕ → ℕ → ℕ) (f g : ℕ → ℕ) (xs : List ℕ) → zip2 h (map f xs) (map g xs) ≡ map (λ x. h (f x) (g x)) xs
zip2-map h f g [] = refl
zip2-map h f g (x ∷ xs) = ap (λ r. h (f x) (g x) ∷ r) (zip2-map h f g xs)

-- an operation on two rows that were computed byte by byte
pub joined : (h : ℕ → ℕ → ℕ) (f g : ℕ → ℕ) (v : List ℕ) {a b : List ℕ} → a ≡ map f v → b ≡ map g v → zip2 h a b ≡ map (λ x. h (f x) (g x)) v
joined h f g v p q = ap₂ (zip2 h) p q ∙ zip2-map h f g v

same_front : (f g : ℕ → Bool) (v : List ℕ) → Each1 (Fits w8) v → ((b : ℕ) → b < 256 → f b ≡ g b) → prefix_len (λ x. not (f x)) v ≡ prefix_len (λ x. not (g x)) v
same_front f g [] h e = refl
same_front f g (x ∷ xs) h e = rw (e x h.0.fits, same_front f g xs h.1 e) refl

-- the first bit of the mask is at the first notable byte, or there is none
pub first_notable : (d z : List ℕ) (r : ℕ) (f : ℕ → ℕ) → 16 ≤ length d → ((k : ℕ) → Fits w8 (get_or d k 0)) → r ≡ first_set (mask_l (map (top 7) z) % 2 ^ 64) → z ≡ map f (chunk 0 16 d) →
    agree_below (λ x. top 7 (f x)) is_notable 256 ≡ true → r ≡ position_or_len is_notable (take 16 d)
first_notable d z r f room fits is lanes all =
    let v = chunk 0 16 d in
    let long : length v ≡ 16 = length-chunk 0 16 d (omega arith) in
    let plain : mask_l (map (top 7) z) % 2 ^ 64 ≡ mask_l (map (λ x. top 7 (f x)) v) =
    ap (λ l. mask_l l % 2 ^ 64) (ap (map (top 7)) lanes ∙ map-map (top 7) f v) ∙ mask_l-mod (map (λ x. top 7 (f x)) v) 64 (omega (arith, length-map v (λ x. top 7 (f x)))) in
    is ∙ ap first_set plain ∙ first_set_mask_l (λ x. top 7 (f x)) v 16 long (omega arith)
    ∙ same_front (λ x. top 7 (f x)) is_notable v (chunk-fits w8 0 16 d fits) (λ b lt. agree_below_at (λ x. top 7 (f x)) is_notable 256 b all lt)
