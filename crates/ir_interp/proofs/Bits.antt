-- Lanes and their bytes: one byte more in a loop, and which numbers so many bytes hold.
use Rattle.std.proofs.Common.{◌≡◌, refl, sym, ap, ◌∙◌, ℕ, suc, ◌+◌, ◌-◌, ◌*◌, ◌^◌, ◌<◌, ◌≤◌, None, Some, List, [], ◌∷◌, ◌++◌, drop, arith, append_assoc, subst, pow-add}
use Rattle.std.proofs.Math.Pow.{pow_mono}
use Rattle.vx_num.specs.Width.{IsLane}
use Rattle.ir_model.specs.Values.{Lane}
use Rattle.ir_model.specs.Memory.{lane_bytes, lane_from}
use Rattle.ir_model.specs.Accesses.{lanes_from}
use Rattle.ir_interp.specs.Lowest.{low_byte, above_low}

lane_bytes-suc : (k : ℕ) (lane : Lane) → lane_bytes (suc k) lane ≡ low_byte lane ∷ lane_bytes k (above_low lane)
lane_bytes-suc k None = refl
lane_bytes-suc k (Some n) = refl

-- one byte more of a lane
pub lane_bytes-more : (bytes new : List Lane) (size i : ℕ) (lane next : Lane) → i < size → new ≡ bytes ++ low_byte lane ∷ [] → next ≡ above_low lane
    → new ++ lane_bytes (size - (i + 1)) next ≡ bytes ++ lane_bytes (size - i) lane
lane_bytes-more bytes new size i lane next h e g =
    let left : size - i ≡ suc (size - (i + 1)) = omega arith in
    ap (λ l. new ++ lane_bytes (size - (i + 1)) l) g
    ∙ ap (λ l. l ++ lane_bytes (size - (i + 1)) (above_low lane)) e
    ∙ append_assoc bytes (low_byte lane ∷ []) (lane_bytes (size - (i + 1)) (above_low lane))
    ∙ ap (λ l. bytes ++ l) (sym (lane_bytes-suc (size - (i + 1)) lane))
    ∙ ap (λ k. bytes ++ lane_bytes k lane) (sym left)

-- one lane more of a vector
pub lanes_from-more : (lanes new : List Lane) (count i size : ℕ) (bytes next : List Lane) → i < count
    → new ≡ lanes ++ lane_from size bytes ∷ [] → next ≡ drop size bytes
    → new ++ lanes_from (count - (i + 1)) size next ≡ lanes ++ lanes_from (count - i) size bytes
lanes_from-more lanes new count i size bytes next h e g =
    let left : count - i ≡ suc (count - (i + 1)) = omega arith in
    ap (λ l. new ++ lanes_from (count - (i + 1)) size l) g
    ∙ ap (λ l. l ++ lanes_from (count - (i + 1)) size (drop size bytes)) e
    ∙ append_assoc lanes (lane_from size bytes ∷ []) (lanes_from (count - (i + 1)) size (drop size bytes))
    ∙ ap (λ k. lanes ++ lanes_from k size bytes) (sym left)

pub IsLane-wider : (a b : ℕ) (lane : Lane) → a ≤ b → IsLane a lane → IsLane b lane
IsLane-wider a b None h is = tt
IsLane-wider a b (Some n) h is = let powers : 2 ^ a ≤ 2 ^ b = pow_mono h in omega arith

-- a byte below a number of k bytes
pub byte_below : (k byte high : ℕ) → byte < 256 → high < 2 ^ (8 * k) → byte + 256 * high < 2 ^ (8 + 8 * k)
byte_below k byte high h below =
    let power : 2 ^ (8 + 8 * k) ≡ 2 ^ 8 * 2 ^ (8 * k) = pow-add 2 8 (8 * k) in
    omega arith

pub lane_below : (k high : ℕ) (lane : Lane) → lane ≡ Some high → IsLane (8 * k) lane → high < 2 ^ (8 * k)
lane_below k high lane e is = subst (λ l. IsLane (8 * k) l) e is
