-- The place of the first line feed.
use Rattle.std.proofs.Common.{◌≡◌, ℕ, suc, zero, ◌<◌, ◌≤◌, ◌==◌, Bool, true, false, cond, List, [], ◌∷◌, length, Some, None, refl, ap, arith}
use Rattle.memchr.specs.Find.{IsFirstByte, is_byte, Passes}
use Rattle.ir_read.specs.Lines.{line_len}

-- no feed before a place
none_before : (bs : List ℕ) (k : ℕ) → k ≤ length bs → ((j : ℕ) → j < k → Passes (is_byte 10) bs j → ⊥) → (k < length bs → Passes (is_byte 10) bs k) → line_len bs ≡ k
none_before [] zero l none here = refl
none_before [] (suc k) l none here = absurd (omega arith)
none_before (b ∷ bs) zero l none here = rw (here (omega arith)) refl
none_before (b ∷ bs) (suc k) l none here =
    other (b == 10) refl (none_before bs k (omega arith) (λ j lt. none (suc j) (omega arith)) (λ lt. here (omega arith))) where
      other : (t : Bool) → (b == 10) ≡ t → line_len bs ≡ k → cond t 0 (suc (line_len bs)) ≡ suc k
      other true e ih = absurd (none 0 (omega arith) e)
      other false e ih = ap suc ih

pub feed_at : (bs : List ℕ) (k : ℕ) → IsFirstByte (is_byte 10) bs (Some k) → line_len bs ≡ k
feed_at bs k h = none_before bs k (let l = h.0.high in omega arith) (λ j lt. h.0.before j (omega arith) lt) (λ _. h.1)

pub no_feed : (bs : List ℕ) → IsFirstByte (is_byte 10) bs None → line_len bs ≡ length bs
no_feed bs h = none_before bs (length bs) (omega arith) (λ j lt. h j (omega arith) lt) (λ lt. absurd (omega arith))
