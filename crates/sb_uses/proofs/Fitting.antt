-- A list whose uses have slots is no longer than there are slots.
use Rattle.std.proofs.Common.{◌≡◌, refl, sym, ap, ◌∙◌, subst, suc, ◌≤◌, Bool, true, false, Some, List, [], ◌∷◌, length, cond, arith}
use Rattle.std.specs.Map.{lookup}
use Rattle.ir_types.specs.declared.id.Id.{Id}
use Rattle.ir_types.specs.declared.id.Use.{Use}
use Rattle.vx_view.specs.Uses.{same_use, taken}
use Rattle.sb_uses.specs.declared.chains.Held.{Held}
use Rattle.sb_uses.specs.declared.chains.Links.{Links}
use Rattle.sb_uses.specs.Chains.{slot_of, same_held, there}
use Rattle.sb_uses.specs.Places.{has}
use Rattle.sb_uses.specs.Whole.{Apart}
use Rattle.sb_uses.proofs.Segments.{false-true, has-head, taken-had, taken-apart, taken-lacks}
use Rattle.sb_uses.proofs.Writes.{held-is}

taken-long : (u : Use) (us : List Use) → length us ≤ suc (length (taken u us))
taken-long u [] = omega (arith)
taken-long u (x ∷ xs) = go (same_use x u) (taken-long u xs)
  where
    go : (b : Bool) → length xs ≤ suc (length (taken u xs)) → suc (length xs) ≤ suc (length (cond b xs (x ∷ taken u xs)))
    go true h = omega (arith)
    go false h = omega (arith, h)

taken-has : (u w : Use) (us : List Use) → has w (taken u us) ≡ true → has w us ≡ true
taken-has u w us h = go (has w us) refl
  where
    go : (b : Bool) → has w us ≡ b → b ≡ true
    go true e = refl
    go false e = absurd (false-true (sym (taken-had u w us e) ∙ h))

pub fits : (es : List (Held × Links)) (v : Id) (us : List Use) → Apart us → ((w : Use) → has w us ≡ true → there (lookup (same_held (slot_of v w)) es) ≡ true) → length us ≤ length es
fits [] v [] apart known = omega (arith)
fits [] v (u ∷ us) apart known = absurd (false-true (known u (has-head u us)))
fits (e ∷ es) v us apart known =
    let rest = fits es v (taken last us) (taken-apart last us apart) further in
    let long = taken-long last us in
    omega (arith, rest, long)
  where
    last : Use
    last = record { user = e.0.user; slot = e.0.slot }

    further : (w : Use) → has w (taken last us) ≡ true → there (lookup (same_held (slot_of v w)) es) ≡ true
    further w h = go (same_held (slot_of v w) e.0) refl (known w (taken-has last w us h))
      where
        go : (b : Bool) → same_held (slot_of v w) e.0 ≡ b → there (cond b (Some e.1) (lookup (same_held (slot_of v w)) es)) ≡ true → there (lookup (same_held (slot_of v w)) es) ≡ true
        go true f k = absurd (false-true (sym (taken-lacks last us apart) ∙ subst (λ x. has x (taken last us) ≡ true) (ap (λ (x : Held). record { user = x.user; slot = x.slot }) (held-is (slot_of v w) e.0 f)) h))
        go false f k = k
