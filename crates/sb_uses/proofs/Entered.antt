-- What a new head or slot changes: nothing that is named.
use Rattle.std.proofs.Common.{◌≡◌, refl, sym, ap, ◌∙◌, Bool, true, false, Option, None, Some, cond}
use Rattle.std.specs.HashMap.{get}
use Rattle.ir_types.specs.declared.id.Id.{Id}
use Rattle.ir_types.specs.declared.id.Use.{Use}
use Rattle.ir_types.specs.Available.{same_id}
use Rattle.sb_uses.specs.declared.chains.Held.{Held}
use Rattle.sb_uses.specs.declared.chains.Chains.{Chains}
use Rattle.sb_uses.specs.Chains.{next, known, same_held, slot_of, there, newest_of, older_of, newer_of}
use Rattle.sb_uses.specs.Entering.{IsEntered}
use Rattle.sb_uses.proofs.Segments.{hit, miss}

-- where nothing was, stands what names as much as nothing
pub names-same : {K V R : Type 0} (same : K → K → Bool) (is : (a b : K) → same a b ≡ true → a ≡ b) (f : Option V → R) (g h : K → Option V) (k : K) (x : V) → f (Some x) ≡ f None → g k ≡ None → ((q : K) → h q ≡ cond (same k q) (Some x) (g q)) → (q : K) → f (h q) ≡ f (g q)
names-same {K} {V} {R} same is f g h k x e absent each q = go (same k q) refl
  where
    go : (b : Bool) → same k q ≡ b → f (h q) ≡ f (g q)
    go true t = ap f (each q ∙ hit _ t) ∙ e ∙ ap f (sym absent ∙ ap g (is k q t))
    go false t = ap f (each q ∙ miss _ t)

-- what was there is there
pub stays-there : {K V : Type 0} (same : K → K → Bool) (g h : K → Option V) (k : K) (x : V) → ((q : K) → h q ≡ cond (same k q) (Some x) (g q)) → (q : K) → there (g q) ≡ true → there (h q) ≡ true
stays-there {K} {V} same g h k x each q was = go (same k q) refl
  where
    go : (b : Bool) → same k q ≡ b → there (h q) ≡ true
    go true t = ap there (each q ∙ hit _ t)
    go false t = ap there (each q ∙ miss _ t) ∙ was

pub entered-by : (s t : Chains) → ((q : Id) → newest_of (get same_id t.heads q) ≡ newest_of (get same_id s.heads q)) → ((q : Id) → there (get same_id s.heads q) ≡ true → there (get same_id t.heads q) ≡ true) → ((q : Held) → older_of (get same_held t.slots q) ≡ older_of (get same_held s.slots q)) → ((q : Held) → newer_of (get same_held t.slots q) ≡ newer_of (get same_held s.slots q)) → ((q : Held) → there (get same_held s.slots q) ≡ true → there (get same_held t.slots q) ≡ true) → IsEntered s t
entered-by s t heads head_stays older newer slot_stays = record { next_is = named; prev_is = λ x w. newer (slot_of x w); keeps = stays }
  where
    named : (x : Id) (c : Option Use) → next t x c ≡ next s x c
    named x None = heads x
    named x (Some w) = older (slot_of x w)

    stays : (x : Id) (c : Option Use) → known s x c ≡ true → known t x c ≡ true
    stays x None h = head_stays x h
    stays x (Some w) h = slot_stays (slot_of x w) h

-- as where the same is found at each place
pub entered-found : (s t : Chains) → ((q : Id) → get same_id t.heads q ≡ get same_id s.heads q) → ((q : Held) → get same_held t.slots q ≡ get same_held s.slots q) → IsEntered s t
entered-found s t heads slots = entered-by s t (λ q. ap newest_of (heads q)) (λ q h. ap there (heads q) ∙ h) (λ q. ap older_of (slots q)) (λ q. ap newer_of (slots q)) (λ q h. ap there (slots q) ∙ h)
