-- What is written in one slot, as the neighbours of all slots.
use Rattle.std.proofs.Common.{◌≡◌, refl, sym, ap, ◌∙◌, subst, Bool, true, false, ◌&&◌, ◌==◌, Option, None, Some, IfSome, cond, arith}
use Rattle.std.proofs.lemmas.Bool.Decides.{nat_tests}
use Rattle.std.specs.HashMap.{get}
use Rattle.ir_types.specs.declared.id.Id.{Id}
use Rattle.ir_types.specs.declared.id.Use.{Use}
use Rattle.ir_types.specs.Available.{same_id}
use Rattle.ir_types.proofs.Among.{same_is}
use Rattle.sb_uses.specs.declared.chains.Held.{Held}
use Rattle.sb_uses.specs.declared.chains.Links.{Links}
use Rattle.sb_uses.specs.declared.chains.Chains.{Chains}
use Rattle.sb_uses.specs.Chains.{slot_of, same_held, next, known, there, older_of, newest_of}
use Rattle.sb_uses.proofs.Segments.{and-left, and-right}

pub held-is : (a b : Held) → same_held a b ≡ true → a ≡ b
held-is a b h =
    let value = same_is a.value b.value (and-left (same_id a.value b.value) (same_id a.user b.user && (a.slot == b.slot)) h) in
    let rest = and-right (same_id a.value b.value) (same_id a.user b.user && (a.slot == b.slot)) h in
    let user = same_is a.user b.user (and-left (same_id a.user b.user) (a.slot == b.slot) rest) in
    let tested = and-right (same_id a.user b.user) (a.slot == b.slot) rest in
    let slot : a.slot ≡ b.slot = grind (arith, nat_tests) in
    λ i. record { value = value i; user = user i; slot = slot i }

-- a slot that was there is there
pub there-kept : (g : Held → Option Links) (slot : Held) (links : Links) → there (g slot) ≡ true → (q : Held) → there (cond (same_held slot q) (Some links) (g q)) ≡ there (g q)
there-kept g slot links h q = go (same_held slot q) refl
  where
    go : (b : Bool) → same_held slot q ≡ b → there (cond b (Some links) (g q)) ≡ there (g q)
    go true e = sym (subst (λ x. there (g x) ≡ true) (held-is slot q e) h)
    go false e = refl

-- and one whose older neighbour is written again has it
pub older-kept : (g : Held → Option Links) (slot : Held) (links : Links) → links.older ≡ older_of (g slot) → (q : Held) → older_of (cond (same_held slot q) (Some links) (g q)) ≡ older_of (g q)
older-kept g slot links h q = go (same_held slot q) refl
  where
    go : (b : Bool) → same_held slot q ≡ b → older_of (cond b (Some links) (g q)) ≡ older_of (g q)
    go true e = h ∙ ap (λ x. older_of (g x)) (held-is slot q e)
    go false e = refl

pub known-kept : (s t : Chains) → t.heads ≡ s.heads → ((q : Held) → there (get same_held t.slots q) ≡ there (get same_held s.slots q)) → (x : Id) (c : Option Use) → known t x c ≡ known s x c
known-kept s t e h x None = ap (λ m. there (get same_id m x)) e
known-kept s t e h x (Some w) = h (slot_of x w)

pub next-kept : (s t : Chains) → t.heads ≡ s.heads → ((q : Held) → older_of (get same_held t.slots q) ≡ older_of (get same_held s.slots q)) → (x : Id) (c : Option Use) → next t x c ≡ next s x c
next-kept s t e h x None = ap (λ m. newest_of (get same_id m x)) e
next-kept s t e h x (Some w) = h (slot_of x w)

-- neighbours that are there stay so
pub known-after : (s t : Chains) (v : Id) (o : Option Use) → ((c : Option Use) → known t v c ≡ known s v c) → IfSome o (λ u. known s v (Some u) ≡ true) → IfSome o (λ u. known t v (Some u) ≡ true)
known-after s t v None e h = h
known-after s t v (Some u) e h = e (Some u) ∙ h
