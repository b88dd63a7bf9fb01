-- What each step keeps of a `Slots`: no list has a use twice, what was kept is known, and there is space for whatever is held.
use Rattle.std.proofs.Common.{◌≡◌, sym, ap, ◌∙◌, subst, ℕ, ◌+◌, ◌-◌, ◌<◌, ◌≤◌, Option, List, [], ◌∷◌, ◌++◌, reverse, length, min, arith}
use Rattle.std.proofs.lemmas.List.{reverse-append}
use Rattle.ir_types.specs.declared.id.Id.{Id}
use Rattle.ir_types.specs.declared.opd.Opd.{Opd}
use Rattle.vx_view.specs.UsesAfter.{opd_added, opd_taken}
use Rattle.sb_uses.specs.declared.chains.Chains.{Chains}
use Rattle.sb_uses.specs.declared.kept.Kept.{Kept}
use Rattle.sb_uses.specs.Chains.{lists, room}
use Rattle.sb_uses.specs.Spots.{Keeps}
use Rattle.sb_uses.specs.Stock.{LacksSlot, AllApart, Holding, IsHolding, AllKnown, IsKnown, kept_back, FitsBack, spare}
use Rattle.sb_uses.proofs.Stocks.{apart-added, apart-taken, apart-back, still-known}

min-left : (a b n : ℕ) → n ≤ min a b → n ≤ a
min-left a b n h = omega (arith, h)

min-right : (a b n : ℕ) → n ≤ min a b → n ≤ b
min-right a b n h = omega (arith, h)

pub spare-space : (h : Holding) (n : ℕ) → 0 < n → n ≤ spare h → length h.kept + (h.held + n) ≤ h.space
spare-space h n pos le =
    let inner = min-right (room h.chains) (min (h.space - (length h.kept + h.held)) (4294967295 - h.held)) n le in
    let free = min-left (h.space - (length h.kept + h.held)) (4294967295 - h.held) n inner in
    omega (arith, free, pos)

pub spare-few : (h : Holding) (n : ℕ) → n ≤ spare h → n ≤ 4294967295
spare-few h n le =
    let inner = min-right (room h.chains) (min (h.space - (length h.kept + h.held)) (4294967295 - h.held)) n le in
    let few = min-right (h.space - (length h.kept + h.held)) (4294967295 - h.held) n inner in
    omega (arith, few)

-- a slot came
pub added-holds : (h r : Holding) (t : Chains) (user : Id) (slot : ℕ) (o : Opd) → h ≡ r → IsHolding h → LacksSlot user slot o (lists r.chains) → 0 < spare r →
    lists t ≡ opd_added user slot o (lists h.chains) → Keeps h.chains t → IsHolding (record { chains = t; kept = h.kept; space = h.space; held = h.held + 1 })
added-holds h r t user slot o e is lacks free now keeps = record {
  apart = subst AllApart (sym now) (apart-added user slot o (lists h.chains) is.apart (subst (λ (x : Holding). LacksSlot user slot o (lists x.chains)) (sym e) lacks));
  known = still-known h.chains t h.kept keeps is.known;
  space = spare-space h 1 (omega (arith)) (subst (λ (x : Holding). 1 ≤ spare x) (sym e) free);
}

-- a slot went and was kept
pub taken-holds : (h : Holding) (t : Chains) (user : Id) (slot : ℕ) (o : Opd) (k : Option Kept) (items more : List (Option Kept)) (space : ℕ) → IsHolding h → 0 < h.held →
    lists t ≡ opd_taken user slot o (lists h.chains) → Keeps h.chains t → IsKnown t k → h.kept ≡ reverse items → more ≡ items ++ k ∷ [] → h.space ≤ space →
    IsHolding (record { chains = t; kept = reverse more; space = space; held = h.held - 1 })
taken-holds h t user slot o k items more space is pos now keeps known was is_more room =
    subst (λ (ks : List (Option Kept)). IsHolding (record { chains = t; kept = ks; space = space; held = h.held - 1 })) (sym turned)
    (record {
      apart = subst AllApart (sym now) (apart-taken user slot o (lists h.chains) is.apart);
      known = (known, still-known h.chains t h.kept keeps is.known);
      space = let le = is.space in omega (arith, le, room, pos);
    })
  where
    turned : reverse more ≡ k ∷ h.kept
    turned = ap reverse is_more ∙ reverse-append items (k ∷ []) ∙ ap (λ ks. k ∷ ks) (sym was)

-- a slot went for good
pub withdrawn-holds : (h : Holding) (t : Chains) (user : Id) (slot : ℕ) (o : Opd) → IsHolding h → lists t ≡ opd_taken user slot o (lists h.chains) → Keeps h.chains t →
    IsHolding (record { chains = t; kept = h.kept; space = h.space; held = h.held - 1 })
withdrawn-holds h t user slot o is now keeps = record {
  apart = subst AllApart (sym now) (apart-taken user slot o (lists h.chains) is.apart);
  known = still-known h.chains t h.kept keeps is.known;
  space = let le = is.space in omega (arith, le);
}

-- what was kept last came back
pub restored-holds : (h : Holding) (t : Chains) (k : Option Kept) (items less : List (Option Kept)) (space : ℕ) → IsHolding h → h.kept ≡ reverse items → items ≡ less ++ k ∷ [] → h.space ≤ space →
    FitsBack k (lists h.chains) → lists t ≡ kept_back k (lists h.chains) → Keeps h.chains t → IsHolding (record { chains = t; kept = reverse less; space = space; held = h.held + 1 })
restored-holds h t k items less space is was is_more room fits now keeps = record {
  apart = subst AllApart (sym now) (apart-back k (lists h.chains) is.apart fits);
  known = (subst (AllKnown t) turned (still-known h.chains t h.kept keeps is.known)).1;
  space = let le = subst (λ (l : List (Option Kept)). length l + h.held ≤ h.space) turned is.space in omega (arith, le, room);
}
  where
    turned : h.kept ≡ k ∷ reverse less
    turned = was ∙ ap reverse is_more ∙ reverse-append less (k ∷ [])

-- room changes nothing
pub reserved-holds : (h : Holding) (t : Chains) → IsHolding h → lists t ≡ lists h.chains → Keeps h.chains t → IsHolding (record { chains = t; kept = h.kept; space = h.space; held = h.held })
reserved-holds h t is now keeps = record {
  apart = subst AllApart (sym now) is.apart;
  known = still-known h.chains t h.kept keeps is.known;
  space = is.space;
}
