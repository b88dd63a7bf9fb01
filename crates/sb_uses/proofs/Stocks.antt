-- What comes in and goes out is undone: lists and what was kept are as they were.
use Rattle.std.proofs.Common.{◌≡◌, refl, sym, ap, ◌∙◌, subst, ℕ, suc, ◌<◌, ◌≤◌, Bool, true, false, ◌&&◌, Option, None, Some, List, [], ◌∷◌, length, cond, nat_eq, arith}
use Rattle.std.proofs.Math.Path.{fun_ext}
use Rattle.std.proofs.lemmas.Bool.Decides.{nat_tests}
use Rattle.ir_types.specs.declared.id.Id.{Id}
use Rattle.ir_types.specs.declared.id.Use.{Use}
use Rattle.ir_types.specs.declared.opd.Opd.{Opd}
use Rattle.ir_types.specs.declared.opd.Opd.TheVariants.{Val, Lit, Sym}
use Rattle.ir_types.specs.Available.{same_id}
use Rattle.ir_types.proofs.Among.{same_is, same_itself}
use Rattle.vx_view.specs.Uses.{Lists, same_use, taken}
use Rattle.vx_view.specs.UsesAfter.{with_list, opd_added, opd_taken}
use Rattle.sb_uses.specs.declared.chains.Chains.{Chains}
use Rattle.sb_uses.specs.declared.kept.Kept.{Kept}
use Rattle.sb_uses.specs.Chains.{same_end}
use Rattle.sb_uses.specs.Places.{has, stands, put, put_from}
use Rattle.sb_uses.specs.Whole.{Apart, Seg}
use Rattle.sb_uses.specs.Spots.{Keeps}
use Rattle.sb_uses.specs.Stock as st
use Rattle.sb_uses.specs.Stock.{slot_use, HasSlot, LacksSlot, HasSlots, LacksSlots, AllApart, Stock, stood_from, stood_after, opd_kept, slot_added, slot_taken, slot_withdrawn, added, withdrawn, replaced, kept_back, slot_restored, restored, set_back, FitsBack, CanRestoreSlot, CanRestore, CanSetBack, IsKnown, AllKnown}
use Rattle.sb_uses.proofs.Segments.{false-true, use-is, use-itself, end-itself, hit, miss, Off, has-head, has-more, taken-apart, taken-lacks, put-apart}

-- ---- where a use stood

pub stood-prev : (n : Option Use → Option Use) (p : Use → Option Use) (k : Option Use → Bool) (a : Option Use) (us : List Use) (u : Use) → Seg n p k a us → has u us ≡ true → p u ≡ stood_from a u us
stood-prev n p k a [] u seg got = absurd (false-true got)
stood-prev n p k a (v ∷ vs) u seg got = go (same_use v u) refl got (stood-prev n p k (Some v) vs u seg.1.1)
  where
    go : (b : Bool) → same_use v u ≡ b → cond b true (has u vs) ≡ true → (has u vs ≡ true → p u ≡ stood_from (Some v) u vs) → p u ≡ cond b a (stood_from (Some v) u vs)
    go true e h rest = sym (ap p (use-is v u e)) ∙ seg.0.1
    go false e h rest = rest h

-- it is what came before the list, or another use of it
stood-as : (P : Option Use → Type 0) (c : Option Use) (u : Use) (us : List Use) → P c → ((w : Use) → has w (taken u us) ≡ true → P (Some w)) → P (stood_from c u us)
stood-as P c u [] came some = came
stood-as P c u (v ∷ vs) came some = go (same_use v u) came some (stood-as P (Some v) u vs)
  where
    go : (b : Bool) → P c → ((w : Use) → has w (cond b vs (v ∷ taken u vs)) ≡ true → P (Some w)) → (P (Some v) → ((w : Use) → has w (taken u vs) ≡ true → P (Some w)) → P (stood_from (Some v) u vs)) → P (cond b c (stood_from (Some v) u vs))
    go true first more rest = first
    go false first more rest = rest (more v (has-head v (taken u vs))) (λ w h. more w (has-more v w (taken u vs) h))

stood-stands : (u : Use) (us : List Use) → stands (stood_after u us) (taken u us) ≡ true
stood-stands u us = stood-as (λ o. stands o (taken u us) ≡ true) None u us refl (λ w h. h)

off-head : (c : Option Use) (x : Use) (xs : List Use) → Off c (x ∷ xs) → same_end c (Some x) ≡ false
off-head None x xs off = refl
off-head (Some w) x xs off = go (same_use w x) refl
  where
    go : (b : Bool) → same_use w x ≡ b → b ≡ false
    go true e = absurd (false-true (sym off ∙ subst (λ y. has w (y ∷ xs) ≡ true) (use-is w x e) (has-head w xs)))
    go false e = refl

off-tail : (c : Option Use) (x : Use) (xs : List Use) → Off c (x ∷ xs) → Off c xs
off-tail None x xs off = tt
off-tail (Some w) x xs off = go (same_use x w) off
  where
    go : (b : Bool) → cond b true (has w xs) ≡ false → has w xs ≡ false
    go true e = absurd (false-true (sym e))
    go false e = e

stood-other : (a c : Option Use) (u : Use) (us : List Use) → Off a us → same_end a c ≡ false → same_end a (stood_from c u us) ≡ false
stood-other a c u [] off e = e
stood-other a c u (v ∷ vs) off e = go (same_use v u) (stood-other a (Some v) u vs (off-tail a v vs off) (off-head a v vs off))
  where
    go : (b : Bool) → same_end a (stood_from (Some v) u vs) ≡ false → same_end a (cond b c (stood_from (Some v) u vs)) ≡ false
    go true r = e
    go false r = r

came-from : (c : Option Use) (us : List Use) (u : Use) → Apart us → Off c us → has u us ≡ true → put_from c (stood_from c u us) u (taken u us) ≡ us
came-from c [] u apart off got = absurd (false-true got)
came-from c (x ∷ xs) u apart off got = go (same_use x u) refl got (came-from (Some x) xs u apart.1 apart.0)
  where
    here : (ys : List Use) → put_from c c u ys ≡ u ∷ ys
    here [] = refl
    here (y ∷ ys) = hit _ (end-itself c)

    go : (b : Bool) → same_use x u ≡ b → cond b true (has u xs) ≡ true → (has u xs ≡ true → put_from (Some x) (stood_from (Some x) u xs) u (taken u xs) ≡ xs) →
        put_from c (cond b c (stood_from (Some x) u xs)) u (cond b xs (x ∷ taken u xs)) ≡ x ∷ xs
    go true e h rest = here xs ∙ ap (λ y. y ∷ xs) (sym (use-is x u e))
    go false e h rest = miss _ (stood-other c (Some x) u xs (off-tail c x xs off) (off-head c x xs off)) ∙ ap (λ r. x ∷ r) (rest h)

pub came-back : (us : List Use) (u : Use) → Apart us → has u us ≡ true → put (stood_after u us) u (taken u us) ≡ us
came-back us u apart got = came-from None us u apart tt got

-- ---- one list of all

-- with one list edited, each is edited where it is that one
pub at-list : (f : List Use → List Use) (v x : Id) (lists : Lists) → with_list v (f (lists v)) lists x ≡ cond (same_id v x) (f (lists x)) (lists x)
at-list f v x lists = go (same_id v x) refl
  where
    go : (b : Bool) → same_id v x ≡ b → cond b (f (lists v)) (lists x) ≡ cond b (f (lists x)) (lists x)
    go true e = ap (λ y. f (lists y)) (same_is v x e)
    go false e = refl

-- the slots of one user with two numbers differ
slots-differ : (user : Id) (j k : ℕ) → j < k → same_use (slot_use user j) (slot_use user k) ≡ false
slots-differ user j k less = go (same_id user user) where
  differ : nat_eq j k ≡ false
  differ = grind (arith, nat_tests)

  go : (b : Bool) → (b && nat_eq j k) ≡ false
  go true = differ
  go false = refl

taken-other : (u w : Use) (us : List Use) → same_use u w ≡ false → has w (taken u us) ≡ has w us
taken-other u w [] e = refl
taken-other u w (x ∷ xs) e = go (same_use x u) refl (taken-other u w xs e)
  where
    go : (b : Bool) → same_use x u ≡ b → has w (taken u xs) ≡ has w xs → has w (cond b xs (x ∷ taken u xs)) ≡ cond (same_use x w) true (has w xs)
    go true f r = sym (miss _ (ap (λ y. same_use y w) (use-is x u f) ∙ e))
    go false f r = ap (λ b. cond (same_use x w) true b) r

-- a slot that comes or goes leaves the later slots of its user in their lists, and out of them
taken-same : (user : Id) (k : ℕ) (o : Opd) (lists : Lists) (x : Id) (i : ℕ) → k < i → has (slot_use user i) (opd_taken user k o lists x) ≡ has (slot_use user i) (lists x)
taken-same user k (Val v) lists x i less = ap (has (slot_use user i)) (at-list (taken (slot_use user k)) v x lists) ∙ go (same_id v x)
  where
    go : (b : Bool) → has (slot_use user i) (cond b (taken (slot_use user k) (lists x)) (lists x)) ≡ has (slot_use user i) (lists x)
    go true = taken-other (slot_use user k) (slot_use user i) (lists x) (slots-differ user k i less)
    go false = refl
taken-same user k (Lit l) lists x i less = refl
taken-same user k (Sym g) lists x i less = refl

added-same : (user : Id) (k : ℕ) (o : Opd) (lists : Lists) (x : Id) (i : ℕ) → k < i → has (slot_use user i) (opd_added user k o lists x) ≡ has (slot_use user i) (lists x)
added-same user k (Val v) lists x i less = ap (has (slot_use user i)) (at-list (λ us. slot_use user k ∷ us) v x lists) ∙ go (same_id v x)
  where
    go : (b : Bool) → has (slot_use user i) (cond b (slot_use user k ∷ lists x) (lists x)) ≡ has (slot_use user i) (lists x)
    go true = miss _ (slots-differ user k i less)
    go false = refl
added-same user k (Lit l) lists x i less = refl
added-same user k (Sym g) lists x i less = refl

module _ (user : Id) (a b : Lists) where
  abbrev SameFrom : ℕ → Type 0
  SameFrom j = (x : Id) (i : ℕ) → j ≤ i → has (slot_use user i) (b x) ≡ has (slot_use user i) (a x)

  later : (j : ℕ) → SameFrom j → SameFrom (suc j)
  later j same x i le = same x i (omega (arith, le))

  at-least : (j : ℕ) → j ≤ j
  at-least j = omega (arith)

  has-slot : (j : ℕ) (o : Opd) → SameFrom j → HasSlot user j o a → HasSlot user j o b
  has-slot j (Val v) same h = same v j (at-least j) ∙ h
  has-slot j (Lit l) same h = tt
  has-slot j (Sym g) same h = tt

  lacks-slot : (j : ℕ) (o : Opd) → SameFrom j → LacksSlot user j o a → LacksSlot user j o b
  lacks-slot j (Val v) same h = same v j (at-least j) ∙ h
  lacks-slot j (Lit l) same h = tt
  lacks-slot j (Sym g) same h = tt

  has-slots : (j : ℕ) (os : List Opd) → SameFrom j → HasSlots user j os a → HasSlots user j os b
  has-slots j [] same h = tt
  has-slots j (o ∷ os) same h = (has-slot j o same h.0, has-slots (suc j) os (later j same) h.1)

  lacks-slots : (j : ℕ) (os : List Opd) → SameFrom j → LacksSlots user j os a → LacksSlots user j os b
  lacks-slots j [] same h = tt
  lacks-slots j (o ∷ os) same h = (lacks-slot j o same h.0, lacks-slots (suc j) os (later j same) h.1)

pub still-has : (user : Id) (k j : ℕ) (o : Opd) (os : List Opd) (lists : Lists) → k < j → HasSlots user j os lists → HasSlots user j os (opd_taken user k o lists)
still-has user k j o os lists less h = has-slots user lists (opd_taken user k o lists) j os (λ x i le. taken-same user k o lists x i (omega (arith, le, less))) h

pub still-lacks : (user : Id) (k j : ℕ) (o : Opd) (os : List Opd) (lists : Lists) → k < j → LacksSlots user j os lists → LacksSlots user j os (opd_added user k o lists)
still-lacks user k j o os lists less h = lacks-slots user lists (opd_added user k o lists) j os (λ x i le. added-same user k o lists x i (omega (arith, le, less))) h

-- ---- what came goes again

pub stock-is : {s t : Stock} → s.lists ≡ t.lists → s.kept ≡ t.kept → s ≡ t
stock-is e f = λ i. record { lists = e i; kept = f i }

-- two slots of one user, one that comes and an earlier one that goes, in either order
opd-swap : (user : Id) (k j : ℕ) (o p : Opd) (lists : Lists) → k < j → opd_taken user k o (opd_added user j p lists) ≡ opd_added user j p (opd_taken user k o lists)
opd-swap user k j (Val v) (Val w) lists less = fun_ext λ x.
    at-list (taken (slot_use user k)) v x (opd_added user j (Val w) lists)
    ∙ ap (λ us. cond (same_id v x) (taken (slot_use user k) us) us) (at-list (λ us. slot_use user j ∷ us) w x lists)
    ∙ go x (same_id v x) (same_id w x)
    ∙ sym (at-list (λ us. slot_use user j ∷ us) w x (opd_taken user k (Val v) lists) ∙ ap (λ us. cond (same_id w x) (slot_use user j ∷ us) us) (at-list (taken (slot_use user k)) v x lists))
  where
    differ : same_use (slot_use user j) (slot_use user k) ≡ false
    differ = go (same_id user user) where
      other : nat_eq j k ≡ false
      other = grind (arith, nat_tests)

      go : (b : Bool) → (b && nat_eq j k) ≡ false
      go true = other
      go false = refl

    go : (x : Id) (b c : Bool) → cond b (taken (slot_use user k) (cond c (slot_use user j ∷ lists x) (lists x))) (cond c (slot_use user j ∷ lists x) (lists x))
        ≡ cond c (slot_use user j ∷ cond b (taken (slot_use user k) (lists x)) (lists x)) (cond b (taken (slot_use user k) (lists x)) (lists x))
    go x true true = miss _ differ
    go x true false = refl
    go x false true = refl
    go x false false = refl
opd-swap user k j (Val v) (Lit l) lists less = refl
opd-swap user k j (Val v) (Sym g) lists less = refl
opd-swap user k j (Lit l) p lists less = refl
opd-swap user k j (Sym g) p lists less = refl

slots-swap : (user : Id) (k j : ℕ) (o : Opd) (os : List Opd) (s : Stock) → k < j → slot_withdrawn user k o (added user j os s) ≡ added user j os (slot_withdrawn user k o s)
slots-swap user k j o [] s less = refl
slots-swap user k j o (p ∷ os) s less =
    slots-swap user k (suc j) o os (slot_added user j p s) (omega (arith, less))
    ∙ ap (added user (suc j) os) (stock-is (opd-swap user k j o p s.lists less) refl)

opd-gone : (user : Id) (k : ℕ) (o : Opd) (lists : Lists) → opd_taken user k o (opd_added user k o lists) ≡ lists
opd-gone user k (Val v) lists = fun_ext λ x.
    at-list (taken (slot_use user k)) v x (opd_added user k (Val v) lists)
    ∙ ap (λ us. cond (same_id v x) (taken (slot_use user k) us) us) (at-list (λ us. slot_use user k ∷ us) v x lists)
    ∙ go x (same_id v x)
  where
    go : (x : Id) (b : Bool) → cond b (taken (slot_use user k) (cond b (slot_use user k ∷ lists x) (lists x))) (cond b (slot_use user k ∷ lists x) (lists x)) ≡ lists x
    go x true = hit _ (use-itself (slot_use user k))
    go x false = refl
opd-gone user k (Lit l) lists = refl
opd-gone user k (Sym g) lists = refl

slot-gone : (user : Id) (k : ℕ) (o : Opd) (s : Stock) → slot_withdrawn user k o (slot_added user k o s) ≡ s
slot-gone user k o s = stock-is (opd-gone user k o s.lists) refl

pub added-back : (user : Id) (k : ℕ) (os : List Opd) (s : Stock) → withdrawn user k os (added user k os s) ≡ s
added-back user k [] s = refl
added-back user k (o ∷ os) s =
    ap (withdrawn user (suc k) os) (slots-swap user k (suc k) o os (slot_added user k o s) (omega (arith)) ∙ ap (added user (suc k) os) (slot-gone user k o s))
    ∙ added-back user (suc k) os s

-- each slot that came is in its list
slot-has : (user : Id) (k : ℕ) (o : Opd) (lists : Lists) → HasSlot user k o (opd_added user k o lists)
slot-has user k (Val v) lists = ap (has (slot_use user k)) (hit _ (same_itself v)) ∙ has-head (slot_use user k) (lists v)
slot-has user k (Lit l) lists = tt
slot-has user k (Sym g) lists = tt

added-all-same : (user : Id) (k j : ℕ) (os : List Opd) (s : Stock) → k < j → (x : Id) → has (slot_use user k) ((added user j os s).lists x) ≡ has (slot_use user k) (s.lists x)
added-all-same user k j [] s less x = refl
added-all-same user k j (o ∷ os) s less x = added-all-same user k (suc j) os (slot_added user j o s) (omega (arith, less)) x ∙ one o
  where
    differ : same_use (slot_use user j) (slot_use user k) ≡ false
    differ = go (same_id user user) where
      other : nat_eq j k ≡ false
      other = grind (arith, nat_tests)

      go : (b : Bool) → (b && nat_eq j k) ≡ false
      go true = other
      go false = refl

    one : (p : Opd) → has (slot_use user k) (opd_added user j p s.lists x) ≡ has (slot_use user k) (s.lists x)
    one (Val v) = ap (has (slot_use user k)) (at-list (λ us. slot_use user j ∷ us) v x s.lists) ∙ go (same_id v x)
      where
        go : (b : Bool) → has (slot_use user k) (cond b (slot_use user j ∷ s.lists x) (s.lists x)) ≡ has (slot_use user k) (s.lists x)
        go true = miss _ differ
        go false = refl
    one (Lit l) = refl
    one (Sym g) = refl

pub added-has : (user : Id) (k : ℕ) (os : List Opd) (s : Stock) → HasSlots user k os (added user k os s).lists
added-has user k [] s = tt
added-has user k (o ∷ os) s = (first o, added-has user (suc k) os (slot_added user k o s))
  where
    keeps : (p : Opd) (x : Id) → has (slot_use user k) ((added user (suc k) os (slot_added user k p s)).lists x) ≡ has (slot_use user k) (opd_added user k p s.lists x)
    keeps p x = added-all-same user k (suc k) os (slot_added user k p s) (omega (arith)) x

    first : (p : Opd) → HasSlot user k p (added user (suc k) os (slot_added user k p s)).lists
    first (Val v) = keeps (Val v) v ∙ slot-has user k (Val v) s.lists
    first (Lit l) = tt
    first (Sym g) = tt

-- ---- what went comes back

opd-back : (user : Id) (k : ℕ) (o : Opd) (lists : Lists) → AllApart lists → HasSlot user k o lists → kept_back (opd_kept user k o lists) (opd_taken user k o lists) ≡ lists
opd-back user k (Val v) lists apart got = fun_ext λ x.
    at-list (put (stood_after (slot_use user k) (lists v)) (slot_use user k)) v x (opd_taken user k (Val v) lists)
    ∙ ap (λ us. cond (same_id v x) (put (stood_after (slot_use user k) (lists v)) (slot_use user k) us) us) (at-list (taken (slot_use user k)) v x lists)
    ∙ go x (same_id v x) refl
  where
    go : (x : Id) (b : Bool) → same_id v x ≡ b →
        cond b (put (stood_after (slot_use user k) (lists v)) (slot_use user k) (cond b (taken (slot_use user k) (lists x)) (lists x))) (cond b (taken (slot_use user k) (lists x)) (lists x)) ≡ lists x
    go x true e = subst (λ y. put (stood_after (slot_use user k) (lists v)) (slot_use user k) (taken (slot_use user k) (lists y)) ≡ lists y) (same_is v x e) (came-back (lists v) (slot_use user k) (apart v) got)
    go x false e = refl
opd-back user k (Lit l) lists apart got = refl
opd-back user k (Sym g) lists apart got = refl

slot-back : (user : Id) (k : ℕ) (o : Opd) (s : Stock) → AllApart s.lists → HasSlot user k o s.lists → slot_restored (slot_taken user k o s) ≡ s
slot-back user k o s apart got = stock-is (opd-back user k o s.lists apart got) refl

slot-can : (user : Id) (k : ℕ) (o : Opd) (s : Stock) → AllApart s.lists → HasSlot user k o s.lists → CanRestoreSlot (slot_taken user k o s)
slot-can user k (Val v) s apart got = (
  ap (has (slot_use user k)) (hit _ (same_itself v)) ∙ taken-lacks (slot_use user k) (s.lists v) (apart v),
  ap (stands (stood_after (slot_use user k) (s.lists v))) (hit _ (same_itself v)) ∙ stood-stands (slot_use user k) (s.lists v),
)
slot-can user k (Lit l) s apart got = tt
slot-can user k (Sym g) s apart got = tt

pub apart-taken : (user : Id) (k : ℕ) (o : Opd) (lists : Lists) → AllApart lists → AllApart (opd_taken user k o lists)
apart-taken user k (Val v) lists apart x = subst Apart (sym (at-list (taken (slot_use user k)) v x lists)) (go (same_id v x))
  where
    go : (b : Bool) → Apart (cond b (taken (slot_use user k) (lists x)) (lists x))
    go true = taken-apart (slot_use user k) (lists x) (apart x)
    go false = apart x
apart-taken user k (Lit l) lists apart x = apart x
apart-taken user k (Sym g) lists apart x = apart x

pub apart-added : (user : Id) (k : ℕ) (o : Opd) (lists : Lists) → AllApart lists → LacksSlot user k o lists → AllApart (opd_added user k o lists)
apart-added user k (Val v) lists apart lacks x = go (same_id v x) refl
  where
    go : (b : Bool) → same_id v x ≡ b → Apart (cond b (slot_use user k ∷ lists v) (lists x))
    go true e = (lacks, apart v)
    go false e = apart x
apart-added user k (Lit l) lists apart lacks x = apart x
apart-added user k (Sym g) lists apart lacks x = apart x

pub apart-back : (k : Option Kept) (lists : Lists) → AllApart lists → FitsBack k lists → AllApart (kept_back k lists)
apart-back None lists apart fits x = apart x
apart-back (Some k) lists apart fits x = go (same_id k.value x)
  where
    go : (b : Bool) → Apart (cond b (put k.spot.newer k.used (lists k.value)) (lists x))
    go true = put-apart None k.spot.newer k.used (lists k.value) (apart k.value) fits.0
    go false = apart x

restored-last : (os : List Opd) (s : Stock) → restored os (slot_restored s) ≡ slot_restored (restored os s)
restored-last [] s = refl
restored-last (o ∷ os) s = restored-last os (slot_restored s)

can-last : (o : Opd) (os : List Opd) (s : Stock) → CanRestore os s → CanRestoreSlot (restored os s) → CanRestore (o ∷ os) s
can-last o [] s can last = (last, tt)
can-last o (p ∷ os) s can last = (can.0, can-last p os (slot_restored s) can.1 last)

pub taken-back : (user : Id) (k : ℕ) (os : List Opd) (s : Stock) → AllApart s.lists → HasSlots user k os s.lists → restored os (st.taken user k os s) ≡ s
taken-back user k [] s apart got = refl
taken-back user k (o ∷ os) s apart got =
    restored-last os (st.taken user (suc k) os (slot_taken user k o s))
    ∙ ap slot_restored (taken-back user (suc k) os (slot_taken user k o s) (apart-taken user k o s.lists apart) (still-has user k (suc k) o os s.lists (omega (arith)) got.1))
    ∙ slot-back user k o s apart got.0

pub taken-can : (user : Id) (k : ℕ) (os : List Opd) (s : Stock) → AllApart s.lists → HasSlots user k os s.lists → CanRestore os (st.taken user k os s)
taken-can user k [] s apart got = tt
taken-can user k (o ∷ os) s apart got =
    let apart_one = apart-taken user k o s.lists apart in
    let got_more = still-has user k (suc k) o os s.lists (omega (arith)) got.1 in
    can-last o os (st.taken user (suc k) os (slot_taken user k o s))
    (taken-can user (suc k) os (slot_taken user k o s) apart_one got_more)
    (subst CanRestoreSlot (sym (taken-back user (suc k) os (slot_taken user k o s) apart_one got_more)) (slot-can user k o s apart got.0))

-- ---- an operand that is set

pub replaced-back : (user : Id) (k : ℕ) (old new : Opd) (s : Stock) → AllApart s.lists → HasSlot user k old s.lists → set_back user k new (replaced user k old new s) ≡ s
replaced-back user k old new s apart got = ap slot_restored (slot-gone user k new (slot_taken user k old s)) ∙ slot-back user k old s apart got

pub replaced-can : (user : Id) (k : ℕ) (old new : Opd) (s : Stock) → AllApart s.lists → HasSlot user k old s.lists → CanSetBack user k new (replaced user k old new s)
replaced-can user k old new s apart got = record {
  goes = slot-has user k new (opd_taken user k old s.lists);
  comes = subst CanRestoreSlot (sym (slot-gone user k new (slot_taken user k old s))) (slot-can user k old s apart got);
}

-- ---- what was kept can be found still

keeps-known : (s t : Chains) (k : Option Kept) → Keeps s t → IsKnown s k → IsKnown t k
keeps-known s t None keeps h = tt
keeps-known s t (Some k) keeps h = (keeps k.value None h.0, keeps k.value (Some k.used) h.1)

pub still-known : (s t : Chains) (ks : List (Option Kept)) → Keeps s t → AllKnown s ks → AllKnown t ks
still-known s t [] keeps h = tt
still-known s t (k ∷ ks) keeps h = (keeps-known s t k keeps h.0, still-known s t ks keeps h.1)

-- ---- the end of a loop

pub nothing-left : (os : List Opd) → length os < 1 → os ≡ []
nothing-left [] less = refl
nothing-left (o ∷ os) less = absurd (omega (arith, less))
