-- What the slots of whole lists need and keep, step by step.
use Rattle.std.proofs.Common.{◌≡◌, refl, sym, ap, ◌∙◌, subst, Bool, true, false, Option, None, Some, IfSome, is_some, List, [], ◌∷◌, cond}
use Rattle.std.specs.HashMap.{get}
use Rattle.ir_types.specs.declared.id.Id.{Id}
use Rattle.ir_types.specs.declared.id.Use.{Use}
use Rattle.ir_types.specs.Available.{same_id}
use Rattle.ir_types.proofs.Among.{same_is, same_itself}
use Rattle.vx_view.specs.Uses.{same_use, taken, added}
use Rattle.vx_view.specs.UsesAfter.{with_list}
use Rattle.sb_uses.specs.declared.chains.Links.{Links}
use Rattle.sb_uses.specs.declared.chains.Chains.{Chains}
use Rattle.sb_uses.specs.declared.use_lists.Spot.{Spot}
use Rattle.sb_uses.specs.Spots.{CanPutBack}
use Rattle.sb_uses.specs.Chains.{next, prev, known, lists, same_held, slot_of, there, newest_of, older_of}
use Rattle.sb_uses.specs.Places.{has, stands, put, is_some_use}
use Rattle.sb_uses.specs.Linking.{IsLinked, IsUnlinked}
use Rattle.sb_uses.specs.Entering.{IsEntered}
use Rattle.sb_uses.specs.Whole.{Seg, IsWhole}
use Rattle.sb_uses.proofs.Segments.{false-true, none-some, some-one, has-more, has-split, seg-known, seg-same, prev-next, taken-lacks, use-not, hit, miss}
use Rattle.sb_uses.proofs.Keeping.{whole, unlinked-list, linked-list, unlinked-others, linked-others, list-comes-back}

-- ---- what is named is there

named : (o : Option (Option Use)) (u : Use) → newest_of o ≡ Some u → there o ≡ true
named None u e = absurd (none-some e)
named (Some x) u e = refl

linked : (o : Option Links) (u : Use) → older_of o ≡ Some u → there o ≡ true
linked None u e = absurd (none-some e)
linked (Some x) u e = refl

next-there : (s : Chains) (v : Id) (c : Option Use) (u : Use) → next s v c ≡ Some u → known s v c ≡ true
next-there s v None u e = named (get same_id s.heads v) u e
next-there s v (Some w) u e = linked (get same_held s.slots (slot_of v w)) u e

-- what comes after a use of a list is in it
after-first : (n : Option Use → Option Use) (p : Use → Option Use) (k : Option Use → Bool) (a : Option Use) (us : List Use) (y : Use) → Seg n p k a us → n a ≡ Some y → k (Some y) ≡ true
after-first n p k a [] y seg e = absurd (none-some (sym seg ∙ e))
after-first n p k a (x ∷ xs) y seg e = subst (λ z. k (Some z) ≡ true) (some-one (sym seg.0.0 ∙ e)) seg.1.0

after-use : (n : Option Use → Option Use) (p : Use → Option Use) (k : Option Use → Bool) (a : Option Use) (us : List Use) (u y : Use) → Seg n p k a us → has u us ≡ true → n (Some u) ≡ Some y → k (Some y) ≡ true
after-use n p k a [] u y seg got e = absurd (false-true got)
after-use n p k a (x ∷ xs) u y seg got e =
    has-split x u xs got
    (λ is. after-first n p k (Some x) xs y seg.1.1 (ap (λ z. n (Some z)) is ∙ e))
    (λ _ h. after-use n p k (Some x) xs u y seg.1.1 h e)

some-known : (s : Chains) (v : Id) (o : Option Use) → ((y : Use) → o ≡ Some y → known s v (Some y) ≡ true) → IfSome o (λ u. known s v (Some u) ≡ true)
some-known s v None f = tt
some-known s v (Some y) f = f y refl

pub place-known : (s : Chains) (v : Id) (u : Use) → IsWhole s v → has u (lists s v) ≡ true → known s v (prev s v u) ≡ true
place-known s v u w got = next-there s v (prev s v u) u (prev-next (next s v) (prev s v) (known s v) None (lists s v) u w.seg got)

pub after-known : (s : Chains) (v : Id) (a : Option Use) → IsWhole s v → stands a (lists s v) ≡ true → IfSome (next s v a) (λ u. known s v (Some u) ≡ true)
after-known s v None w place = some-known s v (next s v None) (λ y e. after-first (next s v) (prev s v) (known s v) None (lists s v) y w.seg e)
after-known s v (Some u) w place = some-known s v (next s v (Some u)) (λ y e. after-use (next s v) (prev s v) (known s v) None (lists s v) u y w.seg place e)

pub newer-known : (s : Chains) (v : Id) (a : Option Use) → IsWhole s v → known s v None ≡ true → stands a (lists s v) ≡ true → known s v a ≡ true
newer-known s v None w head place = head
newer-known s v (Some u) w head place = seg-known (next s v) (prev s v) (known s v) None (lists s v) u w.seg place

-- ---- what the steps make of all lists

-- one list is as told, and the others are as they were
told : (s t : Chains) (v : Id) (us : List Use) → (lists t v ≡ us) × IsWhole t v → ((x : Id) → same_id v x ≡ false → (lists t x ≡ lists s x) × IsWhole t x) → (x : Id) → (lists t x ≡ with_list v us (lists s) x) × IsWhole t x
told s t v us own others x = go (same_id v x) refl
  where
    go : (b : Bool) → same_id v x ≡ b → (lists t x ≡ cond b us (lists s x)) × IsWhole t x
    go true e = subst (λ z. (lists t z ≡ us) × IsWhole t z) (same_is v x e) own
    go false e = others x e

pub taken-out : (s t : Chains) (v : Id) (u : Use) → ((x : Id) → IsWhole s x) → has u (lists s v) ≡ true → IsUnlinked s t v u → (x : Id) → (lists t x ≡ with_list v (taken u (lists s v)) (lists s) x) × IsWhole t x
taken-out s t v u w got is = told s t v (taken u (lists s v)) (unlinked-list s t v u is (w v) got) (λ x h. unlinked-others s t v u is x h (w x))

pub put-in-list : (s t : Chains) (v : Id) (a : Option Use) (u : Use) → ((x : Id) → IsWhole s x) → has u (lists s v) ≡ false → stands a (lists s v) ≡ true → known s v (Some u) ≡ true → IsLinked s t v a u → (x : Id) → (lists t x ≡ with_list v (put a u (lists s v)) (lists s) x) × IsWhole t x
put-in-list s t v a u w lacks place k is = told s t v (put a u (lists s v)) (linked-list s t v a u is (w v) lacks place k) (λ x h. linked-others s t v a u is x h (w x))

-- new heads and slots change no list
pub entered-list : (s t : Chains) → ((x : Id) → IsWhole s x) → IsEntered s t → (x : Id) → (lists t x ≡ lists s x) × IsWhole t x
entered-list s t w is x =
    whole t x (lists s x)
    (seg-same (next s x) (next t x) (prev s x) (prev t x) (known s x) (known t x) None (lists s x) (w x).seg (is.next_is x None) (λ y _. (is.next_is x (Some y), is.prev_is x y)) (is.keeps x))
    (w x).once

pub put-first : (u : Use) (us : List Use) → put None u us ≡ added u us
put-first u [] = refl
put-first u (x ∷ xs) = refl

-- ---- a use that was taken out can come back

came-before : (n : Option Use → Option Use) (p : Use → Option Use) (k : Option Use → Bool) (c : Option Use) (us : List Use) (u y : Use) → Seg n p k c us → has u us ≡ true → p u ≡ Some y → (c ≡ Some y → ⊥) → has y (taken u us) ≡ true
came-before n p k c [] u y seg got e ne = absurd (false-true got)
came-before n p k c (x ∷ xs) u y seg got e ne =
    has-split x u xs got
    (λ is. absurd (ne (sym seg.0.1 ∙ ap p is ∙ e)))
    (λ f h. subst (λ zs. has y zs ≡ true) (sym (miss xs f)) (go (same_use x y) refl (came-before n p k (Some x) xs u y seg.1.1 h e)))
  where
    go : (b : Bool) → same_use x y ≡ b → ((Some x ≡ Some y → ⊥) → has y (taken u xs) ≡ true) → has y (x ∷ taken u xs) ≡ true
    go true q r = hit _ q
    go false q r = has-more x y (taken u xs) (r (λ g. use-not x y q (some-one g)))

stands-by : (s : Chains) (v : Id) (u : Use) (a : Option Use) → prev s v u ≡ a → IsWhole s v → has u (lists s v) ≡ true → stands a (taken u (lists s v)) ≡ true
stands-by s v u None e w got = refl
stands-by s v u (Some y) e w got = came-before (next s v) (prev s v) (known s v) None (lists s v) u y w.seg got e none-some

itself : {X : Type 0} (v : Id) (x y : X) → cond (same_id v v) x y ≡ x
itself v x y = hit _ (same_itself v)

-- the place is in the list without the use
pub can-put : (s t : Chains) (v : Id) (u : Use) (spot : Spot) → IsWhole s v → has u (lists s v) ≡ true → spot.newer ≡ prev s v u → (lists t v ≡ with_list v (taken u (lists s v)) (lists s) v) → ((x : Id) (c : Option Use) → known t x c ≡ known s x c) → CanPutBack t v u spot
can-put s t v u spot w got is list keeps = record {
  lacks = ap (has u) now ∙ taken-lacks u (lists s v) w.once;
  place = subst (λ us. stands spot.newer us ≡ true) (sym now) (stands-by s v u spot.newer (sym is) w got);
  head = keeps v None ∙ some-head (lists s v) w.seg got;
  slot = keeps v (Some u) ∙ seg-known (next s v) (prev s v) (known s v) None (lists s v) u w.seg got;
}
  where
    now : lists t v ≡ taken u (lists s v)
    now = list ∙ itself v (taken u (lists s v)) (lists s v)

    some-head : (us : List Use) → Seg (next s v) (prev s v) (known s v) None us → has u us ≡ true → known s v None ≡ true
    some-head [] seg h = absurd (false-true h)
    some-head (x ∷ xs) seg h = next-there s v None x seg.0.0

-- and all lists come back
pub all-back : (s t : Chains) (v : Id) (a : Option Use) (u : Use) → IsWhole s v → has u (lists s v) ≡ true → a ≡ prev s v u → ((x : Id) → lists t x ≡ with_list v (taken u (lists s v)) (lists s) x) → (x : Id) → with_list v (put a u (lists t v)) (lists t) x ≡ lists s x
all-back s t v a u w got is each x = go (same_id v x) refl
  where
    own : put a u (lists t v) ≡ lists s v
    own =
        ap (put a u) (each v ∙ itself v (taken u (lists s v)) (lists s v))
        ∙ ap (λ b. put b u (taken u (lists s v))) is
        ∙ list-comes-back s v u w got

    go : (b : Bool) → same_id v x ≡ b → cond b (put a u (lists t v)) (lists t x) ≡ lists s x
    go true e = own ∙ ap (lists s) (same_is v x e)
    go false e = each x ∙ miss _ e

-- ---- adding, from what the type says to what the call sees

pub same-lists : (s r m : Chains) → s ≡ r → ((x : Id) → IsWhole s x) → IsEntered s m → (x : Id) → lists m x ≡ lists r x
same-lists s r m e w is x = (entered-list s m w is x).0 ∙ ap (λ (z : Chains). lists z x) e

pub added-lists : (s r m t : Chains) (v : Id) (u : Use) → s ≡ r → ((x : Id) → IsWhole s x) → IsEntered s m → has u (lists r v) ≡ false → known m v (Some u) ≡ true → IsLinked m t v None u → (x : Id) → (lists t x ≡ with_list v (added u (lists r v)) (lists r) x) × IsWhole t x
added-lists s r m t v u e w is lacks k link x =
    let step = put-in-list m t v None u (λ y. (entered-list s m w is y).1) (ap (has u) (same v) ∙ lacks) refl k link x in
    (step.0 ∙ ap (λ us. with_list v us (lists m) x) (put-first u (lists m v) ∙ ap (added u) (same v)) ∙ ap (λ us. cond (same_id v x) (added u (lists r v)) us) (same x), step.1)
  where
    same : (y : Id) → lists m y ≡ lists r y
    same = same-lists s r m e w is

-- the head names a use where the list has one
pub used : (s : Chains) (v : Id) → IsWhole s v → is_some (next s v None) ≡ is_some_use (lists s v)
used s v w = go (lists s v) w.seg
  where
    go : (us : List Use) → Seg (next s v) (prev s v) (known s v) None us → is_some (next s v None) ≡ is_some_use us
    go [] seg = ap is_some seg
    go (u ∷ us) seg = ap is_some seg.0.0
