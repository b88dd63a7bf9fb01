-- What linking in and taking out makes of all lists.
use Rattle.std.proofs.Common.{◌≡◌, refl, sym, ap, ◌∙◌, subst, Bool, true, false, ◌&&◌, Option, None, Some, List, length, cond}
use Rattle.ir_types.specs.declared.id.Id.{Id}
use Rattle.ir_types.specs.declared.id.Use.{Use}
use Rattle.ir_types.specs.Available.{same_id}
use Rattle.ir_types.proofs.Among.{same_itself}
use Rattle.vx_view.specs.Uses.{same_use, taken}
use Rattle.sb_uses.specs.declared.chains.Chains.{Chains}
use Rattle.sb_uses.specs.Chains.{next, prev, known, lists, same_end}
use Rattle.sb_uses.specs.Places.{has, stands, put}
use Rattle.sb_uses.specs.Linking.{IsLinked, IsUnlinked}
use Rattle.sb_uses.specs.Whole.{Apart, Seg, IsWhole}
use Rattle.sb_uses.proofs.Segments.{none-some, seg-same, seg-known, walked, PutIn, put-in, TakenOut, take-out, taken-apart, put-apart, comes-back}
use Rattle.sb_uses.proofs.Fitting.{fits}

own : {X : Type 0} (v : Id) (e : Bool) (x y : X) → cond (same_id v v && e) x y ≡ cond e x y
own v e x y = ap (λ b. cond (b && e) x y) (same_itself v)

-- a list that is linked is the one that is walked
pub whole : (t : Chains) (v : Id) (us : List Use) → Seg (next t v) (prev t v) (known t v) None us → Apart us → (lists t v ≡ us) × IsWhole t v
whole t v us seg once =
    let is : lists t v ≡ us = walked (next t v) (prev t v) (known t v) None us (length t.slots.entries) seg (fits t.slots.entries v us once (λ w h. seg-known (next t v) (prev t v) (known t v) None us w seg h)) in
    (is, record { seg = subst (λ l. Seg (next t v) (prev t v) (known t v) None l) (sym is) seg; once = subst Apart (sym is) once })

-- a slot that is taken out is out of its list, which is else as it was
pub unlinked-list : (s t : Chains) (v : Id) (u : Use) → IsUnlinked s t v u → IsWhole s v → has u (lists s v) ≡ true → (lists t v ≡ taken u (lists s v)) × IsWhole t v
unlinked-list s t v u is w had = whole t v (taken u (lists s v)) (take-out (next s v) (next t v) (prev s v) (prev t v) (known s v) (known t v) u out None (lists s v) w.seg w.once tt had) (taken-apart u (lists s v) w.once)
  where
    out : TakenOut (next s v) (next t v) (prev s v) (prev t v) (known s v) (known t v) u
    out = record { next = λ x. is.next_is v x ∙ own v _ _ _; prev = λ x. is.prev_is v x ∙ own v _ _ _; keeps = λ c h. is.known_is v c ∙ h }

-- and what is put after what was before it gives the list as it was
pub list-comes-back : (s : Chains) (v : Id) (u : Use) → IsWhole s v → has u (lists s v) ≡ true → put (prev s v u) u (taken u (lists s v)) ≡ lists s v
list-comes-back s v u w had = comes-back (next s v) (prev s v) (known s v) None (lists s v) u w.seg w.once tt had

-- a slot that is linked in stands in its list after its newer neighbour
pub linked-list : (s t : Chains) (v : Id) (a : Option Use) (u : Use) → IsLinked s t v a u → IsWhole s v → has u (lists s v) ≡ false → stands a (lists s v) ≡ true → known s v (Some u) ≡ true → (lists t v ≡ put a u (lists s v)) × IsWhole t v
linked-list s t v a u is w lacks place k =
    whole t v (put a u (lists s v))
    (put-in (next s v) (next t v) (prev s v) (prev t v) (known s v) (known t v) a u new None (lists s v) w.seg w.once tt lacks none-some (ahead a place))
    (put-apart None a u (lists s v) w.once lacks)
  where
    new : PutIn (next s v) (next t v) (prev s v) (prev t v) (known s v) (known t v) a u
    new = record {
      next = λ x. is.next_is v x ∙ own v (same_end a x) _ _ ∙ ap (λ r. cond (same_end a x) (Some u) r) (own v (same_end (Some u) x) _ _);
      prev = λ x. is.prev_is v x ∙ own v (same_end (next s v a) (Some x)) _ _ ∙ ap (λ r. cond (same_end (next s v a) (Some x)) (Some u) r) (own v (same_use u x) _ _);
      keeps = λ c h. is.known_is v c ∙ h;
      there = is.known_is v (Some u) ∙ k;
    }

    ahead : (b : Option Use) → stands b (lists s v) ≡ true → (None ≡ b → ⊥) → (x : Use) × (b ≡ Some x) × (has x (lists s v) ≡ true)
    ahead None h differ = absurd (differ refl)
    ahead (Some x) h differ = (x, refl, h)

foreign : {X : Type 0} (v x : Id) (e : Bool) (y z : X) → same_id v x ≡ false → cond (same_id v x && e) y z ≡ z
foreign v x e y z h = ap (λ b. cond (b && e) y z) h

-- every other list stays as it was
pub unlinked-others : (s t : Chains) (v : Id) (u : Use) → IsUnlinked s t v u → (x : Id) → same_id v x ≡ false → IsWhole s x → (lists t x ≡ lists s x) × IsWhole t x
unlinked-others s t v u is x h w =
    whole t x (lists s x)
    (seg-same (next s x) (next t x) (prev s x) (prev t x) (known s x) (known t x) None (lists s x) w.seg (at None) (λ y _. (at (Some y), is.prev_is x y ∙ foreign v x _ _ _ h)) (λ c k. is.known_is x c ∙ k))
    w.once
  where
    at : (c : Option Use) → next t x c ≡ next s x c
    at c = is.next_is x c ∙ foreign v x _ _ _ h

pub linked-others : (s t : Chains) (v : Id) (a : Option Use) (u : Use) → IsLinked s t v a u → (x : Id) → same_id v x ≡ false → IsWhole s x → (lists t x ≡ lists s x) × IsWhole t x
linked-others s t v a u is x h w =
    whole t x (lists s x)
    (seg-same (next s x) (next t x) (prev s x) (prev t x) (known s x) (known t x) None (lists s x) w.seg (at None) (λ y _. (at (Some y), is.prev_is x y ∙ foreign v x _ _ _ h ∙ foreign v x _ _ _ h)) (λ c k. is.known_is x c ∙ k))
    w.once
  where
    at : (c : Option Use) → next t x c ≡ next s x c
    at c = is.next_is x c ∙ foreign v x _ _ _ h ∙ foreign v x _ _ _ h
