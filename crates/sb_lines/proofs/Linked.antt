-- An instruction that came: the nodes are rings still, and each block has what the change says.
use Rattle.std.proofs.Common.{◌≡◌, refl, sym, ap, ◌∙◌, subst, ℕ, ◌≤◌, ◌<◌, ◌==◌, Bool, true, false, Option, None, Some, List, [], ◌∷◌, ◌++◌, length, cond, arith}
use Rattle.ir_types.specs.declared.id.Id.{Id}
use Rattle.ir_types.specs.declared.id.Place.{Place}
use Rattle.ir_types.specs.declared.inst.Inst.{Inst}
use Rattle.ir_types.proofs.Among.{same_itself}
use Rattle.vx_view.specs.Changes.{each, inserting}
use Rattle.vx_view.specs.Views.{same_place}
use Rattle.sb_lines.specs.declared.nodes.Held.{Held}
use Rattle.sb_lines.specs.declared.nodes.Held.TheVariants.{Block, Line, Gone}
use Rattle.sb_lines.specs.declared.spot.Before.{Before}
use Rattle.sb_lines.specs.declared.spot.Before.TheVariants.{End}
use Rattle.sb_lines.specs.declared.arena.Arena.{Arena}
use Rattle.sb_lines.specs.Filling.{at_end}
use Rattle.sb_lines.specs.Nodes.{held, next, prev}
use Rattle.sb_lines.specs.Arena.{mark, node, contents, place_in, before_in}
use Rattle.sb_lines.specs.Whole.{has, IsRing, IsStanding, IsOf, IsRings}
use Rattle.sb_lines.specs.Steps.{SameFrame, coming}
use Rattle.sb_lines.proofs.Rings.{false-true, eq-is, eq-itself, eq-not, eq-other, to-false, hit, miss, seg-same, put_before, put-in, put-apart, has-put, prev-in, last-in, prev-next, last-back}
use Rattle.sb_lines.proofs.Walks.{insts, IsKept, insts-same, insts-in, insts-kept, insts-end}
use Rattle.sb_lines.proofs.Standing.{place-is, place-itself, place-not, none-some, some-is, line-place, line-inst, block-line, mark-lacks, gone-lacks, contents-is, contents-none, home, only-at, mark-same, some-there, there-some}

-- what the writes leave that link a node in with an instruction
pub record LinkedIn (s t : Arena) (at spot : ℕ) (place : Place) (inst : Inst) : Type 0 where
  pub same : SameFrame s t
  pub node_is : (id : Id) → node t id ≡ node s id
  pub length_is : length s.nodes.items ≤ length t.nodes.items
  pub next_is : (x : ℕ) → next t.nodes.items x ≡ cond (prev s.nodes.items spot == x) at (cond (at == x) spot (next s.nodes.items x))
  pub prev_is : (x : ℕ) → prev t.nodes.items x ≡ cond (spot == x) at (cond (at == x) (prev s.nodes.items spot) (prev s.nodes.items x))
  pub held_is : (x : ℕ) → held t.nodes.items x ≡ cond (at == x) (Line place inst) (held s.nodes.items x)
  pub place_is : place_in (held s.nodes.items spot) ≡ Some place
  pub gone : held s.nodes.items at ≡ Gone
  pub known : node s inst.id ≡ Some at

-- the mark of the block, and the node before which one comes is of its ring, or the mark
record SpotIn (s : Arena) (R : IsRings s) (spot : ℕ) (place : Place) : Type 0 where
  pub m : ℕ
  pub marked : mark s place ≡ Some m
  pub either : has spot (R.ring place) ≡ false → spot ≡ m

spot-in : (s : Arena) (R : IsRings s) (spot : ℕ) (place : Place) → place_in (held s.nodes.items spot) ≡ Some place → SpotIn s R spot place
spot-in s R spot place is = by (held s.nodes.items spot) refl is
  where
    by : (x : Held) → held s.nodes.items spot ≡ x → place_in x ≡ Some place → SpotIn s R spot place
    by (Block q) e f = record { m = spot; marked = R.marks spot place (e ∙ ap Block (some-is f)); either = λ _. refl }
    by (Line q i) e f =
        let st = R.lines spot place i (e ∙ ap (λ z. Line z i) (some-is f)) in
        let m = some-there (mark s place) st.marked in
        record { m = m.0; marked = m.1; either = λ lacks. absurd (false-true (sym lacks ∙ st.there)) }
    by Gone e f = absurd (none-some f)

-- the node before it is of the same block
pub spot-prev : (s : Arena) (R : IsRings s) (spot : ℕ) (place : Place) → place_in (held s.nodes.items spot) ≡ Some place → place_in (held s.nodes.items (prev s.nodes.items spot)) ≡ Some place
spot-prev s R spot place is = go (spot-in s R spot place is)
  where
    go : SpotIn s R spot place → place_in (held s.nodes.items (prev s.nodes.items spot)) ≡ Some place
    go here = home s R place here.m here.marked (prev s.nodes.items spot) (λ lacks. at-mark lacks (prev s.nodes.items spot == here.m) refl)
      where
        r : IsRing s place here.m (R.ring place)
        r = R.rings place here.m here.marked

        at-mark : has (prev s.nodes.items spot) (R.ring place) ≡ false → (b : Bool) → (prev s.nodes.items spot == here.m) ≡ b → prev s.nodes.items spot ≡ here.m
        at-mark lacks true e = eq-is (prev s.nodes.items spot) here.m e
        at-mark lacks false e = by (has spot (R.ring place)) refl
          where
            by : (c : Bool) → has spot (R.ring place) ≡ c → prev s.nodes.items spot ≡ here.m
            by true got = absurd (false-true (sym lacks ∙ prev-in (next s.nodes.items) (prev s.nodes.items) here.m (R.ring place) here.m spot r.seg got (eq-not (prev s.nodes.items spot) here.m e)))
            by false lost =
                let is = here.either lost in
                absurd (false-true (sym lacks ∙ subst (λ x. has (prev s.nodes.items x) (R.ring place) ≡ true) (sym is) (last-in (next s.nodes.items) (prev s.nodes.items) here.m (R.ring place) here.m r.seg (λ f. eq-not (prev s.nodes.items spot) here.m e (ap (prev s.nodes.items) is ∙ f)))))

-- and names it
pub spot-named : (s : Arena) (R : IsRings s) (spot : ℕ) (place : Place) → place_in (held s.nodes.items spot) ≡ Some place → next s.nodes.items (prev s.nodes.items spot) ≡ spot
spot-named s R spot place is = go (spot-in s R spot place is)
  where
    go : SpotIn s R spot place → next s.nodes.items (prev s.nodes.items spot) ≡ spot
    go here = by (has spot (R.ring place)) refl
      where
        r : IsRing s place here.m (R.ring place)
        r = R.rings place here.m here.marked

        by : (c : Bool) → has spot (R.ring place) ≡ c → next s.nodes.items (prev s.nodes.items spot) ≡ spot
        by true got = prev-next (next s.nodes.items) (prev s.nodes.items) here.m (R.ring place) here.m spot r.seg got
        by false lost = subst (λ x. next s.nodes.items (prev s.nodes.items x) ≡ x) (sym (here.either lost)) (last-back (next s.nodes.items) (prev s.nodes.items) here.m (R.ring place) here.m r.seg)

module _ (s t : Arena) (at spot : ℕ) (place : Place) (inst : Inst) (R : IsRings s) (L : LinkedIn s t at spot place inst) where
  abbrev h : ℕ → Held
  h = held s.nodes.items

  abbrev g : ℕ → Held
  g = held t.nodes.items

  abbrev p : ℕ → ℕ
  p = prev s.nodes.items

  abbrev ring : List ℕ
  ring = R.ring place

  here : SpotIn s R spot place
  here = spot-in s R spot place L.place_is

  r : IsRing s place here.m ring
  r = R.rings place here.m here.marked

  placed-other : (y : ℕ) (z : Place) → place_in (h y) ≡ Some z → at ≡ y → ⊥
  placed-other y z e f = none-some (sym (ap place_in (ap h (sym f) ∙ L.gone)) ∙ e)

  stays : (y : ℕ) (z : Place) → place_in (h y) ≡ Some z → g y ≡ h y
  stays y z e = L.held_is y ∙ miss _ (eq-other at y (placed-other y z e))

  lacks-at : has at ring ≡ false
  lacks-at = gone-lacks s R place here.m here.marked at L.gone

  before-spot : place_in (h (p spot)) ≡ Some place
  before-spot = spot-prev s R spot place L.place_is

  -- ---- the rings

  abbrev ring_now : Place → List ℕ
  ring_now z = cond (same_place place z) (put_before spot at (R.ring z)) (R.ring z)

  mark-other : at ≡ here.m → ⊥
  mark-other = placed-other here.m place (ap place_in r.at_mark)

  own : IsRing t place here.m (put_before spot at ring)
  own = record {
    at_mark = stays here.m place (ap place_in r.at_mark) ∙ r.at_mark;
    seg = put-in (next s.nodes.items) (next t.nodes.items) p (prev t.nodes.items) spot at (record { next = L.next_is; prev = L.prev_is }) here.m ring here.m r.seg r.once
        (mark-lacks s R place here.m here.marked) (mark-lacks s R place here.m here.marked) lacks-at mark-other mark-other here.either;
    once = put-apart spot at ring r.once lacks-at;
    each = λ y got. by y (at == y) refl (sym (has-put spot at y ring) ∙ got);
  }
    where
      by : (y : ℕ) (b : Bool) → (at == y) ≡ b → cond b true (has y ring) ≡ true → (i : Inst) × (g y ≡ Line place i)
      by y true e f = (inst, L.held_is y ∙ hit _ e)
      by y false e f = ((r.each y f).0, L.held_is y ∙ miss _ e ∙ (r.each y f).1)

  others : (z : Place) (k : ℕ) → mark s z ≡ Some k → same_place place z ≡ false → IsRing t z k (R.ring z)
  others z k e w = record {
    at_mark = stays k z (ap place_in q.at_mark) ∙ q.at_mark;
    seg = seg-same (next s.nodes.items) (next t.nodes.items) p (prev t.nodes.items) k (R.ring z) k q.seg (keep-next k (ap place_in q.at_mark)) (λ x got. keep-next x (ap place_in (q.each x got).1)) (λ x got. keep-prev x (ap place_in (q.each x got).1)) (keep-prev k (ap place_in q.at_mark));
    once = q.once;
    each = λ y got. ((q.each y got).0, stays y z (ap place_in (q.each y got).1) ∙ (q.each y got).1);
  }
    where
      q : IsRing s z k (R.ring z)
      q = R.rings z k e

      keep-next : (x : ℕ) → place_in (h x) ≡ Some z → next t.nodes.items x ≡ next s.nodes.items x
      keep-next x f = L.next_is x ∙ miss _ (eq-other (p spot) x (λ c. place-not place z w (some-is (sym before-spot ∙ ap (λ v. place_in (h v)) c ∙ f)))) ∙ miss _ (eq-other at x (placed-other x z f))

      keep-prev : (x : ℕ) → place_in (h x) ≡ Some z → prev t.nodes.items x ≡ p x
      keep-prev x f = L.prev_is x ∙ miss _ (eq-other spot x (λ c. place-not place z w (some-is (sym L.place_is ∙ ap (λ v. place_in (h v)) c ∙ f)))) ∙ miss _ (eq-other at x (placed-other x z f))

  rings_now : (z : Place) (k : ℕ) → mark t z ≡ Some k → IsRing t z k (ring_now z)
  rings_now z k e = by (same_place place z) refl
    where
      marked : mark s z ≡ Some k
      marked = sym (mark-same s t L.same z) ∙ e

      by : (b : Bool) → same_place place z ≡ b → IsRing t z k (cond b (put_before spot at (R.ring z)) (R.ring z))
      by true w =
          subst (λ x. IsRing t x k (put_before spot at (R.ring x))) (place-is place z w)
          (subst (λ x. IsRing t place x (put_before spot at ring)) (some-is (sym here.marked ∙ ap (mark s) (place-is place z w) ∙ marked)) own)
      by false w = others z k marked w

  came : IsStanding t at place inst (ring_now place)
  came = record {
    marked = there-some (mark t place) here.m (mark-same s t L.same place ∙ here.marked);
    there = ap (has at) (hit ring (place-itself place)) ∙ has-put spot at at ring ∙ hit _ (eq-itself at);
    known = L.node_is inst.id ∙ L.known;
  }

  lines_now : (y : ℕ) (z : Place) (i : Inst) → g y ≡ Line z i → IsStanding t y z i (ring_now z)
  lines_now y z i e = by (at == y) refl
    where
      in-ring : has y (R.ring z) ≡ true → (at == y) ≡ false → has y (ring_now z) ≡ true
      in-ring got w = go (same_place place z)
        where
          go : (b : Bool) → has y (cond b (put_before spot at (R.ring z)) (R.ring z)) ≡ true
          go true = has-put spot at y (R.ring z) ∙ miss true w ∙ got
          go false = got

      by : (b : Bool) → (at == y) ≡ b → IsStanding t y z i (ring_now z)
      by true w =
          let is : Line place inst ≡ Line z i = sym (L.held_is y ∙ hit _ w) ∙ e in
          subst (λ x. IsStanding t y x i (ring_now x)) (line-place is)
          (subst (λ j. IsStanding t y place j (ring_now place)) (line-inst is) (subst (λ v. IsStanding t v place inst (ring_now place)) (eq-is at y w) came))
      by false w =
          let st = R.lines y z i (sym (L.held_is y ∙ miss _ w) ∙ e) in
          let m = some-there (mark s z) st.marked in
          record { marked = there-some (mark t z) m.0 (mark-same s t L.same z ∙ m.1); there = in-ring st.there w; known = L.node_is i.id ∙ st.known }

  nodes_now : (id : Id) (y : ℕ) → node t id ≡ Some y → (y < length t.nodes.items) × IsOf id (g y)
  nodes_now id y e =
      let was = R.nodes id y (sym (L.node_is id) ∙ e) in
      let old = was.0 in
      let long = L.length_is in
      (omega (arith, old, long), by (at == y) refl was.1)
    where
      by : (b : Bool) → (at == y) ≡ b → IsOf id (h y) → IsOf id (g y)
      by true w of = subst (IsOf id) (sym (L.held_is y ∙ hit _ w)) (R.single inst.id id at L.known (sym (L.node_is id) ∙ e ∙ ap Some (sym (eq-is at y w))))
      by false w of = subst (IsOf id) (sym (L.held_is y ∙ miss _ w)) of

  marks_now : (y : ℕ) (z : Place) → g y ≡ Block z → mark t z ≡ Some y
  marks_now y z e = by (at == y) refl
    where
      by : (b : Bool) → (at == y) ≡ b → mark t z ≡ Some y
      by true w = absurd (block-line (sym e ∙ L.held_is y ∙ hit _ w))
      by false w = mark-same s t L.same z ∙ R.marks y z (sym (L.held_is y ∙ miss _ w) ∙ e)

  pub linked-rings : IsRings t
  linked-rings = record {
    ring = ring_now;
    rings = rings_now;
    lines = lines_now;
    nodes = nodes_now;
    marks = marks_now;
    single = λ x z y e f. R.single x z y (sym (L.node_is x) ∙ e) (sym (L.node_is z) ∙ f);
  }

  -- ---- what stands in each block

  by-mark : (z : Place) (F : List Inst → List Inst) → (mark s z ≡ None → F [] ≡ []) → ((k : ℕ) → mark s z ≡ Some k → insts g (ring_now z) ≡ F (insts h (R.ring z))) → contents t z ≡ F (contents s z)
  unfolding linked-rings
  by-mark z F none some = by (mark s z) refl
    where
      by : (o : Option ℕ) → mark s z ≡ o → contents t z ≡ F (contents s z)
      by None e = contents-none t linked-rings z (mark-same s t L.same z ∙ e) ∙ sym (none e) ∙ ap F (sym (contents-none s R z e))
      by (Some k) e = contents-is t linked-rings z k (mark-same s t L.same z ∙ e) ∙ some k e ∙ ap F (sym (contents-is s R z k e))

  linked-line : (i : Inst) → h spot ≡ Line place i → (z : Place) → contents t z ≡ each (inserting i.id inst) (contents s z)
  linked-line i is z = by-mark z (each (inserting i.id inst)) (λ _. refl) (λ k e. by k e (same_place place z) refl)
    where
      left : (y : ℕ) (q : Place) (j : Inst) → h y ≡ Line q j → (spot == y) ≡ false → inserting i.id inst j ≡ j ∷ []
      left y q j there ne = ap (λ b. cond b (inst ∷ j ∷ []) (j ∷ [])) (only-at s R spot place i is y q j there ∙ ne)

      kept : (y : ℕ) → has y ring ≡ true → (spot == y) ≡ false → IsKept h g (inserting i.id inst) y
      kept y got ne = record { place = place; inst = (r.each y got).0; was = (r.each y got).1; is = stays y place (ap place_in (r.each y got).1) ∙ (r.each y got).1; left = left y place (r.each y got).0 (r.each y got).1 ne }

      by : (k : ℕ) → mark s z ≡ Some k → (b : Bool) → same_place place z ≡ b → insts g (cond b (put_before spot at (R.ring z)) (R.ring z)) ≡ each (inserting i.id inst) (insts h (R.ring z))
      by k e true w =
          subst (λ x. insts g (put_before spot at (R.ring x)) ≡ each (inserting i.id inst) (insts h (R.ring x))) (place-is place z w)
          (insts-in h g (inserting i.id inst) spot place i inst at is (stays spot place L.place_is ∙ is) (L.held_is at ∙ hit _ (eq-itself at)) (ap (λ b. cond b (inst ∷ i ∷ []) (i ∷ [])) (same_itself i.id)) ring r.once (R.lines spot place i is).there kept)
      by k e false w = insts-same h g (inserting i.id inst) (R.ring z) (λ y got.
          let j = (R.rings z k e).each y got in
          record { place = z; inst = j.0; was = j.1; is = stays y z (ap place_in j.1) ∙ j.1; left = left y z j.0 j.1 (eq-other spot y (λ f. place-not place z w (line-place (sym is ∙ ap h f ∙ j.1)))) })

  linked-end : h spot ≡ Block place → (z : Place) → contents t z ≡ at_end place inst z (contents s z)
  linked-end is z = by-mark z (at_end place inst z) (λ e. none e (same_place place z) refl) (λ k e. by k e (same_place place z) refl)
    where
      none : mark s z ≡ None → (b : Bool) → same_place place z ≡ b → cond b (inst ∷ []) [] ≡ []
      none e true w = absurd (none-some (sym e ∙ ap (mark s) (sym (place-is place z w)) ∙ here.marked))
      none e false w = refl

      by : (k : ℕ) → mark s z ≡ Some k → (b : Bool) → same_place place z ≡ b → insts g (cond b (put_before spot at (R.ring z)) (R.ring z)) ≡ cond b (insts h (R.ring z) ++ inst ∷ []) (insts h (R.ring z))
      by k e true w =
          subst (λ x. insts g (put_before spot at (R.ring x)) ≡ insts h (R.ring x) ++ inst ∷ []) (place-is place z w)
          (insts-end h g place spot at inst ring (L.held_is at ∙ hit _ (eq-itself at)) (to-false (has spot ring) (λ got. block-line (sym is ∙ (r.each spot got).1))) r.each (λ y got. stays y place (ap place_in (r.each y got).1)))
      by k e false w = insts-kept h g (R.ring z) (λ y got. stays y z (ap place_in ((R.rings z k e).each y got).1))

  pub linked-contents : (before : Before) → before_in (h spot) ≡ Some before → (z : Place) → contents t z ≡ coming before inst z (contents s z)
  linked-contents before is z = by (h spot) refl is
    where
      by : (x : Held) → h spot ≡ x → before_in x ≡ Some before → contents t z ≡ coming before inst z (contents s z)
      by (Line q i) e f =
          subst (λ b. contents t z ≡ coming b inst z (contents s z)) (some-is f)
          (linked-line i (e ∙ ap (λ x. Line x i) (some-is (sym (ap place_in e) ∙ L.place_is))) z)
      by (Block q) e f =
          let at_place : q ≡ place = some-is (sym (ap place_in e) ∙ L.place_is) in
          subst (λ b. contents t z ≡ coming b inst z (contents s z)) (ap End (sym at_place) ∙ some-is f)
          (linked-end (e ∙ ap Block at_place) z)
      by Gone e f = absurd (none-some f)
