-- An instruction that went: the nodes are rings still, and each block is without it; where it stood it can come back.
use Rattle.std.proofs.Common.{◌≡◌, refl, sym, ap, ◌∙◌, subst, ℕ, ◌≤◌, ◌<◌, ◌==◌, Bool, true, false, Option, None, Some, List, [], ◌∷◌, length, cond, arith}
use Rattle.ir_types.specs.declared.id.Id.{Id}
use Rattle.ir_types.specs.declared.id.Place.{Place}
use Rattle.ir_types.specs.declared.inst.Inst.{Inst}
use Rattle.ir_types.proofs.Among.{same_itself}
use Rattle.vx_view.specs.Changes.{each, removing}
use Rattle.vx_view.specs.Views.{same_place}
use Rattle.sb_lines.specs.declared.nodes.Held.{Held}
use Rattle.sb_lines.specs.declared.nodes.Held.TheVariants.{Block, Line, Gone}
use Rattle.sb_lines.specs.declared.spot.Before.{Before}
use Rattle.sb_lines.specs.declared.arena.Arena.{Arena}
use Rattle.sb_lines.specs.Nodes.{held, next, prev}
use Rattle.sb_lines.specs.Arena.{mark, node, contents, place_in, before_in}
use Rattle.sb_lines.specs.Whole.{has, IsRing, IsStanding, IsOf, IsRings}
use Rattle.sb_lines.specs.Steps.{SameFrame, coming}
use Rattle.sb_lines.proofs.Rings.{false-true, eq-is, eq-itself, eq-not, eq-other, hit, miss, seg-same, without, take-out, without-apart, has-without, prev-in, next-in, prev-next, next-prev, loops}
use Rattle.sb_lines.proofs.Walks.{insts, insts-same, insts-out}
use Rattle.sb_lines.proofs.Standing.{place-is, place-not, some-is, gone-line, gone-block, block-line, mark-lacks, contents-is, contents-none, home, only-at, mark-same, some-there, there-some}
use Rattle.sb_lines.proofs.Linked.{LinkedIn, linked-contents}

-- what the writes leave that take a node out, up to its own links
pub record UnlinkedFrom (s t : Arena) (at : ℕ) (place : Place) (inst : Inst) : Type 0 where
  pub same : SameFrame s t
  pub node_is : (id : Id) → node t id ≡ node s id
  pub length_is : length s.nodes.items ≤ length t.nodes.items
  pub next_is : (x : ℕ) → (at == x) ≡ false → next t.nodes.items x ≡ cond (prev s.nodes.items at == x) (next s.nodes.items at) (next s.nodes.items x)
  pub prev_is : (x : ℕ) → (at == x) ≡ false → prev t.nodes.items x ≡ cond (next s.nodes.items at == x) (prev s.nodes.items at) (prev s.nodes.items x)
  pub held_is : (x : ℕ) → held t.nodes.items x ≡ cond (at == x) Gone (held s.nodes.items x)
  pub was : held s.nodes.items at ≡ Line place inst

module _ (s : Arena) (R : IsRings s) (at : ℕ) (place : Place) (inst : Inst) (was : held s.nodes.items at ≡ Line place inst) where
  abbrev n : ℕ → ℕ
  n = next s.nodes.items

  abbrev p : ℕ → ℕ
  p = prev s.nodes.items

  m : (k : ℕ) × (mark s place ≡ Some k)
  m = some-there (mark s place) (R.lines at place inst was).marked

  r : IsRing s place m.0 (R.ring place)
  r = R.rings place m.0 m.1

  got : has at (R.ring place) ≡ true
  got = (R.lines at place inst was).there

  -- its neighbours are of its block, and name it
  pub before-at : place_in (held s.nodes.items (p at)) ≡ Some place
  before-at = home s R place m.0 m.1 (p at) (λ lacks. by lacks (p at == m.0) refl)
    where
      by : has (p at) (R.ring place) ≡ false → (b : Bool) → (p at == m.0) ≡ b → p at ≡ m.0
      by lacks true e = eq-is (p at) m.0 e
      by lacks false e = absurd (false-true (sym lacks ∙ prev-in n p m.0 (R.ring place) m.0 at r.seg got (eq-not (p at) m.0 e)))

  pub after-at : place_in (held s.nodes.items (n at)) ≡ Some place
  after-at = home s R place m.0 m.1 (n at) (next-in n p m.0 (R.ring place) m.0 at r.seg got)

  pub named-before : n (p at) ≡ at
  named-before = prev-next n p m.0 (R.ring place) m.0 at r.seg got

  pub named-after : p (n at) ≡ at
  named-after = next-prev n p m.0 (R.ring place) m.0 at r.seg got

module _ (s t : Arena) (at : ℕ) (place : Place) (inst : Inst) (R : IsRings s) (L : UnlinkedFrom s t at place inst) where
  abbrev h : ℕ → Held
  h = held s.nodes.items

  abbrev g : ℕ → Held
  g = held t.nodes.items

  abbrev ring : List ℕ
  ring = R.ring place

  stood : IsStanding s at place inst ring
  stood = R.lines at place inst L.was

  stays : (y : ℕ) → (at ≡ y → ⊥) → g y ≡ h y
  stays y ne = L.held_is y ∙ miss _ (eq-other at y ne)

  no-mark : (y : ℕ) (z : Place) → h y ≡ Block z → at ≡ y → ⊥
  no-mark y z e f = block-line (sym e ∙ ap h (sym f) ∙ L.was)

  elsewhere : (y : ℕ) (z : Place) → place_in (h y) ≡ Some z → same_place place z ≡ false → at ≡ y → ⊥
  elsewhere y z e w f = place-not place z w (some-is (sym (ap place_in L.was) ∙ ap (λ v. place_in (h v)) f ∙ e))

  abbrev ring_now : Place → List ℕ
  ring_now z = cond (same_place place z) (without at (R.ring z)) (R.ring z)

  own : (k : ℕ) → mark s place ≡ Some k → IsRing t place k (without at ring)
  own k e = record {
    at_mark = stays k (no-mark k place r.at_mark) ∙ r.at_mark;
    seg = take-out (next s.nodes.items) (next t.nodes.items) (prev s.nodes.items) (prev t.nodes.items) at (record { next = L.next_is; prev = L.prev_is }) k ring k r.seg r.once (mark-lacks s R place k e) (mark-lacks s R place k e) stood.there;
    once = without-apart at ring r.once;
    each = λ y got. by y (at == y) refl (sym (has-without at y ring r.once) ∙ got);
  }
    where
      r : IsRing s place k ring
      r = R.rings place k e

      by : (y : ℕ) (b : Bool) → (at == y) ≡ b → cond b false (has y ring) ≡ true → (i : Inst) × (g y ≡ Line place i)
      by y true w f = absurd (false-true f)
      by y false w f = ((r.each y f).0, L.held_is y ∙ miss _ w ∙ (r.each y f).1)

  others : (z : Place) (k : ℕ) → mark s z ≡ Some k → same_place place z ≡ false → IsRing t z k (R.ring z)
  others z k e w = record {
    at_mark = stays k (no-mark k z q.at_mark) ∙ q.at_mark;
    seg = seg-same (next s.nodes.items) (next t.nodes.items) (prev s.nodes.items) (prev t.nodes.items) k (R.ring z) k q.seg (keep-next k (ap place_in q.at_mark)) (λ x got. keep-next x (ap place_in (q.each x got).1)) (λ x got. keep-prev x (ap place_in (q.each x got).1)) (keep-prev k (ap place_in q.at_mark));
    once = q.once;
    each = λ y got. ((q.each y got).0, stays y (elsewhere y z (ap place_in (q.each y got).1) w) ∙ (q.each y got).1);
  }
    where
      q : IsRing s z k (R.ring z)
      q = R.rings z k e

      keep-next : (x : ℕ) → place_in (h x) ≡ Some z → next t.nodes.items x ≡ next s.nodes.items x
      keep-next x f = L.next_is x (eq-other at x (elsewhere x z f w)) ∙ miss _ (eq-other (prev s.nodes.items at) x (λ c. place-not place z w (some-is (sym (before-at s R at place inst L.was) ∙ ap (λ v. place_in (h v)) c ∙ f))))

      keep-prev : (x : ℕ) → place_in (h x) ≡ Some z → prev t.nodes.items x ≡ prev s.nodes.items x
      keep-prev x f = L.prev_is x (eq-other at x (elsewhere x z f w)) ∙ miss _ (eq-other (next s.nodes.items at) x (λ c. place-not place z w (some-is (sym (after-at s R at place inst L.was) ∙ ap (λ v. place_in (h v)) c ∙ f))))

  rings_now : (z : Place) (k : ℕ) → mark t z ≡ Some k → IsRing t z k (ring_now z)
  rings_now z k e = by (same_place place z) refl
    where
      marked : mark s z ≡ Some k
      marked = sym (mark-same s t L.same z) ∙ e

      by : (b : Bool) → same_place place z ≡ b → IsRing t z k (cond b (without at (R.ring z)) (R.ring z))
      by true w = subst (λ x. IsRing t x k (without at (R.ring x))) (place-is place z w) (own k (ap (mark s) (place-is place z w) ∙ marked))
      by false w = others z k marked w

  lines_now : (y : ℕ) (z : Place) (i : Inst) → g y ≡ Line z i → IsStanding t y z i (ring_now z)
  lines_now y z i e = by (at == y) refl
    where
      in-ring : (k : ℕ) → mark s z ≡ Some k → has y (R.ring z) ≡ true → (at == y) ≡ false → has y (ring_now z) ≡ true
      in-ring k f there w = go (same_place place z)
        where
          go : (b : Bool) → has y (cond b (without at (R.ring z)) (R.ring z)) ≡ true
          go true = has-without at y (R.ring z) (R.rings z k f).once ∙ miss false w ∙ there
          go false = there

      by : (b : Bool) → (at == y) ≡ b → IsStanding t y z i (ring_now z)
      by true w = absurd (gone-line (sym (L.held_is y ∙ hit _ w) ∙ e))
      by false w =
          let st = R.lines y z i (sym (L.held_is y ∙ miss _ w) ∙ e) in
          let k = some-there (mark s z) st.marked in
          record { marked = there-some (mark t z) k.0 (mark-same s t L.same z ∙ k.1); there = in-ring k.0 k.1 st.there w; known = L.node_is i.id ∙ st.known }

  nodes_now : (id : Id) (y : ℕ) → node t id ≡ Some y → (y < length t.nodes.items) × IsOf id (g y)
  nodes_now id y e =
      let was = R.nodes id y (sym (L.node_is id) ∙ e) in
      let old = was.0 in
      let long = L.length_is in
      (omega (arith, old, long), by (at == y) refl was.1)
    where
      by : (b : Bool) → (at == y) ≡ b → IsOf id (h y) → IsOf id (g y)
      by true w of = subst (IsOf id) (sym (L.held_is y ∙ hit _ w)) tt
      by false w of = subst (IsOf id) (sym (L.held_is y ∙ miss _ w)) of

  marks_now : (y : ℕ) (z : Place) → g y ≡ Block z → mark t z ≡ Some y
  marks_now y z e = by (at == y) refl
    where
      by : (b : Bool) → (at == y) ≡ b → mark t z ≡ Some y
      by true w = absurd (gone-block (sym (L.held_is y ∙ hit _ w) ∙ e))
      by false w = mark-same s t L.same z ∙ R.marks y z (sym (L.held_is y ∙ miss _ w) ∙ e)

  pub unlinked-rings : IsRings t
  unlinked-rings = record {
    ring = ring_now;
    rings = rings_now;
    lines = lines_now;
    nodes = nodes_now;
    marks = marks_now;
    single = λ x z y e f. R.single x z y (sym (L.node_is x) ∙ e) (sym (L.node_is z) ∙ f);
  }

  pub unlinked-contents : (z : Place) → contents t z ≡ each (removing inst.id) (contents s z)
  unfolding unlinked-rings
  unlinked-contents z = by-mark (mark s z) refl
    where
      left : (y : ℕ) (q : Place) (j : Inst) → h y ≡ Line q j → (at == y) ≡ false → removing inst.id j ≡ j ∷ []
      left y q j there ne = ap (λ b. cond b [] (j ∷ [])) (only-at s R at place inst L.was y q j there ∙ ne)

      by : (k : ℕ) → mark s z ≡ Some k → (b : Bool) → same_place place z ≡ b → insts g (cond b (without at (R.ring z)) (R.ring z)) ≡ each (removing inst.id) (insts h (R.ring z))
      by k e true w =
          let r = R.rings z k e in
          insts-out h g (removing inst.id) at place inst L.was (ap (λ b. cond b [] (inst ∷ [])) (same_itself inst.id)) (R.ring z) r.once (λ y got ne.
          record { place = z; inst = (r.each y got).0; was = (r.each y got).1; is = L.held_is y ∙ miss _ ne ∙ (r.each y got).1; left = left y z (r.each y got).0 (r.each y got).1 ne })
      by k e false w = insts-same h g (removing inst.id) (R.ring z) (λ y got.
          let j = (R.rings z k e).each y got in
          let ne = elsewhere y z (ap place_in j.1) w in
          record { place = z; inst = j.0; was = j.1; is = stays y ne ∙ j.1; left = left y z j.0 j.1 (eq-other at y ne) })

      by-mark : (o : Option ℕ) → mark s z ≡ o → contents t z ≡ each (removing inst.id) (contents s z)
      by-mark None e = contents-none t unlinked-rings z (mark-same s t L.same z ∙ e) ∙ ap (each (removing inst.id)) (sym (contents-none s R z e))
      by-mark (Some k) e = contents-is t unlinked-rings z k (mark-same s t L.same z ∙ e) ∙ by k e (same_place place z) refl ∙ ap (each (removing inst.id)) (sym (contents-is s R z k e))

  -- ---- and back

  pub no-loop : at ≡ next s.nodes.items at → ⊥
  no-loop e = by (some-there (mark s place) stood.marked)
    where
      by : (k : ℕ) × (mark s place ≡ Some k) → ⊥
      by k =
          let r = R.rings place k.0 k.1 in
          loops (next s.nodes.items) (prev s.nodes.items) k.0 ring k.0 at r.seg r.once (mark-lacks s R place k.0 k.1) stood.there (sym e)

  frame-back : SameFrame t s
  frame-back = record { frame = sym L.same.frame; funcs = sym L.same.funcs; params = sym L.same.params; marks = sym L.same.marks }

  -- put before what stood after it, it is where it was
  back-in : length t.nodes.items ≤ length s.nodes.items → LinkedIn t s at (next s.nodes.items at) place inst
  back-in long = record {
    same = frame-back;
    node_is = λ id. sym (L.node_is id);
    length_is = long;
    next_is = λ x. next-back x (at == x) refl;
    prev_is = λ x. prev-back x (next s.nodes.items at == x) refl;
    held_is = λ x. held-back x (at == x) refl;
    place_is = ap place_in (stays (next s.nodes.items at) no-loop) ∙ after-at s R at place inst L.was;
    gone = L.held_is at ∙ hit _ (eq-itself at);
    known = L.node_is inst.id ∙ stood.known;
  }
    where
      before : prev t.nodes.items (next s.nodes.items at) ≡ prev s.nodes.items at
      before = L.prev_is (next s.nodes.items at) (eq-other at (next s.nodes.items at) no-loop) ∙ hit _ (eq-itself (next s.nodes.items at))

      next-back : (x : ℕ) (b : Bool) → (at == x) ≡ b → next s.nodes.items x ≡ cond (prev t.nodes.items (next s.nodes.items at) == x) at (cond b (next s.nodes.items at) (next t.nodes.items x))
      next-back x b w = by (prev s.nodes.items at == x) refl b w
        where
          at-prev : (c : Bool) → (prev s.nodes.items at == x) ≡ c → (prev t.nodes.items (next s.nodes.items at) == x) ≡ c
          at-prev c e = ap (λ v. v == x) before ∙ e

          by : (c : Bool) → (prev s.nodes.items at == x) ≡ c → (d : Bool) → (at == x) ≡ d → next s.nodes.items x ≡ cond (prev t.nodes.items (next s.nodes.items at) == x) at (cond d (next s.nodes.items at) (next t.nodes.items x))
          by true e d f = ap (next s.nodes.items) (sym (eq-is (prev s.nodes.items at) x e)) ∙ named-before s R at place inst L.was ∙ sym (hit _ (at-prev true e))
          by false e true f = ap (next s.nodes.items) (sym (eq-is at x f)) ∙ sym (miss at (at-prev false e))
          by false e false f = sym (miss at (at-prev false e) ∙ L.next_is x f ∙ miss _ e)

      prev-back : (x : ℕ) (b : Bool) → (next s.nodes.items at == x) ≡ b → prev s.nodes.items x ≡ cond b at (cond (at == x) (prev t.nodes.items (next s.nodes.items at)) (prev t.nodes.items x))
      prev-back x true e = ap (prev s.nodes.items) (sym (eq-is (next s.nodes.items at) x e)) ∙ named-after s R at place inst L.was
      prev-back x false e = by (at == x) refl
        where
          by : (d : Bool) → (at == x) ≡ d → prev s.nodes.items x ≡ cond d (prev t.nodes.items (next s.nodes.items at)) (prev t.nodes.items x)
          by true f = ap (prev s.nodes.items) (sym (eq-is at x f)) ∙ sym before
          by false f = sym (L.prev_is x f ∙ miss _ e)

      held-back : (x : ℕ) (b : Bool) → (at == x) ≡ b → h x ≡ cond b (Line place inst) (g x)
      held-back x true e = ap h (sym (eq-is at x e)) ∙ L.was
      held-back x false e = sym (L.held_is x ∙ miss _ e)

  pub unlinked-back : length t.nodes.items ≤ length s.nodes.items → (before : Before) → before_in (h (next s.nodes.items at)) ≡ Some before → (z : Place) → coming before inst z (contents t z) ≡ contents s z
  unlinked-back long before is z = sym (linked-contents t s at (next s.nodes.items at) place inst unlinked-rings (back-in long) before (ap before_in (stays (next s.nodes.items at) no-loop) ∙ is) z)
