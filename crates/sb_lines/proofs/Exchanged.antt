-- An instruction in the place of another with its id, and what leaves all nodes as they were.
use Rattle.std.proofs.Common.{◌≡◌, refl, sym, ap, ◌∙◌, subst, ℕ, suc, ◌≤◌, ◌<◌, ◌==◌, Bool, true, false, Option, None, Some, [], ◌∷◌, length, cond, arith}
use Rattle.ir_types.specs.declared.id.Id.{Id}
use Rattle.ir_types.specs.declared.id.Place.{Place}
use Rattle.ir_types.specs.declared.inst.Inst.{Inst}
use Rattle.ir_types.specs.Available.{same_id}
use Rattle.ir_types.proofs.Among.{same_is}
use Rattle.vx_view.specs.Changes.{Edit, each}
use Rattle.sb_lines.specs.declared.nodes.Held.{Held}
use Rattle.sb_lines.specs.declared.nodes.Held.TheVariants.{Block, Line, Gone}
use Rattle.sb_lines.specs.declared.arena.Arena.{Arena}
use Rattle.sb_lines.specs.Nodes.{held, next, prev}
use Rattle.sb_lines.specs.Arena.{mark, node, contents}
use Rattle.sb_lines.specs.Whole.{has, IsRing, IsStanding, IsOf, IsRings}
use Rattle.sb_lines.specs.Steps.{SameFrame, IsKept}
use Rattle.sb_lines.proofs.Rings.{eq-is, eq-itself, eq-other, hit, miss, seg-same}
use Rattle.sb_lines.proofs.Walks.{insts, insts-same, insts-set, insts-kept}
use Rattle.sb_lines.proofs.Standing.{none-some, some-is, line-place, line-inst, gone-line, block-line, gone-block, contents-is, contents-none, only-at, mark-same, some-there, there-some, in-bounds}

-- what a write leaves that puts an instruction into the node of another
pub record ExchangedAt (s t : Arena) (at : ℕ) (place : Place) (i j : Inst) : Type 0 where
  pub same : SameFrame s t
  pub node_is : (id : Id) → node t id ≡ node s id
  pub length_is : length s.nodes.items ≤ length t.nodes.items
  pub next_is : (x : ℕ) → next t.nodes.items x ≡ next s.nodes.items x
  pub prev_is : (x : ℕ) → prev t.nodes.items x ≡ prev s.nodes.items x
  pub held_is : (x : ℕ) → held t.nodes.items x ≡ cond (at == x) (Line place j) (held s.nodes.items x)
  pub was : held s.nodes.items at ≡ Line place i
  pub one_id : j.id ≡ i.id

module _ (s t : Arena) (at : ℕ) (place : Place) (i j : Inst) (R : IsRings s) (L : ExchangedAt s t at place i j) where
  abbrev h : ℕ → Held
  h = held s.nodes.items

  abbrev g : ℕ → Held
  g = held t.nodes.items

  -- each line is one of the same block
  line-now : (y : ℕ) (z : Place) (k : Inst) → h y ≡ Line z k → (l : Inst) × (g y ≡ Line z l)
  line-now y z k e = by (at == y) refl
    where
      by : (b : Bool) → (at == y) ≡ b → (l : Inst) × (g y ≡ Line z l)
      by true w = (j, L.held_is y ∙ hit _ w ∙ ap (λ x. Line x j) (line-place (sym L.was ∙ ap h (eq-is at y w) ∙ e)))
      by false w = (k, L.held_is y ∙ miss _ w ∙ e)

  rings_now : (z : Place) (k : ℕ) → mark t z ≡ Some k → IsRing t z k (R.ring z)
  rings_now z k e = record {
    at_mark = L.held_is k ∙ miss _ (eq-other at k (λ f. block-line (sym r.at_mark ∙ ap h (sym f) ∙ L.was))) ∙ r.at_mark;
    seg = seg-same (next s.nodes.items) (next t.nodes.items) (prev s.nodes.items) (prev t.nodes.items) k (R.ring z) k r.seg (L.next_is k) (λ x _. L.next_is x) (λ x _. L.prev_is x) (L.prev_is k);
    once = r.once;
    each = λ y got. line-now y z (r.each y got).0 (r.each y got).1;
  }
    where
      r : IsRing s z k (R.ring z)
      r = R.rings z k (sym (mark-same s t L.same z) ∙ e)

  standing-now : (y : ℕ) (z : Place) (k l : Inst) → IsStanding s y z k (R.ring z) → l.id ≡ k.id → IsStanding t y z l (R.ring z)
  standing-now y z k l st e =
      let m = some-there (mark s z) st.marked in
      record { marked = there-some (mark t z) m.0 (mark-same s t L.same z ∙ m.1); there = st.there; known = L.node_is l.id ∙ ap (node s) e ∙ st.known }

  lines_now : (y : ℕ) (z : Place) (k : Inst) → g y ≡ Line z k → IsStanding t y z k (R.ring z)
  lines_now y z k e = by (at == y) refl
    where
      by : (b : Bool) → (at == y) ≡ b → IsStanding t y z k (R.ring z)
      by true w =
          let is : Line place j ≡ Line z k = sym (L.held_is y ∙ hit _ w) ∙ e in
          subst (λ x. IsStanding t y x k (R.ring x)) (line-place is)
          (subst (λ l. IsStanding t y place l (R.ring place)) (line-inst is)
          (subst (λ v. IsStanding t v place j (R.ring place)) (eq-is at y w) (standing-now at place i j (R.lines at place i L.was) L.one_id)))
      by false w = standing-now y z k k (R.lines y z k (sym (L.held_is y ∙ miss _ w) ∙ e)) refl

  nodes_now : (id : Id) (y : ℕ) → node t id ≡ Some y → (y < length t.nodes.items) × IsOf id (g y)
  nodes_now id y e =
      let was = R.nodes id y (sym (L.node_is id) ∙ e) in
      let old = was.0 in
      let long = L.length_is in
      (omega (arith, old, long), by (at == y) refl was.1)
    where
      by : (b : Bool) → (at == y) ≡ b → IsOf id (h y) → IsOf id (g y)
      by true w of = subst (IsOf id) (sym (L.held_is y ∙ hit _ w)) (L.one_id ∙ subst (IsOf id) (ap h (sym (eq-is at y w)) ∙ L.was) of)
      by false w of = subst (IsOf id) (sym (L.held_is y ∙ miss _ w)) of

  marks_now : (y : ℕ) (z : Place) → g y ≡ Block z → mark t z ≡ Some y
  marks_now y z e = by (at == y) refl
    where
      by : (b : Bool) → (at == y) ≡ b → mark t z ≡ Some y
      by true w = absurd (block-line (sym e ∙ L.held_is y ∙ hit _ w))
      by false w = mark-same s t L.same z ∙ R.marks y z (sym (L.held_is y ∙ miss _ w) ∙ e)

  pub exchanged-rings : IsRings t
  exchanged-rings = record {
    ring = R.ring;
    rings = rings_now;
    lines = lines_now;
    nodes = nodes_now;
    marks = marks_now;
    single = λ x z y e f. R.single x z y (sym (L.node_is x) ∙ e) (sym (L.node_is z) ∙ f);
  }

  -- what edits that one instruction alone makes of a block
  pub exchanged-contents : (F : Edit) → F i ≡ j ∷ [] → ((k : Inst) → same_id k.id i.id ≡ false → F k ≡ k ∷ []) → (z : Place) → contents t z ≡ each F (contents s z)
  unfolding exchanged-rings
  exchanged-contents F set left z = by-mark (mark s z) refl
    where
      others : (k : ℕ) (e : mark s z ≡ Some k) (y : ℕ) → has y (R.ring z) ≡ true → (at == y) ≡ false → Rattle.sb_lines.proofs.Walks.IsKept h g F y
      others k e y got ne =
          let l = (R.rings z k e).each y got in
          record { place = z; inst = l.0; was = l.1; is = L.held_is y ∙ miss _ ne ∙ l.1; left = left l.0 (only-at s R at place i L.was y z l.0 l.1 ∙ ne) }

      by : (k : ℕ) → mark s z ≡ Some k → insts g (R.ring z) ≡ each F (insts h (R.ring z))
      by k e = insts-set h g F at place i j L.was (L.held_is at ∙ hit _ (eq-itself at)) set (R.ring z) (R.rings z k e).once (others k e)

      by-mark : (o : Option ℕ) → mark s z ≡ o → contents t z ≡ each F (contents s z)
      by-mark None e = contents-none t exchanged-rings z (mark-same s t L.same z ∙ e) ∙ ap (each F) (sym (contents-none s R z e))
      by-mark (Some k) e = contents-is t exchanged-rings z k (mark-same s t L.same z ∙ e) ∙ by k e ∙ ap (each F) (sym (contents-is s R z k e))

-- ---- all nodes as they were, and perhaps one more

-- each id has the node that it had, or a new one that holds nothing
pub record NodesGrew (s t : Arena) : Type 0 where
  pub old : (id : Id) (y : ℕ) → node s id ≡ Some y → node t id ≡ Some y
  pub all : (id : Id) (y : ℕ) → node t id ≡ Some y → (y < length t.nodes.items) × IsOf id (held t.nodes.items y)
  pub single : (x z : Id) (y : ℕ) → node t x ≡ Some y → node t z ≡ Some y → x ≡ z

module _ (s t : Arena) (R : IsRings s) (K : IsKept s t) (G : NodesGrew s t) where
  kept-ring : (z : Place) (k : ℕ) → mark t z ≡ Some k → IsRing t z k (R.ring z)
  kept-ring z k e = record {
    at_mark = K.held_is k ∙ r.at_mark;
    seg = seg-same (next s.nodes.items) (next t.nodes.items) (prev s.nodes.items) (prev t.nodes.items) k (R.ring z) k r.seg (K.next_is k) (λ x _. K.next_is x) (λ x _. K.prev_is x) (K.prev_is k);
    once = r.once;
    each = λ y got. ((r.each y got).0, K.held_is y ∙ (r.each y got).1);
  }
    where
      r : IsRing s z k (R.ring z)
      r = R.rings z k (sym (mark-same s t K.same z) ∙ e)

  kept-line : (y : ℕ) (z : Place) (i : Inst) → held t.nodes.items y ≡ Line z i → IsStanding t y z i (R.ring z)
  kept-line y z i e =
      let st = R.lines y z i (sym (K.held_is y) ∙ e) in
      let m = some-there (mark s z) st.marked in
      record { marked = there-some (mark t z) m.0 (mark-same s t K.same z ∙ m.1); there = st.there; known = G.old i.id y st.known }

  pub kept-rings : IsRings t
  kept-rings = record {
    ring = R.ring;
    rings = kept-ring;
    lines = kept-line;
    nodes = G.all;
    marks = λ y z e. mark-same s t K.same z ∙ R.marks y z (sym (K.held_is y) ∙ e);
    single = G.single;
  }

  pub kept-contents : (z : Place) → contents t z ≡ contents s z
  unfolding kept-rings
  kept-contents z = by-mark (mark s z) refl
    where
      by-mark : (o : Option ℕ) → mark s z ≡ o → contents t z ≡ contents s z
      by-mark None e = contents-none t kept-rings z (mark-same s t K.same z ∙ e) ∙ sym (contents-none s R z e)
      by-mark (Some k) e =
          contents-is t kept-rings z k (mark-same s t K.same z ∙ e)
          ∙ insts-kept (held s.nodes.items) (held t.nodes.items) (R.ring z) (λ y _. K.held_is y)
          ∙ sym (contents-is s R z k e)

-- no id got a node
pub no-new : (s t : Arena) → IsRings s → IsKept s t → ((id : Id) → node t id ≡ node s id) → NodesGrew s t
no-new s t R K e = record {
  old = λ id y f. e id ∙ f;
  all = λ id y f. all id y (R.nodes id y (sym (e id) ∙ f));
  single = λ x z y f g. R.single x z y (sym (e x) ∙ f) (sym (e z) ∙ g);
}
  where
    all : (id : Id) (y : ℕ) → (y < length s.nodes.items) × IsOf id (held s.nodes.items y) → (y < length t.nodes.items) × IsOf id (held t.nodes.items y)
    all id y was =
        let old = was.0 in
        let long = K.length_is in
        (omega (arith, old, long), subst (IsOf id) (sym (K.held_is y)) was.1)

-- one id got a node of its own
pub one-new : (s t : Arena) (id : Id) → IsRings s → IsKept s t → node s id ≡ None → length t.nodes.items ≡ suc (length s.nodes.items) → ((x : Id) → node t x ≡ cond (same_id id x) (Some (length s.nodes.items)) (node s x)) → NodesGrew s t
one-new s t id R K none long e = record {
  old = λ x y f. e x ∙ miss _ (other x y f) ∙ f;
  all = λ x y f. all x y (same_id id x) refl f;
  single = λ x z y f g. single x z y (same_id id x) (same_id id z) refl refl f g;
}
  where
    other : (x : Id) (y : ℕ) → node s x ≡ Some y → same_id id x ≡ false
    other x y f = by (same_id id x) refl
      where
        by : (b : Bool) → same_id id x ≡ b → b ≡ false
        by true w = absurd (none-some (sym none ∙ ap (node s) (same_is id x w) ∙ f))
        by false w = refl

    was : (x : Id) (y : ℕ) → same_id id x ≡ false → node t x ≡ Some y → node s x ≡ Some y
    was x y w f = sym (miss _ w) ∙ sym (e x) ∙ f

    here : (x : Id) (y : ℕ) → same_id id x ≡ true → node t x ≡ Some y → length s.nodes.items ≡ y
    here x y w f = some-is (sym (hit _ w) ∙ sym (e x) ∙ f)

    nothing : (y : ℕ) → length s.nodes.items ≡ y → (x : Held) → held s.nodes.items y ≡ x → x ≡ Gone
    nothing y f Gone w = refl
    nothing y f (Line p i) w =
        let small = in-bounds s.nodes.items y (λ g. gone-line (sym g ∙ w)) in
        absurd (omega (arith, small, f))
    nothing y f (Block p) w =
        let small = in-bounds s.nodes.items y (λ g. gone-block (sym g ∙ w)) in
        absurd (omega (arith, small, f))

    all : (x : Id) (y : ℕ) (b : Bool) → same_id id x ≡ b → node t x ≡ Some y → (y < length t.nodes.items) × IsOf x (held t.nodes.items y)
    all x y true w f =
        let is = here x y w f in
        (omega (arith, is, long), subst (IsOf x) (sym (K.held_is y ∙ nothing y is (held s.nodes.items y) refl)) tt)
    all x y false w f =
        let before = R.nodes x y (was x y w f) in
        let old = before.0 in
        (omega (arith, old, long), subst (IsOf x) (sym (K.held_is y)) before.1)

    bounded : (x : Id) (y : ℕ) → node s x ≡ Some y → length s.nodes.items ≡ y → ⊥
    bounded x y f is =
        let small = (R.nodes x y f).0 in
        omega (arith, small, is)

    single : (x z : Id) (y : ℕ) (b c : Bool) → same_id id x ≡ b → same_id id z ≡ c → node t x ≡ Some y → node t z ≡ Some y → x ≡ z
    single x z y true true v w f g = sym (same_is id x v) ∙ same_is id z w
    single x z y true false v w f g = absurd (bounded z y (was z y w g) (here x y v f))
    single x z y false true v w f g = absurd (bounded x y (was x y v f) (here z y w g))
    single x z y false false v w f g = R.single x z y (was x y v f) (was z y w g)
