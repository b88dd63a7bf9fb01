-- A block that gets its mark is empty, and all others stay.
use Rattle.std.proofs.Common.{◌≡◌, refl, sym, ap, ◌∙◌, subst, ℕ, ◌≤◌, ◌<◌, ◌==◌, Bool, true, false, Option, None, Some, IsSome, is_some, List, [], ◌∷◌, ◌++◌, length, cond, option_map, arith}
use Rattle.std.proofs.lemmas.List.{append_assoc}
use Rattle.ir_types.specs.declared.id.Id.{Id}
use Rattle.ir_types.specs.declared.id.Place.{Place}
use Rattle.ir_types.specs.declared.inst.Inst.{Inst}
use Rattle.vx_view.specs.Answers.{either}
use Rattle.vx_view.specs.Views.{same_place}
use Rattle.sb_lines.specs.declared.nodes.Held.TheVariants.{Block, Line, Gone}
use Rattle.sb_lines.specs.declared.arena.Arena.{Arena}
use Rattle.sb_lines.specs.Nodes.{held, next, prev}
use Rattle.sb_lines.specs.Arena.{mark, node, contents}
use Rattle.sb_lines.specs.Whole.{has, IsRing, IsStanding, IsOf, IsRings}
use Rattle.sb_lines.specs.Steps.{SameFrame}
use Rattle.sb_lines.specs.Lifting.{shown}
use Rattle.sb_lines.proofs.Rings.{false-true, eq-is, eq-itself, eq-other, hit, miss, seg-same}
use Rattle.sb_lines.proofs.Walks.{insts, insts-kept}
use Rattle.sb_lines.proofs.Standing.{place-is, place-itself, none-some, some-is, gone-line, gone-block, block-line, contents-is, in-bounds, some-there, there-some, mark-same}

block-place : {p q : Place} → Block p ≡ Block q → p ≡ q
block-place h = cc

-- what the writes leave that give a block its mark
pub record OpenedAt (s t : Arena) (place : Place) : Type 0 where
  pub none : mark s place ≡ None
  pub mark_is : (q : Place) → mark t q ≡ cond (same_place place q) (Some (length s.nodes.items)) (mark s q)
  pub node_is : (id : Id) → node t id ≡ node s id
  pub length_is : length s.nodes.items ≤ length t.nodes.items
  pub next_is : (x : ℕ) → next t.nodes.items x ≡ cond (length s.nodes.items == x) (length s.nodes.items) (next s.nodes.items x)
  pub prev_is : (x : ℕ) → prev t.nodes.items x ≡ cond (length s.nodes.items == x) (length s.nodes.items) (prev s.nodes.items x)
  pub held_is : (x : ℕ) → held t.nodes.items x ≡ cond (length s.nodes.items == x) (Block place) (held s.nodes.items x)

module _ (s t : Arena) (place : Place) (R : IsRings s) (O : OpenedAt s t place) where
  abbrev new : ℕ
  new = length s.nodes.items

  -- what holds something is not the new node
  old : (y : ℕ) → (held s.nodes.items y ≡ Gone → ⊥) → new ≡ y → ⊥
  old y n e =
      let fits = in-bounds s.nodes.items y n in
      omega (arith, fits, e)

  stays : (y : ℕ) → (held s.nodes.items y ≡ Gone → ⊥) → held t.nodes.items y ≡ held s.nodes.items y
  stays y n = O.held_is y ∙ miss _ (eq-other new y (old y n))

  no-line : (y : ℕ) (z : Place) (i : Inst) → held s.nodes.items y ≡ Line z i → held s.nodes.items y ≡ Gone → ⊥
  no-line y z i e g = gone-line (sym g ∙ e)

  no-block : (y : ℕ) (z : Place) → held s.nodes.items y ≡ Block z → held s.nodes.items y ≡ Gone → ⊥
  no-block y z e g = gone-block (sym g ∙ e)

  abbrev ring_now : Place → List ℕ
  ring_now z = cond (same_place place z) [] (R.ring z)

  other : (z : Place) (m : ℕ) → mark s z ≡ Some m → same_place place z ≡ false
  other z m e = by (same_place place z) refl
    where
      by : (b : Bool) → same_place place z ≡ b → b ≡ false
      by true w = absurd (none-some (sym O.none ∙ ap (mark s) (place-is place z w) ∙ e))
      by false w = refl

  mark-old : (z : Place) (m : ℕ) → mark s z ≡ Some m → mark t z ≡ Some m
  mark-old z m e = O.mark_is z ∙ miss _ (other z m e) ∙ e

  own : IsRing t place new []
  own = record {
    at_mark = O.held_is new ∙ hit _ (eq-itself new);
    seg = (O.next_is new ∙ hit _ (eq-itself new), O.prev_is new ∙ hit _ (eq-itself new));
    once = tt;
    each = λ y got. absurd (false-true got);
  }

  others : (z : Place) (k : ℕ) → mark s z ≡ Some k → IsRing t z k (R.ring z)
  others z k e = record {
    at_mark = stays k (no-block k z r.at_mark) ∙ r.at_mark;
    seg = seg-same (next s.nodes.items) (next t.nodes.items) (prev s.nodes.items) (prev t.nodes.items) k (R.ring z) k r.seg
        (O.next_is k ∙ miss _ (eq-other new k (old k (no-block k z r.at_mark))))
        (λ x got. O.next_is x ∙ miss _ (eq-other new x (old x (no-line x z (r.each x got).0 (r.each x got).1))))
        (λ x got. O.prev_is x ∙ miss _ (eq-other new x (old x (no-line x z (r.each x got).0 (r.each x got).1))))
        (O.prev_is k ∙ miss _ (eq-other new k (old k (no-block k z r.at_mark))));
    once = r.once;
    each = λ y got. ((r.each y got).0, stays y (no-line y z (r.each y got).0 (r.each y got).1) ∙ (r.each y got).1);
  }
    where
      r : IsRing s z k (R.ring z)
      r = R.rings z k e

  rings_now : (z : Place) (k : ℕ) → mark t z ≡ Some k → IsRing t z k (ring_now z)
  rings_now z k e = by (same_place place z) refl (sym (O.mark_is z) ∙ e)
    where
      by : (b : Bool) → same_place place z ≡ b → cond b (Some new) (mark s z) ≡ Some k → IsRing t z k (cond b [] (R.ring z))
      by true w f = subst (λ x. IsRing t x k []) (place-is place z w) (subst (λ x. IsRing t place x []) (some-is f) own)
      by false w f = others z k f

  lines_now : (y : ℕ) (z : Place) (i : Inst) → held t.nodes.items y ≡ Line z i → IsStanding t y z i (ring_now z)
  lines_now y z i e = by (new == y) refl (sym (O.held_is y) ∙ e)
    where
      by : (b : Bool) → (new == y) ≡ b → cond b (Block place) (held s.nodes.items y) ≡ Line z i → IsStanding t y z i (ring_now z)
      by true w f = absurd (block-line f)
      by false w f =
          let st = R.lines y z i f in
          let m = some-there (mark s z) st.marked in
          record { marked = there-some (mark t z) m.0 (mark-old z m.0 m.1); there = ap (has y) (miss [] (other z m.0 m.1)) ∙ st.there; known = O.node_is i.id ∙ st.known }

  nodes_now : (id : Id) (y : ℕ) → node t id ≡ Some y → (y < length t.nodes.items) × IsOf id (held t.nodes.items y)
  nodes_now id y e =
      let was = R.nodes id y (sym (O.node_is id) ∙ e) in
      let small = was.0 in
      let long = O.length_is in
      (omega (arith, small, long), subst (IsOf id) (sym (O.held_is y ∙ miss _ (eq-other new y (further small)))) was.1)
    where
      further : y < new → new ≡ y → ⊥
      further lt f = omega (arith, lt, f)

  marks_now : (y : ℕ) (z : Place) → held t.nodes.items y ≡ Block z → mark t z ≡ Some y
  marks_now y z e = by (new == y) refl (sym (O.held_is y) ∙ e)
    where
      by : (b : Bool) → (new == y) ≡ b → cond b (Block place) (held s.nodes.items y) ≡ Block z → mark t z ≡ Some y
      by true w f = O.mark_is z ∙ hit _ (subst (λ x. same_place place x ≡ true) (block-place f) (place-itself place)) ∙ ap Some (eq-is new y w)
      by false w f = mark-old z y (R.marks y z f)

  pub opened-rings : IsRings t
  opened-rings = record {
    ring = ring_now;
    rings = rings_now;
    lines = lines_now;
    nodes = nodes_now;
    marks = marks_now;
    single = λ x z y e f. R.single x z y (sym (O.node_is x) ∙ e) (sym (O.node_is z) ∙ f);
  }

  pub opened-shown : (q : Place) → shown t q ≡ cond (same_place place q) (Some []) (shown s q)
  unfolding opened-rings
  opened-shown q = by (same_place place q) refl (mark s q) refl
    where
      by : (b : Bool) → same_place place q ≡ b → (o : Option ℕ) → mark s q ≡ o → shown t q ≡ cond b (Some []) (shown s q)
      by true w o e =
          let marked : mark t q ≡ Some new = O.mark_is q ∙ hit _ w in
          ap (option_map (λ (m : ℕ). contents t q)) marked ∙ ap Some (contents-is t opened-rings q new marked ∙ ap (insts (held t.nodes.items)) (hit (R.ring q) w))
      by false w None e = ap (option_map (λ (m : ℕ). contents t q)) (O.mark_is q ∙ miss _ w ∙ e) ∙ sym (ap (option_map (λ (m : ℕ). contents s q)) e)
      by false w (Some m) e =
          let marked : mark t q ≡ Some m = mark-old q m e in
          let r = R.rings q m e in
          ap (option_map (λ (k : ℕ). contents t q)) marked
          ∙ ap Some (contents-is t opened-rings q m marked ∙ ap (insts (held t.nodes.items)) (miss [] w)
          ∙ insts-kept (held s.nodes.items) (held t.nodes.items) (R.ring q) (λ y got. stays y (no-line y q (r.each y got).0 (r.each y got).1))
          ∙ sym (contents-is s R q m e))
          ∙ sym (ap (option_map (λ (k : ℕ). contents s q)) e)

-- ---- instructions at the end of a block

pub shown-by : (s t : Arena) (q : Place) → mark t q ≡ mark s q → contents t q ≡ contents s q → shown t q ≡ shown s q
shown-by s t q e f = ap (λ l. option_map (λ (m : ℕ). l) (mark t q)) f ∙ ap (option_map (λ (m : ℕ). contents s q)) e

marked-as : (o : Option ℕ) (l r : List Inst) → option_map (λ (m : ℕ). l) o ≡ Some r → l ≡ r
marked-as None l r e = absurd (none-some e)
marked-as (Some m) l r e = some-is e

shown-as : (o : Option ℕ) (l r : List Inst) → IsSome o → l ≡ r → option_map (λ (m : ℕ). l) o ≡ Some r
shown-as None l r n e = absurd (false-true n)
shown-as (Some m) l r n e = ap Some e

shown-marked : (o : Option ℕ) (l r : List Inst) → option_map (λ (m : ℕ). l) o ≡ Some r → IsSome o
shown-marked None l r e = absurd (none-some e)
shown-marked (Some m) l r e = refl

-- a block has a mark where something is shown
pub marked-here : (s t : Arena) (place : Place) → shown t place ≡ cond (same_place place place) (Some []) (shown s place) → IsSome (mark t place)
marked-here s t place e = shown-marked (mark t place) (contents t place) [] (e ∙ hit _ (place-itself place))

-- a block that was opened, and got its instructions
pub block-shown : (s u t : Arena) (place : Place) (is : List Inst) → ((q : Place) → shown u q ≡ cond (same_place place q) (Some []) (shown s q)) → SameFrame u t → ((q : Place) → contents t q ≡ cond (same_place place q) (contents u q ++ is) (contents u q)) → (q : Place) → shown t q ≡ cond (same_place place q) (Some is) (shown s q)
block-shown s u t place is opened same came q = by (same_place place q) refl
  where
    by : (b : Bool) → same_place place q ≡ b → shown t q ≡ cond b (Some is) (shown s q)
    by true w =
        let here : shown u q ≡ Some [] = opened q ∙ hit _ w in
        shown-as (mark t q) (contents t q) is (subst IsSome (sym (mark-same u t same q)) (shown-marked (mark u q) (contents u q) [] here))
        (came q ∙ hit _ w ∙ ap (λ l. l ++ is) (marked-as (mark u q) (contents u q) [] here))
    by false w = shown-by u t q (mark-same u t same q) (came q ∙ miss _ w) ∙ opened q ∙ miss _ w

-- an instruction more
pub inst-step : (b : Bool) (l r : List Inst) (i : Inst) (rest : List Inst) → r ≡ cond b (l ++ i ∷ []) l → cond b (r ++ rest) r ≡ cond b (l ++ i ∷ rest) l
inst-step true l r i rest e = ap (λ x. x ++ rest) e ∙ append_assoc l (i ∷ []) rest
inst-step false l r i rest e = e

-- a block more
pub block-step : (b : Bool) (x y z : Option (List Inst)) (is : List Inst) → y ≡ cond b (Some is) z → either x y ≡ either (either x (cond b (Some is) None)) z
block-step b None y z is e = e ∙ by b
  where
    by : (c : Bool) → cond c (Some is) z ≡ either (cond c (Some is) None) z
    by true = refl
    by false = refl
block-step b (Some x) y z is e = refl

-- ---- no block

pub not-some : {A : Type 0} (o : Option A) → is_some o ≡ false → o ≡ None
not-some None e = refl
not-some (Some x) e = absurd (false-true (sym e))

pub no-rings : (a : Arena) → a.nodes.items ≡ [] → ((q : Place) → mark a q ≡ None) → ((id : Id) → node a id ≡ None) → IsRings a
no-rings a none unmarked unknown = record {
  ring = λ q. [];
  rings = λ q m e. absurd (none-some (sym (unmarked q) ∙ e));
  lines = λ y q i e. absurd (gone-line (sym (ap (λ ns. held ns y) none) ∙ e));
  nodes = λ id y e. absurd (none-some (sym (unknown id) ∙ e));
  marks = λ y q e. absurd (gone-block (sym (ap (λ ns. held ns y) none) ∙ e));
  single = λ x z y e f. absurd (none-some (sym (unknown x) ∙ e));
}
