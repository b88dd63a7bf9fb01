-- From the writes of a change to what it leaves.
use Rattle.std.proofs.Common.{◌≡◌, refl, sym, ap, ◌∙◌, subst, ℕ, zero, suc, ◌+◌, ◌≤◌, ◌<◌, ◌==◌, Bool, true, false, Option, None, Some, IsSome, is_some, List, [], ◌∷◌, length, cond, arith, option_and_then, slice_set, slice_get}
use Rattle.std.specs.Global.{Vec}
use Rattle.ir_types.specs.declared.id.Id.{Id}
use Rattle.ir_types.specs.declared.id.Place.{Place}
use Rattle.ir_types.specs.declared.opd.Opd.{Opd}
use Rattle.ir_types.specs.declared.inst.Inst.{Inst}
use Rattle.ir_types.specs.Available.{same_id}
use Rattle.ir_types.proofs.Among.{same_itself}
use Rattle.vx_view.specs.Changes.{Edit, each, putting, setting, with_operand, removing}
use Rattle.sb_lines.specs.declared.nodes.Held.{Held}
use Rattle.sb_lines.specs.declared.nodes.Held.TheVariants.{Block, Line, Gone}
use Rattle.sb_lines.specs.declared.nodes.Node.{Node}
use Rattle.sb_lines.specs.declared.spot.Before.{Before}
use Rattle.sb_lines.specs.declared.arena.Arena.{Arena}
use Rattle.sb_lines.specs.Nodes.{held, next, prev, IsLinked, IsUnlinked}
use Rattle.sb_lines.specs.Arena.{node, knows, Keeps, contents, standing, told_held, place_in, place_held, before_in, before_held}
use Rattle.sb_lines.specs.Whole.{IsOf, IsRings}
use Rattle.sb_lines.specs.Steps.{SameFrame, IsKept, HasPlace, coming, told_operand}
use Rattle.sb_lines.proofs.Rings.{false-true, eq-is, eq-itself, eq-other, hit, miss}
use Rattle.sb_lines.proofs.Standing.{some-is, none-some, in-bounds, gone-line, gone-block, there-some}
use Rattle.sb_lines.proofs.Linked.{LinkedIn, spot-prev, spot-named, linked-rings, linked-contents}
use Rattle.sb_lines.proofs.Unlinked.{UnlinkedFrom, before-at, after-at, no-loop, unlinked-rings, unlinked-contents, unlinked-back}
use Rattle.sb_lines.proofs.Exchanged.{ExchangedAt, exchanged-rings, exchanged-contents, NodesGrew, one-new, kept-rings, kept-contents}
use Rattle.sb_lines.proofs.Stood.{StandsAt, stands, place-bound, place-before, standing-own, standing-kept}

-- the arena with other nodes
abbrev pub with_nodes : Arena → Vec Node → Arena
with_nodes s ns = record { frame = s.frame; funcs = s.funcs; params = s.params; nodes = ns; marks = s.marks; table = s.table }

same-frame : (s : Arena) (ns : Vec Node) → SameFrame s (with_nodes s ns)
same-frame s ns = record { frame = refl; funcs = refl; params = refl; marks = refl }

long : {m n : ℕ} → n ≡ m → m ≤ n
long e = omega (arith, e)

pub more : {m n : ℕ} → n ≡ m + 1 → m ≤ n
more e = omega (arith, e)

short : {m n : ℕ} → n ≡ m → n ≤ m
short e = omega (arith, e)

-- what one write of an instruction leaves
pub record Wrote (s : Arena) (ns : Vec Node) (at : ℕ) (what : Held) : Type 0 where
  pub next : (x : ℕ) → next ns.items x ≡ next s.nodes.items x
  pub prev : (x : ℕ) → prev ns.items x ≡ prev s.nodes.items x
  pub held : (x : ℕ) → held ns.items x ≡ cond (at == x) what (held s.nodes.items x)
  pub length : length ns.items ≡ length s.nodes.items

module _ (s : Arena) (ns : Vec Node) (R : IsRings s) (id : Id) (at : ℕ) (known : node s id ≡ Some at) where
  held-id : (place : Place) (i : Inst) → held s.nodes.items at ≡ Line place i → i.id ≡ id
  held-id place i is = subst (IsOf id) is (R.nodes id at known).1

  -- ---- an instruction in the place of another

  pub exchange : (place : Place) (i j : Inst) → held s.nodes.items at ≡ Line place i → j.id ≡ id → Wrote s ns at (Line place j) → ExchangedAt s (with_nodes s ns) at place i j
  exchange place i j is one W = record {
    same = same-frame s ns;
    node_is = λ _. refl;
    length_is = long W.length;
    next_is = W.next;
    prev_is = W.prev;
    held_is = W.held;
    was = is;
    one_id = one ∙ sym (held-id place i is);
  }

  pub exchange-back : (place : Place) (i j : Inst) → held s.nodes.items at ≡ Line place i → j.id ≡ id → Wrote s ns at (Line place j) → ExchangedAt (with_nodes s ns) s at place j i
  exchange-back place i j is one W = record {
    same = record { frame = refl; funcs = refl; params = refl; marks = refl };
    node_is = λ _. refl;
    length_is = short W.length;
    next_is = λ x. sym (W.next x);
    prev_is = λ x. sym (W.prev x);
    held_is = λ x. by x (at == x) refl;
    was = W.held at ∙ hit _ (eq-itself at);
    one_id = held-id place i is ∙ sym one;
  }
    where
      by : (x : ℕ) (b : Bool) → (at == x) ≡ b → held s.nodes.items x ≡ cond b (Line place i) (held ns.items x)
      by x true e = ap (held s.nodes.items) (sym (eq-is at x e)) ∙ is
      by x false e = sym (W.held x ∙ miss _ e)

  module _ (place : Place) (i j : Inst) (is : held s.nodes.items at ≡ Line place i) (one : j.id ≡ id) (W : Wrote s ns at (Line place j)) where
    pub exchange-rings : IsRings (with_nodes s ns)
    exchange-rings = exchanged-rings s (with_nodes s ns) at place i j R (exchange place i j is one W)

    pub exchange-contents : (F : Edit) → F i ≡ j ∷ [] → ((k : Inst) → same_id k.id id ≡ false → F k ≡ k ∷ []) → (q : Place) → contents (with_nodes s ns) q ≡ each F (contents s q)
    exchange-contents F set left q =
        exchanged-contents s (with_nodes s ns) at place i j R (exchange place i j is one W) F set (λ k ne. left k (subst (λ x. same_id k.id x ≡ false) (held-id place i is) ne)) q

    pub exchange-returns : (F : Edit) → F j ≡ i ∷ [] → ((k : Inst) → same_id k.id id ≡ false → F k ≡ k ∷ []) → (q : Place) → each F (contents (with_nodes s ns) q) ≡ contents s q
    exchange-returns F set left q =
        sym (exchanged-contents (with_nodes s ns) s at place j i exchange-rings (exchange-back place i j is one W) F set (λ k ne. left k (subst (λ x. same_id k.id x ≡ false) one ne)) q)

    pub exchange-stands : standing (with_nodes s ns) id ≡ Some (record { place = place; inst = j })
    exchange-stands = standing-own s (with_nodes s ns) R at id known (λ _. refl) (λ y ne. W.held y ∙ miss _ ne) (Line place j) (W.held at ∙ hit _ (eq-itself at))

-- ---- edits that put an instruction, or an operand

put-it : (new i : Inst) → i.id ≡ new.id → putting new i ≡ new ∷ []
put-it new i e = ap (λ b. cond b (new ∷ []) (i ∷ [])) (subst (λ x. same_id x new.id ≡ true) (sym e) (same_itself new.id))

put-left : (new k : Inst) (id : Id) → new.id ≡ id → same_id k.id id ≡ false → putting new k ≡ k ∷ []
put-left new k id e ne = ap (λ b. cond b (new ∷ []) (k ∷ [])) (subst (λ x. same_id k.id x ≡ false) (sym e) ne)

set-it : (id : Id) (slot : ℕ) (o : Opd) (i : Inst) → i.id ≡ id → setting id slot o i ≡ with_operand i slot o ∷ []
set-it id slot o i e = ap (λ b. cond b (with_operand i slot o ∷ []) (i ∷ [])) (subst (λ x. same_id x id ≡ true) (sym e) (same_itself id))

set-left : (id : Id) (slot : ℕ) (o : Opd) (k : Inst) → same_id k.id id ≡ false → setting id slot o k ≡ k ∷ []
set-left id slot o k ne = ap (λ b. cond b (with_operand k slot o ∷ []) (k ∷ [])) ne

-- ---- what `put` does

pub record IsPut (s : Arena) (ns : Vec Node) (F G : Edit) : Type 0 where
  pub rings : IsRings (with_nodes s ns)
  pub contents_is : (q : Place) → contents (with_nodes s ns) q ≡ each F (contents s q)
  pub back : (q : Place) → each G (contents (with_nodes s ns) q) ≡ contents s q

pub put-law : (s : Arena) (ns : Vec Node) (R : IsRings s) (at : ℕ) (place there : Place) (new old : Inst) → node s new.id ≡ Some at → place_held s at ≡ Some place → held s.nodes.items at ≡ Line there old → Wrote s ns at (Line place new) → IsPut s ns (putting new) (putting old)
put-law s ns R at place there new old known placed is W = record {
  rings = exchange-rings s ns R new.id at known place old new here refl W;
  contents_is = exchange-contents s ns R new.id at known place old new here refl W (putting new) (put-it new old one) (λ k ne. put-left new k new.id refl ne);
  back = exchange-returns s ns R new.id at known place old new here refl W (putting old) (put-it old new (sym one)) (λ k ne. put-left old k new.id one ne);
}
  where
    one : old.id ≡ new.id
    one = held-id s ns R new.id at known there old is

    here : held s.nodes.items at ≡ Line place old
    here = is ∙ ap (λ x. Line x old) (some-is (sym (ap place_in is) ∙ placed))

-- ---- what `set_operand` does

pub two-writes : (s : Arena) (ns ms : Vec Node) (at : ℕ) (a b : Held) → Wrote s ns at a → Wrote (with_nodes s ns) ms at b → Wrote s ms at b
two-writes s ns ms at a b V W = record {
  next = λ x. W.next x ∙ V.next x;
  prev = λ x. W.prev x ∙ V.prev x;
  held = λ x. W.held x ∙ by x (at == x) refl;
  length = W.length ∙ V.length;
}
  where
    by : (x : ℕ) (c : Bool) → (at == x) ≡ c → cond c b (held ns.items x) ≡ cond c b (held s.nodes.items x)
    by x true e = refl
    by x false e = V.held x ∙ miss _ e

pub set-law : (s : Arena) (ns : Vec Node) (R : IsRings s) (id : Id) (at : ℕ) (place : Place) (i j : Inst) (slot : ℕ) (to old : Opd) → node s id ≡ Some at → held s.nodes.items at ≡ Line place i → j ≡ with_operand i slot to → i ≡ with_operand j slot old → Wrote s ns at (Line place j) → IsPut s ns (setting id slot to) (setting id slot old)
set-law s ns R id at place i j slot to old known is new back W = record {
  rings = exchange-rings s ns R id at known place i j is one W;
  contents_is = exchange-contents s ns R id at known place i j is one W (setting id slot to) (set-it id slot to i same ∙ ap (λ x. x ∷ []) (sym new)) (set-left id slot to);
  back = exchange-returns s ns R id at known place i j is one W (setting id slot old) (set-it id slot old j one ∙ ap (λ x. x ∷ []) (sym back)) (set-left id slot old);
}
  where
    same : i.id ≡ id
    same = held-id s ns R id at known place i is

    one : j.id ≡ id
    one = ap (λ (x : Inst). x.id) new ∙ same

-- an operand that is set back
set-set : {A : Type 0} (xs : List A) (k : ℕ) (x y : A) → slice_get xs k ≡ Some x → slice_set (slice_set xs k y) k x ≡ xs
set-set [] k x y e = refl
set-set (z ∷ zs) zero x y e = ap (λ v. v ∷ zs) (sym (some-is e))
set-set (z ∷ zs) (suc k) x y e = ap (λ vs. z ∷ vs) (set-set zs k x y e)

pub operand-back : (i : Inst) (slot : ℕ) (to old : Opd) → slice_get i.opds slot ≡ Some old → i ≡ with_operand (with_operand i slot to) slot old
operand-back i slot to old e = ap (λ os. record { id = i.id; name = i.name; ty = i.ty; op = i.op; opds = os }) (sym (set-set i.opds slot old to e))

pub set-get : {A : Type 0} (xs : List A) (k : ℕ) (y : A) → IsSome (slice_get xs k) → slice_get (slice_set xs k y) k ≡ Some y
set-get [] k y e = absurd (false-true e)
set-get (z ∷ zs) zero y e = refl
set-get (z ∷ zs) (suc k) y e = set-get zs k y e

pub set-back : (i j : Inst) (slot : ℕ) (to old : Opd) → j ≡ with_operand i slot to → slice_get i.opds slot ≡ Some old → i ≡ with_operand j slot old
set-back i j slot to old is was = operand-back i slot to old was ∙ ap (λ x. with_operand x slot old) (sym is)

pub set-stands : (s : Arena) (ns : Vec Node) (R : IsRings s) (id : Id) (at : ℕ) (place : Place) (i j : Inst) (slot : ℕ) (to old : Opd) → node s id ≡ Some at → held s.nodes.items at ≡ Line place i → j ≡ with_operand i slot to → slice_get i.opds slot ≡ Some old → Wrote s ns at (Line place j) → told_operand slot (standing (with_nodes s ns) id) ≡ Some to
set-stands s ns R id at place i j slot to old known is new was W =
    ap (told_operand slot) (exchange-stands s ns R id at known place i j is (ap (λ (x : Inst). x.id) new ∙ held-id s ns R id at known place i is) W)
    ∙ ap (λ (x : Inst). slice_get x.opds slot) new
    ∙ set-get i.opds slot to (there-some (slice_get i.opds slot) old was)

-- ---- what `put_line` does

pub record IsLine (s : Arena) (ns : Vec Node) (spot : ℕ) (inst : Inst) : Type 0 where
  pub rings : IsRings (with_nodes s ns)
  pub contents_is : (before : Before) → before_held s spot ≡ Some before → (q : Place) → contents (with_nodes s ns) q ≡ coming before inst q (contents s q)
  pub back : (q : Place) → each (removing inst.id) (contents (with_nodes s ns) q) ≡ contents s q

pub line-law : (s : Arena) (ms ns : Vec Node) (R : IsRings s) (at spot : ℕ) (place : Place) (inst : Inst) → place_held s spot ≡ Some place → node s inst.id ≡ Some at → held s.nodes.items at ≡ Gone → Wrote s ms at (Line place inst) → IsLinked ms.items ns.items spot at → length ns.items ≡ length ms.items → IsLine s ns spot inst
line-law s ms ns R at spot place inst placed known gone W K size = record {
  rings = linked-rings s (with_nodes s ns) at spot place inst R L;
  contents_is = linked-contents s (with_nodes s ns) at spot place inst R L;
  back = λ q. sym (unlinked-contents (with_nodes s ns) s at place inst (linked-rings s (with_nodes s ns) at spot place inst R L) back q);
}
  where
    L : LinkedIn s (with_nodes s ns) at spot place inst
    L = record {
      same = same-frame s ns;
      node_is = λ _. refl;
      length_is = long (size ∙ W.length);
      next_is = λ x. K.next_is x ∙ ap (λ v. cond (v == x) at (cond (at == x) spot (next ms.items x))) (W.prev spot) ∙ ap (λ v. cond (prev s.nodes.items spot == x) at (cond (at == x) spot v)) (W.next x);
      prev_is = λ x. K.prev_is x ∙ ap (λ v. cond (spot == x) at (cond (at == x) v (prev ms.items x))) (W.prev spot) ∙ ap (λ v. cond (spot == x) at (cond (at == x) (prev s.nodes.items spot) v)) (W.prev x);
      held_is = λ x. K.held_is x ∙ W.held x;
      place_is = placed;
      gone = gone;
      known = known;
    }

    not-spot : at ≡ spot → ⊥
    not-spot e = none-some (sym (ap place_in (ap (held s.nodes.items) (sym e) ∙ gone)) ∙ placed)

    not-prev : prev s.nodes.items spot ≡ at → ⊥
    not-prev e = none-some (sym (ap place_in (ap (held s.nodes.items) e ∙ gone)) ∙ spot-prev s R spot place placed)

    own-next : next ns.items at ≡ spot
    own-next = L.next_is at ∙ miss _ (eq-other (prev s.nodes.items spot) at not-prev) ∙ hit _ (eq-itself at)

    own-prev : prev ns.items at ≡ prev s.nodes.items spot
    own-prev = L.prev_is at ∙ miss _ (eq-other spot at (λ e. not-spot (sym e))) ∙ hit _ (eq-itself at)

    named : next s.nodes.items (prev s.nodes.items spot) ≡ spot
    named = spot-named s R spot place placed

    back : UnlinkedFrom (with_nodes s ns) s at place inst
    back = record {
      same = record { frame = refl; funcs = refl; params = refl; marks = refl };
      node_is = λ _. refl;
      length_is = short (size ∙ W.length);
      next_is = λ x ne. next-back x ne (prev ns.items at == x) refl;
      prev_is = λ x ne. prev-back x ne (next ns.items at == x) refl;
      held_is = λ x. held-back x (at == x) refl;
      was = L.held_is at ∙ hit _ (eq-itself at);
    }
      where
        next-back : (x : ℕ) → (at == x) ≡ false → (b : Bool) → (prev ns.items at == x) ≡ b → next s.nodes.items x ≡ cond b (next ns.items at) (next ns.items x)
        next-back x ne true e = ap (next s.nodes.items) (sym (eq-is (prev ns.items at) x e) ∙ own-prev) ∙ named ∙ sym own-next
        next-back x ne false e = sym (L.next_is x ∙ miss _ (subst (λ v. (v == x) ≡ false) own-prev e) ∙ miss _ ne)

        prev-back : (x : ℕ) → (at == x) ≡ false → (b : Bool) → (next ns.items at == x) ≡ b → prev s.nodes.items x ≡ cond b (prev ns.items at) (prev ns.items x)
        prev-back x ne true e = ap (prev s.nodes.items) (sym (eq-is (next ns.items at) x e) ∙ own-next) ∙ sym own-prev
        prev-back x ne false e = sym (L.prev_is x ∙ miss _ (subst (λ v. (v == x) ≡ false) own-next e) ∙ miss _ ne)

        held-back : (x : ℕ) (b : Bool) → (at == x) ≡ b → held s.nodes.items x ≡ cond b Gone (held ns.items x)
        held-back x true e = ap (held s.nodes.items) (sym (eq-is at x e)) ∙ gone
        held-back x false e = sym (L.held_is x ∙ miss _ e)

pub spot-bound : (s : Arena) (ms : Vec Node) (R : IsRings s) (at spot : ℕ) (place : Place) (what : Held) → place_held s spot ≡ Some place → Wrote s ms at what → prev ms.items spot < length ms.items
spot-bound s ms R at spot place what placed W =
    let fits = place-bound s (prev s.nodes.items spot) place (spot-prev s R spot place placed) in
    let is = W.prev spot in
    let size = W.length in
    omega (arith, fits, is, size)

-- ---- what `remove` does

pub record IsOut (s : Arena) (ns : Vec Node) (id : Id) (inst : Inst) (before : Before) : Type 0 where
  pub rings : IsRings (with_nodes s ns)
  pub contents_is : (q : Place) → contents (with_nodes s ns) q ≡ each (removing id) (contents s q)
  pub back : (q : Place) → coming before inst q (contents (with_nodes s ns) q) ≡ contents s q
  pub place : HasPlace (with_nodes s ns) before

pub out-law : (s : Arena) (ms ns : Vec Node) (R : IsRings s) (id : Id) (at : ℕ) (place : Place) (inst : Inst) (before : Before) → node s id ≡ Some at → held s.nodes.items at ≡ Line place inst → before_held s (next s.nodes.items at) ≡ Some before → IsUnlinked s.nodes.items ms.items at → length ms.items ≡ length s.nodes.items → Wrote (with_nodes s ms) ns at Gone → IsOut s ns id inst before
out-law s ms ns R id at place inst before known is named K size W = record {
  rings = unlinked-rings s (with_nodes s ns) at place inst R U;
  contents_is = subst (λ x. (q : Place) → contents (with_nodes s ns) q ≡ each (removing x) (contents s q)) (held-id s ns R id at known place inst is) (unlinked-contents s (with_nodes s ns) at place inst R U);
  back = unlinked-back s (with_nodes s ns) at place inst R U (short (W.length ∙ size)) before named;
  place = by (held s.nodes.items (next s.nodes.items at)) refl named;
}
  where
    U : UnlinkedFrom s (with_nodes s ns) at place inst
    U = record {
      same = same-frame s ns;
      node_is = λ _. refl;
      length_is = long (W.length ∙ size);
      next_is = λ x _. W.next x ∙ K.next_is x;
      prev_is = λ x _. W.prev x ∙ K.prev_is x;
      held_is = λ x. W.held x ∙ ap (λ v. cond (at == x) Gone v) (K.held_is x);
      was = is;
    }

    by : (x : Held) → held s.nodes.items (next s.nodes.items at) ≡ x → before_in x ≡ Some before → HasPlace (with_nodes s ns) before
    by Gone e f = absurd (none-some f)
    by (Block q) e f = subst (HasPlace (with_nodes s ns)) (some-is f) (there-some _ (next s.nodes.items at) (R.marks (next s.nodes.items at) q e))
    by (Line q i) e f =
        subst (HasPlace (with_nodes s ns)) (some-is f)
        (there-some _ (record { place = q; inst = i })
        (ap (option_and_then (λ y. told_held (held ns.items y))) (R.lines (next s.nodes.items at) q i e).known
        ∙ ap told_held (U.held_is (next s.nodes.items at) ∙ miss _ (eq-other at (next s.nodes.items at) (no-loop s (with_nodes s ns) at place inst R U)) ∙ e)))

-- the neighbours of an instruction that stands in a block
pub record HasNeighbours (s : Arena) (at : ℕ) : Type 0 where
  pub next_fits : next s.nodes.items at < length s.nodes.items
  pub prev_fits : prev s.nodes.items at < length s.nodes.items
  pub before : IsSome (before_held s (next s.nodes.items at))

pub neighbours : (s : Arena) (R : IsRings s) (id : Id) (at : ℕ) → IsSome (standing s id) → node s id ≡ Some at → HasNeighbours s at
neighbours s R id at there known = record {
  next_fits = place-bound s (next s.nodes.items at) S.place (after-at s R at S.place S.inst is);
  prev_fits = place-bound s (prev s.nodes.items at) S.place (before-at s R at S.place S.inst is);
  before = place-before (held s.nodes.items (next s.nodes.items at)) S.place (after-at s R at S.place S.inst is);
}
  where
    S : StandsAt s id
    S = stands s R id there

    is : held s.nodes.items at ≡ Line S.place S.inst
    is = ap (held s.nodes.items) (some-is (sym known ∙ S.node_is)) ∙ S.held_is

pub is-none : {A : Type 0} (o : Option A) → IsSome o → o ≡ None → ⊥
is-none None n e = false-true n
is-none (Some x) n e = none-some (sym e)

-- ---- what `enter_new` does

pub record IsNew (s t : Arena) : Type 0 where
  pub rings : IsRings t
  pub contents_is : (q : Place) → contents t q ≡ contents s q
  pub gone : held t.nodes.items (length s.nodes.items) ≡ Gone
  pub standing_is : (x : Id) → standing t x ≡ standing s x
  pub keeps : Keeps s t

pub new-law : (s t : Arena) (id : Id) → IsRings s → IsKept s t → node s id ≡ None → length t.nodes.items ≡ length s.nodes.items + 1 → ((x : Id) → node t x ≡ cond (same_id id x) (Some (length s.nodes.items)) (node s x)) → IsNew s t
new-law s t id R K none size nodes = record {
  rings = kept-rings s t R K G;
  contents_is = kept-contents s t R K G;
  gone = K.held_is (length s.nodes.items) ∙ nothing (held s.nodes.items (length s.nodes.items)) refl;
  standing_is = standing-kept s t id K.held_is G.old new;
  keeps = λ x known. by x (same_id id x) refl known;
}
  where
    G : NodesGrew s t
    G = one-new s t id R K none (omega (arith, size)) nodes

    nothing : (x : Held) → held s.nodes.items (length s.nodes.items) ≡ x → x ≡ Gone
    nothing Gone w = refl
    nothing (Line p i) w =
        let small = in-bounds s.nodes.items (length s.nodes.items) (λ g. gone-line (sym g ∙ w)) in
        absurd (omega (arith, small))
    nothing (Block p) w =
        let small = in-bounds s.nodes.items (length s.nodes.items) (λ g. gone-block (sym g ∙ w)) in
        absurd (omega (arith, small))

    new : (x : Id) → node s x ≡ None → (y : ℕ) → node t x ≡ Some y → held s.nodes.items y ≡ Gone
    new x n y e = go (same_id id x) refl
      where
        go : (b : Bool) → same_id id x ≡ b → held s.nodes.items y ≡ Gone
        go true w = ap (held s.nodes.items) (sym (some-is (sym (nodes x ∙ hit _ w) ∙ e))) ∙ nothing (held s.nodes.items (length s.nodes.items)) refl
        go false w = absurd (none-some (sym n ∙ sym (nodes x ∙ miss _ w) ∙ e))

    by : (x : Id) (b : Bool) → same_id id x ≡ b → knows s x ≡ true → knows t x ≡ true
    by x true w known = ap is_some (nodes x ∙ hit _ w)
    by x false w known = ap is_some (nodes x ∙ miss _ w) ∙ known
