-- Where an instruction stands by its node, before and after a change.
use Rattle.std.proofs.Common.{◌≡◌, refl, sym, ap, ◌∙◌, subst, ℕ, ◌<◌, ◌==◌, Bool, true, false, Option, None, Some, IsSome, option_and_then, length}
use Rattle.ir_types.specs.declared.id.Id.{Id}
use Rattle.ir_types.specs.declared.id.Place.{Place}
use Rattle.ir_types.specs.declared.inst.Inst.{Inst}
use Rattle.ir_types.specs.Available.{same_id}
use Rattle.sb_lines.specs.declared.nodes.Held.{Held}
use Rattle.sb_lines.specs.declared.nodes.Held.TheVariants.{Block, Line, Gone}
use Rattle.sb_lines.specs.declared.spot.Before.{Before}
use Rattle.sb_lines.specs.declared.spot.Before.TheVariants.{Line as BeforeLine, End}
use Rattle.sb_lines.specs.declared.arena.Arena.{Arena}
use Rattle.sb_lines.specs.Nodes.{held}
use Rattle.sb_lines.specs.Arena.{mark, node, spot, standing, told_held, place_in, before_in, before_held}
use Rattle.sb_lines.specs.Whole.{IsOf, IsRings}
use Rattle.sb_lines.specs.Steps.{HasPlace}
use Rattle.sb_lines.proofs.Rings.{false-true, eq-is}
use Rattle.sb_lines.proofs.Standing.{none-some, some-is, id-not, in-bounds, some-there}

-- the node of an instruction that stands in a block
pub record StandsAt (a : Arena) (id : Id) : Type 0 where
  pub at : ℕ
  pub place : Place
  pub inst : Inst
  pub node_is : node a id ≡ Some at
  pub held_is : held a.nodes.items at ≡ Line place inst
  pub id_is : inst.id ≡ id

pub stands : (a : Arena) (R : IsRings a) (id : Id) → IsSome (standing a id) → StandsAt a id
stands a R id some = by (node a id) refl some
  where
    by-held : (y : ℕ) → node a id ≡ Some y → (x : Held) → held a.nodes.items y ≡ x → IsSome (told_held x) → StandsAt a id
    by-held y e (Line p i) f n = record { at = y; place = p; inst = i; node_is = e; held_is = f; id_is = subst (IsOf id) f (R.nodes id y e).1 }
    by-held y e (Block p) f n = absurd (false-true n)
    by-held y e Gone f n = absurd (false-true n)

    by : (o : Option ℕ) → node a id ≡ o → IsSome (option_and_then (λ y. told_held (held a.nodes.items y)) o) → StandsAt a id
    by None e n = absurd (false-true n)
    by (Some y) e n = by-held y e (held a.nodes.items y) refl n

pub told-is : (a : Arena) (id : Id) (S : StandsAt a id) → standing a id ≡ Some (record { place = S.place; inst = S.inst })
told-is a id S = ap (option_and_then (λ y. told_held (held a.nodes.items y))) S.node_is ∙ ap told_held S.held_is

-- a node of an id whose instruction does not stand
pub gone-at : (a : Arena) (R : IsRings a) (id : Id) (y : ℕ) → standing a id ≡ None → node a id ≡ Some y → held a.nodes.items y ≡ Gone
gone-at a R id y none e = by (held a.nodes.items y) refl (sym (ap (option_and_then (λ y. told_held (held a.nodes.items y))) e) ∙ none) (R.nodes id y e).1
  where
    by : (x : Held) → held a.nodes.items y ≡ x → told_held x ≡ None → IsOf id x → x ≡ Gone
    by Gone f n of = refl
    by (Line p i) f n of = absurd (none-some (sym n))
    by (Block p) f n of = absurd of

-- the node of a place says so
pub spot-before : (a : Arena) (R : IsRings a) (before : Before) (y : ℕ) → HasPlace a before → spot a before ≡ Some y → before_held a y ≡ Some before
spot-before a R (BeforeLine x) y has e =
    let S = stands a R x has in
    ap (λ v. before_in (held a.nodes.items v)) (some-is (sym e ∙ S.node_is)) ∙ ap before_in S.held_is ∙ ap (λ v. Some (BeforeLine v)) S.id_is
spot-before a R (End place) y has e = ap before_in (R.rings place y e).at_mark

pub spot-some : (a : Arena) (R : IsRings a) (before : Before) → HasPlace a before → spot a before ≡ None → ⊥
spot-some a R (BeforeLine x) has e = none-some (sym e ∙ (stands a R x has).node_is)
spot-some a R (End place) has e =
    let m = some-there (mark a place) has in
    none-some (sym e ∙ m.1)

pub before-place : (x : Held) (before : Before) → before_in x ≡ Some before → IsSome (place_in x)
before-place (Line p i) before e = refl
before-place (Block p) before e = refl
before-place Gone before e = absurd (none-some e)

pub place-before : (x : Held) (place : Place) → place_in x ≡ Some place → IsSome (before_in x)
place-before (Line p i) place e = refl
place-before (Block p) place e = refl
place-before Gone place e = absurd (none-some e)

pub place-bound : (a : Arena) (y : ℕ) (place : Place) → place_in (held a.nodes.items y) ≡ Some place → y < length a.nodes.items
place-bound a y place e = in-bounds a.nodes.items y (λ g. none-some (sym (ap place_in g) ∙ e))

-- ---- after a change of one node

module _ (s t : Arena) (R : IsRings s) (at : ℕ) (id : Id) (known : node s id ≡ Some at) (nodes : (x : Id) → node t x ≡ node s x) (others : (y : ℕ) → (at == y) ≡ false → held t.nodes.items y ≡ held s.nodes.items y) where
  pub standing-other : (x : Id) → same_id id x ≡ false → standing t x ≡ standing s x
  standing-other x ne = ap (option_and_then (λ y. told_held (held t.nodes.items y))) (nodes x) ∙ by (node s x) refl
    where
      by : (o : Option ℕ) → node s x ≡ o → option_and_then (λ y. told_held (held t.nodes.items y)) o ≡ option_and_then (λ y. told_held (held s.nodes.items y)) o
      by None e = refl
      by (Some y) e = ap told_held (others y (go (at == y) refl))
        where
          go : (b : Bool) → (at == y) ≡ b → b ≡ false
          go true w = absurd (id-not id x ne (R.single id x y (known ∙ ap Some (eq-is at y w)) e))
          go false w = refl

  pub standing-own : (x : Held) → held t.nodes.items at ≡ x → standing t id ≡ told_held x
  standing-own x e = ap (option_and_then (λ y. told_held (held t.nodes.items y))) (nodes id ∙ known) ∙ ap told_held e

-- ids that have a node, and nodes that hold what they did
pub standing-kept : (s t : Arena) (id : Id) → ((y : ℕ) → held t.nodes.items y ≡ held s.nodes.items y) → ((x : Id) (y : ℕ) → node s x ≡ Some y → node t x ≡ Some y) → ((x : Id) → node s x ≡ None → (y : ℕ) → node t x ≡ Some y → held s.nodes.items y ≡ Gone) → (x : Id) → standing t x ≡ standing s x
standing-kept s t id same old new x = by (node s x) refl
  where
    by-new : node s x ≡ None → (o : Option ℕ) → node t x ≡ o → option_and_then (λ y. told_held (held t.nodes.items y)) o ≡ None
    by-new e None f = refl
    by-new e (Some y) f = ap told_held (same y ∙ new x e y f)

    by : (o : Option ℕ) → node s x ≡ o → standing t x ≡ standing s x
    by None e = by-new e (node t x) refl ∙ sym (ap (option_and_then (λ y. told_held (held s.nodes.items y))) e)
    by (Some y) e = ap (option_and_then (λ y. told_held (held t.nodes.items y))) (old x y e) ∙ ap told_held (same y) ∙ sym (ap (option_and_then (λ y. told_held (held s.nodes.items y))) e)
