-- What rings say of one node, and of what stands in a block.
use Rattle.std.proofs.Common.{◌≡◌, refl, sym, ap, ◌∙◌, subst, ℕ, zero, suc, ◌≤◌, ◌<◌, ◌==◌, ◌&&◌, Bool, true, false, Option, None, Some, IsSome, List, [], ◌∷◌, length, nat_eq, arith}
use Rattle.std.proofs.lemmas.Bool.Decides.{nat_tests}
use Rattle.std.specs.HashMap.{get}
use Rattle.ir_types.specs.declared.id.Id.{Id}
use Rattle.ir_types.specs.declared.id.Place.{Place}
use Rattle.ir_types.specs.declared.inst.Inst.{Inst}
use Rattle.ir_types.specs.Available.{same_id}
use Rattle.ir_types.proofs.Among.{same_is, same_itself}
use Rattle.vx_view.specs.Views.{same_place}
use Rattle.sb_lines.specs.declared.nodes.Held.{Held}
use Rattle.sb_lines.specs.declared.nodes.Held.TheVariants.{Block, Line, Gone}
use Rattle.sb_lines.specs.declared.nodes.Node.{Node}
use Rattle.sb_lines.specs.declared.arena.Arena.{Arena}
use Rattle.sb_lines.specs.Nodes.{held, next, prev, line_then}
use Rattle.sb_lines.specs.Arena.{mark, node, contents, lines_from, place_in, same_key, key_of}
use Rattle.sb_lines.specs.Whole.{has, IsRing, IsRings}
use Rattle.sb_lines.specs.Steps.{SameFrame}
use Rattle.sb_lines.proofs.Rings.{false-true, eq-is, eq-not, to-false, few}
use Rattle.sb_lines.proofs.Walks.{insts, walked}

-- ---- places

pub and-left : (a b : Bool) → (a && b) ≡ true → a ≡ true
and-left true b h = refl
and-left false b h = absurd (false-true h)

pub and-right : (a b : Bool) → (a && b) ≡ true → b ≡ true
and-right true b h = h
and-right false b h = absurd (false-true h)

pub place-is : (x y : Place) → same_place x y ≡ true → x ≡ y
place-is x y h =
    let tested = and-left (nat_eq x.func y.func) (nat_eq x.block y.block) h in
    let tested_too = and-right (nat_eq x.func y.func) (nat_eq x.block y.block) h in
    let func : x.func ≡ y.func = grind (arith, nat_tests) in
    let block : x.block ≡ y.block = grind (arith, nat_tests) in
    λ i. record { func = func i; block = block i }

pub place-itself : (x : Place) → same_place x x ≡ true
place-itself x = both (nat_eq x.func x.func) (nat_eq x.block x.block) (grind (arith, nat_tests)) (grind (arith, nat_tests))
  where
    both : (a b : Bool) → a ≡ true → b ≡ true → (a && b) ≡ true
    both true b e f = f
    both false b e f = e

pub place-not : (x y : Place) → same_place x y ≡ false → x ≡ y → ⊥
place-not x y h e = false-true (sym h ∙ subst (λ z. same_place x z ≡ true) e (place-itself x))

pub id-other : (x y : Id) → (x ≡ y → ⊥) → same_id x y ≡ false
id-other x y n = to-false (same_id x y) (λ h. n (same_is x y h))

pub id-not : (x y : Id) → same_id x y ≡ false → x ≡ y → ⊥
id-not x y h e = false-true (sym h ∙ subst (λ z. same_id x z ≡ true) e (same_itself x))

-- ---- what is held

pub none-some : {A : Type 0} {x : A} → None ≡ Some x → ⊥
none-some h = cc

pub some-is : {A : Type 0} {x y : A} → Some x ≡ Some y → x ≡ y
some-is h = cc

pub line-place : {p q : Place} {i j : Inst} → Line p i ≡ Line q j → p ≡ q
line-place h = cc

pub line-inst : {p q : Place} {i j : Inst} → Line p i ≡ Line q j → i ≡ j
line-inst h = cc

pub gone-line : {p : Place} {i : Inst} → Gone ≡ Line p i → ⊥
gone-line h = cc

pub gone-block : {p : Place} → Gone ≡ Block p → ⊥
gone-block h = cc

pub block-line : {p q : Place} {i : Inst} → Block p ≡ Line q i → ⊥
block-line h = cc

-- what holds something is a node
pub in-bounds : (ns : List Node) (y : ℕ) → (held ns y ≡ Gone → ⊥) → y < length ns
in-bounds [] y n = absurd (n refl)
in-bounds (x ∷ ns) zero n = omega (arith)
in-bounds (x ∷ ns) (suc y) n =
    let rest = in-bounds ns y n in
    omega (arith, rest)

-- ---- a ring

module _ (a : Arena) (R : IsRings a) where
  abbrev h : ℕ → Held
  h = held a.nodes.items

  pub line-bound : (y : ℕ) (place : Place) (inst : Inst) → h y ≡ Line place inst → y < length a.nodes.items
  line-bound y place inst is = in-bounds a.nodes.items y (λ g. gone-line (sym g ∙ is))

  module _ (place : Place) (m : ℕ) (marked : mark a place ≡ Some m) where
    abbrev r : IsRing a place m (R.ring place)
    r = R.rings place m marked

    pub mark-lacks : has m (R.ring place) ≡ false
    mark-lacks = to-false (has m (R.ring place)) (λ got. block-line (sym r.at_mark ∙ (r.each m got).1))

    pub gone-lacks : (y : ℕ) → h y ≡ Gone → has y (R.ring place) ≡ false
    gone-lacks y gone = to-false (has y (R.ring place)) (λ got. gone-line (sym gone ∙ (r.each y got).1))

    pub few-nodes : length (R.ring place) ≤ length a.nodes.items
    few-nodes = few (length a.nodes.items) (R.ring place) r.once (λ y got. line-bound y place (r.each y got).0 (r.each y got).1)

    pub contents-is : contents a place ≡ insts h (R.ring place)
    contents-is = ap (lines_from a) marked ∙ walked h (next a.nodes.items) (prev a.nodes.items) place m (R.ring place) m (length a.nodes.items) r.seg r.each (λ rest. ap (λ x. line_then x rest) r.at_mark) few-nodes

    -- a node of the ring, or its mark, is of its block
    pub home : (y : ℕ) → (has y (R.ring place) ≡ false → y ≡ m) → place_in (h y) ≡ Some place
    home y either = go (has y (R.ring place)) refl
      where
        go : (b : Bool) → has y (R.ring place) ≡ b → place_in (h y) ≡ Some place
        go true got = ap place_in (r.each y got).1
        go false lacks = ap place_in (ap h (either lacks) ∙ r.at_mark)

  pub contents-none : (q : Place) → mark a q ≡ None → contents a q ≡ []
  contents-none q e = ap (lines_from a) e

  -- an instruction's node is the only one with its id
  pub only-at : (b : ℕ) (place : Place) (inst : Inst) → h b ≡ Line place inst → (y : ℕ) (q : Place) (i : Inst) → h y ≡ Line q i → same_id i.id inst.id ≡ (b == y)
  only-at b place inst is y q i there = go (b == y) refl
    where
      go : (c : Bool) → (b == y) ≡ c → same_id i.id inst.id ≡ c
      go true e = subst (λ z. same_id z.id inst.id ≡ true) (line-inst (sym is ∙ ap h (eq-is b y e) ∙ there)) (same_itself inst.id)
      go false e = id-other i.id inst.id (λ f. eq-not b y e (some-is (sym (R.lines b place inst is).known ∙ ap (node a) (sym f) ∙ (R.lines y q i there).known)))

-- ---- marks and nodes of arenas with one frame

pub mark-same : (s t : Arena) → SameFrame s t → (q : Place) → mark t q ≡ mark s q
mark-same s t same q = ap (λ m. get same_key m (key_of q)) same.marks

-- what `IsSome` says
pub some-there : {A : Type 0} (o : Option A) → IsSome o → (x : A) × (o ≡ Some x)
some-there None n = absurd (false-true n)
some-there (Some x) n = (x, refl)

pub there-some : {A : Type 0} (o : Option A) (x : A) → o ≡ Some x → IsSome o
there-some None x e = absurd (none-some e)
there-some (Some y) x e = refl
