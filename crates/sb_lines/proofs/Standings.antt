-- What the module that is held answers of an id is what its node says.
use Rattle.std.proofs.Common.{◌≡◌, refl, sym, ap, ◌∙◌, subst, ℕ, zero, suc, ◌+◌, ◌==◌, Bool, true, false, nat_lt, Option, None, Some, IsSome, List, [], ◌∷◌, length, cond, slice_get, option_map, option_and_then, arith}
use Rattle.std.proofs.lemmas.Bool.Decides.{nat_tests}
use Rattle.ir_types.specs.declared.id.Id.{Id}
use Rattle.ir_types.specs.declared.id.Place.{Place}
use Rattle.ir_types.specs.declared.inst.Inst.{Inst}
use Rattle.ir_types.specs.declared.func.Block.{Block}
use Rattle.ir_types.specs.declared.func.Func.{Func}
use Rattle.ir_types.specs.declared.module.Module.{Module}
use Rattle.ir_types.specs.Available.{same_id}
use Rattle.vx_view.specs.Answers.{funcs_of, find, found, Standing, standing_in, either, after, before, id_of, first_in}
use Rattle.vx_view.specs.Answers as of_module
use Rattle.vx_view.specs.Views.{same_place}
use Rattle.sb_lines.specs.declared.nodes.Held.{Held}
use Rattle.sb_lines.specs.declared.nodes.Held.TheVariants.{Block as BlockHeld, Line, Gone}
use Rattle.sb_lines.specs.declared.arena.Arena.{Arena}
use Rattle.sb_lines.specs.Filling.{Filling, place_of, blocks_filled, filled, block_in, has_block}
use Rattle.sb_lines.specs.Nodes.{held, next, prev, line_then}
use Rattle.sb_lines.specs.Arena.{mark, node, contents, seen, standing, Told, told_of, id_in, id_held, line_of, next_of, prev_of, first_of}
use Rattle.sb_lines.specs.Whole.{has, Seg, IsWhole}
use Rattle.sb_lines.proofs.Rings.{false-true, eq-is, eq-not, eq-other, to-false, hit, miss, has-head, has-more}
use Rattle.sb_lines.proofs.Walks.{insts, AreLines, more-lines, OnlyAt, find-there, only-more}
use Rattle.sb_lines.proofs.Standing.{place-is, place-not, none-some, line-place, id-other, contents-is, contents-none, only-at, some-there}
use Rattle.sb_lines.proofs.Filled.{funcs_filled, funcs-filled, first-filled}
use Rattle.sb_lines.proofs.Stood.{StandsAt, stands, told-is, gone-at}

-- ---- one instruction among the blocks

abbrev stands_as : Place → List Inst → Inst → Standing
stands_as place block inst = record { place = place; block = block; inst = inst }

module _ (c : Place → List Inst) (id : Id) where
  abbrev told : Filling
  told q insts = c q

  pub none-blocks : (func n : ℕ) (bs : List Block) → ((k : ℕ) → find id (c (place_of func k)) ≡ None) → standing_in id func n (blocks_filled told func n bs) ≡ None
  none-blocks func n [] none = refl
  none-blocks func n (b ∷ bs) none =
      ap (λ o. either (of_module.standing func n (c (place_of func n)) o) (standing_in id func (suc n) (blocks_filled told func (suc n) bs))) (none n)
      ∙ none-blocks func (suc n) bs none

  none-funcs : (func : ℕ) (fs : List Func) → ((q : Place) → find id (c q) ≡ None) → of_module.standing_of id func (funcs_filled told func fs) ≡ None
  none-funcs func [] none = refl
  none-funcs func (f ∷ fs) none =
      ap (λ o. either o (of_module.standing_of id (suc func) (funcs_filled told (suc func) fs))) (none-blocks func 0 f.blocks (λ k. none (place_of func k)))
      ∙ none-funcs (suc func) fs none

  pub found-none : (m : Module) → ((q : Place) → find id (c q) ≡ None) → found (filled told m) id ≡ None
  found-none m none = ap (of_module.standing_of id 0) (funcs-filled told 0 m.items) ∙ none-funcs 0 (funcs_of m.items) none

  module _ (place : Place) (inst : Inst) (there : find id (c place) ≡ Some inst) (nowhere : (q : Place) → same_place place q ≡ false → find id (c q) ≡ None) where
    other-place : (q : Place) → (place ≡ q → ⊥) → find id (c q) ≡ None
    other-place q ne = nowhere q (to-false (same_place place q) (λ h. ne (place-is place q h)))

    pub in-blocks : (func n j : ℕ) (bs : List Block) → place ≡ place_of func (n + j) → nat_lt j (length bs) ≡ true → standing_in id func n (blocks_filled told func n bs) ≡ Some (stands_as place (c place) inst)
    in-blocks func n j [] is less = absurd (never j less)
      where
        never : (k : ℕ) → nat_lt k 0 ≡ true → ⊥
        never k h = grind (arith, nat_tests)
    in-blocks func n zero (b ∷ bs) is less =
        ap (λ o. either (of_module.standing func n (c (place_of func n)) o) (standing_in id func (suc n) (blocks_filled told func (suc n) bs))) (ap (λ q. find id (c q)) (sym here) ∙ there)
        ∙ ap (λ q. Some (stands_as q (c q) inst)) (sym here)
      where
        add-zero : (k : ℕ) → k + 0 ≡ k
        add-zero k = omega (arith)

        here : place ≡ place_of func n
        here = is ∙ ap (place_of func) (add-zero n)
    in-blocks func n (suc j) (b ∷ bs) is less =
        ap (λ o. either (of_module.standing func n (c (place_of func n)) o) (standing_in id func (suc n) (blocks_filled told func (suc n) bs))) (other-place (place_of func n) (λ e. later n j (ap (λ (q : Place). q.block) (sym is ∙ e))))
        ∙ in-blocks func (suc n) j bs (is ∙ ap (place_of func) (add-suc n j)) (less-suc j (length bs) less)
      where
        add-suc : (k l : ℕ) → k + suc l ≡ suc k + l
        add-suc k l = omega (arith)

        later : (k l : ℕ) → k + suc l ≡ k → ⊥
        later k l e = omega (arith, e)

        less-suc : (k l : ℕ) → nat_lt (suc k) (suc l) ≡ true → nat_lt k l ≡ true
        less-suc k l h = grind (arith, nat_tests)

    in-funcs : (func j : ℕ) (fs : List Func) → place.func ≡ func + j → block_in (slice_get fs j) place.block ≡ true → of_module.standing_of id func (funcs_filled told func fs) ≡ Some (stands_as place (c place) inst)
    in-funcs func j [] is has = absurd (false-true has)
    in-funcs func zero (f ∷ fs) is has =
        ap (λ o. either o (of_module.standing_of id (suc func) (funcs_filled told (suc func) fs))) (in-blocks func 0 place.block f.blocks (λ i. record { func = (is ∙ add-zero func) i; block = zero-add place.block i }) has)
      where
        add-zero : (k : ℕ) → k + 0 ≡ k
        add-zero k = omega (arith)

        zero-add : (k : ℕ) → k ≡ 0 + k
        zero-add k = omega (arith)
    in-funcs func (suc j) (f ∷ fs) is has =
        ap (λ o. either o (of_module.standing_of id (suc func) (funcs_filled told (suc func) fs))) (none-blocks func 0 f.blocks (λ k. other-place (place_of func k) (λ e. later func j (sym is ∙ ap (λ (q : Place). q.func) e))))
        ∙ in-funcs (suc func) j fs (is ∙ add-suc func j) has
      where
        add-suc : (k l : ℕ) → k + suc l ≡ suc k + l
        add-suc k l = omega (arith)

        later : (k l : ℕ) → k + suc l ≡ k → ⊥
        later k l e = omega (arith, e)

    pub found-some : (m : Module) → has_block m place ≡ true → found (filled told m) id ≡ Some (stands_as place (c place) inst)
    found-some m has = ap (of_module.standing_of id 0) (funcs-filled told 0 m.items) ∙ in-funcs 0 place.func (funcs_of m.items) (zero-add place.func) has
      where
        zero-add : (k : ℕ) → k ≡ 0 + k
        zero-add k = omega (arith)

-- ---- an id that no node of a ring has

pub find-absent : (h : ℕ → Held) (place : Place) (id : Id) (ys : List ℕ) → AreLines h place ys → ((y : ℕ) → has y ys ≡ true → (i : Inst) → h y ≡ Line place i → same_id i.id id ≡ false) → find id (insts h ys) ≡ None
find-absent h place id [] are other = refl
find-absent h place id (y ∷ ys) are other =
    let at = are y (has-head y ys) in
    ap (λ x. find id (line_then x (insts h ys))) at.1
    ∙ ap (λ t. cond t (Some at.0) (find id (insts h ys))) (other y (has-head y ys) at.0 at.1)
    ∙ find-absent h place id ys (more-lines h place y ys are) (λ w got. other w (has-more y w ys got))

-- ---- the answer of the module

module _ (a : Arena) (W : IsWhole a) where
  abbrev h : ℕ → Held
  h = held a.nodes.items

  has-marked : (q : Place) → IsSome (mark a q) → has_block a.frame q ≡ true
  has-marked q e = sym (W.marked q) ∙ e

  by-mark : (q : Place) (P : List Inst → Type 0) → P [] → ((m : ℕ) → mark a q ≡ Some m → P (insts h (W.rings.ring q))) → P (contents a q)
  by-mark q P none some = by (mark a q) refl
    where
      by : (o : Option ℕ) → mark a q ≡ o → P (contents a q)
      by None e = subst P (sym (contents-none a W.rings q e)) none
      by (Some m) e = subst P (sym (contents-is a W.rings q m e)) (some m e)

  abbrev pub standing_told : Told → Standing
  standing_told t = record { place = t.place; block = contents a t.place; inst = t.inst }

  -- one that stands
  module _ (id : Id) (S : StandsAt a id) where
    only : (y : ℕ) (q : Place) (i : Inst) → h y ≡ Line q i → same_id i.id id ≡ (S.at == y)
    only y q i e = ap (same_id i.id) (sym S.id_is) ∙ only-at a W.rings S.at S.place S.inst S.held_is y q i e

    pub find-here : find id (contents a S.place) ≡ Some S.inst
    find-here = by (some-there (mark a S.place) (W.rings.lines S.at S.place S.inst S.held_is).marked)
      where
        by : (m : ℕ) × (mark a S.place ≡ Some m) → find id (contents a S.place) ≡ Some S.inst
        by m =
            ap (find id) (contents-is a W.rings S.place m.0 m.1)
            ∙ find-there h S.place id S.at S.inst S.held_is (W.rings.ring S.place) (W.rings.rings S.place m.0 m.1).each (λ y got. only y) (W.rings.lines S.at S.place S.inst S.held_is).there

    pub find-elsewhere : (q : Place) → same_place S.place q ≡ false → find id (contents a q) ≡ None
    find-elsewhere q w = by-mark q (λ l. find id l ≡ None) refl (λ m e. find-absent h q id (W.rings.ring q) (W.rings.rings q m e).each (λ y got i f. only y q i f ∙ eq-other S.at y (λ g. place-not S.place q w (line-place (sym S.held_is ∙ ap h g ∙ f)))))

    pub found-here : found (seen a) id ≡ Some (record { place = S.place; block = contents a S.place; inst = S.inst })
    found-here = found-some (contents a) id S.place S.inst find-here find-elsewhere a.frame (has-marked S.place (W.rings.lines S.at S.place S.inst S.held_is).marked)

  pub find-nowhere : (id : Id) → standing a id ≡ None → (q : Place) → find id (contents a q) ≡ None
  find-nowhere id none q = by-mark q (λ l. find id l ≡ None) refl (λ m e. find-absent h q id (W.rings.ring q) (W.rings.rings q m e).each (λ y got i f. other y i f))
    where
      other : (y : ℕ) (i : Inst) → h y ≡ Line q i → same_id i.id id ≡ false
      other y i f = id-other i.id id (λ e. none-some (sym none ∙ ap (standing a) (sym e) ∙ told-is a i.id (record { at = y; place = q; inst = i; node_is = (W.rings.lines y q i f).known; held_is = f; id_is = refl })))

  pub found-nowhere : (id : Id) → standing a id ≡ None → found (seen a) id ≡ None
  found-nowhere id none = found-none (contents a) id a.frame (find-nowhere id none)

  -- all in one
  pub found-is : (id : Id) → found (seen a) id ≡ option_map standing_told (standing a id)
  found-is id = by (standing a id) refl
    where
      by : (o : Option Told) → standing a id ≡ o → found (seen a) id ≡ option_map standing_told (standing a id)
      by None e = found-nowhere id e ∙ sym (ap (option_map standing_told) e)
      by (Some t) e =
          let S = stands a W.rings id (ap Rattle.std.specs.Prelude.is_some e) in
          found-here id S ∙ sym (ap (option_map standing_told) (told-is a id S))

  pub told-found : (id : Id) → standing a id ≡ option_map told_of (found (seen a) id)
  told-found id = back (standing a id) ∙ sym (ap (option_map told_of) (found-is id))
    where
      back : (o : Option Told) → o ≡ option_map told_of (option_map standing_told o)
      back None = refl
      back (Some t) = refl

-- ---- neighbours

ends : (x : Held) → ((rest : List Inst) → line_then x rest ≡ []) → id_in x ≡ None
ends (Line p i) e = absurd (never (e []))
  where
    never : i ∷ [] ≡ [] → ⊥
    never f = cc
ends (BlockHeld p) e = refl
ends Gone e = refl

head-id : (x : Held) (place : Place) (i : Inst) (rest : List Inst) → x ≡ Line place i → id_of (line_then x rest) ≡ id_in x
head-id x place i rest e = ap (λ z. id_of (line_then z rest)) e ∙ ap id_in (sym e)

module _ (h : ℕ → Held) (n p : ℕ → ℕ) (place : Place) (t : ℕ) (stops : id_in (h t) ≡ None) where
  pub first-is : (a : ℕ) (ys : List ℕ) → Seg n p a ys t → AreLines h place ys → id_of (insts h ys) ≡ id_in (h (n a))
  first-is a [] seg are = sym (ap (λ x. id_in (h x)) seg.0 ∙ stops)
  first-is a (y ∷ ys) seg are =
      let at = are y (has-head y ys) in
      head-id (h y) place at.0 (insts h ys) at.1 ∙ ap (λ x. id_in (h x)) (sym seg.0.0)

  module _ (id : Id) (b : ℕ) where
    step : {X : Type 0} (y : ℕ) (ys : List ℕ) → AreLines h place (y ∷ ys) → OnlyAt h id b (y ∷ ys) → (F : List Inst → X) (G : Inst → X) (H : Inst → X) → ((i : Inst) → F (i ∷ insts h ys) ≡ cond (same_id i.id id) (G i) (H i)) → (o : X) → (b ≡ y → (i : Inst) → h y ≡ Line place i → G i ≡ o) → ((b == y) ≡ false → (i : Inst) → h y ≡ Line place i → H i ≡ o) → F (line_then (h y) (insts h ys)) ≡ o
    step {X} y ys are only F G H is o own other = go (b == y) refl
      where
        at : (i : Inst) × (h y ≡ Line place i)
        at = are y (has-head y ys)

        go : (c : Bool) → (b == y) ≡ c → F (line_then (h y) (insts h ys)) ≡ o
        go true e = ap (λ x. F (line_then x (insts h ys))) at.1 ∙ is at.0 ∙ hit _ (only y (has-head y ys) place at.0 at.1 ∙ e) ∙ own (eq-is b y e) at.0 at.1
        go false e = ap (λ x. F (line_then x (insts h ys))) at.1 ∙ is at.0 ∙ miss _ (only y (has-head y ys) place at.0 at.1 ∙ e) ∙ other e at.0 at.1

    further : (y : ℕ) (ys : List ℕ) → has b (y ∷ ys) ≡ true → (b == y) ≡ false → has b ys ≡ true
    further y ys got ne = sym (miss true (eq-other y b (λ f. eq-not b y ne (sym f)))) ∙ got

    pub after-is : (a : ℕ) (ys : List ℕ) → Seg n p a ys t → AreLines h place ys → OnlyAt h id b ys → has b ys ≡ true → after id (insts h ys) ≡ id_in (h (n b))
    after-is a [] seg are only got = absurd (false-true got)
    after-is a (y ∷ ys) seg are only got =
        step y ys are only (after id) (λ i. id_of (insts h ys)) (λ i. after id (insts h ys)) (λ i. refl) (id_in (h (n b)))
        (λ e i f. first-is y ys seg.1 (more-lines h place y ys are) ∙ ap (λ x. id_in (h (n x))) (sym e))
        (λ ne i f. after-is y ys seg.1 (more-lines h place y ys are) (only-more h place id b y ys only) (further y ys got ne))

    pub before-is : (a : ℕ) (ys : List ℕ) (last : Option Id) → Seg n p a ys t → AreLines h place ys → OnlyAt h id b ys → has b ys ≡ true → last ≡ id_in (h a) → before id last (insts h ys) ≡ id_in (h (p b))
    before-is a [] last seg are only got is = absurd (false-true got)
    before-is a (y ∷ ys) last seg are only got is =
        step y ys are only (before id last) (λ i. last) (λ i. before id (Some i.id) (insts h ys)) (λ i. refl) (id_in (h (p b)))
        (λ e i f. is ∙ ap (λ x. id_in (h x)) (sym seg.0.1 ∙ ap p (sym e)))
        (λ ne i f. before-is y ys (Some i.id) seg.1 (more-lines h place y ys are) (only-more h place id b y ys only) (further y ys got ne) (ap id_in (sym f)))

module _ (a : Arena) (W : IsWhole a) where
  stop : (m : ℕ) (q : Place) → mark a q ≡ Some m → id_in (held a.nodes.items m) ≡ None
  stop m q e = ap id_in (W.rings.rings q m e).at_mark

  abbrev standing_as : Told → Standing
  standing_as t = record { place = t.place; block = contents a t.place; inst = t.inst }

  -- the node of an instruction, and what it says
  line-there : (id : Id) (S : StandsAt a id) → line_of a id ≡ Some S.at
  line-there id S = ap (option_and_then (λ y. option_map (λ (x : Id). y) (id_held a y))) S.node_is ∙ ap (λ x. option_map (λ (z : Id). S.at) (id_in x)) S.held_is

  line-gone : (id : Id) → standing a id ≡ None → line_of a id ≡ None
  line-gone id none = by (node a id) refl
    where
      by : (o : Option ℕ) → node a id ≡ o → option_and_then (λ y. option_map (λ (x : Id). y) (id_held a y)) o ≡ None
      by None e = refl
      by (Some y) e = ap (λ x. option_map (λ (z : Id). y) (id_in x)) (gone-at a W.rings id y none e)

  module _ (id : Id) (F : Standing → Option Id) (n : ℕ → ℕ) (is : (S : StandsAt a id) → F (standing_as (record { place = S.place; inst = S.inst })) ≡ id_held a (n S.at)) where
    pub beside-is : option_and_then (λ y. id_held a (n y)) (line_of a id) ≡ option_and_then F (found (seen a) id)
    beside-is = by (standing a id) refl
      where
        by : (o : Option Told) → standing a id ≡ o → option_and_then (λ y. id_held a (n y)) (line_of a id) ≡ option_and_then F (found (seen a) id)
        by None e = ap (option_and_then (λ y. id_held a (n y))) (line-gone id e) ∙ sym (ap (option_and_then F) (found-nowhere a W id e))
        by (Some t) e =
            let S = stands a W.rings id (ap Rattle.std.specs.Prelude.is_some e) in
            ap (option_and_then (λ y. id_held a (n y))) (line-there id S) ∙ sym (is S) ∙ sym (ap (option_and_then F) (found-here a W id S))

  module _ (id : Id) (S : StandsAt a id) where
    only-one : (y : ℕ) (q : Place) (i : Inst) → held a.nodes.items y ≡ Line q i → same_id i.id id ≡ (S.at == y)
    only-one y q i e = ap (same_id i.id) (sym S.id_is) ∙ only-at a W.rings S.at S.place S.inst S.held_is y q i e

    marked : (m : ℕ) × (mark a S.place ≡ Some m)
    marked = some-there (mark a S.place) (W.rings.lines S.at S.place S.inst S.held_is).marked

    pub after-there : after id (contents a S.place) ≡ id_held a (next a.nodes.items S.at)
    after-there =
        let r = W.rings.rings S.place marked.0 marked.1 in
        ap (after id) (contents-is a W.rings S.place marked.0 marked.1)
        ∙ after-is (held a.nodes.items) (next a.nodes.items) (prev a.nodes.items) S.place marked.0 (stop marked.0 S.place marked.1) id S.at marked.0 (W.rings.ring S.place) r.seg r.each (λ y got. only-one y) (W.rings.lines S.at S.place S.inst S.held_is).there

    pub before-there : before id None (contents a S.place) ≡ id_held a (prev a.nodes.items S.at)
    before-there =
        let r = W.rings.rings S.place marked.0 marked.1 in
        ap (before id None) (contents-is a W.rings S.place marked.0 marked.1)
        ∙ before-is (held a.nodes.items) (next a.nodes.items) (prev a.nodes.items) S.place marked.0 (stop marked.0 S.place marked.1) id S.at marked.0 (W.rings.ring S.place) None r.seg r.each (λ y got. only-one y) (W.rings.lines S.at S.place S.inst S.held_is).there (sym (stop marked.0 S.place marked.1))

  pub next-is : (id : Id) → next_of a id ≡ option_and_then (λ s. after id s.block) (found (seen a) id)
  next-is id = beside-is id (λ s. after id s.block) (next a.nodes.items) (after-there id)

  pub prev-is : (id : Id) → prev_of a id ≡ option_and_then (λ s. before id None s.block) (found (seen a) id)
  prev-is id = beside-is id (λ s. before id None s.block) (prev a.nodes.items) (before-there id)

  pub first-there : (q : Place) → first_of a q ≡ first_in q.block (slice_get (funcs_of (seen a).items) q.func)
  first-there q = by (mark a q) refl ∙ sym (first-filled (contents a) a.frame q)
    where
      no-block : mark a q ≡ None → (b : Bool) → cond b (id_of (contents a q)) None ≡ None
      no-block e true = ap id_of (contents-none a W.rings q e)
      no-block e false = refl

      by : (o : Option ℕ) → mark a q ≡ o → option_and_then (λ y. id_held a (next a.nodes.items y)) (mark a q) ≡ cond (has_block a.frame q) (id_of (contents a q)) None
      by None e = ap (option_and_then (λ y. id_held a (next a.nodes.items y))) e ∙ sym (no-block e (has_block a.frame q))
      by (Some m) e =
          let r = W.rings.rings q m e in
          ap (option_and_then (λ y. id_held a (next a.nodes.items y))) e
          ∙ sym (first-is (held a.nodes.items) (next a.nodes.items) (prev a.nodes.items) q m (stop m q e) m (W.rings.ring q) r.seg r.each)
          ∙ sym (ap id_of (contents-is a W.rings q m e))
          ∙ sym (hit None (sym (W.marked q) ∙ (ap Rattle.std.specs.Prelude.is_some e)))
