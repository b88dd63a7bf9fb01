-- The instructions along a ring, and what they become where one comes, goes or is put in the place of another.
use Rattle.std.proofs.Common.{◌≡◌, refl, sym, ap, ◌∙◌, ℕ, zero, suc, ◌-◌, ◌<◌, ◌≤◌, ◌==◌, Bool, true, false, None, Some, List, [], ◌∷◌, ◌++◌, length, cond, arith}
use Rattle.ir_types.specs.declared.id.Id.{Id}
use Rattle.ir_types.specs.declared.id.Place.{Place}
use Rattle.ir_types.specs.declared.inst.Inst.{Inst}
use Rattle.ir_types.specs.Available.{same_id}
use Rattle.vx_view.specs.Answers.{find}
use Rattle.vx_view.specs.Changes.{Edit, each}
use Rattle.sb_lines.specs.declared.nodes.Held.{Held}
use Rattle.sb_lines.specs.declared.nodes.Held.TheVariants.{Block, Line, Gone}
use Rattle.sb_lines.specs.Nodes.{lines, line_then}
use Rattle.sb_lines.specs.Arena.{inst_in}
use Rattle.sb_lines.specs.Whole.{has, Apart, Seg}
use Rattle.sb_lines.proofs.Rings.{false-true, eq-is, eq-not, eq-other, miss, has-head, has-more, lacks-head, lacks-more, differ, without, put_before}

-- ---- the instructions of some nodes

abbrev pub insts : (ℕ → Held) → List ℕ → List Inst
insts h [] = []
insts h (y ∷ ys) = line_then (h y) (insts h ys)

-- each node holds an instruction of a block
abbrev pub AreLines : (ℕ → Held) → Place → List ℕ → Type 0
AreLines h place ys = (y : ℕ) → has y ys ≡ true → (inst : Inst) × (h y ≡ Line place inst)

pub more-lines : (h : ℕ → Held) (place : Place) (y : ℕ) (ys : List ℕ) → AreLines h place (y ∷ ys) → AreLines h place ys
more-lines h place y ys are w got = are w (has-more y w ys got)

-- what the walk finds
pub walked : (h : ℕ → Held) (n p : ℕ → ℕ) (place : Place) (a : ℕ) (ys : List ℕ) (t k : ℕ) → Seg n p a ys t → AreLines h place ys → ((rest : List Inst) → line_then (h t) rest ≡ []) → length ys ≤ k → lines h n k a ≡ insts h ys
walked h n p place a [] t zero seg are ends le = refl
walked h n p place a [] t (suc k) seg are ends le = ap (λ x. line_then (h x) (lines h n k x)) seg.0 ∙ ends (lines h n k t)
walked h n p place a (y ∷ ys) t zero seg are ends le = absurd (omega (arith, le))
walked h n p place a (y ∷ ys) t (suc k) seg are ends le =
    ap (λ x. line_then (h x) (lines h n k x)) seg.0.0
    ∙ ap (λ r. line_then (h y) r) (walked h n p place y ys t k seg.1 (more-lines h place y ys are) ends (omega (arith, le)))

-- ---- edits

-- a node that keeps what it holds, and an edit that leaves that
pub record IsKept (h g : ℕ → Held) (F : Edit) (y : ℕ) : Type 0 where
  pub place : Place
  pub inst : Inst
  pub was : h y ≡ Line place inst
  pub is : g y ≡ Line place inst
  pub left : F inst ≡ inst ∷ []

abbrev pub AllKept : (ℕ → Held) → (ℕ → Held) → Edit → List ℕ → Type 0
AllKept h g F ys = (y : ℕ) → has y ys ≡ true → IsKept h g F y

pub insts-same : (h g : ℕ → Held) (F : Edit) (ys : List ℕ) → AllKept h g F ys → insts g ys ≡ each F (insts h ys)
insts-same h g F [] same = refl
insts-same h g F (y ∷ ys) same =
    let at = same y (has-head y ys) in
    ap (λ x. line_then x (insts g ys)) at.is
    ∙ ap (λ r. at.inst ∷ r) (insts-same h g F ys (λ w got. same w (has-more y w ys got)))
    ∙ ap (λ r. r ++ each F (insts h ys)) (sym at.left)
    ∙ ap (λ x. each F (line_then x (insts h ys))) (sym at.was)

-- one node's instruction becomes others, and the rest is kept
module _ (h g : ℕ → Held) (F : Edit) (b : ℕ) where
  abbrev pub OthersKept : List ℕ → Type 0
  OthersKept ys = (y : ℕ) → has y ys ≡ true → (b == y) ≡ false → IsKept h g F y

  others-more : (y : ℕ) (ys : List ℕ) → OthersKept (y ∷ ys) → OthersKept ys
  others-more y ys kept w got ne = kept w (has-more y w ys got) ne

  rest-kept : (y : ℕ) (ys : List ℕ) → y ≡ b → has y ys ≡ false → OthersKept ys → AllKept h g F ys
  rest-kept y ys e lacks kept w got = kept w got (eq-other b w (λ f. differ y w ys lacks got (e ∙ f)))

  one-kept : (y : ℕ) (ys : List ℕ) (r : List Inst) → IsKept h g F y → r ≡ each F (insts h ys) → line_then (g y) r ≡ each F (insts h (y ∷ ys))
  one-kept y ys r at rest =
      ap (λ x. line_then x r) at.is
      ∙ ap (λ q. at.inst ∷ q) rest
      ∙ ap (λ q. q ++ each F (insts h ys)) (sym at.left)
      ∙ ap (λ x. each F (line_then x (insts h ys))) (sym at.was)

  -- the node goes
  pub insts-out : (place : Place) (i : Inst) → h b ≡ Line place i → F i ≡ [] → (ys : List ℕ) → Apart ys → OthersKept ys → insts g (without b ys) ≡ each F (insts h ys)
  insts-out place i was gone [] apart kept = refl
  insts-out place i was gone (y ∷ ys) apart kept = go (y == b) refl (insts-out place i was gone ys apart.1 (others-more y ys kept))
    where
      go : (c : Bool) → (y == b) ≡ c → insts g (without b ys) ≡ each F (insts h ys) → insts g (cond c ys (y ∷ without b ys)) ≡ each F (insts h (y ∷ ys))
      go true e rest =
          insts-same h g F ys (rest-kept y ys (eq-is y b e) apart.0 (others-more y ys kept))
          ∙ ap (λ q. q ++ each F (insts h ys)) (sym gone)
          ∙ ap (λ x. each F (line_then x (insts h ys))) (sym was ∙ ap h (sym (eq-is y b e)))
      go false e rest = one-kept y ys (insts g (without b ys)) (kept y (has-head y ys) (eq-other b y (λ f. eq-not y b e (sym f)))) rest

  -- another instruction in its place
  pub insts-set : (place : Place) (i j : Inst) → h b ≡ Line place i → g b ≡ Line place j → F i ≡ j ∷ [] → (ys : List ℕ) → Apart ys → OthersKept ys → insts g ys ≡ each F (insts h ys)
  insts-set place i j was is set [] apart kept = refl
  insts-set place i j was is set (y ∷ ys) apart kept = go (y == b) refl (insts-set place i j was is set ys apart.1 (others-more y ys kept))
    where
      go : (c : Bool) → (y == b) ≡ c → insts g ys ≡ each F (insts h ys) → line_then (g y) (insts g ys) ≡ each F (insts h (y ∷ ys))
      go true e rest =
          ap (λ x. line_then x (insts g ys)) (ap g (eq-is y b e) ∙ is)
          ∙ ap (λ q. j ∷ q) rest
          ∙ ap (λ q. q ++ each F (insts h ys)) (sym set)
          ∙ ap (λ x. each F (line_then x (insts h ys))) (sym was ∙ ap h (sym (eq-is y b e)))
      go false e rest = one-kept y ys (insts g ys) (kept y (has-head y ys) (eq-other b y (λ f. eq-not y b e (sym f)))) rest

  -- a new one before it
  pub insts-in : (place : Place) (i new : Inst) (u : ℕ) → h b ≡ Line place i → g b ≡ Line place i → g u ≡ Line place new → F i ≡ new ∷ i ∷ [] → (ys : List ℕ) → Apart ys → has b ys ≡ true → OthersKept ys → insts g (put_before b u ys) ≡ each F (insts h ys)
  insts-in place i new u was is came set [] apart got kept = absurd (false-true got)
  insts-in place i new u was is came set (y ∷ ys) apart got kept = go (y == b) refl got (λ r. insts-in place i new u was is came set ys apart.1 r (others-more y ys kept))
    where
      go : (c : Bool) → (y == b) ≡ c → cond c true (has b ys) ≡ true → (has b ys ≡ true → insts g (put_before b u ys) ≡ each F (insts h ys)) → insts g (cond c (u ∷ y ∷ ys) (y ∷ put_before b u ys)) ≡ each F (insts h (y ∷ ys))
      go true e r rest =
          ap (λ x. line_then x (line_then (g y) (insts g ys))) came
          ∙ ap (λ x. new ∷ line_then x (insts g ys)) (ap g (eq-is y b e) ∙ is)
          ∙ ap (λ q. new ∷ i ∷ q) (insts-same h g F ys (rest-kept y ys (eq-is y b e) apart.0 (others-more y ys kept)))
          ∙ ap (λ q. q ++ each F (insts h ys)) (sym set)
          ∙ ap (λ x. each F (line_then x (insts h ys))) (sym was ∙ ap h (sym (eq-is y b e)))
      go false e r rest = one-kept y ys (insts g (put_before b u ys)) (kept y (has-head y ys) (eq-other b y (λ f. eq-not y b e (sym f)))) (rest r)

-- nodes that keep what they hold
pub insts-kept : (h g : ℕ → Held) (ys : List ℕ) → ((y : ℕ) → has y ys ≡ true → g y ≡ h y) → insts g ys ≡ insts h ys
insts-kept h g [] same = refl
insts-kept h g (y ∷ ys) same =
    ap (λ x. line_then x (insts g ys)) (same y (has-head y ys))
    ∙ ap (λ r. line_then (h y) r) (insts-kept h g ys (λ w got. same w (has-more y w ys got)))

-- a new one at the end
pub insts-end : (h g : ℕ → Held) (place : Place) (b u : ℕ) (new : Inst) (ys : List ℕ) → g u ≡ Line place new → has b ys ≡ false → AreLines h place ys → ((y : ℕ) → has y ys ≡ true → g y ≡ h y) → insts g (put_before b u ys) ≡ insts h ys ++ new ∷ []
insts-end h g place b u new [] came lacks are same = ap (λ x. line_then x []) came
insts-end h g place b u new (y ∷ ys) came lacks are same =
    ap (insts g) (miss (u ∷ y ∷ ys) (eq-other y b (lacks-head y b ys lacks)))
    ∙ ap (λ x. line_then x (insts g (put_before b u ys))) (same y (has-head y ys))
    ∙ by (h y) (are y (has-head y ys)) (insts-end h g place b u new ys came (lacks-more y b ys lacks) (more-lines h place y ys are) (λ w got. same w (has-more y w ys got)))
  where
    by : (x : Held) → (i : Inst) × (x ≡ Line place i) → insts g (put_before b u ys) ≡ insts h ys ++ new ∷ [] → line_then x (insts g (put_before b u ys)) ≡ line_then x (insts h ys) ++ new ∷ []
    by x i rest =
        ap (λ z. line_then z (insts g (put_before b u ys))) i.1
        ∙ ap (λ r. i.0 ∷ r) rest
        ∙ ap (λ z. line_then z (insts h ys) ++ new ∷ []) (sym i.1)

-- ---- looking for an id along a ring

-- the instruction of an id is that of one node
abbrev pub OnlyAt : (ℕ → Held) → Id → ℕ → List ℕ → Type 0
OnlyAt h id b ys = (y : ℕ) → has y ys ≡ true → (place : Place) (i : Inst) → h y ≡ Line place i → same_id i.id id ≡ (b == y)

module _ (h : ℕ → Held) (place : Place) (id : Id) (b : ℕ) where
  pub only-more : (y : ℕ) (ys : List ℕ) → OnlyAt h id b (y ∷ ys) → OnlyAt h id b ys
  only-more y ys only w got = only w (has-more y w ys got)

  -- it is found where the node is
  pub find-there : (i : Inst) → h b ≡ Line place i → (ys : List ℕ) → AreLines h place ys → OnlyAt h id b ys → has b ys ≡ true → find id (insts h ys) ≡ Some i
  find-there i is [] are only got = absurd (false-true got)
  find-there i is (y ∷ ys) are only got =
      let at = are y (has-head y ys) in
      ap (λ x. find id (line_then x (insts h ys))) at.1
      ∙ ap (λ t. cond t (Some at.0) (find id (insts h ys))) (only y (has-head y ys) place at.0 at.1)
      ∙ go (b == y) refl at (λ r. find-there i is ys (more-lines h place y ys are) (only-more y ys only) r)
    where
      line-is : (x : Held) (k j : Inst) → x ≡ Line place k → x ≡ Line place j → k ≡ j
      line-is x k j e f = same (sym e ∙ f)
        where
          same : Line place k ≡ Line place j → k ≡ j
          same g = cc

      go : (c : Bool) → (b == y) ≡ c → (at : (k : Inst) × (h y ≡ Line place k)) → (has b ys ≡ true → find id (insts h ys) ≡ Some i) → cond c (Some at.0) (find id (insts h ys)) ≡ Some i
      go true e at rest = ap Some (line-is (h y) at.0 i at.1 (ap h (sym (eq-is b y e)) ∙ is))
      go false e at rest = rest (sym (miss true (eq-other y b (λ f. eq-not b y e (sym f)))) ∙ got)

  -- and nowhere else
  pub find-none : (ys : List ℕ) → AreLines h place ys → OnlyAt h id b ys → has b ys ≡ false → find id (insts h ys) ≡ None
  find-none [] are only lacks = refl
  find-none (y ∷ ys) are only lacks =
      let at = are y (has-head y ys) in
      ap (λ x. find id (line_then x (insts h ys))) at.1
      ∙ ap (λ t. cond t (Some at.0) (find id (insts h ys))) (only y (has-head y ys) place at.0 at.1 ∙ eq-other b y (λ f. lacks-head y b ys lacks (sym f)))
      ∙ find-none ys (more-lines h place y ys are) (only-more y ys only) (lacks-more y b ys lacks)

-- ---- a step of the walk

pub step-some : (h : ℕ → Held) (n : ℕ → ℕ) (left at : ℕ) (i : Inst) → 0 < left → inst_in (h (n at)) ≡ Some i → lines h n left at ≡ i ∷ lines h n (left - 1) (n at)
step-some h n zero at i pos e = absurd (omega (arith, pos))
step-some h n (suc k) at i pos e =
    let one : k ≡ suc k - 1 = omega (arith) in
    by (h (n at)) e ∙ ap (λ j. i ∷ lines h n j (n at)) one
  where
    by : (x : Held) → inst_in x ≡ Some i → line_then x (lines h n k (n at)) ≡ i ∷ lines h n k (n at)
    by (Line p j) f = ap (λ v. v ∷ lines h n k (n at)) (same f)
      where
        same : Some j ≡ Some i → j ≡ i
        same g = cc
    by (Block p) f = absurd cc
    by Gone f = absurd cc
