-- What a ring's nodes name of each other, and what is left of that where a node is taken out or put in.
use Rattle.std.proofs.Common.{◌≡◌, refl, sym, ap, ◌∙◌, subst, ℕ, zero, suc, ◌≤◌, ◌<◌, ◌==◌, Bool, true, false, List, [], ◌∷◌, length, cond, arith}
use Rattle.std.proofs.lemmas.Bool.Decides.{nat_tests}
use Rattle.sb_lines.specs.Whole.{has, Apart, Seg}

-- ---- tests

pub false-true : false ≡ true → ⊥
false-true h = cc

pub eq-is : (a b : ℕ) → (a == b) ≡ true → a ≡ b
eq-is a b h = grind (arith, nat_tests)

pub eq-itself : (a : ℕ) → (a == a) ≡ true
eq-itself a = grind (arith, nat_tests)

pub to-false : (b : Bool) → (b ≡ true → ⊥) → b ≡ false
to-false true n = absurd (n refl)
to-false false n = refl

pub eq-other : (a b : ℕ) → (a ≡ b → ⊥) → (a == b) ≡ false
eq-other a b n = to-false (a == b) (λ h. n (eq-is a b h))

pub eq-not : (a b : ℕ) → (a == b) ≡ false → a ≡ b → ⊥
eq-not a b h e = false-true (sym h ∙ subst (λ x. (a == x) ≡ true) e (eq-itself a))

pub eq-true : (a b : ℕ) → a ≡ b → (a == b) ≡ true
eq-true a b e = subst (λ x. (a == x) ≡ true) e (eq-itself a)

pub hit : {X : Type 0} {b : Bool} {x : X} (y : X) → b ≡ true → cond b x y ≡ x
hit {X} {b} {x} y e = ap (λ t. cond t x y) e

pub miss : {X : Type 0} {b : Bool} (x : X) {y : X} → b ≡ false → cond b x y ≡ y
miss {X} {b} x {y} e = ap (λ t. cond t x y) e

-- ---- membership

pub has-head : (v : ℕ) (vs : List ℕ) → has v (v ∷ vs) ≡ true
has-head v vs = hit _ (eq-itself v)

pub has-more : (v u : ℕ) (vs : List ℕ) → has u vs ≡ true → has u (v ∷ vs) ≡ true
has-more v u vs h = go (v == u)
  where
    go : (b : Bool) → cond b true (has u vs) ≡ true
    go true = refl
    go false = h

-- what is in a list with a first node is that or another
pub has-split : {X : Type 0} (v u : ℕ) (vs : List ℕ) → has u (v ∷ vs) ≡ true → (v ≡ u → X) → ((v == u) ≡ false → has u vs ≡ true → X) → X
has-split {X} v u vs h this others = go (v == u) refl h
  where
    go : (b : Bool) → (v == u) ≡ b → cond b true (has u vs) ≡ true → X
    go true e h = this (eq-is v u e)
    go false e h = others e h

pub lacks-head : (v u : ℕ) (vs : List ℕ) → has u (v ∷ vs) ≡ false → v ≡ u → ⊥
lacks-head v u vs h e = false-true (sym h ∙ subst (λ x. has x (v ∷ vs) ≡ true) e (has-head v vs))

pub lacks-more : (v u : ℕ) (vs : List ℕ) → has u (v ∷ vs) ≡ false → has u vs ≡ false
lacks-more v u vs h = go (v == u) h
  where
    go : (b : Bool) → cond b true (has u vs) ≡ false → has u vs ≡ false
    go true e = absurd (false-true (sym e))
    go false e = e

-- one that the list lacks is none that it has
pub differ : (u w : ℕ) (us : List ℕ) → has u us ≡ false → has w us ≡ true → u ≡ w → ⊥
differ u w us lacks got e = false-true (sym lacks ∙ subst (λ x. has x us ≡ true) (sym e) got)

-- ---- rings

module _ (n p : ℕ → ℕ) where
  pub first-back : (a : ℕ) (us : List ℕ) (t : ℕ) → Seg n p a us t → p (n a) ≡ a
  first-back a [] t seg = ap p seg.0 ∙ seg.1
  first-back a (u ∷ us) t seg = ap p seg.0.0 ∙ seg.0.1

  pub last-back : (a : ℕ) (us : List ℕ) (t : ℕ) → Seg n p a us t → n (p t) ≡ t
  last-back a [] t seg = ap n seg.1 ∙ seg.0
  last-back a (u ∷ us) t seg = last-back u us t seg.1

  pub prev-next : (a : ℕ) (us : List ℕ) (t u : ℕ) → Seg n p a us t → has u us ≡ true → n (p u) ≡ u
  prev-next a [] t u seg got = absurd (false-true got)
  prev-next a (v ∷ vs) t u seg got =
      has-split v u vs got
      (λ e. subst (λ x. n (p x) ≡ x) e (ap n seg.0.1 ∙ seg.0.0))
      (λ _ h. prev-next v vs t u seg.1 h)

  pub next-prev : (a : ℕ) (us : List ℕ) (t u : ℕ) → Seg n p a us t → has u us ≡ true → p (n u) ≡ u
  next-prev a [] t u seg got = absurd (false-true got)
  next-prev a (v ∷ vs) t u seg got =
      has-split v u vs got
      (λ e. subst (λ x. p (n x) ≡ x) e (first-back v vs t seg.1))
      (λ _ h. next-prev v vs t u seg.1 h)

  -- what is after a node of the ring is another one, or the end
  pub next-in : (a : ℕ) (us : List ℕ) (t u : ℕ) → Seg n p a us t → has u us ≡ true → has (n u) us ≡ false → n u ≡ t
  next-in a [] t u seg got lacks = absurd (false-true got)
  next-in a (v ∷ vs) t u seg got lacks =
      has-split v u vs got
      (λ e. first vs seg.1 e (lacks-more v (n u) vs lacks))
      (λ _ h. next-in v vs t u seg.1 h (lacks-more v (n u) vs lacks))
    where
      first : (ws : List ℕ) → Seg n p v ws t → v ≡ u → has (n u) ws ≡ false → n u ≡ t
      first [] s e l = ap n (sym e) ∙ s.0
      first (w ∷ ws) s e l = absurd (lacks-head w (n u) ws l (sym s.0.0 ∙ ap n e))

  -- and what is before it another one, or the beginning
  pub prev-in : (a : ℕ) (us : List ℕ) (t u : ℕ) → Seg n p a us t → has u us ≡ true → (p u ≡ a → ⊥) → has (p u) us ≡ true
  prev-in a [] t u seg got ne = absurd (false-true got)
  prev-in a (v ∷ vs) t u seg got ne =
      has-split v u vs got
      (λ e. absurd (ne (ap p (sym e) ∙ seg.0.1)))
      (λ _ h. go (p u == v) refl (prev-in v vs t u seg.1 h))
    where
      go : (b : Bool) → (p u == v) ≡ b → ((p u ≡ v → ⊥) → has (p u) vs ≡ true) → has (p u) (v ∷ vs) ≡ true
      go true e rest = subst (λ x. has x (v ∷ vs) ≡ true) (sym (eq-is (p u) v e)) (has-head v vs)
      go false e rest = has-more v (p u) vs (rest (eq-not (p u) v e))

  pub last-in : (a : ℕ) (us : List ℕ) (t : ℕ) → Seg n p a us t → (p t ≡ a → ⊥) → has (p t) us ≡ true
  last-in a [] t seg ne = absurd (ne seg.1)
  last-in a (v ∷ vs) t seg ne = go (p t == v) refl (last-in v vs t seg.1)
    where
      go : (b : Bool) → (p t == v) ≡ b → ((p t ≡ v → ⊥) → has (p t) vs ≡ true) → has (p t) (v ∷ vs) ≡ true
      go true e rest = subst (λ x. has x (v ∷ vs) ≡ true) (sym (eq-is (p t) v e)) (has-head v vs)
      go false e rest = has-more v (p t) vs (rest (eq-not (p t) v e))

  -- no node is after itself
  pub loops : (a : ℕ) (us : List ℕ) (t u : ℕ) → Seg n p a us t → Apart us → has t us ≡ false → has u us ≡ true → n u ≡ u → ⊥
  loops a [] t u seg apart lt got e = false-true got
  loops a (v ∷ vs) t u seg apart lt got e =
      has-split v u vs got
      (λ is. first vs seg.1 apart.0 is)
      (λ _ h. loops v vs t u seg.1 apart.1 (lacks-more v t vs lt) h e)
    where
      first : (ws : List ℕ) → Seg n p v ws t → has v ws ≡ false → v ≡ u → ⊥
      first [] s l is = lacks-head v t vs lt (is ∙ sym e ∙ ap n (sym is) ∙ s.0)
      first (w ∷ ws) s l is = lacks-head w v ws l (sym s.0.0 ∙ ap n is ∙ e ∙ sym is)

-- nodes that keep their neighbours
pub seg-same : (n m p q : ℕ → ℕ) (a : ℕ) (us : List ℕ) (t : ℕ) → Seg n p a us t → m a ≡ n a → ((w : ℕ) → has w us ≡ true → m w ≡ n w) → ((w : ℕ) → has w us ≡ true → q w ≡ p w) → q t ≡ p t → Seg m q a us t
seg-same n m p q a [] t seg e nexts prevs f = (e ∙ seg.0, f ∙ seg.1)
seg-same n m p q a (u ∷ us) t seg e nexts prevs f = (
  (e ∙ seg.0.0, prevs u (has-head u us) ∙ seg.0.1),
  seg-same n m p q u us t seg.1 (nexts u (has-head u us)) (λ w h. nexts w (has-more u w us h)) (λ w h. prevs w (has-more u w us h)) f,
)

-- ---- a node taken out

abbrev pub without : ℕ → List ℕ → List ℕ
without u [] = []
without u (x ∷ xs) = cond (x == u) xs (x ∷ without u xs)

-- what the two writes leave that take a node out, up to its own links
pub record TakenOut (n m p q : ℕ → ℕ) (u : ℕ) : Type 0 where
  pub next : (x : ℕ) → (u == x) ≡ false → m x ≡ cond (p u == x) (n u) (n x)
  pub prev : (x : ℕ) → (u == x) ≡ false → q x ≡ cond (n u == x) (p u) (p x)

module _ (n m p q : ℕ → ℕ) (u : ℕ) (T : TakenOut n m p q u) where
  out-at : (x : ℕ) → (u ≡ x → ⊥) → p u ≡ x → m x ≡ n u
  out-at x ne e = T.next x (eq-other u x ne) ∙ hit _ (eq-true (p u) x e)

  out-else : (x : ℕ) → (u ≡ x → ⊥) → (p u ≡ x → ⊥) → m x ≡ n x
  out-else x ne np = T.next x (eq-other u x ne) ∙ miss _ (eq-other (p u) x np)

  back-at : (x : ℕ) → (u ≡ x → ⊥) → n u ≡ x → q x ≡ p u
  back-at x ne e = T.prev x (eq-other u x ne) ∙ hit _ (eq-true (n u) x e)

  back-else : (x : ℕ) → (u ≡ x → ⊥) → (n u ≡ x → ⊥) → q x ≡ p x
  back-else x ne nn = T.prev x (eq-other u x ne) ∙ miss _ (eq-other (n u) x nn)

  out-here : (a : ℕ) (us : List ℕ) (t : ℕ) → Seg n p a (u ∷ us) t → Apart (u ∷ us) → has a (u ∷ us) ≡ false → has t (u ∷ us) ≡ false → Seg m q a us t
  out-here a [] t seg apart la lt = (
    out-at a (lacks-head u a [] la) seg.0.1 ∙ seg.1.0,
    back-at t (lacks-head u t [] lt) seg.1.0 ∙ seg.0.1,
  )
  out-here a (y ∷ ys) t seg apart la lt = (
    (out-at a (lacks-head u a (y ∷ ys) la) seg.0.1 ∙ seg.1.0.0, back-at y (flip (lacks-head y u ys apart.0)) seg.1.0.0 ∙ seg.0.1),
    seg-same n m p q y ys t seg.1.1 (keep-next y (has-head y ys)) (λ w h. keep-next w (has-more y w ys h)) keep-prev (back-else t (lacks-head u t (y ∷ ys) lt) (λ e. lacks-head y t ys (lacks-more u t (y ∷ ys) lt) (sym seg.1.0.0 ∙ e))),
  )
    where
      flip : (y ≡ u → ⊥) → u ≡ y → ⊥
      flip f e = f (sym e)

      keep-next : (w : ℕ) → has w (y ∷ ys) ≡ true → m w ≡ n w
      keep-next w h = out-else w (differ u w (y ∷ ys) apart.0 h) (λ e. differ a w (y ∷ ys) (lacks-more u a (y ∷ ys) la) h (sym seg.0.1 ∙ e))

      keep-prev : (w : ℕ) → has w ys ≡ true → q w ≡ p w
      keep-prev w h = back-else w (differ u w (y ∷ ys) apart.0 (has-more y w ys h)) (λ e. differ y w ys apart.1.0 h (sym seg.1.0.0 ∙ e))

  pub take-out : (a : ℕ) (us : List ℕ) (t : ℕ) → Seg n p a us t → Apart us → has a us ≡ false → has t us ≡ false → has u us ≡ true → Seg m q a (without u us) t
  take-out a [] t seg apart la lt got = absurd (false-true got)
  take-out a (x ∷ xs) t seg apart la lt got = go (x == u) refl got (take-out x xs t seg.1 apart.1 apart.0 (lacks-more x t xs lt))
    where
      go : (b : Bool) → (x == u) ≡ b → cond b true (has u xs) ≡ true → (has u xs ≡ true → Seg m q x (without u xs) t) → Seg m q a (cond b xs (x ∷ without u xs)) t
      go true e h rest =
          let is = eq-is x u e in
          out-here a xs t (subst (λ y. Seg n p a (y ∷ xs) t) is seg) (subst (λ y. Apart (y ∷ xs)) is apart) (subst (λ y. has a (y ∷ xs) ≡ false) is la) (subst (λ y. has t (y ∷ xs) ≡ false) is lt)
      go false e h rest =
          let in_all = has-more x u xs h in (
            (
              out-else a (λ f. differ a u (x ∷ xs) la in_all (sym f)) (λ f. eq-not x u e (sym seg.0.0 ∙ ap n (sym f) ∙ prev-next n p a (x ∷ xs) t u seg in_all)) ∙ seg.0.0,
              back-else x (λ f. eq-not x u e (sym f)) (λ f. differ a u (x ∷ xs) la in_all (sym seg.0.1 ∙ ap p (sym f) ∙ next-prev n p a (x ∷ xs) t u seg in_all)) ∙ seg.0.1,
            ),
            rest h,
          )

-- ---- a node put in

-- before another, or at the end
abbrev pub put_before : ℕ → ℕ → List ℕ → List ℕ
put_before b u [] = u ∷ []
put_before b u (x ∷ xs) = cond (x == b) (u ∷ x ∷ xs) (x ∷ put_before b u xs)

-- what the four writes leave that put `u` before `b`
pub record PutIn (n m p q : ℕ → ℕ) (b u : ℕ) : Type 0 where
  pub next : (x : ℕ) → m x ≡ cond (p b == x) u (cond (u == x) b (n x))
  pub prev : (x : ℕ) → q x ≡ cond (b == x) u (cond (u == x) (p b) (p x))

-- the node is one of the ring, or its end
abbrev pub InOrEnd : ℕ → List ℕ → ℕ → Type 0
InOrEnd b us t = has b us ≡ false → b ≡ t

module _ (n m p q : ℕ → ℕ) (b u : ℕ) (P : PutIn n m p q b u) where
  next-at : (x : ℕ) → p b ≡ x → m x ≡ u
  next-at x e = P.next x ∙ hit _ (eq-true (p b) x e)

  next-new : (p b ≡ u → ⊥) → m u ≡ b
  next-new ne = P.next u ∙ miss _ (eq-other (p b) u ne) ∙ hit _ (eq-itself u)

  next-else : (x : ℕ) → (p b ≡ x → ⊥) → (u ≡ x → ⊥) → m x ≡ n x
  next-else x ne nu = P.next x ∙ miss _ (eq-other (p b) x ne) ∙ miss _ (eq-other u x nu)

  prev-at : (x : ℕ) → b ≡ x → q x ≡ u
  prev-at x e = P.prev x ∙ hit _ (eq-true b x e)

  prev-new : (b ≡ u → ⊥) → q u ≡ p b
  prev-new ne = P.prev u ∙ miss _ (eq-other b u ne) ∙ hit _ (eq-itself u)

  prev-else : (x : ℕ) → (b ≡ x → ⊥) → (u ≡ x → ⊥) → q x ≡ p x
  prev-else x ne nu = P.prev x ∙ miss _ (eq-other b x ne) ∙ miss _ (eq-other u x nu)

  put-here : (a : ℕ) (us : List ℕ) (t : ℕ) → Seg n p a (b ∷ us) t → Apart (b ∷ us) → has a (b ∷ us) ≡ false → has t (b ∷ us) ≡ false → has u (b ∷ us) ≡ false → (u ≡ a → ⊥) → (u ≡ t → ⊥) → Seg m q a (u ∷ b ∷ us) t
  put-here a us t seg apart la lt lu ua ut = (
    (next-at a seg.0.1, prev-new (lacks-head b u us lu) ∙ seg.0.1),
    (
      (next-new (λ e. ua (sym e ∙ seg.0.1)), prev-at b refl),
      seg-same n m p q b us t seg.1 (keep-next b (has-head b us)) (λ w h. keep-next w (has-more b w us h)) keep-prev (prev-else t (lacks-head b t us lt) ut),
    ),
  )
    where
      keep-next : (w : ℕ) → has w (b ∷ us) ≡ true → m w ≡ n w
      keep-next w h = next-else w (λ e. differ a w (b ∷ us) la h (sym seg.0.1 ∙ e)) (differ u w (b ∷ us) lu h)

      keep-prev : (w : ℕ) → has w us ≡ true → q w ≡ p w
      keep-prev w h = prev-else w (differ b w us apart.0 h) (differ u w (b ∷ us) lu (has-more b w us h))

  put-last : (a t : ℕ) → Seg n p a [] t → b ≡ t → (u ≡ a → ⊥) → (u ≡ t → ⊥) → Seg m q a (u ∷ []) t
  put-last a t seg e ua ut =
      let at_a : p b ≡ a = ap p e ∙ seg.1 in (
        (next-at a at_a, prev-new (λ f. ut (sym f ∙ e)) ∙ at_a),
        (next-new (λ f. ua (sym f ∙ at_a)) ∙ e, prev-at t e),
      )

  pub put-in : (a : ℕ) (us : List ℕ) (t : ℕ) → Seg n p a us t → Apart us → has a us ≡ false → has t us ≡ false → has u us ≡ false → (u ≡ a → ⊥) → (u ≡ t → ⊥) → InOrEnd b us t → Seg m q a (put_before b u us) t
  put-in a [] t seg apart la lt lu ua ut place = put-last a t seg (place refl) ua ut
  put-in a (x ∷ xs) t seg apart la lt lu ua ut place = go (x == b) refl (put-in x xs t seg.1 apart.1 apart.0 (lacks-more x t xs lt) (lacks-more x u xs lu) (λ e. lacks-head x u xs lu (sym e)) ut)
    where
      further : (x == b) ≡ false → InOrEnd b xs t
      further e lacks = place (miss true e ∙ lacks)

      named : (x == b) ≡ false → n (p b) ≡ b
      named e = by (has b (x ∷ xs)) refl
        where
          by : (c : Bool) → has b (x ∷ xs) ≡ c → n (p b) ≡ b
          by true h = prev-next n p a (x ∷ xs) t b seg h
          by false h = subst (λ y. n (p y) ≡ y) (sym (place h)) (last-back n p a (x ∷ xs) t seg)

      go : (c : Bool) → (x == b) ≡ c → (InOrEnd b xs t → Seg m q x (put_before b u xs) t) → Seg m q a (cond c (u ∷ x ∷ xs) (x ∷ put_before b u xs)) t
      go true e rest =
          let is = eq-is x b e in
          subst (λ y. Seg m q a (u ∷ y ∷ xs) t) (sym is)
          (put-here a xs t (subst (λ y. Seg n p a (y ∷ xs) t) is seg) (subst (λ y. Apart (y ∷ xs)) is apart) (subst (λ y. has a (y ∷ xs) ≡ false) is la) (subst (λ y. has t (y ∷ xs) ≡ false) is lt) (subst (λ y. has u (y ∷ xs) ≡ false) is lu) ua ut)
      go false e rest = (
        (
          next-else a (λ f. eq-not x b e (sym seg.0.0 ∙ ap n (sym f) ∙ named e)) ua ∙ seg.0.0,
          prev-else x (λ f. eq-not x b e (sym f)) (λ f. lacks-head x u xs lu (sym f)) ∙ seg.0.1,
        ),
        rest (further e),
      )

-- ---- what is in the ring then

pub has-without : (u y : ℕ) (us : List ℕ) → Apart us → has y (without u us) ≡ cond (u == y) false (has y us)
has-without u y [] apart = by (u == y)
  where
    by : (b : Bool) → false ≡ cond b false false
    by true = refl
    by false = refl
has-without u y (x ∷ xs) apart = go (x == u) refl (has-without u y xs apart.1)
  where
    here : (b : Bool) → (u == y) ≡ b → x ≡ u → has y xs ≡ cond b false (cond (x == y) true (has y xs))
    here true e is = subst (λ z. has z xs ≡ false) (is ∙ eq-is u y e) apart.0
    here false e is = sym (miss true (subst (λ z. (z == y) ≡ false) (sym is) e))

    there : (b c : Bool) → (x == y) ≡ b → (u == y) ≡ c → (x == u) ≡ false → cond b true (cond c false (has y xs)) ≡ cond c false (cond b true (has y xs))
    there true true e f ne = absurd (eq-not x u ne (eq-is x y e ∙ sym (eq-is u y f)))
    there true false e f ne = refl
    there false true e f ne = refl
    there false false e f ne = refl

    go : (b : Bool) → (x == u) ≡ b → has y (without u xs) ≡ cond (u == y) false (has y xs) → has y (cond b xs (x ∷ without u xs)) ≡ cond (u == y) false (has y (x ∷ xs))
    go true e rest = here (u == y) refl (eq-is x u e)
    go false e rest = ap (λ r. cond (x == y) true r) rest ∙ there (x == y) (u == y) refl refl e

pub has-put : (b u y : ℕ) (us : List ℕ) → has y (put_before b u us) ≡ cond (u == y) true (has y us)
has-put b u y [] = refl
has-put b u y (x ∷ xs) = go (x == b) (has-put b u y xs)
  where
    swap : (c d : Bool) (r : Bool) → cond c true (cond d true r) ≡ cond d true (cond c true r)
    swap true true r = refl
    swap true false r = refl
    swap false d r = refl

    go : (c : Bool) → has y (put_before b u xs) ≡ cond (u == y) true (has y xs) → has y (cond c (u ∷ x ∷ xs) (x ∷ put_before b u xs)) ≡ cond (u == y) true (has y (x ∷ xs))
    go true rest = refl
    go false rest = ap (λ r. cond (x == y) true r) rest ∙ swap (x == y) (u == y) (has y xs)

pub without-apart : (u : ℕ) (us : List ℕ) → Apart us → Apart (without u us)
without-apart u [] apart = tt
without-apart u (x ∷ xs) apart = go (x == u) (without-apart u xs apart.1)
  where
    lacks : (b : Bool) → cond b false (has x xs) ≡ false
    lacks true = refl
    lacks false = apart.0

    go : (b : Bool) → Apart (without u xs) → Apart (cond b xs (x ∷ without u xs))
    go true rest = apart.1
    go false rest = (has-without u x xs apart.1 ∙ lacks (u == x), rest)

pub put-apart : (b u : ℕ) (us : List ℕ) → Apart us → has u us ≡ false → Apart (put_before b u us)
put-apart b u [] apart lacks = (refl, tt)
put-apart b u (x ∷ xs) apart lacks = go (x == b) (put-apart b u xs apart.1 (lacks-more x u xs lacks))
  where
    go : (c : Bool) → Apart (put_before b u xs) → Apart (cond c (u ∷ x ∷ xs) (x ∷ put_before b u xs))
    go true rest = (lacks, apart)
    go false rest = (has-put b u x xs ∙ miss true (eq-other u x (λ e. lacks-head x u xs lacks (sym e))) ∙ apart.0, rest)

-- ---- no more nodes than there are numbers

without-long : (u : ℕ) (us : List ℕ) → length us ≤ suc (length (without u us))
without-long u [] = omega (arith)
without-long u (x ∷ xs) = go (x == u) (without-long u xs)
  where
    go : (b : Bool) → length xs ≤ suc (length (without u xs)) → suc (length xs) ≤ suc (length (cond b xs (x ∷ without u xs)))
    go true h = omega (arith)
    go false h = omega (arith, h)

pub few : (bound : ℕ) (us : List ℕ) → Apart us → ((y : ℕ) → has y us ≡ true → y < bound) → length us ≤ bound
few zero [] apart below = omega (arith)
few zero (u ∷ us) apart below =
    let no = below u (has-head u us) in
    absurd (omega (arith, no))
few (suc bound) us apart below =
    let rest = few bound (without bound us) (without-apart bound us apart) further in
    let long = without-long bound us in
    omega (arith, rest, long)
  where
    further : (y : ℕ) → has y (without bound us) ≡ true → y < bound
    further y h = go (bound == y) (has y us) refl refl (sym (has-without bound y us apart) ∙ h)
      where
        go : (b c : Bool) → (bound == y) ≡ b → has y us ≡ c → cond b false c ≡ true → y < bound
        go true c e f g = absurd (false-true g)
        go false true e f g =
            let small = below y f in
            let other = eq-not bound y e in
            less small other
          where
            less : y < suc bound → (bound ≡ y → ⊥) → y < bound
            less s o = go2 (bound == y) refl
              where
                go2 : (b : Bool) → (bound == y) ≡ b → y < bound
                go2 true e = absurd (o (eq-is bound y e))
                go2 false e = grind (arith, nat_tests)
        go false false e f g = absurd (false-true g)
