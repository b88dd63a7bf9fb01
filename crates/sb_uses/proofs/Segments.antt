-- What linked slots say of a list: each names its neighbours. A slot that is taken out or put in keeps that.
use Rattle.std.proofs.Common.{◌≡◌, refl, sym, ap, ◌∙◌, subst, ℕ, zero, suc, ◌≤◌, Bool, true, false, ◌&&◌, Option, None, Some, List, [], ◌∷◌, length, cond, nat_eq, arith}
use Rattle.std.proofs.lemmas.Bool.Decides.{nat_tests}
use Rattle.ir_types.specs.declared.id.Use.{Use}
use Rattle.ir_types.specs.Available.{same_id}
use Rattle.ir_types.proofs.Among.{same_is, same_itself}
use Rattle.vx_view.specs.Uses.{same_use, taken}
use Rattle.sb_uses.specs.Chains.{same_end, walk, first_then}
use Rattle.sb_uses.specs.Places.{has, put_from}
use Rattle.sb_uses.specs.Whole.{Apart, Seg}

-- ---- tests

pub false-true : false ≡ true → ⊥
false-true h = cc

pub none-some : {u : Use} → None ≡ Some u → ⊥
none-some h = cc

pub some-one : {u v : Use} → Some u ≡ Some v → u ≡ v
some-one h = cc

pub and-left : (a b : Bool) → (a && b) ≡ true → a ≡ true
and-left true b h = refl
and-left false b h = absurd (false-true h)

pub and-right : (a b : Bool) → (a && b) ≡ true → b ≡ true
and-right true b h = h
and-right false b h = absurd (false-true h)

and-both : (a b : Bool) → a ≡ true → b ≡ true → (a && b) ≡ true
and-both true b e f = f
and-both false b e f = e

pub use-is : (a b : Use) → same_use a b ≡ true → a ≡ b
use-is a b h =
    let user = same_is a.user b.user (and-left (same_id a.user b.user) (nat_eq a.slot b.slot) h) in
    let tested = and-right (same_id a.user b.user) (nat_eq a.slot b.slot) h in
    let slot : a.slot ≡ b.slot = grind (arith, nat_tests) in
    λ i. record { user = user i; slot = slot i }

pub use-itself : (a : Use) → same_use a a ≡ true
use-itself a = and-both (same_id a.user a.user) (nat_eq a.slot a.slot) (same_itself a.user) (grind (arith, nat_tests))

to-false : (b : Bool) → (b ≡ true → ⊥) → b ≡ false
to-false true n = absurd (n refl)
to-false false n = refl

pub use-other : (a b : Use) → (a ≡ b → ⊥) → same_use a b ≡ false
use-other a b n = to-false (same_use a b) (λ h. n (use-is a b h))

pub use-not : (a b : Use) → same_use a b ≡ false → a ≡ b → ⊥
use-not a b h e = false-true (sym h ∙ subst (λ x. same_use a x ≡ true) e (use-itself a))

pub end-is : (a b : Option Use) → same_end a b ≡ true → a ≡ b
end-is None None h = refl
end-is None (Some b) h = absurd (false-true h)
end-is (Some a) None h = absurd (false-true h)
end-is (Some a) (Some b) h = ap Some (use-is a b h)

pub end-itself : (a : Option Use) → same_end a a ≡ true
end-itself None = refl
end-itself (Some a) = use-itself a

pub end-other : (a b : Option Use) → (a ≡ b → ⊥) → same_end a b ≡ false
end-other a b n = to-false (same_end a b) (λ h. n (end-is a b h))

end-not : (a b : Option Use) → same_end a b ≡ false → a ≡ b → ⊥
end-not a b h e = false-true (sym h ∙ subst (λ x. same_end a x ≡ true) e (end-itself a))

pub hit : {X : Type 0} {b : Bool} {x : X} (y : X) → b ≡ true → cond b x y ≡ x
hit {X} {b} {x} y e = ap (λ t. cond t x y) e

pub miss : {X : Type 0} {b : Bool} (x : X) {y : X} → b ≡ false → cond b x y ≡ y
miss {X} {b} x {y} e = ap (λ t. cond t x y) e

-- ---- membership

-- the list does not have what it comes after
abbrev pub Off : Option Use → List Use → Type 0
Off None us = Unit {0}
Off (Some w) us = has w us ≡ false

pub has-head : (v : Use) (vs : List Use) → has v (v ∷ vs) ≡ true
has-head v vs = hit _ (use-itself v)

pub has-more : (v u : Use) (vs : List Use) → has u vs ≡ true → has u (v ∷ vs) ≡ true
has-more v u vs h = go (same_use v u)
  where
    go : (b : Bool) → cond b true (has u vs) ≡ true
    go true = refl
    go false = h

-- what is in a list with a first use is that or another
pub has-split : {X : Type 0} (v u : Use) (vs : List Use) → has u (v ∷ vs) ≡ true → (v ≡ u → X) → (same_use v u ≡ false → has u vs ≡ true → X) → X
has-split {X} v u vs h this others = go (same_use v u) refl h
  where
    go : (b : Bool) → same_use v u ≡ b → cond b true (has u vs) ≡ true → X
    go true e h = this (use-is v u e)
    go false e h = others e h

lacks-head : (v u : Use) (vs : List Use) → has u (v ∷ vs) ≡ false → v ≡ u → ⊥
lacks-head v u vs h e = false-true (sym h ∙ subst (λ x. has x (v ∷ vs) ≡ true) e (has-head v vs))

lacks-more : (v u : Use) (vs : List Use) → has u (v ∷ vs) ≡ false → has u vs ≡ false
lacks-more v u vs h = go (same_use v u) h
  where
    go : (b : Bool) → cond b true (has u vs) ≡ false → has u vs ≡ false
    go true e = absurd (false-true (sym e))
    go false e = e

-- one that the list lacks is none that it has
other : (u w : Use) (us : List Use) → has u us ≡ false → has w us ≡ true → u ≡ w → ⊥
other u w us lacks got e = false-true (sym lacks ∙ subst (λ x. has x us ≡ true) (sym e) got)

off-ne : (a : Option Use) (us : List Use) (w : Use) → Off a us → has w us ≡ true → a ≡ Some w → ⊥
off-ne None us w off got e = none-some e
off-ne (Some a) us w off got e = other a w us off got (some-one e)

-- ---- segments

-- slots that keep their neighbours
pub seg-same : (n m : Option Use → Option Use) (p q : Use → Option Use) (k l : Option Use → Bool) (a : Option Use) (us : List Use) → Seg n p k a us → m a ≡ n a → ((w : Use) → has w us ≡ true → (m (Some w) ≡ n (Some w)) × (q w ≡ p w)) → ((c : Option Use) → k c ≡ true → l c ≡ true) → Seg m q l a us
seg-same n m p q k l a [] seg e each keeps = e ∙ seg
seg-same n m p q k l a (u ∷ us) seg e each keeps =
    let at = each u (has-head u us) in
    ((e ∙ seg.0.0, at.1 ∙ seg.0.1), (keeps (Some u) seg.1.0, seg-same n m p q k l (Some u) us seg.1.1 at.0 (λ w h. each w (has-more u w us h)) keeps))

-- what is linked is what is walked
pub walked : (n : Option Use → Option Use) (p : Use → Option Use) (k : Option Use → Bool) (a : Option Use) (us : List Use) (steps : ℕ) → Seg n p k a us → length us ≤ steps → walk n steps a ≡ us
walked n p k a [] zero seg le = refl
walked n p k a [] (suc steps) seg le = ap (λ o. first_then o (λ w. walk n steps (Some w))) seg
walked n p k a (u ∷ us) zero seg le = absurd (omega (arith, le))
walked n p k a (u ∷ us) (suc steps) seg le = ap (λ o. first_then o (λ w. walk n steps (Some w))) seg.0.0 ∙ ap (λ r. u ∷ r) (walked n p k (Some u) us steps seg.1.1 (omega (arith, le)))

-- the neighbours of a use name it
pub prev-next : (n : Option Use → Option Use) (p : Use → Option Use) (k : Option Use → Bool) (a : Option Use) (us : List Use) (u : Use) → Seg n p k a us → has u us ≡ true → n (p u) ≡ Some u
prev-next n p k a [] u seg got = absurd (false-true got)
prev-next n p k a (v ∷ vs) u seg got =
    has-split v u vs got
    (λ e. subst (λ x. n (p x) ≡ Some x) e (ap n seg.0.1 ∙ seg.0.0))
    (λ _ h. prev-next n p k (Some v) vs u seg.1.1 h)

next-prev : (n : Option Use → Option Use) (p : Use → Option Use) (k : Option Use → Bool) (a : Option Use) (us : List Use) (u y : Use) → Seg n p k a us → has u us ≡ true → n (Some u) ≡ Some y → p y ≡ Some u
next-prev n p k a [] u y seg got e = absurd (false-true got)
next-prev n p k a (v ∷ []) u y seg got e =
    has-split v u [] got
    (λ is. absurd (none-some (sym seg.1.1 ∙ ap (λ x. n (Some x)) is ∙ e)))
    (λ _ h. absurd (false-true h))
next-prev n p k a (v ∷ w ∷ ws) u y seg got e =
    has-split v u (w ∷ ws) got
    (λ is. ap p (some-one (sym e ∙ ap (λ x. n (Some x)) (sym is) ∙ seg.1.1.0.0)) ∙ seg.1.1.0.1 ∙ ap Some is)
    (λ _ h. next-prev n p k (Some v) (w ∷ ws) u y seg.1.1 h e)

-- a use of the list is there
pub seg-known : (n : Option Use → Option Use) (p : Use → Option Use) (k : Option Use → Bool) (a : Option Use) (us : List Use) (u : Use) → Seg n p k a us → has u us ≡ true → k (Some u) ≡ true
seg-known n p k a [] u seg got = absurd (false-true got)
seg-known n p k a (v ∷ vs) u seg got = has-split v u vs got (λ e. subst (λ x. k (Some x) ≡ true) e seg.1.0) (λ _ h. seg-known n p k (Some v) vs u seg.1.1 h)

-- ---- a use put in

-- what the four writes of a new slot `u` after `a` leave, where `b` was after `a`
pub record PutIn (n m : Option Use → Option Use) (p q : Use → Option Use) (k l : Option Use → Bool) (a : Option Use) (u : Use) : Type 0 where
  pub next : (x : Option Use) → m x ≡ cond (same_end a x) (Some u) (cond (same_end (Some u) x) (n a) (n x))
  pub prev : (x : Use) → q x ≡ cond (same_end (n a) (Some x)) (Some u) (cond (same_use u x) a (p x))
  pub keeps : (c : Option Use) → k c ≡ true → l c ≡ true
  pub there : l (Some u) ≡ true

module _ (n m : Option Use → Option Use) (p q : Use → Option Use) (k l : Option Use → Bool) (a : Option Use) (u : Use) (P : PutIn n m p q k l a u) where
  next-at : m a ≡ Some u
  next-at = P.next a ∙ hit _ (end-itself a)

  next-new : (a ≡ Some u → ⊥) → m (Some u) ≡ n a
  next-new ne = P.next (Some u) ∙ miss _ (end-other a (Some u) ne) ∙ hit _ (use-itself u)

  next-else : (x : Option Use) → (a ≡ x → ⊥) → (Some u ≡ x → ⊥) → m x ≡ n x
  next-else x ne nu = P.next x ∙ miss _ (end-other a x ne) ∙ miss _ (end-other (Some u) x nu)

  prev-after : (y : Use) → n a ≡ Some y → q y ≡ Some u
  prev-after y e = P.prev y ∙ hit _ (subst (λ x. same_end x (Some y) ≡ true) (sym e) (use-itself y))

  prev-new : (n a ≡ Some u → ⊥) → q u ≡ a
  prev-new ne = P.prev u ∙ miss _ (end-other (n a) (Some u) ne) ∙ hit _ (use-itself u)

  prev-else : (x : Use) → (n a ≡ Some x → ⊥) → (u ≡ x → ⊥) → q x ≡ p x
  prev-else x ne nu = P.prev x ∙ miss _ (end-other (n a) (Some x) ne) ∙ miss _ (use-other u x nu)

  put-here : (us : List Use) → Seg n p k a us → Apart us → Off a us → has u us ≡ false → (a ≡ Some u → ⊥) → Seg m q l a (u ∷ us)
  put-here [] seg apart off lacks ne = ((next-at, prev-new (λ e. none-some (sym seg ∙ e))), (P.there, next-new ne ∙ seg))
  put-here (y ∷ ys) seg apart off lacks ne = (
    (next-at, prev-new (λ e. lacks-head y u ys lacks (some-one (sym seg.0.0 ∙ e)))),
    (
      P.there,
      (
        (next-new ne ∙ seg.0.0, prev-after y seg.0.0),
        (P.keeps (Some y) seg.1.0, seg-same n m p q k l (Some y) ys seg.1.1 (keep-next y (has-head y ys)) (λ w h. (keep-next w (has-more y w ys h), keep-prev w h)) P.keeps),
      ),
    ),
  )
    where
      keep-next : (w : Use) → has w (y ∷ ys) ≡ true → m (Some w) ≡ n (Some w)
      keep-next w h = next-else (Some w) (off-ne a (y ∷ ys) w off h) (λ e. other u w (y ∷ ys) lacks h (some-one e))

      keep-prev : (w : Use) → has w ys ≡ true → q w ≡ p w
      keep-prev w h = prev-else w (λ e. other y w ys apart.0 h (some-one (sym seg.0.0 ∙ e))) (other u w (y ∷ ys) lacks (has-more y w ys h))

  -- the place is where the walk stands, or further on
  abbrev pub Ahead : Option Use → List Use → Type 0
  Ahead c us = (c ≡ a → ⊥) → (w : Use) × (a ≡ Some w) × (has w us ≡ true)

  pub put-in : (c : Option Use) (us : List Use) → Seg n p k c us → Apart us → Off c us → has u us ≡ false → (c ≡ Some u → ⊥) → Ahead c us → Seg m q l c (put_from c a u us)
  put-in c [] seg apart off lacks ne ahead = go (same_end c a) refl
    where
      go : (b : Bool) → same_end c a ≡ b → Seg m q l c (u ∷ [])
      go true e = subst (λ x. Seg m q l x (u ∷ [])) (sym (end-is c a e)) (put-here [] (subst (λ x. Seg n p k x []) (end-is c a e) seg) tt (subst (λ x. Off x []) (end-is c a e) off) refl (λ f. ne (end-is c a e ∙ f)))
      go false e = absurd (false-true ((ahead (end-not c a e)).2))
  put-in c (x ∷ xs) seg apart off lacks ne ahead = go (same_end c a) refl (put-in (Some x) xs seg.1.1 apart.1 apart.0 (lacks-more x u xs lacks) (λ e. lacks-head x u xs lacks (some-one e)))
    where
      further : (c ≡ a → ⊥) → Ahead (Some x) xs
      further differ not_x =
          let w = ahead differ in
          (w.0, w.1, has-split x w.0 xs w.2 (λ e. absurd (not_x (ap Some e ∙ sym w.1))) (λ _ h. h))

      apart_from : (c ≡ a → ⊥) → n a ≡ Some x → ⊥
      apart_from differ e =
          let w = ahead differ in
          differ (sym seg.0.1 ∙ next-prev n p k c (x ∷ xs) w.0 x seg w.2 (ap n (sym w.1) ∙ e) ∙ sym w.1)

      go : (b : Bool) → same_end c a ≡ b → (Ahead (Some x) xs → Seg m q l (Some x) (put_from (Some x) a u xs)) → Seg m q l c (cond b (u ∷ x ∷ xs) (x ∷ put_from (Some x) a u xs))
      go true e rest = subst (λ y. Seg m q l y (u ∷ x ∷ xs)) (sym (end-is c a e)) (put-here (x ∷ xs) (subst (λ y. Seg n p k y (x ∷ xs)) (end-is c a e) seg) apart (subst (λ y. Off y (x ∷ xs)) (end-is c a e) off) lacks (λ f. ne (end-is c a e ∙ f)))
      go false e rest =
          let differ = end-not c a e in (
            (next-else c (λ f. differ (sym f)) (λ f. ne (sym f)) ∙ seg.0.0, prev-else x (apart_from differ) (λ f. lacks-head x u xs lacks (sym f)) ∙ seg.0.1),
            (P.keeps (Some x) seg.1.0, rest (further differ)),
          )

-- ---- a use taken out

-- what the two writes leave that take a slot out: its neighbours name each other
pub record TakenOut (n m : Option Use → Option Use) (p q : Use → Option Use) (k l : Option Use → Bool) (u : Use) : Type 0 where
  pub next : (x : Option Use) → m x ≡ cond (same_end (p u) x) (n (Some u)) (n x)
  pub prev : (x : Use) → q x ≡ cond (same_end (n (Some u)) (Some x)) (p u) (p x)
  pub keeps : (c : Option Use) → k c ≡ true → l c ≡ true

module _ (n m : Option Use → Option Use) (p q : Use → Option Use) (k l : Option Use → Bool) (u : Use) (T : TakenOut n m p q k l u) where
  out-at : (x : Option Use) → p u ≡ x → m x ≡ n (Some u)
  out-at x e = T.next x ∙ hit _ (subst (λ y. same_end (p u) y ≡ true) e (end-itself (p u)))

  out-else : (x : Option Use) → (p u ≡ x → ⊥) → m x ≡ n x
  out-else x ne = T.next x ∙ miss _ (end-other (p u) x ne)

  back-at : (y : Use) → n (Some u) ≡ Some y → q y ≡ p u
  back-at y e = T.prev y ∙ hit _ (subst (λ x. same_end x (Some y) ≡ true) (sym e) (use-itself y))

  back-else : (y : Use) → (n (Some u) ≡ Some y → ⊥) → q y ≡ p y
  back-else y ne = T.prev y ∙ miss _ (end-other (n (Some u)) (Some y) ne)

  out-here : (a : Option Use) (us : List Use) → Seg n p k a (u ∷ us) → Apart (u ∷ us) → Off a (u ∷ us) → Seg m q l a us
  out-here a [] seg apart off = out-at a seg.0.1 ∙ seg.1.1
  out-here a (y ∷ ys) seg apart off = (
    (out-at a seg.0.1 ∙ seg.1.1.0.0, back-at y seg.1.1.0.0 ∙ seg.0.1),
    (T.keeps (Some y) seg.1.1.1.0, seg-same n m p q k l (Some y) ys seg.1.1.1.1 (keep-next y (has-head y ys)) (λ w h. (keep-next w (has-more y w ys h), keep-prev w h)) T.keeps),
  )
    where
      keep-next : (w : Use) → has w (y ∷ ys) ≡ true → m (Some w) ≡ n (Some w)
      keep-next w h = out-else (Some w) (λ e. off-ne a (u ∷ y ∷ ys) w off (has-more u w (y ∷ ys) h) (sym seg.0.1 ∙ e))

      keep-prev : (w : Use) → has w ys ≡ true → q w ≡ p w
      keep-prev w h = back-else w (λ e. other y w ys apart.1.0 h (some-one (sym seg.1.1.0.0 ∙ e)))

  pub take-out : (a : Option Use) (us : List Use) → Seg n p k a us → Apart us → Off a us → has u us ≡ true → Seg m q l a (taken u us)
  take-out a [] seg apart off got = absurd (false-true got)
  take-out a (x ∷ xs) seg apart off got = go (same_use x u) refl got (take-out (Some x) xs seg.1.1 apart.1 apart.0)
    where
      go : (b : Bool) → same_use x u ≡ b → cond b true (has u xs) ≡ true → (has u xs ≡ true → Seg m q l (Some x) (taken u xs)) → Seg m q l a (cond b xs (x ∷ taken u xs))
      go true e h rest = out-here a xs (subst (λ y. Seg n p k a (y ∷ xs)) (use-is x u e) seg) (subst (λ y. Apart (y ∷ xs)) (use-is x u e) apart) (subst (λ y. Off a (y ∷ xs)) (use-is x u e) off)
      go false e h rest =
          let in_all = has-more x u xs h in (
            (
              out-else a (λ f. use-not x u e (some-one (sym seg.0.0 ∙ ap n (sym f) ∙ prev-next n p k a (x ∷ xs) u seg in_all))) ∙ seg.0.0,
              back-else x (λ f. off-ne a (x ∷ xs) u off in_all (sym seg.0.1 ∙ next-prev n p k a (x ∷ xs) u x seg in_all f)) ∙ seg.0.1,
            ),
            (T.keeps (Some x) seg.1.0, rest h),
          )

-- ---- lists without a use, and with it again

pub taken-had : (u w : Use) (us : List Use) → has w us ≡ false → has w (taken u us) ≡ false
taken-had u w [] h = refl
taken-had u w (x ∷ xs) h = go (same_use x u) (lacks-more x w xs h) (taken-had u w xs (lacks-more x w xs h))
  where
    none : (b : Bool) (t : Bool) → cond b true t ≡ false → (r : Bool) → r ≡ false → cond b true r ≡ false
    none true t e r f = e
    none false t e r f = f

    go : (b : Bool) → has w xs ≡ false → has w (taken u xs) ≡ false → has w (cond b xs (x ∷ taken u xs)) ≡ false
    go true f g = f
    go false f g = none (same_use x w) (has w xs) h (has w (taken u xs)) g

pub taken-apart : (u : Use) (us : List Use) → Apart us → Apart (taken u us)
taken-apart u [] a = tt
taken-apart u (x ∷ xs) a = go (same_use x u) (taken-apart u xs a.1)
  where
    go : (b : Bool) → Apart (taken u xs) → Apart (cond b xs (x ∷ taken u xs))
    go true t = a.1
    go false t = (taken-had u x xs a.0, t)

pub taken-lacks : (u : Use) (us : List Use) → Apart us → has u (taken u us) ≡ false
taken-lacks u [] a = refl
taken-lacks u (x ∷ xs) a = go (same_use x u) refl (taken-lacks u xs a.1)
  where
    go : (b : Bool) → same_use x u ≡ b → has u (taken u xs) ≡ false → has u (cond b xs (x ∷ taken u xs)) ≡ false
    go true e t = subst (λ y. has y xs ≡ false) (use-is x u e) a.0
    go false e t = miss _ e ∙ t

pub put-lacks : (c a : Option Use) (u w : Use) (us : List Use) → has w us ≡ false → (u ≡ w → ⊥) → has w (put_from c a u us) ≡ false
put-lacks c a u w [] h ne = miss _ (use-other u w ne)
put-lacks c a u w (x ∷ xs) h ne = go (same_end c a) (put-lacks (Some x) a u w xs (lacks-more x w xs h) ne)
  where
    go : (b : Bool) → has w (put_from (Some x) a u xs) ≡ false → has w (cond b (u ∷ x ∷ xs) (x ∷ put_from (Some x) a u xs)) ≡ false
    go true t = miss _ (use-other u w ne) ∙ h
    go false t = miss _ (use-other x w (lacks-head x w xs h)) ∙ t

pub put-apart : (c a : Option Use) (u : Use) (us : List Use) → Apart us → has u us ≡ false → Apart (put_from c a u us)
put-apart c a u [] h lacks = (refl, tt)
put-apart c a u (x ∷ xs) h lacks = go (same_end c a) (put-apart (Some x) a u xs h.1 (lacks-more x u xs lacks))
  where
    go : (b : Bool) → Apart (put_from (Some x) a u xs) → Apart (cond b (u ∷ x ∷ xs) (x ∷ put_from (Some x) a u xs))
    go true t = (lacks, h)
    go false t = (put-lacks (Some x) a u x xs h.0 (λ e. lacks-head x u xs lacks (sym e)), t)

-- a use put back after what was before it gives the list as it was
pub comes-back : (n : Option Use → Option Use) (p : Use → Option Use) (k : Option Use → Bool) (c : Option Use) (us : List Use) (u : Use) → Seg n p k c us → Apart us → Off c us → has u us ≡ true → put_from c (p u) u (taken u us) ≡ us
comes-back n p k c [] u seg apart off got = absurd (false-true got)
comes-back n p k c (x ∷ xs) u seg apart off got = go (same_use x u) refl got (comes-back n p k (Some x) xs u seg.1.1 apart.1 apart.0)
  where
    here : (ys : List Use) → c ≡ p u → put_from c (p u) u ys ≡ u ∷ ys
    here [] e = refl
    here (y ∷ ys) e = hit _ (subst (λ z. same_end c z ≡ true) e (end-itself c))

    go : (b : Bool) → same_use x u ≡ b → cond b true (has u xs) ≡ true → (has u xs ≡ true → put_from (Some x) (p u) u (taken u xs) ≡ xs) → put_from c (p u) u (cond b xs (x ∷ taken u xs)) ≡ x ∷ xs
    go true e h rest = here xs (sym seg.0.1 ∙ ap p (use-is x u e)) ∙ ap (λ y. y ∷ xs) (sym (use-is x u e))
    go false e h rest =
        miss _ (end-other c (p u) (λ f. use-not x u e (some-one (sym seg.0.0 ∙ ap n f ∙ prev-next n p k c (x ∷ xs) u seg (has-more x u xs h)))))
        ∙ ap (λ r. x ∷ r) (rest h)
