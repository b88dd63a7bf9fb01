-- What a table has after an id is given an item.
use Rattle.std.proofs.Common.{◌≡◌, refl, sym, ap, ◌∙◌, ℕ, ◌+◌, ◌-◌, ◌<◌, Bool, true, false, ◌&&◌, ◌==◌, nat_le, if◌then◌else◌, Option, None, Some, List, [], ◌∷◌, ◌++◌, length, cond, slice_get, slice_set, arith, zero, suc}
use Rattle.std.proofs.lemmas.Bool.Decides.{nat_tests}
use Rattle.ir_types.specs.declared.id.Id.{Id}
use Rattle.ir_types.specs.Available.{same_id}
use Rattle.ir_types.specs.IdTable.{place, item_of, item_at, in_row, either}

-- ---- places

abbrev is_at : ℕ → Option ℕ → Bool
is_at at None = false
is_at at (Some b) = at == b

both_ways : (a b : Bool) → (a ≡ true → b ≡ true) → (b ≡ true → a ≡ true) → a ≡ b
both_ways true b f g = sym (f refl)
both_ways false true f g = g refl
both_ways false false f g = refl

same_id-is : (x y : Id) → same_id x y ≡ true → (x.region ≡ y.region) × (x.k ≡ y.k)
same_id-is x y h = go (x.region == y.region) (x.k == y.k) refl refl h
  where
    go : (b c : Bool) → (x.region == y.region) ≡ b → (x.k == y.k) ≡ c → (b && c) ≡ true → (x.region ≡ y.region) × (x.k ≡ y.k)
    go true true e f h = (grind (arith, nat_tests), grind (arith, nat_tests))
    go true false e f h = absurd (grind (arith, nat_tests))
    go false c e f h = absurd (grind (arith, nat_tests))

is-same_id : (x y : Id) → x.region ≡ y.region → x.k ≡ y.k → same_id x y ≡ true
is-same_id x y e f = both (x.region == y.region) (x.k == y.k) (grind (arith, nat_tests)) (grind (arith, nat_tests))
  where
    both : (b c : Bool) → b ≡ true → c ≡ true → (b && c) ≡ true
    both true c e f = f
    both false c e f = e

none-some : {X : Type 0} {x : X} → None ≡ Some x → ⊥
none-some h = cc

false-true : false ≡ true → ⊥
false-true h = cc

self-eq : (n : ℕ) → (n == n) ≡ true
self-eq n = grind (arith, nat_tests)

-- an id that has a place is of region 0, and its number tells the place
placed : (first : ℕ) (x : Id) (at : ℕ) → place first x ≡ Some at → (x.region ≡ 0) × (x.k ≡ first + at)
placed first x at h = go (x.region == 0) (nat_le first x.k) refl refl h
  where
    go : (b c : Bool) → (x.region == 0) ≡ b → nat_le first x.k ≡ c → (if b && c then Some (x.k - first) else None) ≡ Some at → (x.region ≡ 0) × (x.k ≡ first + at)
    go true true e f h = (grind (arith, nat_tests), grind (arith, nat_tests))
    go true false e f h = absurd (none-some h)
    go false c e f h = absurd (none-some h)

-- and what has such a number has the place
there : (first : ℕ) (y : Id) (at : ℕ) → y.region ≡ 0 → y.k ≡ first + at → place first y ≡ Some at
there first y at e f = go (y.region == 0) (nat_le first y.k) (grind (arith, nat_tests)) (grind (arith, nat_tests))
  where
    go : (b c : Bool) → b ≡ true → c ≡ true → (if b && c then Some (y.k - first) else None) ≡ Some at
    go true true e c = ap Some (grind (arith))
    go true false e c = absurd (false-true c)
    go false c e d = absurd (false-true e)

-- the same id is the one with the same place
same_place : (first : ℕ) (x y : Id) (at : ℕ) → place first x ≡ Some at → same_id x y ≡ is_at at (place first y)
same_place first x y at h = both_ways (same_id x y) (is_at at (place first y)) forth back
  where
    forth : same_id x y ≡ true → is_at at (place first y) ≡ true
    forth s =
        let is = same_id-is x y s in
        let p = placed first x at h in
        ap (is_at at) (there first y at (sym is.0 ∙ p.0) (sym is.1 ∙ p.1)) ∙ self-eq at

    found : (o : Option ℕ) → place first y ≡ o → is_at at o ≡ true → same_id x y ≡ true
    found None e s = absurd (false-true s)
    found (Some b) e s =
        let p = placed first x at h in
        let q = placed first y b e in
        is-same_id x y (p.0 ∙ sym q.0) (p.1 ∙ grind (arith, nat_tests) ∙ sym q.1)

    back : is_at at (place first y) ≡ true → same_id x y ≡ true
    back s = found (place first y) refl s

-- ---- rows

zero-suc : (b : ℕ) → (0 == suc b) ≡ false
zero-suc b = grind (arith, nat_tests)

suc-zero : (a : ℕ) → (suc a == 0) ≡ false
suc-zero a = grind (arith, nat_tests)

suc-suc : (a b : ℕ) → (suc a == suc b) ≡ (a == b)
suc-suc a b = both_ways (suc a == suc b) (a == b) (λ e. grind (arith, nat_tests)) (λ e. grind (arith, nat_tests))

chosen : {X : Type 0} {s t : Bool} (x y : X) → s ≡ t → cond s x y ≡ cond t x y
chosen x y e = ap (λ b. cond b x y) e

-- a place that is written
set_at : {T : Type 0} (row : List (Option T)) (at : ℕ) (item : T) (b : ℕ) → at < length row → item_of (slice_get (slice_set row at (Some item)) b) ≡ cond (at == b) (Some item) (item_of (slice_get row b))
set_at [] at item b within = absurd (nothing within)
  where
    nothing : at < 0 → ⊥
    nothing h = omega (arith, h)
set_at (x ∷ row) zero item zero within = refl
set_at (x ∷ row) zero item (suc b) within = chosen _ _ (sym (zero-suc b))
set_at (x ∷ row) (suc at) item zero within = chosen _ _ (sym (suc-zero at))
set_at (x ∷ row) (suc at) item (suc b) within = set_at row at item b (omega (arith, within)) ∙ chosen _ _ (sym (suc-suc at b))

-- a place more
pushed_at : {T : Type 0} (row : List (Option T)) (item : T) (b : ℕ) → item_of (slice_get (row ++ Some item ∷ []) b) ≡ cond (length row == b) (Some item) (item_of (slice_get row b))
pushed_at [] item zero = refl
pushed_at [] item (suc b) = chosen _ _ (sym (zero-suc b))
pushed_at (x ∷ row) item zero = chosen _ _ (sym (suc-zero (length row)))
pushed_at (x ∷ row) item (suc b) = pushed_at row item b ∙ chosen _ _ (sym (suc-suc (length row) b))

-- both are found by places
by_place : {T : Type 0} (old new : List (Option T)) (at : ℕ) (item : T) → ((b : ℕ) → item_of (slice_get new b) ≡ cond (at == b) (Some item) (item_of (slice_get old b))) → (o : Option ℕ) (other : Option T) → either (item_at new o) other ≡ cond (is_at at o) (Some item) (either (item_at old o) other)
by_place old new at item each None other = refl
by_place old new at item each (Some b) other = ap (λ x. either x other) (each b) ∙ out (at == b)
  where
    out : (t : Bool) → either (cond t (Some item) (item_of (slice_get old b))) other ≡ cond t (Some item) (either (item_of (slice_get old b)) other)
    out true = refl
    out false = refl

-- a row with a place written, or one more
pub row_set : {T : Type 0} (first : ℕ) (row : List (Option T)) (id : Id) (at : ℕ) (item : T) → place first id ≡ Some at → at < length row → (q : Id) (other : Option T) → either (in_row first (slice_set row at (Some item)) q) other ≡ cond (same_id id q) (Some item) (either (in_row first row q) other)
row_set first row id at item h within q other =
    by_place row (slice_set row at (Some item)) at item (λ b. set_at row at item b within) (place first q) other
    ∙ ap (λ t. cond t (Some item) (either (in_row first row q) other)) (sym (same_place first id q at h))

pub row_pushed : {T : Type 0} (first : ℕ) (row : List (Option T)) (id : Id) (item : T) → place first id ≡ Some (length row) → (q : Id) (other : Option T) → either (in_row first (row ++ Some item ∷ []) q) other ≡ cond (same_id id q) (Some item) (either (in_row first row q) other)
row_pushed first row id item h q other =
    by_place row (row ++ Some item ∷ []) (length row) item (pushed_at row item) (place first q) other
    ∙ ap (λ t. cond t (Some item) (either (in_row first row q) other)) (sym (same_place first id q (length row) h))
