-- Lists and blocks that are parted, and what stands in their parts.
use Rattle.std.proofs.Common.{◌≡◌, refl, sym, ap, ◌∙◌, subst, ℕ, zero, suc, ◌+◌, ◌≤◌, Bool, true, false, ◌||◌, Some, List, [], ◌∷◌, ◌++◌, cond, drop, arith}
use Rattle.std.specs.List.{list_any}
use Rattle.ir_types.specs.declared.id.Id.{Id}
use Rattle.ir_types.specs.declared.inst.Inst.{Inst}
use Rattle.ir_types.specs.Available.{same_id}
use Rattle.ir_types.proofs.Formed.{Every}
use Rattle.ir_types.proofs.Among.{same_is, same_itself}
use Rattle.vx_view.specs.Answers.{find, after as next_after, id_of}
use Rattle.sb_uses.specs.Totals.{id_times}
use Rattle.vx_serial.specs.Window.{up_to, joined}
use Rattle.vx_serial.specs.Tree.{last_in}
use Rattle.vx_serial.specs.Rewriting.{is_created, is_id_in, without, after_inst, only_created, uses_value}
use Rattle.rf_rewrite.proofs.Contexts.{times, ids_sum}
use Rattle.rf_rewrite.proofs.Gone.{uses_id}
use Rattle.rf_rewrite.proofs.Trees.{any_append}
use Rattle.vx_serial.proofs.Decided.{true_false}
use Rattle.rf_rewrite.proofs.Facts.{some_is}

-- ---- lists

pub every_find : (P : Inst → Type 0) (x : Id) (l : List Inst) (i : Inst) → Every P l → find x l ≡ Some i → P i
every_find P x [] i h e = absurd cc
every_find P x (j ∷ l) i h e = by_test (same_id j.id x) e (every_find P x l i h.1)
  where
    by_test : (b : Bool) → cond b (Some j) (find x l) ≡ Some i → (find x l ≡ Some i → P i) → P i
    by_test true r more = subst P (some_is r) h.0
    by_test false r more = more r

pub every_without : (P : Inst → Type 0) (xs : List Id) (l : List Inst) → Every P l → Every P (without xs l)
every_without P xs [] h = tt
every_without P xs (i ∷ l) h = by_test (is_id_in xs i.id) (every_without P xs l h.1)
  where
    by_test : (b : Bool) → Every P (without xs l) → Every P (cond b (without xs l) (i ∷ without xs l))
    by_test true r = r
    by_test false r = (h.0, r)

pub every_left : {A : Type 0} (P : A → Type 0) (xs ys : List A) → Every P (xs ++ ys) → Every P xs
every_left P [] ys h = tt
every_left P (x ∷ xs) ys h = (h.0, every_left P xs ys h.1)

pub every_right : {A : Type 0} (P : A → Type 0) (xs ys : List A) → Every P (xs ++ ys) → Every P ys
every_right P [] ys h = h
every_right P (x ∷ xs) ys h = every_right P xs ys h.1

pub drop_times : (y : Id) (n : ℕ) (l : List Inst) → times y (drop n l) ≤ times y l
drop_times y zero l = omega (arith)
drop_times y (suc n) [] = omega (arith)
drop_times y (suc n) (i ∷ l) = let rest = drop_times y n l in omega (arith, rest)

pub among_times : (y : Id) (l : List Inst) → list_any (λ (j : Inst). same_id j.id y) l ≡ true → 1 ≤ times y l
among_times y [] h = absurd cc
among_times y (i ∷ l) h = by_test (same_id i.id y) h (among_times y l)
  where
    by_test : (b : Bool) → (b || list_any (λ (j : Inst). same_id j.id y) l) ≡ true → (list_any (λ (j : Inst). same_id j.id y) l ≡ true → 1 ≤ times y l) → 1 ≤ cond b 1 0 + times y l
    by_test true r more = omega (arith)
    by_test false r more = let some = more r in omega (arith, some)

pub up_to_has : (x : Id) (l : List Inst) → 1 ≤ times x l → 1 ≤ times x (up_to x l)
up_to_has x [] h = h
up_to_has x (i ∷ l) h = go (same_id i.id x) h (up_to_has x l)
  where
    go : (b : Bool) → 1 ≤ cond b 1 0 + times x l → (1 ≤ times x l → 1 ≤ times x (up_to x l)) → 1 ≤ cond b 1 0 + times x (cond b [] (up_to x l))
    go true r more = omega (arith)
    go false r more = let some = more (omega (arith, r)) in omega (arith, some)

pub next_is : (x : Id) (l : List Inst) → next_after x l ≡ id_of (after_inst x l)
next_is x [] = refl
next_is x (i ∷ l) = by_test (same_id i.id x) (next_is x l)
  where
    by_test : (b : Bool) → next_after x l ≡ id_of (after_inst x l) → cond b (id_of l) (next_after x l) ≡ id_of (cond b l (after_inst x l))
    by_test true e = refl
    by_test false e = e

-- a list, parted at what is found
pub record FoundParts (x : Id) (l : List Inst) (i : Inst) : Type 0 where
  pub front : List Inst
  pub rest : List Inst
  pub are : l ≡ front ++ i ∷ rest
  pub next : after_inst x l ≡ rest

pub found_parts : (x : Id) (l : List Inst) (i : Inst) → find x l ≡ Some i → FoundParts x l i
found_parts x [] i e = absurd cc
found_parts x (j ∷ l) i e = by_test e (found_parts x l i)
  where
    go : (b : Bool) → cond b (Some j) (find x l) ≡ Some i → (find x l ≡ Some i → FoundParts x l i) → (f : List Inst) × (r : List Inst) × (j ∷ l ≡ f ++ i ∷ r) × (cond b l (after_inst x l) ≡ r)
    go true r more = ([], l, ap (λ u. u ∷ l) (some_is r), refl)
    go false r more = let p = more r in (j ∷ p.front, p.rest, ap (λ u. j ∷ u) p.are, p.next)

    by_test : cond (same_id j.id x) (Some j) (find x l) ≡ Some i → (find x l ≡ Some i → FoundParts x l i) → FoundParts x (j ∷ l) i
    by_test r more = let p = go (same_id j.id x) r more in record { front = p.0; rest = p.1; are = p.2; next = p.3 }

pub every_joined : (P : Id → Type 0) (bs : List (List Id)) → ((x : Id) → is_id_in (joined bs) x ≡ true → P x) → Every (Every P) bs
every_joined P [] h = tt
every_joined P (b ∷ bs) h = (own b (λ x e. h x (any_append b (joined bs) x ∙ ap (λ t. t || is_id_in (joined bs) x) e)), every_joined P bs (λ x e. h x (any_append b (joined bs) x ∙ later (is_id_in b x) (is_id_in (joined bs) x) e)))
  where
    later : (a b : Bool) → b ≡ true → (a || b) ≡ true
    later true b e = refl
    later false b e = e

    own : (xs : List Id) → ((x : Id) → is_id_in xs x ≡ true → P x) → Every P xs
    own [] h = tt
    own (x ∷ xs) h = (h x (ap (λ t. t || is_id_in xs x) (same_itself x)), own xs (λ y e. h y (later (same_id y x) (is_id_in xs y) e)))

-- the last of some stores is one of them
pub last_among : (xs : List Id) (x : Id) (l : List Inst) → is_id_in xs x ≡ true → is_id_in xs (last_in xs x l) ≡ true
last_among xs x [] h = h
last_among xs x (i ∷ l) h = by_test (list_any (same_id i.id) xs) refl (λ y e. last_among xs y l e)
  where
    by_test : (b : Bool) → list_any (same_id i.id) xs ≡ b → ((y : Id) → is_id_in xs y ≡ true → is_id_in xs (last_in xs y l) ≡ true) → is_id_in xs (last_in xs (cond b i.id x) l) ≡ true
    by_test true e more = more i.id e
    by_test false e more = more x h

-- what no created instruction of a list uses
pub unused_new : (region : ℕ) (y : Id) (l : List Inst) → uses_value y (only_created region l) ≡ false → Every (λ (i : Inst). is_created region i ≡ true → uses_id y i ≡ false) l
unused_new region y [] e = tt
unused_new region y (i ∷ l) e = by_test (is_created region i) refl e (unused_new region y l)
  where
    or_first : (a b : Bool) → (a || b) ≡ false → a ≡ false
    or_first true b r = absurd cc
    or_first false b r = refl

    or_second : (a b : Bool) → (a || b) ≡ false → b ≡ false
    or_second true b r = absurd cc
    or_second false b r = r

    by_test : (b : Bool) → is_created region i ≡ b → uses_value y (cond b (i ∷ only_created region l) (only_created region l)) ≡ false →
        (uses_value y (only_created region l) ≡ false → Every (λ (j : Inst). is_created region j ≡ true → uses_id y j ≡ false) l) →
        (is_created region i ≡ true → uses_id y i ≡ false) × Every (λ (j : Inst). is_created region j ≡ true → uses_id y j ≡ false) l
    by_test true c r more = ((λ u. or_first (uses_id y i) (uses_value y (only_created region l)) r), more (or_second (uses_id y i) (uses_value y (only_created region l)) r))
    by_test false c r more = ((λ u. absurd (true_false (sym u ∙ c))), more r)

pub old_region : (r : ℕ) (y : Id) (ids : List Id) → Every (λ (id : Id). id.region ≤ r) ids → 1 ≤ id_times y ids → y.region ≤ r
old_region r y [] h some = absurd (omega (arith, some))
old_region r y (z ∷ ids) h some = by_test (same_id z y) refl (ids_sum y z ids) (old_region r y ids h.1)
  where
    by_test : (b : Bool) → same_id z y ≡ b → id_times y (z ∷ ids) ≡ cond b 1 0 + id_times y ids → (1 ≤ id_times y ids → y.region ≤ r) → y.region ≤ r
    by_test true e sum more = let same : z.region ≡ y.region = ap (λ (v : Id). v.region) (same_is z y e) in let le = h.0 in omega (arith, same, le)
    by_test false e sum more = more (omega (arith, some, sum))
