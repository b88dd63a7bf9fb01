-- Walks and what stands on them: one instruction more, one block more.
use Rattle.std.proofs.Common.{◌≡◌, refl, sym, ap, ◌∙◌, subst, ℕ, zero, suc, ◌+◌, ◌-◌, ◌<◌, Bool, true, false, ◌&&◌, ◌||◌, ◌==◌, Some, List, [], ◌∷◌, ◌++◌, length, map, take, drop, cond, slice_get, nat_eq, not, option_map, ◌⊎◌, inl, inr, arith}
use Rattle.std.specs.List.{Contains, count_by}
use Rattle.std.proofs.lemmas.Bool.Decides.{nat_tests}
use Rattle.std.proofs.lemmas.List.Folds.{list_any_more}
use Rattle.std.proofs.lemmas.List.Recursion.{is_count_by}
use Rattle.std.proofs.lemmas.Option.{slice_get-map, slice_get_within, slice_get-get_or, get_or_from_slice_get}
use Rattle.ir_types.specs.declared.id.Id.{Id}
use Rattle.ir_types.specs.declared.opd.Opd.{Opd}
use Rattle.ir_types.specs.declared.inst.Inst.{Inst}
use Rattle.ir_types.specs.declared.func.Block.{Block}
use Rattle.ir_types.specs.declared.func.Func.{Func}
use Rattle.ir_types.specs.Walks.{targets_at, HasEdge, GoesOn, IsWalk, EndsFrom, EndsAt}
use Rattle.ir_types.specs.Available.{op_targets, targets_of, block_targets, graph_of, is_param, defines, insts_of, insts_at, stands_from, stands_on}
use Rattle.ir_types.specs.Formed.{ends_from, EndsOnce}
use Rattle.ir_model.specs.Values.{same_id}
use Rattle.ir_model.specs.Run.{is_terminator, arm_from}

or_split : (a b : Bool) → (a || b) ≡ true → (a ≡ true) ⊎ (b ≡ true)
or_split true b h = inl refl
or_split false b h = inr h

or_left : (a b : Bool) → a ≡ true → (a || b) ≡ true
or_left true b h = refl
or_left false b h = absurd cc

or_right : (a b : Bool) → b ≡ true → (a || b) ≡ true
or_right true b h = refl
or_right false b h = h

-- ---- one instruction more

defines_next : (x : Id) (is : List Inst) (k : ℕ) (i : Inst) → slice_get is k ≡ Some i → defines x (take (k + 1) is) ≡ true → (defines x (take k is) ≡ true) ⊎ (same_id i.id x ≡ true)
defines_next x is k i e h =
    or_split (defines x (take k is)) (same_id i.id x)
    (sym (list_any_more (λ (j : Inst). same_id j.id x) is k i (slice_get_within is k i e) ∙ ap (λ (j : Inst). defines x (take k is) || same_id j.id x) (get_or_from_slice_get is k i i e)) ∙ h)

stands_next_from : (f : Func) (x : Id) (a : ℕ) (rest : List ℕ) (at k : ℕ) (i : Inst) → EndsFrom a rest at → slice_get (insts_at f at) k ≡ Some i →
    stands_from f x (k + 1) a rest ≡ true → (stands_from f x k a rest ≡ true) ⊎ (same_id i.id x ≡ true)
stands_next_from f x a [] at k i ends e h = defines_next x (insts_at f a) k i (ap (λ n. slice_get (insts_at f n) k) ends ∙ e) h
stands_next_from f x a (b ∷ rest) at k i ends e h = by_first (or_split (defines x (insts_at f a)) (stands_from f x (k + 1) b rest) h) (λ r. stands_next_from f x b rest at k i ends e r)
  where
    lift : (stands_from f x k b rest ≡ true) ⊎ (same_id i.id x ≡ true) → ((defines x (insts_at f a) || stands_from f x k b rest) ≡ true) ⊎ (same_id i.id x ≡ true)
    lift (inl s) = inl (or_right (defines x (insts_at f a)) (stands_from f x k b rest) s)
    lift (inr s) = inr s

    by_first : (defines x (insts_at f a) ≡ true) ⊎ (stands_from f x (k + 1) b rest ≡ true) →
        (stands_from f x (k + 1) b rest ≡ true → (stands_from f x k b rest ≡ true) ⊎ (same_id i.id x ≡ true)) →
        ((defines x (insts_at f a) || stands_from f x k b rest) ≡ true) ⊎ (same_id i.id x ≡ true)
    by_first (inl d) more = inl (or_left (defines x (insts_at f a)) (stands_from f x k b rest) d)
    by_first (inr d) more = lift (more d)

pub stands_next : (f : Func) (x : Id) (walk : List ℕ) (at k : ℕ) (i : Inst) → EndsAt walk at → slice_get (insts_at f at) k ≡ Some i →
    stands_on f x (k + 1) walk ≡ true → (stands_on f x k walk ≡ true) ⊎ (same_id i.id x ≡ true)
stands_next f x [] at k i ends e h = elim ends [ ]
stands_next f x (a ∷ rest) at k i ends e h = by_first (or_split (is_param x f) (stands_from f x (k + 1) a rest) h)
  where
    lift : (stands_from f x k a rest ≡ true) ⊎ (same_id i.id x ≡ true) → ((is_param x f || stands_from f x k a rest) ≡ true) ⊎ (same_id i.id x ≡ true)
    lift (inl s) = inl (or_right (is_param x f) (stands_from f x k a rest) s)
    lift (inr s) = inr s

    by_first : (is_param x f ≡ true) ⊎ (stands_from f x (k + 1) a rest ≡ true) → ((is_param x f || stands_from f x k a rest) ≡ true) ⊎ (same_id i.id x ≡ true)
    by_first (inl p) = inl (or_left (is_param x f) (stands_from f x k a rest) p)
    by_first (inr p) = lift (stands_next_from f x a rest at k i ends e p)

-- ---- one block more

take_all : {A : Type 0} (xs : List A) → take (length xs) xs ≡ xs
take_all [] = refl
take_all (x ∷ xs) = ap (λ ys. x ∷ ys) (take_all xs)

defines_none : (x : Id) (is : List Inst) → defines x (take 0 is) ≡ true → ⊥
defines_none x [] h = no h where
  no : false ≡ true → ⊥
  no e = cc
defines_none x (i ∷ is) h = no h where
  no : false ≡ true → ⊥
  no e = cc

stands_enter_from : (f : Func) (x : Id) (a : ℕ) (rest : List ℕ) (at to : ℕ) → EndsFrom a rest at → stands_from f x 0 a (rest ++ to ∷ []) ≡ true →
    stands_from f x (length (insts_at f at)) a rest ≡ true
stands_enter_from f x a [] at to ends h = by_first (or_split (defines x (insts_at f a)) (defines x (take 0 (insts_at f to))) h)
  where
    by_first : (defines x (insts_at f a) ≡ true) ⊎ (defines x (take 0 (insts_at f to)) ≡ true) → defines x (take (length (insts_at f at)) (insts_at f a)) ≡ true
    by_first (inl d) = ap (λ n. defines x (take (length (insts_at f n)) (insts_at f a))) (sym ends) ∙ ap (defines x) (take_all (insts_at f a)) ∙ d
    by_first (inr d) = elim (defines_none x (insts_at f to) d) [ ]
stands_enter_from f x a (b ∷ rest) at to ends h =
    by_first (or_split (defines x (insts_at f a)) (stands_from f x 0 b (rest ++ to ∷ [])) h) (λ r. stands_enter_from f x b rest at to ends r)
  where
    by_first : (defines x (insts_at f a) ≡ true) ⊎ (stands_from f x 0 b (rest ++ to ∷ []) ≡ true) →
        (stands_from f x 0 b (rest ++ to ∷ []) ≡ true → stands_from f x (length (insts_at f at)) b rest ≡ true) →
        (defines x (insts_at f a) || stands_from f x (length (insts_at f at)) b rest) ≡ true
    by_first (inl d) more = or_left (defines x (insts_at f a)) (stands_from f x (length (insts_at f at)) b rest) d
    by_first (inr d) more = or_right (defines x (insts_at f a)) (stands_from f x (length (insts_at f at)) b rest) (more d)

-- what stands where a block is entered stood at the end of the one before
pub stands_enter : (f : Func) (x : Id) (walk : List ℕ) (at to : ℕ) → EndsAt walk at → stands_on f x 0 (walk ++ to ∷ []) ≡ true → stands_on f x (length (insts_at f at)) walk ≡ true
stands_enter f x [] at to ends h = elim ends [ ]
stands_enter f x (a ∷ rest) at to ends h = by_first (or_split (is_param x f) (stands_from f x 0 a (rest ++ to ∷ [])) h)
  where
    by_first : (is_param x f ≡ true) ⊎ (stands_from f x 0 a (rest ++ to ∷ []) ≡ true) → (is_param x f || stands_from f x (length (insts_at f at)) a rest) ≡ true
    by_first (inl p) = or_left (is_param x f) (stands_from f x (length (insts_at f at)) a rest) p
    by_first (inr p) = or_right (is_param x f) (stands_from f x (length (insts_at f at)) a rest) (stands_enter_from f x a rest at to ends p)

-- at the start the parameters stand
pub stands_start : (f : Func) (x : Id) → stands_on f x 0 (0 ∷ []) ≡ true → is_param x f ≡ true
stands_start f x h = by_first (or_split (is_param x f) (defines x (take 0 (insts_at f 0))) h) where
  by_first : (is_param x f ≡ true) ⊎ (defines x (take 0 (insts_at f 0)) ≡ true) → is_param x f ≡ true
  by_first (inl p) = p
  by_first (inr d) = elim (defines_none x (insts_at f 0) d) [ ]

goes_more : (g : List (List ℕ)) (a : ℕ) (rest : List ℕ) (at to : ℕ) → GoesOn g a rest → EndsFrom a rest at → HasEdge g at to → GoesOn g a (rest ++ to ∷ [])
goes_more g a [] at to goes ends edge = (subst (λ n. HasEdge g n to) (sym ends) edge, tt)
goes_more g a (b ∷ rest) at to goes ends edge = (goes.0, goes_more g b rest at to goes.1 ends edge)

pub walk_more : (g : List (List ℕ)) (walk : List ℕ) (at to : ℕ) → IsWalk g walk → EndsAt walk at → HasEdge g at to → IsWalk g (walk ++ to ∷ [])
walk_more g [] at to walks ends edge = elim ends [ ]
walk_more g (a ∷ rest) at to walks ends edge = (walks.0, walks.1, goes_more g a rest at to walks.2 ends edge)

ends_more_from : (a : ℕ) (rest : List ℕ) (to : ℕ) → EndsFrom a (rest ++ to ∷ []) to
ends_more_from a [] to = refl
ends_more_from a (b ∷ rest) to = ends_more_from b rest to

pub ends_more : (walk : List ℕ) (to : ℕ) → EndsAt (walk ++ to ∷ []) to
ends_more [] to = refl
ends_more (a ∷ rest) to = ends_more_from a rest to

-- ---- the instructions of a block

pub drop_first : {A : Type 0} (xs : List A) (k : ℕ) (y : A) (ys : List A) → drop k xs ≡ y ∷ ys → (slice_get xs k ≡ Some y) × (drop (k + 1) xs ≡ ys)
drop_first [] zero y ys e = absurd cc
drop_first [] (suc k) y ys e = absurd cc
drop_first (x ∷ xs) zero y ys e = let a : x ≡ y = cc in let b : xs ≡ ys = cc in (ap Some a, b)
drop_first (x ∷ xs) (suc k) y ys e =
    let r = drop_first xs k y ys e in
    let more : suc k + 1 ≡ suc (k + 1) = omega arith in
    (r.0, ap (λ n. drop n (x ∷ xs)) more ∙ r.1)

drop_end : {A : Type 0} (xs : List A) (k : ℕ) (y : A) → drop k xs ≡ y ∷ [] → length xs ≡ k + 1
drop_end [] zero y e = absurd cc
drop_end [] (suc k) y e = absurd cc
drop_end (x ∷ xs) zero y e = let b : xs ≡ [] = cc in ap (λ ys. length (x ∷ ys)) b
drop_end (x ∷ xs) (suc k) y e = let r = drop_end xs k y e in omega arith

pub drop_length : {A : Type 0} (xs : List A) (k : ℕ) (y : A) (ys : List A) → ys ≡ [] → drop k xs ≡ y ∷ ys → length xs ≡ k + 1
drop_length xs k y ys nil e = drop_end xs k y (e ∙ ap (λ zs. y ∷ zs) nil)

true_false : true ≡ false → ⊥
true_false e = cc

not_true : (a b : Bool) → (not a && b) ≡ true → a ≡ true → ⊥
not_true true b h e = true_false (sym h)
not_true false b h e = true_false (sym e)

and_right : (a b : Bool) → a && b ≡ true → b ≡ true
and_right true b h = h
and_right false b h = absurd cc

-- a terminator is the last instruction
pub ends_last : (i : Inst) (is : List Inst) → EndsOnce (i ∷ is) → is_terminator i.op ≡ true → is ≡ []
ends_last i [] h e = refl
ends_last i (j ∷ is) h e = elim (not_true (is_terminator i.op) (ends_from j is) h e) [ ]

-- and what is none has others after it
pub ends_rest : (i : Inst) (is : List Inst) → EndsOnce (i ∷ is) → is_terminator i.op ≡ false → EndsOnce is
ends_rest i [] h e = absurd (true_false (sym h ∙ e))
ends_rest i (j ∷ is) h e = and_right (not (is_terminator i.op)) (ends_from j is) h

-- ---- edges

pub targets_found : (f : Func) (at : ℕ) (b : Block) → slice_get f.blocks at ≡ Some b → targets_at (graph_of f) at ≡ block_targets b
targets_found f at b e = get_or_from_slice_get (graph_of f) at (block_targets b) [] (slice_get-map block_targets f.blocks at ∙ ap (λ o. option_map block_targets o) e)

pub insts_found : (f : Func) (at : ℕ) (b : Block) → slice_get f.blocks at ≡ Some b → insts_at f at ≡ b.insts
insts_found f at b e = ap insts_of e

pub targets_last : (b : Block) (k : ℕ) (i : Inst) → slice_get b.insts k ≡ Some i → length b.insts ≡ k + 1 → block_targets b ≡ op_targets i.op
targets_last b k i e long = ap (λ n. targets_of (slice_get b.insts n)) last ∙ ap targets_of e where
  last : length b.insts - 1 ≡ k
  last = omega arith

pub length_graph : (f : Func) → length (graph_of f) ≡ length f.blocks
length_graph f = by_list f.blocks where
  by_list : (bs : List Block) → length (map block_targets bs) ≡ length bs
  by_list [] = refl
  by_list (b ∷ bs) = ap suc (by_list bs)

-- ---- counting

-- how often a number stands in a list
abbrev pub times : ℕ → List ℕ → ℕ
times y [] = 0
times y (x ∷ xs) = cond (x == y) (1 + times y xs) (times y xs)

is_times : (y : ℕ) (xs : List ℕ) → times y xs ≡ count_by (λ x. x == y) xs
is_times y xs = is_count_by (times y) (λ x. x == y) refl (λ x xs. refl) xs

contains_times : (y : ℕ) (xs : List ℕ) (k : ℕ) → slice_get xs k ≡ Some y → 0 < times y xs
contains_times y [] k e = absurd cc
contains_times y (x ∷ xs) zero e = by_test (x == y) same where
  same : (x == y) ≡ true
  same = let s : x ≡ y = cc in grind (arith, nat_tests)

  by_test : (b : Bool) → b ≡ true → 0 < cond b (1 + times y xs) (times y xs)
  by_test true h = omega arith
  by_test false h = absurd cc
contains_times y (x ∷ xs) (suc k) e = by_test (x == y) (contains_times y xs k e) where
  by_test : (b : Bool) → 0 < times y xs → 0 < cond b (1 + times y xs) (times y xs)
  by_test true h = omega arith
  by_test false h = h

-- a number that stands in a list has a place there
pub at_times : (y : ℕ) (xs : List ℕ) → 0 < times y xs → (k : ℕ) × (slice_get xs k ≡ Some y)
at_times y [] h = absurd (omega arith)
at_times y (x ∷ xs) h = by_test (x == y) refl h (λ r. at_times y xs r) where
  by_test : (b : Bool) → (x == y) ≡ b → 0 < cond b (1 + times y xs) (times y xs) → (0 < times y xs → (k : ℕ) × (slice_get xs k ≡ Some y)) →
      (k : ℕ) × (slice_get (x ∷ xs) k ≡ Some y)
  by_test true e h more = let s : x ≡ y = grind (arith, nat_tests) in (0, ap Some s)
  by_test false e h more = let r = more h in (suc r.0, r.1)

pub contained_at : (xs : List ℕ) (y : ℕ) → Contains xs y → (k : ℕ) × (slice_get xs k ≡ Some y)
contained_at xs y h = (h.0, slice_get-get_or xs h.0 y h.1 ∙ ap Some h.2)

pub at_contained : (xs : List ℕ) (k y : ℕ) → slice_get xs k ≡ Some y → Contains xs y
at_contained xs k y e = (k, slice_get_within xs k y e, get_or_from_slice_get xs k y y e)

-- what stands in one list as often as in another where it stands, has a place there
pub counted_at : (y z : ℕ) (xs ys : List ℕ) → count_by (λ x. x == y) xs ≡ count_by (λ x. x == z) ys → (k : ℕ) → slice_get ys k ≡ Some z → (j : ℕ) × (slice_get xs j ≡ Some y)
counted_at y z xs ys same k e =
    at_times y xs (let some = contains_times z ys k e in let a = is_times y xs in let b = is_times z ys in omega arith)

-- the arm from a block that is one of a phi's
pub record Arm (from : ℕ) (bs : List ℕ) (os : List Opd) : Type 0 where
  pub slot : ℕ
  pub opd : Opd
  pub found : arm_from from bs os ≡ Some opd
  pub block : slice_get bs slot ≡ Some from
  pub here : slice_get os slot ≡ Some opd

pub arm_found : (from : ℕ) (bs : List ℕ) (os : List Opd) (j : ℕ) → slice_get bs j ≡ Some from → length bs ≡ length os → Arm from bs os
arm_found from [] os j e long = absurd cc
arm_found from (b ∷ bs) [] j e long = absurd cc
arm_found from (b ∷ bs) (o ∷ os) zero e long = let s : b ≡ from = cc in let t : nat_eq b from ≡ true = grind (arith, nat_tests) in record {
  slot = 0;
  opd = o;
  found = ap (λ t. cond t (Some o) (arm_from from bs os)) t;
  block = ap Some s;
  here = refl;
}
arm_found from (b ∷ bs) (o ∷ os) (suc j) e long = by_test (nat_eq b from) refl (arm_found from bs os j e cc)
  where
    by_test : (t : Bool) → nat_eq b from ≡ t → Arm from bs os → Arm from (b ∷ bs) (o ∷ os)
    by_test true s rest = record {
      slot = 0;
      opd = o;
      found = ap (λ t. cond t (Some o) (arm_from from bs os)) s;
      block = let same : b ≡ from = grind (arith, nat_tests) in ap Some same;
      here = refl;
    }
    by_test false s rest = record {
      slot = suc rest.slot;
      opd = rest.opd;
      found = ap (λ t. cond t (Some o) (arm_from from bs os)) s ∙ rest.found;
      block = rest.block;
      here = rest.here;
    }
