-- What a graph that holds a window says of the window in each module for which it is right.
use Rattle.std.proofs.Common.{◌≡◌, refl, sym, ap, ◌∙◌, subst, ◌<◌, Bool, true, false, cond, Option, None, Some, Result, Ok, Err, IfErr, List, [], ◌∷◌, ◌++◌, map, length, arith}
use Rattle.std.specs.List.{All, list_any}
use Rattle.std.proofs.lemmas.List.{reverse-append}
use Rattle.std.proofs.lemmas.List.Elements.{All-head}
use Rattle.ir_types.specs.declared.id.Id.{Id}
use Rattle.ir_types.specs.declared.module.Module.{Module}
use Rattle.ir_types.specs.Available.{same_id}
use Rattle.ir_types.specs.Formed.{IsFormed}
use Rattle.ir_types.proofs.Among.{same_itself}
use Rattle.vx_view.specs.Answers.{found}
use Rattle.vx_serial.specs.Window.{is_member}
use Rattle.vx_serial.proofs.Decided.{or_first}
use Rattle.vx_deps.specs.declared.refusal.OrderRefusal.{OrderRefusal}
use Rattle.vx_deps.specs.declared.refusal.OrderRefusal.TheVariants.{NoOrder, OutOfMemory}
use Rattle.vx_deps.specs.Graphs.{Kept, ids_of, kept_of, between, keeps, IsRight}
use Rattle.vx_deps.specs.Orders.{HaveMembers, from_member, window_ids, order}
use Rattle.vx_deps.specs.Cycles.{AreBundlesOf, LeadsTo, LeadThrough, IsCycle, IsGroup, Refuses}
use Rattle.vx_deps.specs.Ordered.{last_of, last_id, order_at, order_to, order_over, depends_if, depends_in, RefusesIn}
use Rattle.vx_deps.proofs.Growing.{told}
use Rattle.vx_deps.proofs.Orders.{window_order}
use Rattle.vx_deps.proofs.Rowing.{members_window}

-- ---- the last of a window

last_front : (xs : List Id) (x z : Id) → last_of x (xs ++ z ∷ []) ≡ z
last_front [] x z = refl
last_front (y ∷ ys) x z = last_front ys y z

last_more : (xs : List Id) (z : Id) → last_id (xs ++ z ∷ []) ≡ Some z
last_more [] z = refl
last_more (x ∷ xs) z = ap Some (last_front xs x z)

empty_more : {A : Type 0} (x : A) (xs : List A) → [] ≡ x ∷ xs → ⊥
empty_more x xs e = cc

-- it is the last of all
last_window : (bundles : List (List Id)) (ids : List Id) (x : Id) (xs : List Id) → from_member bundles ids ≡ x ∷ xs → last_id ids ≡ last_id (x ∷ xs)
last_window bundles [] x xs e = absurd (empty_more x xs e)
last_window bundles (y ∷ ys) x xs e = by_test (is_member bundles y) e (λ r. later ys r (last_window bundles ys x xs r))
  where
    later : (zs : List Id) → from_member bundles zs ≡ x ∷ xs → last_id zs ≡ last_id (x ∷ xs) → last_id (y ∷ zs) ≡ last_id (x ∷ xs)
    later [] r h = absurd (empty_more x xs r)
    later (z ∷ zs) r h = h

    by_test : (b : Bool) → cond b (y ∷ ys) (from_member bundles ys) ≡ x ∷ xs → (from_member bundles ys ≡ x ∷ xs → last_id (y ∷ ys) ≡ last_id (x ∷ xs)) → last_id (y ∷ ys) ≡ last_id (x ∷ xs)
    by_test true r more = ap last_id r
    by_test false r more = more r

-- from the first member on, again
from_again : (bundles : List (List Id)) (ids : List Id) → from_member bundles (from_member bundles ids) ≡ from_member bundles ids
from_again bundles [] = refl
from_again bundles (x ∷ xs) = by_test (is_member bundles x) refl (from_again bundles xs)
  where
    by_test : (b : Bool) → is_member bundles x ≡ b → from_member bundles (from_member bundles xs) ≡ from_member bundles xs →
        from_member bundles (cond b (x ∷ xs) (from_member bundles xs)) ≡ cond b (x ∷ xs) (from_member bundles xs)
    by_test true e more = ap (λ b. cond b (x ∷ xs) (from_member bundles xs)) e
    by_test false e more = more

-- ---- a first member

first_of : (b : List Id) → 0 < length b → (x : Id) × (list_any (same_id x) b ≡ true)
first_of [] h = absurd (omega arith)
first_of (x ∷ xs) h = (x, or_first (same_id x x) (list_any (same_id x) xs) (same_itself x))

some_member : (ids : List Id) (bundles : List (List Id)) → 0 < length bundles → AreBundlesOf ids bundles → (x : Id) × (is_member bundles x ≡ true)
some_member ids [] h are = absurd (omega arith)
some_member ids (b ∷ bs) h are =
    let f = first_of b (All-head (λ bundle. 0 < length bundle) b bs are.filled) in
    (f.0, or_first (list_any (same_id f.0) b) (is_member bs f.0) f.1)

no_any : (x : Id) → list_any (same_id x) [] ≡ true → ⊥
no_any x h = cc

-- ---- dependences

abbrev IsKept : {A : Type 0} → Option A → Type 0
IsKept {A} u = (a : A) × (u ≡ Some a)

both_kept : (u v : Option Kept) → between u v ≡ true → IsKept u × IsKept v
both_kept None v e = absurd cc
both_kept (Some a) None e = absurd cc
both_kept (Some a) (Some b) e = ((a, refl), (b, refl))

module _ (m : Module) (formed : IsFormed m) (kept : List Kept) (right : IsRight m kept) where
  kept_depends : (x y : Id) → keeps kept x y ≡ true → depends_in m x y ≡ true
  kept_depends x y e =
      let h = both_kept (kept_of x kept) (kept_of y kept) e in
      let t = told m kept formed right x y h.0 h.1 in
      ap (λ u. depends_if m u (found m y)) t.earlier_found ∙ ap (depends_if m (Some t.earlier)) t.later_found ∙ sym t.same ∙ e

  module _ (ids : List Id) where
    leads_in : (g h : List Id) → LeadsTo (keeps kept) ids g h → LeadsTo (depends_in m) ids g h
    leads_in g h l = record { earlier = l.earlier; later = l.later; in_first = l.in_first; in_second = l.in_second; before = l.before; kept = kept_depends l.earlier l.later l.kept }

    through_in : (g : List Id) (gs : List (List Id)) (h : List Id) → LeadThrough (keeps kept) ids g gs h → LeadThrough (depends_in m) ids g gs h
    through_in g [] h l = leads_in g h l
    through_in g (k ∷ ks) h l = (leads_in g k l.0, through_in k ks h l.1)

    cycle_in : (cycle : List (List Id)) → IsCycle (keeps kept) ids cycle → IsCycle (depends_in m) ids cycle
    cycle_in [] c = c
    cycle_in (g ∷ gs) c = through_in g gs g c

-- ---- the order

module _ (kept : List Kept) (ids : List Id) (bundles : List (List Id)) (held_is : ids_of kept ≡ from_member bundles ids) (some : 0 < length bundles) (are : AreBundlesOf ids bundles) where
  pub bundles_held : AreBundlesOf (ids_of kept) bundles
  bundles_held = record {
    filled = are.filled;
    members = λ x h. ap (list_any (same_id x)) held_is ∙ members_window bundles ids x h (are.members x h);
    once = are.once;
  }

  module _ (m : Module) (formed : IsFormed m) where
    order_of_kept : (k : Kept) (ks : List Kept) → ids_of (k ∷ ks) ≡ from_member bundles ids → HaveMembers (ids_of (k ∷ ks)) bundles → IsRight m (k ∷ ks) → order_over m ids bundles ≡ order (k ∷ ks) bundles
    order_of_kept k ks e members right =
        let w = window_order m formed k ks right bundles members in
        let cut : ids_of (k ∷ ks) ≡ ids_of ks ++ k.inst.id ∷ [] = reverse-append (k.inst.id ∷ []) (map (λ (n : Kept). n.inst.id) ks) in
        let last : last_id (from_member bundles ids) ≡ Some k.inst.id = ap last_id (sym e ∙ cut) ∙ last_more (ids_of ks) k.inst.id in
        ap (order_to m bundles) (by_window (from_member bundles ids) refl last) ∙ ap (order_at m k.inst.id bundles) w.there ∙ w.same
      where
        none_some : {A : Type 0} {a : A} → None ≡ Some a → ⊥
        none_some e = cc

        by_window : (l : List Id) → from_member bundles ids ≡ l → last_id l ≡ Some k.inst.id → last_id ids ≡ Some k.inst.id
        by_window [] e h = absurd (none_some h)
        by_window (x ∷ xs) e h = last_window bundles ids x xs e ∙ h

    pub order_is : IsRight m kept → order_over m ids bundles ≡ order kept bundles
    order_is right = by_kept kept held_is bundles_held right
      where
        by_kept : (ks : List Kept) → ids_of ks ≡ from_member bundles ids → AreBundlesOf (ids_of ks) bundles → IsRight m ks → order_over m ids bundles ≡ order ks bundles
        by_kept [] e held right = absurd (let s = some_member ids bundles some are in no_any s.0 (held.members s.0 s.1))
        by_kept (k ∷ ks) e held right = order_of_kept k ks e held.members right

    pub refusal_in : IsRight m kept → (refusal : OrderRefusal) → Refuses (keeps kept) (window_ids kept bundles) bundles refusal → RefusesIn m ids bundles refusal
    refusal_in right OutOfMemory r = tt
    refusal_in right (NoOrder cycle) r =
        let there : window_ids kept bundles ≡ from_member bundles ids = ap (from_member bundles) held_is ∙ from_again bundles ids in (
          order_is right ∙ r.0,
          subst (λ l. IsCycle (depends_in m) l cycle) there (cycle_in m formed kept right (window_ids kept bundles) cycle r.1),
          subst (λ l. All (IsGroup l bundles) cycle) there r.2,
        )

-- ---- results

pub if_err : {A E : Type 0} (r : Result A E) (P Q : E → Type 0) → ((e : E) → P e → Q e) → IfErr r P → IfErr r Q
if_err (Ok a) P Q f h = h
if_err (Err e) P Q f h = f e h
