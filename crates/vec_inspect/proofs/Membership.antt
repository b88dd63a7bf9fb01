-- Where no member is outside and none twice, bundles may be asked for an order.
use Rattle.std.proofs.Common.{◌≡◌, ◌∙◌, sym, ap, refl, Bool, true, false, ◌||◌, None, Some, List, [], ◌∷◌, cond, ◌<◌, length}
use Rattle.std.specs.List.{All, list_any}
use Rattle.ir_types.specs.declared.id.Id.{Id}
use Rattle.ir_types.specs.Available.{same_id}
use Rattle.ir_types.proofs.Among.{same_is}
use Rattle.vx_serial.specs.Window.{joined}
use Rattle.vx_serial.specs.Bundles.{AreOnce}
use Rattle.vx_serial.proofs.Places.{member_joined}
use Rattle.vx_deps.specs.Orders.{HaveMembers}
use Rattle.vx_deps.specs.Cycles.{AreBundlesOf}
use Rattle.vec_inspect.specs.Members.{first_outside, first_twice}

inside : (ids members : List Id) (x : Id) → first_outside ids members ≡ None → list_any (same_id x) members ≡ true → list_any (same_id x) ids ≡ true
inside ids [] x none there = absurd cc
inside ids (y ∷ ys) x none there = by_test (list_any (same_id y) ids) (same_id x y) refl refl (inside ids ys x) none there where
  by_test : (a b : Bool) → list_any (same_id y) ids ≡ a → same_id x y ≡ b → (first_outside ids ys ≡ None → list_any (same_id x) ys ≡ true → list_any (same_id x) ids ≡ true) →
      cond a (first_outside ids ys) (Some y) ≡ None → (b || list_any (same_id x) ys) ≡ true → list_any (same_id x) ids ≡ true
  by_test true true e f later n h = ap (λ z. list_any (same_id z) ids) (same_is x y f) ∙ e
  by_test true false e f later n h = later n h
  by_test false b e f later n h = absurd cc

pub members_held : (ids : List Id) (bundles : List (List Id)) → first_outside ids (joined bundles) ≡ None → HaveMembers ids bundles
members_held ids bundles none x h = inside ids (joined bundles) x none (sym (member_joined bundles x) ∙ h)

pub once : (members : List Id) → first_twice members ≡ None → AreOnce members
once [] none = tt
once (x ∷ xs) none = by_test (list_any (same_id x) xs) refl (once xs) none where
  by_test : (a : Bool) → list_any (same_id x) xs ≡ a → (first_twice xs ≡ None → AreOnce xs) → cond a (Some x) (first_twice xs) ≡ None → (list_any (same_id x) xs ≡ false) × AreOnce xs
  by_test true e later n = absurd cc
  by_test false e later n = (e, later n)

pub bundles_of : (ids : List Id) (bundles : List (List Id)) → All (λ b. 0 < length b) bundles → first_outside ids (joined bundles) ≡ None → first_twice (joined bundles) ≡ None → AreBundlesOf ids bundles
bundles_of ids bundles filled held twice = record { filled = filled; members = members_held ids bundles held; once = once (joined bundles) twice }
