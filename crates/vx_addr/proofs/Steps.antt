-- One step of a walk: what it ends at stays, and it comes by no more.
use Rattle.std.proofs.Common.{◌≡◌, refl, sym, ap, ◌∙◌, subst, ℕ, zero, suc, Bool, true, false, ◌&&◌, ◌||◌, Option, None, Some, List, []}
use Rattle.ir_types.specs.declared.id.Id.{Id}
use Rattle.ir_types.specs.declared.id.Place.{Place}
use Rattle.ir_types.specs.declared.opd.Opd.{Opd}
use Rattle.ir_types.specs.declared.opd.Opd.TheVariants.{Val, Lit, Sym}
use Rattle.ir_types.specs.declared.ty.Ty.{Ty}
use Rattle.ir_types.specs.declared.op.Op.{Op}
use Rattle.ir_types.specs.declared.op.Op.TheVariants.{Bin, Icmp, Cast, Select, Extract, Insert, Shuffle, Gep, Load, Store, Alloca, Phi, Ret, Br, CondBr, Switch, Unreachable, Call}
use Rattle.ir_types.specs.declared.inst.Inst.{Inst}
use Rattle.ir_types.specs.declared.module.Module.{Module}
use Rattle.ir_types.specs.Available.{same_id}
use Rattle.ir_types.specs.Typed.{IsTyped}
use Rattle.ir_types.specs.Formed.{IsFormed}
use Rattle.ir_types.proofs.Among.{same_itself}
use Rattle.vx_view.specs.Answers.{is_value, find}
use Rattle.vx_view.specs.Addresses.{Offset, Walked, Led, Form, led_op, led_by, led_back, sum_back, summed_by, is_wide, is_sum, back_from, symbol_back, or_stay, pointers, symbols, form_of, form_in, start}
use Rattle.vx_view.specs.Blocks.{block_at}
use Rattle.vx_view.proofs.Blocks.{standing_formed}
use Rattle.vx_addr.specs.Parts.{IsStepped, IsPlain}
use Rattle.vx_view.specs.Conflicts.{Access}
use Rattle.vx_addr.specs.Walks.{on_access, on_pointers, is_symbol, on_symbols, on_from, on_rest, on_walks, first, end, still, IsStep, Follows, IsSumStep, FollowsSum}

pub or_left : (a b : Bool) → a ≡ true → (a || b) ≡ true
or_left true b h = refl
or_left false b h = absurd cc

pub or_right : (a b : Bool) → b ≡ true → (a || b) ≡ true
or_right true b h = refl
or_right false b h = h

-- ---- instructions of a formed module can be followed

stepped_of : (ret : Ty) (op : Op) (t : Ty) (tys : List (Option Ty)) → IsTyped ret op t tys → IsStepped op
stepped_of ret (Gep elem inbounds) t tys h = h.1
stepped_of ret (Bin op flags) t tys h = tt
stepped_of ret (Icmp pred) t tys h = tt
stepped_of ret (Cast op nneg) t tys h = tt
stepped_of ret Select t tys h = tt
stepped_of ret Extract t tys h = tt
stepped_of ret Insert t tys h = tt
stepped_of ret (Shuffle mask) t tys h = tt
stepped_of ret (Load align) t tys h = tt
stepped_of ret (Store align) t tys h = tt
stepped_of ret (Alloca elem align) t tys h = tt
stepped_of ret (Phi blocks) t tys h = tt
stepped_of ret Ret t tys h = tt
stepped_of ret (Br to) t tys h = tt
stepped_of ret (CondBr taken other) t tys h = tt
stepped_of ret (Switch other cases to) t tys h = tt
stepped_of ret Unreachable t tys h = tt
stepped_of ret (Call site) t tys h = tt

pub plain_of : (m : Module) → IsFormed m → (place : Place) (x : Id) (i : Inst) → Some i ≡ find x (block_at m place) → IsPlain i
plain_of m h place x i e =
    let f = standing_formed m h place x i (sym e) in
    record { opds = f.formed.operands; step = stepped_of f.func.ret i.op i.ty _ f.formed.typed }

module _ (block : List Inst) where
  -- ---- pointers

  stays_at : (n : ℕ) (p : Opd) (o : Offset) → led_back block p o ≡ None → pointers n block p o ≡ record { pointer = p; offset = o; left = n }
  stays_at zero p o e = refl
  stays_at (suc n) p o e = ap (λ u. or_stay (record { pointer = p; offset = o; left = suc n }) u (λ led. pointers n block led.0 led.1)) e

  pub stays : (w : Walked) → led_back block w.pointer w.offset ≡ None → IsStep block w w false
  stays w e = (stays_at w.left w.pointer w.offset e, refl)

  done_at : (n : ℕ) (p : Opd) (o : Offset) → n ≡ 0 → pointers n block p o ≡ record { pointer = p; offset = o; left = n }
  done_at zero p o e = refl
  done_at (suc n) p o e = absurd cc

  pub done : (w : Walked) → w.left ≡ 0 → IsStep block w w false
  done w e = (done_at w.left w.pointer w.offset e, refl)

  no_value : (p : Opd) (o : Offset) → ((x : Id) → p ≡ Val x → ⊥) → led_back block p o ≡ None
  no_value (Val x) o h = absurd (h x refl)
  no_value (Lit l) o h = refl
  no_value (Sym g) o h = refl

  on_at : (n : ℕ) (p : Opd) (o : Offset) (led : Led) → led_back block p o ≡ Some led → pointers (suc n) block p o ≡ pointers n block led.0 led.1
  on_at n p o led e = ap (λ u. or_stay (record { pointer = p; offset = o; left = suc n }) u (λ l. pointers n block l.0 l.1)) e

  by_at : (n : ℕ) (p : Opd) (o : Offset) (led : Led) → led_back block p o ≡ Some led → (x : Id) → on_pointers n block led.0 led.1 x ≡ true → on_pointers (suc n) block p o x ≡ true
  by_at n p o led e x h =
      or_right (is_value x p) (or_stay false (led_back block p o) (λ l. on_pointers n block l.0 l.1 x)) (ap (λ u. or_stay false u (λ l. on_pointers n block l.0 l.1 x)) e ∙ h)

  stepped : (old new : Walked) (led : Led) → led_back block old.pointer old.offset ≡ Some led → new.pointer ≡ led.0 → new.offset ≡ led.1 → old.left ≡ suc new.left → IsStep block old new true
  stepped old new led e p o n = (
    ap (λ k. pointers k block old.pointer old.offset) n ∙ on_at new.left old.pointer old.offset led e
        ∙ ap (λ q. pointers new.left block q led.1) (sym p) ∙ ap (λ q. pointers new.left block new.pointer q) (sym o),
    λ x h.
        ap (λ k. on_pointers k block old.pointer old.offset x) n
        ∙ by_at new.left old.pointer old.offset led e x (ap (λ q. on_pointers new.left block q led.1 x) (sym p) ∙ ap (λ q. on_pointers new.left block new.pointer q x) (sym o) ∙ h),
  )

  follows : (old new : Walked) (on : Bool) (u : Option Led) → led_back block old.pointer old.offset ≡ u → Follows u old new on → IsStep block old new on
  follows old new on None e h = subst (IsStep block old new) (sym h.0) (stays_at old.left old.pointer old.offset e, h.1)
  follows old new on (Some led) e h = subst (IsStep block old new) (sym h.0) (stepped old new led e h.1 h.2 h.3)

  -- the pointer's definition was found, and its instruction followed
  pub followed : (x : Id) (i : Inst) (old new : Walked) (on : Bool) → old.pointer ≡ Val x → Some i ≡ find x block →
      Follows (led_op i.op i.opds old.offset) old new on → IsStep block old new on
  followed x i old new on e f h = follows old new on (led_op i.op i.opds old.offset) (ap (λ p. led_back block p old.offset) e ∙ ap (led_by old.offset) (sym f)) h

  pub not_found : (x : Id) (w : Walked) → w.pointer ≡ Val x → None ≡ find x block → IsStep block w w false
  not_found x w e f = stays w (ap (λ p. led_back block p w.offset) e ∙ ap (led_by w.offset) (sym f))

  starts_at : (n : ℕ) (o : Offset) (x : Id) → on_pointers n block (Val x) o x ≡ true
  starts_at zero o x = same_itself x
  starts_at (suc n) o x = or_left (same_id x x) _ (same_itself x)

  -- a walk comes by where it stands
  pub starts : (x : Id) (w : Walked) → w.pointer ≡ Val x → on_from block w x ≡ true
  starts x w e = ap (λ p. on_pointers w.left block p w.offset x) e ∙ starts_at w.left w.offset x

  ends_at : (n : ℕ) (p : Opd) (o : Offset) (x : Id) → is_value x (pointers n block p o).pointer ≡ true → on_pointers n block p o x ≡ true
  ends_at zero p o x h = h
  ends_at (suc n) p o x h = by_led (led_back block p o) h (λ led r. ends_at n led.0 led.1 x r)
    where
      by_led : (u : Option Led) → is_value x (or_stay (record { pointer = p; offset = o; left = suc n }) u (λ l. pointers n block l.0 l.1)).pointer ≡ true →
          ((led : Led) → is_value x (pointers n block led.0 led.1).pointer ≡ true → on_pointers n block led.0 led.1 x ≡ true) →
          (is_value x p || or_stay false u (λ l. on_pointers n block l.0 l.1 x)) ≡ true
      by_led None r more = or_left (is_value x p) false r
      by_led (Some led) r more = or_right (is_value x p) (on_pointers n block led.0 led.1 x) (more led r)

  -- a walk comes by where it ends
  pub root_on : (p : Opd) (x : Id) → is_value x (form_in block p).root ≡ true → on_walks block p x ≡ true
  root_on p x h = or_left (on_from block (first p) x) (on_rest block (end block (first p)) x) (ends_at 64 p start x h)

  -- ---- sums

  sum_stays_at : (n : ℕ) (o : Offset) → symbol_back block o ≡ None → symbols n block o ≡ o
  sum_stays_at zero o e = refl
  sum_stays_at (suc n) o e = ap (λ u. or_stay o u (λ next. symbols n block next)) e

  sum_done_at : (n : ℕ) (o : Offset) → n ≡ 0 → symbols n block o ≡ o
  sum_done_at zero o e = refl
  sum_done_at (suc n) o e = absurd cc

  pub sum_done : (w : Walked) → w.left ≡ 0 → IsSumStep block w w false
  sum_done w e = (ap (λ (o : Offset). rooted w.pointer o) (sum_done_at w.left w.offset e), refl)
    where
      rooted : Opd → Offset → Form
      rooted p o = record { root = p; offset = o }

  sum_stays : (w : Walked) → symbol_back block w.offset ≡ None → IsSumStep block w w false
  sum_stays w e = (ap (λ (o : Offset). rooted w.pointer o) (sum_stays_at w.left w.offset e), refl)
    where
      rooted : Opd → Offset → Form
      rooted p o = record { root = p; offset = o }

  pub no_symbol : (w : Walked) → w.offset.symbol ≡ None → IsSumStep block w w false
  no_symbol w e = sum_stays w (ap (back_from block w.offset.constant) e)

  sum_stepped : (old new : Walked) (next : Offset) → symbol_back block old.offset ≡ Some next → new.pointer ≡ old.pointer → new.offset ≡ next → old.left ≡ suc new.left → IsSumStep block old new true
  sum_stepped old new next e p o n = (
    ap (λ q. rooted old.pointer q)
        (ap (λ k. symbols k block old.offset) n ∙ ap (λ u. or_stay old.offset u (λ q. symbols new.left block q)) e ∙ ap (λ q. symbols new.left block q) (sym o))
        ∙ ap (λ q. rooted q (symbols new.left block new.offset)) (sym p),
    λ x h.
        ap (λ k. on_symbols k block old.offset x) n
        ∙ or_right (is_symbol x old.offset.symbol) (or_stay false (symbol_back block old.offset) (λ q. on_symbols new.left block q x))
        (ap (λ u. or_stay false u (λ q. on_symbols new.left block q x)) e ∙ ap (λ q. on_symbols new.left block q x) (sym o) ∙ h),
  )
    where
      rooted : Opd → Offset → Form
      rooted p o = record { root = p; offset = o }

  sum_follows : (old new : Walked) (on : Bool) (u : Option Offset) → symbol_back block old.offset ≡ u → FollowsSum u old new on → IsSumStep block old new on
  sum_follows old new on None e h = subst (IsSumStep block old new) (sym h.0) ((sum_stays old e).0, h.1)
  sum_follows old new on (Some next) e h = subst (IsSumStep block old new) (sym h.0) (sum_stepped old new next e h.1 h.2 h.3)

  pub sum_followed : (x : Id) (scale : ℕ) (i : Inst) (old new : Walked) (on : Bool) → old.offset.symbol ≡ Some (x, scale) → Some i ≡ find x block →
      FollowsSum (summed_by (is_wide i.ty && is_sum i.op) i.opds scale old.offset.constant) old new on → IsSumStep block old new on
  sum_followed x scale i old new on e f h =
      sum_follows old new on (summed_by (is_wide i.ty && is_sum i.op) i.opds scale old.offset.constant)
      (ap (back_from block old.offset.constant) e ∙ ap (sum_back scale old.offset.constant) (sym f)) h

  pub sum_not_found : (x : Id) (scale : ℕ) (w : Walked) → w.offset.symbol ≡ Some (x, scale) → None ≡ find x block → IsSumStep block w w false
  sum_not_found x scale w e f = sum_stays w (ap (back_from block w.offset.constant) e ∙ ap (sum_back scale w.offset.constant) (sym f))

  sum_starts_at : (n : ℕ) (o : Offset) (x : Id) → is_symbol x o.symbol ≡ true → on_symbols n block o x ≡ true
  sum_starts_at zero o x h = h
  sum_starts_at (suc n) o x h = or_left (is_symbol x o.symbol) _ h

  pub sum_starts : (x : Id) (scale : ℕ) (w : Walked) → w.offset.symbol ≡ Some (x, scale) → on_rest block w x ≡ true
  sum_starts x scale w e = sum_starts_at w.left w.offset x (ap (is_symbol x) e ∙ same_itself x)

  -- ---- a whole walk

  -- a step that was made leaves what the walk from the start comes to and by
  abbrev pub Leads : Walked → Walked → Type 0
  Leads from w = (end block w ≡ end block from) × ((x : Id) → on_from block w x ≡ true → on_from block from x ≡ true)

  pub leads_on : (from old new : Walked) → Leads from old → IsStep block old new true → Leads from new
  leads_on from old new h s = (sym s.0 ∙ h.0, λ x e. h.1 x (s.1 x e))

  pub leads_end : (from old new : Walked) → Leads from old → IsStep block old new false → new ≡ end block from
  leads_end from old new h s = s.1 ∙ sym s.0 ∙ h.0

  abbrev pub SumLeads : Walked → Walked → Type 0
  SumLeads from w = (form_of block w ≡ form_of block from) × ((x : Id) → on_rest block w x ≡ true → on_rest block from x ≡ true)

  pub sum_leads_on : (from old new : Walked) → SumLeads from old → IsSumStep block old new true → SumLeads from new
  sum_leads_on from old new h s = (sym s.0 ∙ h.0, λ x e. h.1 x (s.1 x e))

  pub sum_leads_end : (from old new : Walked) → SumLeads from old → IsSumStep block old new false → still new ≡ form_of block from
  sum_leads_end from old new h s = ap still s.1 ∙ sym s.0 ∙ h.0

-- a pointer in a block of nothing is its own root
pub alone : (p : Opd) → form_in [] p ≡ record { root = p; offset = start }
alone p = by_stay (stays_at [] 64 p start (nothing p))
  where
    nothing : (q : Opd) → led_back [] q start ≡ None
    nothing (Val x) = refl
    nothing (Lit l) = refl
    nothing (Sym g) = refl

    by_stay : pointers 64 [] p start ≡ record { pointer = p; offset = start; left = 64 } → form_of [] (pointers 64 [] p start) ≡ record { root = p; offset = start }
    by_stay e = ap (form_of []) e

-- ---- both walks of a form, from a copy of its pointer

module _ (block : List Inst) (p q : Opd) (same : q ≡ p) where
  pub pointers_on : (x : Id) → on_from block (first q) x ≡ true → on_walks block p x ≡ true
  pointers_on x h = or_left (on_from block (first p) x) (on_rest block (end block (first p)) x) (ap (λ r. on_from block (first r) x) (sym same) ∙ h)

  pub sums_on : (w : Walked) → w ≡ end block (first q) → (x : Id) → on_rest block w x ≡ true → on_walks block p x ≡ true
  sums_on w e x h =
      or_right (on_from block (first p) x) (on_rest block (end block (first p)) x)
      (ap (λ r. on_rest block (end block (first r)) x) (sym same) ∙ ap (λ v. on_rest block v x) (sym e) ∙ h)

  pub form_is : (w : Walked) (f : Form) → w ≡ end block (first q) → f ≡ form_of block w → f ≡ form_in block p
  form_is w f e g = g ∙ ap (form_of block) e ∙ ap (λ r. form_in block r) same

-- ---- the roots of two forms, and the accesses of two instructions

module _ (block : List Inst) (p q : Opd) where
  pub roots_on : (f g : Form) → f ≡ form_in block p → g ≡ form_in block q → (x : Id) → (is_value x f.root || is_value x g.root) ≡ true → (on_walks block p x || on_walks block q x) ≡ true
  roots_on f g e h x r = by_first (is_value x f.root) refl r
    where
      by_first : (b : Bool) → is_value x f.root ≡ b → (b || is_value x g.root) ≡ true → (on_walks block p x || on_walks block q x) ≡ true
      by_first true t r = or_left (on_walks block p x) (on_walks block q x) (root_on block p x (ap (λ (k : Form). is_value x k.root) (sym e) ∙ t))
      by_first false t r = or_right (on_walks block p x) (on_walks block q x) (root_on block q x (ap (λ (k : Form). is_value x k.root) (sym h) ∙ r))

module _ (block : List Inst) (u v : Option Access) (a b : Access) (one : Some a ≡ u) (other : Some b ≡ v) where
  pub accesses_on : (x : Id) → (on_walks block a.pointer x || on_walks block b.pointer x) ≡ true → (on_access block u x || on_access block v x) ≡ true
  accesses_on x h = ap (λ w. on_access block w x || on_access block v x) (sym one) ∙ ap (λ w. on_walks block a.pointer x || on_access block w x) (sym other) ∙ h
