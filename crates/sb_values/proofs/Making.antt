-- What a change that fits asks of a whole sandbox is there, and what it makes is whole again.
use Rattle.std.proofs.Common.{◌≡◌, refl, sym, ap, ◌∙◌, subst, ℕ, suc, ◌<◌, ◌≤◌, Bool, true, false, nat_lt, Option, None, Some, List, [], ◌∷◌, length, slice_get, arith}
use Rattle.std.specs.Prelude.{IsSome, IsOk, is_err, Result, Ok, Err, option_and_then}
use Rattle.std.proofs.lemmas.Bool.Decides.{nat_tests}
use Rattle.ir_types.specs.declared.id.Id.{Id}
use Rattle.ir_types.specs.declared.opd.Opd.{Opd}
use Rattle.ir_types.specs.declared.module.Module.{Module}
use Rattle.ir_types.proofs.Among.{same_is, swapped}
use Rattle.vx_view.specs.declared.change.Change.{Change}
use Rattle.vx_view.specs.declared.change.Change.TheVariants.{Insert, Remove, Move, Replace, SetOperand}
use Rattle.vx_view.specs.Answers.{found, Standing}
use Rattle.vx_view.specs.Changes.{applied, Fits}
use Rattle.ir_types.specs.Formed.{IsFormed}
use Rattle.vx_view.specs.Uses.{IsExact, lifted}
use Rattle.vx_view.proofs.Lifted.{lifted_exact}
use Rattle.vx_view.specs.UsesAfter.{Contents, cost, changed, lists_after, all_taken}
use Rattle.sb_uses.specs.Stock as slots
use Rattle.sb_uses.specs.Stock.{Stock, stock, Holding, HasSlots, LacksSlots, HasSlot, taken}
use Rattle.sb_uses.specs.StockAfter.{opds_of}
use Rattle.sb_uses.specs.Totals.{IdsApart, slots_of, slots_came}
use Rattle.sb_uses.proofs.Totals.{apart_once, formed_apart, neither_right}
use Rattle.sb_uses.proofs.Changed.{same_found, apart_after}
use Rattle.sb_uses.proofs.Counted.{slots_part, slots_counted, after_lists}
use Rattle.sb_uses.proofs.Exact.{lists_exact, listed, not_listed, not_listed_then, slot_listed, slot_not_listed_then}
use Rattle.sb_lines.specs.Arena.{seen, room}
use Rattle.sb_lines.specs.Spots.{operand, operand_at}
use Rattle.sb_values.specs.declared.parts.Parts.{Parts}
use Rattle.sb_values.specs.declared.undo.Undo.{Undo}
use Rattle.sb_values.specs.Sandboxes.{State, state, contents, spare, IsWhole}
use Rattle.sb_values.specs.Undoing.{opds_at}
use Rattle.sb_values.specs.Making.{IsHeld, SlotGoes, CanMake, IsMade}

some_if : {A : Type 0} {o : Option A} {a : A} → o ≡ Some a → IsSome o
some_if e = subst IsSome (sym e) refl

taken_lists : (user : Id) (k : ℕ) (os : List Opd) (s : Stock) → (taken user k os s).lists ≡ all_taken user k os s.lists
taken_lists user k [] s = refl
taken_lists user k (o ∷ os) s = taken_lists user (suc k) os (slots.slot_taken user k o s)

has_one : {A : Type 0} (xs : List A) (k : ℕ) (a : A) → slice_get xs k ≡ Some a → 0 < length xs
has_one [] k a e = absurd (no_none e) where
  no_none : {B : Type 0} {b : B} → None ≡ Some b → ⊥
  no_none r = cc
has_one (x ∷ xs) k a e = omega (arith)

-- ---- what is asked

module _ (p : Parts) (whole : IsWhole (state p)) where
  id_of : (x : Id) (s : Standing) → found (seen p.lines) x ≡ Some s → s.inst.id ≡ x
  id_of x s e = same_is s.inst.id x (same_found (seen p.lines) x s (apart_once (seen p.lines) whole.apart) e)

  held_of : (x : Id) (s : Standing) → found (seen p.lines) x ≡ Some s → IsHeld x p
  held_of x s e = record {
    there = some_if e;
    id_is = id_of x;
    has = subst (λ o. HasSlots x 0 (opds_of o) (stock p.slots).lists) (sym e) (listed (seen p.lines) (stock p.slots).lists whole.apart whole.exact x s e);
    few = few_of (slots_part (seen p.lines) whole.apart x s e);
  }
    where
      opds_is : length (opds_at (seen p.lines) x) ≡ length s.inst.opds
      opds_is = ap (λ o. length (opds_of o)) e

      few_of : length s.inst.opds ≤ slots_of (seen p.lines) → length (opds_at (seen p.lines) x) ≤ p.slots.held
      few_of le = let all : p.slots.held ≡ slots_of (seen p.lines) = whole.held in omega (arith, le, opds_is, all)

  room_for : (c : Change) (n : ℕ) → n ≤ cost c → cost c ≤ spare p → (n ≤ room p.lines) × (n ≤ slots.spare p.slots)
  room_for c n le fit = (omega (arith, le, fit), omega (arith, le, fit))

  pub can_make : (c : Change) → Fits (seen p.lines) c → cost c ≤ spare p → CanMake c p
  can_make (Insert x new) fits fit =
      let none : found (seen p.lines) new.id ≡ None = neither_right _ _ fits.1 in
      record {
        place = record { place = some_if fits.0.1; lacks = none };
        room = (room_for (Insert x new) 1 (omega (arith)) fit).0;
        lacks = not_listed (seen p.lines) (stock p.slots).lists whole.apart whole.exact new.id new.opds none;
        fit = (room_for (Insert x new) (length new.opds) (omega (arith)) fit).1;
      }
  can_make (Remove x) fits fit = held_of x fits.0.0 fits.0.1
  can_make (Move y x) fits fit = record {
    there = some_if fits.0.2.1.1;
    place = some_if fits.0.1;
    other = swapped x y ∙ fits.1;
  }
  can_make (Replace new) fits fit =
      let s = fits.0.0 in
      let e : found (seen p.lines) new.id ≡ Some s = fits.0.1 in
      let lacks : LacksSlots new.id 0 new.opds (all_taken new.id 0 s.inst.opds (stock p.slots).lists) = not_listed_then (seen p.lines) (stock p.slots).lists whole.apart whole.exact new.id new.opds s e in
      let lists : (taken new.id 0 (opds_at (seen p.lines) new.id) (stock p.slots)).lists ≡ all_taken new.id 0 s.inst.opds (stock p.slots).lists =
      ap (λ o. (taken new.id 0 (opds_of o) (stock p.slots)).lists) e ∙ taken_lists new.id 0 s.inst.opds (stock p.slots) in
      record {
        old = held_of new.id s e;
        lacks = subst (LacksSlots new.id 0 new.opds) (sym lists) lacks;
        fit = (room_for (Replace new) (length new.opds) (omega (arith)) fit).1;
      }
  can_make (SetOperand x slot new) fits fit =
      let s = fits.0.0 in
      let e : found (seen p.lines) x ≡ Some s = fits.0.1 in
      let old = fits.0.2.0 in
      let here : slice_get s.inst.opds slot ≡ Some old = fits.0.2.1 in
      let at : operand (seen p.lines) x slot ≡ Some old = ap (option_and_then (operand_at slot)) e ∙ here in
      record {
        there = some_if at;
        id_is = id_of x;
        goes = subst (λ o. SlotGoes x slot new o p) (sym at) (
          slot_listed (seen p.lines) (stock p.slots).lists whole.apart whole.exact x slot old s e here,
          slot_not_listed_then (seen p.lines) (stock p.slots).lists whole.apart whole.exact x slot old new s e here,
        );
        held = let part = slots_part (seen p.lines) whole.apart x s e in let one = has_one s.inst.opds slot old here in let all : p.slots.held ≡ slots_of (seen p.lines) = whole.held in omega (arith, part, one, all);
        fit = (room_for (SetOperand x slot new) 1 (omega (arith)) fit).1;
      }

-- ---- what is made

module _ (c : Change) (u : Undo) (p q : Parts) (whole : IsWhole (state p)) (fits : Fits (seen p.lines) c) (made : IsMade c u p q) where
  lists_now : (stock q.slots).lists ≡ lists_after (seen p.lines) c (stock p.slots).lists
  lists_now = ap (λ (s : Stock). s.lists) made.stock_is ∙ after_lists (seen p.lines) c (stock p.slots) whole.apart fits

  pub made_contents : contents q ≡ changed c (contents p)
  made_contents = λ i. record { own = made.own i; lists = lists_now i }

  pub made_whole : cost c ≤ spare p → IsWhole (state q)
  made_whole fit = record {
    apart = subst IdsApart (sym made.own) (apart_after (seen p.lines) c whole.apart fits);
    exact = subst (λ (s : Contents). IsExact s.own s.lists) (sym made_contents) (lists_exact (seen p.lines) c (stock p.slots).lists whole.apart fits whole.exact);
    held = held_now;
    few = few_now;
  }
    where
      held_now : q.slots.held ≡ slots_of (seen q.lines)
      held_now =
          let count = slots_counted (seen p.lines) c whole.apart fits in
          let same : slots_of (seen q.lines) ≡ slots_of (applied c (seen p.lines)) = ap slots_of made.own in
          let was : p.slots.held ≡ slots_of (seen p.lines) = whole.held in
          let now = made.held in
          omega (arith, count, same, was, now)

      came_less : (d : Change) → slots_came d ≤ cost d
      came_less (Insert x new) = omega (arith)
      came_less (Remove x) = omega (arith)
      came_less (Move y x) = omega (arith)
      came_less (Replace new) = omega (arith)
      came_less (SetOperand x slot o) = omega (arith)

      few_now : q.slots.held ≤ 4294967295
      few_now =
          let less = came_less c in
          let now = made.held in
          let was : p.slots.held ≤ 4294967295 = whole.few in
          omega (arith, less, now, was, fit)

-- ---- a module as it was read

pub lifted_whole : (m : Module) (p : Parts) → IsFormed m → seen p.lines ≡ m → (stock p.slots).lists ≡ lifted m → p.slots.held ≡ slots_of m → 1 ≤ slots.spare p.slots → IsWhole (state p)
lifted_whole m p formed own lists held room = record {
  apart = subst IdsApart (sym own) (formed_apart m formed);
  exact = subst (λ (s : Contents). IsExact s.own s.lists) (sym read) (lifted_exact m formed);
  held = held ∙ ap slots_of (sym own);
  few = omega (arith, room);
}
  where
    read : contents p ≡ record { own = m; lists = lifted m }
    read = λ i. record { own = own i; lists = lists i }

-- ---- room was made

pub still_whole : (p q : Parts) → state q ≡ state p → IsWhole (state p) → IsWhole (state q)
still_whole p q same whole = subst IsWhole (sym same) whole

pub still_fits : (p q : Parts) (c : Change) → state q ≡ state p → Fits (seen p.lines) c → Fits (seen q.lines) c
still_fits p q c same fits = subst (λ (s : State). Fits s.own c) (sym same) fits

less_unless : (a b : ℕ) → (a ≤ b → ⊥) → b < a
less_unless a b h = by_test (nat_lt b a) refl where
  by_test : (t : Bool) → nat_lt b a ≡ t → b < a
  by_test true e = grind (arith, nat_tests)
  by_test false e = absurd (h (grind (arith, nat_tests)))

not_ok : {T E : Type 0} (r : Result T E) → is_err r ≡ true → IsOk r → ⊥
not_ok (Ok x) e o = cc
not_ok (Err x) e o = cc

-- what was refused for want of memory costs more than the spare
pub too_dear : {T E : Type 0} (r : Result T E) (cost room : ℕ) → (cost ≤ room → IsOk r) → is_err r ≡ true → room < cost
too_dear r cost room within e = less_unless cost room (λ le. not_ok r e (within le))
