-- How many slots come and go, and that the lists are those after a change.
use Rattle.std.proofs.Common.{◌≡◌, refl, sym, ap, ◌∙◌, ℕ, zero, suc, ◌+◌, ◌≤◌, Option, None, Some, List, [], ◌∷◌, length, slice_get, slice_set, arith}
use Rattle.ir_types.specs.declared.id.Id.{Id}
use Rattle.ir_types.specs.declared.opd.Opd.{Opd}
use Rattle.ir_types.specs.declared.module.Module.{Module}
use Rattle.ir_types.proofs.Among.{same_is}
use Rattle.vx_view.specs.declared.change.Change.{Change}
use Rattle.vx_view.specs.declared.change.Change.TheVariants.{Insert, Remove, Move, Replace, SetOperand}
use Rattle.vx_view.specs.Answers.{found, Standing}
use Rattle.vx_view.specs.Changes.{moved, applied, Fits, with_operand}
use Rattle.vx_view.specs.UsesAfter.{all_added, all_taken, without_uses, without_slot, slot_taken, opd_added, lists_after}
use Rattle.sb_uses.specs.Stock as st
use Rattle.sb_uses.specs.Stock.{Stock, slot_added}
use Rattle.sb_uses.specs.StockAfter.{stock_without, slot_replaced, slot_set, stock_after}
use Rattle.sb_uses.specs.Totals.{IdsApart, width, slots_of, slots_in, slots_came, slots_gone}
use Rattle.sb_uses.proofs.Totals.{apart_once}
use Rattle.sb_uses.proofs.Changed.{same_found, insert_total, remove_total, put_total, set_total, move_total}

as_long : (os : List Opd) (j : ℕ) (o : Opd) → length (slice_set os j o) ≡ length os
as_long [] j o = refl
as_long (p ∷ os) zero o = refl
as_long (p ∷ os) (suc j) o = ap suc (as_long os j o)

pub slots_part : (m : Module) → IdsApart m → (x : Id) (s : Standing) → found m x ≡ Some s → length s.inst.opds ≤ slots_of m
slots_part m apart x s e = let sum = remove_total width m x s (apart_once m apart) e in omega (arith, sum)

pub slots_counted : (m : Module) (c : Change) → IdsApart m → Fits m c → slots_of (applied c m) + slots_gone m c ≡ slots_of m + slots_came c
slots_counted m (Insert x new) apart fits = let sum = insert_total width m x new fits.0.0 (apart_once m apart) fits.0.1 in omega (arith, sum)
slots_counted m (Remove x) apart fits =
    let sum = remove_total width m x fits.0.0 (apart_once m apart) fits.0.1 in
    let gone : slots_in (found m x) ≡ width fits.0.0.inst = ap slots_in fits.0.1 in
    omega (arith, sum, gone)
slots_counted m (Move y x) apart fits =
    let s = fits.0.2.1.0 in
    let e : found m y ≡ Some s = fits.0.2.1.1 in
    let same : slots_of (moved x m (found m y)) ≡ slots_of (moved x m (Some s)) = ap (λ o. slots_of (moved x m o)) e in
    let sum = move_total width m x y s fits.0.0 (apart_once m apart) e fits.0.1 fits.1 in
    omega (arith, same, sum)
slots_counted m (Replace new) apart fits =
    let sum = put_total width m new fits.0.0 (apart_once m apart) fits.0.1 in
    let gone : slots_in (found m new.id) ≡ width fits.0.0.inst = ap slots_in fits.0.1 in
    omega (arith, sum, gone)
slots_counted m (SetOperand x slot o) apart fits =
    let s = fits.0.0 in
    let sum = set_total width m x slot o s (apart_once m apart) fits.0.1 in
    let same : width (with_operand s.inst slot o) ≡ width s.inst = as_long s.inst.opds slot o in
    omega (arith, sum, same)

-- ---- lists

added_lists : (user : Id) (k : ℕ) (os : List Opd) (s : Stock) → (st.added user k os s).lists ≡ all_added user k os s.lists
added_lists user k [] s = refl
added_lists user k (o ∷ os) s = added_lists user (suc k) os (slot_added user k o s)

taken_lists : (user : Id) (k : ℕ) (os : List Opd) (s : Stock) → (st.taken user k os s).lists ≡ all_taken user k os s.lists
taken_lists user k [] s = refl
taken_lists user k (o ∷ os) s = taken_lists user (suc k) os (st.slot_taken user k o s)

without_lists : (o : Option Standing) (s : Stock) → (stock_without o s).lists ≡ without_uses o s.lists
without_lists None s = refl
without_lists (Some i) s = taken_lists i.inst.id 0 i.inst.opds s

pub after_lists : (m : Module) (c : Change) (s : Stock) → IdsApart m → Fits m c → (stock_after m c s).lists ≡ lists_after m c s.lists
after_lists m (Insert x new) s apart fits = added_lists new.id 0 new.opds s
after_lists m (Remove x) s apart fits = without_lists (found m x) s
after_lists m (Move y x) s apart fits = refl
after_lists m (Replace new) s apart fits =
    added_lists new.id 0 new.opds (stock_without (found m new.id) s) ∙ ap (all_added new.id 0 new.opds) (without_lists (found m new.id) s)
after_lists m (SetOperand x slot o) s apart fits =
    let i = fits.0.0 in
    let e : found m x ≡ Some i = fits.0.1 in
    let here : slice_get i.inst.opds slot ≡ Some fits.0.2.0 = fits.0.2.1 in
    let id_is : i.inst.id ≡ x = same_is i.inst.id x (same_found m x i (apart_once m apart) e) in
    ap (λ q. (slot_set slot q o s).lists) e ∙ ap (λ q. (slot_replaced i.inst.id slot q o s).lists) here
    ∙ ap (λ y. opd_added y slot o (slot_taken i.inst.id slot (Some fits.0.2.0) s.lists)) id_is
    ∙ ap (λ q. opd_added x slot o (slot_taken i.inst.id slot q s.lists)) (sym here)
    ∙ ap (λ q. opd_added x slot o (without_slot slot q s.lists)) (sym e)
