-- Totals after each kind of change that fits, and that ids stay apart.
use Rattle.std.proofs.Common.{◌≡◌, sym, ap, ◌∙◌, subst, ℕ, ◌+◌, true, false, Option, Some, [], ◌∷◌, cond, arith}
use Rattle.ir_types.specs.declared.id.Id.{Id}
use Rattle.ir_types.specs.declared.opd.Opd.{Opd}
use Rattle.ir_types.specs.declared.inst.Inst.{Inst}
use Rattle.ir_types.specs.declared.module.Module.{Module}
use Rattle.ir_types.specs.Available.{same_id}
use Rattle.ir_types.specs.Formed.{ids_of}
use Rattle.ir_types.proofs.Among.{same_is, same_itself, Once}
use Rattle.vx_view.specs.declared.change.Change.{Change}
use Rattle.vx_view.specs.declared.change.Change.TheVariants.{Insert, Remove, Move, Replace, SetOperand}
use Rattle.vx_view.specs.Answers.{found, Standing}
use Rattle.vx_view.specs.Changes.{edited, inserting, removing, putting, setting, with_operand, moved, applied, Fits}
use Rattle.vx_view.proofs.Edits.{items_only}
use Rattle.sb_uses.specs.Totals.{total_in, total, IdsApart}
use Rattle.sb_uses.proofs.Totals.{swapped, found_total, one_of, inserted_total, apart_once, apart_edited, apart_inserted, apart_twice}

pub same_found : (m : Module) (x : Id) (s : Standing) → Once (ids_of m) → found m x ≡ Some s → same_id s.inst.id x ≡ true
same_found m x s o e = (items_only x 0 m.items s o e).1

module _ (w : Inst → ℕ) where
  pub insert_total : (m : Module) (x : Id) (new : Inst) (s : Standing) → Once (ids_of m) → found m x ≡ Some s → total w (edited (inserting x new) m) ≡ total w m + w new
  insert_total m x new s o e =
      let sum = swapped w x (inserting x new) (λ i t. ap (λ b. cond b (new ∷ i ∷ []) (i ∷ [])) t) m s o e in
      let at : total_in w (inserting x new s.inst) ≡ w new + (w s.inst + 0) = ap (λ b. total_in w (cond b (new ∷ s.inst ∷ []) (s.inst ∷ []))) (same_found m x s o e) in
      omega (arith, sum, at)

  pub remove_total : (m : Module) (x : Id) (s : Standing) → Once (ids_of m) → found m x ≡ Some s → total w (edited (removing x) m) + w s.inst ≡ total w m
  remove_total m x s o e =
      let sum = swapped w x (removing x) (λ i t. ap (λ b. cond b [] (i ∷ [])) t) m s o e in
      let at : total_in w (removing x s.inst) ≡ 0 = ap (λ b. total_in w (cond b [] (s.inst ∷ []))) (same_found m x s o e) in
      omega (arith, sum, at)

  pub put_total : (m : Module) (new : Inst) (s : Standing) → Once (ids_of m) → found m new.id ≡ Some s → total w (edited (putting new) m) + w s.inst ≡ total w m + w new
  put_total m new s o e =
      let sum = swapped w new.id (putting new) (λ i t. ap (λ b. cond b (new ∷ []) (i ∷ [])) t) m s o e in
      let at : total_in w (putting new s.inst) ≡ w new + 0 = ap (λ b. total_in w (cond b (new ∷ []) (s.inst ∷ []))) (same_found m new.id s o e) in
      omega (arith, sum, at)

  pub set_total : (m : Module) (x : Id) (slot : ℕ) (p : Opd) (s : Standing) → Once (ids_of m) → found m x ≡ Some s →
      total w (edited (setting x slot p) m) + w s.inst ≡ total w m + w (with_operand s.inst slot p)
  set_total m x slot p s o e =
      let sum = swapped w x (setting x slot p) (λ i t. ap (λ b. cond b (with_operand i slot p ∷ []) (i ∷ [])) t) m s o e in
      let at : total_in w (setting x slot p s.inst) ≡ w (with_operand s.inst slot p) + 0 = ap (λ b. total_in w (cond b (with_operand s.inst slot p ∷ []) (s.inst ∷ []))) (same_found m x s o e) in
      omega (arith, sum, at)

  pub move_total : (m : Module) (x y : Id) (s t : Standing) → Once (ids_of m) → found m y ≡ Some s → found m x ≡ Some t → same_id y x ≡ false → total w (moved x m (Some s)) ≡ total w m
  move_total m x y s t o e there apart =
      let id_is : s.inst.id ≡ y = same_is s.inst.id y (same_found m y s o e) in
      let here : found m s.inst.id ≡ Some s = ap (found m) id_is ∙ e in
      let gone = remove_total m s.inst.id s o here in
      let gone_ones = one_removed (ap (λ v. same_id v x) id_is ∙ apart) here in
      inserted_total w x s.inst (edited (removing s.inst.id) m) gone_ones ∙ gone
    where
      one_removed : same_id s.inst.id x ≡ false → found m s.inst.id ≡ Some s → total (one_of x) (edited (removing s.inst.id) m) ≡ 1
      one_removed differ here =
          let sum = swapped (one_of x) s.inst.id (removing s.inst.id) (λ i u. ap (λ b. cond b [] (i ∷ [])) u) m s o here in
          let at : total_in (one_of x) (removing s.inst.id s.inst) ≡ 0 = ap (λ b. total_in (one_of x) (cond b [] (s.inst ∷ []))) (same_itself s.inst.id) in
          let all : total (one_of x) m ≡ one_of x t.inst = found_total (one_of x) x (λ i u. ap (λ b. cond b 1 0) u) m t o there in
          let own : one_of x t.inst ≡ 1 = ap (λ b. cond b 1 0) (same_found m x t o there) in
          let none : one_of x s.inst ≡ 0 = ap (λ b. cond b 1 0) differ in
          omega (arith, sum, at, all, own, none)

-- an instruction and another of its id count as much of any id
same_one : (x : Id) (a b : Inst) → a.id ≡ b.id → one_of x a ≡ one_of x b
same_one x a b e = ap (λ b. cond b 1 0) (ap (λ v. same_id v x) e)

pub apart_after : (m : Module) (c : Change) → IdsApart m → Fits m c → IdsApart (applied c m)
apart_after m (Insert x new) apart fits =
    apart_inserted (inserting x new) m new.id fits.1
    (λ y. let sum = insert_total (one_of y) m x new fits.0.0 (apart_once m apart) fits.0.1 in omega (arith, sum)) apart
apart_after m (Remove x) apart fits =
    apart_edited (removing x) m (λ y. let sum = remove_total (one_of y) m x fits.0.0 (apart_once m apart) fits.0.1 in omega (arith, sum)) apart
apart_after m (Move y x) apart fits =
    let s = fits.0.2.1.0 in
    let e : found m y ≡ Some s = fits.0.2.1.1 in
    subst (λ (o : Option Standing). IdsApart (moved x m o)) (sym e)
    (apart_twice (inserting x s.inst) (removing s.inst.id) m (λ z. move_total (one_of z) m x y s fits.0.0 (apart_once m apart) e fits.0.1 fits.1) apart)
apart_after m (Replace new) apart fits =
    let s = fits.0.0 in
    apart_edited (putting new) m
    (λ y. let sum = put_total (one_of y) m new s (apart_once m apart) fits.0.1 in let same = same_one y s.inst new (same_is s.inst.id new.id (same_found m new.id s (apart_once m apart) fits.0.1)) in omega (arith, sum, same)) apart
apart_after m (SetOperand x slot o) apart fits =
    let s = fits.0.0 in
    apart_edited (setting x slot o) m (λ y. let sum = set_total (one_of y) m x slot o s (apart_once m apart) fits.0.1 in omega (arith, sum)) apart
