-- Each change is undone by its inverse.
use Rattle.std.proofs.Common.{◌≡◌, refl, sym, ap, ◌∙◌, ℕ, zero, suc, Bool, true, false, None, Some, List, [], ◌∷◌, ◌++◌, cond, slice_get, slice_set}
use Rattle.ir_types.specs.declared.id.Id.{Id}
use Rattle.ir_types.specs.declared.opd.Opd.{Opd}
use Rattle.ir_types.specs.declared.inst.Inst.{Inst}
use Rattle.ir_types.specs.declared.module.Module.{Module}
use Rattle.ir_types.specs.Available.{same_id}
use Rattle.ir_types.specs.Formed.{ids_of}
use Rattle.ir_types.proofs.Among.{same_itself, same_is, swapped, Once}
use Rattle.vx_view.specs.Answers.{found, Standing}
use Rattle.vx_view.specs.Changes.{each, edited, inserting, removing, putting, setting, with_operand}
use Rattle.vx_view.proofs.Edits.{Back, every_inst, module_back, IsOther, IsOnly, items_none, items_only}

-- ---- one instruction

insert_one : (x : Id) (new i : Inst) → same_id i.id new.id ≡ false → Back (inserting x new) (removing new.id) i
insert_one x new i e = by_test (same_id i.id x) where
  stays : removing new.id i ≡ i ∷ []
  stays = ap (λ b. cond b [] (i ∷ [])) e

  by_test : (b : Bool) → each (removing new.id) (cond b (new ∷ i ∷ []) (i ∷ [])) ≡ i ∷ []
  by_test true = ap (λ b. cond b [] (new ∷ []) ++ (removing new.id i ++ [])) (same_itself new.id) ∙ ap (λ u. u ++ []) stays
  by_test false = ap (λ u. u ++ []) stays

slice_back : {A : Type 0} (xs : List A) (k : ℕ) (v w : A) → slice_get xs k ≡ Some w → slice_set (slice_set xs k v) k w ≡ xs
slice_back [] k v w e = refl
slice_back (x ∷ xs) zero v w e = ap (λ u. u ∷ xs) (sym (some_is e)) where
  some_is : Some x ≡ Some w → x ≡ w
  some_is e = cc
slice_back (x ∷ xs) (suc k) v w e = ap (λ u. x ∷ u) (slice_back xs k v w e)

set_one : (x : Id) (slot : ℕ) (o old : Opd) (s i : Inst) → slice_get s.opds slot ≡ Some old → IsOnly x s i → Back (setting x slot o) (setting x slot old) i
set_one x slot o old s i e only = by_test (same_id i.id x) refl where
  by_test : (b : Bool) → same_id i.id x ≡ b → each (setting x slot old) (cond b (with_operand i slot o ∷ []) (i ∷ [])) ≡ i ∷ []
  by_test true t =
      ap (λ b. cond b (with_operand (with_operand i slot o) slot old ∷ []) (with_operand i slot o ∷ []) ++ []) t
      ∙ ap (λ os. record { id = i.id; name = i.name; ty = i.ty; op = i.op; opds = os } ∷ [])
      (slice_back i.opds slot o old (ap (λ (j : Inst). slice_get j.opds slot) (only t) ∙ e))
  by_test false t = ap (λ b. cond b (with_operand i slot old ∷ []) (i ∷ []) ++ []) t

put_one : (new s i : Inst) → same_id s.id new.id ≡ true → IsOnly new.id s i → Back (putting new) (putting s) i
put_one new s i e only = by_test (same_id i.id new.id) refl where
  by_test : (b : Bool) → same_id i.id new.id ≡ b → each (putting s) (cond b (new ∷ []) (i ∷ [])) ≡ i ∷ []
  by_test true t = ap (λ b. cond b (s ∷ []) (new ∷ []) ++ []) (swapped new.id s.id ∙ e) ∙ ap (λ j. j ∷ []) (sym (only t))
  by_test false t = ap (λ b. cond b (s ∷ []) (i ∷ []) ++ []) (ap (same_id i.id) (same_is s.id new.id e) ∙ t)

-- ---- modules

pub insert_undone : (m : Module) (x : Id) (new : Inst) → found m new.id ≡ None → edited (removing new.id) (edited (inserting x new) m) ≡ m
insert_undone m x new e =
    module_back (inserting x new) (removing new.id) m
    (every_inst (IsOther new.id) (Back (inserting x new) (removing new.id)) (insert_one x new) m.items (items_none new.id 0 m.items e))

pub set_undone : (m : Module) (x : Id) (slot : ℕ) (o old : Opd) (s : Standing) → Once (ids_of m) → found m x ≡ Some s → slice_get s.inst.opds slot ≡ Some old →
    edited (setting x slot old) (edited (setting x slot o) m) ≡ m
set_undone m x slot o old s once e here =
    module_back (setting x slot o) (setting x slot old) m
    (every_inst (IsOnly x s.inst) (Back (setting x slot o) (setting x slot old)) (λ i. set_one x slot o old s.inst i here) m.items (items_only x 0 m.items s once e).0)

pub put_undone : (m : Module) (new : Inst) (s : Standing) → Once (ids_of m) → found m new.id ≡ Some s → edited (putting s.inst) (edited (putting new) m) ≡ m
put_undone m new s once e =
    let there = items_only new.id 0 m.items s once e in
    module_back (putting new) (putting s.inst) m
    (every_inst (IsOnly new.id s.inst) (Back (putting new) (putting s.inst)) (λ i. put_one new s.inst i there.1) m.items there.0)
