-- What each kind of change makes of use lists is taken back.
use Rattle.std.proofs.Common.{◌≡◌, refl, sym, ap, ◌∙◌, subst, ℕ, Some, slice_get}
use Rattle.ir_types.specs.declared.id.Id.{Id}
use Rattle.ir_types.specs.declared.opd.Opd.{Opd}
use Rattle.ir_types.specs.declared.module.Module.{Module}
use Rattle.ir_types.proofs.Among.{same_is}
use Rattle.vx_view.specs.declared.change.Change.{Change}
use Rattle.vx_view.specs.declared.change.Change.TheVariants.{Insert, Remove, Move, Replace, SetOperand}
use Rattle.vx_view.specs.Answers.{found, Standing}
use Rattle.vx_view.specs.Changes.{Fits}
use Rattle.vx_view.specs.Uses.{IsExact}
use Rattle.sb_uses.specs.Stock.{Stock, HasSlots, restored, replaced, set_back, CanRestore, CanSetBack}
use Rattle.sb_uses.specs.StockAfter.{stock_without, slot_replaced, slot_set, stock_after, opds_of, stock_undone, CanUndo}
use Rattle.sb_uses.specs.Totals.{IdsApart}
use Rattle.sb_uses.proofs.Stocks.{added-back, added-has, taken-back, taken-can, replaced-back, replaced-can}
use Rattle.sb_uses.proofs.Totals.{apart_once}
use Rattle.sb_uses.proofs.Changed.{same_found}
use Rattle.sb_uses.proofs.Exact.{listed, slot_listed, exact_apart}

module _ (m : Module) (s : Stock) (apart : IdsApart m) (exact : IsExact m s.lists) where
  id_is : (x : Id) (i : Standing) → found m x ≡ Some i → i.inst.id ≡ x
  id_is x i e = same_is i.inst.id x (same_found m x i (apart_once m apart) e)

  has_own : (x : Id) (i : Standing) → found m x ≡ Some i → HasSlots i.inst.id 0 i.inst.opds s.lists
  has_own x i e = listed m s.lists apart exact i.inst.id i (ap (found m) (id_is x i e) ∙ e)

  -- an instruction that went
  gone_back : (x : Id) (i : Standing) → found m x ≡ Some i → restored (opds_of (found m x)) (stock_without (found m x) s) ≡ s
  gone_back x i e =
      ap (λ o. restored (opds_of o) (stock_without o s)) e ∙ taken-back i.inst.id 0 i.inst.opds s (exact_apart m s.lists exact) (has_own x i e)

  gone_can : (x : Id) (i : Standing) → found m x ≡ Some i → CanRestore (opds_of (found m x)) (stock_without (found m x) s)
  gone_can x i e =
      subst (λ o. CanRestore (opds_of o) (stock_without o s)) (sym e) (taken-can i.inst.id 0 i.inst.opds s (exact_apart m s.lists exact) (has_own x i e))

  -- an operand that was set
  set_is : (x : Id) (k : ℕ) (new old : Opd) (i : Standing) → found m x ≡ Some i → slice_get i.inst.opds k ≡ Some old → slot_set k (found m x) new s ≡ replaced x k old new s
  set_is x k new old i e here =
      ap (λ o. slot_set k o new s) e ∙ ap (λ o. slot_replaced i.inst.id k o new s) here ∙ ap (λ y. replaced y k old new s) (id_is x i e)

  pub undone_stock : (c : Change) → Fits m c → stock_undone m c (stock_after m c s) ≡ s
  undone_stock (Insert x new) fits = added-back new.id 0 new.opds s
  undone_stock (Remove x) fits = gone_back x fits.0.0 fits.0.1
  undone_stock (Move y x) fits = refl
  undone_stock (Replace new) fits =
      ap (restored (opds_of (found m new.id))) (added-back new.id 0 new.opds (stock_without (found m new.id) s)) ∙ gone_back new.id fits.0.0 fits.0.1
  undone_stock (SetOperand x slot new) fits =
      let old = fits.0.2.0 in
      ap (set_back x slot new) (set_is x slot new old fits.0.0 fits.0.1 fits.0.2.1)
      ∙ replaced-back x slot old new s (exact_apart m s.lists exact) (slot_listed m s.lists apart exact x slot old fits.0.0 fits.0.1 fits.0.2.1)

  pub can_undo : (c : Change) → Fits m c → CanUndo m c (stock_after m c s)
  can_undo (Insert x new) fits = added-has new.id 0 new.opds s
  can_undo (Remove x) fits = gone_can x fits.0.0 fits.0.1
  can_undo (Move y x) fits = tt
  can_undo (Replace new) fits = (
    added-has new.id 0 new.opds (stock_without (found m new.id) s),
    subst (CanRestore (opds_of (found m new.id))) (sym (added-back new.id 0 new.opds (stock_without (found m new.id) s))) (gone_can new.id fits.0.0 fits.0.1),
  )
  can_undo (SetOperand x slot new) fits =
      let old = fits.0.2.0 in
      subst (CanSetBack x slot new) (sym (set_is x slot new old fits.0.0 fits.0.1 fits.0.2.1))
      (replaced-can x slot old new s (exact_apart m s.lists exact) (slot_listed m s.lists apart exact x slot old fits.0.0 fits.0.1 fits.0.2.1))
