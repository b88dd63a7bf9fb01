-- What slots say of ids after one was given an item where it had none.
use Rattle.std.proofs.Common.{◌≡◌, refl, ap, sym, ◌∙◌, Bool, true, false, cond, Option, None, Some, unwrap_or, arith, Bor}
use Rattle.std.specs.Option.{option_copied, is_some}
use Rattle.std.proofs.Math.Path.{fun_ext}
use Rattle.std.proofs.lemmas.Bool.Decides.{nat_tests}
use Rattle.ir_types.specs.declared.id.Id.{Id}
use Rattle.ir_types.specs.declared.id_table.IdTable.{IdTable}
use Rattle.ir_types.specs.Available.{same_id}
use Rattle.ir_types.specs.IdTable.{found}
use Rattle.ir_types.proofs.Among.{same_is}
use Rattle.ir_model.specs.Values.{same_id as equal_id}
use Rattle.ir_interp.specs.Slots.{over, with_item}

-- both ways of asking whether ids are the same agree, whichever comes first
turned : (x y : Id) → same_id x y ≡ equal_id y x
turned x y = grind (arith, nat_tests)

-- an id that has none yet is given the item
pub add_over : {T : Type 0} (before after : IdTable T) (id : Id) (item : T) (there : Option (Bor T))
    → option_copied there ≡ found before id → is_some there ≡ false
    → ((q : Id) → found after q ≡ cond (same_id id q) (Some item) (found before q))
    → (rest : Id → T) → over after rest ≡ over before (with_item rest id item)
add_over before after id item there is none h rest = fun_ext at
  where
    nothing : {A : Type 0} (o : Option (Bor A)) → is_some o ≡ false → option_copied o ≡ None
    nothing None e = refl
    nothing (Some x) e = absurd cc

    by_test : (x : Id) (b : Bool) → equal_id x id ≡ b → unwrap_or (cond b (Some item) (found before x)) (rest x) ≡ unwrap_or (found before x) (cond b item (rest x))
    by_test x true e = sym (ap (λ o. unwrap_or o item) (ap (found before) (sym (same_is id x (turned id x ∙ e))) ∙ sym is ∙ nothing there none))
    by_test x false e = refl

    at : (x : Id) → over after rest x ≡ over before (with_item rest id item) x
    at x = ap (λ o. unwrap_or o (rest x)) (h x)
        ∙ ap (λ b. unwrap_or (cond b (Some item) (found before x)) (rest x)) (turned id x)
        ∙ by_test x (equal_id x id) refl

-- one that has an item keeps it
pub kept_over : {T : Type 0} (before : IdTable T) (id : Id) (item : T) (there : Option (Bor T))
    → option_copied there ≡ found before id → is_some there ≡ true
    → (rest : Id → T) → over before rest ≡ over before (with_item rest id item)
kept_over before id item there is some rest = fun_ext at
  where
    either : {A : Type 0} (o : Option (Bor A)) → is_some o ≡ true → (t u : A) → unwrap_or (option_copied o) t ≡ unwrap_or (option_copied o) u
    either (Some x) e t u = refl
    either None e t u = absurd cc

    by_test : (x : Id) (b : Bool) → equal_id x id ≡ b → unwrap_or (found before x) (rest x) ≡ unwrap_or (found before x) (cond b item (rest x))
    by_test x true e = ap (λ o. unwrap_or o (rest x)) held ∙ either there some (rest x) item ∙ sym (ap (λ o. unwrap_or o item) held)
      where
        held : found before x ≡ option_copied there
        held = ap (found before) (sym (same_is id x (turned id x ∙ e))) ∙ sym is
    by_test x false e = refl

    at : (x : Id) → over before rest x ≡ over before (with_item rest id item) x
    at x = by_test x (equal_id x id) refl
