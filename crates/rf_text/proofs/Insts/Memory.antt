-- Operations on memory as they are printed: loads, stores, and what is made or stepped over.
use Rattle.std.proofs.Common.{◌≡◌, ℕ, Bool, true, false, List, [], ◌∷◌, ◌++◌, map, Option, Some, None, refl, codes}
use Rattle.ir_types.specs.declared.id.Id.{Id}
use Rattle.ir_types.specs.declared.ty.Ty.{Ty}
use Rattle.ir_types.specs.declared.ty.Ty.TheVariants.{Ptr}
use Rattle.ir_types.specs.declared.ty.Elem.{Elem}
use Rattle.ir_types.specs.declared.ty.Elem.TheVariants.{One}
use Rattle.ir_types.specs.declared.opd.Opd.{Opd}
use Rattle.ir_types.specs.declared.op.Op.TheVariants as ops
use Rattle.ir_types.specs.declared.inst.Inst.{Inst}
use Rattle.ir_types.specs.Typed.{is_stored, IsAlign, IsAlignIfAny, IsElem}
use Rattle.ir_lex.specs.Bytes.{is_word_byte, begins_name}
use Rattle.ir_forms.specs.Forms as forms
use Rattle.ir_forms.specs.Forms.{slots}
use Rattle.ir_print.specs.declared.names.Local.{Local}
use Rattle.ir_print.specs.Names.{Names, local_of, is_void}
use Rattle.ir_print.specs.Instructions.{act_text, result_text}
use Rattle.rf_text.specs.Shown.{Shown, Fits, shown_ty}
use Rattle.rf_text.specs.Printed.{IsReadAgain}
use Rattle.rf_text.specs.Written.{written, result_of, shown_text}
use Rattle.rf_text.proofs.Words.Read.{Told}
use Rattle.rf_text.proofs.Words.Names.{Named}
use Rattle.rf_text.proofs.Parts.Of.{told_part, told_last, told_space}
use Rattle.rf_text.proofs.Parts.Types.{kind_cut}
use Rattle.rf_text.proofs.Parts.Memory.{stored_value, stored_test, align_cut, align_stops, told_align, elem_cut}
use Rattle.rf_text.proofs.Parts.Operands.{Operand, shown_named, told_arg, told_pointer}
use Rattle.rf_text.proofs.Insts.Each.{value_line, act_line, told_result, told_code, told_act, operands, with_none, with_one, with_two, value_no_void, inst}

module _ (ns : Names) (gs : List (List ℕ)) (shown : Shown ns gs) (ret : Ty) (id : Id) (name : Option (List ℕ)) (ty : Ty) where
  load_told : (x : List ℕ) (align : ℕ) (p : Opd) → Named x → is_stored ty ≡ true → IsAlign align → Operand ns gs Ptr p →
      Told (slots (forms.Load x ty (forms.arg Ptr (written ns gs p)) (Some align))) (37 ∷ (x ++ (codes " = " ++ act_text ns gs (ops.Load align) ty (p ∷ []))))
  unfolding is_word_byte begins_name
  load_told x align p named stored aligned is =
      told_result x named (told_code _ refl refl (told_space (told_part _ _ (kind_cut _ ty (stored_value ty stored) (stored_test ty stored)) refl
      (told_pointer ns gs _ p refl is refl (told_last _ _ (align_cut align aligned))))))

  pub load_line : (align : ℕ) (os : List Opd) → Fits ret ns gs (inst id name ty (ops.Load align) os) → IsReadAgain ns gs (inst id name ty (ops.Load align) os)
  load_line align os fits =
      let typed : (is_stored ty ≡ true) × IsAlign align × (map (shown_ty ns gs) os ≡ Some Ptr ∷ []) = fits.typed in
      let value : is_void ty ≡ false = value_no_void ty (stored_value ty typed.0) in
      let l : (l : Local) × (local_of id ns.locals ≡ Some l) = fits.result value refl in
      with_one (λ os. IsReadAgain ns gs (inst id name ty (ops.Load align) os)) (operands ns gs shown (Ptr ∷ []) os fits.operands fits.pointers typed.2) (λ p is.
      value_line ns gs (inst id name ty (ops.Load align) (p ∷ [])) l.0 (forms.Load l.0.text ty (forms.arg Ptr (written ns gs p)) (Some align)) value refl l.1
      (rw (value, l.1, is.type) refl)
      (load_told l.0.text align p (shown_named ns gs id l.0 shown l.1) typed.0 typed.1 is))

  -- a store gives no value, whatever its type
  no_result : (store : Bool) (i : Inst) → result_text ns store true i ≡ []
  no_result true i = refl
  no_result false i = refl

  none_given : (store : Bool) (x : List ℕ) → result_of store true x ≡ None
  none_given true x = refl
  none_given false x = refl

  store_told : (align : ℕ) (a p : Opd) → is_stored ty ≡ true → IsAlign align → Operand ns gs ty a → Operand ns gs Ptr p →
      Told (slots (forms.Store (forms.arg ty (written ns gs a)) (forms.arg Ptr (written ns gs p)) (Some align))) (act_text ns gs (ops.Store align) ty (a ∷ p ∷ []))
  unfolding is_word_byte begins_name
  store_told align a p stored aligned is js =
      told_act _ refl refl (told_space (told_arg ns gs _ ty a (stored_value ty stored) (stored_test ty stored) is refl
      (told_pointer ns gs _ p refl js refl (told_last _ _ (align_cut align aligned)))))

  pub store_line : (align : ℕ) (os : List Opd) → Fits ret ns gs (inst id name ty (ops.Store align) os) → IsReadAgain ns gs (inst id name ty (ops.Store align) os)
  store_line align os fits =
      let typed : (is_stored ty ≡ true) × IsAlign align × (map (shown_ty ns gs) os ≡ Some ty ∷ Some Ptr ∷ []) = fits.typed in
      with_two (λ os. IsReadAgain ns gs (inst id name ty (ops.Store align) os)) (operands ns gs shown (ty ∷ Ptr ∷ []) os fits.operands fits.pointers typed.2) (λ a p is js.
      act_line ns gs (inst id name ty (ops.Store align) (a ∷ p ∷ [])) (forms.Store (forms.arg ty (written ns gs a)) (forms.arg Ptr (written ns gs p)) (Some align))
      (no_result (is_void ty) (inst id name ty (ops.Store align) (a ∷ p ∷ [])))
      (rw (none_given (is_void ty) (shown_text (local_of id ns.locals)), is.type, js.type) refl)
      (store_told align a p typed.0 typed.1 is js))

  alloca_told : (x : List ℕ) (e : Elem) (align : Option ℕ) → Named x → IsElem e → IsAlignIfAny align → Told (slots (forms.Allocate x e align)) (37 ∷ (x ++ (codes " = " ++ act_text ns gs (ops.Alloca e align) ty [])))
  unfolding is_word_byte begins_name
  alloca_told x e align named made aligned =
      told_result x named (told_code _ refl refl (told_space (told_part _ _ (elem_cut _ e made (λ t same. stored_test t (stored_one e t same made))) (align_stops align) (told_align align aligned)))) where
        stored_one : (e : Elem) (t : Ty) → e ≡ One t → IsElem e → is_stored t ≡ true
        stored_one e t same made = rw same at made

  pub alloca_line : (e : Elem) (align : Option ℕ) (os : List Opd) → Fits ret ns gs (inst id name ty (ops.Alloca e align) os) → IsReadAgain ns gs (inst id name ty (ops.Alloca e align) os)
  alloca_line e align os fits =
      let typed : IsElem e × IsAlignIfAny align × (ty ≡ Ptr) × (map (shown_ty ns gs) os ≡ []) = fits.typed in
      let value : is_void ty ≡ false = rw typed.2 refl in
      let l : (l : Local) × (local_of id ns.locals ≡ Some l) = fits.result value refl in
      with_none (λ os. IsReadAgain ns gs (inst id name ty (ops.Alloca e align) os)) (operands ns gs shown [] os fits.operands fits.pointers typed.3)
      (value_line ns gs (inst id name ty (ops.Alloca e align) []) l.0 (forms.Allocate l.0.text e align) value refl l.1
      (rw (typed.2, l.1) refl)
      (alloca_told l.0.text e align (shown_named ns gs id l.0 shown l.1) typed.0 typed.1))
