-- Operations on the flow of control as they are printed, but the switch; and labels and braces.
use Rattle.std.proofs.Common.{◌≡◌, ℕ, ◌<◌, ◌⊎◌, inl, inr, true, false, List, [], ◌∷◌, ◌++◌, map, length, Option, Some, refl, ◌∙◌, ap, codes}
use Rattle.std.proofs.lemmas.List.Elements.{All-head, All-tail, All-nil, All-cons, All-weaker}
use Rattle.std.proofs.lemmas.List.{length-map}
use Rattle.std.specs.List.{All}
use Rattle.std.specs.Fmt.{digits}
use Rattle.ir_types.specs.declared.id.Id.{Id}
use Rattle.ir_types.specs.declared.ty.Ty.{Ty}
use Rattle.ir_types.specs.declared.ty.Ty.TheVariants.{Void, Int}
use Rattle.ir_types.specs.declared.opd.Opd.{Opd}
use Rattle.ir_types.specs.declared.op.Op.TheVariants as ops
use Rattle.ir_types.specs.Typed.{is_value}
use Rattle.ir_types.specs.Formed.{IsOpd}
use Rattle.ir_lex.specs.Bytes.{is_word_byte, begins_name}
use Rattle.ir_draft.specs.declared.written.Arg.{Arg}
use Rattle.ir_forms.specs.Forms as forms
use Rattle.ir_forms.specs.Forms.{Slot, slot, slots, arg}
use Rattle.ir_print.specs.declared.names.Local.{Local}
use Rattle.ir_print.specs.Names.{Names, local_of, is_void}
use Rattle.ir_print.specs.Operands.{label_text}
use Rattle.ir_print.specs.Instructions.{act_text}
use Rattle.rf_text.specs.Shown.{Shown, Fits, shown_ty}
use Rattle.ir_types.specs.Formed.{IsPoisonIfPointer}
use Rattle.rf_text.specs.Printed.{IsReadAgain}
use Rattle.rf_text.specs.Written.{written, arg_of, shown_block}
use Rattle.rf_text.proofs.Words.Read.{Told}
use Rattle.rf_text.proofs.Words.Names.{Named}
use Rattle.rf_text.proofs.Parts.Of.{told_part, told_last, told_end, told_space, told_word, led_cut}
use Rattle.rf_text.proofs.Parts.Types.{kind_cut}
use Rattle.rf_text.proofs.Parts.Blocks.{Block, block, target_cut, incoming, told_pairs}
use Rattle.rf_text.proofs.Parts.Operands.{Operand, operand, shown_named, typed_cut, told_arg}
use Rattle.rf_text.proofs.Insts.Each.{value_line, act_line, told_result, told_code, told_act, operands, with_none, with_one, value_no_void, inst}

-- operands of one type
all_operands : (ns : Names) (gs : List (List ℕ)) → Shown ns gs → (t : Ty) (os : List Opd) → All IsOpd os → All IsPoisonIfPointer os → All (λ u. u ≡ Some t) (map (shown_ty ns gs) os) → All (Operand ns gs t) os
all_operands ns gs shown t [] is pointers types = All-nil (Operand ns gs t)
all_operands ns gs shown t (o ∷ os) is pointers types =
    All-cons (Operand ns gs t) o os
    (operand ns gs t o shown (All-head IsOpd o os is) (All-head IsPoisonIfPointer o os pointers) (All-head (λ u. u ≡ Some t) (shown_ty ns gs o) (map (shown_ty ns gs) os) types))
    (all_operands ns gs shown t os (All-tail IsOpd o os is) (All-tail IsPoisonIfPointer o os pointers) (All-tail (λ u. u ≡ Some t) (shown_ty ns gs o) (map (shown_ty ns gs) os) types))

same_args : (ns : Names) (gs : List (List ℕ)) (t : Ty) (os : List Opd) → All (Operand ns gs t) os → map (arg_of ns gs) os ≡ map (λ o. arg t (written ns gs o)) os
same_args ns gs t [] all = refl
same_args ns gs t (o ∷ os) all = rw ((All-head (Operand ns gs t) o os all).type) (ap (λ (xs : List Arg). arg t (written ns gs o) ∷ xs) (same_args ns gs t os (All-tail (Operand ns gs t) o os all)))

module _ (ns : Names) (gs : List (List ℕ)) (shown : Shown ns gs) (ret : Ty) (id : Id) (name : Option (List ℕ)) (ty : Ty) where
  phi_told : (x : List ℕ) (bs : List ℕ) (os : List Opd) → Named x → is_value ty ≡ true → length bs ≡ length os → 0 < length os → All (Operand ns gs ty) os → All (Block ns) bs →
      Told (slots (forms.Phi x ty (incoming ns gs ty 0 os bs))) (37 ∷ (x ++ (codes " = " ++ act_text ns gs (ops.Phi bs) ty os)))
  unfolding is_word_byte begins_name
  phi_told x bs os named value many some is to =
      told_result x named (told_code _ refl refl (told_space (told_part _ _ (kind_cut _ ty value refl) refl (told_space (told_pairs ns gs ty os bs many some is to)))))

  pub phi_line : (bs : List ℕ) (os : List Opd) → Fits ret ns gs (inst id name ty (ops.Phi bs) os) → IsReadAgain ns gs (inst id name ty (ops.Phi bs) os)
  phi_line bs os fits =
      let typed : (is_value ty ≡ true) × (length bs ≡ length (map (shown_ty ns gs) os)) × (0 < length (map (shown_ty ns gs) os)) × All (λ u. u ≡ Some ty) (map (shown_ty ns gs) os) = fits.typed in
      let value : is_void ty ≡ false = value_no_void ty typed.0 in
      let l : (l : Local) × (local_of id ns.locals ≡ Some l) = fits.result value refl in
      let many : length (map (shown_ty ns gs) os) ≡ length os = length-map os (shown_ty ns gs) in
      let is : All (Operand ns gs ty) os = all_operands ns gs shown ty os fits.operands fits.pointers typed.3 in
      let to : All (Block ns) bs = All-weaker (λ b. b < length ns.labels) (Block ns) (λ b h. block ns gs b shown h) bs fits.blocks in
      value_line ns gs (inst id name ty (ops.Phi bs) os) l.0 (forms.Phi l.0.text ty (incoming ns gs ty 0 os bs)) value refl l.1
      (rw (value, l.1, same_args ns gs ty os is) refl)
      (phi_told l.0.text bs os (shown_named ns gs id l.0 shown l.1) typed.0 (typed.1 ∙ many) (rw many at typed.2) is to)

  ret_void_told : Told (slots forms.Return) (codes "ret void")
  unfolding is_word_byte begins_name
  ret_void_told = told_act _ refl refl (told_space (told_word (codes "void") refl refl told_end))

  ret_told : (o : Opd) → is_value ret ≡ true → Operand ns gs ret o → Told (slots (forms.ReturnValue (arg ret (written ns gs o)))) (act_text ns gs ops.Ret ty (o ∷ []))
  unfolding is_word_byte begins_name
  ret_told o value is = told_act _ refl refl (told_space (told_last _ _ (typed_cut ns gs _ ret o value refl is)))

  ret_by : (os : List Opd) → Fits ret ns gs (inst id name ty ops.Ret os) → ty ≡ Void → ((ret ≡ Void) × (map (shown_ty ns gs) os ≡ [])) ⊎ ((is_value ret ≡ true) × (map (shown_ty ns gs) os ≡ Some ret ∷ [])) → IsReadAgain ns gs (inst id name ty ops.Ret os)
  ret_by os fits void (inl types) =
      with_none (λ os. IsReadAgain ns gs (inst id name ty ops.Ret os)) (operands ns gs shown [] os fits.operands fits.pointers types.1)
      (act_line ns gs (inst id name ty ops.Ret []) forms.Return (rw void refl) (rw void refl) ret_void_told)
  ret_by os fits void (inr types) =
      with_one (λ os. IsReadAgain ns gs (inst id name ty ops.Ret os)) (operands ns gs shown (ret ∷ []) os fits.operands fits.pointers types.1) (λ o is.
      act_line ns gs (inst id name ty ops.Ret (o ∷ [])) (forms.ReturnValue (arg ret (written ns gs o))) (rw void refl) (rw (void, is.type) refl) (ret_told o types.0 is))

  pub ret_line : (os : List Opd) → Fits ret ns gs (inst id name ty ops.Ret os) → IsReadAgain ns gs (inst id name ty ops.Ret os)
  ret_line os fits =
      let typed : (ty ≡ Void) × (((ret ≡ Void) × (map (shown_ty ns gs) os ≡ [])) ⊎ ((is_value ret ≡ true) × (map (shown_ty ns gs) os ≡ Some ret ∷ []))) = fits.typed in
      ret_by os fits typed.0 typed.1

  jump_told : (b : ℕ) → Block ns b → Told (slots (forms.Jump (shown_block ns b))) (codes "br " ++ label_text ns b)
  unfolding is_word_byte begins_name
  jump_told b to = told_act _ refl refl (told_space (told_last _ _ (target_cut ns b to)))

  pub jump_line : (b : ℕ) (os : List Opd) → Fits ret ns gs (inst id name ty (ops.Br b) os) → IsReadAgain ns gs (inst id name ty (ops.Br b) os)
  jump_line b os fits =
      let typed : (ty ≡ Void) × (map (shown_ty ns gs) os ≡ []) = fits.typed in
      let void : ty ≡ Void = typed.0 in
      let to : Block ns b = block ns gs b shown (All-head (λ b. b < length ns.labels) b [] fits.blocks) in
      with_none (λ os. IsReadAgain ns gs (inst id name ty (ops.Br b) os)) (operands ns gs shown [] os fits.operands fits.pointers typed.1)
      (act_line ns gs (inst id name ty (ops.Br b) []) (forms.Jump (shown_block ns b)) (rw void refl) (rw void refl) (jump_told b to))

  branch_told : (b c : ℕ) (o : Opd) → Operand ns gs (Int 1) o → Block ns b → Block ns c →
      Told (slots (forms.Branch (arg (Int 1) (written ns gs o)) (shown_block ns b) (shown_block ns c))) (act_text ns gs (ops.CondBr b c) ty (o ∷ []))
  unfolding is_word_byte begins_name digits
  branch_told b c o is first second =
      told_act _ refl refl (told_space (told_arg ns gs _ (Int 1) o refl refl is refl (told_part _ _ (led_cut (target_cut ns b first)) refl (told_last _ _ (led_cut (target_cut ns c second))))))

  pub branch_line : (b c : ℕ) (os : List Opd) → Fits ret ns gs (inst id name ty (ops.CondBr b c) os) → IsReadAgain ns gs (inst id name ty (ops.CondBr b c) os)
  branch_line b c os fits =
      let typed : (ty ≡ Void) × (map (shown_ty ns gs) os ≡ Some (Int 1) ∷ []) = fits.typed in
      let void : ty ≡ Void = typed.0 in
      let rest : All (λ b. b < length ns.labels) (c ∷ []) = All-tail (λ b. b < length ns.labels) b (c ∷ []) fits.blocks in
      let first : Block ns b = block ns gs b shown (All-head (λ b. b < length ns.labels) b (c ∷ []) fits.blocks) in
      let second : Block ns c = block ns gs c shown (All-head (λ b. b < length ns.labels) c [] rest) in
      with_one (λ os. IsReadAgain ns gs (inst id name ty (ops.CondBr b c) os)) (operands ns gs shown (Int 1 ∷ []) os fits.operands fits.pointers typed.1) (λ o is.
      act_line ns gs (inst id name ty (ops.CondBr b c) (o ∷ [])) (forms.Branch (arg (Int 1) (written ns gs o)) (shown_block ns b) (shown_block ns c)) (rw void refl) (rw (void, is.type) refl) (branch_told b c o is first second))

  unreachable_told : Told (slots forms.Unreachable) (codes "unreachable")
  unfolding is_word_byte begins_name
  unreachable_told = told_act _ refl refl told_end

  pub unreachable_line : (os : List Opd) → Fits ret ns gs (inst id name ty ops.Unreachable os) → IsReadAgain ns gs (inst id name ty ops.Unreachable os)
  unreachable_line os fits =
      let typed : (ty ≡ Void) × (map (shown_ty ns gs) os ≡ []) = fits.typed in
      let void : ty ≡ Void = typed.0 in
      with_none (λ os. IsReadAgain ns gs (inst id name ty ops.Unreachable os)) (operands ns gs shown [] os fits.operands fits.pointers typed.1)
      (act_line ns gs (inst id name ty ops.Unreachable []) forms.Unreachable (rw void refl) (rw void refl) unreachable_told)
