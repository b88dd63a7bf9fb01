-- Steps over elements as they are printed, with one index or two.
use Rattle.std.proofs.Common.{◌≡◌, ℕ, ◌⊎◌, inl, inr, Bool, true, false, not, ◌&&◌, List, [], ◌∷◌, ◌++◌, map, nat_eq, Option, Some, refl, ap, subst, codes, append_assoc}
use Rattle.std.specs.Fmt.{decimal}
use Rattle.ir_types.specs.declared.id.Id.{Id}
use Rattle.ir_types.specs.declared.ty.Ty.{Ty}
use Rattle.ir_types.specs.declared.ty.Ty.TheVariants.{Int, Ptr}
use Rattle.ir_types.specs.declared.ty.Elem.{Elem}
use Rattle.ir_types.specs.declared.ty.Elem.TheVariants.{One, Array}
use Rattle.ir_types.specs.declared.opd.Opd.{Opd}
use Rattle.ir_types.specs.declared.op.Op.TheVariants as ops
use Rattle.ir_types.specs.Typed.{is_width, IsElem, IsStep, HasTwoIndices, lane_width}
use Rattle.ir_lex.specs.Bytes.{is_word_byte, begins_name, is_control}
use Rattle.ir_lex.specs.Scan.{texts}
use Rattle.ir_lex.proofs.Again.{stops}
use Rattle.ir_words.specs.Kinds.{is_integer}
use Rattle.ir_forms.specs.Forms as forms
use Rattle.ir_forms.specs.Forms.{slots}
use Rattle.ir_print.specs.declared.names.Local.{Local}
use Rattle.ir_print.specs.Names.{Names, local_of, is_void}
use Rattle.ir_print.specs.Literals.{elem_text}
use Rattle.ir_print.specs.Operands.{typed_text}
use Rattle.ir_print.specs.Instructions.{act_text, flag_text}
use Rattle.rf_text.specs.Shown.{Shown, Fits, shown_ty}
use Rattle.rf_text.specs.Printed.{IsReadAgain}
use Rattle.rf_text.specs.Written.{written}
use Rattle.rf_text.proofs.Words.Read.{Told}
use Rattle.rf_text.proofs.Words.Names.{Named}
use Rattle.rf_text.proofs.Parts.Of.{told_part, told_end, open_texts}
use Rattle.rf_text.proofs.Parts.Flags.{BeginsPlain, Begins, open_no_flag, told_flags, one_flag, flag_word, flag_has, flag_stops}
use Rattle.rf_text.proofs.Parts.Memory.{stored_value, byte_test, elem_cut}
use Rattle.rf_text.proofs.Parts.Operands.{Operand, shown_named, told_also}
use Rattle.rf_text.proofs.Insts.Each.{value_line, told_result, told_code, operands, with_two, with_three, inst}
use Rattle.rf_text.proofs.Insts.Values.{begins_ty}
use Rattle.rf_text.proofs.Insts.Vectors.{width_value}

one_ty : {t u : Ty} → One t ≡ One u → t ≡ u
one_ty e = cc

array_no_one : {P : Type 0} {n w : ℕ} {t : Ty} → Array n w ≡ One t → P
array_no_one e = cc

-- what is stepped over is no vector, and an integer has whole bytes
step_elem : (e : Elem) → IsStep e → IsElem e
step_elem (One t) h = h.1
step_elem (Array n w) h = h

step_byte : (e : Elem) (t : Ty) → IsStep e → e ≡ One t → is_integer t && not (nat_eq (lane_width t) 1) ≡ true
step_byte (One u) t h same = let u_is : u ≡ t = one_ty same in subst (λ (v : Ty). is_integer v && not (nat_eq (lane_width v) 1) ≡ true) u_is (byte_test u h.0 h.1)
step_byte (Array n w) t h same = array_no_one same

begins_elem : (e : Elem) (rest : List ℕ) → IsStep e → stops rest ≡ true → BeginsPlain (texts (elem_text e ++ rest))
begins_elem (One t) rest h stop = begins_ty t rest (stored_value t h.1) stop
begins_elem (Array n w) rest h stop = rw (open_texts ((decimal n ++ (codes " x i" ++ (decimal w ++ codes "]"))) ++ rest)) (Begins (codes "[") (texts ((decimal n ++ (codes " x i" ++ (decimal w ++ codes "]"))) ++ rest)) open_no_flag)

module _ (ns : Names) (gs : List (List ℕ)) (shown : Shown ns gs) (ret : Ty) (id : Id) (name : Option (List ℕ)) (ty : Ty) where
  -- up to the operands
  front : (x : List ℕ) (e : Elem) (inbounds : Bool) (more : List ℕ) → (codes "getelementptr" ++ (flag_text inbounds (codes "inbounds") ++ (codes " " ++ elem_text e))) ++ more ≡
      codes "getelementptr" ++ (flag_text inbounds (codes "inbounds") ++ (32 ∷ (elem_text e ++ more)))
  front x e inbounds more = ap (λ (bs : List ℕ). codes "getelementptr" ++ bs) (append_assoc (flag_text inbounds (codes "inbounds")) (codes " " ++ elem_text e) more)

  one_index : (x : List ℕ) (e : Elem) (inbounds : Bool) (k : ℕ) (p i : Opd) → Named x → IsStep e → is_width k ≡ true → Operand ns gs Ptr p → Operand ns gs (Int k) i →
      Told (slots (forms.Step x (flag_word inbounds (codes "inbounds")) e (forms.arg Ptr (written ns gs p)) (forms.arg (Int k) (written ns gs i)))) (37 ∷ (x ++ (codes " = " ++ act_text ns gs (ops.Gep e inbounds) ty (p ∷ i ∷ []))))
  unfolding is_word_byte begins_name is_control
  one_index x e inbounds k p i named step width is js =
      let index : List ℕ = codes ", " ++ (typed_text ns gs i ++ []) in
      let pointer : List ℕ = codes ", " ++ (typed_text ns gs p ++ index) in
      rw (front x e inbounds pointer)
      (told_result x named (told_code _ refl (flag_stops inbounds (codes "inbounds") (elem_text e ++ pointer))
      (told_flags _ _ (λ w n. rw (n.inbounds, n.nuw, n.nusw) refl) (one_flag _ (codes "inbounds") inbounds refl refl refl) (begins_elem e pointer step refl)
      (told_part _ _ (elem_cut _ e (step_elem e step) (λ t same. step_byte e t step same)) refl
      (told_also ns gs _ Ptr p refl refl is refl (told_also ns gs _ (Int k) i (width_value k width) refl js refl told_end))))))

  two_indices : (x : List ℕ) (n w : ℕ) (inbounds : Bool) (k j : ℕ) (p i q : Opd) → Named x → IsStep (Array n w) → is_width k ≡ true → is_width j ≡ true → Operand ns gs Ptr p → Operand ns gs (Int k) i → Operand ns gs (Int j) q →
      Told (slots (forms.StepInto x (flag_word inbounds (codes "inbounds")) n w (forms.arg Ptr (written ns gs p)) (forms.arg (Int k) (written ns gs i)) (forms.arg (Int j) (written ns gs q))))
      (37 ∷ (x ++ (codes " = " ++ act_text ns gs (ops.Gep (Array n w) inbounds) ty (p ∷ i ∷ q ∷ []))))
  unfolding is_word_byte begins_name is_control
  two_indices x n w inbounds k j p i q named step width second is js ks =
      let e : Elem = Array n w in
      let last : List ℕ = codes ", " ++ (typed_text ns gs q ++ []) in
      let index : List ℕ = codes ", " ++ (typed_text ns gs i ++ last) in
      let pointer : List ℕ = codes ", " ++ (typed_text ns gs p ++ index) in
      rw (front x e inbounds pointer)
      (told_result x named (told_code _ refl (flag_stops inbounds (codes "inbounds") (elem_text e ++ pointer))
      (told_flags _ _ (λ w n. rw (n.inbounds, n.nuw, n.nusw) refl) (one_flag _ (codes "inbounds") inbounds refl refl refl) (begins_elem e pointer step refl)
      (told_part _ _ {bs = elem_text e} (elem_cut _ e step (λ t same. array_no_one same)) refl
      (told_also ns gs _ Ptr p refl refl is refl (told_also ns gs _ (Int k) i (width_value k width) refl js refl (told_also ns gs _ (Int j) q (width_value j second) refl ks refl told_end)))))))

  one_line : (e : Elem) (inbounds : Bool) (os : List Opd) (k : ℕ) → Fits ret ns gs (inst id name ty (ops.Gep e inbounds) os) → IsStep e → is_width k ≡ true → ty ≡ Ptr → map (shown_ty ns gs) os ≡ Some Ptr ∷ Some (Int k) ∷ [] →
      IsReadAgain ns gs (inst id name ty (ops.Gep e inbounds) os)
  one_line e inbounds os k fits step width pointer types =
      let value : is_void ty ≡ false = rw pointer refl in
      let l : (l : Local) × (local_of id ns.locals ≡ Some l) = fits.result value refl in
      with_two (λ os. IsReadAgain ns gs (inst id name ty (ops.Gep e inbounds) os)) (operands ns gs shown (Ptr ∷ Int k ∷ []) os fits.operands fits.pointers types) (λ p i is js.
      value_line ns gs (inst id name ty (ops.Gep e inbounds) (p ∷ i ∷ [])) l.0
      (forms.Step l.0.text (flag_word inbounds (codes "inbounds")) e (forms.arg Ptr (written ns gs p)) (forms.arg (Int k) (written ns gs i))) value refl l.1
      (rw (pointer, l.1, is.type, js.type, flag_has inbounds (codes "inbounds") refl) refl)
      (one_index l.0.text e inbounds k p i (shown_named ns gs id l.0 shown l.1) step width is js))

  two_line : (n w : ℕ) (inbounds : Bool) (os : List Opd) (k j : ℕ) → Fits ret ns gs (inst id name ty (ops.Gep (Array n w) inbounds) os) → IsStep (Array n w) → is_width k ≡ true → is_width j ≡ true → ty ≡ Ptr →
      map (shown_ty ns gs) os ≡ Some Ptr ∷ Some (Int k) ∷ Some (Int j) ∷ [] → IsReadAgain ns gs (inst id name ty (ops.Gep (Array n w) inbounds) os)
  two_line n w inbounds os k j fits step width second pointer types =
      let value : is_void ty ≡ false = rw pointer refl in
      let l : (l : Local) × (local_of id ns.locals ≡ Some l) = fits.result value refl in
      with_three (λ os. IsReadAgain ns gs (inst id name ty (ops.Gep (Array n w) inbounds) os)) (operands ns gs shown (Ptr ∷ Int k ∷ Int j ∷ []) os fits.operands fits.pointers types) (λ p i q is js ks.
      value_line ns gs (inst id name ty (ops.Gep (Array n w) inbounds) (p ∷ i ∷ q ∷ [])) l.0
      (forms.StepInto l.0.text (flag_word inbounds (codes "inbounds")) n w (forms.arg Ptr (written ns gs p)) (forms.arg (Int k) (written ns gs i)) (forms.arg (Int j) (written ns gs q))) value refl l.1
      (rw (pointer, l.1, is.type, js.type, ks.type, flag_has inbounds (codes "inbounds") refl) refl)
      (two_indices l.0.text n w inbounds k j p i q (shown_named ns gs id l.0 shown l.1) step width second is js ks))

  by_indices : (e : Elem) (inbounds : Bool) (os : List Opd) (k : ℕ) → Fits ret ns gs (inst id name ty (ops.Gep e inbounds) os) → IsStep e → is_width k ≡ true → ty ≡ Ptr →
      (map (shown_ty ns gs) os ≡ Some Ptr ∷ Some (Int k) ∷ []) ⊎ HasTwoIndices e k (map (shown_ty ns gs) os) → IsReadAgain ns gs (inst id name ty (ops.Gep e inbounds) os)
  by_indices e inbounds os k fits step width pointer (inl types) = one_line e inbounds os k fits step width pointer types
  by_indices (One t) inbounds os k fits step width pointer (inr none) = absurd none
  by_indices (Array n w) inbounds os k fits step width pointer (inr (j, second, types)) = two_line n w inbounds os k j fits step width second pointer types

  pub step_line : (e : Elem) (inbounds : Bool) (os : List Opd) → Fits ret ns gs (inst id name ty (ops.Gep e inbounds) os) → IsReadAgain ns gs (inst id name ty (ops.Gep e inbounds) os)
  step_line e inbounds os fits =
      let typed : (k : ℕ) × IsStep e × (is_width k ≡ true) × (ty ≡ Ptr) × ((map (shown_ty ns gs) os ≡ Some Ptr ∷ Some (Int k) ∷ []) ⊎ HasTwoIndices e k (map (shown_ty ns gs) os)) = fits.typed in
      by_indices e inbounds os typed.0 fits typed.1 typed.2 typed.3 typed.4
