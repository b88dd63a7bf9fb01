-- Operations that choose, and operations on lanes, as they are printed.
use Rattle.std.proofs.Common.{◌≡◌, ℕ, ◌*◌, ◌⊎◌, inl, inr, true, false, eq-eqb, List, [], ◌∷◌, ◌++◌, map, length, nat_eq, Option, Some, refl, ◌∙◌, codes, append_assoc}
use Rattle.std.specs.List.{All}
use Rattle.ir_types.specs.declared.id.Id.{Id}
use Rattle.ir_types.specs.declared.ty.Ty.{Ty}
use Rattle.ir_types.specs.declared.ty.Ty.TheVariants.{Void, Int, Ptr, Row}
use Rattle.ir_types.specs.declared.opd.Opd.{Opd}
use Rattle.ir_types.specs.declared.op.Op.TheVariants as ops
use Rattle.ir_types.specs.Typed.{is_value, is_vector, is_width, with_width, IsEntry, lane_width}
use Rattle.ir_lex.specs.Bytes.{is_word_byte, begins_name}
use Rattle.ir_lex.proofs.Classes.{clash}
use Rattle.ir_types.proofs.SameTypes.{same_itself}
use Rattle.ir_words.specs.Kinds.{is_chosen}
use Rattle.ir_forms.specs.Forms as forms
use Rattle.ir_forms.specs.Forms.{slots}
use Rattle.ir_print.specs.declared.names.Local.{Local}
use Rattle.ir_print.specs.Names.{Names, local_of, is_void}
use Rattle.ir_print.specs.Operands.{typed_text}
use Rattle.ir_print.specs.Instructions.{act_text, mask_text}
use Rattle.rf_text.specs.Shown.{Shown, Fits, shown_ty}
use Rattle.rf_text.specs.Printed.{IsReadAgain}
use Rattle.rf_text.specs.Written.{written}
use Rattle.rf_text.proofs.Words.Read.{Told}
use Rattle.rf_text.proofs.Words.Names.{Named}
use Rattle.rf_text.proofs.Parts.Of.{told_last, told_space}
use Rattle.rf_text.proofs.Parts.Types.{row_is, by_count}
use Rattle.rf_text.proofs.Parts.Blocks.{mask_cut}
use Rattle.rf_text.proofs.Parts.Operands.{Operand, shown_named, told_typed, told_also, told_also_last}
use Rattle.rf_text.proofs.Insts.Each.{value_line, told_result, told_code, operands, with_two, with_three, value_no_void, inst}

-- types of operands

pub width_value : (k : ℕ) → is_width k ≡ true → is_value (Int k) ≡ true
width_value k h = rw h refl

-- what chooses: a truth value, or one for each lane
record Chooser (c t : Ty) : Type 0 where
  value : is_value c ≡ true
  bit : nat_eq (lane_width c) 1 ≡ true
  fitting : is_chosen c t ≡ true

chooser : (c t : Ty) → (c ≡ Int 1) ⊎ ((is_vector t ≡ true) × (c ≡ with_width 1 t)) → Chooser c t
chooser c t (inl e) = rw e (record { value = refl; bit = refl; fitting = refl })
chooser c t (inr (v, e)) = rw e (by_lanes t v) where
  by_lanes : (t : Ty) → is_vector t ≡ true → Chooser (with_width 1 t) t
  by_lanes Void v = clash false refl v
  by_lanes (Int w) v = clash false refl v
  by_lanes Ptr v = clash false refl v
  by_lanes (Row n w) v = record {
    value = by_count (λ n. is_value (Row n 1) ≡ true) n (row_is n w v).count refl refl refl refl;
    bit = refl;
    fitting = eq-eqb n n refl;
  }

module _ (ns : Names) (gs : List (List ℕ)) (shown : Shown ns gs) (ret : Ty) (id : Id) (name : Option (List ℕ)) (ty : Ty) where
  three_told : (x : List ℕ) (c : Ty) (a b d : Opd) → Named x → Chooser c ty → is_value ty ≡ true → Operand ns gs c a → Operand ns gs ty b → Operand ns gs ty d →
      Told (slots (forms.Select x (forms.arg c (written ns gs a)) (forms.arg ty (written ns gs b)) (forms.arg ty (written ns gs d)))) (37 ∷ (x ++ (codes " = " ++ act_text ns gs ops.Select ty (a ∷ b ∷ d ∷ []))))
  unfolding is_word_byte begins_name
  three_told x c a b d named by value is js ks =
      rw (append_assoc (typed_text ns gs a) (codes ", " ++ typed_text ns gs b) (codes ", " ++ typed_text ns gs d))
      (told_result x named (told_code _ refl refl (told_space
      (told_typed ns gs _ c a by.value by.bit is refl (told_also ns gs _ ty b value by.fitting js refl (told_also_last ns gs _ ty d value (same_itself ty) ks))))))

  pub select_line : (os : List Opd) → Fits ret ns gs (inst id name ty ops.Select os) → IsReadAgain ns gs (inst id name ty ops.Select os)
  select_line os fits =
      let typed : (c : Ty) × (is_value ty ≡ true) × ((c ≡ Int 1) ⊎ ((is_vector ty ≡ true) × (c ≡ with_width 1 ty))) × (map (shown_ty ns gs) os ≡ Some c ∷ Some ty ∷ Some ty ∷ []) = fits.typed in
      let c : Ty = typed.0 in
      let value : is_void ty ≡ false = value_no_void ty typed.1 in
      let l : (l : Local) × (local_of id ns.locals ≡ Some l) = fits.result value refl in
      with_three (λ os. IsReadAgain ns gs (inst id name ty ops.Select os)) (operands ns gs shown (c ∷ ty ∷ ty ∷ []) os fits.operands fits.pointers typed.3) (λ a b d is js ks.
      value_line ns gs (inst id name ty ops.Select (a ∷ b ∷ d ∷ [])) l.0 (forms.Select l.0.text (forms.arg c (written ns gs a)) (forms.arg ty (written ns gs b)) (forms.arg ty (written ns gs d))) value refl l.1
      (rw (value, l.1, is.type, js.type, ks.type) refl)
      (three_told l.0.text c a b d (shown_named ns gs id l.0 shown l.1) (chooser c ty typed.2) typed.1 is js ks))

  extract_told : (x : List ℕ) (n w k : ℕ) (a i : Opd) → Named x → is_vector (Row n w) ≡ true → is_width k ≡ true → Operand ns gs (Row n w) a → Operand ns gs (Int k) i →
      Told (slots (forms.Extract x (forms.arg (Row n w) (written ns gs a)) (forms.arg (Int k) (written ns gs i)))) (37 ∷ (x ++ (codes " = " ++ act_text ns gs ops.Extract ty (a ∷ i ∷ []))))
  unfolding is_word_byte begins_name
  extract_told x n w k a i named row width is js =
      told_result x named (told_code _ refl refl (told_space (told_typed ns gs _ (Row n w) a row refl is refl (told_also_last ns gs _ (Int k) i (width_value k width) refl js))))

  pub extract_line : (os : List Opd) → Fits ret ns gs (inst id name ty ops.Extract os) → IsReadAgain ns gs (inst id name ty ops.Extract os)
  extract_line os fits =
      let typed : (n w k : ℕ) × (is_vector (Row n w) ≡ true) × (is_width k ≡ true) × (ty ≡ Int w) × (map (shown_ty ns gs) os ≡ Some (Row n w) ∷ Some (Int k) ∷ []) = fits.typed in
      let n : ℕ = typed.0 in
      let w : ℕ = typed.1 in
      let k : ℕ = typed.2 in
      let value : is_void ty ≡ false = rw typed.5 refl in
      let l : (l : Local) × (local_of id ns.locals ≡ Some l) = fits.result value refl in
      with_two (λ os. IsReadAgain ns gs (inst id name ty ops.Extract os)) (operands ns gs shown (Row n w ∷ Int k ∷ []) os fits.operands fits.pointers typed.6) (λ a i is js.
      value_line ns gs (inst id name ty ops.Extract (a ∷ i ∷ [])) l.0 (forms.Extract l.0.text (forms.arg (Row n w) (written ns gs a)) (forms.arg (Int k) (written ns gs i))) value refl l.1
      (rw (typed.5, l.1, is.type, js.type) refl)
      (extract_told l.0.text n w k a i (shown_named ns gs id l.0 shown l.1) typed.3 typed.4 is js))

  insert_told : (x : List ℕ) (n w k : ℕ) (a b i : Opd) → Named x → is_vector (Row n w) ≡ true → is_width w ≡ true → is_width k ≡ true → Operand ns gs (Row n w) a → Operand ns gs (Int w) b → Operand ns gs (Int k) i →
      Told (slots (forms.Insert x (forms.arg (Row n w) (written ns gs a)) (forms.arg (Int w) (written ns gs b)) (forms.arg (Int k) (written ns gs i)))) (37 ∷ (x ++ (codes " = " ++ act_text ns gs ops.Insert ty (a ∷ b ∷ i ∷ []))))
  unfolding is_word_byte begins_name
  insert_told x n w k a b i named row lane width is js ks =
      rw (append_assoc (typed_text ns gs a) (codes ", " ++ typed_text ns gs b) (codes ", " ++ typed_text ns gs i))
      (told_result x named (told_code _ refl refl (told_space
      (told_typed ns gs _ (Row n w) a row refl is refl (told_also ns gs _ (Int w) b (width_value w lane) (eq-eqb w w refl) js refl (told_also_last ns gs _ (Int k) i (width_value k width) refl ks))))))

  pub insert_line : (os : List Opd) → Fits ret ns gs (inst id name ty ops.Insert os) → IsReadAgain ns gs (inst id name ty ops.Insert os)
  insert_line os fits =
      let typed : (n w k : ℕ) × (is_vector (Row n w) ≡ true) × (is_width k ≡ true) × (ty ≡ Row n w) × (map (shown_ty ns gs) os ≡ Some (Row n w) ∷ Some (Int w) ∷ Some (Int k) ∷ []) = fits.typed in
      let n : ℕ = typed.0 in
      let w : ℕ = typed.1 in
      let k : ℕ = typed.2 in
      let value : is_void ty ≡ false = rw typed.5 refl in
      let l : (l : Local) × (local_of id ns.locals ≡ Some l) = fits.result value refl in
      with_three (λ os. IsReadAgain ns gs (inst id name ty ops.Insert os)) (operands ns gs shown (Row n w ∷ Int w ∷ Int k ∷ []) os fits.operands fits.pointers typed.6) (λ a b i is js ks.
      value_line ns gs (inst id name ty ops.Insert (a ∷ b ∷ i ∷ [])) l.0
      (forms.Insert l.0.text (forms.arg (Row n w) (written ns gs a)) (forms.arg (Int w) (written ns gs b)) (forms.arg (Int k) (written ns gs i))) value refl l.1
      (rw (typed.5, l.1, is.type, js.type, ks.type) refl)
      (insert_told l.0.text n w k a b i (shown_named ns gs id l.0 shown l.1) typed.3 (row_is n w typed.3).width typed.4 is js ks))

  shuffle_told : (x : List ℕ) (n w : ℕ) (mask : List (Option ℕ)) (a b : Opd) → Named x → is_vector (Row n w) ≡ true → is_vector (Row (length mask) w) ≡ true → All (IsEntry (2 * n)) mask →
      Operand ns gs (Row n w) a → Operand ns gs (Row n w) b →
      Told (slots (forms.Shuffle x (forms.arg (Row n w) (written ns gs a)) (forms.arg (Row n w) (written ns gs b)) (Row (length mask) w, mask))) (37 ∷ (x ++ (codes " = " ++ act_text ns gs (ops.Shuffle mask) ty (a ∷ b ∷ []))))
  unfolding is_word_byte begins_name
  shuffle_told x n w mask a b named row result all is js =
      let first : List ℕ = typed_text ns gs a in
      let second : List ℕ = codes ", " ++ typed_text ns gs b in
      let two : ((first ++ second) ++ codes ", ") ++ mask_text mask ≡ first ++ (second ++ (codes ", " ++ mask_text mask)) =
      append_assoc (first ++ second) (codes ", ") (mask_text mask) ∙ append_assoc first second (codes ", " ++ mask_text mask) in
      rw two
      (told_result x named (told_code _ refl refl (told_space
      (told_typed ns gs _ (Row n w) a row refl is refl (told_also ns gs _ (Row n w) b row (same_itself (Row n w)) js refl (told_last _ _ (mask_cut n w mask (row_is n w row) (row_is (length mask) w result) all)))))))

  pub shuffle_line : (mask : List (Option ℕ)) (os : List Opd) → Fits ret ns gs (inst id name ty (ops.Shuffle mask) os) → IsReadAgain ns gs (inst id name ty (ops.Shuffle mask) os)
  shuffle_line mask os fits =
      let typed : (n w : ℕ) × (is_vector (Row n w) ≡ true) × (is_vector ty ≡ true) × (ty ≡ Row (length mask) w) × All (IsEntry (2 * n)) mask × (map (shown_ty ns gs) os ≡ Some (Row n w) ∷ Some (Row n w) ∷ []) = fits.typed in
      let n : ℕ = typed.0 in
      let w : ℕ = typed.1 in
      let value : is_void ty ≡ false = rw typed.4 refl in
      let result : is_vector (Row (length mask) w) ≡ true = rw typed.4 at typed.3 in
      let l : (l : Local) × (local_of id ns.locals ≡ Some l) = fits.result value refl in
      with_two (λ os. IsReadAgain ns gs (inst id name ty (ops.Shuffle mask) os)) (operands ns gs shown (Row n w ∷ Row n w ∷ []) os fits.operands fits.pointers typed.6) (λ a b is js.
      value_line ns gs (inst id name ty (ops.Shuffle mask) (a ∷ b ∷ [])) l.0
      (forms.Shuffle l.0.text (forms.arg (Row n w) (written ns gs a)) (forms.arg (Row n w) (written ns gs b)) (Row (length mask) w, mask)) value refl l.1
      (rw (typed.4, l.1, is.type, js.type) refl)
      (shuffle_told l.0.text n w mask a b (shown_named ns gs id l.0 shown l.1) typed.2 result typed.5 is js))
