-- Operations on two numbers, and comparisons, as they are printed.
use Rattle.std.proofs.Common.{◌≡◌, ℕ, ◌<◌, ◌⊎◌, inl, inr, Bool, true, false, ◌||◌, arith, eq-eqb, List, [], ◌∷◌, ◌++◌, map, nat_lt, Option, Some, refl, sym, ◌∙◌, codes, append_assoc}
use Rattle.std.proofs.lemmas.Bool.Decides.{nat_tests}
use Rattle.vx_num.specs.Keywords.{bin_word, cast_word, pred_word}
use Rattle.vx_num.specs.declared.operations.BinOp.{BinOp}
use Rattle.vx_num.specs.declared.operations.BinOp.TheVariants as bin
use Rattle.vx_num.specs.declared.operations.CastOp.{CastOp}
use Rattle.vx_num.specs.declared.operations.CastOp.TheVariants as cast
use Rattle.vx_num.specs.declared.operations.Pred.{Pred}
use Rattle.vx_num.specs.declared.operations.Pred.TheVariants as pred
use Rattle.vx_num.specs.declared.operations.Flags.{Flags as FlagsOf}
use Rattle.ir_types.specs.declared.id.Id.{Id}
use Rattle.ir_types.specs.declared.ty.Ty.{Ty}
use Rattle.ir_types.specs.declared.ty.Ty.TheVariants.{Void, Int, Ptr, Row}
use Rattle.ir_types.specs.declared.opd.Opd.{Opd}
use Rattle.ir_types.specs.declared.op.Op.TheVariants as ops
use Rattle.ir_types.specs.Typed.{is_value, is_number, has_flags, with_width, lane_width, Converts}
use Rattle.ir_lex.specs.Bytes.{is_word_byte, begins_name}
use Rattle.ir_lex.specs.Scan.{texts}
use Rattle.ir_lex.proofs.Again.{stops}
use Rattle.ir_lex.proofs.Classes.{clash}
use Rattle.ir_words.specs.Kinds.{is_integer, is_vector as is_row_ty, is_cast, fits}
use Rattle.ir_forms.specs.Pieces.{Comparison}
use Rattle.ir_forms.specs.Forms as forms
use Rattle.ir_forms.specs.Forms.{slots, truth_of, cast_kind}
use Rattle.ir_print.specs.declared.names.Local.{Local}
use Rattle.ir_print.specs.Names.{Names, local_of, is_void}
use Rattle.ir_print.specs.Literals.{ty_text}
use Rattle.ir_print.specs.Operands.{opd_text, typed_text}
use Rattle.ir_print.specs.Instructions.{act_text}
use Rattle.rf_text.specs.Shown.{Shown, Fits, shown_ty}
use Rattle.rf_text.specs.Printed.{IsReadAgain}
use Rattle.rf_text.specs.Written.{written}
use Rattle.rf_text.proofs.Words.Read.{Told, is_run, run_texts}
use Rattle.rf_text.proofs.Words.Names.{Named}
use Rattle.rf_text.proofs.Parts.Of.{told_part, told_last, told_space, told_word, word_cut, space_stops}
use Rattle.rf_text.proofs.Parts.Types.{kind_cut, ty_cut}
use Rattle.rf_text.proofs.Parts.Flags.{BeginsPlain, Begins, ty_begins, pred_no_flag, told_flags, no_flags, bin_words, bin_flags_text, flags_again, bin_refuses, cast_refuses, cast_flags_text, flag_word, flag_has}
use Rattle.rf_text.proofs.Parts.Operands.{Operand, shown_named, told_typed, told_two}
use Rattle.rf_text.proofs.Insts.Each.{value_line, told_result, told_code, operands, with_one, with_two, value_no_void, inst}

pub number_value : (t : Ty) → is_number t ≡ true → is_value t ≡ true
number_value Void h = h
number_value (Int w) h = h
number_value Ptr h = refl
number_value (Row n w) h = h

-- a number is an integer or a vector
pub number_test : (t : Ty) → is_number t ≡ true → is_integer t || is_row_ty t ≡ true
number_test Void h = h
number_test (Int w) h = refl
number_test Ptr h = h
number_test (Row n w) h = refl

-- a type in front of what stops it begins with no flag
pub begins_ty : (t : Ty) (rest : List ℕ) → is_value t ≡ true → stops rest ≡ true → BeginsPlain (texts (ty_text t ++ rest))
begins_ty t rest value stop = ty_begins ((ty_cut t value).takes rest stop)

begins_typed : (ns : Names) (gs : List (List ℕ)) (t : Ty) (o : Opd) (rest : List ℕ) → is_value t ≡ true → Operand ns gs t o → BeginsPlain (texts (typed_text ns gs o ++ rest))
begins_typed ns gs t o rest value is = rw (is.type, append_assoc (ty_text t) (32 ∷ opd_text ns gs o) rest) (begins_ty t (32 ∷ (opd_text ns gs o ++ rest)) value (space_stops (opd_text ns gs o ++ rest)))

-- keywords are one run

bin_run : (op : BinOp) → is_run (bin_word op) ≡ true
unfolding is_word_byte begins_name
bin_run bin.Add = refl
bin_run bin.Sub = refl
bin_run bin.Mul = refl
bin_run bin.Shl = refl
bin_run bin.Udiv = refl
bin_run bin.Sdiv = refl
bin_run bin.Urem = refl
bin_run bin.Srem = refl
bin_run bin.Lshr = refl
bin_run bin.Ashr = refl
bin_run bin.And = refl
bin_run bin.Or = refl
bin_run bin.Xor = refl

pred_run : (p : Pred) → is_run (pred_word p) ≡ true
unfolding is_word_byte begins_name
pred_run pred.Eq = refl
pred_run pred.Ne = refl
pred_run pred.Ugt = refl
pred_run pred.Uge = refl
pred_run pred.Ult = refl
pred_run pred.Ule = refl
pred_run pred.Sgt = refl
pred_run pred.Sge = refl
pred_run pred.Slt = refl
pred_run pred.Sle = refl

cast_run : (op : CastOp) → is_run (cast_word op) ≡ true
unfolding is_word_byte begins_name
cast_run cast.Zext = refl
cast_run cast.Sext = refl
cast_run cast.Trunc = refl

-- the type of a comparison's result
truth_same : (u : Ty) → is_number u ≡ true → truth_of u ≡ with_width 1 u
truth_same Void h = clash false refl h
truth_same (Int w) h = refl
truth_same Ptr h = clash false refl h
truth_same (Row n w) h = refl

-- a comparison begins with no flag
begins_pred : (p : Pred) (rest : List ℕ) → stops rest ≡ true → BeginsPlain (texts (pred_word p ++ rest))
begins_pred p rest stop = rw (run_texts (pred_word p) rest (pred_run p) stop) (Begins (pred_word p) (texts rest) (pred_no_flag p))

-- the types of a conversion

row_no_int : {P : Type 0} {n v w : ℕ} → Row n v ≡ Int w → P
row_no_int e = cc

int_no_row : {P : Type 0} {n v w : ℕ} → Int w ≡ Row n v → P
int_no_row e = cc

same_lanes : {n v m w : ℕ} → Row m v ≡ Row n w → n ≡ m
same_lanes e = cc

casts : (u t : Ty) → is_number u ≡ true → is_number t ≡ true → t ≡ with_width (lane_width t) u → is_cast u t ≡ true
casts Void t one two same = clash false refl one
casts Ptr t one two same = clash false refl one
casts (Int w) Void one two same = clash false refl two
casts (Int w) Ptr one two same = clash false refl two
casts (Int w) (Int v) one two same = refl
casts (Int w) (Row m v) one two same = row_no_int same
casts (Row n w) Void one two same = clash false refl two
casts (Row n w) Ptr one two same = clash false refl two
casts (Row n w) (Int v) one two same = int_no_row same
casts (Row n w) (Row m v) one two same = let lanes : n ≡ m = same_lanes same in eq-eqb n m lanes

less_test : (m n : ℕ) → m < n → nat_lt m n ≡ true
less_test m n h = grind (arith, nat_tests)

-- which says that the type is of the kind
cast_fits : (op : CastOp) (nneg : Bool) (u t : Ty) → is_number u ≡ true → is_number t ≡ true → t ≡ with_width (lane_width t) u → Converts op nneg (lane_width u) (lane_width t) → fits (cast_kind op u) t ≡ true
cast_fits cast.Zext nneg u t one two same converts = rw (casts u t one two same) (less_test (lane_width u) (lane_width t) converts)
cast_fits cast.Sext nneg u t one two same converts = rw (casts u t one two same) (less_test (lane_width u) (lane_width t) converts.0)
cast_fits cast.Trunc nneg u t one two same converts = rw (casts u t one two same) (less_test (lane_width t) (lane_width u) converts.0)

-- only `zext` has the flag
only_zext : (op : CastOp) (nneg : Bool) (from to : ℕ) → Converts op nneg from to → (nneg ≡ false) ⊎ (op ≡ cast.Zext)
only_zext cast.Zext nneg from to converts = inr refl
only_zext cast.Sext nneg from to converts = inl converts.1
only_zext cast.Trunc nneg from to converts = inl converts.1

module _ (ns : Names) (gs : List (List ℕ)) (shown : Shown ns gs) (ret : Ty) (id : Id) (name : Option (List ℕ)) (ty : Ty) where
  bin_told : (x : List ℕ) (op : BinOp) (f : FlagsOf) (a b : Opd) → Named x → is_number ty ≡ true → Operand ns gs ty a → Operand ns gs ty b →
      Told (slots (forms.Binary x op (bin_words op f) ty (written ns gs a) (written ns gs b))) (37 ∷ (x ++ (codes " = " ++ act_text ns gs (ops.Bin op f) ty (a ∷ b ∷ []))))
  unfolding is_word_byte begins_name
  bin_told x op f a b named number is js =
      let value : is_value ty ≡ true = number_value ty number in
      (told_result x named (told_code _ (bin_run op) ((bin_flags_text op f).stopped _)
      (told_flags _ _ (bin_refuses op) (bin_flags_text op f) (begins_ty ty _ value refl) (told_part _ _ (kind_cut _ ty value (number_test ty number)) refl (told_space (told_two ns gs ty a b is js))))))

  pub bin_line : (op : BinOp) (f : FlagsOf) (os : List Opd) → Fits ret ns gs (inst id name ty (ops.Bin op f) os) → IsReadAgain ns gs (inst id name ty (ops.Bin op f) os)
  bin_line op f os fits =
      let typed : (is_number ty ≡ true) × (has_flags op f ≡ true) × (map (shown_ty ns gs) os ≡ Some ty ∷ Some ty ∷ []) = fits.typed in
      let value : is_void ty ≡ false = value_no_void ty (number_value ty typed.0) in
      let l : (l : Local) × (local_of id ns.locals ≡ Some l) = fits.result value refl in
      with_two (λ os. IsReadAgain ns gs (inst id name ty (ops.Bin op f) os)) (operands ns gs shown (ty ∷ ty ∷ []) os fits.operands fits.pointers typed.2) (λ a b is js.
      value_line ns gs (inst id name ty (ops.Bin op f) (a ∷ b ∷ [])) l.0 (forms.Binary l.0.text op (bin_words op f) ty (written ns gs a) (written ns gs b)) value refl l.1
      (rw (value, l.1, is.type, js.type, flags_again op f typed.1) refl)
      (bin_told l.0.text op f a b (shown_named ns gs id l.0 shown l.1) typed.0 is js))

  icmp_told : (x : List ℕ) (p : Pred) (u : Ty) (a b : Opd) → Named x → is_number u ≡ true → Operand ns gs u a → Operand ns gs u b →
      Told (slots (forms.Compare x [] p u (written ns gs a) (written ns gs b))) (37 ∷ (x ++ (codes " = " ++ act_text ns gs (ops.Icmp p) ty (a ∷ b ∷ []))))
  unfolding is_word_byte begins_name
  icmp_told x p u a b named number is js =
      let value : is_value u ≡ true = number_value u number in
      rw (is.type)
      (told_result x named (told_code _ refl refl
      (told_flags _ _ {bs = []} (λ w n. n.samesign) (no_flags _) (begins_pred p _ refl)
      (told_part Comparison p (word_cut (pred_word p) (pred_run p)) refl (told_space (told_part _ _ (kind_cut _ u value (number_test u number)) refl (told_space (told_two ns gs u a b is js))))))))

  pub icmp_line : (p : Pred) (os : List Opd) → Fits ret ns gs (inst id name ty (ops.Icmp p) os) → IsReadAgain ns gs (inst id name ty (ops.Icmp p) os)
  icmp_line p os fits =
      let typed : (u : Ty) × (is_number u ≡ true) × (ty ≡ with_width 1 u) × (map (shown_ty ns gs) os ≡ Some u ∷ Some u ∷ []) = fits.typed in
      let u : Ty = typed.0 in
      let truth : truth_of u ≡ ty = truth_same u typed.1 ∙ sym typed.2 in
      let value : is_void ty ≡ false = rw typed.2 (truth_no_void u typed.1) in
      let l : (l : Local) × (local_of id ns.locals ≡ Some l) = fits.result value refl in
      with_two (λ os. IsReadAgain ns gs (inst id name ty (ops.Icmp p) os)) (operands ns gs shown (u ∷ u ∷ []) os fits.operands fits.pointers typed.3) (λ a b is js.
      value_line ns gs (inst id name ty (ops.Icmp p) (a ∷ b ∷ [])) l.0 (forms.Compare l.0.text [] p u (written ns gs a) (written ns gs b)) value refl l.1
      (rw (value, l.1, is.type, js.type, truth) refl)
      (icmp_told l.0.text p u a b (shown_named ns gs id l.0 shown l.1) typed.1 is js)) where
        truth_no_void : (u : Ty) → is_number u ≡ true → is_void (with_width 1 u) ≡ false
        truth_no_void Void h = clash false refl h
        truth_no_void (Int w) h = refl
        truth_no_void Ptr h = clash false refl h
        truth_no_void (Row n w) h = refl

  cast_told : (x : List ℕ) (op : CastOp) (nneg : Bool) (u : Ty) (a : Opd) → Named x → is_number u ≡ true → is_number ty ≡ true → fits (cast_kind op u) ty ≡ true → (nneg ≡ false) ⊎ (op ≡ cast.Zext) → Operand ns gs u a →
      Told (slots (forms.Convert x op (flag_word nneg (codes "nneg")) (forms.arg u (written ns gs a)) ty)) (37 ∷ (x ++ (codes " = " ++ act_text ns gs (ops.Cast op nneg) ty (a ∷ []))))
  unfolding is_word_byte begins_name
  cast_told x op nneg u a named one two fit only is =
      let from : is_value u ≡ true = number_value u one in
      (told_result x named (told_code _ (cast_run op) ((cast_flags_text op nneg only).stopped _)
      (told_flags _ _ (cast_refuses op) (cast_flags_text op nneg only) (begins_typed ns gs u a _ from is)
      (told_typed ns gs _ u a from (number_test u one) is refl (told_space (told_word (codes "to") refl refl (told_space (told_last _ _ (kind_cut _ ty (number_value ty two) fit)))))))))

  pub cast_line : (op : CastOp) (nneg : Bool) (os : List Opd) → Fits ret ns gs (inst id name ty (ops.Cast op nneg) os) → IsReadAgain ns gs (inst id name ty (ops.Cast op nneg) os)
  cast_line op nneg os fits =
      let typed : (u : Ty) × (is_number u ≡ true) × (is_number ty ≡ true) × (ty ≡ with_width (lane_width ty) u) × Converts op nneg (lane_width u) (lane_width ty) × (map (shown_ty ns gs) os ≡ Some u ∷ []) = fits.typed in
      let u : Ty = typed.0 in
      let value : is_void ty ≡ false = value_no_void ty (number_value ty typed.2) in
      let l : (l : Local) × (local_of id ns.locals ≡ Some l) = fits.result value refl in
      let only : (nneg ≡ false) ⊎ (op ≡ cast.Zext) = only_zext op nneg (lane_width u) (lane_width ty) typed.4 in
      with_one (λ os. IsReadAgain ns gs (inst id name ty (ops.Cast op nneg) os)) (operands ns gs shown (u ∷ []) os fits.operands fits.pointers typed.5) (λ a is.
      value_line ns gs (inst id name ty (ops.Cast op nneg) (a ∷ [])) l.0 (forms.Convert l.0.text op (flag_word nneg (codes "nneg")) (forms.arg u (written ns gs a)) ty) value refl l.1
      (rw (value, l.1, is.type, flag_has nneg (codes "nneg") refl) refl)
      (cast_told l.0.text op nneg u a (shown_named ns gs id l.0 shown l.1) typed.1 typed.2 (cast_fits op nneg u ty typed.1 typed.2 typed.3 typed.4) only is))
