-- A switch as it is printed: its first line, a line a case, and its end.
use Rattle.std.proofs.Common.{◌≡◌, ℕ, ◌^◌, ◌<◌, true, arith, List, [], ◌∷◌, ◌++◌, map, length, Option, Some, None, refl, codes, append_assoc}
use Rattle.std.proofs.lemmas.List.Elements.{All-head, All-tail, All-weaker}
use Rattle.std.specs.List.{All, AllPairs}
use Rattle.std.specs.Fmt.{decimal}
use Rattle.vx_digits.specs.Lanes.{number_text}
use Rattle.ir_types.specs.declared.id.Id.{Id}
use Rattle.ir_types.specs.declared.ty.Ty.{Ty}
use Rattle.ir_types.specs.declared.ty.Ty.TheVariants.{Void, Int}
use Rattle.ir_types.specs.declared.opd.Opd.{Opd}
use Rattle.ir_types.specs.declared.op.Op.TheVariants as ops
use Rattle.ir_types.specs.declared.inst.Inst.{Inst}
use Rattle.ir_types.specs.Typed.{is_width, IsCase}
use Rattle.ir_lex.specs.Bytes.{is_word_byte, begins_name, is_control}
use Rattle.ir_lex.specs.Scan.{texts}
use Rattle.ir_draft.specs.declared.line.Line.TheVariants.{Stmt as StmtLine, CasesEnd}
use Rattle.ir_words.specs.Values.{bits_number}
use Rattle.ir_forms.specs.Pieces.{Says, Case}
use Rattle.ir_forms.specs.Forms as forms
use Rattle.ir_forms.specs.Forms.{Slot, slot, slots, word, arg}
use Rattle.ir_print.specs.Names.{Names}
use Rattle.ir_print.specs.Operands.{opd_ty, typed_text, label_text}
use Rattle.ir_print.specs.Instructions.{inst_text, case_text, cases_text, switch_width}
use Rattle.rf_text.specs.Shown.{Shown, Fits, shown_ty}
use Rattle.rf_text.specs.Written.{written, shown_block, stmt_of, forms_of, cases_of}
use Rattle.rf_text.specs.Printed.{Printed, IsReadAgain}
use Rattle.rf_text.proofs.Words.Read.{Told, run_texts}
use Rattle.rf_text.proofs.Words.Names.{run_is_plain}
use Rattle.rf_text.proofs.Parts.Of.{Cut, told_part, told_last, told_end, told_space, led_cut, open_texts, close_texts}
use Rattle.rf_text.proofs.Parts.Types.{kind_cut, int_text}
use Rattle.rf_text.proofs.Parts.Literals.{NumberWord, number_word}
use Rattle.rf_text.proofs.Parts.Blocks.{Block, block, target_cut}
use Rattle.rf_text.proofs.Parts.Operands.{Operand, told_typed}
use Rattle.rf_text.proofs.Insts.Each.{one_line, indented, printed_append, told_act, operands, with_one, inst}
use Rattle.rf_text.proofs.Insts.Vectors.{width_value}

told_open : Told (word (codes "[") ∷ []) (codes "[")
unfolding is_control
told_open = record { plain = refl; spelled = (texts [], open_texts [], told_end.spelled) }

told_close : Told (word (codes "]") ∷ []) (codes "]")
unfolding is_control
told_close = record { plain = refl; spelled = (texts [], close_texts [], told_end.spelled) }

-- the end of a switch
ended : Printed (codes "  ]\n") (CasesEnd ∷ [])
ended = one_line forms.ChoicesEnd (codes "  ]") refl refl (indented told_close)

-- the number of a case
number_cut : (w n : ℕ) → is_width w ≡ true → n < 2 ^ w → Cut (λ ts rest. Says (bits_number w) n ts rest) (number_text w n)
number_cut w n h small =
    let is : NumberWord w n = number_word w n h small in
    record { plain = run_is_plain (number_text w n) is.run; takes = λ rest stop. record { word = number_text w n; first = run_texts (number_text w n) rest is.run stop; says = is.read } }

module _ (ns : Names) where
  case_told : (w n b : ℕ) → is_width w ≡ true → n < 2 ^ w → Block ns b → Told (slots (forms.Choice (Int w) n (shown_block ns b))) (int_text w ++ (32 ∷ (number_text w n ++ (codes ", " ++ label_text ns b))))
  unfolding is_word_byte begins_name
  case_told w n b h small to =
      told_part _ _ {bs = int_text w} (kind_cut _ (Int w) (width_value w h) refl) refl (told_space (told_part (Case (Int w)) n (number_cut w n h small) refl (told_last _ _ (led_cut (target_cut ns b to)))))

  case_printed : (w : ℕ) (l : Option ℕ) (b : ℕ) (ls : List (Option ℕ)) (bs : List ℕ) → is_width w ≡ true → IsCase w l → Block ns b → Printed (case_text ns w l b) (cases_of ns (Int w) (l ∷ []) (b ∷ []))
  case_printed w None b ls bs h is to = absurd is
  case_printed w (Some n) b ls bs h is to =
      one_line (forms.Choice (Int w) n (shown_block ns b)) (codes "    " ++ (int_text w ++ (32 ∷ (number_text w n ++ (codes ", " ++ label_text ns b)))))
      (rw (append_assoc (decimal w) (32 ∷ (number_text w n ++ (codes ", " ++ label_text ns b))) (codes "\n"), append_assoc (number_text w n) (codes ", " ++ label_text ns b) (codes "\n")) refl)
      refl (indented (indented (case_told w n b h is to)))

  cases_printed : (w : ℕ) (ls : List (Option ℕ)) (bs : List ℕ) → is_width w ≡ true → length ls ≡ length bs → All (IsCase w) ls → All (Block ns) bs → Printed (cases_text ns w ls bs) (cases_of ns (Int w) ls bs)
  cases_printed w [] bs h many is to = record { lines = []; whole = refl; each = refl }
  cases_printed w (l ∷ ls) [] h many is to = absurd (omega arith)
  cases_printed w (l ∷ ls) (b ∷ bs) h many is to =
      printed_append (case_printed w l b ls bs h (All-head (IsCase w) l ls is) (All-head (Block ns) b bs to))
      (cases_printed w ls bs h (omega arith) (All-tail (IsCase w) l ls is) (All-tail (Block ns) b bs to))

-- the text of a switch apart into its lines
in_lines : (t l c : List ℕ) → codes "  " ++ ((codes "switch " ++ (t ++ (codes ", " ++ (l ++ (codes " [\n" ++ (c ++ codes "  ]")))))) ++ codes "\n")
    ≡ ((codes "  switch " ++ (t ++ (codes ", " ++ (l ++ codes " [")))) ++ codes "\n") ++ (c ++ codes "  ]\n")
in_lines t l c =
    rw (
      append_assoc t (codes ", " ++ (l ++ (codes " [\n" ++ (c ++ codes "  ]")))) (codes "\n"),
      append_assoc l (codes " [\n" ++ (c ++ codes "  ]")) (codes "\n"),
      append_assoc c (codes "  ]") (codes "\n"),
      append_assoc t (codes ", " ++ (l ++ codes " [")) (codes "\n"),
      append_assoc l (codes " [") (codes "\n"),
      append_assoc t (codes ", " ++ (l ++ codes " [\n")) (c ++ codes "  ]\n"),
      append_assoc l (codes " [\n") (c ++ codes "  ]\n"),
    ) refl

module _ (ns : Names) (gs : List (List ℕ)) (shown : Shown ns gs) (ret : Ty) (id : Id) (name : Option (List ℕ)) (ty : Ty) where
  switch_told : (w other : ℕ) (o : Opd) → is_width w ≡ true → Operand ns gs (Int w) o → Block ns other →
      Told (slots (forms.Switch (arg (Int w) (written ns gs o)) (shown_block ns other))) (codes "switch " ++ (typed_text ns gs o ++ (codes ", " ++ (label_text ns other ++ codes " ["))))
  unfolding is_word_byte begins_name
  switch_told w other o h is to =
      told_act _ refl refl (told_space (told_typed ns gs _ (Int w) o (width_value w h) refl is refl (told_part _ _ {bs = 44 ∷ 32 ∷ label_text ns other} (led_cut (target_cut ns other to)) refl (told_space told_open))))

  switch_printed : (w other : ℕ) (ls : List (Option ℕ)) (bs : List ℕ) (o : Opd) → is_width w ≡ true → ty ≡ Void → length ls ≡ length bs → All (IsCase w) ls → Operand ns gs (Int w) o → Block ns other → All (Block ns) bs →
      IsReadAgain ns gs (inst id name ty (ops.Switch other ls bs) (o ∷ []))
  switch_printed w other ls bs o h void many cases is to after =
      let i : Inst = inst id name ty (ops.Switch other ls bs) (o ∷ []) in
      let first : List ℕ = codes "  switch " ++ (typed_text ns gs o ++ (codes ", " ++ (label_text ns other ++ codes " ["))) in
      let top : Printed (first ++ codes "\n") (StmtLine (stmt_of ns gs i) ∷ []) =
      one_line (forms.Switch (arg (Int w) (written ns gs o)) (shown_block ns other)) first refl (rw (void, is.type) refl) (indented (switch_told w other o h is to)) in
      let middle : Printed (cases_text ns (switch_width ns (Some o)) ls bs) (cases_of ns (opd_ty ns o) ls bs) = rw is.type (cases_printed ns w ls bs h many cases after) in
      let all : Printed ((first ++ codes "\n") ++ (cases_text ns (switch_width ns (Some o)) ls bs ++ codes "  ]\n")) (forms_of ns gs i) = printed_append top (printed_append middle ended) in
      let whole : inst_text ns gs i ≡ (first ++ codes "\n") ++ (cases_text ns (switch_width ns (Some o)) ls bs ++ codes "  ]\n") =
      rw void (in_lines (typed_text ns gs o) (label_text ns other) (cases_text ns (switch_width ns (Some o)) ls bs)) in
      rw whole all

  pub switch_line : (other : ℕ) (ls : List (Option ℕ)) (bs : List ℕ) (os : List Opd) → Fits ret ns gs (inst id name ty (ops.Switch other ls bs) os) → IsReadAgain ns gs (inst id name ty (ops.Switch other ls bs) os)
  switch_line other ls bs os fits =
      let typed : (w : ℕ) × (is_width w ≡ true) × (ty ≡ Void) × (length ls ≡ length bs) × All (IsCase w) ls × AllPairs (λ a b. a ≡ b → ⊥) ls × (map (shown_ty ns gs) os ≡ Some (Int w) ∷ []) = fits.typed in
      let to : All (Block ns) (other ∷ bs) = All-weaker (λ b. b < length ns.labels) (Block ns) (λ b h. block ns gs b shown h) (other ∷ bs) fits.blocks in
      with_one (λ os. IsReadAgain ns gs (inst id name ty (ops.Switch other ls bs) os)) (operands ns gs shown (Int typed.0 ∷ []) os fits.operands fits.pointers typed.6) (λ o is.
      switch_printed typed.0 other ls bs o typed.1 typed.2 typed.3 typed.4 is (All-head (Block ns) other bs to) (All-tail (Block ns) other bs to))
