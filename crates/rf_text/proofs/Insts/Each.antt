-- Instructions as they are printed: the line of each form, in front of which its result may stand.
use Rattle.std.proofs.Common.{◌≡◌, ℕ, true, false, List, [], ◌∷◌, ◌++◌, map, Option, Some, refl, sym, ◌∙◌, ap, codes, append_assoc}
use Rattle.std.proofs.lemmas.List.{map-append}
use Rattle.std.proofs.lemmas.List.Elements.{All-head, All-tail}
use Rattle.std.specs.List.{All}
use Rattle.ir_types.specs.declared.id.Id.{Id}
use Rattle.ir_types.specs.declared.ty.Ty.{Ty}
use Rattle.ir_types.specs.declared.ty.Ty.TheVariants.{Void, Int, Ptr, Row}
use Rattle.ir_types.specs.declared.op.Op.{Op}
use Rattle.ir_types.specs.Typed.{is_value}
use Rattle.ir_types.specs.declared.opd.Opd.{Opd}
use Rattle.ir_types.specs.declared.inst.Inst.{Inst}
use Rattle.ir_types.specs.Formed.{IsOpd}
use Rattle.ir_lex.specs.Bytes.{is_control}
use Rattle.ir_lex.specs.Scan.{texts}
use Rattle.ir_lex.proofs.Again.{stops, texts_space}
use Rattle.ir_draft.specs.declared.line.Line.{Line}
use Rattle.ir_words.specs.Words.{Words}
use Rattle.ir_words.specs.Values.{local_of as local_word, opcode_word, act_word}
use Rattle.ir_forms.specs.Pieces.{Value, Name, Code, ActCode, Says}
use Rattle.ir_forms.specs.Forms.{Form, Slot, slot, slots, word, line_of}
use Rattle.ir_print.specs.declared.names.Local.{Local}
use Rattle.ir_print.specs.Names.{Names, local_of, is_store, is_void}
use Rattle.ir_print.specs.Instructions.{inst_text, act_text, result_text}
use Rattle.ir_read.specs.Forms.{form_in}
use Rattle.rf_text.specs.Shown.{Shown, shown_ty}
use Rattle.ir_types.specs.Formed.{IsPoisonIfPointer}
use Rattle.rf_text.specs.Written.{forms_of}
use Rattle.rf_text.specs.LinesOf.{joined}
use Rattle.rf_text.specs.Printed.{Printed}
use Rattle.rf_text.proofs.Words.Read.{Told, line_read, is_run}
use Rattle.rf_text.proofs.Words.Names.{Named, local_texts, run_is_plain}
use Rattle.rf_text.proofs.Parts.Of.{Cut, told_part, told_space, word_cut, equals_texts, space_stops}
use Rattle.rf_text.proofs.Parts.Operands.{Operand, operand}

-- lines

-- a text that is one line of a form
pub one_line : (f : Form) (line : List ℕ) {text : List ℕ} {forms : List Line} → text ≡ line ++ codes "\n" → forms ≡ line_of f ∷ [] → Told (slots f) line → Printed text forms
one_line f line whole same told = record { lines = line ∷ []; whole = whole; each = rw same (ap (λ (o : Option Line). o ∷ []) (line_read f line told)) }

pub joined_append : (ls ms : List (List ℕ)) → joined (ls ++ ms) ≡ joined ls ++ joined ms
joined_append [] ms = refl
joined_append (l ∷ ls) ms = rw (joined_append ls ms) (sym (append_assoc l (10 ∷ joined ls) (joined ms)))

-- lines after lines
pub printed_append : {a b : List ℕ} {fs gs : List Line} → Printed a fs → Printed b gs → Printed (a ++ b) (fs ++ gs)
printed_append {a} {b} {fs} {gs} p q = record {
  lines = p.lines ++ q.lines;
  whole = rw (p.whole, q.whole) (sym (joined_append p.lines q.lines));
  each = rw (map-append (form_in true) p.lines q.lines, map-append Some fs gs, p.each, q.each) refl;
}

pub indented : {ss : List Slot} {bs : List ℕ} → Told ss bs → Told ss (codes "  " ++ bs)
indented told = told_space (told_space told)

-- a line with a result
pub value_line : (ns : Names) (gs : List (List ℕ)) (i : Inst) (l : Local) (f : Form) → is_void i.ty ≡ false → is_store i.op ≡ false → local_of i.id ns.locals ≡ Some l → forms_of ns gs i ≡ line_of f ∷ [] →
    Told (slots f) (37 ∷ (l.text ++ (codes " = " ++ act_text ns gs i.op i.ty i.opds))) → Printed (inst_text ns gs i) (forms_of ns gs i)
value_line ns gs i l f value other is same told =
    let act : List ℕ = act_text ns gs i.op i.ty i.opds in
    let whole : inst_text ns gs i ≡ (codes "  " ++ (37 ∷ (l.text ++ (codes " = " ++ act)))) ++ codes "\n" =
    rw (value, other, is) (ap (λ (bs : List ℕ). 32 ∷ 32 ∷ 37 ∷ bs) (append_assoc l.text (codes " = ") (act ++ codes "\n") ∙ sym (append_assoc l.text (codes " = " ++ act) (codes "\n")))) in
    one_line f _ whole same (indented told)

-- a line without
pub act_line : (ns : Names) (gs : List (List ℕ)) (i : Inst) (f : Form) → result_text ns (is_void i.ty) (is_store i.op) i ≡ [] → forms_of ns gs i ≡ line_of f ∷ [] →
    Told (slots f) (act_text ns gs i.op i.ty i.opds) → Printed (inst_text ns gs i) (forms_of ns gs i)
act_line ns gs i f none same told =
    let whole : inst_text ns gs i ≡ (codes "  " ++ act_text ns gs i.op i.ty i.opds) ++ codes "\n" = rw none refl in
    one_line f _ whole same (indented told)

-- beginnings of lines

-- the name of the result and `=`
pub told_result : (x : List ℕ) {act : List ℕ} {ss : List Slot} → Named x → Told ss act → Told (slot Name x ∷ word (codes "=") ∷ ss) (37 ∷ (x ++ (codes " = " ++ act)))
unfolding is_control
told_result x {act} {ss} n told = told_part Name x name (space_stops (61 ∷ 32 ∷ act)) (told_space equals) where
  name : Cut (λ ts rest. Says local_word x ts rest) (37 ∷ x)
  name = record { plain = run_is_plain x n.run; takes = λ rest stop. record { word = 37 ∷ x; first = local_texts x rest n stop; says = n.local } }

  equals : Told (word (codes "=") ∷ ss) (61 ∷ 32 ∷ act)
  equals = record { plain = told.plain; spelled = (texts act, equals_texts (32 ∷ act) ∙ ap (λ (ws : Words). codes "=" ∷ ws) (texts_space act), told.spelled) }

-- the keyword
pub told_code : (op : Value Code) {rest : List ℕ} {ss : List Slot} → is_run (opcode_word op) ≡ true → stops rest ≡ true → Told ss rest → Told (slot Code op ∷ ss) (opcode_word op ++ rest)
told_code op run stop told = told_part Code op (word_cut (opcode_word op) run) stop told

pub told_act : (act : Value ActCode) {rest : List ℕ} {ss : List Slot} → is_run (act_word act) ≡ true → stops rest ≡ true → Told ss rest → Told (slot ActCode act ∷ ss) (act_word act ++ rest)
told_act act run stop told = told_part ActCode act (word_cut (act_word act) run) stop told

-- operands by their number

pub heads : {A : Type 0} {x y : A} {xs ys : List A} → x ∷ xs ≡ y ∷ ys → x ≡ y
heads e = cc

pub tails : {A : Type 0} {x y : A} {xs ys : List A} → x ∷ xs ≡ y ∷ ys → xs ≡ ys
tails e = cc

pub none_more : {A P : Type 0} {x : A} {xs : List A} → x ∷ xs ≡ [] → P
none_more e = cc

pub too_few : {A P : Type 0} {x : A} {xs : List A} → [] ≡ x ∷ xs → P
too_few e = cc

-- operands that are shown with these types are read again
pub data Operands (ns : Names) (gs : List (List ℕ)) : List Ty → List Opd → Type 0 where
  NoMore : Operands ns gs [] []
  More : (t : Ty) (ts : List Ty) (o : Opd) (os : List Opd) → Operand ns gs t o → Operands ns gs ts os → Operands ns gs (t ∷ ts) (o ∷ os)

pub operands : (ns : Names) (gs : List (List ℕ)) → Shown ns gs → (ts : List Ty) (os : List Opd) → All IsOpd os → All IsPoisonIfPointer os → map (shown_ty ns gs) os ≡ map Some ts → Operands ns gs ts os
operands ns gs shown [] [] is pointers e = NoMore
operands ns gs shown [] (o ∷ os) is pointers e = none_more e
operands ns gs shown (t ∷ ts) [] is pointers e = too_few e
operands ns gs shown (t ∷ ts) (o ∷ os) is pointers e =
    More t ts o os (operand ns gs t o shown (All-head IsOpd o os is) (All-head IsPoisonIfPointer o os pointers) (heads e))
    (operands ns gs shown ts os (All-tail IsOpd o os is) (All-tail IsPoisonIfPointer o os pointers) (tails e))

pub with_none : {ns : Names} {gs : List (List ℕ)} (P : List Opd → Type 0) {os : List Opd} → Operands ns gs [] os → P [] → P os
with_none P NoMore k = k

pub with_one : {ns : Names} {gs : List (List ℕ)} (P : List Opd → Type 0) {t : Ty} {os : List Opd} → Operands ns gs (t ∷ []) os → ((o : Opd) → Operand ns gs t o → P (o ∷ [])) → P os
with_one P (More _ _ o _ is NoMore) k = k o is

pub with_two : {ns : Names} {gs : List (List ℕ)} (P : List Opd → Type 0) {t u : Ty} {os : List Opd} → Operands ns gs (t ∷ u ∷ []) os → ((a b : Opd) → Operand ns gs t a → Operand ns gs u b → P (a ∷ b ∷ [])) → P os
with_two P (More _ _ a _ is (More _ _ b _ js NoMore)) k = k a b is js

pub with_three : {ns : Names} {gs : List (List ℕ)} (P : List Opd → Type 0) {t u v : Ty} {os : List Opd} → Operands ns gs (t ∷ u ∷ v ∷ []) os →
    ((a b c : Opd) → Operand ns gs t a → Operand ns gs u b → Operand ns gs v c → P (a ∷ b ∷ c ∷ [])) → P os
with_three P (More _ _ a _ is (More _ _ b _ js (More _ _ c _ ks NoMore))) k = k a b c is js ks

pub value_no_void : (t : Ty) → is_value t ≡ true → is_void t ≡ false
value_no_void Void h = sym h
value_no_void (Int w) h = refl
value_no_void Ptr h = refl
value_no_void (Row n w) h = refl

abbrev pub inst : Id → Option (List ℕ) → Ty → Op → List Opd → Inst
inst id name ty op os = record { id = id; name = name; ty = ty; op = op; opds = os }
