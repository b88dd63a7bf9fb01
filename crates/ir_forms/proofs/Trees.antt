-- The trees of parts: what a tree reads is spelled by a form, and what a form spells is read as that form.
use Rattle.std.proofs.Common.{◌≡◌, ℕ, false, ◌⊎◌, inl, inr, List, [], ◌∷◌, Option, Some, None, refl, sym, ◌∙◌, ap, subst, codes}
use Rattle.vx_num.specs.Keywords.{pred_word}
use Rattle.vx_digits.specs.Numbers.{number_of, one_more}
use Rattle.vx_num.specs.declared.operations.BinOp.TheVariants as bin
use Rattle.vx_num.specs.declared.operations.CastOp.TheVariants as cast
use Rattle.vx_num.specs.declared.operations.Pred.{Pred}
use Rattle.vx_num.specs.declared.operations.Pred.TheVariants as pred
use Rattle.ir_types.specs.declared.ty.Elem.{Elem}
use Rattle.ir_types.specs.declared.ty.Elem.TheVariants.{One, Array}
use Rattle.ir_types.specs.declared.ty.Ty.{Ty}
use Rattle.ir_types.specs.Typed.{lane_width}
use Rattle.ir_words.specs.declared.opcode.Opcode.{Opcode}
use Rattle.ir_words.specs.declared.opcode.Opcode.TheVariants as opcode
use Rattle.ir_words.specs.declared.opcode.Act.{Act}
use Rattle.ir_words.specs.declared.opcode.Act.TheVariants as act
use Rattle.ir_words.specs.declared.kinds.Kind.{Kind}
use Rattle.ir_words.specs.declared.flags.FlagSet.TheVariants.{Address}
use Rattle.ir_words.specs.declared.kinds.Kind.TheVariants as kind
use Rattle.ir_draft.specs.declared.line.Line.{Line}
use Rattle.ir_draft.specs.declared.written.Arg.{Arg}
use Rattle.ir_lex.specs.Bytes.{begins_name}
use Rattle.ir_words.specs.Values.{width_of, decimal_of, bits_number, local_of, label_of, opcode_word, opcodes, opcode_of, act_word, acts, act_of, preds, pred_of}
use Rattle.ir_words.specs.Words.{Words, one, expect, is_first}
use Rattle.ir_forms.specs.Operands.{labelled_at, next_typed_at, target_at, case_at}
use Rattle.ir_forms.specs.Pieces as pieces
use Rattle.ir_forms.specs.Pieces.{Piece, Value, Takes, Says, Led, SpellsTy, SpellsKind, SpellsTyped, Word, Name, Labelled, Code, ActCode, Comparison, Flags, OfKind, Bare, Other, Typed, Also, Aligned, Element, Mask, Target, AlsoTarget, Case, Pairs}
use Rattle.ir_forms.specs.Grammar.{Grammar, Done, Then, Or, read, read_piece, ends}
use Rattle.ir_forms.specs.Forms as forms
use Rattle.ir_forms.specs.Forms.{Form, Slot, slot, word, slots, Spell, line_of, form, value_line, by_code, binary, compare, convert, select, extract, insert, shuffle, step, stepped, load, allocate, phi, plain_line, act_line, by_act, store, returns, return_value, jump, branch, switch, choices, choice}
use Rattle.ir_forms.proofs.Steps.{nothing, some_is, bind_then, choose_then, expect_is, expects, one_says, says_one, apart, by_word_is}
use Rattle.ir_forms.proofs.FlagWords.{flags_taken, flags_takes}
use Rattle.ir_forms.proofs.Parts.{ty_not, kind_taken, kind_takes, operand_taken, operand_takes, typed_taken, typed_takes, no_local}
use Rattle.ir_forms.proofs.Places.{next_operand_taken, next_operand_takes, next_typed_taken, next_typed_takes, aligned_taken, aligned_takes, elem_taken, elem_takes, mask_taken, mask_takes, target_taken, target_takes, next_target_taken, next_target_takes, labelled_taken, labelled_takes, pairs_taken, pairs_takes, no_colon, no_close, no_void, no_label}

opcode_again : (op : Opcode) → opcode_of (opcode_word op) ≡ Some op
unfolding opcode_of
opcode_again (opcode.Bin bin.Add) = refl
opcode_again (opcode.Bin bin.Sub) = refl
opcode_again (opcode.Bin bin.Mul) = refl
opcode_again (opcode.Bin bin.Shl) = refl
opcode_again (opcode.Bin bin.Udiv) = refl
opcode_again (opcode.Bin bin.Sdiv) = refl
opcode_again (opcode.Bin bin.Urem) = refl
opcode_again (opcode.Bin bin.Srem) = refl
opcode_again (opcode.Bin bin.Lshr) = refl
opcode_again (opcode.Bin bin.Ashr) = refl
opcode_again (opcode.Bin bin.And) = refl
opcode_again (opcode.Bin bin.Or) = refl
opcode_again (opcode.Bin bin.Xor) = refl
opcode_again (opcode.Cast cast.Zext) = refl
opcode_again (opcode.Cast cast.Sext) = refl
opcode_again (opcode.Cast cast.Trunc) = refl
opcode_again opcode.Icmp = refl
opcode_again opcode.Select = refl
opcode_again opcode.Extract = refl
opcode_again opcode.Insert = refl
opcode_again opcode.Shuffle = refl
opcode_again opcode.Gep = refl
opcode_again opcode.Load = refl
opcode_again opcode.Alloca = refl
opcode_again opcode.Phi = refl

act_again : (a : Act) → act_of (act_word a) ≡ Some a
unfolding act_of
act_again act.Store = refl
act_again act.Ret = refl
act_again act.Br = refl
act_again act.Switch = refl
act_again act.Unreachable = refl

pred_again : (p : Pred) → pred_of (pred_word p) ≡ Some p
unfolding pred_of
pred_again pred.Eq = refl
pred_again pred.Ne = refl
pred_again pred.Ugt = refl
pred_again pred.Uge = refl
pred_again pred.Ult = refl
pred_again pred.Ule = refl
pred_again pred.Sgt = refl
pred_again pred.Sge = refl
pred_again pred.Slt = refl
pred_again pred.Sle = refl

-- a part that is read is spelled so
taken : (p : Piece) (ts : Words) (x : Value p × Words) → read_piece p ts ≡ Some x → Takes p x.0 ts x.1
unfolding opcode_of act_of pred_of case_at
taken (Word v) ts x e = bind_then (expect v ts) _ x e (λ rest er r. subst (λ (z : Unit {0} × Words). ts ≡ v ∷ z.1) (some_is r) (expect_is v ts rest er))
taken Name ts x e = one_says local_of ts x e
taken Labelled ts x e = labelled_taken ts x e
taken Code ts x e =
    let s : Says opcode_of x.0 ts x.1 = one_says opcode_of ts x e in
    s.first ∙ ap (λ (w : List ℕ). w ∷ x.1) (by_word_is opcode_word opcodes s.word x.0 s.says)
taken ActCode ts x e =
    let s : Says act_of x.0 ts x.1 = one_says act_of ts x e in
    s.first ∙ ap (λ (w : List ℕ). w ∷ x.1) (by_word_is act_word acts s.word x.0 s.says)
taken Comparison ts x e =
    let s : Says pred_of x.0 ts x.1 = one_says pred_of ts x e in
    s.first ∙ ap (λ (w : List ℕ). w ∷ x.1) (by_word_is pred_word preds s.word x.0 s.says)
taken (Flags set) ts x e = flags_taken set ts x e
taken (OfKind k) ts x e = kind_taken k ts x e
taken (Bare t) ts x e = operand_taken t ts x e
taken (Other t) ts x e = next_operand_taken t ts x e
taken (Typed k) ts x e = typed_taken k ts x e
taken (Also k) ts x e = next_typed_taken k ts x e
taken Aligned ts x e = aligned_taken ts x e
taken (Element k) ts x e = elem_taken k ts x e
taken (Mask t) ts x e = mask_taken t ts x e
taken Target ts x e = target_taken ts x e
taken AlsoTarget ts x e = next_target_taken ts x e
taken (Case t) ts x e = one_says (bits_number (lane_width t)) ts x e
taken (Pairs t) ts x e = pairs_taken t ts x e

-- a part that is spelled so is read
takes : (p : Piece) (v : Value p) (ts rest : Words) → Takes p v ts rest → read_piece p ts ≡ Some (v, rest)
unfolding case_at
takes (Word v) x ts rest e = rw (e, expects v rest) refl
takes Name v ts rest s = says_one local_of v ts rest s
takes Labelled v ts rest s = labelled_takes v ts rest s
takes Code v ts rest e = rw (e, opcode_again v) refl
takes ActCode v ts rest e = rw (e, act_again v) refl
takes Comparison v ts rest e = rw (e, pred_again v) refl
takes (Flags set) v ts rest s = flags_takes set v ts rest s
takes (OfKind k) v ts rest s = kind_takes k v ts rest s
takes (Bare t) v ts rest s = operand_takes s
takes (Other t) v ts rest s = next_operand_takes t v ts rest s
takes (Typed k) v ts rest s = typed_takes k v ts rest s
takes (Also k) v ts rest s = next_typed_takes k v ts rest s
takes Aligned v ts rest s = aligned_takes s
takes (Element k) v ts rest s = elem_takes s
takes (Mask t) v ts rest s = mask_takes s
takes Target v ts rest s = target_takes v ts rest s
takes AlsoTarget v ts rest s = next_target_takes v ts rest s
takes (Case t) v ts rest s = says_one (bits_number (lane_width t)) v ts rest s
takes (Pairs t) v ts rest s = pairs_takes t v ts rest s

-- whatever a tree reads, the form's parts are those that were read
Matches : Grammar Form → (List Slot → List Slot) → Type 0
Matches (Done f) front = slots f ≡ front []
Matches (Then p k) front = (v : Value p) → Matches (k v) (λ l. front (slot p v ∷ l))
Matches (Or p k g) front = ((v : Value p) → Matches (k v) (λ l. front (slot p v ∷ l))) × Matches g front

-- what was read of a form, from some part on
record Found {A : Type 0} (view : Form → A) (front : List Slot → List Slot) (ts : Words) (y : A) : Type 0 where
  form : Form
  shown : y ≡ view form
  parts : List Slot
  whole : slots form ≡ front parts
  spelled : Spell parts ts

ends_is : {A P : Type 0} (a y : A) (ts : Words) → ends a ts ≡ Some y → (ts ≡ [] → a ≡ y → P) → P
ends_is a y [] e k = k refl (some_is e)
ends_is a y (t ∷ ts) e k = nothing e

sound : {A : Type 0} (view : Form → A) (g : Grammar Form) (front : List Slot → List Slot) (ts : Words) (y : A) → Matches g front → read view g ts ≡ Some y → Found view front ts y
unfolding Matches
sound view (Done f) front ts y m e = ends_is (view f) y ts e (λ empty same. record { form = f; shown = sym same; parts = []; whole = m; spelled = empty })
sound view (Then p k) front ts y m e =
    bind_then (read_piece p ts) _ y e (λ x ex r.
    let more : Found view (λ l. front (slot p x.0 ∷ l)) x.1 y = sound view (k x.0) (λ l. front (slot p x.0 ∷ l)) x.1 y (m x.0) r in
    record { form = more.form; shown = more.shown; parts = slot p x.0 ∷ more.parts; whole = more.whole; spelled = (x.1, taken p ts x ex, more.spelled) })
sound view (Or p k g) front ts y m e =
    choose_then (read_piece p ts) _ _ y e
    (λ x ex r.
    let more : Found view (λ l. front (slot p x.0 ∷ l)) x.1 y = sound view (k x.0) (λ l. front (slot p x.0 ∷ l)) x.1 y (m.0 x.0) r in
    record { form = more.form; shown = more.shown; parts = slot p x.0 ∷ more.parts; whole = more.whole; spelled = (x.1, taken p ts x ex, more.spelled) })
    (λ _ r. sound view g front ts y m.1 r)

-- no spelling of these parts begins with the part p
record Skips (p : Piece) (l : List Slot) : Type 0 where
  skips : (ts : Words) → Spell l ts → read_piece p ts ≡ None

-- a tree comes to a form by its parts
Reaches : Grammar Form → Form → List Slot → Type 0
Reaches (Done g) f l = (g ≡ f) × (l ≡ [])
Reaches (Then p k) f l = (v : Value p) × (rest : List Slot) × (l ≡ slot p v ∷ rest) × Reaches (k v) f rest
Reaches (Or p k g) f l = ((v : Value p) × (rest : List Slot) × (l ≡ slot p v ∷ rest) × Reaches (k v) f rest) ⊎ (Skips p l × Reaches g f l)

complete : {A : Type 0} (view : Form → A) (g : Grammar Form) (f : Form) (l : List Slot) (ts : Words) → Reaches g f l → Spell l ts → read view g ts ≡ Some (view f)
unfolding Reaches
complete view (Done g) f l ts r s =
    let empty : ts ≡ [] = subst (λ (x : List Slot). Spell x ts) r.1 s in
    rw empty (ap (λ (x : Form). Some (view x)) r.0)
complete view (Then p k) f l ts r s =
    let first : Spell (slot p r.0 ∷ r.1) ts = subst (λ (x : List Slot). Spell x ts) r.2 s in
    rw (takes p r.0 ts first.0 first.1) (complete view (k r.0) f r.1 first.0 r.3 first.2)
complete view (Or p k g) f l ts (inl r) s =
    let first : Spell (slot p r.0 ∷ r.1) ts = subst (λ (x : List Slot). Spell x ts) r.2 s in
    rw (takes p r.0 ts first.0 first.1) (complete view (k r.0) f r.1 first.0 r.3 first.2)
complete view (Or p k g) f l ts (inr r) s = rw (r.0.skips ts s) (complete view g f l ts r.1 s)

-- the forms' parts are those that are read

matches_stepped : (x : List ℕ) (fs : Words) (e : Elem) (p i : Arg) → Matches (stepped x fs e p i) (λ l. slot Name x ∷ word (codes "=") ∷ slot Code opcode.Gep ∷ slot (Flags Address) fs ∷ slot (Element kind.Byte) e ∷ slot (Also kind.Pointer) p ∷ slot (Also kind.Integer) i ∷ l)
unfolding Matches stepped
matches_stepped x fs (One t) p i = refl
matches_stepped x fs (Array n w) p i = (λ j. refl, refl)

matches_code : (x : List ℕ) (op : Opcode) → Matches (by_code x op) (λ l. slot Name x ∷ word (codes "=") ∷ slot Code op ∷ l)
unfolding Matches by_code binary compare convert select extract insert shuffle step load allocate phi
matches_code x (opcode.Bin op) = λ fs t a b. refl
matches_code x (opcode.Cast op) = λ fs a to u. refl
matches_code x opcode.Icmp = λ fs p t a b. refl
matches_code x opcode.Select = λ c a b. refl
matches_code x opcode.Extract = λ a i. refl
matches_code x opcode.Insert = λ a b i. refl
matches_code x opcode.Shuffle = λ a b m. refl
matches_code x opcode.Gep = λ fs e p i. matches_stepped x fs e p i
matches_code x opcode.Load = λ t p n. refl
matches_code x opcode.Alloca = λ e n. refl
matches_code x opcode.Phi = λ t i. refl

matches_act : (a : Act) → Matches (by_act a) (λ l. slot ActCode a ∷ l)
unfolding Matches by_act store returns return_value jump branch switch
matches_act act.Store = λ a p n. refl
matches_act act.Ret = (λ v. refl, λ a. refl)
matches_act act.Br = (λ b. refl, λ c a b. refl)
matches_act act.Switch = λ a d o. refl
matches_act act.Unreachable = refl

matches_form : Matches form (λ l. l)
unfolding Matches form value_line plain_line act_line choices choice
matches_form = (λ x e op. matches_code x op, (λ name. refl, (λ a. matches_act a, (λ v. refl, λ t n b. refl))))

-- what no form but the one begins with

first_expect : (v : List ℕ) (ts : Words) → is_first v ts ≡ false → expect v ts ≡ None
first_expect v [] h = refl
first_expect v (t ∷ ts) h = rw h refl

width_percent : (bs : List ℕ) → width_of (37 ∷ bs) ≡ None
unfolding width_of
width_percent bs = refl

ty_no_local : {t : Ty} {ts rest : Words} → SpellsTy t ts rest → one local_of ts ≡ None
unfolding local_of
ty_no_local (pieces.Integer w word rest h) =
    let none : local_of word ≡ None = no_local (λ x. width_of x ≡ Some w) word (λ bs e. nothing (sym (width_percent bs) ∙ e)) h in rw none refl
ty_no_local (pieces.Pointer rest) = refl
ty_no_local (pieces.Vector n w count word rest hn hw row) = refl

number_colon : number_of (codes ":") ≡ None
unfolding number_of one_more
number_colon = refl

ty_no_labelled : {t : Ty} {ts rest : Words} → SpellsTy t ts rest → is_first (codes ":") rest ≡ false → labelled_at ts ≡ None
unfolding labelled_at
ty_no_labelled (pieces.Integer w word rest h) other = rw other refl
ty_no_labelled (pieces.Pointer rest) other = rw other refl
ty_no_labelled (pieces.Vector n w count word rest hn hw row) other = rw (apart number_of (codes ":") count n number_colon hn) refl

width_act : (a : Act) → width_of (act_word a) ≡ None
unfolding width_of
width_act act.Store = refl
width_act act.Ret = refl
width_act act.Br = refl
width_act act.Switch = refl
width_act act.Unreachable = refl

width_no_act : (word : List ℕ) (w : ℕ) → width_of word ≡ Some w → act_of word ≡ None
unfolding act_of
width_no_act word w h = here (act_of word) refl where
  here : (o : Option Act) → act_of word ≡ o → o ≡ None
  here None e = refl
  here (Some a) e = nothing (sym (width_act a) ∙ ap width_of (sym (by_word_is act_word acts word a e)) ∙ h)

ty_no_act : {t : Ty} {ts rest : Words} → SpellsTy t ts rest → one act_of ts ≡ None
unfolding act_of
ty_no_act (pieces.Integer w word rest h) = let none : act_of word ≡ None = width_no_act word w h in rw none refl
ty_no_act (pieces.Pointer rest) = refl
ty_no_act (pieces.Vector n w count word rest hn hw row) = refl

act_no_local : (a : Act) → local_of (act_word a) ≡ None
unfolding local_of
act_no_local act.Store = refl
act_no_local act.Ret = refl
act_no_local act.Br = refl
act_no_local act.Switch = refl
act_no_local act.Unreachable = refl

act_no_name : (a : Act) (l : List Slot) → Skips Name (slot ActCode a ∷ l)
act_no_name a l = record { skips = λ ts s. rw (s.1, act_no_local a) refl }

label_percent : (bs : List ℕ) → label_of (37 ∷ bs) ≡ None
unfolding label_of begins_name
label_percent bs = refl

label_no_name : (name : List ℕ) → Skips Name (slot Labelled name ∷ [])
label_no_name name = record { skips = λ ts s. let none : local_of s.1.word ≡ None = no_local (λ x. label_of x ≡ Some name) s.1.word (λ bs e. nothing (sym (label_percent bs) ∙ e)) s.1.says in rw (s.1.first, none) refl }

kind_no_name : (k : Kind) (t : Ty) (l : List Slot) → Skips Name (slot (OfKind k) t ∷ l)
kind_no_name k t l = record { skips = λ ts s. ty_no_local s.1.spelled }

close_no_name : Skips Name (word (codes "]") ∷ [])
unfolding local_of
close_no_name = record { skips = λ ts s. rw s.1 refl }

-- after the keyword of an operation without a result there is no colon
colon_not : (t : List ℕ) (ts rest : Words) → ts ≡ t ∷ rest → is_first (codes ":") rest ≡ false → labelled_at ts ≡ None
unfolding labelled_at
colon_not t ts rest e h = rw (e, h) refl

typed_no_label : (a : Act) (k : Kind) (x : Arg) (l : List Slot) → Skips Labelled (slot ActCode a ∷ slot (Typed k) x ∷ l)
typed_no_label a k x l = record { skips = λ ts s. colon_not _ ts s.0 s.1 (ty_not (codes ":") no_colon s.2.1.type.spelled) }

word_no_label : (a : Act) (l : List Slot) → Skips Labelled (slot ActCode a ∷ word (codes "void") ∷ l)
word_no_label a l = record { skips = λ ts s. let h : is_first (codes ":") s.0 ≡ false = rw s.2.1 refl in colon_not _ ts s.0 s.1 h }

target_no_label : (a : Act) (b : List ℕ) (l : List Slot) → Skips Labelled (slot ActCode a ∷ slot Target b ∷ l)
target_no_label a b l = record { skips = λ ts s. let h : is_first (codes ":") s.0 ≡ false = rw s.2.1.first refl in colon_not _ ts s.0 s.1 h }

end_no_label : (a : Act) → Skips Labelled (slot ActCode a ∷ [])
end_no_label a = record { skips = λ ts s. let h : is_first (codes ":") s.0 ≡ false = rw s.2 refl in colon_not _ ts s.0 s.1 h }

bits_colon : (w : ℕ) → bits_number w (codes ":") ≡ None
unfolding bits_number decimal_of number_of one_more
bits_colon w = refl

case_no_label : (k : Kind) (t : Ty) (n : ℕ) (l : List Slot) → Skips Labelled (slot (OfKind k) t ∷ slot (Case t) n ∷ l)
case_no_label k t n l = record {
  skips = λ ts s.
      let h : is_first (codes ":") s.0 ≡ false = rw s.2.1.first (apart (bits_number (lane_width t)) (codes ":") s.2.1.word n (bits_colon (lane_width t)) s.2.1.says) in
      ty_no_labelled s.1.spelled h;
}

close_no_label : Skips Labelled (word (codes "]") ∷ [])
close_no_label = record { skips = λ ts s. let h : is_first (codes ":") s.0 ≡ false = rw s.2 refl in colon_not _ ts s.0 s.1 h }

kind_no_act : (k : Kind) (t : Ty) (l : List Slot) → Skips ActCode (slot (OfKind k) t ∷ l)
kind_no_act k t l = record { skips = λ ts s. ty_no_act s.1.spelled }

close_no_act : Skips ActCode (word (codes "]") ∷ [])
unfolding act_of
close_no_act = record { skips = λ ts s. rw s.1 refl }

kind_no_close : (k : Kind) (t : Ty) (l : List Slot) → Skips (Word (codes "]")) (slot (OfKind k) t ∷ l)
kind_no_close k t l = record { skips = λ ts s. rw (first_expect (codes "]") ts (ty_not (codes "]") no_close s.1.spelled)) refl }

typed_no_void : (k : Kind) (a : Arg) (l : List Slot) → Skips (Word (codes "void")) (slot (Typed k) a ∷ l)
typed_no_void k a l = record { skips = λ ts s. rw (first_expect (codes "void") ts (ty_not (codes "void") no_void s.1.type.spelled)) refl }

typed_no_target : (k : Kind) (a : Arg) (l : List Slot) → Skips Target (slot (Typed k) a ∷ l)
unfolding target_at
typed_no_target k a l = record { skips = λ ts s. rw (first_expect (codes "label") ts (ty_not (codes "label") no_label s.1.type.spelled)) refl }

end_no_also : (k : Kind) → Skips (Also k) []
unfolding next_typed_at
end_no_also k = record { skips = λ ts s. rw s refl }

reaches_step : (x : List ℕ) (fs : Words) (e : Elem) (p i : Arg) → Reaches (stepped x fs e p i) (forms.Step x fs e p i) []
unfolding Reaches stepped
reaches_step x fs (One t) p i = (refl, refl)
reaches_step x fs (Array n w) p i = inr (end_no_also kind.Integer, (refl, refl))

-- each form is reached by its parts
reaches : (f : Form) → Reaches form f (slots f)
unfolding Reaches form value_line by_code binary compare convert select extract insert shuffle step stepped load allocate phi plain_line act_line by_act store returns return_value jump branch switch choices choice
reaches (forms.Label name) = inr (label_no_name name, inl (name, _, refl, (refl, refl)))
reaches (forms.Choice t n b) = inr (kind_no_name kind.Integer t _, inr (case_no_label kind.Integer t n _, inr (kind_no_act kind.Integer t _, inr (kind_no_close kind.Integer t _, (t, _, refl, (n, _, refl, (b, _, refl, (refl, refl))))))))
reaches forms.ChoicesEnd = inr (close_no_name, inr (close_no_label, inr (close_no_act, inl (tt, _, refl, (refl, refl)))))
reaches (forms.Binary x op fs t a b) = inl (x, _, refl, (tt, _, refl, (opcode.Bin op, _, refl, (fs, _, refl, (t, _, refl, (a, _, refl, (b, _, refl, (refl, refl))))))))
reaches (forms.Compare x fs p t a b) = inl (x, _, refl, (tt, _, refl, (opcode.Icmp, _, refl, (fs, _, refl, (p, _, refl, (t, _, refl, (a, _, refl, (b, _, refl, (refl, refl)))))))))
reaches (forms.Convert x op fs a u) = inl (x, _, refl, (tt, _, refl, (opcode.Cast op, _, refl, (fs, _, refl, (a, _, refl, (tt, _, refl, (u, _, refl, (refl, refl))))))))
reaches (forms.Select x c a b) = inl (x, _, refl, (tt, _, refl, (opcode.Select, _, refl, (c, _, refl, (a, _, refl, (b, _, refl, (refl, refl)))))))
reaches (forms.Extract x a i) = inl (x, _, refl, (tt, _, refl, (opcode.Extract, _, refl, (a, _, refl, (i, _, refl, (refl, refl))))))
reaches (forms.Insert x a b i) = inl (x, _, refl, (tt, _, refl, (opcode.Insert, _, refl, (a, _, refl, (b, _, refl, (i, _, refl, (refl, refl)))))))
reaches (forms.Shuffle x a b m) = inl (x, _, refl, (tt, _, refl, (opcode.Shuffle, _, refl, (a, _, refl, (b, _, refl, (m, _, refl, (refl, refl)))))))
reaches (forms.Step x fs e p i) = inl (x, _, refl, (tt, _, refl, (opcode.Gep, _, refl, (fs, _, refl, (e, _, refl, (p, _, refl, (i, _, refl, reaches_step x fs e p i)))))))
reaches (forms.StepInto x fs n w p i j) = inl (x, _, refl, (tt, _, refl, (opcode.Gep, _, refl, (fs, _, refl, (Array n w, _, refl, (p, _, refl, (i, _, refl, inl (j, _, refl, (refl, refl)))))))))
reaches (forms.Load x t p n) = inl (x, _, refl, (tt, _, refl, (opcode.Load, _, refl, (t, _, refl, (p, _, refl, (n, _, refl, (refl, refl)))))))
reaches (forms.Allocate x e n) = inl (x, _, refl, (tt, _, refl, (opcode.Alloca, _, refl, (e, _, refl, (n, _, refl, (refl, refl))))))
reaches (forms.Phi x t i) = inl (x, _, refl, (tt, _, refl, (opcode.Phi, _, refl, (t, _, refl, (i, _, refl, (refl, refl))))))
reaches (forms.Store a p n) = inr (act_no_name act.Store _, inr (typed_no_label act.Store kind.Stored a _, inl (act.Store, _, refl, (a, _, refl, (p, _, refl, (n, _, refl, (refl, refl)))))))
reaches forms.Return = inr (act_no_name act.Ret _, inr (word_no_label act.Ret _, inl (act.Ret, _, refl, inl (tt, _, refl, (refl, refl)))))
reaches (forms.ReturnValue a) = inr (act_no_name act.Ret _, inr (typed_no_label act.Ret kind.Value a _, inl (act.Ret, _, refl, inr (typed_no_void kind.Value a _, (a, _, refl, (refl, refl))))))
reaches (forms.Jump b) = inr (act_no_name act.Br _, inr (target_no_label act.Br b _, inl (act.Br, _, refl, inl (b, _, refl, (refl, refl)))))
reaches (forms.Branch c a b) = inr (act_no_name act.Br _, inr (typed_no_label act.Br kind.Bit c _, inl (act.Br, _, refl, inr (typed_no_target kind.Bit c _, (c, _, refl, (a, _, refl, (b, _, refl, (refl, refl))))))))
reaches (forms.Switch a d) = inr (act_no_name act.Switch _, inr (typed_no_label act.Switch kind.Integer a _, inl (act.Switch, _, refl, (a, _, refl, (d, _, refl, (tt, _, refl, (refl, refl)))))))
reaches forms.Unreachable = inr (act_no_name act.Unreachable _, inr (end_no_label act.Unreachable, inl (act.Unreachable, _, refl, (refl, refl))))

-- what is read is spelled by a form
pub form_spelled : (ts : Words) (l : Line) → read line_of form ts ≡ Some l → (f : Form) × (l ≡ line_of f) × Spell (slots f) ts
form_spelled ts l e =
    let found : Found line_of (λ x. x) ts l = sound line_of form (λ x. x) ts l matches_form e in
    (found.form, found.shown, subst (λ (x : List Slot). Spell x ts) (sym found.whole) found.spelled)

-- what a form spells is read as that form
pub form_read : (f : Form) (ts : Words) → Spell (slots f) ts → read line_of form ts ≡ Some (line_of f)
form_read f ts s = complete line_of form f (slots f) ts (reaches f) s
