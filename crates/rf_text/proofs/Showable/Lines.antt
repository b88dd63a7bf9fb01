-- What a line inside a function that is read has for names, results and literals, unless it is a call.
use Rattle.std.proofs.Common.{◌≡◌, ℕ, ◌⊎◌, inl, inr, Bool, true, false, cond, not, ◌&&◌, ◌==◌, arith, List, [], ◌∷◌, Option, Some, None, refl, sym, ◌∙◌, ap, subst}
use Rattle.std.proofs.lemmas.Bool.Decides.{nat_tests}
use Rattle.std.proofs.lemmas.List.{append-nil}
use Rattle.std.proofs.lemmas.List.Elements.{All-nil, All-cons}
use Rattle.std.specs.Char.{is_ascii_digit}
use Rattle.std.specs.List.{All, list_all}
use Rattle.vx_digits.specs.Optional.{when}
use Rattle.ir_lex.specs.Bytes.{quote, begins_name, is_word_byte, is_digit, is_sigil, is_mark}
use Rattle.ir_lex.specs.Scan.{cut, fault_of}
use Rattle.ir_lex.specs.Tokens.{IsToken, Name, QuotedName, Unnamed, Text, Mark, Run, Single, is_name}
use Rattle.ir_lex.specs.Words.{words}
use Rattle.ir_lex.proofs.Classes.{both}
use Rattle.ir_lex.proofs.Standing.{AreWords}
use Rattle.ir_types.specs.declared.ty.Ty.{Ty}
use Rattle.ir_types.specs.declared.ty.Ty.TheVariants.{Void, Int, Ptr, Row}
use Rattle.ir_types.specs.declared.op.Op.{Op}
use Rattle.ir_types.specs.declared.op.Op.TheVariants as ops
use Rattle.ir_types.specs.Typed.{is_number, is_value, is_vector, is_stored, with_width}
use Rattle.ir_draft.specs.declared.written.Arg.{Arg}
use Rattle.ir_draft.specs.declared.stmt.Stmt.{Stmt}
use Rattle.ir_draft.specs.declared.line.Line.{Line}
use Rattle.ir_draft.specs.declared.line.Line.TheVariants as lines
use Rattle.ir_words.specs.Values.{local_of, label_of, plain_number}
use Rattle.ir_words.specs.Words.{Words}
use Rattle.ir_forms.specs.Pieces.{Says}
use Rattle.ir_forms.specs.Forms.{Form, Label, Choice, ChoicesEnd, Binary, Compare, Convert, Select, Extract, Insert, Shuffle, Step, StepInto, Load, Allocate, Phi, Store, Return, ReturnValue, Jump, Branch, Switch, Unreachable, slots, Spell, line_of, arg}
use Rattle.ir_line.specs.Body.{Spells, NoWord, Brace, Formed, Called, attachment_at, unattached}
use Rattle.ir_line.specs.Sound.{IsSoundOp, IsSound, IsCallLine, IsCallOp, IsSoundLine, written_types}
use Rattle.ir_line.proofs.BodyLines.{body_spelled}
use Rattle.ir_forms.proofs.PoisonPointers.{PoisonArg, operand, other, pairs_poison}
use Rattle.ir_line.proofs.SoundLines.{call_is, sound_line}
use Rattle.ir_forms.proofs.Steps.{nothing, some_is}
use Rattle.ir_print.specs.Names.{is_store, is_void}
use Rattle.ir_read.specs.Forms.{form_in, form_by}
use Rattle.rf_text.specs.Headed.{is_local_name, is_written}
use Rattle.rf_text.specs.Shown.{is_call}
use Rattle.rf_text.proofs.Kept.Lines.{formed}
use Rattle.rf_text.proofs.Heads.Found.{TokenRun, run_take, run_words, words_front, local_name, name_local, number_local}

-- ---- names

first_word : (w : List ℕ) (rest ts : Words) → ts ≡ w ∷ rest → AreWords ts → AreWords (w ∷ [])
first_word w rest ts e h = words_front (w ∷ []) rest (subst AreWords e h)

result_named : (name : List ℕ) (ts rest : Words) → AreWords ts → Says local_of name ts rest → is_written (Some name) ≡ true
result_named name ts rest h s = local_name s.word name (first_word s.word rest ts s.first h) s.says

all_digits : (bs : List ℕ) → list_all is_ascii_digit bs ≡ true → list_all is_digit bs ≡ true
unfolding is_digit
all_digits [] h = h
all_digits (b ∷ bs) h = rw ((both (is_ascii_digit b) _ h).0) (all_digits bs (both (is_ascii_digit b) _ h).1)

-- a token that begins as a name does is a name
no_sigil : (b : ℕ) → begins_name b ≡ true → is_sigil b ≡ true → ⊥
unfolding begins_name is_sigil
no_sigil b h s = grind (arith, nat_tests)

no_mark : (b : ℕ) → begins_name b ≡ true → is_mark b ≡ true → ⊥
unfolding begins_name is_mark
no_mark b h s = grind (arith, nat_tests)

no_quote : (b : ℕ) → begins_name b ≡ true → b == 34 ≡ true → ⊥
unfolding begins_name
no_quote b h s = grind (arith, nat_tests)

no_percent : (b : ℕ) → begins_name b ≡ true → b ≡ 37 → ⊥
unfolding begins_name
no_percent b h s = grind (arith, nat_tests)

name_token : (b : ℕ) (bs : List ℕ) → IsToken b bs → begins_name b ≡ true → is_name (b ∷ bs) ≡ true
name_token b bs (Name s n) h = absurd (no_sigil b h s)
name_token b bs (QuotedName s t) h = absurd (no_sigil b h s)
name_token b bs (Unnamed e n) h = absurd (no_percent b h e)
name_token b bs (Text t) h = absurd (no_quote b h (both (b == quote) _ t).0)
name_token b bs (Mark t n) h = absurd (no_mark b h t)
name_token b bs (Run t) h = rw h (both (is_word_byte b) _ t).1
name_token b bs (Single e) h = rw (h, e) refl

label_named : (name : List ℕ) (ts rest : Words) → AreWords ts → Says label_of name ts rest → is_local_name name ≡ true
unfolding label_of is_digit
label_named name ts rest h s = here s.word (first_word s.word rest ts s.first h) s.says where
  here : (w : List ℕ) → AreWords (w ∷ []) → label_of w ≡ Some name → is_local_name name ≡ true
  here [] a e = nothing e
  here (b ∷ bs) a e = kind (begins_name b) refl e where
    kind : (t : Bool) → begins_name b ≡ t → cond t (Some (b ∷ bs)) (when (list_all is_ascii_digit (b ∷ bs)) (plain_number (b ∷ bs))) ≡ Some name → is_local_name name ≡ true
    kind true s e = subst (λ x. is_local_name x ≡ true) (some_is e) (name_local (b ∷ bs) (name_token b bs a.0 s))
    kind false s e = digits (list_all is_ascii_digit (b ∷ bs)) refl e where
      digits : (t : Bool) → list_all is_ascii_digit (b ∷ bs) ≡ t → when t (plain_number (b ∷ bs)) ≡ Some name → is_local_name name ≡ true
      digits true d e = subst (λ x. is_local_name x ≡ true) (some_is e) (number_local b bs (all_digits (b ∷ bs) d))
      digits false d e = nothing e

-- ---- operands

none : All PoisonArg []
none = All-nil PoisonArg

one : (a : Arg) → PoisonArg a → All PoisonArg (a ∷ [])
one a p = All-cons PoisonArg a [] p none

two : (a b : Arg) → PoisonArg a → PoisonArg b → All PoisonArg (a ∷ b ∷ [])
two a b p q = All-cons PoisonArg a (b ∷ []) p (one b q)

three : (a b c : Arg) → PoisonArg a → PoisonArg b → PoisonArg c → All PoisonArg (a ∷ b ∷ c ∷ [])
three a b c p q r = All-cons PoisonArg a (b ∷ c ∷ []) p (two b c q r)

-- ---- forms

-- whether an operation has a result, calls aside
abbrev pub has_result : Op → Bool
has_result (ops.Store align) = false
has_result ops.Ret = false
has_result (ops.Br to) = false
has_result (ops.CondBr first second) = false
has_result (ops.Switch other cases to) = false
has_result ops.Unreachable = false
has_result _ = true

pub record IsPlainStmt (s : Stmt) : Type 0 where
  pub named : is_written s.result ≡ true
  pub silent : has_result s.op ≡ false → s.result ≡ None
  pub poison : All PoisonArg s.args

abbrev pub IsPlainForm : Line → Type 0
IsPlainForm (lines.Label name) = is_local_name name ≡ true
IsPlainForm (lines.Stmt s) = IsPlainStmt s
IsPlainForm _ = Unit {0}

pub no : {P : Type 0} → true ≡ false → P
no e = cc

plain_form : (f : Form) (ts : Words) → AreWords ts → Spell (slots f) ts → IsPlainForm (line_of f)
plain_form (Label name) ts w h = label_named name ts _ w h.1
plain_form (Choice t n b) ts w h = tt
plain_form ChoicesEnd ts w h = tt
plain_form (Binary x op fs t a b) ts w h = record { named = result_named x ts h.0 w h.1; silent = no; poison = two (arg t a) (arg t b) (operand h.2.2.2.2.2.1) (other _ h.2.2.2.2.2.2.1) }
plain_form (Compare x fs p t a b) ts w h = record { named = result_named x ts h.0 w h.1; silent = no; poison = two (arg t a) (arg t b) (operand h.2.2.2.2.2.2.1) (other _ h.2.2.2.2.2.2.2.1) }
plain_form (Convert x op fs a u) ts w h = record { named = result_named x ts h.0 w h.1; silent = no; poison = one a (operand h.2.2.2.2.1.operand) }
plain_form (Select x c a b) ts w h = record { named = result_named x ts h.0 w h.1; silent = no; poison = three c a b (operand h.2.2.2.1.operand) (operand h.2.2.2.2.1.part.operand) (operand h.2.2.2.2.2.1.part.operand) }
plain_form (Extract x a i) ts w h = record { named = result_named x ts h.0 w h.1; silent = no; poison = two a i (operand h.2.2.2.1.operand) (operand h.2.2.2.2.1.part.operand) }
plain_form (Insert x a b i) ts w h = record { named = result_named x ts h.0 w h.1; silent = no; poison = three a b i (operand h.2.2.2.1.operand) (operand h.2.2.2.2.1.part.operand) (operand h.2.2.2.2.2.1.part.operand) }
plain_form (Shuffle x a b m) ts w h = record { named = result_named x ts h.0 w h.1; silent = no; poison = two a b (operand h.2.2.2.1.operand) (operand h.2.2.2.2.1.part.operand) }
plain_form (Step x fs e p i) ts w h = record { named = result_named x ts h.0 w h.1; silent = no; poison = two p i (operand h.2.2.2.2.2.1.part.operand) (operand h.2.2.2.2.2.2.1.part.operand) }
plain_form (StepInto x fs n v p i j) ts w h =
    record { named = result_named x ts h.0 w h.1; silent = no; poison = three p i j (operand h.2.2.2.2.2.1.part.operand) (operand h.2.2.2.2.2.2.1.part.operand) (operand h.2.2.2.2.2.2.2.1.part.operand) }
plain_form (Load x t p n) ts w h = record { named = result_named x ts h.0 w h.1; silent = no; poison = one p (operand h.2.2.2.2.1.part.operand) }
plain_form (Allocate x e n) ts w h = record { named = result_named x ts h.0 w h.1; silent = no; poison = none }
plain_form (Phi x t i) ts w h = record { named = result_named x ts h.0 w h.1; silent = no; poison = pairs_poison h.2.2.2.2.1 }
plain_form (Store a p n) ts w h = record { named = refl; silent = λ e. refl; poison = two a p (operand h.2.1.operand) (operand h.2.2.1.part.operand) }
plain_form Return ts w h = record { named = refl; silent = λ e. refl; poison = none }
plain_form (ReturnValue a) ts w h = record { named = refl; silent = λ e. refl; poison = one a (operand h.2.1.operand) }
plain_form (Jump b) ts w h = record { named = refl; silent = λ e. refl; poison = none }
plain_form (Branch c a b) ts w h = record { named = refl; silent = λ e. refl; poison = one c (operand h.2.1.operand) }
plain_form (Switch a d) ts w h = record { named = refl; silent = λ e. refl; poison = one a (operand h.2.1.operand) }
plain_form Unreachable ts w h = record { named = refl; silent = λ e. refl; poison = none }

-- ---- results

number_real : (t : Ty) → is_number t ≡ true → is_void t ≡ false
number_real Void h = cc
number_real t h = refl

value_real : (t : Ty) → is_value t ≡ true → is_void t ≡ false
value_real Void h = cc
value_real t h = refl

vector_real : (t : Ty) → is_vector t ≡ true → is_void t ≡ false
vector_real Void h = cc
vector_real t h = refl

truth_real : (u : Ty) → is_number u ≡ true → is_void (with_width 1 u) ≡ false
truth_real Void h = cc
truth_real (Int w) h = refl
truth_real Ptr h = refl
truth_real (Row n w) h = refl

stored_real : (t : Ty) → is_stored t ≡ true → is_void t ≡ false
stored_real Void h = cc
stored_real t h = refl

-- what has a result gives a value
pub result_real : (op : Op) (t : Ty) (tys : List (Option Ty)) → (IsCallOp op → ⊥) → has_result op ≡ true → IsSoundOp op t tys → is_void t ≡ false
result_real (ops.Bin op flags) t tys c r h = number_real t h.0
result_real (ops.Icmp pred) t tys c r h = ap is_void h.2 ∙ truth_real h.0 h.1
result_real (ops.Cast op nneg) t tys c r h = number_real t h.2
result_real ops.Select t tys c r h = value_real t h.1
result_real ops.Extract t tys c r h = ap is_void h.5
result_real ops.Insert t tys c r h = ap is_void h.5
result_real (ops.Shuffle mask) t tys c r h = vector_real t h.3
result_real (ops.Gep elem inbounds) t tys c r h = ap is_void h.3
result_real (ops.Load align) t tys c r h = stored_real t h.0
result_real (ops.Alloca elem align) t tys c r h = ap is_void h.2
result_real (ops.Phi blocks) t tys c r h = value_real t h.0
result_real (ops.Call site) t tys c r h = absurd (c tt)
result_real (ops.Store align) t tys c r h = cc
result_real ops.Ret t tys c r h = cc
result_real (ops.Br to) t tys c r h = cc
result_real (ops.CondBr first second) t tys c r h = cc
result_real (ops.Switch other cases to) t tys c r h = cc
result_real ops.Unreachable t tys c r h = cc

pub result_no_store : (op : Op) → has_result op ≡ true → is_store op ≡ false
result_no_store (ops.Store align) h = cc
result_no_store _ h = refl

-- what gives no value has no result
pub silent_result : (s : Stmt) → IsSound s → IsPlainStmt s → (IsCallOp s.op → ⊥) → not (is_void s.ty) && not (is_store s.op) ≡ false → s.result ≡ None
silent_result s sound plain uncalled e = here (has_result s.op) refl where
  here : (b : Bool) → has_result s.op ≡ b → s.result ≡ None
  here false r = plain.silent r
  here true r =
      let void : is_void s.ty ≡ false = result_real s.op s.ty (written_types s.args) uncalled r sound.typed in
      let store : is_store s.op ≡ false = result_no_store s.op r in
      no (sym (ap (λ b. not b && not (is_store s.op)) void ∙ ap not store) ∙ e)

pub uncalled_op : (op : Op) → (IsCallOp op → ⊥) → is_call op ≡ false
uncalled_op (ops.Call site) h = absurd (h tt)
uncalled_op _ h = refl

-- ---- lines

-- a line inside a function that is read, unless it is a call
pub record IsReadForm (form : Line) : Type 0 where
  pub sound : IsSoundLine form
  pub plain : IsCallLine form ⊎ IsPlainForm form

read_form : (l : List ℕ) (form : Line) → fault_of l ≡ None → Spells l (cut l) form → IsReadForm form
read_form l form sound s = record { sound = sound_line l (cut l) form s; plain = here s } where
  here : {form : Line} → Spells l (cut l) form → IsCallLine form ⊎ IsPlainForm form
  here (NoWord e) = inr tt
  here (Brace e) = inr tt
  here (Formed f ascii s) =
      let all : TokenRun l (cut l) = record { front = []; back = []; whole = sym (append-nil (cut l)); sound = sound; ascii = ascii } in
      inr (plain_form f _ (run_words (unattached l (cut l)) (run_take (attachment_at (words l (cut l))) (cut l) all)) s)
  here (Called l' ascii e) = inl (call_is l (unattached l (cut l)) l' e)

pub form_is_read : (l : List ℕ) (form : Line) → form_in true l ≡ Some form → IsReadForm form
unfolding form_by
form_is_read l form e =
    let f = formed true l form e in
    read_form l form f.sound (body_spelled l (cut l) form f.read)
