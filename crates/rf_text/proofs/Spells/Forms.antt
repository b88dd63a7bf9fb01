-- What a line inside a function that is read is like, unless it is a call: it has a result where it gives a value, and the blocks that
-- its operation names are the places of its labels in order.
use Rattle.std.proofs.Common.{◌≡◌, ℕ, ◌⊎◌, inl, inr, Bool, true, false, List, [], ◌∷◌, Option, Some, None, refl, sym, ◌∙◌, subst}
use Rattle.ir_lex.specs.Scan.{cut}
use Rattle.ir_types.specs.declared.op.Op.{Op}
use Rattle.ir_types.specs.declared.op.Op.TheVariants as ops
use Rattle.ir_draft.specs.declared.stmt.Stmt.{Stmt}
use Rattle.ir_draft.specs.declared.line.Line.{Line}
use Rattle.ir_draft.specs.declared.line.Line.TheVariants as lines
use Rattle.ir_forms.specs.Forms.{Form, Label, Choice, ChoicesEnd, Binary, Compare, Convert, Select, Extract, Insert, Shuffle, Step, StepInto, Load, Allocate, Phi, Store, Return, ReturnValue, Jump, Branch, Switch, Unreachable, line_of}
use Rattle.ir_line.specs.Body.{Spells, NoWord, Brace, Formed, Called, unattached}
use Rattle.ir_line.specs.Sound.{IsSound, IsSoundCase, IsCallOp, IsCallLine, written_types}
use Rattle.ir_line.proofs.BodyLines.{body_spelled}
use Rattle.ir_line.proofs.SoundLines.{call_is}
use Rattle.ir_line.proofs.WholeLines.{IsWhole, IsWholeLine, whole_line}
use Rattle.ir_print.specs.Names.{is_store, is_void}
use Rattle.ir_read.specs.Forms.{form_in, form_by}
use Rattle.rf_text.specs.Headed.{is_local_name}
use Rattle.rf_text.proofs.Kept.Lines.{formed}
use Rattle.rf_text.proofs.Showable.Lines.{has_result, result_real, result_no_store, no, IsPlainStmt, IsReadForm, form_is_read}

-- what a type and an operation say of the result
abbrev pub HasResult : Bool → Bool → Option (List ℕ) → Type 0
HasResult false false result = (name : List ℕ) × (result ≡ Some name)
HasResult _ _ result = result ≡ None

-- the blocks that an operation names are its labels in order, of which a branch has one or two; those of a phi are told elsewhere
abbrev pub HasLabels : Op → List (List ℕ) → Type 0
HasLabels (ops.Br to) labels = (to ≡ 0) × ((l : List ℕ) × (labels ≡ l ∷ []))
HasLabels (ops.CondBr first second) labels = (first ≡ 0) × (second ≡ 1) × ((l : List ℕ) × (k : List ℕ) × (labels ≡ l ∷ k ∷ []))
HasLabels (ops.Switch other cases to) labels = (other ≡ 0) × (cases ≡ []) × (to ≡ []) × ((l : List ℕ) × (labels ≡ l ∷ []))
HasLabels (ops.Phi places) labels = Unit {0}
HasLabels (ops.Call site) labels = Unit {0}
HasLabels _ labels = labels ≡ []

record IsGiven (s : Stmt) : Type 0 where
  named : has_result s.op ≡ true → (name : List ℕ) × (s.result ≡ Some name)
  void : has_result s.op ≡ false → is_store s.op ≡ false → is_void s.ty ≡ true
  labels : HasLabels s.op s.labels

abbrev IsGivenLine : Line → Type 0
IsGivenLine (lines.Stmt s) = IsGiven s
IsGivenLine _ = Unit {0}

not_so : {P : Type 0} → false ≡ true → P
not_so e = no (sym e)

given_form : (f : Form) → IsGivenLine (line_of f)
given_form (Label name) = tt
given_form (Choice t n b) = tt
given_form ChoicesEnd = tt
given_form (Binary x op fs t a b) = record { named = λ e. (x, refl); void = λ e f. no e; labels = refl }
given_form (Compare x fs p t a b) = record { named = λ e. (x, refl); void = λ e f. no e; labels = refl }
given_form (Convert x op fs a u) = record { named = λ e. (x, refl); void = λ e f. no e; labels = refl }
given_form (Select x c a b) = record { named = λ e. (x, refl); void = λ e f. no e; labels = refl }
given_form (Extract x a i) = record { named = λ e. (x, refl); void = λ e f. no e; labels = refl }
given_form (Insert x a b i) = record { named = λ e. (x, refl); void = λ e f. no e; labels = refl }
given_form (Shuffle x a b m) = record { named = λ e. (x, refl); void = λ e f. no e; labels = refl }
given_form (Step x fs e p i) = record { named = λ e. (x, refl); void = λ e f. no e; labels = refl }
given_form (StepInto x fs n v p i j) = record { named = λ e. (x, refl); void = λ e f. no e; labels = refl }
given_form (Load x t p n) = record { named = λ e. (x, refl); void = λ e f. no e; labels = refl }
given_form (Allocate x e n) = record { named = λ e. (x, refl); void = λ e f. no e; labels = refl }
given_form (Phi x t i) = record { named = λ e. (x, refl); void = λ e f. no e; labels = tt }
given_form (Store a p n) = record { named = λ e. not_so e; void = λ e f. no f; labels = refl }
given_form Return = record { named = λ e. not_so e; void = λ e f. refl; labels = refl }
given_form (ReturnValue a) = record { named = λ e. not_so e; void = λ e f. refl; labels = refl }
given_form (Jump b) = record { named = λ e. not_so e; void = λ e f. refl; labels = (refl, (b, refl)) }
given_form (Branch c a b) = record { named = λ e. not_so e; void = λ e f. refl; labels = (refl, refl, (a, b, refl)) }
given_form (Switch a d) = record { named = λ e. not_so e; void = λ e f. refl; labels = (refl, refl, refl, (d, refl)) }
given_form Unreachable = record { named = λ e. not_so e; void = λ e f. refl; labels = refl }

given_line : (l : List ℕ) (form : Line) → Spells l (cut l) form → IsCallLine form ⊎ IsGivenLine form
given_line l form s = here s where
  here : {form : Line} → Spells l (cut l) form → IsCallLine form ⊎ IsGivenLine form
  here (NoWord e) = inr tt
  here (Brace e) = inr tt
  here (Formed f ascii s) = inr (given_form f)
  here (Called l' ascii e) = inl (call_is l (unattached l (cut l)) l' e)

-- ---- statements

pub record IsGoodStmt (s : Stmt) : Type 0 where
  pub sound : IsSound s
  pub whole : IsWhole s
  pub plain : IsPlainStmt s
  pub uncalled : IsCallOp s.op → ⊥
  pub result : HasResult (is_void s.ty) (is_store s.op) s.result
  pub labels : HasLabels s.op s.labels

none_given : (v w : Bool) (result : Option (List ℕ)) → (v ≡ false → w ≡ false → ⊥) → result ≡ None → HasResult v w result
none_given false false result some e = absurd (some refl refl)
none_given false true result some e = e
none_given true w result some e = e

result_is : (s : Stmt) → IsSound s → IsPlainStmt s → IsGiven s → (IsCallOp s.op → ⊥) → HasResult (is_void s.ty) (is_store s.op) s.result
result_is s sound plain given uncalled = here (has_result s.op) refl where
  here : (b : Bool) → has_result s.op ≡ b → HasResult (is_void s.ty) (is_store s.op) s.result
  here true r =
      subst (λ v. HasResult v (is_store s.op) s.result) (sym (result_real s.op s.ty (written_types s.args) uncalled r sound.typed))
      (subst (λ w. HasResult false w s.result) (sym (result_no_store s.op r)) (given.named r))
  here false r = none_given (is_void s.ty) (is_store s.op) s.result (λ v w. no (sym (given.void r w) ∙ v)) (plain.silent r)

-- ---- lines

-- a line that is no call
abbrev pub IsNoCall : Line → Type 0
IsNoCall (lines.Stmt s) = IsCallOp s.op → ⊥
IsNoCall _ = Unit {0}

abbrev pub IsGoodLine : Line → Type 0
IsGoodLine (lines.Label name) = is_local_name name ≡ true
IsGoodLine (lines.Stmt s) = IsGoodStmt s
IsGoodLine (lines.Case value label) = IsSoundCase value
IsGoodLine _ = Unit {0}

good : (form : Line) → IsReadForm form → IsCallLine form ⊎ IsWholeLine form → IsCallLine form ⊎ IsGivenLine form → IsNoCall form → IsGoodLine form
good (lines.Label name) r w g u = elim r.plain [ inl c ↦ absurd c | inr p ↦ p ]
good (lines.Case value label) r w g u = r.sound
good (lines.Stmt s) r w g u =
    let sound : IsSound s = r.sound in
    let plain : IsPlainStmt s = elim r.plain [ inl c ↦ absurd (u c) | inr x ↦ x ] in
    let given : IsGiven s = elim g [ inl c ↦ absurd (u c) | inr x ↦ x ] in
    record {
      sound = sound;
      whole = elim w [ inl c ↦ absurd (u c) | inr x ↦ x ];
      plain = plain;
      uncalled = u;
      result = result_is s sound plain given u;
      labels = given.labels;
    }
good lines.Empty r w g u = tt
good (lines.Kept kept) r w g u = tt
good (lines.Define name head) r w g u = tt
good lines.Close r w g u = tt
good lines.CasesEnd r w g u = tt

pub good_line : (l : List ℕ) (form : Line) → form_in true l ≡ Some form → IsNoCall form → IsGoodLine form
unfolding form_by
good_line l form e u =
    let f = formed true l form e in
    let s : Spells l (cut l) form = body_spelled l (cut l) form f.read in
    good form (form_is_read l form e) (whole_line l (cut l) form s) (given_line l form s) u
