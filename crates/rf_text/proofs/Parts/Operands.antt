-- Operands as they are printed are read again as what is written: a local by its name, a global by its name, a literal by its lanes.
use Rattle.std.proofs.Common.{◌≡◌, ℕ, suc, zero, ◌<◌, Bool, true, false, cond, List, [], ◌∷◌, ◌++◌, length, nat_lt, Option, Some, None, refl, subst, codes, append_assoc, arith}
use Rattle.std.proofs.lemmas.Bool.Decides.{nat_tests}
use Rattle.std.proofs.lemmas.List.Elements.{All-head, All-tail}
use Rattle.std.specs.List.{All, slice_get}
use Rattle.std.specs.Option.{option_map}
use Rattle.ir_types.specs.declared.id.Id.{Id}
use Rattle.ir_types.specs.declared.ty.Ty.{Ty}
use Rattle.ir_types.specs.declared.ty.Ty.TheVariants.{Ptr}
use Rattle.ir_types.specs.declared.literal.Literal.{Literal}
use Rattle.ir_types.specs.declared.opd.Opd.{Opd}
use Rattle.ir_types.specs.declared.opd.Opd.TheVariants.{Val, Lit, Sym}
use Rattle.ir_types.specs.Typed.{is_value, IsLiteral}
use Rattle.ir_types.specs.Formed.{IsOpd}
use Rattle.ir_lex.specs.Bytes.{is_control, is_word_byte, begins_name}
use Rattle.ir_lex.specs.Tokens.{is_name}
use Rattle.ir_lex.specs.Scan.{texts}
use Rattle.ir_lex.proofs.Again.{stops, texts_space}
use Rattle.ir_draft.specs.declared.written.Written.TheVariants as opds
use Rattle.ir_words.specs.Kinds.{fits}
use Rattle.ir_forms.specs.Pieces.{SpellsOperand, Named as NamedOpd, Global, Literal as LiteralOpd, SpellsTyped, Bare, Other, Typed, Also}
use Rattle.ir_forms.specs.Forms.{Slot, slot, arg}
use Rattle.ir_forms.proofs.Steps.{nothing, some_is}
use Rattle.ir_print.specs.declared.names.Local.{Local}
use Rattle.ir_print.specs.Literals.{ty_text}
use Rattle.ir_print.specs.Names.{Names, local_of, last_of, same_id}
use Rattle.ir_print.specs.Operands.{opd_text, opd_ty, local_text, local_ty, global_text, typed_text}
use Rattle.rf_text.specs.Shown.{Shown, IsLocalName, shown_ty}
use Rattle.ir_types.specs.Formed.{IsPoisonIfPointer}
use Rattle.rf_text.specs.Written.{written, shown_text, shown_global}
use Rattle.rf_text.proofs.Words.Read.{Taken, plain_append, Told}
use Rattle.rf_text.proofs.Words.Names.{Named, local_named, local_texts, run_is_plain, symbol_texts, symbol_read, symbol_plain}
use Rattle.rf_text.proofs.Parts.Of.{Cut, told_part, told_last, led_cut, comma_stops}
use Rattle.rf_text.proofs.Parts.Types.{kind_cut}
use Rattle.rf_text.proofs.Parts.Literals.{lits_cut}

-- what holds of all that is shown holds of what is shown of an id
last_all : (P : Local → Type 0) (id : Id) (ls : List Local) (before : Option Local) (l : Local) → All P ls → ((m : Local) → before ≡ Some m → P m) → last_of id ls before ≡ Some l → P l
last_all P id [] before l all old e = old l e
last_all P id (x ∷ ls) before l all old e = last_all P id ls _ l (All-tail P x ls all) (λ m. here (same_id x.id id) m) e where
  here : (t : Bool) (m : Local) → cond t (Some x) before ≡ Some m → P m
  here true m e = subst P (some_is e) (All-head P x ls all)
  here false m e = old m e

pub shown_named : (ns : Names) (gs : List (List ℕ)) (id : Id) (l : Local) → Shown ns gs → local_of id ns.locals ≡ Some l → Named l.text
shown_named ns gs id l shown e = local_named l.text (last_all (λ (l : Local). IsLocalName l.text) id ns.locals None l shown.locals (λ m none. nothing none) e)

pub at_all : {X : Type 0} (P : X → Type 0) (xs : List X) (k : ℕ) → All P xs → k < length xs → (x : X) × (slice_get xs k ≡ Some x) × P x
at_all P [] k all h = absurd (omega arith)
at_all P (x ∷ xs) zero all h = (x, refl, All-head P x xs all)
at_all P (x ∷ xs) (suc k) all h = at_all P xs k (All-tail P x xs all) (omega arith)

-- a name in front of what stops it
pub local_cut : (t : Ty) (name : List ℕ) → Named name → Cut (SpellsOperand t (opds.Local name)) (37 ∷ name)
unfolding is_control
local_cut t name n = record { plain = run_is_plain name n.run; takes = λ rest stop. rw (local_texts name rest n stop) (NamedOpd name (37 ∷ name) (texts rest) n.local) }

global_cut : (name : List ℕ) → is_name name ≡ true → Cut (SpellsOperand Ptr (opds.Symbol name)) (64 ∷ name)
unfolding is_control
global_cut name n = record { plain = symbol_plain name n; takes = λ rest stop. rw (symbol_texts name rest n stop) (Global name (64 ∷ name) (texts rest) refl (symbol_read name n)) }

-- an operand is shown with this type, and is read again
pub record Operand (ns : Names) (gs : List (List ℕ)) (t : Ty) (o : Opd) : Type 0 where
  pub type : opd_ty ns o ≡ t
  pub cut : Cut (SpellsOperand t (written ns gs o)) (opd_text ns gs o)

-- what is found of a value
abbrev Found : Ty → Option Local → Type 0
Found t found = (local_ty found ≡ t) × Cut (SpellsOperand t (opds.Local (shown_text found))) (local_text found)

value_operand : (ns : Names) (gs : List (List ℕ)) (t : Ty) (id : Id) → Shown ns gs → option_map (λ (l : Local). l.ty) (local_of id ns.locals) ≡ Some t → Operand ns gs t (Val id)
value_operand ns gs t id shown e = let is : Found t (local_of id ns.locals) = here (local_of id ns.locals) refl e in record { type = is.0; cut = is.1 } where
  here : (found : Option Local) → local_of id ns.locals ≡ found → option_map (λ (l : Local). l.ty) found ≡ Some t → Found t found
  here None e none = nothing none
  here (Some l) e typed = (some_is typed, local_cut t l.text (shown_named ns gs id l shown e))

literal_operand : (ns : Names) (gs : List (List ℕ)) (literal : Literal) → IsLiteral literal → (literal.ty ≡ Ptr → literal.lanes ≡ None ∷ []) → Operand ns gs literal.ty (Lit literal)
literal_operand ns gs literal is pointer =
    let cut : Cut _ _ = lits_cut literal.ty literal.lanes is.0 is.1 is.2 pointer in
    record { type = refl; cut = record { plain = cut.plain; takes = λ rest stop. LiteralOpd literal.lanes _ (texts rest) (cut.takes rest stop) } }

global_operand : (ns : Names) (gs : List (List ℕ)) (t : Ty) (g : ℕ) → Shown ns gs → cond (nat_lt g (length gs)) (Some Ptr) None ≡ Some t → Operand ns gs t (Sym g)
global_operand ns gs t g shown e = here (nat_lt g (length gs)) refl e where
  named : (name : List ℕ) → slice_get gs g ≡ Some name → is_name name ≡ true → Cut (SpellsOperand Ptr (opds.Symbol (shown_global gs g))) (global_text (slice_get gs g))
  named name eg n = rw eg (global_cut name n)

  here : (t' : Bool) → nat_lt g (length gs) ≡ t' → cond t' (Some Ptr) None ≡ Some t → Operand ns gs t (Sym g)
  here false less none = nothing none
  here true less some =
      let within : g < length gs = grind (arith, nat_tests) in
      let found : (name : List ℕ) × (slice_get gs g ≡ Some name) × (is_name name ≡ true) = at_all (λ (name : List ℕ). is_name name ≡ true) gs g shown.globals within in
      subst (λ (u : Ty). Operand ns gs u (Sym g)) (some_is some) (record { type = refl; cut = named found.0 found.1 found.2 })

-- an operand that is shown with a type is read again
pub operand : (ns : Names) (gs : List (List ℕ)) (t : Ty) (o : Opd) → Shown ns gs → IsOpd o → IsPoisonIfPointer o → shown_ty ns gs o ≡ Some t → Operand ns gs t o
operand ns gs t (Val id) shown is pointer e = value_operand ns gs t id shown e
operand ns gs t (Lit literal) shown is pointer e = subst (λ (u : Ty). Operand ns gs u (Lit literal)) (some_is e) (literal_operand ns gs literal is pointer)
operand ns gs t (Sym g) shown is pointer e = global_operand ns gs t g shown e

-- the same after its type, which is of a kind
pub arg_cut : (ns : Names) (gs : List (List ℕ)) (k : Taken fits) (t : Ty) (o : Opd) → is_value t ≡ true → fits k t ≡ true → Operand ns gs t o → Cut (SpellsTyped k (arg t (written ns gs o))) (ty_text t ++ (32 ∷ opd_text ns gs o))
unfolding is_control is_word_byte begins_name
arg_cut ns gs k t o value fit is = record {
  plain = plain_append (ty_text t) (32 ∷ opd_text ns gs o) (kind_cut k t value fit).plain is.cut.plain;
  takes = λ rest stop. rw (append_assoc (ty_text t) (32 ∷ opd_text ns gs o) rest) (record {
    after = texts (32 ∷ (opd_text ns gs o ++ rest));
    type = (kind_cut k t value fit).takes (32 ∷ (opd_text ns gs o ++ rest)) refl;
    operand = rw (texts_space (opd_text ns gs o ++ rest)) (is.cut.takes rest stop);
  });
}

pub typed_cut : (ns : Names) (gs : List (List ℕ)) (k : Taken fits) (t : Ty) (o : Opd) → is_value t ≡ true → fits k t ≡ true → Operand ns gs t o → Cut (SpellsTyped k (arg t (written ns gs o))) (typed_text ns gs o)
typed_cut ns gs k t o value fit is = rw is.type (arg_cut ns gs k t o value fit is)

-- an operand and what follows it, with its type and without, in front of which a comma may stand
module _ (ns : Names) (gs : List (List ℕ)) where
  pub told_arg : (k : Taken fits) (t : Ty) (o : Opd) {rest : List ℕ} {ss : List Slot} → is_value t ≡ true → fits k t ≡ true → Operand ns gs t o → stops rest ≡ true → Told ss rest →
      Told (slot (Typed k) (arg t (written ns gs o)) ∷ ss) (ty_text t ++ (32 ∷ (opd_text ns gs o ++ rest)))
  told_arg k t o {rest} {ss} value fit is stop told =
      subst (Told (slot (Typed k) (arg t (written ns gs o)) ∷ ss)) (append_assoc (ty_text t) (32 ∷ opd_text ns gs o) rest) (told_part (Typed k) (arg t (written ns gs o)) (arg_cut ns gs k t o value fit is) stop told)

  pub told_typed : (k : Taken fits) (t : Ty) (o : Opd) {rest : List ℕ} {ss : List Slot} → is_value t ≡ true → fits k t ≡ true → Operand ns gs t o → stops rest ≡ true → Told ss rest →
      Told (slot (Typed k) (arg t (written ns gs o)) ∷ ss) (typed_text ns gs o ++ rest)
  told_typed k t o value fit is stop told = told_part (Typed k) (arg t (written ns gs o)) (typed_cut ns gs k t o value fit is) stop told

  pub told_also : (k : Taken fits) (t : Ty) (o : Opd) {rest : List ℕ} {ss : List Slot} → is_value t ≡ true → fits k t ≡ true → Operand ns gs t o → stops rest ≡ true → Told ss rest →
      Told (slot (Also k) (arg t (written ns gs o)) ∷ ss) (codes ", " ++ (typed_text ns gs o ++ rest))
  told_also k t o value fit is stop told = told_part (Also k) (arg t (written ns gs o)) (led_cut (typed_cut ns gs k t o value fit is)) stop told

  -- the last operand of a line
  pub told_also_last : (k : Taken fits) (t : Ty) (o : Opd) → is_value t ≡ true → fits k t ≡ true → Operand ns gs t o → Told (slot (Also k) (arg t (written ns gs o)) ∷ []) (codes ", " ++ typed_text ns gs o)
  told_also_last k t o value fit is = told_last (Also k) (arg t (written ns gs o)) (led_cut (typed_cut ns gs k t o value fit is))

  pub told_pointer : (k : Taken fits) (o : Opd) {rest : List ℕ} {ss : List Slot} → fits k Ptr ≡ true → Operand ns gs Ptr o → stops rest ≡ true → Told ss rest →
      Told (slot (Also k) (arg Ptr (written ns gs o)) ∷ ss) (codes ", ptr " ++ (opd_text ns gs o ++ rest))
  told_pointer k o {rest} fit is stop told = told_part (Also k) (arg Ptr (written ns gs o)) {bs = 44 ∷ 32 ∷ (codes "ptr" ++ (32 ∷ opd_text ns gs o))} (led_cut (arg_cut ns gs k Ptr o refl fit is)) stop told

  -- two operands of one type, which is not written
  pub told_two : (t : Ty) (a b : Opd) → Operand ns gs t a → Operand ns gs t b → Told (slot (Bare t) (written ns gs a) ∷ slot (Other t) (written ns gs b) ∷ []) (opd_text ns gs a ++ (codes ", " ++ opd_text ns gs b))
  told_two t a b is js = told_part (Bare t) (written ns gs a) is.cut (comma_stops (32 ∷ opd_text ns gs b)) (told_last (Other t) (written ns gs b) (led_cut js.cut))
