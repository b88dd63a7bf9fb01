-- What else is true of each line inside a function that is read, but a call: a store has no result, a symbol is written with the type of
-- a pointer, and a phi names its labels and operands by turns.
use Rattle.std.proofs.Common.{◌≡◌, ℕ, ◌+◌, ◌⊎◌, inl, inr, true, false, List, [], ◌∷◌, ◌++◌, None, refl, sym, codes}
use Rattle.std.specs.List.{All}
use Rattle.std.proofs.lemmas.List.Elements.{All-nil, All-cons}
use Rattle.ir_lex.specs.declared.list.Token.{Token}
use Rattle.ir_types.specs.declared.ty.Ty.{Ty}
use Rattle.ir_types.specs.declared.ty.Ty.TheVariants.{Ptr}
use Rattle.ir_types.specs.declared.op.Op.{Op}
use Rattle.ir_types.specs.declared.op.Op.TheVariants as ops
use Rattle.ir_types.specs.Formed.{is_store}
use Rattle.ir_words.specs.declared.kinds.Kind.{Kind}
use Rattle.ir_draft.specs.declared.written.Written.{Written}
use Rattle.ir_draft.specs.declared.written.Written.TheVariants.{Symbol}
use Rattle.ir_draft.specs.declared.written.Arg.{Arg}
use Rattle.ir_draft.specs.declared.stmt.Stmt.{Stmt}
use Rattle.ir_forms.specs.declared.pairs.Incoming.{Incoming}
use Rattle.ir_draft.specs.declared.line.Line.{Line}
use Rattle.ir_draft.specs.declared.line.Line.TheVariants as lines
use Rattle.ir_words.specs.Words.{Words}
use Rattle.ir_forms.specs.Pieces.{Led, SpellsTyped, SpellsOperand, Named, Global, Literal, SpellsPair, Pair, SpellsPairs, LastPair, MorePairs}
use Rattle.ir_forms.specs.Forms.{Form, Label, Choice, ChoicesEnd, Binary, Compare, Convert, Select, Extract, Insert, Shuffle, Step, StepInto, Load, Allocate, Phi, Store, Return, ReturnValue, Jump, Branch, Switch, Unreachable, slots, Spell, line_of, arg}
use Rattle.ir_line.specs.Body.{Spells, NoWord, Brace, Formed, Called, unattached}
use Rattle.ir_line.specs.Sound.{IsCallLine}
use Rattle.ir_forms.proofs.Steps.{clash}
use Rattle.ir_line.proofs.SoundLines.{call_is}
use Rattle.ir_forms.proofs.TypesOfKinds as types

-- a symbol is a pointer
abbrev pub IsPointed : Ty → Written → Type 0
IsPointed t (Symbol name) = t ≡ Ptr
IsPointed t _ = Unit {0}

abbrev pub Pointed : Arg → Type 0
Pointed a = IsPointed a.ty a.opd

-- places from `at` on, one a label and an operand
abbrev pub ArePairsFrom : ℕ → List ℕ → List (List ℕ) → List Arg → Type 0
ArePairsFrom at [] [] [] = Unit {0}
ArePairsFrom at (p ∷ ps) (l ∷ ls) (a ∷ as') = (p ≡ at) × ArePairsFrom (at + 1) ps ls as'
ArePairsFrom at _ _ _ = ⊥

-- the places of a phi are those of its labels in order
abbrev pub ArePlaced : Op → List (List ℕ) → List Arg → Type 0
ArePlaced (ops.Phi places) labels args = ArePairsFrom 0 places labels args
ArePlaced _ labels args = Unit {0}

pub record IsWhole (s : Stmt) : Type 0 where
  pub silent : is_store s.op ≡ true → s.result ≡ None
  pub pointed : All Pointed s.args
  pub placed : ArePlaced s.op s.labels s.args

abbrev pub IsWholeLine : Line → Type 0
IsWholeLine (lines.Stmt s) = IsWhole s
IsWholeLine _ = Unit {0}

no : {P : Type 0} → false ≡ true → P
no e = clash (sym e)

operand : {t : Ty} {o : Written} {ts rest : Words} → SpellsOperand t o ts rest → IsPointed t o
operand (Named name word rest e) = tt
operand {t} (Global name word rest p e) = types.pointer t p
operand (Literal ls ts rest s) = tt

typed : {k : Kind} (a : Arg) {ts rest : Words} → SpellsTyped k a ts rest → Pointed a
typed a s = operand s.operand

also : {k : Kind} (a : Arg) {ts : Words} (rest : Words) → Led (codes ",") (λ us. SpellsTyped k a us rest) ts → Pointed a
also a rest l = typed a l.part

other : {t : Ty} {o : Written} {ts : Words} (rest : Words) → Led (codes ",") (λ us. SpellsOperand t o us rest) ts → IsPointed t o
other rest l = operand l.part

none : All Pointed []
none = All-nil Pointed

one : (a : Arg) → Pointed a → All Pointed (a ∷ [])
one a p = All-cons Pointed a [] p none

two : (a b : Arg) → Pointed a → Pointed b → All Pointed (a ∷ b ∷ [])
two a b p q = All-cons Pointed a (b ∷ []) p (one b q)

three : (a b c : Arg) → Pointed a → Pointed b → Pointed c → All Pointed (a ∷ b ∷ c ∷ [])
three a b c p q r = All-cons Pointed a (b ∷ c ∷ []) p (two b c q r)

pair_pointed : {t : Ty} {at : ℕ} {i : Incoming} {ts rest : Words} → SpellsPair t at i ts rest → All Pointed i.args
pair_pointed {t} (Pair o name word ts rest s e) = one (arg t o) (operand s)

more_pointed : {t : Ty} {at : ℕ} {i : Incoming} {ts rest : Words} (js : List Arg) → SpellsPair t at i ts rest → All Pointed js → All Pointed (i.args ++ js)
more_pointed {t} js (Pair o name word ts rest s e) more = All-cons Pointed (arg t o) js (operand s) more

pairs_pointed : {t : Ty} {at : ℕ} {i : Incoming} {ts rest : Words} → SpellsPairs t at i ts rest → All Pointed i.args
pairs_pointed (LastPair at i ts rest s e) = pair_pointed s
pairs_pointed (MorePairs at i j ts us rest s more) = more_pointed j.args s (pairs_pointed more)

last_placed : {t : Ty} {at : ℕ} {i : Incoming} {ts rest : Words} → SpellsPair t at i ts rest → ArePairsFrom at i.blocks i.labels i.args
last_placed (Pair o name word ts rest s e) = (refl, tt)

more_placed : {t : Ty} {at : ℕ} {i : Incoming} {ts rest : Words} (j : Incoming) → SpellsPair t at i ts rest → ArePairsFrom (at + 1) j.blocks j.labels j.args →
    ArePairsFrom at (i.blocks ++ j.blocks) (i.labels ++ j.labels) (i.args ++ j.args)
more_placed j (Pair o name word ts rest s e) more = (refl, more)

pairs_placed : {t : Ty} {at : ℕ} {i : Incoming} {ts rest : Words} → SpellsPairs t at i ts rest → ArePairsFrom at i.blocks i.labels i.args
pairs_placed (LastPair at i ts rest s e) = last_placed s
pairs_placed (MorePairs at i j ts us rest s more) = more_placed j s (pairs_placed more)

whole_form : (f : Form) (ts : Words) → Spell (slots f) ts → IsWholeLine (line_of f)
whole_form (Label name) ts h = tt
whole_form (Choice t n b) ts h = tt
whole_form ChoicesEnd ts h = tt
whole_form (Binary x op fs t a b) ts h = record { silent = no; pointed = two (arg t a) (arg t b) (operand h.2.2.2.2.2.1) (other _ h.2.2.2.2.2.2.1); placed = tt }
whole_form (Compare x fs p t a b) ts h = record { silent = no; pointed = two (arg t a) (arg t b) (operand h.2.2.2.2.2.2.1) (other _ h.2.2.2.2.2.2.2.1); placed = tt }
whole_form (Convert x op fs a u) ts h = record { silent = no; pointed = one a (typed a h.2.2.2.2.1); placed = tt }
whole_form (Select x c a b) ts h = record { silent = no; pointed = three c a b (typed c h.2.2.2.1) (also a _ h.2.2.2.2.1) (also b _ h.2.2.2.2.2.1); placed = tt }
whole_form (Extract x a i) ts h = record { silent = no; pointed = two a i (typed a h.2.2.2.1) (also i _ h.2.2.2.2.1); placed = tt }
whole_form (Insert x a b i) ts h = record { silent = no; pointed = three a b i (typed a h.2.2.2.1) (also b _ h.2.2.2.2.1) (also i _ h.2.2.2.2.2.1); placed = tt }
whole_form (Shuffle x a b m) ts h = record { silent = no; pointed = two a b (typed a h.2.2.2.1) (also b _ h.2.2.2.2.1); placed = tt }
whole_form (Step x fs e p i) ts h = record { silent = no; pointed = two p i (also p _ h.2.2.2.2.2.1) (also i _ h.2.2.2.2.2.2.1); placed = tt }
whole_form (StepInto x fs n w p i j) ts h = record { silent = no; pointed = three p i j (also p _ h.2.2.2.2.2.1) (also i _ h.2.2.2.2.2.2.1) (also j _ h.2.2.2.2.2.2.2.1); placed = tt }
whole_form (Load x t p n) ts h = record { silent = no; pointed = one p (also p _ h.2.2.2.2.1); placed = tt }
whole_form (Allocate x e n) ts h = record { silent = no; pointed = none; placed = tt }
whole_form (Phi x t i) ts h = record { silent = no; pointed = pairs_pointed h.2.2.2.2.1; placed = pairs_placed h.2.2.2.2.1 }
whole_form (Store a p n) ts h = record { silent = λ e. refl; pointed = two a p (typed a h.2.1) (also p _ h.2.2.1); placed = tt }
whole_form Return ts h = record { silent = no; pointed = none; placed = tt }
whole_form (ReturnValue a) ts h = record { silent = no; pointed = one a (typed a h.2.1); placed = tt }
whole_form (Jump b) ts h = record { silent = no; pointed = none; placed = tt }
whole_form (Branch c a b) ts h = record { silent = no; pointed = one c (typed c h.2.1); placed = tt }
whole_form (Switch a d) ts h = record { silent = no; pointed = one a (typed a h.2.1); placed = tt }
whole_form Unreachable ts h = record { silent = no; pointed = none; placed = tt }

pub whole_line : (line : List ℕ) (ts : List Token) (l : Line) → Spells line ts l → IsCallLine l ⊎ IsWholeLine l
whole_line line ts l s = here s where
  here : {l : Line} → Spells line ts l → IsCallLine l ⊎ IsWholeLine l
  here (NoWord e) = inr tt
  here (Brace e) = inr tt
  here (Formed f ascii s) = inr (whole_form f _ s)
  here (Called l ascii e) = inl (call_is line (unattached line ts) l e)
