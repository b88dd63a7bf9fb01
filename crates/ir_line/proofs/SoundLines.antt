-- Each line inside a function that is read is sound: its literals, types and places fit.
use Rattle.std.proofs.Common.{◌≡◌, ℕ, suc, ◌^◌, ◌<◌, ◌⊎◌, inl, inr, true, List, [], ◌∷◌, length, Option, Some, None, refl, sym, ◌∙◌, ap, subst, codes, arith}
use Rattle.std.specs.List.{All}
use Rattle.std.proofs.lemmas.List.Elements.{All-nil, All-cons}
use Rattle.ir_lex.specs.declared.list.Token.{Token}
use Rattle.ir_types.specs.declared.ty.Ty.{Ty}
use Rattle.ir_types.specs.declared.ty.Ty.TheVariants.{Void, Int, Ptr, Row}
use Rattle.ir_types.proofs.SameTypes.{same_is}
use Rattle.ir_types.specs.Typed.{is_width, is_vector, is_number, is_value, lane_width, with_width, Converts}
use Rattle.ir_words.specs.declared.kinds.Kind.TheVariants as kind
use Rattle.ir_draft.specs.declared.written.Arg.{Arg}
use Rattle.ir_draft.specs.declared.line.Line.{Line}
use Rattle.ir_words.specs.Words.{Words}
use Rattle.ir_words.specs.Reading.{has}
use Rattle.ir_line.specs.declared.calls.Arguments.{Arguments}
use Rattle.ir_line.specs.CallSpelling.{SpellsRet, NoValue, Valued, SpellsArgument, SpellsArguments, LastArgument, MoreArguments, SpellsInside, NoArgument, SomeArguments, SpellsCall}
use Rattle.ir_line.specs.Body.{Spells, NoWord, Brace, Formed, Called, unattached}
use Rattle.ir_forms.specs.Forms.{Form, Label, Choice, ChoicesEnd, Binary, Compare, Convert, Select, Extract, Insert, Shuffle, Step, StepInto, Load, Allocate, Phi, Store, Return, ReturnValue, Jump, Branch, Switch, Unreachable, slots, Spell, line_of, arg}
use Rattle.ir_line.specs.Sound.{IsSoundOpd, IsSoundLine, IsCallLine, IsValueTy, written_types}
use Rattle.ir_forms.proofs.LaneValues.{ty_value, number_below}
use Rattle.ir_forms.proofs.TypesOfKinds as types
use Rattle.ir_line.proofs.SoundForms as forms
use Rattle.ir_line.proofs.SoundForms.{Fine, Shuffled, Paired}

-- literals of one, two and three operands

abbrev Sound : Arg → Type 0
Sound a = IsSoundOpd a.ty a.opd

none : All Sound []
none = All-nil Sound

one : (a : Arg) → Sound a → All Sound (a ∷ [])
one a p = All-cons Sound a [] p none

two : (a b : Arg) → Sound a → Sound b → All Sound (a ∷ b ∷ [])
two a b p q = All-cons Sound a (b ∷ []) p (one b q)

three : (a b c : Arg) → Sound a → Sound b → Sound c → All Sound (a ∷ b ∷ c ∷ [])
three a b c p q r = All-cons Sound a (b ∷ c ∷ []) p (two b c q r)

-- the types of one, two and three operands

types_1 : (a t : Ty) → a ≡ t → (Some a ∷ []) ≡ (Some t ∷ [])
types_1 a t p = rw p refl

types_2 : (a b t u : Ty) → a ≡ t → b ≡ u → (Some a ∷ Some b ∷ []) ≡ (Some t ∷ Some u ∷ [])
types_2 a b t u p q = rw (p, q) refl

types_3 : (a b c t u v : Ty) → a ≡ t → b ≡ u → c ≡ v → (Some a ∷ Some b ∷ Some c ∷ []) ≡ (Some t ∷ Some u ∷ Some v ∷ [])
types_3 a b c t u v p q r = rw (p, q, r) refl

-- the row of an insert or an extract
vector_of : (a : Arg) → Fine kind.Vector a → (n w : ℕ) × (a.ty ≡ Row n w) × (is_vector (Row n w) ≡ true)
vector_of a f = types.row a.ty f.value f.fitting

integer_of : (a : Arg) → Fine kind.Integer a → (w : ℕ) × (a.ty ≡ Int w) × (is_width w ≡ true)
integer_of a f = types.integer a.ty f.value f.fitting

pointer_of : (a : Arg) → Fine kind.Pointer a → a.ty ≡ Ptr
pointer_of a f = types.pointer a.ty f.fitting

pub sound_form : (f : Form) (ts : Words) → Spell (slots f) ts → IsSoundLine (line_of f)
sound_form (Label name) ts h = tt
sound_form (Choice t n b) ts h =
    let k : is_value t ≡ true = forms.kind_value h.1 in
    let i : (w : ℕ) × (t ≡ Int w) × (is_width w ≡ true) = types.integer t k h.1.fitting in
    record { width = i.0; number = n; profile = i.2; type = i.1; lanes = refl; below = subst (λ w. n < 2 ^ w) (ap lane_width i.1) (number_below (lane_width t) n h.2.1.word h.2.1.says) }
sound_form ChoicesEnd ts h = tt
sound_form (Binary x op fs t a b) ts h =
    let v : is_value t ≡ true = forms.kind_value h.2.2.2.2.1 in
    record {
      literals = two (arg t a) (arg t b) (forms.operand v h.2.2.2.2.2.1) (forms.other _ v h.2.2.2.2.2.2.1);
      typed = (types.number t v h.2.2.2.2.1.fitting, forms.bin_own op fs h.2.2.2.1.of_set, refl);
      places = tt;
    }
sound_form (Compare x fs p t a b) ts h =
    let v : is_value t ≡ true = forms.kind_value h.2.2.2.2.2.1 in
    let n : is_number t ≡ true = types.number t v h.2.2.2.2.2.1.fitting in
    record {
      literals = two (arg t a) (arg t b) (forms.operand v h.2.2.2.2.2.2.1) (forms.other _ v h.2.2.2.2.2.2.2.1);
      typed = (t, n, forms.truth t n, refl);
      places = tt;
    }
sound_form (Convert x op fs a u) ts h =
    let f : Fine kind.Number a = forms.typed h.2.2.2.2.1 in
    let v : is_value u ≡ true = forms.kind_value h.2.2.2.2.2.2.1 in
    let c : (u ≡ with_width (lane_width u) a.ty) × (is_number a.ty ≡ true) × (is_number u ≡ true) × Converts op (has (codes "nneg") fs) (lane_width a.ty) (lane_width u) = forms.converts op fs a.ty u h.2.2.2.1.of_set f.value v h.2.2.2.2.2.2.1.fitting in
    record { literals = one a f.literal; typed = (a.ty, c.1, c.2, c.0, c.3, refl); places = tt }
sound_form (Select x c a b) ts h =
    let f : Fine kind.Choice c = forms.typed h.2.2.2.1 in
    let g : Fine (kind.ChosenBy c.ty) a = forms.also _ h.2.2.2.2.1 in
    let k : Fine (kind.Same a.ty) b = forms.also _ h.2.2.2.2.2.1 in
    let same : b.ty ≡ a.ty = same_is b.ty a.ty k.fitting in
    record {
      literals = three c a b f.literal g.literal k.literal;
      typed = (c.ty, g.value, types.chosen c.ty a.ty f.value g.value f.fitting g.fitting, ap (λ t. Some c.ty ∷ Some a.ty ∷ Some t ∷ []) same);
      places = tt;
    }
sound_form (Extract x a i) ts h =
    let f : Fine kind.Vector a = forms.typed h.2.2.2.1 in
    let g : Fine kind.Integer i = forms.also _ h.2.2.2.2.1 in
    let r : (n w : ℕ) × (a.ty ≡ Row n w) × (is_vector (Row n w) ≡ true) = vector_of a f in
    let j : (w : ℕ) × (i.ty ≡ Int w) × (is_width w ≡ true) = integer_of i g in
    record {
      literals = two a i f.literal g.literal;
      typed = (r.0, r.1, j.0, r.3, j.2, ap (λ t. Int (lane_width t)) r.2, types_2 _ _ _ _ r.2 j.1);
      places = tt;
    }
sound_form (Insert x a b i) ts h =
    let f : Fine kind.Vector a = forms.typed h.2.2.2.1 in
    let e : Fine (kind.LaneOf a.ty) b = forms.also _ h.2.2.2.2.1 in
    let g : Fine kind.Integer i = forms.also _ h.2.2.2.2.2.1 in
    let r : (n w : ℕ) × (a.ty ≡ Row n w) × (is_vector (Row n w) ≡ true) = vector_of a f in
    let l : b.ty ≡ Int (lane_width a.ty) = types.lane_of a.ty b.ty e.fitting in
    let j : (w : ℕ) × (i.ty ≡ Int w) × (is_width w ≡ true) = integer_of i g in
    record {
      literals = three a b i f.literal e.literal g.literal;
      typed = (r.0, r.1, j.0, r.3, j.2, r.2, types_3 _ _ _ _ _ _ r.2 (l ∙ ap (λ t. Int (lane_width t)) r.2) j.1);
      places = tt;
    }
sound_form (Shuffle x a b m) ts h =
    let f : Fine kind.Vector a = forms.typed h.2.2.2.1 in
    let e : Fine (kind.Same a.ty) b = forms.also _ h.2.2.2.2.1 in
    let same : b.ty ≡ a.ty = same_is b.ty a.ty e.fitting in
    let r : (n w : ℕ) × (a.ty ≡ Row n w) × (is_vector (Row n w) ≡ true) = vector_of a f in
    let s : Shuffled r.0 r.1 m = forms.masked_at r.0 r.1 (types.row_width r.0 r.1 r.3) r.2 h.2.2.2.2.2.1 in
    record {
      literals = two a b f.literal e.literal;
      typed = (r.0, r.1, r.3, s.vector, s.result, s.within, types_2 _ _ _ _ r.2 (same ∙ r.2));
      places = tt;
    }
sound_form (Step x fs e p i) ts h =
    let f : Fine kind.Pointer p = forms.also _ h.2.2.2.2.2.1 in
    let g : Fine kind.Integer i = forms.also _ h.2.2.2.2.2.2.1 in
    let j : (w : ℕ) × (i.ty ≡ Int w) × (is_width w ≡ true) = integer_of i g in
    record {
      literals = two p i f.literal g.literal;
      typed = (j.0, forms.stepped h.2.2.2.2.1, j.2, refl, inl (types_2 _ _ _ _ (pointer_of p f) j.1));
      places = tt;
    }
sound_form (StepInto x fs n w p i l) ts h =
    let f : Fine kind.Pointer p = forms.also _ h.2.2.2.2.2.1 in
    let g : Fine kind.Integer i = forms.also _ h.2.2.2.2.2.2.1 in
    let k : Fine kind.Integer l = forms.also _ h.2.2.2.2.2.2.2.1 in
    let j : (w : ℕ) × (i.ty ≡ Int w) × (is_width w ≡ true) = integer_of i g in
    let q : (w : ℕ) × (l.ty ≡ Int w) × (is_width w ≡ true) = integer_of l k in
    record {
      literals = three p i l f.literal g.literal k.literal;
      typed = (j.0, forms.stepped h.2.2.2.2.1, j.2, refl, inr (q.0, q.2, types_3 _ _ _ _ _ _ (pointer_of p f) j.1 q.1));
      places = tt;
    }
sound_form (Load x t p n) ts h =
    let f : Fine kind.Pointer p = forms.also _ h.2.2.2.2.1 in
    record {
      literals = one p f.literal;
      typed = (types.stored t (forms.kind_value h.2.2.2.1) h.2.2.2.1.fitting, forms.align_is h.2.2.2.2.2.1, types_1 _ _ (pointer_of p f));
      places = tt;
    }
sound_form (Allocate x e n) ts h =
    record { literals = none; typed = (forms.made h.2.2.2.1, forms.align_if h.2.2.2.2.1, refl, refl); places = tt }
sound_form (Phi x t i) ts h =
    let v : is_value t ≡ true = forms.kind_value h.2.2.2.1 in
    let p : Paired t 0 i = forms.pairs v h.2.2.2.2.1 in
    record {
      literals = p.literals;
      typed = (v, p.blocks ∙ sym (forms.types_length i.args), subst (λ k. 0 < k) (sym (forms.types_length i.args)) p.some, p.types);
      places = forms.from_nothing (length i.labels) i.blocks p.places;
    }
sound_form (Store a p n) ts h =
    let f : Fine kind.Stored a = forms.typed h.2.1 in
    let g : Fine kind.Pointer p = forms.also _ h.2.2.1 in
    record {
      literals = two a p f.literal g.literal;
      typed = (types.stored a.ty f.value f.fitting, forms.align_is h.2.2.2.1, types_2 _ _ _ _ refl (pointer_of p g));
      places = tt;
    }
sound_form Return ts h = record { literals = none; typed = (refl, inl refl); places = tt }
sound_form (ReturnValue a) ts h =
    let f : Fine kind.Value a = forms.typed h.2.1 in
    record { literals = one a f.literal; typed = (refl, inr (a.ty, f.value, refl)); places = tt }
sound_form (Jump b) ts h = record { literals = none; typed = (refl, refl); places = omega arith }
sound_form (Branch c a b) ts h =
    let f : Fine kind.Bit c = forms.typed h.2.1 in
    record { literals = one c f.literal; typed = (refl, types_1 _ _ (types.bit c.ty f.fitting)); places = (omega arith, omega arith) }
sound_form (Switch a d) ts h =
    let f : Fine kind.Integer a = forms.typed h.2.1 in
    let j : (w : ℕ) × (a.ty ≡ Int w) × (is_width w ≡ true) = integer_of a f in
    record { literals = one a f.literal; typed = (j.0, j.2, refl, types_1 _ _ j.1); places = omega arith }
sound_form Unreachable ts h = record { literals = none; typed = (refl, refl); places = tt }

-- ---- calls

-- what is known of the arguments of a call
record SoundArguments (i : Arguments) : Type 0 where
  literals : All Sound i.args
  types : All IsValueTy (written_types i.args)
  each : length i.attrs ≡ length (written_types i.args)

argument_sound : {line : List ℕ} {a : Arg × List ℕ} {ts : List Token} → SpellsArgument line a ts → Sound a.0
argument_sound s = forms.operand (ty_value s.typed) s.operand

arguments_sound : {line : List ℕ} {i : Arguments} {ts rest : List Token} → SpellsArguments line i ts rest → SoundArguments i
arguments_sound (LastArgument a own close rest s w e) =
    record { literals = one a.0 (argument_sound s); types = All-cons IsValueTy (Some a.0.ty) [] (ty_value s.typed) (All-nil IsValueTy); each = refl }
arguments_sound (MoreArguments a i own comma us rest s w e more) =
    let m : SoundArguments i = arguments_sound more in
    record {
      literals = All-cons Sound a.0 i.args (argument_sound s) m.literals;
      types = All-cons IsValueTy (Some a.0.ty) (written_types i.args) (ty_value s.typed) m.types;
      each = ap suc m.each;
    }

inside_sound : {line : List ℕ} {i : Arguments} {ts rest : List Token} → SpellsInside line i ts rest → SoundArguments i
inside_sound (NoArgument close rest w) = record { literals = none; types = All-nil IsValueTy; each = refl }
inside_sound (SomeArguments i ts rest s) = arguments_sound s

returned_sound : {t : Ty} {ts : Words} → SpellsRet t ts → (t ≡ Void) ⊎ (is_value t ≡ true)
returned_sound NoValue = inl refl
returned_sound (Valued t ts s) = inr (ty_value s)

-- a call is a call, and what it says fits
pub call_is : (line : List ℕ) (ts : List Token) (l : Line) → SpellsCall line ts l → IsCallLine l
call_is line ts l s = subst IsCallLine (sym s.is) tt

call_sound : (line : List ℕ) (ts : List Token) (l : Line) → SpellsCall line ts l → IsSoundLine l
call_sound line ts l s =
    let i : SoundArguments s.found = inside_sound s.arguments in
    subst IsSoundLine (sym s.is) (record { literals = i.literals; typed = (returned_sound s.returned, i.types, i.each); places = tt })

-- each line that is read is sound
pub sound_line : (line : List ℕ) (ts : List Token) (l : Line) → Spells line ts l → IsSoundLine l
sound_line line ts l s = here s where
  here : {l : Line} → Spells line ts l → IsSoundLine l
  here (NoWord e) = tt
  here (Brace e) = tt
  here (Formed f ascii s) = sound_form f _ s
  here (Called l ascii s) = call_sound line (unattached line ts) l s
