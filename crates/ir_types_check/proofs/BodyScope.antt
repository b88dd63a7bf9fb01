-- The names of a function: what a value's name means has the type that stands at its place, and no two names mean one block.
use Rattle.std.proofs.Common.{◌≡◌, ℕ, zero, suc, ◌+◌, ◌<◌, ◌⊎◌, inl, inr, Bool, true, false, cond, List, [], ◌∷◌, ◌++◌, length, map, Option, Some, None, Ok, refl, sym, ◌∙◌, ap, subst, arith, bytes_eq, length-append}
use Rattle.std.specs.Prelude.{slice_get}
use Rattle.std.specs.Fmt.{decimal}
use Rattle.std.specs.Option.{is_some}
use Rattle.std.proofs.lemmas.Slice.Eq.{bytes_eq-Decides}
use Rattle.ir_types.specs.declared.ty.Ty.{Ty}
use Rattle.ir_types.specs.declared.op.Op.{Op}
use Rattle.ir_types.specs.declared.op.Op.TheVariants as ops
use Rattle.ir_types.specs.declared.func.Param.{Param}
use Rattle.ir_types.specs.Formed.{given_ty, is_store}
use Rattle.ir_draft.specs.declared.stmt.Stmt.{Stmt}
use Rattle.ir_draft.specs.declared.line.Line.{Line}
use Rattle.ir_draft.specs.declared.line.Line.TheVariants as line
use Rattle.ir_draft.specs.declared.draft.Numbered.{Numbered}
use Rattle.ir_line.proofs.Bodies.{Stage, Stands, stage_after_line, begun_after, IsBodyFrom}
use Rattle.ir_types_check.specs.declared.outline.At.{At}
use Rattle.ir_types_check.specs.declared.locals.Meaning.{Meaning}
use Rattle.ir_types_check.specs.declared.locals.Meaning.TheVariants.{Value, Block}
use Rattle.ir_types_check.specs.declared.locals.Locals.{Locals}
use Rattle.ir_types_check.specs.Scope.{Scope, meaning, define, of_function}
use Rattle.ir_types_check.specs.Outline.{opened, past_param, after_label, after_inst, past, param_name}
use Rattle.ir_types_check.specs.Locals.{with_name, with_param, with_params, with_label, with_opened, with_result, with_stmt, with_line, with_lines}
use Rattle.ir_types_check.proofs.Binding.{bind_ok, ok, ok_is, some_is, nothing, cond_not, clash}

-- ---- the types of a function's values

abbrev pub tys_before : Line → List Ty → List Ty
tys_before (line.Stmt s) rest = given_ty s.op s.ty ∷ rest
tys_before _ rest = rest

-- what the instructions of a body give, in order
abbrev pub stmt_tys : List Numbered → List Ty
stmt_tys [] = []
stmt_tys (x ∷ xs) = tys_before x.form (stmt_tys xs)

abbrev pub param_tys : List Param → List Ty
param_tys ps = map (λ (p : Param). p.ty) ps

before_append : (form : Line) (rest : List Ty) → tys_before form [] ++ rest ≡ tys_before form rest
before_append line.Empty rest = refl
before_append (line.Kept kept) rest = refl
before_append (line.Define name head) rest = refl
before_append line.Close rest = refl
before_append (line.Label name) rest = refl
before_append (line.Stmt s) rest = refl
before_append (line.Case value label) rest = refl
before_append line.CasesEnd rest = refl

-- ---- members

pub get_front : {X : Type 0} (xs ys : List X) (k : ℕ) (x : X) → slice_get xs k ≡ Some x → slice_get (xs ++ ys) k ≡ Some x
get_front [] ys k x e = nothing e
get_front (z ∷ xs) ys zero x e = e
get_front (z ∷ xs) ys (suc k) x e = get_front xs ys k x e

pub get_back : {X : Type 0} (xs ys : List X) (k : ℕ) → slice_get (xs ++ ys) (length xs + k) ≡ slice_get ys k
get_back [] ys k = let e : 0 + k ≡ k = omega arith in ap (slice_get ys) e
get_back (x ∷ xs) ys k =
    let e : length (x ∷ xs) + k ≡ suc (length xs + k) = omega arith in
    ap (slice_get (x ∷ (xs ++ ys))) e ∙ get_back xs ys k

-- ---- scopes

abbrev none : (M : Type 0) → Option M
none M = None

pub found : {M : Type 0} (x : List ℕ) (scope : Scope M) (name : List ℕ) (m v : M) → meaning x (scope ++ (name, m) ∷ []) ≡ Some v → (meaning x scope ≡ Some v) ⊎ ((x ≡ name) × (m ≡ v))
found {M} x [] name m v e = here (bytes_eq x name) refl e where
  here : (b : Bool) → bytes_eq x name ≡ b → cond b (Some m) None ≡ Some v → (none M ≡ Some v) ⊎ ((x ≡ name) × (m ≡ v))
  here true s e = inr ((bytes_eq-Decides x name).0 s, some_is e)
  here false s e = inl e
found {M} x (p ∷ scope) name m v e = here (bytes_eq x p.0) (found x scope name m v) e where
  here : (b : Bool) → (meaning x (scope ++ (name, m) ∷ []) ≡ Some v → (meaning x scope ≡ Some v) ⊎ ((x ≡ name) × (m ≡ v))) → cond b (Some p.1) (meaning x (scope ++ (name, m) ∷ [])) ≡ Some v → (cond b (Some p.1) (meaning x scope) ≡ Some v) ⊎ ((x ≡ name) × (m ≡ v))
  here true later e = inl e
  here false later e = later e

pub defined : {M : Type 0} (n sigil : ℕ) (name : List ℕ) (m : M) (scope after : Scope M) → define n sigil name m scope ≡ Ok after → after ≡ scope ++ (name, m) ∷ []
unfolding define
defined n sigil name m scope after e = cond_not (is_some (meaning name scope)) _ _ after e (λ _ is. sym (ok_is is))

record Named (l after : Locals) (name : List ℕ) (m : Meaning) (to : At) : Type 0 where
  scope : after.scope ≡ l.scope ++ (name, m) ∷ []
  at : after.at ≡ to

named : (n : ℕ) (l after : Locals) (name : List ℕ) (m : Meaning) (at : At) → with_name n l name m at ≡ Ok after → Named l after name m at
unfolding with_name
named n l after name m at e =
    bind_ok (define n of_function name m l.scope) _ after e (λ scope was is.
    record { scope = sym (ap (λ (x : Locals). x.scope) (ok_is is)) ∙ defined n of_function name m l.scope scope was; at = sym (ap (λ (x : Locals). x.at) (ok_is is)) })

-- each block's name means a block that has begun, and no other name means it
pub record IsScope (l : Locals) : Type 0 where
  pub below : (name : List ℕ) (k : ℕ) → meaning name l.scope ≡ Some (Block k) → k < l.at.blocks
  pub once : (a b : List ℕ) (k : ℕ) → meaning a l.scope ≡ Some (Block k) → meaning b l.scope ≡ Some (Block k) → a ≡ b

abbrev NewValues : Locals → Locals → List Ty → Type 0
NewValues l after tys =
    (name : List ℕ) (place : ℕ) (ty : Ty) → meaning name after.scope ≡ Some (Value place ty) →
    (meaning name l.scope ≡ Some (Value place ty)) ⊎ ((k : ℕ) × (place ≡ l.at.place + k) × (slice_get tys k ≡ Some ty))

-- with values of these types
pub record Grows (l after : Locals) (tys : List Ty) : Type 0 where
  pub values : NewValues l after tys
  pub place : after.at.place ≡ l.at.place + length tys
  pub scoped : IsScope l → IsScope after

unchanged : (l : Locals) → Grows l l []
unchanged l = record { values = λ name place ty e. inl e; place = omega arith; scoped = λ s. s }

further : (l m r : Locals) (ts us : List Ty) → Grows l m ts → Grows m r us → Grows l r (ts ++ us)
further l m r ts us g h = record {
  values = λ name place ty e. elim (h.values name place ty e) [
    | inl old ↦ elim (g.values name place ty old) [ inl older ↦ inl older | inr new ↦ inr (new.0, new.1, get_front ts us new.0 ty new.2) ]
    | inr new ↦ inr (length ts + new.0, omega (arith, new.1, g.place), get_back ts us new.0 ∙ new.2)
  ];
  place = omega (arith, g.place, h.place, length-append ts us);
  scoped = λ s. h.scoped (g.scoped s);
}

block_is : {j k : ℕ} → Block j ≡ Block k → j ≡ k
block_is e = cc

value_place : {j k : ℕ} {t u : Ty} → Value j t ≡ Value k u → j ≡ k
value_place e = cc

value_ty : {j k : ℕ} {t u : Ty} → Value j t ≡ Value k u → t ≡ u
value_ty e = cc

no_value : {P : Type 0} {j k : ℕ} {t : Ty} → Block j ≡ Value k t → P
no_value e = cc

no_block : {P : Type 0} {j k : ℕ} {t : Ty} → Value k t ≡ Block j → P
no_block e = cc

-- a name that means a value
with_value : (l after : Locals) (name : List ℕ) (t : Ty) (at : At) → Named l after name (Value l.at.place t) at → at.place ≡ l.at.place + 1 → at.blocks ≡ l.at.blocks → Grows l after (t ∷ [])
with_value l after name t at n p b = record {
  values = λ x place ty e. elim (look x (Value place ty) e) [
    | inl old ↦ inl old
    | inr new ↦ inr (0, omega (arith, value_place new.1), ap Some (value_ty new.1))
  ];
  place = ap (λ (x : At). x.place) n.at ∙ p;
  scoped = λ s. record {
    below = λ x k e. elim (look x (Block k) e) [
      | inl old ↦ subst (λ m. k < m) (sym (ap (λ (x : At). x.blocks) n.at ∙ b)) (s.below x k old)
      | inr new ↦ no_block new.1
    ];
    once = λ x y k e f. elim (look x (Block k) e) [
      | inl old ↦ elim (look y (Block k) f) [ inl older ↦ s.once x y k old older | inr new ↦ no_block new.1 ]
      | inr new ↦ no_block new.1
    ];
  };
}
  where
    look : (x : List ℕ) (v : Meaning) → meaning x after.scope ≡ Some v → (meaning x l.scope ≡ Some v) ⊎ ((x ≡ name) × (Value l.at.place t ≡ v))
    look x v e = found x l.scope name (Value l.at.place t) v (subst (λ s. meaning x s ≡ Some v) n.scope e)

-- a name that means a block
with_block : (l after : Locals) (name : List ℕ) (at : At) → Named l after name (Block l.at.blocks) at → at.place ≡ l.at.place → at.blocks ≡ l.at.blocks + 1 → Grows l after []
with_block l after name at n p b = record {
  values = λ x place ty e. elim (look x (Value place ty) e) [ inl old ↦ inl old | inr new ↦ no_value new.1 ];
  place = ap (λ (x : At). x.place) n.at ∙ p ∙ omega arith;
  scoped = λ s. record {
    below = λ x k e. subst (λ m. k < m) (sym (ap (λ (x : At). x.blocks) n.at ∙ b)) (elim (look x (Block k) e) as (λ _. k < l.at.blocks + 1) [
      | inl old ↦ let less : k < l.at.blocks = s.below x k old in omega (arith, less)
      | inr new ↦ let same : l.at.blocks ≡ k = block_is new.1 in omega (arith, same)
    ]);
    once = λ x y k e f. elim (look x (Block k) e) [
      | inl old ↦ elim (look y (Block k) f) [
        | inl older ↦ s.once x y k old older
        | inr new ↦ let less : k < l.at.blocks = s.below x k old in let same : l.at.blocks ≡ k = block_is new.1 in absurd (omega (arith, less, same))
      ]
      | inr new ↦ elim (look y (Block k) f) [
        | inl old ↦ let less : k < l.at.blocks = s.below y k old in let same : l.at.blocks ≡ k = block_is new.1 in absurd (omega (arith, less, same))
        | inr other ↦ new.0 ∙ sym other.0
      ]
    ];
  };
}
  where
    look : (x : List ℕ) (v : Meaning) → meaning x after.scope ≡ Some v → (meaning x l.scope ≡ Some v) ⊎ ((x ≡ name) × (Block l.at.blocks ≡ v))
    look x v e = found x l.scope name (Block l.at.blocks) v (subst (λ s. meaning x s ≡ Some v) n.scope e)

-- ---- parameters

param_grows : (n : ℕ) (l after : Locals) (p : Param) → with_param n l p ≡ Ok after → Grows l after (p.ty ∷ []) × (after.at ≡ past_param l.at p)
unfolding with_param past_param
param_grows n l after p e =
    let h : Named l after (param_name l.at.next p.name) (Value l.at.place p.ty) (past_param l.at p) = named n l after _ _ _ e in
    (with_value l after _ p.ty _ h refl refl, h.at)

pub params_grow : (n : ℕ) (l after : Locals) (ps : List Param) → with_params n l ps ≡ Ok after → Grows l after (param_tys ps) × (after.at.blocks ≡ l.at.blocks) × (after.at.is_open ≡ l.at.is_open)
unfolding past_param
params_grow n l after [] e = subst (λ x. Grows l x [] × (x.at.blocks ≡ l.at.blocks) × (x.at.is_open ≡ l.at.is_open)) (ok_is e) (unchanged l, refl, refl)
params_grow n l after (p ∷ ps) e =
    bind_ok (with_param n l p) _ after e (λ m was now.
    let g : Grows l m (p.ty ∷ []) × (m.at ≡ past_param l.at p) = param_grows n l m p was in
    let h : Grows m after (param_tys ps) × (after.at.blocks ≡ m.at.blocks) × (after.at.is_open ≡ m.at.is_open) = params_grow n m after ps now in
    (further l m after (p.ty ∷ []) (param_tys ps) g.0 h.0, h.1 ∙ ap (λ (x : At). x.blocks) g.1, h.2 ∙ ap (λ (x : At). x.is_open) g.1))

-- ---- lines

opened_grows : (n : ℕ) (l after : Locals) → with_opened n l ≡ Ok after → Grows l after [] × (after.at ≡ opened l.at)
unfolding with_opened opened
opened_grows n l after e = here l.at.is_open refl e where
  here : (b : Bool) → l.at.is_open ≡ b → cond b (ok l) (with_name n l (decimal l.at.next) (Block l.at.blocks) (opened l.at)) ≡ Ok after →
      Grows l after [] × (after.at ≡ cond b l.at (record { next = l.at.next + 1; place = l.at.place; blocks = l.at.blocks + 1; is_open = true }))
  here true s e = subst (λ x. Grows l x [] × (x.at ≡ l.at)) (ok_is e) (unchanged l, refl)
  here false s e =
      let h : Named l after (decimal l.at.next) (Block l.at.blocks) (opened l.at) = named n l after _ _ _ e in
      let is : opened l.at ≡ record { next = l.at.next + 1; place = l.at.place; blocks = l.at.blocks + 1; is_open = true } =
      ap (λ b. cond b l.at (record { next = l.at.next + 1; place = l.at.place; blocks = l.at.blocks + 1; is_open = true })) s in
      (with_block l after (decimal l.at.next) (opened l.at) h (ap (λ (x : At). x.place) is) (ap (λ (x : At). x.blocks) is), h.at ∙ is)

given : (op : Op) (t : Ty) → is_store op ≡ false → given_ty op t ≡ t
given (ops.Store align) t e = clash e
given _ t e = refl

no_store : (b : Bool) (name : List ℕ) (r : Option (List ℕ)) → r ≡ Some name → (b ≡ true → r ≡ None) → b ≡ false
no_store true name r e f = nothing (sym (f refl) ∙ e)
no_store false name r e f = refl

result_grows : (n : ℕ) (l after : Locals) (s : Stmt) (r : Option (List ℕ)) → s.result ≡ r → (is_store s.op ≡ true → s.result ≡ None) → with_result n l s r ≡ Ok after →
    Grows l after (given_ty s.op s.ty ∷ []) × (after.at ≡ after_inst l.at s)
unfolding after_inst
result_grows n l after s None is silent e = subst (λ x. Grows l x (given_ty s.op s.ty ∷ []) × (x.at ≡ after_inst l.at s)) (ok_is e) (
  record {
    values = λ name place ty e. inl e;
    place = omega arith;
    scoped = λ h. record { below = h.below; once = h.once };
  },
  refl,
)
result_grows n l after s (Some name) is silent e =
    let h : Named l after name (Value l.at.place s.ty) (after_inst l.at s) = named n l after _ _ _ e in
    let t : given_ty s.op s.ty ≡ s.ty = given s.op s.ty (no_store (is_store s.op) name s.result is silent) in
    (subst (λ x. Grows l after (x ∷ [])) (sym t) (with_value l after name s.ty (after_inst l.at s) h refl refl), h.at)

line_grows : (n : ℕ) (l after : Locals) (st : Stage) (k : ℕ) (form : Line) → Stands st k form → with_line n l form ≡ Ok after → Grows l after (tys_before form []) × (after.at ≡ past l.at form)
unfolding with_label with_stmt after_label
line_grows n l after st k line.Empty h e = absurd h
line_grows n l after st k (line.Kept kept) h e = absurd h
line_grows n l after st k (line.Define name head) h e = absurd h
line_grows n l after st k line.Close h e = absurd h
line_grows n l after st k (line.Label name) h e =
    let g : Named l after name (Block l.at.blocks) (after_label l.at name) = named n l after _ _ _ e in
    (with_block l after name (after_label l.at name) g refl refl, g.at)
line_grows n l after st k (line.Stmt s) h e =
    bind_ok (with_opened n l) _ after e (λ o was now.
    let g : Grows l o [] × (o.at ≡ opened l.at) = opened_grows n l o was in
    let r : Grows o after (given_ty s.op s.ty ∷ []) × (after.at ≡ after_inst o.at s) = result_grows n o after s s.result refl h.whole.silent now in
    (further l o after [] (given_ty s.op s.ty ∷ []) g.0 r.0, r.1 ∙ ap (λ (x : At). after_inst x s) g.1))
line_grows n l after st k (line.Case value label) h e = subst (λ x. Grows l x [] × (x.at ≡ l.at)) (ok_is e) (unchanged l, refl)
line_grows n l after st k line.CasesEnd h e = subst (λ x. Grows l x [] × (x.at ≡ l.at)) (ok_is e) (unchanged l, refl)

abbrev pub after_all : At → List Numbered → At
after_all at [] = at
after_all at (x ∷ xs) = after_all (past at x.form) xs

pub lines_grow : (l after : Locals) (st : Stage) (k : ℕ) (body : List Numbered) → IsBodyFrom st k body → with_lines l body ≡ Ok after → Grows l after (stmt_tys body) × (after.at ≡ after_all l.at body)
lines_grow l after st k [] h e = subst (λ x. Grows l x [] × (x.at ≡ l.at)) (ok_is e) (unchanged l, refl)
lines_grow l after st k (x ∷ xs) h e =
    bind_ok (with_line x.line l x.form) _ after e (λ m was now.
    let g : Grows l m (tys_before x.form []) × (m.at ≡ past l.at x.form) = line_grows x.line l m st k x.form h.0 was in
    let r : Grows m after (stmt_tys xs) × (after.at ≡ after_all m.at xs) = lines_grow m after (stage_after_line st x.form) (begun_after st k x.form) xs h.1 now in
    (subst (λ ts. Grows l after ts) (before_append x.form (stmt_tys xs)) (further l m after (tys_before x.form []) (stmt_tys xs) g.0 r.0), r.1 ∙ ap (λ (a : At). after_all a xs) g.1))
