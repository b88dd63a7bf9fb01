-- The cases of a `switch` that is well typed: as many numbers as blocks, each number of the width, none twice.
use Rattle.std.proofs.Common.{◌≡◌, ℕ, zero, suc, ◌^◌, ◌<◌, Bool, true, false, cond, not, ◌&&◌, ◌||◌, List, [], ◌∷◌, ◌++◌, length, map, Option, Some, None, Ok, refl, sym, ◌∙◌, ap, subst, arith}
use Rattle.std.proofs.lemmas.Bool.Decides.{Decides-eqb}
use Rattle.std.specs.Prelude.{slice_get, unwrap_or, nat_eq}
use Rattle.std.specs.List.{All, AllPairs, list_any}
use Rattle.std.proofs.lemmas.List.Elements.{All-nil, All-cons, All-head, All-tail, All-map}
use Rattle.ir_types.specs.declared.ty.Ty.{Ty}
use Rattle.ir_types.specs.declared.ty.Ty.TheVariants.{Int}
use Rattle.ir_types.specs.declared.op.Op.{Op}
use Rattle.ir_types.specs.declared.op.Op.TheVariants as ops
use Rattle.ir_types.specs.Typed.{IsCase, same_ty}
use Rattle.ir_draft.specs.declared.stmt.Stmt.{Stmt}
use Rattle.ir_draft.specs.declared.line.Line.{Line}
use Rattle.ir_draft.specs.declared.line.Line.TheVariants as line
use Rattle.ir_draft.specs.declared.draft.Numbered.{Numbered}
use Rattle.ir_line.specs.Sound.{IsSoundCase}
use Rattle.ir_line.proofs.Bodies.{Stage, Stands, stage_after_line, begun_after, IsBodyFrom}
use Rattle.ir_types_check.specs.declared.locals.Meaning.{Meaning}
use Rattle.ir_types_check.specs.declared.links.Cases.{Cases}
use Rattle.ir_types_check.specs.Answers.{well_typed}
use Rattle.ir_types_check.specs.Scope.{Scope}
use Rattle.ir_types_check.specs.Links.{lane_of, Choice, choice_before, choices, cases_of}
use Rattle.ir_types_check.specs.Typed.{first_ty, number_of, is_target, choice_targets, case_targets, lane_number, case_number, with_number, choice_fits, choices_typed, cases_typed}
use Rattle.ir_types_check.proofs.Binding.{bind_ok, some_is, clash, both, not_true, typed_line}
use Rattle.ir_types_check.proofs.BodyLinks.{AreCases, cases_are}
use Rattle.ir_types.proofs.SameTypes.{same_is}
use Rattle.ir_types_check.proofs.BodyTypes.{map_length, FitIfSwitch}

abbrev IsSoundChoice : Choice → Type 0
IsSoundChoice c = IsSoundCase c.value

-- the cases in a body are sound
choices_sound : (st : Stage) (n : ℕ) (body : List Numbered) → IsBodyFrom st n body → All IsSoundChoice (choices body)
choices_sound st n [] h = All-nil IsSoundChoice
choices_sound st n (x ∷ xs) h = here x.form h.0 (choices_sound (stage_after_line st x.form) (begun_after st n x.form) xs h.1) where
  here : (form : Line) → Stands st n form → All IsSoundChoice (choices xs) → All IsSoundChoice (choice_before x.line form (choices xs))
  here (line.Case value label) s more = All-cons IsSoundChoice (record { line = x.line; value = value; label = label }) (choices xs) s more
  here _ s more = All-nil IsSoundChoice

-- ---- numbers

any_there : (n : ℕ) (numbers : List ℕ) → list_any (nat_eq n) (numbers ++ n ∷ []) ≡ true
any_there n [] = ap (λ b. b || false) ((Decides-eqb n n).1 refl)
any_there n (x ∷ xs) = here (nat_eq n x) (any_there n xs) where
  here : (b : Bool) → list_any (nat_eq n) (xs ++ n ∷ []) ≡ true → b || list_any (nat_eq n) (xs ++ n ∷ []) ≡ true
  here true e = refl
  here false e = e

any_stays : (n m : ℕ) (numbers : List ℕ) → list_any (nat_eq n) numbers ≡ true → list_any (nat_eq n) (numbers ++ m ∷ []) ≡ true
any_stays n m [] e = clash (sym e)
any_stays n m (x ∷ xs) e = here (nat_eq n x) (any_stays n m xs) e where
  here : (b : Bool) → (list_any (nat_eq n) xs ≡ true → list_any (nat_eq n) (xs ++ m ∷ []) ≡ true) → b || list_any (nat_eq n) xs ≡ true → b || list_any (nat_eq n) (xs ++ m ∷ []) ≡ true
  here true f e = refl
  here false f e = f e

with_there : (n : ℕ) (numbers : List ℕ) → list_any (nat_eq n) (with_number numbers n) ≡ true
with_there n numbers = here (list_any (nat_eq n) numbers) refl where
  here : (b : Bool) → list_any (nat_eq n) numbers ≡ b → list_any (nat_eq n) (cond b numbers (numbers ++ n ∷ [])) ≡ true
  here true e = e
  here false e = any_there n numbers

with_stays : (n m : ℕ) (numbers : List ℕ) → list_any (nat_eq n) numbers ≡ true → list_any (nat_eq n) (with_number numbers m) ≡ true
with_stays n m numbers e = here (list_any (nat_eq m) numbers) where
  here : (b : Bool) → list_any (nat_eq n) (cond b numbers (numbers ++ m ∷ [])) ≡ true
  here true = e
  here false = any_stays n m numbers e

-- ---- choices that are well typed

pub record FitChoices (locals : Scope Meaning) (ty : Ty) (numbers : List ℕ) (cs : List Choice) : Type 0 where
  pub types : All (λ (c : Choice). same_ty c.value.ty ty ≡ true) cs
  pub new : All (λ (c : Choice). (n : ℕ) → list_any (nat_eq n) numbers ≡ true → case_number c ≡ n → ⊥) cs
  pub once : AllPairs (λ (a b : ℕ). a ≡ b → ⊥) (map case_number cs)
  pub targets : All (λ t. is_target t ≡ true) (choice_targets locals cs)

-- one in front of others
pairs_cons : {X : Type 0} (R : X → X → Type 0) (x : X) (xs : List X) → All (R x) xs → AllPairs R xs → AllPairs R (x ∷ xs)
pairs_cons R x xs h p zero zero d less within = absurd (omega (arith, less))
pairs_cons R x xs h p zero (suc j) d less within = h j d (omega (arith, within))
pairs_cons R x xs h p (suc i) zero d less within = absurd (omega (arith, less))
pairs_cons R x xs h p (suc i) (suc j) d less within = p i j d (omega (arith, less)) (omega (arith, within))

pairs_none : {X : Type 0} (R : X → X → Type 0) → AllPairs R []
pairs_none R i j d less within = absurd (omega (arith, within))

all_weaker : {A : Type 0} (P Q : A → Type 0) (xs : List A) → ((x : A) → P x → Q x) → All P xs → All Q xs
all_weaker P Q xs f h = λ k d less. f _ (h k d less)

fit_choices : (locals : Scope Meaning) (ty : Ty) (numbers : List ℕ) (cs : List Choice) (u : Unit {0}) → choices_typed locals ty numbers cs ≡ Ok u → FitChoices locals ty numbers cs
fit_choices locals ty numbers [] u e = record {
  types = All-nil (λ (c : Choice). same_ty c.value.ty ty ≡ true);
  new = All-nil (λ (c : Choice). (n : ℕ) → list_any (nat_eq n) numbers ≡ true → case_number c ≡ n → ⊥);
  once = pairs_none (λ (a b : ℕ). a ≡ b → ⊥);
  targets = All-nil (λ t. is_target t ≡ true);
}
fit_choices locals ty numbers (c ∷ cs) u e =
    bind_ok (well_typed c.line (choice_fits locals ty numbers c)) _ u e (λ v was now.
    let fits : choice_fits locals ty numbers c ≡ true = typed_line c.line (choice_fits locals ty numbers c) v was in
    let a : (same_ty c.value.ty ty && not (list_any (nat_eq (case_number c)) numbers) ≡ true) × (is_target (number_of locals c.label) ≡ true) =
    both (same_ty c.value.ty ty && not (list_any (nat_eq (case_number c)) numbers)) (is_target (number_of locals c.label)) fits in
    let b : (same_ty c.value.ty ty ≡ true) × (not (list_any (nat_eq (case_number c)) numbers) ≡ true) = both (same_ty c.value.ty ty) (not (list_any (nat_eq (case_number c)) numbers)) a.0 in
    let absent : list_any (nat_eq (case_number c)) numbers ≡ false = not_true (list_any (nat_eq (case_number c)) numbers) b.1 in
    let r : FitChoices locals ty (with_number numbers (case_number c)) cs = fit_choices locals ty (with_number numbers (case_number c)) cs u now in
    record {
      types = All-cons (λ (c : Choice). same_ty c.value.ty ty ≡ true) c cs b.0 r.types;
      new = All-cons (λ (c : Choice). (n : ℕ) → list_any (nat_eq n) numbers ≡ true → case_number c ≡ n → ⊥) c cs
          (λ n there same. clash (sym there ∙ ap (λ x. list_any (nat_eq x) numbers) (sym same) ∙ absent))
          (all_weaker (λ (d : Choice). (n : ℕ) → list_any (nat_eq n) (with_number numbers (case_number c)) ≡ true → case_number d ≡ n → ⊥) (λ (d : Choice). (n : ℕ) → list_any (nat_eq n) numbers ≡ true → case_number d ≡ n → ⊥) cs
          (λ d f n there same. f n (with_stays n (case_number c) numbers there) same) r.new);
      once = pairs_cons (λ (a b : ℕ). a ≡ b → ⊥) (case_number c) (map case_number cs)
          (All-map (λ k. case_number c ≡ k → ⊥) case_number cs
          (all_weaker (λ (d : Choice). (n : ℕ) → list_any (nat_eq n) (with_number numbers (case_number c)) ≡ true → case_number d ≡ n → ⊥) (λ (d : Choice). case_number c ≡ case_number d → ⊥) cs
          (λ d f same. f (case_number c) (with_there (case_number c) numbers) (sym same)) r.new))
          r.once;
      targets = All-cons (λ t. is_target t ≡ true) (number_of locals c.label) (choice_targets locals cs) a.1 r.targets;
    })

-- ---- their numbers

lane_is : (c : Choice) → IsSoundChoice c → lane_of c.value ≡ Some (case_number c)
lane_is c s =
    let lane : lane_of c.value ≡ Some s.number = ap (λ ls. unwrap_or (slice_get ls 0) None) s.lanes in
    lane ∙ ap (λ k. Some k) (sym (ap lane_number lane))

int_is : {w v : ℕ} → Int w ≡ Int v → w ≡ v
int_is e = cc

case_is : (w : ℕ) (ty : Ty) (c : Choice) → ty ≡ Int w → IsSoundChoice c → same_ty c.value.ty ty ≡ true → IsCase w (lane_of c.value)
case_is w ty c t s f =
    let width : s.width ≡ w = int_is (sym s.type ∙ same_is c.value.ty ty f ∙ t) in
    let lane : lane_of c.value ≡ Some s.number = ap (λ ls. unwrap_or (slice_get ls 0) None) s.lanes in
    subst (IsCase w) (sym lane) (subst (λ x. s.number < 2 ^ x) width s.below)

values_fit : (w : ℕ) (ty : Ty) (cs : List Choice) → ty ≡ Int w → All IsSoundChoice cs → All (λ (c : Choice). same_ty c.value.ty ty ≡ true) cs → All (IsCase w) (map (λ (c : Choice). lane_of c.value) cs)
values_fit w ty [] t s f = All-nil (IsCase w)
values_fit w ty (c ∷ cs) t s f =
    All-cons (IsCase w) (lane_of c.value) (map (λ (c : Choice). lane_of c.value) cs)
    (case_is w ty c t (All-head IsSoundChoice c cs s) (All-head (λ (c : Choice). same_ty c.value.ty ty ≡ true) c cs f))
    (values_fit w ty cs t (All-tail IsSoundChoice c cs s) (All-tail (λ (c : Choice). same_ty c.value.ty ty ≡ true) c cs f))

lanes_are : (cs : List Choice) → All IsSoundChoice cs → map (λ (c : Choice). lane_of c.value) cs ≡ map (λ k. Some k) (map case_number cs)
lanes_are [] s = refl
lanes_are (c ∷ cs) s =
    ap (λ x. x ∷ map (λ (c : Choice). lane_of c.value) cs) (lane_is c (All-head IsSoundChoice c cs s)) ∙ ap (λ xs. Some (case_number c) ∷ xs) (lanes_are cs (All-tail IsSoundChoice c cs s))

apart : (ns : List ℕ) → AllPairs (λ (a b : ℕ). a ≡ b → ⊥) ns → AllPairs (λ (a b : Option ℕ). a ≡ b → ⊥) (map (λ k. Some k) ns)
apart [] p = pairs_none (λ (a b : Option ℕ). a ≡ b → ⊥)
apart (n ∷ ns) p =
    pairs_cons (λ (a b : Option ℕ). a ≡ b → ⊥) (Some n) (map (λ k. Some k) ns)
    (All-map (λ (o : Option ℕ). Some n ≡ o → ⊥) (λ k. Some k) ns (λ k d less same. p 0 (suc k) d (omega arith) (omega (arith, less)) (some_is same)))
    (apart ns (λ i j d less within. p (suc i) (suc j) d (omega (arith, less)) (omega (arith, within))))

pub cases_fit : (locals : Scope Meaning) (st : Stage) (n : ℕ) (s : Stmt) (op : Op) (rest : List Numbered) (cases : Cases) (u : Unit {0}) → IsBodyFrom st n rest → cases_of locals op rest ≡ Ok cases →
    cases_typed locals s op rest ≡ Ok u → FitIfSwitch op s.args cases × All (λ t. is_target t ≡ true) (case_targets locals op rest)
cases_fit locals st n s (ops.Switch other values to) rest cases u body is typed =
    let r : AreCases locals (choices rest) (record { values = []; to = [] }) cases = cases_are locals (record { values = []; to = [] }) (choices rest) cases is in
    let f : FitChoices locals (first_ty s.args) [] (choices rest) = fit_choices locals (first_ty s.args) [] (choices rest) u typed in
    let sound : All IsSoundChoice (choices rest) = choices_sound st n rest body in (
      λ w t. record {
        many = ap length r.values ∙ map_length (λ (c : Choice). lane_of c.value) (choices rest) ∙ sym (map_length (λ (c : Choice). number_of locals c.label) (choices rest)) ∙ sym (ap length r.to);
        each = subst (All (IsCase w)) (sym r.values) (values_fit w (first_ty s.args) (choices rest) t sound f.types);
        once = subst (AllPairs (λ (a b : Option ℕ). a ≡ b → ⊥)) (sym (r.values ∙ lanes_are (choices rest) sound)) (apart (map case_number (choices rest)) f.once);
      },
      f.targets,
    )
cases_fit locals st n s _ rest cases u body is typed = (tt, All-nil (λ t. is_target t ≡ true))
