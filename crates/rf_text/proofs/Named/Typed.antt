-- What a formed instruction uses: its operands have types of values, its blocks are there, and its parts are as many as they should be.
use Rattle.std.proofs.Common.{◌≡◌, ℕ, suc, zero, ◌+◌, ◌<◌, ◌≤◌, ◌⊎◌, inl, inr, ⊎_elim, Bool, true, false, ◌==◌, cond, List, [], ◌∷◌, map, length, Option, Some, None, refl, ◌∙◌, arith, eq-eqb, slice_index_or}
use Rattle.std.proofs.lemmas.Bool.{cases_lt}
use Rattle.std.proofs.lemmas.List.{length-map, get_or_past}
use Rattle.std.proofs.lemmas.List.Recursion.{is_count_by}
use Rattle.std.proofs.lemmas.List.Elements.{All-nil, All-cons, All-head, All-tail, All-weaker}
use Rattle.std.proofs.lemmas.Option.{slice_get-get_or}
use Rattle.std.specs.List.{All, count_by}
use Rattle.ir_types.specs.declared.ty.Ty.{Ty}
use Rattle.ir_types.specs.declared.ty.Ty.TheVariants.{Void, Int, Ptr, Row}
use Rattle.ir_types.specs.declared.ty.Elem.{Elem}
use Rattle.ir_types.specs.declared.ty.Elem.TheVariants.{One, Array}
use Rattle.ir_types.specs.declared.opd.Opd.{Opd}
use Rattle.ir_types.specs.declared.op.Op.{Op}
use Rattle.ir_types.specs.declared.op.Op.TheVariants.{Bin, Icmp, Cast, Select, Extract, Insert, Shuffle, Gep, Load, Store, Alloca, Phi, Ret, Br, CondBr, Switch, Unreachable, Call}
use Rattle.ir_types.specs.declared.inst.Inst.{Inst}
use Rattle.ir_types.specs.declared.func.Func.{Func}
use Rattle.ir_types.specs.declared.module.Module.{Module}
use Rattle.ir_types.specs.Walks.{targets_at}
use Rattle.ir_types.specs.Available.{Each, op_targets, graph_of, block_targets}
use Rattle.ir_types.specs.Typed.{is_number, is_value, is_vector, with_width, HasTwoIndices, IsTyped}
use Rattle.ir_types.specs.Formed.{IsTarget, IsIncoming, IsFormedInst, opd_ty}
use Rattle.ir_lex.proofs.Classes.{both}
use Rattle.ir_print.specs.Names.{is_void}
use Rattle.rf_text.specs.Shown.{is_call}
use Rattle.rf_text.specs.Written.{line_blocks}
use Rattle.rf_text.proofs.Named.Links.{HasShape, case_blocks}

-- ---- types of operands

-- there is a type, and it is of values
abbrev pub IsReal : Option Ty → Type 0
IsReal None = ⊥
IsReal (Some t) = is_void t ≡ false

number_real : (t : Ty) → is_number t ≡ true → IsReal (Some t)
number_real Void h = cc
number_real t h = refl

value_real : (t : Ty) → is_value t ≡ true → IsReal (Some t)
value_real Void h = cc
value_real t h = refl

vector_real : (t : Ty) → is_vector t ≡ true → IsReal (Some (with_width 1 t))
vector_real (Row n w) h = refl
vector_real Void h = cc
vector_real (Int w) h = cc
vector_real Ptr h = cc

none_real : (tys : List (Option Ty)) → tys ≡ [] → All IsReal tys
none_real tys e = rw e (All-nil IsReal)

one_real : (tys : List (Option Ty)) (a : Option Ty) → tys ≡ a ∷ [] → IsReal a → All IsReal tys
one_real tys a e h = rw e (All-cons IsReal a [] h (All-nil IsReal))

two_real : (tys : List (Option Ty)) (a b : Option Ty) → tys ≡ a ∷ b ∷ [] → IsReal a → IsReal b → All IsReal tys
two_real tys a b e h k = rw e (All-cons IsReal a (b ∷ []) h (one_real (b ∷ []) b refl k))

three_real : (tys : List (Option Ty)) (a b c : Option Ty) → tys ≡ a ∷ b ∷ c ∷ [] → IsReal a → IsReal b → IsReal c → All IsReal tys
three_real tys a b c e h k l = rw e (All-cons IsReal a (b ∷ c ∷ []) h (two_real (b ∷ c ∷ []) b c refl k l))

indices_real : (elem : Elem) (k : ℕ) (tys : List (Option Ty)) → HasTwoIndices elem k tys → All IsReal tys
indices_real (One t) k tys h = absurd h
indices_real (Array n w) k tys h = three_real tys (Some Ptr) (Some (Int k)) (Some (Int h.0)) h.2 refl refl refl

pub operands_real : (ret : Ty) (op : Op) (t : Ty) (tys : List (Option Ty)) → IsTyped ret op t tys → is_call op ≡ false → All IsReal tys
operands_real ret (Bin op flags) t tys h c = two_real tys (Some t) (Some t) h.2 (number_real t h.0) (number_real t h.0)
operands_real ret (Icmp pred) t tys h c = two_real tys (Some h.0) (Some h.0) h.3 (number_real h.0 h.1) (number_real h.0 h.1)
operands_real ret (Cast op nneg) t tys h c = one_real tys (Some h.0) h.5 (number_real h.0 h.1)
operands_real ret Select t tys h c = three_real tys (Some h.0) (Some t) (Some t) h.3 (⊎_elim (λ is. rw is refl) (λ is. rw is.1 (vector_real t is.0)) h.2) (value_real t h.1) (value_real t h.1)
operands_real ret Extract t tys h c = two_real tys (Some (Row h.0 h.1)) (Some (Int h.2)) h.6 refl refl
operands_real ret Insert t tys h c = three_real tys (Some (Row h.0 h.1)) (Some (Int h.1)) (Some (Int h.2)) h.6 refl refl refl
operands_real ret (Shuffle mask) t tys h c = two_real tys (Some (Row h.0 h.1)) (Some (Row h.0 h.1)) h.6 refl refl
operands_real ret (Gep elem inbounds) t tys h c = ⊎_elim (λ is. two_real tys (Some Ptr) (Some (Int h.0)) is refl refl) (λ is. indices_real elem h.0 tys is) h.4
operands_real ret (Load align) t tys h c = one_real tys (Some Ptr) h.2 refl
operands_real ret (Store align) t tys h c = two_real tys (Some t) (Some Ptr) h.2 (number_real t (both (is_number t) _ h.0).0) refl
operands_real ret (Alloca elem align) t tys h c = none_real tys h.3
operands_real ret (Phi blocks) t tys h c = All-weaker (λ u. u ≡ Some t) IsReal (λ u e. rw e (value_real t h.0)) tys h.3
operands_real ret Ret t tys h c = ⊎_elim (λ is. none_real tys is.1) (λ is. one_real tys (Some ret) is.1 (value_real ret is.0)) h.1
operands_real ret (Br to) t tys h c = none_real tys h.1
operands_real ret (CondBr first second) t tys h c = one_real tys (Some (Int 1)) h.1 refl
operands_real ret (Switch other cases to) t tys h c = one_real tys (Some (Int h.0)) h.6 refl
operands_real ret Unreachable t tys h c = none_real tys h.1
operands_real ret (Call site) t tys h c = cc

-- what holds of what a list is mapped to
pub All-unmap : {X Y : Type 0} (P : Y → Type 0) (f : X → Y) (xs : List X) → All P (map f xs) → All (λ x. P (f x)) xs
All-unmap P f [] all = All-nil (λ x. P (f x))
All-unmap P f (x ∷ xs) all = All-cons (λ x. P (f x)) x xs (All-head P (f x) (map f xs) all) (All-unmap P f xs (All-tail P (f x) (map f xs) all))

-- ---- parts

shape_of : (ret : Ty) (op : Op) (t : Ty) (tys : List (Option Ty)) (os : List Opd) → IsTyped ret op t tys → length tys ≡ length os → is_call op ≡ false → HasShape op os
shape_of ret (Phi blocks) t tys os h many c = h.1 ∙ many
shape_of ret (Switch other cases to) t tys os h many c = h.3
shape_of ret (Call site) t tys os h many c = cc
shape_of ret op t tys os h many c = tt

pub has_shape : (ret : Ty) (op : Op) (t : Ty) (ty : Opd → Option Ty) (os : List Opd) → IsTyped ret op t (map ty os) → is_call op ≡ false → HasShape op os
has_shape ret op t ty os h c = shape_of ret op t (map ty os) os h (length-map os ty) c

-- ---- blocks

abbrev IsThere : Func → ℕ → Type 0
IsThere f b = b < length f.blocks

-- how many pass, from the front
many : (ℕ → Bool) → List ℕ → ℕ
many p [] = 0
many p (b ∷ bs) = cond (p b) (1 + many p bs) (many p bs)

many_is : (p : ℕ → Bool) (bs : List ℕ) → many p bs ≡ count_by p bs
unfolding many
many_is p bs = is_count_by (many p) p refl (λ x xs. refl) bs

-- what stands in a list is counted
counted : (p : ℕ → Bool) (bs : List ℕ) (k d : ℕ) → k < length bs → p (slice_index_or bs k d) ≡ true → 0 < many p bs
unfolding many
counted p [] k d h is = absurd (omega (arith, h))
counted p (b ∷ bs) zero d h is = rw is (omega arith)
counted p (b ∷ bs) (suc k) d h is = more (p b) (counted p bs k d (omega (arith, h)) is) where
  more : (t : Bool) → 0 < many p bs → 0 < cond t (1 + many p bs) (many p bs)
  more true rest = omega (arith, rest)
  more false rest = rest

-- a block with targets is there
with_targets : (f : Func) (b number : ℕ) → 0 < count_by (λ c. c == number) (targets_at (graph_of f) b) → b < length f.blocks
with_targets f b number some = go (cases_lt b (length f.blocks)) where
  go : (b < length f.blocks) ⊎ (length f.blocks ≤ b) → b < length f.blocks
  go (inl h) = h
  go (inr h) =
      let past : targets_at (graph_of f) b ≡ [] = get_or_past (graph_of f) b [] (rw (length-map f.blocks block_targets) h) in
      let none : 0 < count_by (λ c. c == number) [] = rw past at some in
      absurd (omega (arith, none))

incoming_there : (f : Func) (number : ℕ) (blocks : List ℕ) (os : List Opd) → IsIncoming f number (Phi blocks) os → All (IsThere f) blocks
incoming_there f number blocks os is k d within =
    let here : 0 < many (λ c. c == slice_index_or blocks k d) blocks = counted (λ c. c == slice_index_or blocks k d) blocks k d within (eq-eqb (slice_index_or blocks k d) (slice_index_or blocks k d) refl) in
    let same : many (λ c. c == slice_index_or blocks k d) blocks ≡ count_by (λ c. c == number) (targets_at (graph_of f) (slice_index_or blocks k d)) =
    many_is (λ c. c == slice_index_or blocks k d) blocks ∙ is.0 (slice_index_or blocks k d) in
    with_targets f (slice_index_or blocks k d) number (rw same at here)

lines_there : (f : Func) (number : ℕ) (op : Op) (os : List Opd) → All (IsTarget f) (op_targets op) → IsIncoming f number op os → is_call op ≡ false → All (IsThere f) (line_blocks op)
lines_there f number (Phi blocks) os to is c = incoming_there f number blocks os is
lines_there f number (Switch other cases to) os targets is c = All-cons (IsThere f) other [] (All-head (IsTarget f) other to targets).1 (All-nil (IsThere f))
lines_there f number op os to is c = All-weaker (IsTarget f) (IsThere f) (λ b h. h.1) (op_targets op) to

cases_there : (f : Func) (op : Op) → All (IsTarget f) (op_targets op) → All (IsThere f) (case_blocks op)
cases_there f (Switch other cases to) targets = All-weaker (IsTarget f) (IsThere f) (λ b h. h.1) to (All-tail (IsTarget f) other to targets)
cases_there f op targets = All-nil (IsThere f)

-- ---- instructions

-- what a formed instruction that is no call uses
pub record Uses (m : Module) (f : Func) (i : Inst) : Type 0 where
  pub operands : All (λ o. IsReal (opd_ty m f o)) i.opds
  pub shape : HasShape i.op i.opds
  pub blocks : All (λ b. b < length f.blocks) (line_blocks i.op)
  pub cases : All (λ b. b < length f.blocks) (case_blocks i.op)

pub uses : (m : Module) (f : Func) (number position : ℕ) (i : Inst) → IsFormedInst m f number position i → is_call i.op ≡ false → Uses m f i
uses m f number position i formed other = record {
  operands = All-unmap IsReal (opd_ty m f) i.opds (operands_real f.ret i.op i.ty (map (opd_ty m f) i.opds) formed.typed other);
  shape = has_shape f.ret i.op i.ty (opd_ty m f) i.opds formed.typed other;
  blocks = lines_there f number i.op i.opds formed.targets formed.incoming other;
  cases = cases_there f i.op formed.targets;
}

-- what holds of each member by its place, and of all
pub each_all : {X : Type 0} (Fine : ℕ → X → Type 0) (P Q : X → Type 0) → ((k : ℕ) (x : X) → Fine k x → P x → Q x) → (xs : List X) → Each Fine xs → All P xs → All Q xs
each_all Fine P Q both xs each all k d within = both k (slice_index_or xs k d) (each k (slice_index_or xs k d) (slice_get-get_or xs k d within)) (all k d within)
