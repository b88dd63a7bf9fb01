-- A statement that is well typed, with what its names stand for in their place: the types of its operands are those that are written.
use Rattle.std.proofs.Common.{◌≡◌, ℕ, suc, ◌+◌, ◌⊎◌, inl, inr, true, List, [], ◌∷◌, length, map, Option, Some, None, Ok, refl, sym, ◌∙◌, ap, subst, eqb-true}
use Rattle.std.specs.Prelude.{nat_eq, nat_lt, if◌then◌else◌}
use Rattle.std.specs.List.{All, AllZip, AllPairs, list_all}
use Rattle.std.proofs.lemmas.List.Elements.{All-nil, All-cons, All-head, All-tail}
use Rattle.ir_types.specs.declared.ty.Ty.{Ty}
use Rattle.ir_types.specs.declared.ty.Ty.TheVariants.{Void, Int, Ptr, Row}
use Rattle.ir_types.specs.declared.opd.Opd.{Opd}
use Rattle.ir_types.specs.declared.op.Op.{Op}
use Rattle.ir_types.specs.declared.op.Op.TheVariants as ops
use Rattle.ir_types.specs.declared.func.Func.{Func}
use Rattle.ir_types.specs.declared.module.Module.{Module}
use Rattle.ir_types.specs.Typed.{is_value, IsCase, IsTyped, same_ty}
use Rattle.ir_types.specs.Formed.{value_ty, opd_ty, IsOpd}
use Rattle.ir_draft.specs.declared.written.Written.{Written}
use Rattle.ir_draft.specs.declared.written.Written.TheVariants as written
use Rattle.ir_draft.specs.declared.written.Arg.{Arg}
use Rattle.ir_draft.specs.declared.stmt.Stmt.{Stmt}
use Rattle.ir_line.specs.Sound.{IsSoundOpd, IsSoundOp, written_types, IsCallOp}
use Rattle.ir_line.proofs.WholeLines.{Pointed, IsPointed}
use Rattle.ir_types_check.specs.declared.locals.Meaning.{Meaning}
use Rattle.ir_types_check.specs.declared.locals.Meaning.TheVariants.{Value, Block}
use Rattle.ir_types_check.specs.declared.tops.Top.{Top}
use Rattle.ir_types_check.specs.declared.tops.Top.TheVariants.{Global, Function, Other}
use Rattle.ir_types_check.specs.declared.links.Cases.{Cases}
use Rattle.ir_types_check.specs.Scope.{Scope, meaning}
use Rattle.ir_types_check.specs.Links.{value_of, global_of, opd_of, block_at, op_of}
use Rattle.ir_types_check.specs.Typed.{is_value_of, fits_type, arg_fits, first_ty, op_fits}
use Rattle.ir_types.proofs.SameTypes.{same_is}
use Rattle.ir_types_check.proofs.Binding.{ok_is, refused, clash, both}
use Rattle.ir_types_check.proofs.BodyLinks.{IsOpdOf}

-- what the names of values and globals mean is there
pub record IsThere (m : Module) (func : Func) (tops : Scope Top) (locals : Scope Meaning) (base : ℕ) : Type 0 where
  pub values : (name : List ℕ) (place : ℕ) (ty : Ty) → meaning name locals ≡ Some (Value place ty) → value_ty func (record { region = 0; k = base + place }) ≡ Some ty
  pub globals : (name : List ℕ) (g : ℕ) → meaning name tops ≡ Some (Global g) → nat_lt g (length m.globals) ≡ true

module _ (m : Module) (func : Func) (tops : Scope Top) (locals : Scope Meaning) (base n : ℕ) (there : IsThere m func tops locals base) where
  value_typed : (ty : Ty) (name : List ℕ) (o : Opd) (found : Option Meaning) → meaning name locals ≡ found → value_of base n name found ≡ Ok o → is_value_of ty found ≡ true → (opd_ty m func o ≡ Some ty) × IsOpd o
  value_typed ty name o None is e f = refused e
  value_typed ty name o (Some (Block k)) is e f = refused e
  value_typed ty name o (Some (Value place t)) is e f =
      subst (λ x. (opd_ty m func x ≡ Some ty) × IsOpd x) (ok_is e) (there.values name place t is ∙ ap (λ x. Some x) (same_is t ty f), tt)

  global_typed : (ty : Ty) (name : List ℕ) (o : Opd) (found : Option Top) → meaning name tops ≡ found → global_of n name found ≡ Ok o → ty ≡ Ptr → (opd_ty m func o ≡ Some ty) × IsOpd o
  global_typed ty name o None is e f = refused e
  global_typed ty name o (Some (Function s)) is e f = refused e
  global_typed ty name o (Some Other) is e f = refused e
  global_typed ty name o (Some (Global g)) is e f =
      let less : nat_lt g (length m.globals) ≡ true = there.globals name g is in
      subst (λ x. (opd_ty m func x ≡ Some ty) × IsOpd x) (ok_is e) (ap (λ b. if b then Some Ptr else None) less ∙ ap (λ x. Some x) (sym f), tt)

  opd_typed : (ty : Ty) (w : Written) (o : Opd) → opd_of tops locals base n w ≡ Ok o → fits_type locals ty w ≡ true → IsSoundOpd ty w → IsPointed ty w → (opd_ty m func o ≡ Some ty) × IsOpd o
  opd_typed ty (written.Local name) o e f s p = value_typed ty name o (meaning name locals) refl e f
  opd_typed ty (written.Symbol name) o e f s p = global_typed ty name o (meaning name tops) refl e p
  opd_typed ty (written.Lit literal) o e f s p = subst (λ x. (opd_ty m func x ≡ Some ty) × IsOpd x) (ok_is e) (ap (λ x. Some x) s.0, s.1)

  pub opds_typed : (args : List Arg) (opds : List Opd) → AllZip (IsOpdOf tops locals base n) args opds → list_all (arg_fits locals) args ≡ true →
      All (λ (a : Arg). IsSoundOpd a.ty a.opd) args → All Pointed args → (map (opd_ty m func) opds ≡ written_types args) × All IsOpd opds
  opds_typed [] [] z f s p = (refl, All-nil IsOpd)
  opds_typed [] (o ∷ opds) z f s p = absurd z
  opds_typed (a ∷ args) [] z f s p = absurd z
  opds_typed (a ∷ args) (o ∷ opds) z f s p =
      let g : (arg_fits locals a ≡ true) × (list_all (arg_fits locals) args ≡ true) = both (arg_fits locals a) (list_all (arg_fits locals) args) f in
      let here : (opd_ty m func o ≡ Some a.ty) × IsOpd o =
      opd_typed a.ty a.opd o z.0 g.0 (All-head (λ (a : Arg). IsSoundOpd a.ty a.opd) a args s) (All-head Pointed a args p) in
      let more : (map (opd_ty m func) opds ≡ written_types args) × All IsOpd opds =
      opds_typed args opds z.1 g.1 (All-tail (λ (a : Arg). IsSoundOpd a.ty a.opd) a args s) (All-tail Pointed a args p) in
      (ap (λ x. x ∷ map (opd_ty m func) opds) here.0 ∙ ap (λ xs. Some a.ty ∷ xs) more.0, All-cons IsOpd o opds here.1 more.1)

-- ---- operations

pub map_length : {A B : Type 0} (f : A → B) (xs : List A) → length (map f xs) ≡ length xs
map_length f [] = refl
map_length f (x ∷ xs) = ap (λ n. suc n) (map_length f xs)

-- the cases of a `switch` of so many bits
pub record FitCases (w : ℕ) (cases : Cases) : Type 0 where
  pub many : length cases.values ≡ length cases.to
  pub each : All (IsCase w) cases.values
  pub once : AllPairs (λ (a b : Option ℕ). a ≡ b → ⊥) cases.values

abbrev pub FitIfSwitch : Op → List Arg → Cases → Type 0
FitIfSwitch (ops.Switch other values to) args cases = (w : ℕ) → first_ty args ≡ Int w → FitCases w cases
FitIfSwitch _ args cases = Unit {0}

first_is : (args : List Arg) (t : Ty) → written_types args ≡ Some t ∷ [] → first_ty args ≡ t
first_is [] t e = cc
first_is (a ∷ args) t e = cc

none_are : (args : List Arg) → written_types args ≡ [] → first_ty args ≡ Void
none_are [] e = refl
none_are (a ∷ args) e = cc

pub op_typed : (tops : Scope Top) (locals : Scope Meaning) (ret : Ty) (edges : List (List ℕ)) (here : ℕ) (s : Stmt) (blocks : List ℕ) (cases : Cases) (op : Op) → (IsCallOp op → ⊥) →
    IsSoundOp op s.ty (written_types s.args) → op_fits tops locals ret edges here s op ≡ true → FitIfSwitch op s.args cases → IsTyped ret (op_of blocks cases op) s.ty (written_types s.args)
op_typed tops locals ret edges here s blocks cases (ops.Phi places) uncalled h f c = (h.0, map_length (block_at blocks) places ∙ h.1, h.2, h.3)
op_typed tops locals ret edges here s blocks cases ops.Ret uncalled h f c = (
  h.0,
  elim h.1 as (λ _. ((ret ≡ Void) × (written_types s.args ≡ [])) ⊎ ((is_value ret ≡ true) × (written_types s.args ≡ Some ret ∷ []))) [
    | inl none ↦ inl (sym (same_is (first_ty s.args) ret f) ∙ none_are s.args none, none)
    | inr one ↦
        let same : one.0 ≡ ret = sym (first_is s.args one.0 one.2) ∙ same_is (first_ty s.args) ret f in
        inr (subst (λ t. is_value t ≡ true) same one.1, one.2 ∙ ap (λ t. Some t ∷ []) same)
  ],
)
op_typed tops locals ret edges here s blocks cases (ops.Switch other values to) uncalled h f c =
    let g : FitCases h.0 cases = c h.0 (first_is s.args (Int h.0) h.3) in
    (h.0, h.1, h.2, g.many, g.each, g.once, h.3)
op_typed tops locals ret edges here s blocks cases (ops.Call site) uncalled h f c = absurd (uncalled tt)
op_typed tops locals ret edges here s blocks cases _ uncalled h f c = h
