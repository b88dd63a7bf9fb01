-- What an instruction that was built is made of: its statement's name, type and operation, and what its operands were written as.
use Rattle.std.proofs.Common.{◌≡◌, ℕ, List, [], ◌∷◌, ◌++◌, Option, Some, None, Ok, refl, subst}
use Rattle.std.proofs.lemmas.List.Elements.{All-nil, All-head, All-tail, All-push}
use Rattle.std.specs.List.{All}
use Rattle.std.specs.Prelude.{slice_get}
use Rattle.ir_types.specs.declared.opd.Opd.{Opd}
use Rattle.ir_types.specs.declared.opd.Opd.TheVariants.{Val, Lit, Sym}
use Rattle.ir_types.specs.declared.op.Op.{Op}
use Rattle.ir_types.specs.declared.op.Op.TheVariants as ops
use Rattle.ir_types.specs.declared.inst.Inst.{Inst}
use Rattle.ir_draft.specs.declared.written.Written.{Written}
use Rattle.ir_draft.specs.declared.written.Written.TheVariants as written'
use Rattle.ir_draft.specs.declared.written.Arg.{Arg}
use Rattle.ir_draft.specs.declared.stmt.Stmt.{Stmt}
use Rattle.ir_draft.specs.declared.draft.Numbered.{Numbered}
use Rattle.ir_types_check.specs.declared.locals.Meaning.{Meaning}
use Rattle.ir_types_check.specs.declared.locals.Meaning.TheVariants.{Value, Block}
use Rattle.ir_types_check.specs.declared.tops.Top.{Top}
use Rattle.ir_types_check.specs.declared.tops.Top.TheVariants.{Global, Function, Other}
use Rattle.ir_types_check.specs.declared.links.Linked.{Linked}
use Rattle.ir_types_check.specs.declared.links.Cases.{Cases}
use Rattle.ir_types_check.specs.Scope.{Scope, meaning}
use Rattle.ir_types_check.specs.Outline.{written}
use Rattle.ir_types_check.specs.Links.{value_of, global_of, block_of, callee_of, opd_of, opds_onto, blocks_onto, in_order, with_pair, pairs_onto, linked_by, linked, cases_of, op_of}
use Rattle.ir_types_check.specs.Blocks.{inst_of}
use Rattle.ir_types_check.proofs.Binding.{bind_ok, ok_is, refused}

-- what cases of a `switch` are found to be
abbrev pub FoundCases : Type 0
FoundCases = Cases

-- an operand as it is written, and what it was found to be
abbrev pub IsFound : List (List ℕ) → Written → Opd → Type 0
IsFound globals (written'.Local name) (Val id) = Unit {0}
IsFound globals (written'.Symbol name) (Sym g) = slice_get globals g ≡ Some name
IsFound globals (written'.Lit literal) (Lit found) = found ≡ literal
IsFound globals _ _ = ⊥

-- a global's number is its place
abbrev pub AreKnown : Scope Top → List (List ℕ) → Type 0
AreKnown tops globals = (name : List ℕ) (g : ℕ) → meaning name tops ≡ Some (Global g) → slice_get globals g ≡ Some name

module _ (FineStmt : Stmt → Type 0) (FineOpd : Written → Type 0) (args : (s : Stmt) → FineStmt s → All (λ (a : Arg). FineOpd a.opd) s.args) (globals : List (List ℕ)) where
  pub record IsFineOpd (o : Opd) : Type 0 where
    pub from : Written
    pub fine : FineOpd from
    pub is : IsFound globals from o

  pub record IsFineInst (i : Inst) : Type 0 where
    pub stmt : Stmt
    pub fine : FineStmt stmt
    pub name : i.name ≡ written stmt.result
    pub ty : i.ty ≡ stmt.ty
    pub blocks : List ℕ
    pub cases : Cases
    pub op : i.op ≡ op_of blocks cases stmt.op
    pub opds : All IsFineOpd i.opds

  module _ (tops : Scope Top) (known : AreKnown tops globals) (locals : Scope Meaning) (base n : ℕ) where
    opd_found : (w : Written) (o : Opd) → opd_of tops locals base n w ≡ Ok o → IsFound globals w o
    opd_found (written'.Local name) o e = here (meaning name locals) e where
      here : (m : Option Meaning) → value_of base n name m ≡ Ok o → IsFound globals (written'.Local name) o
      here None e = refused e
      here (Some (Value place ty)) e = subst (IsFound globals (written'.Local name)) (ok_is e) tt
      here (Some (Block number)) e = refused e
    opd_found (written'.Symbol name) o e = here (meaning name tops) refl e where
      here : (m : Option Top) → meaning name tops ≡ m → global_of n name m ≡ Ok o → IsFound globals (written'.Symbol name) o
      here None s e = refused e
      here (Some (Global g)) s e = subst (IsFound globals (written'.Symbol name)) (ok_is e) (known name g s)
      here (Some (Function signature)) s e = refused e
      here (Some Other) s e = refused e
    opd_found (written'.Lit literal) o e = subst (IsFound globals (written'.Lit literal)) (ok_is e) refl

    one_found : (a : Arg) (o : Opd) → FineOpd a.opd → opd_of tops locals base n a.opd ≡ Ok o → IsFineOpd o
    one_found a o f e = record { from = a.opd; fine = f; is = opd_found a.opd o e }

    FineArg : Arg → Type 0
    FineArg a = FineOpd a.opd

    opds_found : (done : List Opd) (as' : List Arg) (opds : List Opd) → All IsFineOpd done → All FineArg as' → opds_onto tops locals base n done as' ≡ Ok opds → All IsFineOpd opds
    unfolding FineArg
    opds_found done [] opds all fine e = subst (All IsFineOpd) (ok_is e) all
    opds_found done (a ∷ as') opds all fine e =
        bind_ok (opd_of tops locals base n a.opd) _ opds e (λ o was now.
        opds_found (done ++ o ∷ []) as' opds (All-push IsFineOpd done o all (one_found a o (All-head FineArg a as' fine) was)) (All-tail FineArg a as' fine) now)

    in_order_found : (s : Stmt) (l : Linked) → All FineArg s.args → in_order tops locals base n s ≡ Ok l → All IsFineOpd l.opds
    unfolding in_order
    in_order_found s l fine e =
        bind_ok (opds_onto tops locals base n [] s.args) _ l e (λ opds was now.
        bind_ok (blocks_onto locals n [] s.labels) _ l now (λ blocks _ is.
        subst (λ (x : Linked). All IsFineOpd x.opds) (ok_is is) (opds_found [] s.args opds (All-nil IsFineOpd) fine was)))

    pairs_found : (done : Linked) (as' : List Arg) (labels : List (List ℕ)) (l : Linked) → All IsFineOpd done.opds → All FineArg as' → pairs_onto tops locals base n done as' labels ≡ Ok l → All IsFineOpd l.opds
    unfolding with_pair FineArg
    pairs_found done [] [] l all fine e = subst (λ (x : Linked). All IsFineOpd x.opds) (ok_is e) all
    pairs_found done [] (x ∷ labels) l all fine e = subst (λ (x : Linked). All IsFineOpd x.opds) (ok_is e) all
    pairs_found done (a ∷ as') [] l all fine e = subst (λ (x : Linked). All IsFineOpd x.opds) (ok_is e) all
    pairs_found done (a ∷ as') (x ∷ labels) l all fine e =
        bind_ok (with_pair tops locals base n done a.opd x) _ l e (λ m was now.
        bind_ok (opd_of tops locals base n a.opd) _ m was (λ o is then'.
        bind_ok (block_of n x (meaning x locals)) _ m then' (λ b _ last.
        let more : All IsFineOpd (done.opds ++ o ∷ []) = All-push IsFineOpd done.opds o all (one_found a o (All-head FineArg a as' fine) is) in
        pairs_found m as' labels l (subst (λ (x : Linked). All IsFineOpd x.opds) (ok_is last) more) (All-tail FineArg a as' fine) now)))

    linked_found : (s : Stmt) (l : Linked) → All FineArg s.args → linked tops locals base n s ≡ Ok l → All IsFineOpd l.opds
    linked_found s l fine e = here s.op e where
      here : (op : Op) → linked_by tops locals base n s op ≡ Ok l → All IsFineOpd l.opds
      here (ops.Phi places) e = pairs_found (record { opds = []; blocks = [] }) s.args s.labels l (All-nil IsFineOpd) fine e
      here (ops.Call site) e = bind_ok (callee_of n site.callee (meaning site.callee tops)) _ l e (λ _ _ now. in_order_found s l fine now)
      here _ e = in_order_found s l fine e

    pub inst_found : (k : ℕ) (s : Stmt) (rest : List Numbered) (inst : Inst) → FineStmt s → inst_of tops locals base k n s rest ≡ Ok inst → IsFineInst inst
    unfolding inst_of FineArg
    inst_found k s rest inst fine e =
        bind_ok (linked tops locals base n s) _ inst e (λ l was now.
        bind_ok (cases_of locals s.op rest) _ inst now (λ c _ is.
        subst IsFineInst (ok_is is) (record {
          stmt = s;
          fine = fine;
          name = refl;
          ty = refl;
          blocks = l.blocks;
          cases = c;
          op = refl;
          opds = linked_found s l (args s fine) was;
        })))
