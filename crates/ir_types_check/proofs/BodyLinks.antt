-- What the names of a statement stand for, one by one; and its targets, which are blocks of the function.
use Rattle.std.proofs.Common.{◌≡◌, ℕ, zero, suc, ◌+◌, ◌<◌, List, [], ◌∷◌, ◌++◌, length, map, Option, Some, None, Ok, refl, sym, ◌∙◌, ap, subst, arith, append_assoc}
use Rattle.std.proofs.lemmas.List.{append-nil}
use Rattle.std.specs.Prelude.{slice_get, unwrap_or}
use Rattle.std.specs.List.{All, AllZip}
use Rattle.std.proofs.lemmas.List.Elements.{All-nil, All-cons}
use Rattle.ir_types.specs.declared.opd.Opd.{Opd}
use Rattle.ir_types.specs.declared.op.Op.{Op}
use Rattle.ir_types.specs.declared.op.Op.TheVariants as ops
use Rattle.ir_types.specs.Available.{op_targets}
use Rattle.ir_draft.specs.declared.written.Arg.{Arg}
use Rattle.ir_draft.specs.declared.stmt.Stmt.{Stmt}
use Rattle.ir_draft.specs.declared.draft.Numbered.{Numbered}
use Rattle.ir_line.specs.Sound.{HasPlaces, IsCallOp}
use Rattle.ir_line.proofs.WholeLines.{ArePairsFrom, ArePlaced}
use Rattle.ir_types_check.specs.declared.locals.Meaning.{Meaning}
use Rattle.ir_types_check.specs.declared.locals.Meaning.TheVariants.{Value, Block}
use Rattle.ir_types_check.specs.declared.tops.Top.{Top}
use Rattle.ir_types_check.specs.declared.links.Linked.{Linked}
use Rattle.ir_types_check.specs.declared.links.Cases.{Cases}
use Rattle.ir_types_check.specs.Scope.{Scope, meaning}
use Rattle.ir_types_check.specs.Links.{block_of, opd_of, opds_onto, blocks_onto, in_order, with_pair, pairs_onto, linked_by, linked, lane_of, Choice, choices, with_choice, cases_onto, cases_of, block_at, op_of}
use Rattle.ir_types_check.specs.Typed.{number_in, number_of, number_at, targets, choice_targets, case_targets}
use Rattle.ir_types_check.proofs.Binding.{bind_ok, ok_is, refused}

-- ---- blocks

-- the label means that block
abbrev pub Means : Scope Meaning → List ℕ → ℕ → Type 0
Means locals label b = meaning label locals ≡ Some (Block b)

pub block_means : (n : ℕ) (label : List ℕ) (m : Option Meaning) (b : ℕ) → block_of n label m ≡ Ok b → m ≡ Some (Block b)
block_means n label None b e = refused e
block_means n label (Some (Value place ty)) b e = refused e
block_means n label (Some (Block number)) b e = ap (λ k. Some (Block k)) (ok_is e)

-- some label means that block
abbrev pub IsKnown : Scope Meaning → ℕ → Type 0
IsKnown locals b = (label : List ℕ) × Means locals label b

abbrev pub IsOpdOf : Scope Top → Scope Meaning → ℕ → ℕ → Arg → Opd → Type 0
IsOpdOf tops locals base n a o = opd_of tops locals base n a.opd ≡ Ok o

pub record AreLinked (tops : Scope Top) (locals : Scope Meaning) (base n : ℕ) (args : List Arg) (labels : List (List ℕ)) (l : Linked) : Type 0 where
  pub opds : AllZip (IsOpdOf tops locals base n) args l.opds
  pub blocks : AllZip (Means locals) labels l.blocks

module _ (tops : Scope Top) (locals : Scope Meaning) (base n : ℕ) where
  opds_are : (done : List Opd) (args : List Arg) (opds : List Opd) → opds_onto tops locals base n done args ≡ Ok opds → (new : List Opd) × (opds ≡ done ++ new) × AllZip (IsOpdOf tops locals base n) args new
  opds_are done [] opds e = ([], sym (ok_is e) ∙ sym (append-nil done), tt)
  opds_are done (a ∷ args) opds e =
      bind_ok (opd_of tops locals base n a.opd) _ opds e (λ o was now.
      let more : (new : List Opd) × (opds ≡ (done ++ o ∷ []) ++ new) × AllZip (IsOpdOf tops locals base n) args new = opds_are (done ++ o ∷ []) args opds now in
      (o ∷ more.0, more.1 ∙ append_assoc done (o ∷ []) more.0, (was, more.2)))

  blocks_are : (done : List ℕ) (labels : List (List ℕ)) (blocks : List ℕ) → blocks_onto locals n done labels ≡ Ok blocks → (new : List ℕ) × (blocks ≡ done ++ new) × AllZip (Means locals) labels new
  blocks_are done [] blocks e = ([], sym (ok_is e) ∙ sym (append-nil done), tt)
  blocks_are done (l ∷ labels) blocks e =
      bind_ok (block_of n l (meaning l locals)) _ blocks e (λ b was now.
      let more : (new : List ℕ) × (blocks ≡ (done ++ b ∷ []) ++ new) × AllZip (Means locals) labels new = blocks_are (done ++ b ∷ []) labels blocks now in
      (b ∷ more.0, more.1 ∙ append_assoc done (b ∷ []) more.0, (block_means n l (meaning l locals) b was, more.2)))

  in_order_are : (s : Stmt) (l : Linked) → in_order tops locals base n s ≡ Ok l → AreLinked tops locals base n s.args s.labels l
  unfolding in_order
  in_order_are s l e =
      bind_ok (opds_onto tops locals base n [] s.args) _ l e (λ opds was now.
      bind_ok (blocks_onto locals n [] s.labels) _ l now (λ blocks is then'.
      let o : (new : List Opd) × (opds ≡ [] ++ new) × AllZip (IsOpdOf tops locals base n) s.args new = opds_are [] s.args opds was in
      let b : (new : List ℕ) × (blocks ≡ [] ++ new) × AllZip (Means locals) s.labels new = blocks_are [] s.labels blocks is in
      subst (AreLinked tops locals base n s.args s.labels) (ok_is then') (record {
        opds = subst (AllZip (IsOpdOf tops locals base n) s.args) (sym o.1) o.2;
        blocks = subst (AllZip (Means locals) s.labels) (sym b.1) b.2;
      })))

  record Paired (done l : Linked) (args : List Arg) (labels : List (List ℕ)) : Type 0 where
    opds : List Opd
    blocks : List ℕ
    opds_is : l.opds ≡ done.opds ++ opds
    blocks_is : l.blocks ≡ done.blocks ++ blocks
    opds_zip : AllZip (IsOpdOf tops locals base n) args opds
    blocks_zip : AllZip (Means locals) labels blocks

  pairs_are : (at : ℕ) (places : List ℕ) (done : Linked) (args : List Arg) (labels : List (List ℕ)) (l : Linked) → ArePairsFrom at places labels args →
      pairs_onto tops locals base n done args labels ≡ Ok l → Paired done l args labels
  unfolding with_pair
  pairs_are at [] done [] [] l h e = record {
    opds = [];
    blocks = [];
    opds_is = sym (ap (λ (x : Linked). x.opds) (ok_is e)) ∙ sym (append-nil done.opds);
    blocks_is = sym (ap (λ (x : Linked). x.blocks) (ok_is e)) ∙ sym (append-nil done.blocks);
    opds_zip = tt;
    blocks_zip = tt;
  }
  pairs_are at [] done (a ∷ args) [] l h e = absurd h
  pairs_are at [] done [] (x ∷ labels) l h e = absurd h
  pairs_are at [] done (a ∷ args) (x ∷ labels) l h e = absurd h
  pairs_are at (p ∷ places) done [] [] l h e = absurd h
  pairs_are at (p ∷ places) done (a ∷ args) [] l h e = absurd h
  pairs_are at (p ∷ places) done [] (x ∷ labels) l h e = absurd h
  pairs_are at (p ∷ places) done (a ∷ args) (x ∷ labels) l h e =
      bind_ok (with_pair tops locals base n done a.opd x) _ l e (λ m was now.
      bind_ok (opd_of tops locals base n a.opd) _ m was (λ o is then'.
      bind_ok (block_of n x (meaning x locals)) _ m then' (λ b has last.
      let r : Paired m l args labels = pairs_are (at + 1) places m args labels l h.1 now in
      let opds_m : m.opds ≡ done.opds ++ o ∷ [] = sym (ap (λ (x : Linked). x.opds) (ok_is last)) in
      let blocks_m : m.blocks ≡ done.blocks ++ b ∷ [] = sym (ap (λ (x : Linked). x.blocks) (ok_is last)) in
      record {
        opds = o ∷ r.opds;
        blocks = b ∷ r.blocks;
        opds_is = r.opds_is ∙ ap (λ xs. xs ++ r.opds) opds_m ∙ append_assoc done.opds (o ∷ []) r.opds;
        blocks_is = r.blocks_is ∙ ap (λ xs. xs ++ r.blocks) blocks_m ∙ append_assoc done.blocks (b ∷ []) r.blocks;
        opds_zip = (is, r.opds_zip);
        blocks_zip = (block_means n x (meaning x locals) b has, r.blocks_zip);
      })))

  pub links_are : (s : Stmt) (l : Linked) → (IsCallOp s.op → ⊥) → ArePlaced s.op s.labels s.args → linked tops locals base n s ≡ Ok l → AreLinked tops locals base n s.args s.labels l
  links_are s l uncalled placed e = here s.op uncalled placed e where
    here : (op : Op) → (IsCallOp op → ⊥) → ArePlaced op s.labels s.args → linked_by tops locals base n s op ≡ Ok l → AreLinked tops locals base n s.args s.labels l
    here (ops.Phi places) uncalled placed e =
        let p : Paired (record { opds = []; blocks = [] }) l s.args s.labels = pairs_are 0 places (record { opds = []; blocks = [] }) s.args s.labels l placed e in
        record { opds = subst (AllZip (IsOpdOf tops locals base n) s.args) (sym p.opds_is) p.opds_zip; blocks = subst (AllZip (Means locals) s.labels) (sym p.blocks_is) p.blocks_zip }
    here (ops.Call site) uncalled placed e = absurd (uncalled tt)
    here _ uncalled placed e = in_order_are s l e

-- ---- places of labels

pub record BlockAt (locals : Scope Meaning) (labels : List (List ℕ)) (blocks : List ℕ) (p : ℕ) : Type 0 where
  pub label : List ℕ
  pub there : slice_get labels p ≡ Some label
  pub means : Means locals label (block_at blocks p)

pub block_there : (locals : Scope Meaning) (labels : List (List ℕ)) (blocks : List ℕ) (p : ℕ) → AllZip (Means locals) labels blocks → p < length labels → BlockAt locals labels blocks p
block_there locals [] [] p z less = absurd (omega (arith, less))
block_there locals [] (b ∷ bs) p z less = absurd z
block_there locals (l ∷ ls) [] p z less = absurd z
block_there locals (l ∷ ls) (b ∷ bs) zero z less = record { label = l; there = refl; means = z.0 }
block_there locals (l ∷ ls) (b ∷ bs) (suc p) z less =
    let r : BlockAt locals ls bs p = block_there locals ls bs p z.1 (omega (arith, less)) in
    record { label = r.label; there = r.there; means = r.means }

pub number_is : (locals : Scope Meaning) (labels : List (List ℕ)) (blocks : List ℕ) (p : ℕ) → AllZip (Means locals) labels blocks → p < length labels → block_at blocks p ≡ number_at locals labels p
number_is locals labels blocks p z less =
    let r : BlockAt locals labels blocks p = block_there locals labels blocks p z less in
    sym (ap (λ o. number_of locals (unwrap_or o [])) r.there ∙ ap number_in r.means)

known_at : (locals : Scope Meaning) (labels : List (List ℕ)) (blocks : List ℕ) (p : ℕ) → AllZip (Means locals) labels blocks → p < length labels → IsKnown locals (block_at blocks p)
known_at locals labels blocks p z less = let r : BlockAt locals labels blocks p = block_there locals labels blocks p z less in (r.label, r.means)

-- ---- the cases of a switch

pub record AreCases (locals : Scope Meaning) (cs : List Choice) (done cases : Cases) : Type 0 where
  pub values : cases.values ≡ done.values ++ map (λ (c : Choice). lane_of c.value) cs
  pub to : cases.to ≡ done.to ++ choice_targets locals cs
  pub known : All (IsKnown locals) (choice_targets locals cs)

pub cases_are : (locals : Scope Meaning) (done : Cases) (cs : List Choice) (cases : Cases) → cases_onto locals done cs ≡ Ok cases → AreCases locals cs done cases
unfolding with_choice
cases_are locals done [] cases e = record {
  values = sym (ap (λ (x : Cases). x.values) (ok_is e)) ∙ sym (append-nil done.values);
  to = sym (ap (λ (x : Cases). x.to) (ok_is e)) ∙ sym (append-nil done.to);
  known = All-nil (IsKnown locals);
}
cases_are locals done (c ∷ cs) cases e =
    bind_ok (with_choice locals done c) _ cases e (λ m was now.
    bind_ok (block_of c.line c.label (meaning c.label locals)) _ m was (λ b is then'.
    let r : AreCases locals cs m cases = cases_are locals m cs cases now in
    let means : Means locals c.label b = block_means c.line c.label (meaning c.label locals) b is in
    let number : number_of locals c.label ≡ b = ap number_in means in
    let values_m : m.values ≡ done.values ++ lane_of c.value ∷ [] = sym (ap (λ (x : Cases). x.values) (ok_is then')) in
    let to_m : m.to ≡ done.to ++ b ∷ [] = sym (ap (λ (x : Cases). x.to) (ok_is then')) in
    record {
      values = r.values ∙ ap (λ xs. xs ++ map (λ (c : Choice). lane_of c.value) cs) values_m ∙ append_assoc done.values (lane_of c.value ∷ []) (map (λ (c : Choice). lane_of c.value) cs);
      to = r.to ∙ ap (λ xs. xs ++ choice_targets locals cs) to_m ∙ append_assoc done.to (b ∷ []) (choice_targets locals cs) ∙ ap (λ x. done.to ++ x ∷ choice_targets locals cs) (sym number);
      known = All-cons (IsKnown locals) (number_of locals c.label) (choice_targets locals cs) (c.label, subst (Means locals c.label) (sym number) means) r.known;
    }))

-- ---- targets

pub record AreTargets (locals : Scope Meaning) (labels : List (List ℕ)) (blocks : List ℕ) (cases : Cases) (op : Op) (rest : List Numbered) : Type 0 where
  pub same : op_targets (op_of blocks cases op) ≡ targets locals labels op ++ case_targets locals op rest
  pub known : All (IsKnown locals) (op_targets (op_of blocks cases op))

pub targets_are : (locals : Scope Meaning) (labels : List (List ℕ)) (blocks : List ℕ) (cases : Cases) (op : Op) (rest : List Numbered) → AllZip (Means locals) labels blocks →
    HasPlaces op (length labels) → cases_of locals op rest ≡ Ok cases → AreTargets locals labels blocks cases op rest
targets_are locals labels blocks cases (ops.Br to) rest z h e = record {
  same = ap (λ x. x ∷ []) (number_is locals labels blocks to z h);
  known = All-cons (IsKnown locals) (block_at blocks to) [] (known_at locals labels blocks to z h) (All-nil (IsKnown locals));
}
targets_are locals labels blocks cases (ops.CondBr first second) rest z h e = record {
  same = ap (λ x. x ∷ block_at blocks second ∷ []) (number_is locals labels blocks first z h.0) ∙ ap (λ x. number_at locals labels first ∷ x ∷ []) (number_is locals labels blocks second z h.1);
  known = All-cons (IsKnown locals) (block_at blocks first) (block_at blocks second ∷ []) (known_at locals labels blocks first z h.0)
      (All-cons (IsKnown locals) (block_at blocks second) [] (known_at locals labels blocks second z h.1) (All-nil (IsKnown locals)));
}
targets_are locals labels blocks cases (ops.Switch other values to) rest z h e =
    let r : AreCases locals (choices rest) (record { values = []; to = [] }) cases = cases_are locals (record { values = []; to = [] }) (choices rest) cases e in
    record {
      same = ap (λ x. x ∷ cases.to) (number_is locals labels blocks other z h) ∙ ap (λ x. number_at locals labels other ∷ x) r.to;
      known = All-cons (IsKnown locals) (block_at blocks other) cases.to (known_at locals labels blocks other z h) (subst (All (IsKnown locals)) (sym r.to) r.known);
    }
targets_are locals labels blocks cases _ rest z h e = record { same = refl; known = All-nil (IsKnown locals) }
