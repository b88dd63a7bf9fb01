-- The instruction that a statement of a well typed function is: with names in the place of ids it is that statement.
use Rattle.std.proofs.Common.{◌≡◌, ℕ, ◌+◌, ◌<◌, Bool, true, false, List, [], ◌∷◌, ◌++◌, length, map, Option, Some, None, Ok, refl, sym, ◌∙◌, ap, subst, append_assoc}
use Rattle.std.specs.Prelude.{slice_get, unwrap_or}
use Rattle.std.specs.List.{All, AllZip, list_all}
use Rattle.std.proofs.lemmas.List.{append-nil}
use Rattle.std.proofs.lemmas.List.Elements.{All-nil, All-cons, All-head, All-tail}
use Rattle.ir_types.specs.declared.ty.Ty.{Ty}
use Rattle.ir_types.specs.declared.ty.Ty.TheVariants.{Void, Ptr}
use Rattle.ir_types.specs.declared.literal.Literal.{Literal}
use Rattle.ir_types.specs.declared.opd.Opd.{Opd}
use Rattle.ir_types.specs.declared.opd.Opd.TheVariants.{Val, Lit, Sym}
use Rattle.ir_types.specs.declared.op.Op.{Op}
use Rattle.ir_types.specs.declared.op.Op.TheVariants as ops
use Rattle.ir_types.specs.declared.inst.Inst.{Inst}
use Rattle.ir_draft.specs.declared.written.Written.{Written}
use Rattle.ir_draft.specs.declared.written.Written.TheVariants as written
use Rattle.ir_draft.specs.declared.written.Arg.{Arg}
use Rattle.ir_draft.specs.declared.stmt.Stmt.{Stmt}
use Rattle.ir_draft.specs.declared.line.Line.{Line}
use Rattle.ir_draft.specs.declared.line.Line.TheVariants as line
use Rattle.ir_draft.specs.declared.draft.Numbered.{Numbered}
use Rattle.ir_line.specs.Sound.{IsSoundOpd, IsSoundCase, IsCallOp, HasPlaces}
use Rattle.ir_line.proofs.WholeLines.{Pointed, IsPointed, ArePairsFrom, ArePlaced}
use Rattle.ir_print.specs.declared.names.Local.{Local}
use Rattle.ir_print.specs.Names.{Names, local_of, is_store, is_void}
use Rattle.ir_print.specs.Operands.{local_ty}
use Rattle.ir_types_check.specs.Answers.{well_typed}
use Rattle.ir_types_check.specs.Scope.{Scope, meaning}
use Rattle.ir_types_check.specs.Links as links
use Rattle.ir_types_check.specs.Links.{value_of, block_of, opd_of, opds_onto, blocks_onto, in_order, linked, lane_of, Choice, choice_before, choices, with_choice, cases_onto, block_at}
use Rattle.ir_types_check.specs.Blocks.{inst_of}
use Rattle.ir_types_check.specs.Typed as typed
use Rattle.ir_types.specs.Typed.{same_ty}
use Rattle.ir_types_check.specs.Typed.{is_value_of, fits_type, arg_fits, number_of, is_target, case_number, with_number, choice_fits, choices_typed, cases_typed}
use Rattle.ir_types_check.proofs.Binding.{bind_ok, ok_is, refused, both, typed_line}
use Rattle.ir_types_check.proofs.BodyLinks.{Means, block_means, IsOpdOf, AreLinked, links_are, BlockAt, block_there}
use Rattle.ir_types.proofs.SameTypes.{same_is}
use Rattle.ir_types_check.proofs.Handed.{LocalMeaning, value_at, block_at as block_meaning, TopMeaning, LinkedCases}
use Rattle.ir_types_check.proofs.ReadLinks.{IsFound, AreKnown, IsFineOpd, IsFineInst, inst_found}
use Rattle.rf_text.specs.Written.{shown_text, shown_block, arg_of, places_from, op_of, line_blocks, result_of, cases_of, first_ty, more_forms, forms_of}
use Rattle.rf_text.proofs.Named.Places.{id_at, slice_get-append, push_length}
use Rattle.rf_text.proofs.Spells.Forms.{HasResult, HasLabels, IsGoodStmt, IsGoodLine}
use Rattle.rf_text.proofs.Spells.Order.{is_switch, IsNextResult, IsGood}
use Rattle.rf_text.proofs.Spells.Scope.{Meant, Nothing, IsValue, IsBlock, IsInst, thing_of, Shows, shown_again}
use Rattle.rf_text.proofs.Named.Things.{Thing}

nothing : {A P : Type 0} {y : A} → None ≡ Some y → P
nothing e = cc

some_is : {A : Type 0} {x y : A} → Some x ≡ Some y → x ≡ y
some_is e = cc

-- ---- cases as lines

-- the lines of the cases after a `switch`, which are the first of these, and its end
abbrev pub case_lines : List Choice → List Line
case_lines [] = []
case_lines (c ∷ cs) = line.Case c.value c.label ∷ case_lines cs

abbrev pub pending : Bool → List Numbered → List Line
pending true rest = case_lines (choices rest) ++ line.CasesEnd ∷ []
pending false rest = []

abbrev IsSoundChoice : Choice → Type 0
IsSoundChoice c = IsSoundCase c.value

choices_sound : (rest : List Numbered) → All IsGood rest → All IsSoundChoice (choices rest)
choices_sound [] good = All-nil IsSoundChoice
choices_sound (x ∷ xs) good = go x.form (All-head IsGood x xs good) (choices_sound xs (All-tail IsGood x xs good)) where
  go : (form : Line) → IsGoodLine form → All IsSoundChoice (choices xs) → All IsSoundChoice (choice_before x.line form (choices xs))
  go (line.Case value label) s more = All-cons IsSoundChoice (record { line = x.line; value = value; label = label }) (choices xs) s more
  go _ s more = All-nil IsSoundChoice

HasTy : Ty → Choice → Type 0
HasTy ty c = same_ty c.value.ty ty ≡ true

choices_types : (scope : Scope LocalMeaning) (ty : Ty) (numbers : List ℕ) (cs : List Choice) (u : Unit {0}) → choices_typed scope ty numbers cs ≡ Ok u → All (HasTy ty) cs
unfolding HasTy
choices_types scope ty numbers [] u e = All-nil (HasTy ty)
choices_types scope ty numbers (c ∷ cs) u e =
    bind_ok (well_typed c.line (choice_fits scope ty numbers c)) _ u e (λ v was now.
    let fits : choice_fits scope ty numbers c ≡ true = typed_line c.line (choice_fits scope ty numbers c) v was in
    let a = both _ (is_target (number_of scope c.label)) fits in
    let b = both (same_ty c.value.ty ty) _ a.0 in
    All-cons (HasTy ty) c cs b.0 (choices_types scope ty (with_number numbers (case_number c)) cs u now))

-- ---- what is shown of names

pub record AreShown (scope : Scope LocalMeaning) (ns : Names) (base : ℕ) : Type 0 where
  pub meant : (name : List ℕ) → Meant name scope
  pub values : (name : List ℕ) (place : ℕ) (ty : Ty) → meaning name scope ≡ Some (value_at place ty) → local_of (id_at base place) ns.locals ≡ Some (record { id = id_at base place; ty = ty; text = name })
  pub blocks : (name : List ℕ) (k : ℕ) → meaning name scope ≡ Some (block_meaning k) → slice_get ns.labels k ≡ Some name

module _ (gs : List (List ℕ)) (tops : Scope TopMeaning) (known : AreKnown tops gs) (scope : Scope LocalMeaning) (ns : Names) (base : ℕ) (all : AreShown scope ns base) where
  -- ---- operands

  IsOwn : List ℕ → Written → Type 0
  IsOwn name w = w ≡ written.Symbol name

  IsOwnStmt : List ℕ → Stmt → Type 0
  IsOwnStmt name s = All (λ (a : Arg). IsOwn name a.opd) s.args

  own_args : (name : List ℕ) (s : Stmt) → IsOwnStmt name s → All (λ (a : Arg). IsOwn name a.opd) s.args
  unfolding IsOwnStmt
  own_args name s h = h

  -- a symbol is found as the global of its name: told of a statement that has it alone
  symbol_found : (n : ℕ) (name : List ℕ) (o : Opd) → opd_of tops scope base n (written.Symbol name) ≡ Ok o → IsFound gs (written.Symbol name) o
  unfolding inst_of in_order IsOwn IsOwnStmt
  symbol_found n name o e =
      let a : Arg = record { ty = Void; opd = written.Symbol name } in
      let s : Stmt = record { result = None; ty = Void; op = ops.Ret; args = record { ty = Void; opd = written.Symbol name } ∷ []; labels = [] } in
      let inst : Inst = record { id = record { region = 0; k = 0 }; name = None; ty = Void; op = ops.Ret; opds = o ∷ [] } in
      let made : inst_of tops scope base 0 n (record { result = None; ty = Void; op = ops.Ret; args = record { ty = Void; opd = written.Symbol name } ∷ []; labels = [] }) []
      ≡ Ok (record { id = record { region = 0; k = 0 }; name = None; ty = Void; op = ops.Ret; opds = o ∷ [] }) = rw e refl in
      let one : All (λ (x : Arg). x.opd ≡ written.Symbol name) (a ∷ []) = All-cons (λ (x : Arg). x.opd ≡ written.Symbol name) a [] refl (All-nil (λ (x : Arg). x.opd ≡ written.Symbol name)) in
      let found : IsFineInst (IsOwnStmt name) (IsOwn name) (own_args name) gs inst = inst_found (IsOwnStmt name) (IsOwn name) (own_args name) gs tops known scope base n 0 s [] inst one made in
      let first : IsFineOpd (IsOwnStmt name) (IsOwn name) (own_args name) gs o = All-head (IsFineOpd (IsOwnStmt name) (IsOwn name) (own_args name) gs) o [] found.opds in
      subst (λ w. IsFound gs w o) first.fine first.is

  local_is : (n : ℕ) (ty : Ty) (name : List ℕ) (o : Opd) → value_of base n name (meaning name scope) ≡ Ok o → is_value_of ty (meaning name scope) ≡ true → arg_of ns gs o ≡ record { ty = ty; opd = written.Local name }
  local_is n ty name o e f = go (all.meant name) where
    go : Meant name scope → arg_of ns gs o ≡ record { ty = ty; opd = written.Local name }
    go (Nothing m) = refused (subst (λ x. value_of base n name x ≡ Ok o) m e)
    go (IsBlock k m) = refused (subst (λ x. value_of base n name x ≡ Ok o) m e)
    go (IsValue place t m) =
        let is : Val (id_at base place) ≡ o = ok_is (subst (λ x. value_of base n name x ≡ Ok o) m e) in
        let same : t ≡ ty = same_is t ty (subst (λ x. is_value_of ty x ≡ true) m f) in
        let shows : local_of (id_at base place) ns.locals ≡ Some (record { id = id_at base place; ty = t; text = name }) = all.values name place t m in
        ap (arg_of ns gs) (sym is) ∙ ap (λ (l : Option Local). record { ty = local_ty l; opd = written.Local (shown_text l) }) shows ∙ ap (λ (x : Ty). record { ty = x; opd = written.Local name }) same

  symbol_is : (ty : Ty) (name : List ℕ) (o : Opd) → IsFound gs (written.Symbol name) o → ty ≡ Ptr → arg_of ns gs o ≡ record { ty = ty; opd = written.Symbol name }
  symbol_is ty name (Val id) h e = absurd h
  symbol_is ty name (Lit literal) h e = absurd h
  symbol_is ty name (Sym g) h e =
      ap (λ (x : Option (List ℕ)). record { ty = Ptr; opd = written.Symbol (unwrap_or x []) }) h ∙ ap (λ (x : Ty). record { ty = x; opd = written.Symbol name }) (sym e)

  opd_is : (n : ℕ) (ty : Ty) (w : Written) (o : Opd) → opd_of tops scope base n w ≡ Ok o → fits_type scope ty w ≡ true → IsSoundOpd ty w → IsPointed ty w → arg_of ns gs o ≡ record { ty = ty; opd = w }
  opd_is n ty (written.Local name) o e f s p = local_is n ty name o e f
  opd_is n ty (written.Symbol name) o e f s p = symbol_is ty name o (symbol_found n name o e) p
  opd_is n ty (written.Lit literal) o e f s p = ap (arg_of ns gs) (sym (ok_is e)) ∙ ap (λ (x : Ty). record { ty = x; opd = written.Lit literal }) s.0

  args_are : (n : ℕ) (args : List Arg) (opds : List Opd) → AllZip (IsOpdOf tops scope base n) args opds → list_all (arg_fits scope) args ≡ true → All (λ (a : Arg). IsSoundOpd a.ty a.opd) args → All Pointed args →
      map (arg_of ns gs) opds ≡ args
  args_are n [] [] z f s p = refl
  args_are n [] (o ∷ opds) z f s p = absurd z
  args_are n (a ∷ args) [] z f s p = absurd z
  args_are n (a ∷ args) (o ∷ opds) z f s p =
      let g : (arg_fits scope a ≡ true) × (list_all (arg_fits scope) args ≡ true) = both (arg_fits scope a) (list_all (arg_fits scope) args) f in
      ap (λ x. x ∷ map (arg_of ns gs) opds) (opd_is n a.ty a.opd o z.0 g.0 (All-head (λ (a : Arg). IsSoundOpd a.ty a.opd) a args s) (All-head Pointed a args p))
      ∙ ap (λ xs. a ∷ xs) (args_are n args opds z.1 g.1 (All-tail (λ (a : Arg). IsSoundOpd a.ty a.opd) a args s) (All-tail Pointed a args p))

  -- ---- labels

  label_is : (l : List ℕ) (b : ℕ) → Means scope l b → shown_block ns b ≡ l
  label_is l b m = ap (λ (x : Option (List ℕ)). unwrap_or x []) (all.blocks l b m)

  at_place : (labels : List (List ℕ)) (blocks : List ℕ) (p : ℕ) (l : List ℕ) → AllZip (Means scope) labels blocks → p < length labels → slice_get labels p ≡ Some l → shown_block ns (block_at blocks p) ≡ l
  at_place labels blocks p l z less e =
      let r : BlockAt scope labels blocks p = block_there scope labels blocks p z less in
      label_is r.label (block_at blocks p) r.means ∙ some_is (sym r.there ∙ e)

  -- the blocks of a phi are those of its labels in order
  phi_labels : (at : ℕ) (places : List ℕ) (labels : List (List ℕ)) (args : List Arg) (front back : List ℕ) → ArePairsFrom at places labels args → AllZip (Means scope) labels back → length front ≡ at →
      map (shown_block ns) (map (block_at (front ++ back)) places) ≡ labels
  phi_labels at [] [] [] front back h z e = refl
  phi_labels at [] [] (a ∷ args) front back h z e = absurd h
  phi_labels at [] (l ∷ labels) args front back h z e = absurd h
  phi_labels at (p ∷ places) [] args front back h z e = absurd h
  phi_labels at (p ∷ places) (l ∷ labels) [] front back h z e = absurd h
  phi_labels at (p ∷ places) (l ∷ labels) (a ∷ args) front [] h z e = absurd z
  phi_labels at (p ∷ places) (l ∷ labels) (a ∷ args) front (b ∷ back) h z e =
      let here : block_at (front ++ b ∷ back) p ≡ b = ap (block_at (front ++ b ∷ back)) h.0 ∙ ap (λ (x : Option ℕ). unwrap_or x 0) (slice_get-append front b back at e) in
      let more : map (shown_block ns) (map (block_at ((front ++ b ∷ []) ++ back)) places) ≡ labels = phi_labels (at + 1) places labels args (front ++ b ∷ []) back h.1 z.1 (push_length front b at e) in
      ap (λ x. shown_block ns x ∷ map (shown_block ns) (map (block_at (front ++ b ∷ back)) places)) here
      ∙ ap (λ x. x ∷ map (shown_block ns) (map (block_at (front ++ b ∷ back)) places)) (label_is l b z.0)
      ∙ ap (λ x. l ∷ map (shown_block ns) (map (block_at x) places)) (sym (append_assoc front (b ∷ []) back))
      ∙ ap (λ xs. l ∷ xs) more

  labels_are : (labels : List (List ℕ)) (args : List Arg) (blocks : List ℕ) (cases : LinkedCases) (op : Op) → (IsCallOp op → ⊥) → AllZip (Means scope) labels blocks → HasLabels op labels → HasPlaces op (length labels) → ArePlaced op labels args →
      map (shown_block ns) (line_blocks (links.op_of blocks cases op)) ≡ labels
  labels_are labels args blocks cases (ops.Br to) u z h p q =
      ap (λ x. x ∷ []) (at_place labels blocks to h.1.0 z p (ap (slice_get labels) h.0 ∙ ap (λ ls. slice_get ls 0) h.1.1)) ∙ sym h.1.1
  labels_are labels args blocks cases (ops.CondBr first second) u z h p q =
      ap (λ x. x ∷ shown_block ns (block_at blocks second) ∷ []) (at_place labels blocks first h.2.0 z p.0 (ap (slice_get labels) h.0 ∙ ap (λ ls. slice_get ls 0) h.2.2))
      ∙ ap (λ x. h.2.0 ∷ x ∷ []) (at_place labels blocks second h.2.1 z p.1 (ap (slice_get labels) h.1 ∙ ap (λ ls. slice_get ls 1) h.2.2)) ∙ sym h.2.2
  labels_are labels args blocks cases (ops.Switch other values to) u z h p q =
      ap (λ x. x ∷ []) (at_place labels blocks other h.3.0 z p (ap (slice_get labels) h.0 ∙ ap (λ ls. slice_get ls 0) h.3.1)) ∙ sym h.3.1
  labels_are labels args blocks cases (ops.Phi places) u z h p q = phi_labels 0 places labels args [] blocks q z refl
  labels_are labels args blocks cases (ops.Call site) u z h p q = absurd (u tt)
  labels_are labels args blocks cases _ u z h p q = sym h

  -- ---- operations

  places_are : (at : ℕ) (places : List ℕ) (labels : List (List ℕ)) (args : List Arg) (f : ℕ → ℕ) → ArePairsFrom at places labels args → places_from at (map f places) ≡ places
  places_are at [] [] [] f h = refl
  places_are at [] [] (a ∷ args) f h = absurd h
  places_are at [] (l ∷ labels) args f h = absurd h
  places_are at (p ∷ places) [] args f h = absurd h
  places_are at (p ∷ places) (l ∷ labels) [] f h = absurd h
  places_are at (p ∷ places) (l ∷ labels) (a ∷ args) f h = ap (λ x. x ∷ places_from (at + 1) (map f places)) (sym h.0) ∙ ap (λ xs. p ∷ xs) (places_are (at + 1) places labels args f h.1)

  op_is : (labels : List (List ℕ)) (args : List Arg) (blocks : List ℕ) (cases : LinkedCases) (op : Op) → HasLabels op labels → ArePlaced op labels args → op_of (links.op_of blocks cases op) ≡ op
  op_is labels args blocks cases (ops.Phi places) h q = ap ops.Phi (places_are 0 places labels args (block_at blocks) q)
  op_is labels args blocks cases (ops.Br to) h q = ap ops.Br (sym h.0)
  op_is labels args blocks cases (ops.CondBr first second) h q = ap (λ x. ops.CondBr x 1) (sym h.0) ∙ ap (λ x. ops.CondBr first x) (sym h.1)
  op_is labels args blocks cases (ops.Switch other values to) h q =
      ap (λ x. ops.Switch x [] []) (sym h.0) ∙ ap (λ xs. ops.Switch other xs []) (sym h.1) ∙ ap (λ xs. ops.Switch other values xs) (sym h.2)
  op_is labels args blocks cases _ h q = refl

  -- ---- cases

  CaseMeans : Choice → ℕ → Type 0
  CaseMeans c b = Means scope c.label b

  record AreCases (done cases : LinkedCases) (cs : List Choice) : Type 0 where
    new : List ℕ
    values : cases.values ≡ done.values ++ map (λ (c : Choice). lane_of c.value) cs
    to : cases.to ≡ done.to ++ new
    each : AllZip CaseMeans cs new

  cases_found : (done cases : LinkedCases) (cs : List Choice) → cases_onto scope done cs ≡ Ok cases → AreCases done cases cs
  unfolding with_choice CaseMeans
  cases_found done cases [] e = record {
    new = [];
    values = sym (ap (λ (x : LinkedCases). x.values) (ok_is e)) ∙ sym (append-nil done.values);
    to = sym (ap (λ (x : LinkedCases). x.to) (ok_is e)) ∙ sym (append-nil done.to);
    each = tt;
  }
  cases_found done cases (c ∷ cs) e =
      bind_ok (with_choice scope done c) _ cases e (λ m was now.
      bind_ok (block_of c.line c.label (meaning c.label scope)) _ m was (λ b is then'.
      let r : AreCases m cases cs = cases_found m cases cs now in
      record {
        new = b ∷ r.new;
        values = r.values ∙ ap (λ xs. xs ++ map (λ (c : Choice). lane_of c.value) cs) (sym (ap (λ (x : LinkedCases). x.values) (ok_is then')))
            ∙ append_assoc done.values (lane_of c.value ∷ []) (map (λ (c : Choice). lane_of c.value) cs);
        to = r.to ∙ ap (λ xs. xs ++ r.new) (sym (ap (λ (x : LinkedCases). x.to) (ok_is then'))) ∙ append_assoc done.to (b ∷ []) r.new;
        each = (block_means c.line c.label (meaning c.label scope) b is, r.each);
      }))

  literal_is : (v : Literal) (ty : Ty) (lanes : List (Option ℕ)) → v.ty ≡ ty → v.lanes ≡ lanes → record { ty = ty; lanes = lanes } ≡ v
  literal_is v ty lanes e f = ap (λ x. record { ty = x; lanes = lanes }) (sym e) ∙ ap (λ x. record { ty = v.ty; lanes = x }) (sym f)

  value_is : (ty : Ty) (c : Choice) → IsSoundChoice c → HasTy ty c → record { ty = ty; lanes = lane_of c.value ∷ [] } ≡ c.value
  unfolding HasTy
  value_is ty c s h =
      let lane : lane_of c.value ≡ Some s.number = ap (λ ls. unwrap_or (slice_get ls 0) None) s.lanes in
      literal_is c.value ty (lane_of c.value ∷ []) (same_is c.value.ty ty h) (s.lanes ∙ ap (λ x. x ∷ []) (sym lane))

  cases_are : (ty : Ty) (cs : List Choice) (bs : List ℕ) → AllZip CaseMeans cs bs → All IsSoundChoice cs → All (HasTy ty) cs → cases_of ns ty (map (λ (c : Choice). lane_of c.value) cs) bs ≡ case_lines cs
  unfolding CaseMeans
  cases_are ty [] [] z s h = refl
  cases_are ty [] (b ∷ bs) z s h = absurd z
  cases_are ty (c ∷ cs) [] z s h = absurd z
  cases_are ty (c ∷ cs) (b ∷ bs) z s h =
      ap (λ x. line.Case x (shown_block ns b) ∷ cases_of ns ty (map (λ (c : Choice). lane_of c.value) cs) bs) (value_is ty c (All-head IsSoundChoice c cs s) (All-head (HasTy ty) c cs h))
      ∙ ap (λ x. line.Case c.value x ∷ cases_of ns ty (map (λ (c : Choice). lane_of c.value) cs) bs) (label_is c.label b z.0)
      ∙ ap (λ xs. line.Case c.value c.label ∷ xs) (cases_are ty cs bs z.1 (All-tail IsSoundChoice c cs s) (All-tail (HasTy ty) c cs h))

  first_is : (opds : List Opd) (args : List Arg) → map (arg_of ns gs) opds ≡ args → first_ty ns opds ≡ typed.first_ty args
  first_is opds args e = go opds ∙ ap typed.first_ty e where
    go : (opds : List Opd) → first_ty ns opds ≡ typed.first_ty (map (arg_of ns gs) opds)
    go [] = refl
    go (o ∷ os) = refl

  more_are : (s : Stmt) (rest : List Numbered) (opds : List Opd) (blocks : List ℕ) (cases : LinkedCases) (u : Unit {0}) (op : Op) → map (arg_of ns gs) opds ≡ s.args → links.cases_of scope op rest ≡ Ok cases → cases_typed scope s op rest ≡ Ok u →
      All IsGood rest → more_forms ns opds (links.op_of blocks cases op) ≡ pending (is_switch op) rest
  more_are s rest opds blocks cases u (ops.Switch other values to) args e t good =
      let r : AreCases (record { values = []; to = [] }) cases (choices rest) = cases_found (record { values = []; to = [] }) cases (choices rest) e in
      ap (λ xs. cases_of ns (first_ty ns opds) xs cases.to ++ line.CasesEnd ∷ []) r.values
      ∙ ap (λ xs. cases_of ns (first_ty ns opds) (map (λ (c : Choice). lane_of c.value) (choices rest)) xs ++ line.CasesEnd ∷ []) r.to
      ∙ ap (λ x. cases_of ns x (map (λ (c : Choice). lane_of c.value) (choices rest)) r.new ++ line.CasesEnd ∷ []) (first_is opds s.args args)
      ∙ ap (λ xs. xs ++ line.CasesEnd ∷ []) (cases_are (typed.first_ty s.args) (choices rest) r.new r.each (choices_sound rest good) (choices_types scope (typed.first_ty s.args) [] (choices rest) u t))
  more_are s rest opds blocks cases u (ops.Phi places) args e t good = refl
  more_are s rest opds blocks cases u (ops.Br to) args e t good = refl
  more_are s rest opds blocks cases u (ops.CondBr first second) args e t good = refl
  more_are s rest opds blocks cases u _ args e t good = refl

  -- ---- results

  result_is : (n p b : ℕ) (inst : Inst) (ty : Ty) (r : Option (List ℕ)) (ts : List Thing) (v w : Bool) → inst.id ≡ id_at base p → IsNextResult n r → HasResult v w r → Shows base ns n b (thing_of base p ty r ∷ ts) →
      result_of v w (shown_text (local_of inst.id ns.locals)) ≡ r
  result_is n p b inst ty None ts false false id next has shows = nothing has.1
  result_is n p b inst ty None ts false true id next has shows = refl
  result_is n p b inst ty None ts true w id next has shows = refl
  result_is n p b inst ty (Some name) ts false false id next has shows =
      ap (λ x. Some (shown_text (local_of x ns.locals))) id ∙ ap (λ (l : Option Local). Some (shown_text l)) shows.0 ∙ ap Some (shown_again n name next)
  result_is n p b inst ty (Some name) ts false true id next has shows = nothing (sym has)
  result_is n p b inst ty (Some name) ts true w id next has shows = nothing (sym has)

  -- ---- instructions

  same_stmt : (s : Stmt) (r : Option (List ℕ)) (t : Ty) (o : Op) (a : List Arg) (l : List (List ℕ)) → r ≡ s.result → t ≡ s.ty → o ≡ s.op → a ≡ s.args → l ≡ s.labels → record { result = r; ty = t; op = o; args = a; labels = l } ≡ s
  same_stmt s r t o a l e f g h i =
      ap (λ (x : Option (List ℕ)). record { result = x; ty = t; op = o; args = a; labels = l }) e
      ∙ ap (λ (x : Ty). record { result = s.result; ty = x; op = o; args = a; labels = l }) f
      ∙ ap (λ (x : Op). record { result = s.result; ty = s.ty; op = x; args = a; labels = l }) g
      ∙ ap (λ (x : List Arg). record { result = s.result; ty = s.ty; op = s.op; args = x; labels = l }) h
      ∙ ap (λ (x : List (List ℕ)). record { result = s.result; ty = s.ty; op = s.op; args = s.args; labels = x }) i

  store_kept : (blocks : List ℕ) (cases : LinkedCases) (op : Op) → is_store (links.op_of blocks cases op) ≡ is_store op
  store_kept blocks cases (ops.Phi places) = refl
  store_kept blocks cases (ops.Br to) = refl
  store_kept blocks cases (ops.CondBr first second) = refl
  store_kept blocks cases (ops.Switch other values to) = refl
  store_kept blocks cases _ = refl

  -- a statement, and the lines of its instruction
  pub inst_spelled : (ln n p b : ℕ) (s : Stmt) (rest : List Numbered) (inst : Inst) (ts : List Thing) (u : Unit {0}) → IsGoodStmt s → IsInst tops scope base (base + p) ln s rest inst → list_all (arg_fits scope) s.args ≡ true →
      cases_typed scope s s.op rest ≡ Ok u → All IsGood rest → IsNextResult n s.result → Shows base ns n b (thing_of base p s.ty s.result ∷ ts) → forms_of ns gs inst ≡ line.Stmt s ∷ pending (is_switch s.op) rest
  inst_spelled ln n p b s rest inst ts u good is fits t more next shows =
      let l : AreLinked tops scope base ln s.args s.labels is.links = links_are tops scope base ln s is.links good.uncalled good.whole.placed is.linked_is in
      let args : map (arg_of ns gs) inst.opds ≡ s.args = ap (map (arg_of ns gs)) is.opds ∙ args_are ln s.args is.links.opds l.opds fits good.sound.literals good.whole.pointed in
      let store : is_store inst.op ≡ is_store s.op = ap is_store is.op ∙ store_kept is.links.blocks is.cases s.op in
      let result : result_of (is_void inst.ty) (is_store inst.op) (shown_text (local_of inst.id ns.locals)) ≡ s.result =
      ap (λ v. result_of (is_void v) (is_store inst.op) (shown_text (local_of inst.id ns.locals))) is.ty
      ∙ ap (λ w. result_of (is_void s.ty) w (shown_text (local_of inst.id ns.locals))) store
      ∙ result_is n p b inst s.ty s.result ts (is_void s.ty) (is_store s.op) is.id next good.result shows in
      let op : op_of inst.op ≡ s.op = ap op_of is.op ∙ op_is s.labels s.args is.links.blocks is.cases s.op good.labels good.whole.placed in
      let labels : map (shown_block ns) (line_blocks inst.op) ≡ s.labels =
      ap (λ o. map (shown_block ns) (line_blocks o)) is.op ∙ labels_are s.labels s.args is.links.blocks is.cases s.op good.uncalled l.blocks good.labels good.sound.places good.whole.placed in
      ap (λ x. line.Stmt x ∷ more_forms ns inst.opds inst.op) (same_stmt s _ inst.ty (op_of inst.op) (map (arg_of ns gs) inst.opds) (map (shown_block ns) (line_blocks inst.op)) result is.ty op args labels)
      ∙ ap (λ o. line.Stmt s ∷ more_forms ns inst.opds o) is.op
      ∙ ap (λ xs. line.Stmt s ∷ xs) (more_are s rest inst.opds is.links.blocks is.cases u s.op args is.cases_is t more)
