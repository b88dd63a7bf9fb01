-- What the names of a printed instruction stand for: its operands, its blocks and its cases.
use Rattle.std.proofs.Common.{◌≡◌, ℕ, ◌+◌, List, [], ◌∷◌, ◌++◌, map, length, Option, Result, Ok, refl, sym, ◌∙◌, ap, arith, append_assoc}
use Rattle.std.specs.Prelude.{unwrap_or}
use Rattle.std.proofs.lemmas.List.{append-nil}
use Rattle.std.proofs.lemmas.List.Elements.{All-head, All-tail}
use Rattle.std.specs.List.{All, slice_get}
use Rattle.ir_types.specs.declared.ty.Ty.{Ty}
use Rattle.ir_types.specs.declared.opd.Opd.{Opd}
use Rattle.ir_types.specs.declared.op.Op.{Op}
use Rattle.ir_types.specs.declared.op.Op.TheVariants.{Phi, Br, CondBr, Switch, Call}
use Rattle.ir_types.specs.declared.inst.Inst.{Inst}
use Rattle.ir_draft.specs.declared.stmt.Stmt.{Stmt}
use Rattle.ir_draft.specs.declared.line.Line.{Line}
use Rattle.ir_draft.specs.declared.line.Line.TheVariants as line
use Rattle.ir_print.specs.Names.{Names}
use Rattle.ir_read.specs.Bodies.{numbered_from}
use Rattle.ir_types_check.specs.declared.refusal.ResolveRefusal.{ResolveRefusal}
use Rattle.ir_types_check.specs.Answers.{◌>>=◌}
use Rattle.ir_types_check.specs.Scope.{Scope, meaning}
use Rattle.ir_types_check.specs.Outline.{written as written_again}
use Rattle.ir_types_check.specs.Links.{block_of, opd_of, opds_onto, blocks_onto, in_order, with_pair, pairs_onto, linked_by, linked, choices, with_choice, cases_onto, cases_of as linked_cases, block_at, op_of as linked_op}
use Rattle.ir_types_check.specs.Blocks.{id_of, inst_of}
use Rattle.ir_types_check.proofs.Handed.{LocalMeaning, TopMeaning, LinkedNames, LinkedCases}
use Rattle.rf_text.specs.Written.{written, shown_block, arg_of, places_from, op_of, line_blocks, stmt_of, first_ty, more_forms, cases_of}
use Rattle.rf_text.proofs.Named.Places.{slice_get-append, push_length}

-- as many cases as blocks of a `switch`, as many blocks as operands of a `phi`; and no call
abbrev pub HasShape : Op → List Opd → Type 0
HasShape (Phi blocks) os = length blocks ≡ length os
HasShape (Switch other cases to) os = length cases ≡ length to
HasShape (Call site) os = ⊥
HasShape op os = Unit {0}

-- the blocks after the first line
abbrev pub case_blocks : Op → List ℕ
case_blocks (Switch other cases to) = to
case_blocks op = []

-- ---- operations

-- the blocks at the places of a line are its blocks
places_again : (all front bs : List ℕ) (k : ℕ) → all ≡ front ++ bs → length front ≡ k → map (block_at all) (places_from k bs) ≡ bs
places_again all front [] k e many = refl
places_again all front (b ∷ bs) k e many =
    let first : block_at all k ≡ b = ap (λ (o : Option ℕ). unwrap_or o 0) (ap (λ (xs : List ℕ). slice_get xs k) e ∙ slice_get-append front b bs k many) in
    let rest : map (block_at all) (places_from (k + 1) bs) ≡ bs = places_again all (front ++ b ∷ []) bs (k + 1) (e ∙ sym (append_assoc front (b ∷ []) bs)) (push_length front b k many) in
    ap (λ (x : ℕ). x ∷ map (block_at all) (places_from (k + 1) bs)) first ∙ ap (λ (xs : List ℕ). b ∷ xs) rest

abbrev pub cases_in : Op → LinkedCases
cases_in (Switch other cases to) = record { values = cases; to = to }
cases_in op = record { values = []; to = [] }

pub op_again : (op : Op) → linked_op (line_blocks op) (cases_in op) (op_of op) ≡ op
op_again (Phi blocks) = ap Phi (places_again blocks [] blocks 0 refl refl)
op_again (Br to) = refl
op_again (CondBr first second) = refl
op_again (Switch other cases to) = refl
op_again op = refl

module _ (tops : Scope TopMeaning) (scope : Scope LocalMeaning) (base : ℕ) (ns : Names) (gs : List (List ℕ)) where
  -- an operand that is found by what is shown of it
  abbrev pub IsFoundOpd : Opd → Type 0
  IsFoundOpd o = (n : ℕ) → opd_of tops scope base n (written ns gs o) ≡ Ok o

  -- a block that is
  abbrev pub IsFoundBlock : ℕ → Type 0
  IsFoundBlock b = (n : ℕ) → block_of n (shown_block ns b) (meaning (shown_block ns b) scope) ≡ Ok b

  -- ---- the names of a line

  opds_again : (n : ℕ) (done os : List Opd) → All IsFoundOpd os → opds_onto tops scope base n done (map (arg_of ns gs) os) ≡ Ok (done ++ os)
  opds_again n done [] all = ap Ok (sym (append-nil done))
  opds_again n done (o ∷ os) all =
      ap (λ (r : Result Opd ResolveRefusal). r >>= λ x. opds_onto tops scope base n (done ++ x ∷ []) (map (arg_of ns gs) os)) (All-head IsFoundOpd o os all n)
      ∙ opds_again n (done ++ o ∷ []) os (All-tail IsFoundOpd o os all) ∙ ap Ok (append_assoc done (o ∷ []) os)

  blocks_again : (n : ℕ) (done bs : List ℕ) → All IsFoundBlock bs → blocks_onto scope n done (map (shown_block ns) bs) ≡ Ok (done ++ bs)
  blocks_again n done [] all = ap Ok (sym (append-nil done))
  blocks_again n done (b ∷ bs) all =
      ap (λ (r : Result ℕ ResolveRefusal). r >>= λ x. blocks_onto scope n (done ++ x ∷ []) (map (shown_block ns) bs)) (All-head IsFoundBlock b bs all n)
      ∙ blocks_again n (done ++ b ∷ []) bs (All-tail IsFoundBlock b bs all) ∙ ap Ok (append_assoc done (b ∷ []) bs)

  in_order_again : (n : ℕ) (s : Stmt) (os : List Opd) (bs : List ℕ) → s.args ≡ map (arg_of ns gs) os → s.labels ≡ map (shown_block ns) bs → All IsFoundOpd os → All IsFoundBlock bs → in_order tops scope base n s ≡ Ok (record { opds = os; blocks = bs })
  unfolding in_order
  in_order_again n s os bs args labels opds blocks = rw (args, opds_again n [] os opds, labels, blocks_again n [] bs blocks) refl

  pair_again : (n : ℕ) (done : LinkedNames) (o : Opd) (b : ℕ) → IsFoundOpd o → IsFoundBlock b → with_pair tops scope base n done (written ns gs o) (shown_block ns b) ≡ Ok (record { opds = done.opds ++ o ∷ []; blocks = done.blocks ++ b ∷ [] })
  unfolding with_pair
  pair_again n done o b opd block = rw (opd n, block n) refl

  pairs_again : (n : ℕ) (done : LinkedNames) (os : List Opd) (bs : List ℕ) → length bs ≡ length os → All IsFoundOpd os → All IsFoundBlock bs →
      pairs_onto tops scope base n done (map (arg_of ns gs) os) (map (shown_block ns) bs) ≡ Ok (record { opds = done.opds ++ os; blocks = done.blocks ++ bs })
  pairs_again n done [] [] many opds blocks = rw (append-nil done.opds, append-nil done.blocks) refl
  pairs_again n done [] (b ∷ bs) many opds blocks = absurd (omega (arith, many))
  pairs_again n done (o ∷ os) [] many opds blocks = absurd (omega (arith, many))
  pairs_again n done (o ∷ os) (b ∷ bs) many opds blocks =
      let next : LinkedNames = record { opds = done.opds ++ o ∷ []; blocks = done.blocks ++ b ∷ [] } in
      ap (λ (r : Result LinkedNames ResolveRefusal). r >>= λ after. pairs_onto tops scope base n after (map (arg_of ns gs) os) (map (shown_block ns) bs))
      (pair_again n done o b (All-head IsFoundOpd o os opds) (All-head IsFoundBlock b bs blocks))
      ∙ pairs_again n next os bs (omega (arith, many)) (All-tail IsFoundOpd o os opds) (All-tail IsFoundBlock b bs blocks)
      ∙ ap (λ (xs : List Opd). Ok (record { opds = xs; blocks = (done.blocks ++ b ∷ []) ++ bs })) (append_assoc done.opds (o ∷ []) os)
      ∙ ap (λ (xs : List ℕ). Ok (record { opds = done.opds ++ o ∷ os; blocks = xs })) (append_assoc done.blocks (b ∷ []) bs)

  pub linked_again : (n : ℕ) (op : Op) (os : List Opd) (s : Stmt) → s.args ≡ map (arg_of ns gs) os → s.labels ≡ map (shown_block ns) (line_blocks op) → All IsFoundOpd os → All IsFoundBlock (line_blocks op) → HasShape op os →
      linked_by tops scope base n s (op_of op) ≡ Ok (record { opds = os; blocks = line_blocks op })
  linked_again n (Phi blocks) os s args labels opds found shape = rw (args, labels) (pairs_again n (record { opds = []; blocks = [] }) os blocks shape opds found)
  linked_again n (Call site) os s args labels opds found shape = absurd shape
  linked_again n op os s args labels opds found shape = in_order_again n s os (line_blocks op) args labels opds found

  -- ---- cases

  pub case_again : (done : LinkedCases) (n : ℕ) (ty : Ty) (c : Option ℕ) (b : ℕ) → IsFoundBlock b →
      with_choice scope done (record { line = n; value = record { ty = ty; lanes = c ∷ [] }; label = shown_block ns b }) ≡ Ok (record { values = done.values ++ c ∷ []; to = done.to ++ b ∷ [] })
  unfolding with_choice
  case_again done n ty c b found = rw (found n) refl

  cases_again : (ty : Ty) (cases : List (Option ℕ)) (to : List ℕ) (rest : List Line) (n : ℕ) (done : LinkedCases) → length cases ≡ length to → All IsFoundBlock to →
      cases_onto scope done (choices (numbered_from n (cases_of ns ty cases to ++ (line.CasesEnd ∷ rest)))) ≡ Ok (record { values = done.values ++ cases; to = done.to ++ to })
  cases_again ty [] [] rest n done many found = rw (append-nil done.values, append-nil done.to) refl
  cases_again ty [] (b ∷ bs) rest n done many found = absurd (omega (arith, many))
  cases_again ty (c ∷ cs) [] rest n done many found = absurd (omega (arith, many))
  cases_again ty (c ∷ cs) (b ∷ bs) rest n done many found =
      let next : LinkedCases = record { values = done.values ++ c ∷ []; to = done.to ++ b ∷ [] } in
      ap (λ (r : Result LinkedCases ResolveRefusal). r >>= λ after. cases_onto scope after (choices (numbered_from (n + 1) (cases_of ns ty cs bs ++ (line.CasesEnd ∷ rest))))) (case_again done n ty c b (All-head IsFoundBlock b bs found))
      ∙ cases_again ty cs bs rest (n + 1) next (omega (arith, many)) (All-tail IsFoundBlock b bs found)
      ∙ ap (λ (xs : List (Option ℕ)). Ok (record { values = xs; to = (done.to ++ b ∷ []) ++ bs })) (append_assoc done.values (c ∷ []) cs)
      ∙ ap (λ (xs : List ℕ). Ok (record { values = done.values ++ c ∷ cs; to = xs })) (append_assoc done.to (b ∷ []) bs)

  choices_again : (op : Op) (os : List Opd) (rest : List Line) (n : ℕ) → HasShape op os → All IsFoundBlock (case_blocks op) → linked_cases scope (op_of op) (numbered_from n (more_forms ns os op ++ rest)) ≡ Ok (cases_in op)
  choices_again (Switch other cases to) os rest n shape found =
      ap (λ (fs : List Line). cases_onto scope (record { values = []; to = [] }) (choices (numbered_from n fs))) (append_assoc (cases_of ns (first_ty ns os) cases to) (line.CasesEnd ∷ []) rest)
      ∙ cases_again (first_ty ns os) cases to rest n (record { values = []; to = [] }) shape found
  choices_again (Phi blocks) os rest n shape found = refl
  choices_again (Br to) os rest n shape found = refl
  choices_again (CondBr first second) os rest n shape found = refl
  choices_again op os rest n shape found = refl

  -- ---- instructions

  -- an instruction whose operands and blocks are found
  pub record IsFoundInst (i : Inst) : Type 0 where
    pub operands : All IsFoundOpd i.opds
    pub blocks : All IsFoundBlock (line_blocks i.op)
    pub cases : All IsFoundBlock (case_blocks i.op)
    pub shape : HasShape i.op i.opds

  pub inst_again : (i : Inst) (k ln m : ℕ) (rest : List Line) → i.id ≡ id_of k → written_again (stmt_of ns gs i).result ≡ i.name → IsFoundInst i → inst_of tops scope base k ln (stmt_of ns gs i) (numbered_from m (more_forms ns i.opds i.op ++ rest)) ≡ Ok i
  unfolding inst_of
  inst_again i k ln m rest id name found =
      let links : linked tops scope base ln (stmt_of ns gs i) ≡ Ok (record { opds = i.opds; blocks = line_blocks i.op }) = linked_again ln i.op i.opds (stmt_of ns gs i) refl refl found.operands found.blocks found.shape in
      let cases : linked_cases scope (op_of i.op) (numbered_from m (more_forms ns i.opds i.op ++ rest)) ≡ Ok (cases_in i.op) = choices_again i.op i.opds rest m found.shape found.cases in
      ap (λ (r : Result LinkedNames ResolveRefusal). r >>= λ l. linked_cases scope (op_of i.op) (numbered_from m (more_forms ns i.opds i.op ++ rest)) >>= λ cases. Ok (record { id = id_of k; name = written_again (stmt_of ns gs i).result; ty = i.ty; op = linked_op l.blocks cases (op_of i.op); opds = l.opds })) links
      ∙ ap (λ (r : Result LinkedCases ResolveRefusal). r >>= λ cases. Ok (record { id = id_of k; name = written_again (stmt_of ns gs i).result; ty = i.ty; op = linked_op (line_blocks i.op) cases (op_of i.op); opds = i.opds })) cases
      ∙ ap (λ (x : Op). Ok (record { id = id_of k; name = written_again (stmt_of ns gs i).result; ty = i.ty; op = x; opds = i.opds })) (op_again i.op)
      ∙ ap (λ (x : Option (List ℕ)). Ok (record { id = id_of k; name = x; ty = i.ty; op = i.op; opds = i.opds })) name
      ∙ ap (λ x. Ok (record { id = x; name = i.name; ty = i.ty; op = i.op; opds = i.opds })) (sym id)
