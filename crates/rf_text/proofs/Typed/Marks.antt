-- The lines that spell a formed function are well typed: they go from mark to mark, and have the edges that the function has.
use Rattle.std.proofs.Common.{◌≡◌, ℕ, zero, suc, ◌+◌, ◌-◌, ◌<◌, inl, inr, Bool, true, false, cond, not, ◌==◌, nat_eq, List, [], ◌∷◌, ◌++◌, length, map, Option, Some, None, Result, Ok, refl, sym, ◌∙◌, ap, subst, arith, eq-eqb, eqb-true, append_assoc}
use Rattle.std.proofs.lemmas.Bool.Decides.{nat_tests}
use Rattle.std.proofs.lemmas.List.{append-nil, length-replicate, length-map, get_or_past}
use Rattle.std.proofs.lemmas.Bool.{cases_lt}
use Rattle.std.proofs.lemmas.Option.{slice_get-get_or, get_or_from_slice_get}
use Rattle.std.proofs.lemmas.List.Elements.{All-nil, All-cons, All-head, All-tail}
use Rattle.std.specs.List.{All, slice_get, slice_index_or}
use Rattle.std.specs.Prelude.{replicate}
use Rattle.ir_types.specs.declared.op.Op.{Op}
use Rattle.ir_types.specs.declared.inst.Inst.{Inst}
use Rattle.ir_types.specs.declared.func.Block.{Block}
use Rattle.ir_types.specs.declared.func.Func.{Func}
use Rattle.ir_types.specs.declared.module.Module.{Module}
use Rattle.ir_types.specs.Walks.{targets_at}
use Rattle.ir_types.specs.Available.{Each, op_targets, targets_of, block_targets, graph_of}
use Rattle.ir_types.specs.Formed.{is_terminator, IsTarget, IsFormedInst, IsFormedBlock, IsFormedFunc}
use Rattle.ir_draft.specs.declared.head.Head.{Head}
use Rattle.ir_draft.specs.declared.stmt.Stmt.{Stmt}
use Rattle.ir_draft.specs.declared.line.Line.{Line}
use Rattle.ir_draft.specs.declared.line.Line.TheVariants as line
use Rattle.ir_draft.specs.declared.draft.Numbered.{Numbered}
use Rattle.ir_print.specs.Names.{names_of, named_of}
use Rattle.ir_types_check.specs.declared.refusal.ResolveRefusal.{ResolveRefusal}
use Rattle.ir_types_check.specs.Answers.{◌>>=◌, well_typed}
use Rattle.ir_types_check.specs.Scope.{Scope}
use Rattle.ir_types_check.specs.Outline.{start, opened, past, after_label, after_inst, block_here}
use Rattle.ir_types_check.specs.Locals.{locals_of}
use Rattle.ir_types_check.specs.Typed.{targets, case_targets, sources_at, with_edges, with_line_edges, sources_from, sources_of, count, stmt_fits, cases_typed, line_typed, lines_typed, function_typed}
use Rattle.ir_types_check.proofs.Handed.{LocalMeaning, TopMeaning, LinePlace, LocalNames}
use Rattle.ir_types_check.proofs.BodyBlocks.{IsWholeBlock}
use Rattle.ir_types_check.proofs.BodyEdges.{hits, hits_append, hits_cons, edges_count, edges_other, length_edges, insts_targets, row_at, graph_rows, no_sources}
use Rattle.rf_text.proofs.PlainItems.{IsPlainInst, IsPlainBlock, IsPlainFunc}
use Rattle.rf_text.specs.Shown.{is_call}
use Rattle.rf_text.specs.Spelled.{IsHeaderOf, AreBlocks}
use Rattle.rf_text.specs.Written.{op_of, stmt_of, more_forms}
use Rattle.rf_text.proofs.Named.Found.{all_end}
use Rattle.rf_text.proofs.Named.Function.{Stands, scope_of}
use Rattle.rf_text.proofs.Named.Links.{case_blocks}
use Rattle.rf_text.proofs.Named.Locals.{ends_as}
use Rattle.rf_text.proofs.Named.Places.{Known}
use Rattle.rf_text.proofs.Named.Things.{things_of}
use Rattle.rf_text.proofs.Named.Typed.{Uses, uses}
use Rattle.rf_text.proofs.Spells.Built.{Mark, Starts, Does, insts_marks, marks}
use Rattle.rf_text.proofs.Spells.Marks.{SayMarks, Ends, blocks_marked, blocks_end, HasFirst, has_first}
use Rattle.rf_text.proofs.Spells.Order.{form_of}
use Rattle.rf_text.proofs.Spelling.Items.{HasNames, has_names}
use Rattle.rf_text.proofs.Spelling.Locals.{IsSilent, AreSilent, After, more_after}
use Rattle.rf_text.proofs.TextLines.Once.{NamedOnce}
use Rattle.rf_text.proofs.Typed.Insts as inst

clash : {P : Type 0} → true ≡ false → P
clash e = cc

-- ---- where a line stands

abbrev place : ℕ → ℕ → ℕ → Bool → LinePlace
place next at blocks open' = record { next = next; place = at; blocks = blocks; is_open = open' }

opened_is : (p : LinePlace) → p.is_open ≡ true → opened p ≡ p
unfolding opened
opened_is p e = ap (λ (b : Bool). cond b p (place (p.next + 1) p.place (p.blocks + 1) true)) e

opened_new : (p : LinePlace) → p.is_open ≡ false → opened p ≡ place (p.next + 1) p.place (p.blocks + 1) true
unfolding opened
opened_new p e = ap (λ (b : Bool). cond b p (place (p.next + 1) p.place (p.blocks + 1) true)) e

opened_open : (p : LinePlace) → (opened p).is_open ≡ true
opened_open p = here p.is_open refl where
  here : (b : Bool) → p.is_open ≡ b → (opened p).is_open ≡ true
  here true e = ap (λ (q : LinePlace). q.is_open) (opened_is p e) ∙ e
  here false e = ap (λ (q : LinePlace). q.is_open) (opened_new p e)

inst_blocks : (p : LinePlace) (s : Stmt) → (after_inst p s).blocks ≡ p.blocks
unfolding after_inst
inst_blocks p s = refl

inst_open : (p : LinePlace) (s : Stmt) → (after_inst p s).is_open ≡ not (is_terminator s.op)
unfolding after_inst
inst_open p s = refl

label_blocks : (p : LinePlace) (name : List ℕ) → (after_label p name).blocks ≡ p.blocks + 1
unfolding after_label
label_blocks p name = refl

label_open : (p : LinePlace) (name : List ℕ) → (after_label p name).is_open ≡ true
unfolding after_label
label_open p name = refl

-- a line in a block of this number, after which `next` is the number of the next block
record IsIn (p : LinePlace) (o : Bool) (number next : ℕ) : Type 0 where
  open_is : p.is_open ≡ o
  blocks : p.blocks ≡ next
  own : o ≡ true → next ≡ number + 1

in_label : (p : LinePlace) (name : List ℕ) (o : Bool) (number next : ℕ) → IsIn p o number next → IsIn (after_label p name) true next (next + 1)
in_label p name o number next h = record { open_is = label_open p name; blocks = label_blocks p name ∙ ap (λ k. k + 1) h.blocks; own = λ e. refl }

in_opened : (p : LinePlace) (number next : ℕ) → IsIn p false number next → IsIn (opened p) true next (next + 1)
in_opened p number next h = record { open_is = opened_open p; blocks = ap (λ (q : LinePlace). q.blocks) (opened_new p h.open_is) ∙ ap (λ k. k + 1) h.blocks; own = λ e. refl }

in_inst : (p : LinePlace) (s : Stmt) (number next : ℕ) (t : Bool) → is_terminator s.op ≡ t → IsIn p true number next → IsIn (after_inst (opened p) s) (not t) number next
in_inst p s number next t e h = record {
  open_is = inst_open (opened p) s ∙ ap not e;
  blocks = inst_blocks (opened p) s ∙ ap (λ (q : LinePlace). q.blocks) (opened_is p h.open_is) ∙ h.blocks;
  own = λ _. h.own refl;
}

here_is : (p : LinePlace) (number next : ℕ) → IsIn p true number next → block_here p ≡ number
here_is p number next h =
    let same : (opened p).blocks ≡ number + 1 = ap (λ (q : LinePlace). q.blocks) (opened_is p h.open_is) ∙ h.blocks ∙ h.own refl in
    omega (arith, same)

-- ---- one function

module _ (m : Module) (f : Func) (tops : Scope TopMeaning) (base : ℕ) (known : Known base (scope_of f) (names_of f) 0 0 0 (things_of f)) (once : NamedOnce (named_of f)) where
  abbrev IsThere : ℕ → Type 0
  IsThere b = b < length f.blocks

  -- ---- edges

  edges_marks : ℕ → ℕ → List Mark → List (List ℕ) → List (List ℕ)
  edges_marks number next [] S = S
  edges_marks number next (Starts name ∷ ms) S = edges_marks next (next + 1) ms S
  edges_marks number next (Does i ∷ ms) S = edges_marks number next ms (with_edges number (with_edges number S (inst.line_targets m f tops base known once i.op)) (case_blocks i.op))

  -- the targets in the block of the number c
  row : ℕ → ℕ → ℕ → List Mark → List ℕ
  row c number next [] = []
  row c number next (Starts name ∷ ms) = row c next (next + 1) ms
  row c number next (Does i ∷ ms) = cond (nat_eq c number) (op_targets i.op ++ row c number next ms) (row c number next ms)

  edges_counted : (c to : ℕ) (ms : List Mark) (number next : ℕ) (S : List (List ℕ)) → to < length S → count c (sources_at (edges_marks number next ms S) to) ≡ count c (sources_at S to) + hits to (row c number next ms)
  unfolding edges_marks row
  edges_counted c to [] number next S less = omega arith
  edges_counted c to (Starts name ∷ ms) number next S less = edges_counted c to ms next (next + 1) S less
  edges_counted c to (Does i ∷ ms) number next S less = here (edges_counted c to ms number next S' (subst (λ k. to < k) (sym (length_edges number (with_edges number S ts) us)) less')) (nat_eq c number) refl where
    ts : List ℕ
    ts = inst.line_targets m f tops base known once i.op

    us : List ℕ
    us = case_blocks i.op

    S' : List (List ℕ)
    S' = with_edges number (with_edges number S ts) us

    less' : to < length (with_edges number S ts)
    less' = subst (λ k. to < k) (sym (length_edges number S ts)) less

    here : count c (sources_at (edges_marks number next ms S') to) ≡ count c (sources_at S' to) + hits to (row c number next ms) → (b : Bool) → nat_eq c number ≡ b → count c (sources_at (edges_marks number next ms S') to) ≡ count c (sources_at S to) + hits to (cond b (op_targets i.op ++ row c number next ms) (row c number next ms))
    here more true e =
        let same : c ≡ number = eqb-true c number e in
        let first : count number (sources_at (with_edges number S ts) to) ≡ count number (sources_at S to) + hits to ts = edges_count number to S ts less in
        let second : count number (sources_at S' to) ≡ count number (sources_at (with_edges number S ts) to) + hits to us = edges_count number to (with_edges number S ts) us less' in
        let both : count c (sources_at S' to) ≡ count c (sources_at S to) + hits to ts + hits to us =
        ap (λ x. count x (sources_at S' to)) same ∙ (let e' : count number (sources_at S' to) ≡ count number (sources_at S to) + hits to ts + hits to us = omega (arith, first, second) in e')
        ∙ ap (λ x. count x (sources_at S to) + hits to ts + hits to us) (sym same) in
        let all : hits to (op_targets i.op ++ row c number next ms) ≡ hits to (op_targets i.op) + hits to (row c number next ms) = hits_append to (op_targets i.op) (row c number next ms) in
        let parts : hits to (op_targets i.op) ≡ hits to ts + hits to us = ap (hits to) (inst.all_targets m f tops base known once i.op) ∙ hits_append to ts us in
        omega (arith, more, both, all, parts)
    here more false e =
        let apart : c ≡ number → ⊥ = λ s. clash (sym (eq-eqb c number s) ∙ e) in
        let first : count c (sources_at (with_edges number S ts) to) ≡ count c (sources_at S to) = edges_other c number to S ts less apart in
        let second : count c (sources_at S' to) ≡ count c (sources_at (with_edges number S ts) to) = edges_other c number to (with_edges number S ts) us less' apart in
        omega (arith, more, first, second)

  insts_row : (c next : ℕ) (is : List Inst) (ms : List Mark) → row c c next (insts_marks is ms) ≡ insts_targets is ++ row c c next ms
  unfolding row
  insts_row c next [] ms = refl
  insts_row c next (i ∷ is) ms =
      ap (λ b. cond b (op_targets i.op ++ row c c next (insts_marks is ms)) (row c c next (insts_marks is ms))) (eq-eqb c c refl)
      ∙ ap (λ xs. op_targets i.op ++ xs) (insts_row c next is ms) ∙ sym (append_assoc (op_targets i.op) (insts_targets is) (row c c next ms))

  insts_other : (c number next : ℕ) (is : List Inst) (ms : List Mark) → nat_eq c number ≡ false → row c number next (insts_marks is ms) ≡ row c number next ms
  unfolding row
  insts_other c number next [] ms e = refl
  insts_other c number next (i ∷ is) ms e = ap (λ b. cond b (op_targets i.op ++ row c number next (insts_marks is ms)) (row c number next (insts_marks is ms))) e ∙ insts_other c number next is ms e

  below : (c k : ℕ) → c < k → nat_eq c k ≡ false
  below c k h = grind (arith, nat_tests)

  above : (c k : ℕ) → k < c → nat_eq c k ≡ false
  above c k h = grind (arith, nat_tests)

  past_row : (c number k : ℕ) (bs : List Block) → c < k → row c number k (marks bs) ≡ []
  unfolding row
  past_row c number k [] h = refl
  past_row c number k (b ∷ bs) h = insts_other c k (k + 1) b.insts (marks bs) (below c k h) ∙ past_row c k (k + 1) bs (omega (arith, h))

  blocks_row : (number k j c : ℕ) (bs : List Block) → c ≡ k + j → row c number k (marks bs) ≡ row_at bs [] j
  unfolding row
  blocks_row number k zero c [] e = refl
  blocks_row number k (suc j) c [] e = refl
  blocks_row number k zero c (b ∷ bs) e =
      let same : k ≡ c = omega (arith, e) in
      ap (λ x. row c x (k + 1) (insts_marks b.insts (marks bs))) same ∙ insts_row c (k + 1) b.insts (marks bs)
      ∙ ap (λ xs. insts_targets b.insts ++ xs) (past_row c c (k + 1) bs (omega (arith, e))) ∙ append-nil (insts_targets b.insts)
  blocks_row number k (suc j) c (b ∷ bs) e = insts_other c k (k + 1) b.insts (marks bs) (above c k (omega (arith, e))) ∙ blocks_row k (k + 1) j c bs (omega (arith, e))

  -- ---- the lines

  InstsThere : List Mark → Type 0
  InstsThere [] = Unit {0}
  InstsThere (Starts name ∷ ms) = InstsThere ms
  InstsThere (Does i ∷ ms) = Uses m f i × InstsThere ms

  silent_edges : (p : LinePlace) (S : List (List ℕ)) (front ys : List Numbered) → AreSilent front → sources_from (scope_of f) p S (front ++ ys) ≡ sources_from (scope_of f) p S ys
  silent_edges p S [] ys s = refl
  silent_edges p S (x ∷ xs) ys s = here x.form s.0 (silent_edges p S xs ys s.1) where
    here : (form : Line) → IsSilent form → sources_from (scope_of f) p S (xs ++ ys) ≡ sources_from (scope_of f) p S ys →
        sources_from (scope_of f) (past p form) (with_line_edges (scope_of f) p S form (xs ++ ys)) (xs ++ ys) ≡ sources_from (scope_of f) p S ys
    here (line.Case value label) s more = more
    here line.CasesEnd s more = more
    here line.Empty s more = absurd s
    here (line.Kept kept) s more = absurd s
    here (line.Define name head) s more = absurd s
    here line.Close s more = absurd s
    here (line.Label name) s more = absurd s
    here (line.Stmt x) s more = absurd s

  -- where no block is open, an instruction begins one
  open_edges : (p : LinePlace) (S : List (List ℕ)) (s : Stmt) (n : ℕ) (xs : List Numbered) → sources_from (scope_of f) p S (record { line = n; form = line.Stmt s } ∷ xs) ≡ sources_from (scope_of f) (opened p) S (record { line = n; form = line.Stmt s } ∷ xs)
  open_edges p S s n xs =
      ap (λ (q : LinePlace). sources_from (scope_of f) (after_inst q s) (with_edges (q.blocks - 1) (with_edges (q.blocks - 1) S (targets (scope_of f) s.labels s.op)) (case_targets (scope_of f) s.op xs)) xs) (sym (opened_is (opened p) (opened_open p)))

  sources_said : (ms : List Mark) (body : List Numbered) (p : LinePlace) (number next : ℕ) (o : Bool) (S : List (List ℕ)) → SayMarks m.globals (names_of f) next ms (map form_of body) → Ends o ms → IsIn p o number next → InstsThere ms →
      sources_from (scope_of f) p S body ≡ edges_marks number next ms S
  unfolding edges_marks InstsThere
  sources_said [] [] p number next o S says ends h there = refl
  sources_said [] (x ∷ xs) p number next o S says ends h there = cc
  sources_said (Starts name ∷ ms) body p number next o S says ends h there =
      elim says.1 as (λ _. sources_from (scope_of f) p S body ≡ edges_marks next (next + 1) ms S) [
        | inl e ↦
            let r : HasFirst (line.Label _) says.0 body = has_first _ _ body e in
            ap (sources_from (scope_of f) p S) r.whole
            ∙ sources_said ms r.rest (after_label p _) next (next + 1) true S (subst (SayMarks m.globals (names_of f) (next + 1) ms) (sym r.forms) says.2) ends.1 (in_label p _ o number next h) there
        | inr e ↦
            let more : SayMarks m.globals (names_of f) (next + 1) ms (map form_of body) = subst (SayMarks m.globals (names_of f) (next + 1) ms) (sym e.1) says.2 in
            unlabelled ms ends.1 more ∙ sources_said ms body (opened p) next (next + 1) true S more ends.1 (in_opened p number next (subst (λ b. IsIn p b number next) ends.0 h)) there
      ]
    where
      unlabelled : (ms : List Mark) → Ends true ms → SayMarks m.globals (names_of f) (next + 1) ms (map form_of body) → sources_from (scope_of f) p S body ≡ sources_from (scope_of f) (opened p) S body
      unlabelled [] ends more = clash ends
      unlabelled (Starts other ∷ ms) ends more = clash ends.0
      unlabelled (Does i ∷ ms) ends more =
          let r : HasFirst (line.Stmt (stmt_of (names_of f) m.globals i)) (more_forms (names_of f) i.opds i.op ++ more.0) body = has_first _ _ body more.1 in
          ap (sources_from (scope_of f) p S) r.whole ∙ open_edges p S (stmt_of (names_of f) m.globals i) r.n r.rest ∙ ap (sources_from (scope_of f) (opened p) S) (sym r.whole)
  sources_said (Does i ∷ ms) body p number next o S says ends h there =
      let s : Stmt = stmt_of (names_of f) m.globals i in
      let r : HasFirst (line.Stmt (stmt_of (names_of f) m.globals i)) (more_forms (names_of f) i.opds i.op ++ says.0) body = has_first _ _ body says.1 in
      let b : After says.0 r.rest = more_after (names_of f) i.opds i.op says.0 r.rest r.forms in
      let inside : IsIn p true number next = subst (λ t. IsIn p t number next) ends.0 h in
      let q : LinePlace = after_inst (opened p) (stmt_of (names_of f) m.globals i) in
      let own : targets (scope_of f) (stmt_of (names_of f) m.globals i).labels (op_of i.op) ≡ inst.line_targets m f tops base known once i.op = inst.targets_said m f tops base known once i.op there.0.blocks in
      let cases : case_targets (scope_of f) (op_of i.op) r.rest ≡ case_blocks i.op = inst.case_targets_said m f tops base known once i.op i.opds says.0 r.rest r.forms there.0.shape there.0.cases in
      let T : List (List ℕ) = with_edges number (with_edges number S (inst.line_targets m f tops base known once i.op)) (case_blocks i.op) in
      ap (sources_from (scope_of f) p S) r.whole
      ∙ ap (λ k. sources_from (scope_of f) (after_inst (opened p) (stmt_of (names_of f) m.globals i)) (with_edges k (with_edges k S (targets (scope_of f) (stmt_of (names_of f) m.globals i).labels (op_of i.op))) (case_targets (scope_of f) (op_of i.op) r.rest)) r.rest) (here_is p number next inside)
      ∙ ap (λ ts. sources_from (scope_of f) (after_inst (opened p) (stmt_of (names_of f) m.globals i)) (with_edges number (with_edges number S ts) (case_targets (scope_of f) (op_of i.op) r.rest)) r.rest) own
      ∙ ap (λ us. sources_from (scope_of f) (after_inst (opened p) (stmt_of (names_of f) m.globals i)) (with_edges number (with_edges number S (inst.line_targets m f tops base known once i.op)) us) r.rest) cases
      ∙ ap (sources_from (scope_of f) (after_inst (opened p) (stmt_of (names_of f) m.globals i)) (with_edges number (with_edges number S (inst.line_targets m f tops base known once i.op)) (case_blocks i.op))) b.whole
      ∙ silent_edges (after_inst (opened p) (stmt_of (names_of f) m.globals i)) (with_edges number (with_edges number S (inst.line_targets m f tops base known once i.op)) (case_blocks i.op)) b.front b.ys b.silent
      ∙ sources_said ms b.ys (after_inst (opened p) (stmt_of (names_of f) m.globals i)) number next (not (is_terminator i.op)) (with_edges number (with_edges number S (inst.line_targets m f tops base known once i.op)) (case_blocks i.op))
      (subst (SayMarks m.globals (names_of f) next ms) (sym b.forms) says.2) ends.1 (in_inst p (stmt_of (names_of f) m.globals i) number next (is_terminator i.op) (ends_as i.op) inside) there.1

  module _ (S : List (List ℕ)) where
    record IsTypedInst (number : ℕ) (i : Inst) : Type 0 where
      fits : stmt_fits tops (scope_of f) f.ret S number (stmt_of (names_of f) m.globals i) ≡ true
      cases : (rest : List Line) (xs : List Numbered) → map form_of xs ≡ more_forms (names_of f) i.opds i.op ++ rest → cases_typed (scope_of f) (stmt_of (names_of f) m.globals i) (op_of i.op) xs ≡ Ok tt

    AreTyped : ℕ → ℕ → List Mark → Type 0
    AreTyped number next [] = Unit {0}
    AreTyped number next (Starts name ∷ ms) = AreTyped next (next + 1) ms
    AreTyped number next (Does i ∷ ms) = IsTypedInst number i × AreTyped number next ms

    silent_typed : (p : LinePlace) (front ys : List Numbered) → AreSilent front → lines_typed tops (scope_of f) f.ret S p (front ++ ys) ≡ lines_typed tops (scope_of f) f.ret S p ys
    silent_typed p [] ys s = refl
    silent_typed p (x ∷ xs) ys s = here x.form s.0 (silent_typed p xs ys s.1) where
      here : (form : Line) → IsSilent form → lines_typed tops (scope_of f) f.ret S p (xs ++ ys) ≡ lines_typed tops (scope_of f) f.ret S p ys →
          (line_typed tops (scope_of f) f.ret S p x.line form (xs ++ ys) >>= λ _. lines_typed tops (scope_of f) f.ret S (past p form) (xs ++ ys)) ≡ lines_typed tops (scope_of f) f.ret S p ys
      here (line.Case value label) s more = more
      here line.CasesEnd s more = more
      here line.Empty s more = absurd s
      here (line.Kept kept) s more = absurd s
      here (line.Define name head) s more = absurd s
      here line.Close s more = absurd s
      here (line.Label name) s more = absurd s
      here (line.Stmt x) s more = absurd s

    open_typed : (p : LinePlace) (s : Stmt) (n : ℕ) (xs : List Numbered) → lines_typed tops (scope_of f) f.ret S p (record { line = n; form = line.Stmt s } ∷ xs) ≡ lines_typed tops (scope_of f) f.ret S (opened p) (record { line = n; form = line.Stmt s } ∷ xs)
    open_typed p s n xs =
        ap (λ (q : LinePlace). well_typed n (stmt_fits tops (scope_of f) f.ret S (q.blocks - 1) s) >>= (λ _. cases_typed (scope_of f) s s.op xs) >>= λ _. lines_typed tops (scope_of f) f.ret S (after_inst q s) xs) (sym (opened_is (opened p) (opened_open p)))

    lines_said : (ms : List Mark) (body : List Numbered) (p : LinePlace) (number next : ℕ) (o : Bool) → SayMarks m.globals (names_of f) next ms (map form_of body) → Ends o ms → IsIn p o number next → AreTyped number next ms →
        lines_typed tops (scope_of f) f.ret S p body ≡ Ok tt
    unfolding AreTyped
    lines_said [] [] p number next o says ends h all = refl
    lines_said [] (x ∷ xs) p number next o says ends h all = cc
    lines_said (Starts name ∷ ms) body p number next o says ends h all =
        elim says.1 as (λ _. lines_typed tops (scope_of f) f.ret S p body ≡ Ok tt) [
          | inl e ↦
              let r : HasFirst (line.Label _) says.0 body = has_first _ _ body e in
              ap (lines_typed tops (scope_of f) f.ret S p) r.whole
              ∙ lines_said ms r.rest (after_label p _) next (next + 1) true (subst (SayMarks m.globals (names_of f) (next + 1) ms) (sym r.forms) says.2) ends.1 (in_label p _ o number next h) all
          | inr e ↦
              let more : SayMarks m.globals (names_of f) (next + 1) ms (map form_of body) = subst (SayMarks m.globals (names_of f) (next + 1) ms) (sym e.1) says.2 in
              unlabelled ms ends.1 more ∙ lines_said ms body (opened p) next (next + 1) true more ends.1 (in_opened p number next (subst (λ b. IsIn p b number next) ends.0 h)) all
        ]
      where
        unlabelled : (ms : List Mark) → Ends true ms → SayMarks m.globals (names_of f) (next + 1) ms (map form_of body) → lines_typed tops (scope_of f) f.ret S p body ≡ lines_typed tops (scope_of f) f.ret S (opened p) body
        unlabelled [] ends more = clash ends
        unlabelled (Starts other ∷ ms) ends more = clash ends.0
        unlabelled (Does i ∷ ms) ends more =
            let r : HasFirst (line.Stmt (stmt_of (names_of f) m.globals i)) (more_forms (names_of f) i.opds i.op ++ more.0) body = has_first _ _ body more.1 in
            ap (lines_typed tops (scope_of f) f.ret S p) r.whole ∙ open_typed p (stmt_of (names_of f) m.globals i) r.n r.rest ∙ ap (lines_typed tops (scope_of f) f.ret S (opened p)) (sym r.whole)
    lines_said (Does i ∷ ms) body p number next o says ends h all =
        let r : HasFirst (line.Stmt (stmt_of (names_of f) m.globals i)) (more_forms (names_of f) i.opds i.op ++ says.0) body = has_first _ _ body says.1 in
        let b : After says.0 r.rest = more_after (names_of f) i.opds i.op says.0 r.rest r.forms in
        let inside : IsIn p true number next = subst (λ t. IsIn p t number next) ends.0 h in
        ap (lines_typed tops (scope_of f) f.ret S p) r.whole
        ∙ ap (λ k. well_typed r.n (stmt_fits tops (scope_of f) f.ret S k (stmt_of (names_of f) m.globals i)) >>= (λ _. cases_typed (scope_of f) (stmt_of (names_of f) m.globals i) (op_of i.op) r.rest) >>= λ _. lines_typed tops (scope_of f) f.ret S (after_inst (opened p) (stmt_of (names_of f) m.globals i)) r.rest) (here_is p number next inside)
        ∙ ap (λ t. well_typed r.n t >>= (λ _. cases_typed (scope_of f) (stmt_of (names_of f) m.globals i) (op_of i.op) r.rest) >>= λ _. lines_typed tops (scope_of f) f.ret S (after_inst (opened p) (stmt_of (names_of f) m.globals i)) r.rest) all.0.fits
        ∙ ap (λ (x : Result (Unit {0}) ResolveRefusal). x >>= λ _. lines_typed tops (scope_of f) f.ret S (after_inst (opened p) (stmt_of (names_of f) m.globals i)) r.rest) (all.0.cases says.0 r.rest r.forms)
        ∙ ap (lines_typed tops (scope_of f) f.ret S (after_inst (opened p) (stmt_of (names_of f) m.globals i))) b.whole
        ∙ silent_typed (after_inst (opened p) (stmt_of (names_of f) m.globals i)) b.front b.ys b.silent
        ∙ lines_said ms b.ys (after_inst (opened p) (stmt_of (names_of f) m.globals i)) number next (not (is_terminator i.op)) (subst (SayMarks m.globals (names_of f) next ms) (sym b.forms) says.2) ends.1
        (in_inst p (stmt_of (names_of f) m.globals i) number next (is_terminator i.op) (ends_as i.op) inside) all.1

  -- ---- what is formed

  insts_there : (number k : ℕ) (is : List Inst) (ms : List Mark) → ((j : ℕ) (i : Inst) → slice_get is j ≡ Some i → IsFormedInst m f number (k + j) i) → All IsPlainInst is → InstsThere ms → InstsThere (insts_marks is ms)
  unfolding InstsThere
  insts_there number k [] ms formed plain more = more
  insts_there number k (i ∷ is) ms formed plain more = (
    uses m f number (k + 0) i (formed 0 i refl) (All-head IsPlainInst i is plain).other,
    insts_there number (k + 1) is ms (λ j x e. let same : k + suc j ≡ k + 1 + j = omega arith in subst (λ (n : ℕ). IsFormedInst m f number n x) same (formed (suc j) x e)) (All-tail IsPlainInst i is plain) more,
  )

  zero_first : {X : Type 0} (P : ℕ → X → Type 0) (xs : List X) → Each P xs → (j : ℕ) (x : X) → slice_get xs j ≡ Some x → P (0 + j) x
  zero_first P xs each j x e = let same : j ≡ 0 + j = omega arith in subst (λ (n : ℕ). P n x) same (each j x e)

  blocks_there : (k : ℕ) (bs : List Block) → ((j : ℕ) (b : Block) → slice_get bs j ≡ Some b → IsFormedBlock m f (k + j) b) → All IsPlainBlock bs → InstsThere (marks bs)
  unfolding InstsThere
  blocks_there k [] formed plain = tt
  blocks_there k (b ∷ bs) formed plain =
      insts_there (k + 0) 0 b.insts (marks bs) (zero_first (IsFormedInst m f (k + 0)) b.insts (formed 0 b refl).insts) (All-head IsPlainBlock b bs plain).insts
      (blocks_there (k + 1) bs (λ j x e. let same : k + suc j ≡ k + 1 + j = omega arith in subst (λ (n : ℕ). IsFormedBlock m f n x) same (formed (suc j) x e)) (All-tail IsPlainBlock b bs plain))

  module _ (S : List (List ℕ)) (edges : (c to : ℕ) → to < length f.blocks → count c (sources_at S to) ≡ hits to (targets_at (graph_of f) c)) (none : (c : ℕ) → hits 0 (targets_at (graph_of f) c) ≡ 0) where
    insts_typed : (number k : ℕ) (is : List Inst) (ms : List Mark) → number < length f.blocks → ((j : ℕ) (i : Inst) → slice_get is j ≡ Some i → IsFormedInst m f number (k + j) i) → All IsPlainInst is → AreTyped S number (number + 1) ms → AreTyped S number (number + 1) (insts_marks is ms)
    unfolding AreTyped
    insts_typed number k [] ms within formed plain more = more
    insts_typed number k (i ∷ is) ms within formed plain more =
        let one : IsFormedInst m f number (k + 0) i = formed 0 i refl in (
          record {
            fits = inst.inst_typed m f tops base known once S number (λ c. edges c number within) none (k + 0) i one (All-head IsPlainInst i is plain).other;
            cases = λ rest xs e. inst.cases_said m f tops base known once i.op i.ty i.opds (stmt_of (names_of f) m.globals i) rest xs refl one.typed one.targets e;
          },
          insts_typed number (k + 1) is ms within (λ j x e. let same : k + suc j ≡ k + 1 + j = omega arith in subst (λ (n : ℕ). IsFormedInst m f number n x) same (formed (suc j) x e)) (All-tail IsPlainInst i is plain) more,
        )

    -- marks that begin a block, or none, do not ask for the block before
    any_number : (a b next : ℕ) (bs : List Block) → AreTyped S a next (marks bs) → AreTyped S b next (marks bs)
    unfolding AreTyped
    any_number a b next [] h = tt
    any_number a b next (x ∷ bs) h = h

    blocks_typed : (a k : ℕ) (bs : List Block) → k + length bs ≡ length f.blocks → ((j : ℕ) (b : Block) → slice_get bs j ≡ Some b → IsFormedBlock m f (k + j) b) → All IsPlainBlock bs → AreTyped S a k (marks bs)
    unfolding AreTyped
    blocks_typed a k [] size formed plain = tt
    blocks_typed a k (b ∷ bs) size formed plain =
        let zero_more : k + 0 ≡ k = omega arith in
        let one : IsFormedBlock m f k b = subst (λ (n : ℕ). IsFormedBlock m f n b) zero_more (formed 0 b refl) in
        insts_typed k 0 b.insts (marks bs) (omega (arith, size)) (zero_first (IsFormedInst m f k) b.insts one.insts) (All-head IsPlainBlock b bs plain).insts
        (blocks_typed k (k + 1) bs (omega (arith, size)) (λ j x e. let same : k + suc j ≡ k + 1 + j = omega arith in subst (λ (n : ℕ). IsFormedBlock m f n x) same (formed (suc j) x e)) (All-tail IsPlainBlock b bs plain))

  -- no edge leads to the first block
  none_hit : (ts : List ℕ) → All (IsTarget f) ts → hits 0 ts ≡ 0
  none_hit [] all = refl
  none_hit (t ∷ ts) all =
      let more : hits 0 ts ≡ 0 = none_hit ts (All-tail (IsTarget f) t ts all) in
      let whole : hits 0 (t ∷ ts) ≡ cond (t == 0) 1 0 + hits 0 ts = inst_hits t ts in
      let apart : (t == 0) ≡ false = above t 0 (All-head (IsTarget f) t ts all).0 in
      let zero_here : (let x : ℕ = cond (t == 0) 1 0 in x ≡ 0) = ap (λ b. (let x : ℕ = cond b 1 0 in x)) apart in
      omega (arith, more, whole, zero_here)
    where
      inst_hits : (t : ℕ) (ts : List ℕ) → hits 0 (t ∷ ts) ≡ cond (t == 0) 1 0 + hits 0 ts
      inst_hits t ts = hits_cons 0 t ts

  block_none : (number : ℕ) (b : Block) → IsFormedBlock m f number b → hits 0 (block_targets b) ≡ 0
  block_none number b formed = here (slice_get b.insts (length b.insts - 1)) refl where
    here : (o : Option Inst) → slice_get b.insts (length b.insts - 1) ≡ o → hits 0 (targets_of o) ≡ 0
    here None e = refl
    here (Some i) e = none_hit (op_targets i.op) (formed.insts (length b.insts - 1) i e).targets

  no_entry : IsFormedFunc m f → (c : ℕ) → hits 0 (targets_at (graph_of f) c) ≡ 0
  no_entry formed c = go f.blocks 0 c (λ j b e. let same : j ≡ 0 + j = omega arith in subst (λ (n : ℕ). IsFormedBlock m f n b) same (formed.blocks j b e)) where
    go : (bs : List Block) (k c : ℕ) → ((j : ℕ) (b : Block) → slice_get bs j ≡ Some b → IsFormedBlock m f (k + j) b) → hits 0 (targets_at (map block_targets bs) c) ≡ 0
    go [] k zero formed = refl
    go [] k (suc c) formed = refl
    go (b ∷ bs) k zero formed = block_none (k + 0) b (formed 0 b refl)
    go (b ∷ bs) k (suc c) formed = go bs (k + 1) c (λ j x e. let same : k + suc j ≡ k + 1 + j = omega arith in subst (λ (n : ℕ). IsFormedBlock m f n x) same (formed (suc j) x e))

  whole_blocks : (bs : List Block) (k : ℕ) → ((j : ℕ) (b : Block) → slice_get bs j ≡ Some b → IsFormedBlock m f (k + j) b) → All IsWholeBlock bs
  whole_blocks [] k formed = All-nil IsWholeBlock
  whole_blocks (b ∷ bs) k formed =
      let one : IsFormedBlock m f (k + 0) b = formed 0 b refl in
      All-cons IsWholeBlock b bs (record { ends = one.ends; phis = one.phis }) (whole_blocks bs (k + 1) (λ j x e. let same : k + suc j ≡ k + 1 + j = omega arith in subst (λ (n : ℕ). IsFormedBlock m f n x) same (formed (suc j) x e)))

  at_start : IsIn start false 0 0
  at_start = record { open_is = refl; blocks = refl; own = λ e. clash (sym e) }

  pub body_typed : (body : List Numbered) → IsFormedFunc m f → IsPlainFunc f → AreBlocks (names_of f) m.globals 0 f.blocks (map form_of body) →
      lines_typed tops (scope_of f) f.ret (sources_from (scope_of f) start (replicate (length f.blocks) []) body) start body ≡ Ok tt
  body_typed body formed plain blocks =
      let each : (j : ℕ) (b : Block) → slice_get f.blocks j ≡ Some b → IsFormedBlock m f (0 + j) b = λ j b e. let same : j ≡ 0 + j = omega arith in subst (λ (n : ℕ). IsFormedBlock m f n b) same (formed.blocks j b e) in
      let says : SayMarks m.globals (names_of f) 0 (marks f.blocks) (map form_of body) = blocks_marked m.globals (names_of f) blocks in
      let ends : Ends false (marks f.blocks) = blocks_end f.blocks (all_end m f formed) in
      let S : List (List ℕ) = sources_from (scope_of f) start (replicate (length f.blocks) []) body in
      let is : sources_from (scope_of f) start (replicate (length f.blocks) []) body ≡ edges_marks 0 0 (marks f.blocks) (replicate (length f.blocks) []) =
      sources_said (marks f.blocks) body start 0 0 false (replicate (length f.blocks) []) says ends at_start (blocks_there 0 f.blocks each plain.blocks) in
      let edges : (c to : ℕ) → to < length f.blocks → count c (sources_at (sources_from (scope_of f) start (replicate (length f.blocks) []) body) to) ≡ hits to (targets_at (graph_of f) c) = λ c to less.
      let size : length {A = List ℕ} (replicate (length f.blocks) []) ≡ length f.blocks = length-replicate (length f.blocks) [] in
      let counted : count c (sources_at (edges_marks 0 0 (marks f.blocks) (replicate (length f.blocks) [])) to) ≡ count c (sources_at (replicate (length f.blocks) []) to) + hits to (row c 0 0 (marks f.blocks)) =
      edges_counted c to (marks f.blocks) 0 0 (replicate (length f.blocks) []) (omega (arith, size, less)) in
      let nothing_yet : count c (sources_at (replicate (length f.blocks) []) to) ≡ 0 = no_sources (length f.blocks) c to in
      let rows : row c 0 0 (marks f.blocks) ≡ targets_at (graph_of f) c = blocks_row 0 0 c c f.blocks (omega arith) ∙ sym (graph_rows f.blocks c (whole_blocks f.blocks 0 each)) in
      let all : count c (sources_at (edges_marks 0 0 (marks f.blocks) (replicate (length f.blocks) [])) to) ≡ hits to (row c 0 0 (marks f.blocks)) = omega (arith, counted, nothing_yet) in
      ap (λ xs. count c (sources_at xs to)) is ∙ all ∙ ap (hits to) rows in
      lines_said (sources_from (scope_of f) start (replicate (length f.blocks) []) body) (marks f.blocks) body start 0 0 false says ends at_start
      (blocks_typed (sources_from (scope_of f) start (replicate (length f.blocks) []) body) edges (no_entry formed) 0 0 f.blocks (omega arith) each plain.blocks)

-- ---- the function

pub function_is_typed : (m : Module) (f : Func) (tops : Scope TopMeaning) (base n : ℕ) (head : Head) (body : List Numbered) → IsFormedFunc m f → IsPlainFunc f → Stands f base → NamedOnce (named_of f) → IsHeaderOf f head →
    AreBlocks (names_of f) m.globals 0 f.blocks (map form_of body) → function_typed tops n head body ≡ Ok tt
unfolding function_typed
function_is_typed m f tops base n head body formed plain is once header blocks =
    let h : HasNames f (locals_of n head body) = has_names m f base n head body formed is header blocks in
    ap (λ (r : Result LocalNames ResolveRefusal). r >>= λ l. lines_typed tops l.scope head.ret (sources_of l body) start body) h.1
    ∙ ap (λ (s : Scope LocalMeaning). lines_typed tops s head.ret (sources_from s start (replicate h.0.at.blocks []) body) start body) h.2
    ∙ ap (λ k. lines_typed tops (scope_of f) head.ret (sources_from (scope_of f) start (replicate k []) body) start body) h.3
    ∙ ap (λ t. lines_typed tops (scope_of f) t (sources_from (scope_of f) start (replicate (length f.blocks) []) body) start body) header.ret
    ∙ body_typed m f tops base is.known once body formed plain blocks
