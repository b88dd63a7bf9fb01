-- The blocks of a function, as the lines build them that spell it: they are its blocks.
use Rattle.std.proofs.Common.{◌≡◌, ℕ, suc, ◌+◌, inl, inr, Bool, true, false, not, List, [], ◌∷◌, ◌++◌, length, map, Option, Result, Ok, refl, sym, ◌∙◌, ap, subst, append_assoc, arith, length-append}
use Rattle.std.proofs.lemmas.List.{append-nil}
use Rattle.std.specs.List.{All, AllZip}
use Rattle.std.proofs.lemmas.List.Elements.{All-head, All-tail}
use Rattle.std.specs.Prelude.{unwrap_or}
use Rattle.ir_types.specs.declared.id.Id.{Id}
use Rattle.ir_types.specs.declared.ty.Ty.{Ty}
use Rattle.ir_types.specs.declared.opd.Opd.{Opd}
use Rattle.ir_types.specs.declared.op.Op.{Op}
use Rattle.ir_types.specs.declared.op.Op.TheVariants.{Phi, Br, CondBr, Switch}
use Rattle.ir_types.specs.declared.inst.Inst.{Inst}
use Rattle.ir_types.specs.declared.func.Param.{Param}
use Rattle.ir_types.specs.declared.func.Block.{Block}
use Rattle.ir_types.specs.Formed.{is_terminator}
use Rattle.ir_draft.specs.declared.line.Line.{Line}
use Rattle.ir_draft.specs.declared.line.Line.TheVariants as line
use Rattle.ir_draft.specs.declared.draft.Numbered.{Numbered}
use Rattle.ir_print.specs.Names.{Names, shown, counted, is_store, is_void}
use Rattle.ir_types_check.specs.declared.refusal.ResolveRefusal.{ResolveRefusal}
use Rattle.ir_types_check.specs.Answers.{◌>>=◌}
use Rattle.ir_types_check.specs.Scope.{Scope}
use Rattle.ir_types_check.specs.Outline.{written_name, written as written_again}
use Rattle.ir_types_check.specs.Links.{linked, choices, cases_onto, cases_of as linked_cases, op_of as linked_op}
use Rattle.ir_types_check.specs.Blocks.{id_of, inst_of, with_inst, labelled, with_statement, built_line, built_lines, params_from}
use Rattle.ir_types_check.proofs.Handed.{LocalMeaning, TopMeaning, BuiltSoFar, LinkedNames, LinkedCases}
use Rattle.ir_types_check.proofs.ReadParts.{inst_lines}
use Rattle.rf_text.specs.Spelled.{MayWrite, AsShown, LeftOut, IsWrittenParam}
use Rattle.rf_text.specs.Written.{op_of, line_blocks, shown_text, shown_block, stmt_of, first_ty, more_forms, cases_of, forms_of}
use Rattle.rf_text.proofs.Named.Built.{IsReadInst, IsReadBlock, Stepped, stepped}
use Rattle.rf_text.proofs.Named.Links.{IsFoundBlock, IsFoundInst, HasShape, case_blocks, cases_in, op_again, linked_again, case_again}
use Rattle.rf_text.proofs.Named.Places.{Known}
use Rattle.rf_text.proofs.Named.Shown.{Again}
use Rattle.rf_text.proofs.Named.Things.{Thing, params_things}
use Rattle.rf_text.proofs.Spells.Built.{Mark, Starts, Does, insts_marks, marks, marks_things, so_far, is_some, opening, with_marks, with_open, label_marks, label_open, label_lines}
use Rattle.rf_text.proofs.Spells.Marks.{many, SayMarks, Ends, HasFirst, has_first}
use Rattle.rf_text.proofs.Spells.Order.{form_of}
use Rattle.rf_text.proofs.Spelling.Locals.{IsSilent, AreSilent, After, more_after}

clash : {P : Type 0} → true ≡ false → P
clash e = cc

no_line : {P : Type 0} {f : Line} {fs : List Line} → [] ≡ f ∷ fs → P
no_line e = cc

module _ (tops : Scope TopMeaning) (scope : Scope LocalMeaning) (base : ℕ) (ns : Names) (gs : List (List ℕ)) where
  -- ---- one instruction

  cases_said : (ty : Ty) (cases : List (Option ℕ)) (to : List ℕ) (rest : List Line) (xs : List Numbered) (done : LinkedCases) → map form_of xs ≡ cases_of ns ty cases to ++ (line.CasesEnd ∷ rest) → length cases ≡ length to →
      All (IsFoundBlock tops scope base ns gs) to → cases_onto scope done (choices xs) ≡ Ok (record { values = done.values ++ cases; to = done.to ++ to })
  cases_said ty [] [] rest xs done e same found =
      let f : HasFirst line.CasesEnd rest xs = has_first line.CasesEnd rest xs e in
      ap (λ ys. cases_onto scope done (choices ys)) f.whole ∙ rw (append-nil done.values, append-nil done.to) refl
  cases_said ty [] (b ∷ bs) rest xs done e same found = absurd (omega (arith, same))
  cases_said ty (c ∷ cs) [] rest xs done e same found = absurd (omega (arith, same))
  cases_said ty (c ∷ cs) (b ∷ bs) rest xs done e same found =
      let f : HasFirst (line.Case (record { ty = ty; lanes = c ∷ [] }) (shown_block ns b)) (cases_of ns ty cs bs ++ (line.CasesEnd ∷ rest)) xs = has_first _ _ xs e in
      let next : LinkedCases = record { values = done.values ++ c ∷ []; to = done.to ++ b ∷ [] } in
      ap (λ ys. cases_onto scope done (choices ys)) f.whole
      ∙ ap (λ (r : Result LinkedCases ResolveRefusal). r >>= λ after. cases_onto scope after (choices f.rest)) (case_again tops scope base ns gs done f.n ty c b (All-head (IsFoundBlock tops scope base ns gs) b bs found))
      ∙ cases_said ty cs bs rest f.rest next f.forms (omega (arith, same)) (All-tail (IsFoundBlock tops scope base ns gs) b bs found)
      ∙ ap (λ (xs : List (Option ℕ)). Ok (record { values = xs; to = (done.to ++ b ∷ []) ++ bs })) (append_assoc done.values (c ∷ []) cs)
      ∙ ap (λ (xs : List ℕ). Ok (record { values = done.values ++ c ∷ cs; to = xs })) (append_assoc done.to (b ∷ []) bs)

  choices_said : (op : Op) (os : List Opd) (rest : List Line) (xs : List Numbered) → map form_of xs ≡ more_forms ns os op ++ rest → HasShape op os → All (IsFoundBlock tops scope base ns gs) (case_blocks op) →
      linked_cases scope (op_of op) xs ≡ Ok (cases_in op)
  choices_said (Switch other cases to) os rest xs e shape found =
      cases_said (first_ty ns os) cases to rest xs (record { values = []; to = [] }) (e ∙ append_assoc (cases_of ns (first_ty ns os) cases to) (line.CasesEnd ∷ []) rest) shape found
  choices_said (Phi blocks) os rest xs e shape found = refl
  choices_said (Br to) os rest xs e shape found = refl
  choices_said (CondBr first second) os rest xs e shape found = refl
  choices_said op os rest xs e shape found = refl

  inst_said : (i : Inst) (k ln : ℕ) (rest : List Line) (xs : List Numbered) → map form_of xs ≡ more_forms ns i.opds i.op ++ rest → i.id ≡ id_of k → written_again (stmt_of ns gs i).result ≡ i.name → IsFoundInst tops scope base ns gs i →
      inst_of tops scope base k ln (stmt_of ns gs i) xs ≡ Ok i
  unfolding inst_of
  inst_said i k ln rest xs e id name found =
      let links : linked tops scope base ln (stmt_of ns gs i) ≡ Ok (record { opds = i.opds; blocks = line_blocks i.op }) =
      linked_again tops scope base ns gs ln i.op i.opds (stmt_of ns gs i) refl refl found.operands found.blocks found.shape in
      let cases : linked_cases scope (op_of i.op) xs ≡ Ok (cases_in i.op) = choices_said i.op i.opds rest xs e found.shape found.cases in
      ap (λ (r : Result LinkedNames ResolveRefusal). r >>= λ l. linked_cases scope (op_of i.op) xs >>= λ cases. Ok (record { id = id_of k; name = written_again (stmt_of ns gs i).result; ty = i.ty; op = linked_op l.blocks cases (op_of i.op); opds = l.opds })) links
      ∙ ap (λ (r : Result LinkedCases ResolveRefusal). r >>= λ cases. Ok (record { id = id_of k; name = written_again (stmt_of ns gs i).result; ty = i.ty; op = linked_op (line_blocks i.op) cases (op_of i.op); opds = i.opds })) cases
      ∙ ap (λ (x : Op). Ok (record { id = id_of k; name = written_again (stmt_of ns gs i).result; ty = i.ty; op = x; opds = i.opds })) (op_again i.op)
      ∙ ap (λ (x : Option (List ℕ)). Ok (record { id = id_of k; name = x; ty = i.ty; op = i.op; opds = i.opds })) name
      ∙ ap (λ x. Ok (record { id = x; name = i.name; ty = i.ty; op = i.op; opds = i.opds })) (sym id)

  -- ---- lines

  silent_line : (n : ℕ) (b : BuiltSoFar) (f : Line) (rest : List Numbered) → IsSilent f → built_line tops scope base n b f rest ≡ Ok b
  silent_line n b (line.Case value label) rest s = refl
  silent_line n b line.CasesEnd rest s = refl
  silent_line n b line.Empty rest s = absurd s
  silent_line n b (line.Kept kept) rest s = absurd s
  silent_line n b (line.Define name head) rest s = absurd s
  silent_line n b line.Close rest s = absurd s
  silent_line n b (line.Label name) rest s = absurd s
  silent_line n b (line.Stmt x) rest s = absurd s

  silent_passed : (b : BuiltSoFar) (front ys : List Numbered) → AreSilent front → built_lines tops scope base b (front ++ ys) ≡ built_lines tops scope base b ys
  silent_passed b [] ys s = refl
  silent_passed b (x ∷ xs) ys s = ap (λ (r : Result BuiltSoFar ResolveRefusal). r >>= λ m. built_lines tops scope base m (xs ++ ys)) (silent_line x.line b x.form (xs ++ ys) s.0) ∙ silent_passed b xs ys s.1

  -- each instruction is one whose names are found
  abbrev pub AreRead : List Mark → Type 0
  AreRead [] = Unit {0}
  AreRead (Starts name ∷ ms) = AreRead ms
  AreRead (Does i ∷ ms) = IsReadInst tops scope base ns gs i × AreRead ms

  insts_read : (is : List Inst) (ms : List Mark) → All (IsReadInst tops scope base ns gs) is → AreRead ms → AreRead (insts_marks is ms)
  insts_read [] ms all h = h
  insts_read (i ∷ is) ms all h = (All-head (IsReadInst tops scope base ns gs) i is all, insts_read is ms (All-tail (IsReadInst tops scope base ns gs) i is all) h)

  pub blocks_read : (bs : List Block) → All (IsReadBlock tops scope base ns gs) bs → AreRead (marks bs)
  blocks_read [] all = tt
  blocks_read (b ∷ bs) all = insts_read b.insts (marks bs) (All-head (IsReadBlock tops scope base ns gs) b bs all).insts (blocks_read bs (All-tail (IsReadBlock tops scope base ns gs) b bs all))

  -- what is built with the marks
  pub record IsMade (st : BuiltSoFar) (p : ℕ) (ms : List Mark) (said : Result BuiltSoFar ResolveRefusal) : Type 0 where
    pub end : BuiltSoFar
    pub said_is : said ≡ Ok end
    pub whole : so_far end ≡ so_far st ++ ms
    pub counted : length end.lines ≡ base + (p + many ms)

  opening_front : (o : Bool) (i : Inst) (ms : List Mark) → opening o (Does i ∷ []) ++ ms ≡ opening o (Does i ∷ ms)
  opening_front true i ms = refl
  opening_front false i ms = refl

  opening_many : (o : Bool) (i : Inst) (ms : List Mark) → many (opening o (Does i ∷ ms)) ≡ suc (many ms)
  opening_many true i ms = refl
  opening_many false i ms = refl

  -- an instruction with its lines
  does_made : (i : Inst) (ms : List Mark) (rest : List Line) (body : List Numbered) (n p b : ℕ) (o : Bool) (st : BuiltSoFar) → map form_of body ≡ forms_of ns gs i ++ rest → SayMarks gs ns b ms rest → is_some st.current ≡ o → length st.lines ≡ base + p →
      Known base scope ns n p b (marks_things (Does i ∷ ms)) → IsReadInst tops scope base ns gs i →
      ((k : ℕ) (after : BuiltSoFar) (ys : List Numbered) → SayMarks gs ns b ms (map form_of ys) → is_some after.current ≡ not (is_terminator i.op) → length after.lines ≡ base + (p + 1) → Known base scope ns k (p + 1) b (marks_things ms) →
      IsMade after (p + 1) ms (built_lines tops scope base after ys)) → IsMade st p (opening o (Does i ∷ ms)) (built_lines tops scope base st body)
  unfolding with_statement
  does_made i ms rest body n p b o st e says opens count known read next =
      let f : HasFirst (line.Stmt (stmt_of ns gs i)) (more_forms ns i.opds i.op ++ rest) body = has_first _ _ body e in
      let r : After rest f.rest = more_after ns i.opds i.op rest f.rest f.forms in
      let s : Stepped tops scope base ns gs n p b (is_void i.ty) (is_store i.op) i (marks_things ms) = stepped tops scope base ns gs n p b (is_void i.ty) (is_store i.op) i (marks_things ms) read.silent known in
      let id : i.id ≡ record { region = 0; k = length st.lines } = s.id ∙ ap (λ (k : ℕ). record { region = 0; k = k }) (sym count) in
      let made : inst_of tops scope base (length st.lines) f.n (stmt_of ns gs i) f.rest ≡ Ok i = inst_said i (length st.lines) f.n rest f.rest f.forms id s.name read.found in
      let longer : length (with_inst f.n st i).lines ≡ length st.lines + 1 = ap length (inst_lines f.n st i) ∙ length-append st.lines (f.n ∷ []) in
      let m : IsMade (with_inst f.n st i) (p + 1) ms (built_lines tops scope base (with_inst f.n st i) r.ys) =
      next s.next (with_inst f.n st i) r.ys (subst (SayMarks gs ns b ms) (sym r.forms) says) (with_open f.n st i) (omega (arith, longer, count)) s.known in
      record {
        end = m.end;
        said_is =
            ap (built_lines tops scope base st) f.whole
            ∙ ap (λ (x : Result Inst ResolveRefusal). (x >>= λ inst. Ok (with_inst f.n st inst)) >>= λ after. built_lines tops scope base after f.rest) made
            ∙ ap (built_lines tops scope base (with_inst f.n st i)) r.whole ∙ silent_passed (with_inst f.n st i) r.front r.ys r.silent ∙ m.said_is;
        whole =
            m.whole ∙ ap (λ xs. xs ++ ms) (with_marks f.n st i ∙ ap (λ t. so_far st ++ opening t (Does i ∷ [])) opens)
            ∙ append_assoc (so_far st) (opening o (Does i ∷ [])) ms ∙ ap (λ xs. so_far st ++ xs) (opening_front o i ms);
        counted = m.counted ∙ (let more : many (opening o (Does i ∷ ms)) ≡ suc (many ms) = opening_many o i ms in omega (arith, more));
      }

  made_by : (st : BuiltSoFar) (p : ℕ) (ms : List Mark) (a b : Result BuiltSoFar ResolveRefusal) → a ≡ b → IsMade st p ms b → IsMade st p ms a
  made_by st p ms a b e m = record { end = m.end; said_is = e ∙ m.said_is; whole = m.whole; counted = m.counted }

  -- a label
  label_made : (name : Option (List ℕ)) (ms : List Mark) (rest : List Line) (body : List Numbered) (n p b : ℕ) (st : BuiltSoFar) → map form_of body ≡ line.Label (shown_block ns b) ∷ rest → length st.lines ≡ base + p →
      Known base scope ns n p b (marks_things (Starts name ∷ ms)) →
      ((after : BuiltSoFar) (ys : List Numbered) → map form_of ys ≡ rest → is_some after.current ≡ true → length after.lines ≡ base + p → IsMade after p ms (built_lines tops scope base after ys)) →
      IsMade st p (Starts name ∷ ms) (built_lines tops scope base st body)
  label_made name ms rest body n p b st e count known next =
      let f : HasFirst (line.Label (shown_block ns b)) rest body = has_first _ _ body e in
      let text : written_name (shown_block ns b) ≡ name = ap written_name (ap (λ (x : Option (List ℕ)). unwrap_or x []) known.0.shows) ∙ known.0.once_more.name_again in
      let m : IsMade (labelled st (shown_block ns b)) p ms (built_lines tops scope base (labelled st (shown_block ns b)) f.rest) =
      next (labelled st (shown_block ns b)) f.rest f.forms (label_open st (shown_block ns b)) (ap length (label_lines st (shown_block ns b)) ∙ count) in
      record {
        end = m.end;
        said_is = ap (built_lines tops scope base st) f.whole ∙ m.said_is;
        whole =
            m.whole ∙ ap (λ xs. xs ++ ms) (label_marks st (shown_block ns b) ∙ ap (λ x. so_far st ++ Starts x ∷ []) text)
            ∙ append_assoc (so_far st) (Starts name ∷ []) ms;
        counted = m.counted;
      }

  pub marks_made : (ms : List Mark) (body : List Numbered) (n p b : ℕ) (o : Bool) (st : BuiltSoFar) → SayMarks gs ns b ms (map form_of body) → Ends o ms → is_some st.current ≡ o → length st.lines ≡ base + p →
      Known base scope ns n p b (marks_things ms) → AreRead ms → IsMade st p ms (built_lines tops scope base st body)
  marks_made [] [] n p b o st h ends opens count known read = record { end = st; said_is = refl; whole = sym (append-nil (so_far st)); counted = omega (arith, count) }
  marks_made [] (x ∷ xs) n p b o st h ends opens count known read = no_line (sym h)
  marks_made (Starts name ∷ []) body n p b o st h ends opens count known read = clash ends.1
  marks_made (Starts name ∷ Starts other ∷ ms) body n p b o st h ends opens count known read = clash ends.1.0
  marks_made (Starts name ∷ Does i ∷ ms) body n p b o st h ends opens count known read =
      elim h.1 as (λ _. IsMade st p (Starts name ∷ Does i ∷ ms) (built_lines tops scope base st body)) [
        | inl e ↦
            label_made name (Does i ∷ ms) h.0 body n p b st e count known
            (λ after ys forms opened counted'. marks_made (Does i ∷ ms) ys (counted n name) p (b + 1) true after (subst (SayMarks gs ns (b + 1) (Does i ∷ ms)) (sym forms) h.2) ends.1 opened counted' known.1 read)
        | inr e ↦
            subst (λ x. IsMade st p (Starts x ∷ Does i ∷ ms) (built_lines tops scope base st body)) (sym e.0)
            (does_made i ms h.2.0 body (counted n name) p (b + 1) false st (e.1 ∙ h.2.1) h.2.2 (opens ∙ ends.0) count known.1 read.0
            (λ k after ys says opened counted' known'. marks_made ms ys k (p + 1) (b + 1) (not (is_terminator i.op)) after says ends.1.1 opened counted' known' read.1))
      ]
  marks_made (Does i ∷ ms) body n p b o st h ends opens count known read =
      does_made i ms h.0 body n p b true st h.1 h.2 (opens ∙ ends.0) count known read.0
      (λ k after ys says opened counted' known'. marks_made ms ys k (p + 1) b (not (is_terminator i.op)) after says ends.1 opened counted' known' read.1)

-- ---- parameters

name_again : {name : Option (List ℕ)} {text : List ℕ} {w : Option (List ℕ)} → MayWrite name text w → (n : ℕ) → text ≡ shown n name → Again n name → written_again w ≡ name
name_again (AsShown name text) n e again = ap written_name e ∙ again.name_again
name_again (LeftOut text) n e again = refl

same_param : (p : Param) (id : Id) (name : Option (List ℕ)) (ty : Ty) (attrs : List ℕ) (noalias : Bool) → id ≡ p.id → name ≡ p.name → ty ≡ p.ty → attrs ≡ p.attrs → noalias ≡ p.noalias →
    record { id = id; name = name; ty = ty; attrs = attrs; noalias = noalias } ≡ p
same_param p id name ty attrs noalias e f g h i =
    ap (λ (x : Id). record { id = x; name = name; ty = ty; attrs = attrs; noalias = noalias }) e
    ∙ ap (λ (x : Option (List ℕ)). record { id = p.id; name = x; ty = ty; attrs = attrs; noalias = noalias }) f
    ∙ ap (λ (x : Ty). record { id = p.id; name = p.name; ty = x; attrs = attrs; noalias = noalias }) g
    ∙ ap (λ (x : List ℕ). record { id = p.id; name = p.name; ty = p.ty; attrs = x; noalias = noalias }) h
    ∙ ap (λ (x : Bool). record { id = p.id; name = p.name; ty = p.ty; attrs = p.attrs; noalias = x }) i

-- the parameters with their ids and names
pub params_again : (base : ℕ) (scope : Scope LocalMeaning) (ns : Names) (n p b k : ℕ) (ps qs : List Param) (rest : List Thing) → AllZip (IsWrittenParam ns) ps qs → k ≡ base + p → Known base scope ns n p b (params_things ps rest) → params_from k qs ≡ ps
params_again base scope ns n p b k [] [] rest zip e known = refl
params_again base scope ns n p b k [] (q ∷ qs) rest zip e known = absurd zip
params_again base scope ns n p b k (prm ∷ ps) [] rest zip e known = absurd zip
params_again base scope ns n p b k (prm ∷ ps) (q ∷ qs) rest zip e known =
    let first : record { id = id_of k; name = written_again q.name; ty = q.ty; attrs = q.attrs; noalias = q.noalias } ≡ prm =
    same_param prm (id_of k) (written_again q.name) q.ty q.attrs q.noalias (ap (λ (x : ℕ). record { region = 0; k = x }) e ∙ sym known.0.placed) (name_again zip.0.name n (ap shown_text known.0.shows) known.0.once_more) zip.0.ty zip.0.attrs zip.0.noalias in
    ap (λ x. x ∷ params_from (k + 1) qs) first ∙ ap (λ xs. prm ∷ xs) (params_again base scope ns (counted n prm.name) (p + 1) b (k + 1) ps qs rest zip.1 (omega (arith, e)) known.1)
