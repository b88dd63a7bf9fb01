-- The lines of a body that spell a function of the profile stand where they may.
use Rattle.std.proofs.Common.{◌≡◌, ℕ, ◌+◌, ◌^◌, ◌<◌, inl, inr, Bool, true, false, cond, not, ◌&&◌, List, [], ◌∷◌, ◌++◌, length, Option, Some, None, Result, Ok, Err, refl, sym, ◌∙◌, ap, subst, arith}
use Rattle.std.specs.List.{All, AllZip}
use Rattle.std.proofs.lemmas.List.Elements.{All-head, All-tail}
use Rattle.std.specs.Prelude.{unwrap_or}
use Rattle.vx_digits.specs.Numbers.{number_of}
use Rattle.ir_types.specs.declared.op.Op.{Op}
use Rattle.ir_types.specs.declared.op.Op.TheVariants.{Alloca, Call}
use Rattle.ir_types.specs.declared.inst.Inst.{Inst}
use Rattle.ir_types.specs.declared.func.Param.{Param}
use Rattle.ir_types.specs.declared.func.Block.{Block}
use Rattle.ir_types.specs.Formed.{is_phi, is_terminator, PhisFirst}
use Rattle.ir_draft.specs.declared.line.Line.{Line}
use Rattle.ir_draft.specs.declared.line.Line.TheVariants as line
use Rattle.ir_print.specs.Names.{Names, Named, Value, Label, params_named, shown, counted, local_of, is_store, is_void}
use Rattle.ir_read.specs.declared.refusal.ReadRefusal.{ReadRefusal}
use Rattle.ir_read.specs.declared.refusal.ReadRefusal.TheVariants.{Misplaced, NotALine}
use Rattle.ir_read.specs.Answers.{◌>>=◌}
use Rattle.ir_read.specs.Numbers.{is_unnamed, is_next, after_name, after_result, after_param, after_params}
use Rattle.ir_read.specs.Position.{is_between, is_cases, may_stand, spot_after, opened, after_label, after_stmt, after_case, after_cases}
use Rattle.ir_read.specs.Function.{is_foreign, is_outside, after_inst}
use Rattle.ir_read.proofs.Placing.{Place, Opening, no_block, front, place, body_line, body_lines}
use Rattle.ir_types.specs.Formed.{is_plain}
use Rattle.rf_text.specs.Spelled.{solid, MayWrite, AsShown, LeftOut, IsWrittenParam}
use Rattle.rf_text.specs.Written.{op_of, shown_text, shown_block, stmt_of, more_forms, forms_of}
use Rattle.rf_text.proofs.Placed.Blocks.{AreFitting, label_stands}
use Rattle.rf_text.proofs.Placed.Insts.{IsFitting, opening, opening_after, ResultTaken, result_taken, inst_stands, lines_append}
use Rattle.rf_text.proofs.Placed.Names.{Ahead, name_taken, ahead_small, value_found, value_passed, label_found, label_passed}
use Rattle.rf_text.proofs.Spells.Built.{Mark, Starts, Does, insts_marks, marks}
use Rattle.rf_text.proofs.Spells.Marks.{many, starts, SayMarks, Ends, marks_named}

clash : {P : Type 0} → true ≡ false → P
clash e = cc

abbrev ok : {A : Type 0} → A → Result A ReadRefusal
ok x = Ok x

refused : {A P : Type 0} {refusal : ReadRefusal} {y : A} → Err refusal ≡ Ok y → P
refused e = cc

-- ---- parameters

pub record ParamsTaken (ns : Names) (ln at n : ℕ) (qs : List Param) (vs : List Named) : Type 0 where
  pub next : ℕ
  pub taken : after_params ln n qs ≡ Ok next
  pub ahead : Ahead ns at next vs

may_take : {name : Option (List ℕ)} {text : List ℕ} {w : Option (List ℕ)} → MayWrite name text w → (ln n : ℕ) → text ≡ shown n name → is_plain name ≡ true → n < 2 ^ 64 → after_param ln n w ≡ Ok (counted n name)
may_take (AsShown name text) ln n e plain small = ap (after_name ln n) e ∙ name_taken ln n name plain small
may_take (LeftOut text) ln n e plain small = refl

pub params_taken : (ns : Names) (ln at n : ℕ) (ps qs : List Param) (vs : List Named) → AllZip (IsWrittenParam ns) ps qs → All (λ (p : Param). is_plain p.name ≡ true) ps → Ahead ns at n (params_named ps vs) → ParamsTaken ns ln at n qs vs
params_taken ns ln at n [] [] vs zip plain ahead = record { next = n; taken = refl; ahead = ahead }
params_taken ns ln at n [] (q ∷ qs) vs zip plain ahead = absurd zip
params_taken ns ln at n (p ∷ ps) [] vs zip plain ahead = absurd zip
params_taken ns ln at n (p ∷ ps) (q ∷ qs) vs zip plain ahead =
    let text : shown_text (local_of p.id ns.locals) ≡ shown n p.name = ap shown_text (value_found ns at n p.id p.ty p.name (params_named ps vs) ahead) in
    let small : n < 2 ^ 64 = ahead_small ns at n (Value p.id p.ty p.name) (params_named ps vs) ahead in
    let first : after_param ln n q.name ≡ Ok (counted n p.name) = may_take zip.0.name ln n text (All-head (λ (p : Param). is_plain p.name ≡ true) p ps plain) small in
    let rest : ParamsTaken ns ln at (counted n p.name) qs vs =
    params_taken ns ln at (counted n p.name) ps qs vs zip.1 (All-tail (λ (p : Param). is_plain p.name ≡ true) p ps plain) (value_passed ns at n p.id p.ty p.name (params_named ps vs) ahead) in
    record { next = rest.next; taken = ap (λ (r : Result ℕ ReadRefusal). r >>= (λ after. after_params ln after qs)) first ∙ rest.taken; ahead = rest.ahead }

-- ---- marks

module _ (names : List (List ℕ)) (ns : Names) (gs : List (List ℕ)) where
  -- marks of the profile, where so many blocks have begun, and phis alone have come or not
  abbrev pub FitMarks : ℕ → Bool → List Mark → Type 0
  FitMarks at before [] = Unit {0}
  FitMarks at before (Starts name ∷ ms) = (is_plain name ≡ true) × FitMarks (at + 1) true ms
  FitMarks at before (Does i ∷ ms) = (number : ℕ) × (at ≡ number + 1) × IsFitting names gs number i × (is_phi i.op ≡ true → before ≡ true) × FitMarks at (before && is_phi i.op) ms

  insts_fit : (number : ℕ) (before : Bool) (is : List Inst) (ms : List Mark) → PhisFirst before is → All (IsFitting names gs number) is → ((before : Bool) → FitMarks (number + 1) before ms) → FitMarks (number + 1) before (insts_marks is ms)
  insts_fit number before [] ms phis fits more = more before
  insts_fit number before (i ∷ is) ms phis fits more =
      (number, refl, All-head (IsFitting names gs number) i is fits, phis.0, insts_fit number (before && is_phi i.op) is ms phis.1 (All-tail (IsFitting names gs number) i is fits) more)

  pub blocks_fit : (number : ℕ) (bs : List Block) → AreFitting names gs number bs → (before : Bool) → FitMarks number before (marks bs)
  blocks_fit number [] fits = λ before. tt
  blocks_fit number (b ∷ bs) fits = λ before. (fits.0.named, insts_fit number true b.insts (marks bs) fits.0.phis fits.0.insts (blocks_fit (number + 1) bs fits.1))

  -- ---- where no block is open, an instruction begins an unnamed one

  same_foreign : (n insts at : ℕ) (op : Op) → is_foreign (place n insts at no_block) op ≡ is_foreign (place (n + 1) insts (at + 1) front) op
  unfolding opened
  same_foreign n insts at (Alloca elem align) = refl
  same_foreign n insts at (Call site) = refl
  same_foreign n insts at op = refl

  unnamed_opens : (ln n insts at : ℕ) (i : Inst) → body_line names ln (place n insts at no_block) (line.Stmt (stmt_of ns gs i)) ≡ body_line names ln (place (n + 1) insts (at + 1) front) (line.Stmt (stmt_of ns gs i))
  unfolding after_inst after_stmt opened
  unnamed_opens ln n insts at i = rw (same_foreign n insts at (op_of i.op)) refl

  unlabelled : (ln n insts at : ℕ) (ms : List Mark) (fs : List Line) → SayMarks gs ns (at + 1) ms fs → Ends true ms → body_lines names ln (place n insts at no_block) fs ≡ body_lines names ln (place (n + 1) insts (at + 1) front) fs
  unlabelled ln n insts at [] fs h ends = clash ends
  unlabelled ln n insts at (Starts name ∷ ms) fs h ends = clash ends.0
  unlabelled ln n insts at (Does i ∷ ms) fs h ends =
      ap (body_lines names ln (place n insts at no_block)) h.1
      ∙ ap (λ (r : Result Place ReadRefusal). r >>= (λ q. body_lines names (ln + 1) q (more_forms ns i.opds i.op ++ h.0))) (unnamed_opens ln n insts at i)
      ∙ sym (ap (body_lines names ln (place (n + 1) insts (at + 1) front)) h.1)

  -- ---- lines

  -- what is open in a block or outside
  abbrev spot : Bool → Bool → Opening
  spot true before = opening before
  spot false before = no_block

  past_spot : (ends before : Bool) → opening_after ends before ≡ spot (not ends) before
  past_spot true before = refl
  past_spot false before = refl

  pub record LinesStand (at before : ℕ) (ms : List Mark) (said : Result Place ReadRefusal) : Type 0 where
    pub next : ℕ
    pub insts : ℕ
    pub blocks : ℕ
    pub stand : said ≡ Ok (place next insts blocks no_block)
    pub count : blocks ≡ at + starts ms
    pub done : insts ≡ before + many ms

  pub marks_stand : (ms : List Mark) (fs : List Line) (ln n insts at : ℕ) (o before : Bool) → SayMarks gs ns at ms fs → Ends o ms → FitMarks at before ms → Ahead ns at n (marks_named ms) → LinesStand at insts ms (body_lines names ln (place n insts at (spot o before)) fs)
  marks_stand [] fs ln n insts at o before says ends fits ahead = record {
    next = n;
    insts = insts;
    blocks = at;
    stand = ap (λ x. body_lines names ln (place n insts at (spot x before)) fs) ends ∙ ap (body_lines names ln (place n insts at no_block)) says;
    count = omega arith;
    done = omega arith;
  }
  marks_stand (Starts name ∷ ms) fs ln n insts at o before says ends fits ahead =
      let small : n < 2 ^ 64 = ahead_small ns at n (Label name) (marks_named ms) ahead in
      let text : shown_block ns at ≡ shown n name = ap (λ (x : Option (List ℕ)). unwrap_or x []) (label_found ns at n name (marks_named ms) ahead) in
      let next : (k : ℕ) (rest : List Line) → SayMarks gs ns (at + 1) ms rest → LinesStand (at + 1) insts ms (body_lines names k (place (counted n name) insts (at + 1) front) rest) =
      λ k rest h. marks_stand ms rest k (counted n name) insts (at + 1) true true h ends.1 fits.1 (label_passed ns at n name (marks_named ms) ahead) in
      let shut : body_lines names ln (place n insts at (spot o before)) fs ≡ body_lines names ln (place n insts at no_block) fs = ap (λ x. body_lines names ln (place n insts at (spot x before)) fs) ends.0 in
      elim says.1 as (λ _. LinesStand at insts (Starts name ∷ ms) (body_lines names ln (place n insts at (spot o before)) fs)) [
        | inl e ↦
            let r : LinesStand (at + 1) insts ms (body_lines names (ln + 1) (place (counted n name) insts (at + 1) front) says.0) = next (ln + 1) says.0 says.2 in
            record {
              next = r.next;
              insts = r.insts;
              blocks = r.blocks;
              stand = shut ∙ ap (body_lines names ln (place n insts at no_block)) e ∙ ap (λ x. after_label ln (place n insts at no_block) x >>= (λ q. body_lines names (ln + 1) q says.0)) text
                  ∙ ap (λ (x : Result Place ReadRefusal). x >>= (λ q. body_lines names (ln + 1) q says.0)) (label_stands ln n insts at name fits.0 small) ∙ r.stand;
              count = let same : r.blocks ≡ at + 1 + starts ms = r.count in omega (arith, same);
              done = r.done;
            }
        | inr e ↦
            let h : SayMarks gs ns (at + 1) ms fs = subst (SayMarks gs ns (at + 1) ms) (sym e.1) says.2 in
            let r : LinesStand (at + 1) insts ms (body_lines names ln (place (counted n name) insts (at + 1) front) fs) = next ln fs h in
            record {
              next = r.next;
              insts = r.insts;
              blocks = r.blocks;
              stand = shut ∙ unlabelled ln n insts at ms fs h ends.1 ∙ sym (ap (λ x. body_lines names ln (place (counted n x) insts (at + 1) front) fs) e.0) ∙ r.stand;
              count = let same : r.blocks ≡ at + 1 + starts ms = r.count in omega (arith, same);
              done = r.done;
            }
      ]
  marks_stand (Does i ∷ ms) fs ln n insts at o before says ends fits ahead =
      let number : ℕ = fits.0 in
      let result : ResultTaken ns ln at n (stmt_of ns gs i).result (marks_named ms) = result_taken ns ln at n i (marks_named ms) (is_void i.ty) (is_store i.op) fits.2.named ahead in
      let first : body_lines names ln (place n insts (fits.0 + 1) (opening before)) (forms_of ns gs i) ≡ Ok (place result.next (insts + 1) (fits.0 + 1) (opening_after (is_terminator i.op) (before && is_phi i.op))) =
      inst_stands names ns gs before ln n result.next insts fits.0 i fits.2 fits.3 result.taken in
      let here : body_lines names ln (place n insts at (opening before)) (forms_of ns gs i) ≡ Ok (place result.next (insts + 1) at (spot (not (is_terminator i.op)) (before && is_phi i.op))) =
      ap (λ k. body_lines names ln (place n insts k (opening before)) (forms_of ns gs i)) fits.1 ∙ first
      ∙ sym (ap (λ k. ok (place result.next (insts + 1) k (opening_after (is_terminator i.op) (before && is_phi i.op)))) fits.1)
      ∙ ap (λ s. ok (place result.next (insts + 1) at s)) (past_spot (is_terminator i.op) (before && is_phi i.op)) in
      let r : LinesStand at (insts + 1) ms (body_lines names (ln + length (forms_of ns gs i)) (place result.next (insts + 1) at (spot (not (is_terminator i.op)) (before && is_phi i.op))) says.0) =
      marks_stand ms says.0 (ln + length (forms_of ns gs i)) result.next (insts + 1) at (not (is_terminator i.op)) (before && is_phi i.op) says.2 ends.1 fits.4 result.ahead in
      record {
        next = r.next;
        insts = r.insts;
        blocks = r.blocks;
        stand =
            ap (λ x. body_lines names ln (place n insts at (spot x before)) fs) ends.0 ∙ ap (body_lines names ln (place n insts at (opening before))) says.1
            ∙ lines_append names ln (place n insts at (opening before)) (place result.next (insts + 1) at (spot (not (is_terminator i.op)) (before && is_phi i.op))) (forms_of ns gs i) says.0 here ∙ r.stand;
        count = r.count;
        done = let same : r.insts ≡ insts + 1 + many ms = r.done in omega (arith, same);
      }

-- ---- where a line stands does not hang on its number

bind_ok : {A B P : Type 0} (r : Result A ReadRefusal) (f : A → Result B ReadRefusal) (y : B) → (r >>= f) ≡ Ok y → ((x : A) → r ≡ Ok x → f x ≡ Ok y → P) → P
bind_ok (Ok x) f y e k = k x refl e
bind_ok (Err refusal) f y e k = cc

-- the same answer where both refuse or neither does
same_cond : {A : Type 0} (b : Bool) (r s : Result A ReadRefusal) (x y : ReadRefusal) (a : A) → (r ≡ Ok a → s ≡ Ok a) → cond b r (Err x) ≡ Ok a → cond b s (Err y) ≡ Ok a
same_cond true r s x y a f e = f e
same_cond false r s x y a f e = refused e

same_not : {A : Type 0} (b : Bool) (r s : Result A ReadRefusal) (x y : ReadRefusal) (a : A) → (r ≡ Ok a → s ≡ Ok a) → cond b (Err x) r ≡ Ok a → cond b (Err y) s ≡ Ok a
same_not true r s x y a f e = refused e
same_not false r s x y a f e = f e

same_name : (ln k n : ℕ) (name : List ℕ) (after : ℕ) → after_name ln n name ≡ Ok after → after_name k n name ≡ Ok after
unfolding after_name
same_name ln k n name after e = go (is_unnamed name) e where
  go : (u : Bool) → cond u (cond (is_next n (number_of name)) (Ok (n + 1)) (Err (Misplaced ln))) (Ok n) ≡ Ok after → cond u (cond (is_next n (number_of name)) (Ok (n + 1)) (Err (Misplaced k))) (Ok n) ≡ Ok after
  go true e = same_cond (is_next n (number_of name)) (Ok (n + 1)) (Ok (n + 1)) (Misplaced ln) (Misplaced k) after (λ h. h) e
  go false e = e

same_result : (ln k n : ℕ) (name : Option (List ℕ)) (after : ℕ) → after_result ln n name ≡ Ok after → after_result k n name ≡ Ok after
same_result ln k n None after e = e
same_result ln k n (Some name) after e = same_name ln k n name after e

same_line : (names : List (List ℕ)) (ln k : ℕ) (p q : Place) (f : Line) → body_line names ln p f ≡ Ok q → body_line names k p f ≡ Ok q
unfolding after_label after_inst after_stmt after_case after_cases
same_line names ln k p q line.Empty e = e
same_line names ln k p q (line.Kept kept) e = refused e
same_line names ln k p q (line.Define name head) e = refused e
same_line names ln k p q line.Close e = refused e
same_line names ln k p q (line.Label name) e =
    same_cond (is_between p.spot) _ _ _ (Misplaced k) q
    (λ h. bind_ok (after_name ln p.next name) _ q h (λ next was is.
    ap (λ (r : Result ℕ ReadRefusal). r >>= (λ next. Ok (place next p.insts (p.blocks + 1) front))) (same_name ln k p.next name next was) ∙ is)) e
same_line names ln k p q (line.Stmt s) e =
    same_not (is_outside names p s) _ _ _ (NotALine k) q
    (λ h. same_cond (may_stand p.spot s.op) _ _ _ (Misplaced k) q
    (λ h. bind_ok (after_result ln (opened p).next s.result) _ q h (λ next was is.
    ap (λ (r : Result ℕ ReadRefusal). r >>= (λ next. Ok (place next (p.insts + 1) (opened p).blocks (spot_after s.op)))) (same_result ln k (opened p).next s.result next was) ∙ is)) h) e
same_line names ln k p q (line.Case value label) e = same_cond (is_cases p.spot) _ _ _ (Misplaced k) q (λ h. h) e
same_line names ln k p q line.CasesEnd e = same_cond (is_cases p.spot) _ _ _ (Misplaced k) q (λ h. h) e

-- nor on empty lines
pub lines_free : (names : List (List ℕ)) (ln k : ℕ) (p q : Place) (fs : List Line) → body_lines names ln p (solid fs) ≡ Ok q → body_lines names k p fs ≡ Ok q
lines_free names ln k p q [] e = e
lines_free names ln k p q (line.Empty ∷ fs) e = lines_free names ln (k + 1) p q fs e
lines_free names ln k p q (line.Kept kept ∷ fs) e = refused e
lines_free names ln k p q (line.Define name head ∷ fs) e = refused e
lines_free names ln k p q (line.Close ∷ fs) e = refused e
lines_free names ln k p q (line.Label name ∷ fs) e =
    bind_ok (body_line names ln p (line.Label name)) _ q e (λ r was now.
    ap (λ (x : Result Place ReadRefusal). x >>= (λ r. body_lines names (k + 1) r fs)) (same_line names ln k p r (line.Label name) was) ∙ lines_free names (ln + 1) (k + 1) r q fs now)
lines_free names ln k p q (line.Stmt s ∷ fs) e =
    bind_ok (body_line names ln p (line.Stmt s)) _ q e (λ r was now.
    ap (λ (x : Result Place ReadRefusal). x >>= (λ r. body_lines names (k + 1) r fs)) (same_line names ln k p r (line.Stmt s) was) ∙ lines_free names (ln + 1) (k + 1) r q fs now)
lines_free names ln k p q (line.Case value label ∷ fs) e =
    bind_ok (body_line names ln p (line.Case value label)) _ q e (λ r was now.
    ap (λ (x : Result Place ReadRefusal). x >>= (λ r. body_lines names (k + 1) r fs)) (same_line names ln k p r (line.Case value label) was) ∙ lines_free names (ln + 1) (k + 1) r q fs now)
lines_free names ln k p q (line.CasesEnd ∷ fs) e =
    bind_ok (body_line names ln p line.CasesEnd) _ q e (λ r was now.
    ap (λ (x : Result Place ReadRefusal). x >>= (λ r. body_lines names (k + 1) r fs)) (same_line names ln k p r line.CasesEnd was) ∙ lines_free names (ln + 1) (k + 1) r q fs now)
