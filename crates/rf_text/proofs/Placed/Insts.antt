-- The parameters and the instructions of a function stand where they are shown.
use Rattle.std.proofs.Common.{◌≡◌, ℕ, suc, ◌+◌, ◌^◌, ◌<◌, Bool, true, false, not, ◌&&◌, List, [], ◌∷◌, ◌++◌, length, map, Option, Some, Result, Ok, Err, refl, ◌∙◌, ap, arith}
use Rattle.std.proofs.lemmas.List.{append-nil}
use Rattle.std.proofs.lemmas.List.Elements.{All-head, All-tail}
use Rattle.std.specs.List.{All}
use Rattle.ir_lex.proofs.Classes.{both}
use Rattle.ir_types.specs.declared.ty.Ty.{Ty}
use Rattle.ir_types.specs.declared.opd.Opd.{Opd}
use Rattle.ir_types.specs.declared.opd.Opd.TheVariants.{Val, Lit, Sym}
use Rattle.ir_types.specs.declared.op.Op.{Op}
use Rattle.ir_types.specs.declared.op.Op.TheVariants.{Alloca, Phi, Switch, Call}
use Rattle.ir_types.specs.declared.inst.Inst.{Inst}
use Rattle.ir_types.specs.declared.func.Param.{Param}
use Rattle.ir_types.specs.Formed.{is_phi, is_alloca, is_terminator, ends_from, PhisFirst}
use Rattle.ir_draft.specs.declared.line.Line.{Line}
use Rattle.ir_draft.specs.declared.line.Line.TheVariants as form
use Rattle.ir_print.specs.Names.{Names, Named, Value, result_named, insts_named, params_named, shown, counted, local_of, is_store, is_void}
use Rattle.ir_read.specs.declared.refusal.ReadRefusal.{ReadRefusal}
use Rattle.ir_read.specs.Answers.{◌>>=◌}
use Rattle.ir_read.specs.Outlook.{has}
use Rattle.ir_read.specs.Numbers.{after_result, after_param, after_params}
use Rattle.ir_read.specs.Position.{may_stand, spot_after, opened, after_stmt, after_case, after_cases}
use Rattle.ir_read.specs.Function.{any_barred, is_foreign, after_inst}
use Rattle.ir_read.proofs.Placing.{Place, Opening, no_block, front, after, cases, place, body_line, body_lines}
use Rattle.rf_text.specs.Headed.{shown_name, shown_params}
use Rattle.rf_text.specs.Shown.{is_call}
use Rattle.rf_text.specs.Written.{shown_text, shown_global, arg_of, op_of, result_of, stmt_of, cases_of, first_ty, more_forms, forms_of}
use Rattle.rf_text.specs.ModuleForms.{insts_forms}
use Rattle.ir_types.specs.Formed.{is_plain}
use Rattle.rf_text.proofs.Placed.Names.{Ahead, name_taken, ahead_small, value_found, value_passed}

-- ---- lines after others

next_line : (n k : ℕ) → n + 1 + k ≡ n + suc k
next_line n k = omega arith

pub lines_append : (names : List (List ℕ)) (n : ℕ) (p q : Place) (fs gs : List Line) → body_lines names n p fs ≡ Ok q → body_lines names n p (fs ++ gs) ≡ body_lines names (n + length fs) q gs
lines_append names n p q [] gs e = let same : p ≡ q = cc in let here : n ≡ n + 0 = omega arith in ap (λ (r : Place). body_lines names n r gs) same ∙ ap (λ k. body_lines names k q gs) here
lines_append names n p q (f ∷ fs) gs e = here (body_line names n p f) e (λ r. lines_append names (n + 1) r q fs gs) where
  here : (r : Result Place ReadRefusal) → (r >>= (λ q. body_lines names (n + 1) q fs)) ≡ Ok q →
      ((r : Place) → body_lines names (n + 1) r fs ≡ Ok q → body_lines names (n + 1) r (fs ++ gs) ≡ body_lines names (n + 1 + length fs) q gs) →
      (r >>= (λ q. body_lines names (n + 1) q (fs ++ gs))) ≡ body_lines names (n + suc (length fs)) q gs
  here (Ok r) e next = next r e ∙ ap (λ k. body_lines names k q gs) (next_line n (length fs))
  here (Err refusal) e next = cc

-- ---- parameters

-- the counter after the parameters, as a reader has it
pub record ParamsTaken (ns : Names) (line at n : ℕ) (from : ℕ) (ps : List Param) (vs : List Named) : Type 0 where
  pub next : ℕ
  pub taken : after_params line n (shown_params ns from ps) ≡ Ok next
  pub ahead : Ahead ns at next vs

pub params_taken : (ns : Names) (line at n from : ℕ) (ps : List Param) (vs : List Named) → All (λ (p : Param). is_plain p.name ≡ true) ps → Ahead ns at n (params_named ps vs) → ParamsTaken ns line at n from ps vs
params_taken ns line at n from [] vs plain ahead = record { next = n; taken = refl; ahead = ahead }
params_taken ns line at n from (p ∷ ps) vs plain ahead =
    let named : is_plain p.name ≡ true = All-head (λ (p : Param). is_plain p.name ≡ true) p ps plain in
    let found : local_of p.id ns.locals ≡ Some (record { id = p.id; ty = p.ty; text = shown n p.name }) = value_found ns at n p.id p.ty p.name (params_named ps vs) ahead in
    let small : n < 2 ^ 64 = ahead_small ns at n (Value p.id p.ty p.name) (params_named ps vs) ahead in
    let first : after_param line n (shown_name (local_of p.id ns.locals)) ≡ Ok (counted n p.name) = rw found (name_taken line n p.name named small) in
    let rest : ParamsTaken ns line at (counted n p.name) (from + 1) ps vs = params_taken ns line at (counted n p.name) (from + 1) ps vs (All-tail (λ (p : Param). is_plain p.name ≡ true) p ps plain) (value_passed ns at n p.id p.ty p.name (params_named ps vs) ahead) in
    record {
      next = rest.next;
      taken = ap (λ (r : Result ℕ ReadRefusal). r >>= (λ after. after_params line after (shown_params ns (from + 1) ps))) first ∙ rest.taken;
      ahead = rest.ahead;
    }

-- ---- one instruction

negated : (a : Bool) → not a ≡ true → a ≡ false
negated true h = cc
negated false h = refl

-- what is open in a block, after phis alone or not
abbrev pub opening : Bool → Opening
opening true = front
opening false = after

-- and after an instruction with its lines
abbrev pub opening_after : Bool → Bool → Opening
opening_after true phis = no_block
opening_after false phis = opening phis

abbrev pub IsFree : List (List ℕ) → List (List ℕ) → Opd → Type 0
IsFree names gs (Sym g) = has names (shown_global gs g) ≡ false
IsFree names gs o = Unit {0}

-- an instruction of the block of this number that is of the profile
pub record IsFitting (names gs : List (List ℕ)) (number : ℕ) (i : Inst) : Type 0 where
  pub named : is_plain i.name ≡ true
  pub other : is_call i.op ≡ false
  pub free : All (IsFree names gs) i.opds
  pub allocas : is_alloca i.op ≡ true → number ≡ 0

opened_in : (before : Bool) (next insts blocks : ℕ) → opened (place next insts blocks (opening before)) ≡ place next insts blocks (opening before)
unfolding opened
opened_in true next insts blocks = refl
opened_in false next insts blocks = refl

no_foreign : (before : Bool) (next insts number : ℕ) (op : Op) → is_call op ≡ false → (is_alloca op ≡ true → number ≡ 0) → is_foreign (place next insts (number + 1) (opening before)) (op_of op) ≡ false
no_foreign before next insts number (Alloca elem align) other first = let none : number ≡ 0 = first refl in rw (opened_in before next insts (number + 1), none) refl
no_foreign before next insts number (Call site) other first = cc
no_foreign before next insts number op other first = refl

none_barred : (names : List (List ℕ)) (ns : Names) (gs : List (List ℕ)) (os : List Opd) → All (IsFree names gs) os → any_barred names (map (arg_of ns gs) os) ≡ false
none_barred names ns gs [] free = refl
none_barred names ns gs (Val id ∷ os) free = none_barred names ns gs os (All-tail (IsFree names gs) (Val id) os free)
none_barred names ns gs (Lit literal ∷ os) free = none_barred names ns gs os (All-tail (IsFree names gs) (Lit literal) os free)
none_barred names ns gs (Sym g ∷ os) free = rw (All-head (IsFree names gs) (Sym g) os free) (none_barred names ns gs os (All-tail (IsFree names gs) (Sym g) os free))

may_stand_in : (before : Bool) (op : Op) → (is_phi op ≡ true → before ≡ true) → may_stand (opening before) (op_of op) ≡ true
may_stand_in true op phis = refl
may_stand_in false (Phi blocks) phis = let none : false ≡ true = phis refl in cc
may_stand_in false op phis = refl

-- after its first line, a switch is open for its cases
cases_stand : (names : List (List ℕ)) (ns : Names) (ty : Ty) (ms : List (Option ℕ)) (bs : List ℕ) (line next insts blocks : ℕ) →
    body_lines names line (place next insts blocks cases) (cases_of ns ty ms bs ++ form.CasesEnd ∷ []) ≡ Ok (place next insts blocks no_block)
unfolding after_case after_cases
cases_stand names ns ty [] bs line next insts blocks = refl
cases_stand names ns ty (m ∷ ms) [] line next insts blocks = refl
cases_stand names ns ty (m ∷ ms) (b ∷ bs) line next insts blocks = cases_stand names ns ty ms bs (line + 1) next insts blocks

more_stand : (names : List (List ℕ)) (ns : Names) (os : List Opd) (op : Op) (before : Bool) → is_call op ≡ false → (is_phi op ≡ true → before ≡ true) → (line next insts blocks : ℕ) →
    body_lines names line (place next insts blocks (spot_after (op_of op))) (more_forms ns os op) ≡ Ok (place next insts blocks (opening_after (is_terminator op) (before && is_phi op)))
more_stand names ns os (Switch other cases to) before call phis line next insts blocks = cases_stand names ns (first_ty ns os) cases to line next insts blocks
more_stand names ns os (Phi bs) before call phis line next insts blocks = rw (phis refl) refl
more_stand names ns os (Call site) before call phis line next insts blocks = cc
more_stand names ns os op true call phis line next insts blocks = refl
more_stand names ns os op false call phis line next insts blocks = refl

-- what an instruction gives takes its name or its number
pub record ResultTaken (ns : Names) (line at n : ℕ) (result : Option (List ℕ)) (vs : List Named) : Type 0 where
  pub next : ℕ
  pub taken : after_result line n result ≡ Ok next
  pub ahead : Ahead ns at next vs

pub result_taken : (ns : Names) (line at n : ℕ) (i : Inst) (vs : List Named) (void store : Bool) → is_plain i.name ≡ true → Ahead ns at n (result_named void store i vs) →
    ResultTaken ns line at n (result_of void store (shown_text (local_of i.id ns.locals))) vs
result_taken ns line at n i vs false false named ahead =
    let found : local_of i.id ns.locals ≡ Some (record { id = i.id; ty = i.ty; text = shown n i.name }) = value_found ns at n i.id i.ty i.name vs ahead in
    let small : n < 2 ^ 64 = ahead_small ns at n (Value i.id i.ty i.name) vs ahead in
    record { next = counted n i.name; taken = rw found (name_taken line n i.name named small); ahead = value_passed ns at n i.id i.ty i.name vs ahead }
result_taken ns line at n i vs false true named ahead = record { next = n; taken = refl; ahead = ahead }
result_taken ns line at n i vs true store named ahead = record { next = n; taken = refl; ahead = ahead }

module _ (names : List (List ℕ)) (ns : Names) (gs : List (List ℕ)) where
  stmt_stands : (before : Bool) (line n next insts number : ℕ) (i : Inst) → IsFitting names gs number i → (is_phi i.op ≡ true → before ≡ true) → after_result line n (stmt_of ns gs i).result ≡ Ok next →
      body_line names line (place n insts (number + 1) (opening before)) (form.Stmt (stmt_of ns gs i)) ≡ Ok (place next (insts + 1) (number + 1) (spot_after (op_of i.op)))
  unfolding after_inst after_stmt
  stmt_stands before line n next insts number i fits phis taken =
      rw (no_foreign before n insts number i.op fits.other fits.allocas, none_barred names ns gs i.opds fits.free, may_stand_in before i.op phis, opened_in before n insts (number + 1), taken) refl

  pub inst_stands : (before : Bool) (line n next insts number : ℕ) (i : Inst) → IsFitting names gs number i → (is_phi i.op ≡ true → before ≡ true) → after_result line n (stmt_of ns gs i).result ≡ Ok next →
      body_lines names line (place n insts (number + 1) (opening before)) (forms_of ns gs i) ≡ Ok (place next (insts + 1) (number + 1) (opening_after (is_terminator i.op) (before && is_phi i.op)))
  inst_stands before line n next insts number i fits phis taken =
      ap (λ (r : Result Place ReadRefusal). r >>= (λ q. body_lines names (line + 1) q (more_forms ns i.opds i.op))) (stmt_stands before line n next insts number i fits phis taken)
      ∙ more_stand names ns i.opds i.op before fits.other phis (line + 1) next (insts + 1) (number + 1)

  -- ---- the instructions of a block

  pub record InstsStand (line n insts blocks at : ℕ) (spot : Opening) (is : List Inst) (vs : List Named) : Type 0 where
    pub next : ℕ
    pub insts_after : ℕ
    pub stand : body_lines names line (place n insts blocks spot) (insts_forms ns gs is) ≡ Ok (place next insts_after blocks no_block)
    pub ahead : Ahead ns at next vs

  pub insts_stand : (before : Bool) (line n insts number at : ℕ) (i : Inst) (is : List Inst) (vs : List Named) → ends_from i is ≡ true → PhisFirst before (i ∷ is) → All (IsFitting names gs number) (i ∷ is) →
      Ahead ns at n (insts_named (i ∷ is) vs) → InstsStand line n insts (number + 1) at (opening before) (i ∷ is) vs
  insts_stand before line n insts number at i [] vs ends phis fits ahead =
      let result : ResultTaken ns line at n (stmt_of ns gs i).result vs = result_taken ns line at n i vs (is_void i.ty) (is_store i.op) (All-head (IsFitting names gs number) i [] fits).named ahead in
      let stands : body_lines names line (place n insts (number + 1) (opening before)) (forms_of ns gs i) ≡ Ok (place result.next (insts + 1) (number + 1) (opening_after (is_terminator i.op) (before && is_phi i.op))) =
      inst_stands before line n result.next insts number i (All-head (IsFitting names gs number) i [] fits) phis.0 result.taken in
      let ended : opening_after (is_terminator i.op) (before && is_phi i.op) ≡ no_block = rw ends refl in
      record {
        next = result.next;
        insts_after = insts + 1;
        stand = ap (body_lines names line (place n insts (number + 1) (opening before))) (append-nil (forms_of ns gs i)) ∙ stands ∙ ap (λ (s : Opening). Ok (place result.next (insts + 1) (number + 1) s)) ended;
        ahead = result.ahead;
      }
  insts_stand before line n insts number at i (j ∷ is) vs ends phis fits ahead =
      let result : ResultTaken ns line at n (stmt_of ns gs i).result (insts_named (j ∷ is) vs) =
      result_taken ns line at n i (insts_named (j ∷ is) vs) (is_void i.ty) (is_store i.op) (All-head (IsFitting names gs number) i (j ∷ is) fits).named ahead in
      let stands : body_lines names line (place n insts (number + 1) (opening before)) (forms_of ns gs i) ≡ Ok (place result.next (insts + 1) (number + 1) (opening_after (is_terminator i.op) (before && is_phi i.op))) =
      inst_stands before line n result.next insts number i (All-head (IsFitting names gs number) i (j ∷ is) fits) phis.0 result.taken in
      let goes : opening_after (is_terminator i.op) (before && is_phi i.op) ≡ opening (before && is_phi i.op) = rw (negated (is_terminator i.op) (both (not (is_terminator i.op)) _ ends).0) refl in
      let rest : InstsStand (line + length (forms_of ns gs i)) result.next (insts + 1) (number + 1) at (opening (before && is_phi i.op)) (j ∷ is) vs =
      insts_stand (before && is_phi i.op) (line + length (forms_of ns gs i)) result.next (insts + 1) number at j is vs (both (not (is_terminator i.op)) _ ends).1 phis.1
      (All-tail (IsFitting names gs number) i (j ∷ is) fits) result.ahead in
      record {
        next = rest.next;
        insts_after = rest.insts_after;
        stand =
            lines_append names line (place n insts (number + 1) (opening before)) (place result.next (insts + 1) (number + 1) (opening (before && is_phi i.op))) (forms_of ns gs i) (insts_forms ns gs (j ∷ is))
            (stands ∙ ap (λ (s : Opening). Ok (place result.next (insts + 1) (number + 1) s)) goes)
            ∙ rest.stand;
        ahead = rest.ahead;
      }
