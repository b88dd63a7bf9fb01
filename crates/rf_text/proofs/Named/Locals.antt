-- The names of a function, as its printed header and body define them: they are what is shown of its things.
use Rattle.std.proofs.Common.{◌≡◌, ℕ, ◌+◌, Bool, true, false, not, List, [], ◌∷◌, ◌++◌, Option, Some, None, Result, Ok, refl, sym, ◌∙◌, ap, append_assoc, append-nil}
use Rattle.std.proofs.lemmas.List.Elements.{All-head, All-tail}
use Rattle.std.specs.List.{All}
use Rattle.std.specs.Fmt.{decimal}
use Rattle.ir_types.specs.declared.ty.Ty.{Ty}
use Rattle.ir_types.specs.declared.opd.Opd.{Opd}
use Rattle.ir_types.specs.declared.op.Op.{Op}
use Rattle.ir_types.specs.declared.op.Op.TheVariants.{Phi, Br, CondBr, Switch}
use Rattle.ir_types.specs.declared.inst.Inst.{Inst}
use Rattle.ir_types.specs.declared.func.Param.{Param}
use Rattle.ir_types.specs.declared.func.Block.{Block}
use Rattle.ir_types.specs.declared.func.Func.{Func}
use Rattle.ir_types.specs.Formed.{is_terminator, ends_from, EndsOnce}
use Rattle.ir_lex.proofs.Classes.{both}
use Rattle.ir_draft.specs.declared.stmt.Stmt.{Stmt}
use Rattle.ir_draft.specs.declared.line.Line.{Line}
use Rattle.ir_draft.specs.declared.line.Line.TheVariants as line
use Rattle.ir_print.specs.declared.names.Local.{Local}
use Rattle.ir_print.specs.Names.{Names, names_of, local_of, shown, counted, is_store, is_void}
use Rattle.ir_read.specs.Bodies.{numbered_from}
use Rattle.ir_types_check.specs.declared.refusal.ResolveRefusal.{ResolveRefusal}
use Rattle.ir_types_check.specs.Answers.{◌>>=◌}
use Rattle.ir_types_check.specs.Scope.{Scope, of_function}
use Rattle.ir_types_check.specs.Outline.{opened, past_param, after_label, after_inst}
use Rattle.ir_types_check.specs.Locals.{with_name, with_param, with_params, with_label, with_opened, with_stmt, with_lines, locals_of}
use Rattle.ir_types_check.proofs.Handed.{LocalMeaning, value_at, block_at, LinePlace, LocalNames}
use Rattle.rf_text.specs.Headed.{shown_param, shown_params, shown_head}
use Rattle.rf_text.specs.Written.{op_of, result_of, shown_text, stmt_of, first_ty, more_forms, cases_of, forms_of}
use Rattle.rf_text.specs.ModuleForms.{label_forms, insts_forms, more_blocks_forms, blocks_forms, body_forms}
use Rattle.rf_text.proofs.Named.Scope.{Once, defined, moved}
use Rattle.rf_text.proofs.Named.Shown.{Again}
use Rattle.rf_text.proofs.Named.Things.{Thing, Begins, inst_thing, insts_things, blocks_things, params_things, things_of, scope_from}
use Rattle.rf_text.proofs.Named.Places.{Known, IsValue}

-- names that are defined, where n is the next number, p the next place and b the number of the next block, and one is open or not
abbrev pub locals : Scope LocalMeaning → ℕ → ℕ → ℕ → Bool → LocalNames
locals done n p b o = record { scope = done; at = record { next = n; place = p; blocks = b; is_open = o } }

-- an operation by its line ends a block where the operation does
pub ends_as : (op : Op) → is_terminator (op_of op) ≡ is_terminator op
ends_as (Phi blocks) = refl
ends_as (Br to) = refl
ends_as (CondBr first second) = refl
ends_as (Switch other cases to) = refl
ends_as op = refl

-- ---- lines that define nothing

cases_passed : (ns : Names) (l : LocalNames) (ty : Ty) (cases : List (Option ℕ)) (to : List ℕ) (rest : List Line) (n : ℕ) → (k : ℕ) × (with_lines l (numbered_from n (cases_of ns ty cases to ++ rest)) ≡ with_lines l (numbered_from k rest))
cases_passed ns l ty [] to rest n = (n, refl)
cases_passed ns l ty (c ∷ cs) [] rest n = (n, refl)
cases_passed ns l ty (c ∷ cs) (b ∷ bs) rest n = cases_passed ns l ty cs bs rest (n + 1)

more_passed : (ns : Names) (l : LocalNames) (os : List Opd) (op : Op) (rest : List Line) (n : ℕ) → (k : ℕ) × (with_lines l (numbered_from n (more_forms ns os op ++ rest)) ≡ with_lines l (numbered_from k rest))
more_passed ns l os (Switch other cases to) rest n =
    let ty : Ty = first_ty ns os in
    let first : (k : ℕ) × (with_lines l (numbered_from n (cases_of ns ty cases to ++ (line.CasesEnd ∷ rest))) ≡ with_lines l (numbered_from k (line.CasesEnd ∷ rest))) = cases_passed ns l ty cases to (line.CasesEnd ∷ rest) n in
    (first.0 + 1, ap (λ (fs : List Line). with_lines l (numbered_from n fs)) (append_assoc (cases_of ns ty cases to) (line.CasesEnd ∷ []) rest) ∙ first.1)
more_passed ns l os op rest n = (n, refl)

module _ (base : ℕ) (scope : Scope LocalMeaning) (once : Once scope) where
  -- the next name is defined
  pub name_defined : (ln : ℕ) (l : LocalNames) (name : List ℕ) (m : LocalMeaning) (at : LinePlace) (rest : Scope LocalMeaning) → scope ≡ l.scope ++ (name, m) ∷ rest →
      with_name ln l name m at ≡ Ok (record { scope = l.scope ++ (name, m) ∷ []; at = at })
  unfolding with_name
  name_defined ln l name m at rest whole = rw (defined ln of_function l.scope name m rest (rw whole at once)) refl

  module _ (ns : Names) where
    -- ---- parameters

    param_read : (ln at n p b : ℕ) (o : Bool) (done rest : Scope LocalMeaning) (prm : Param) → IsValue base scope ns n p prm.id prm.ty prm.name → scope ≡ done ++ (shown n prm.name, value_at p prm.ty) ∷ rest →
        with_param ln (locals done n p b o) (shown_param ns at prm) ≡ Ok (locals (done ++ (shown n prm.name, value_at p prm.ty) ∷ []) (counted n prm.name) (p + 1) b o)
    unfolding with_param past_param
    param_read ln at n p b o done rest prm is whole =
        rw (is.shows, is.once_more.next_again, name_defined ln (locals done n p b o) (shown n prm.name) (value_at p prm.ty) _ rest whole) refl

    -- what was said is what is said after these things
    pub record Reached (rest : List Thing) (b : ℕ) (o : Bool) (said : Result LocalNames ResolveRefusal) : Type 0 where
      pub done : Scope LocalMeaning
      pub next : ℕ
      pub place : ℕ
      pub said_is : said ≡ Ok (locals done next place b o)
      pub whole : scope ≡ done ++ scope_from next place b rest
      pub known : Known base scope ns next place b rest

    params_read : (ln at n p b : ℕ) (o : Bool) (done : Scope LocalMeaning) (ps : List Param) (rest : List Thing) → scope ≡ done ++ scope_from n p b (params_things ps rest) → Known base scope ns n p b (params_things ps rest) →
        Reached rest b o (with_params ln (locals done n p b o) (shown_params ns at ps))
    params_read ln at n p b o done [] rest whole known = record { done = done; next = n; place = p; said_is = refl; whole = whole; known = known }
    params_read ln at n p b o done (prm ∷ ps) rest whole known =
        let past : Scope LocalMeaning = scope_from (counted n prm.name) (p + 1) b (params_things ps rest) in
        rw (param_read ln at n p b o done past prm known.0 whole)
        (params_read ln (at + 1) (counted n prm.name) (p + 1) b o (done ++ (shown n prm.name, value_at p prm.ty) ∷ []) ps rest (moved scope done (shown n prm.name, value_at p prm.ty) past whole) known.1)

    -- ---- instructions

    stmt_named : (ln n p b : ℕ) (done rest : Scope LocalMeaning) (s : Stmt) (name : Option (List ℕ)) → s.result ≡ Some (shown n name) → Again n name → scope ≡ done ++ (shown n name, value_at p s.ty) ∷ rest →
        with_stmt ln (locals done n p b true) s ≡ Ok (locals (done ++ (shown n name, value_at p s.ty) ∷ []) (counted n name) (p + 1) b (not (is_terminator s.op)))
    unfolding with_stmt with_opened after_inst
    stmt_named ln n p b done rest s name e again whole = rw (e, again.next_again, name_defined ln (locals done n p b true) (shown n name) (value_at p s.ty) _ rest whole) refl

    stmt_silent : (ln n p b : ℕ) (done : Scope LocalMeaning) (s : Stmt) → s.result ≡ None → with_stmt ln (locals done n p b true) s ≡ Ok (locals done n (p + 1) b (not (is_terminator s.op)))
    unfolding with_stmt with_opened after_inst
    stmt_silent ln n p b done s e = rw e refl

    -- after an instruction that stands in an open block
    pub record Stepped (rest : List Thing) (p b : ℕ) (s : Stmt) (said : Result LocalNames ResolveRefusal) : Type 0 where
      pub done : Scope LocalMeaning
      pub next : ℕ
      pub said_is : said ≡ Ok (locals done next (p + 1) b (not (is_terminator s.op)))
      pub whole : scope ≡ done ++ scope_from next (p + 1) b rest
      pub known : Known base scope ns next (p + 1) b rest

    pub inst_read : (v w : Bool) (i : Inst) (s : Stmt) → s.result ≡ result_of v w (shown_text (local_of i.id ns.locals)) → s.ty ≡ i.ty → (ln n p b : ℕ) (done : Scope LocalMeaning) (rest : List Thing) →
        scope ≡ done ++ scope_from n p b (inst_thing v w i ∷ rest) → Known base scope ns n p b (inst_thing v w i ∷ rest) → Stepped rest p b s (with_stmt ln (locals done n p b true) s)
    inst_read false false i s e t ln n p b done rest whole known =
        let result : s.result ≡ Some (shown n i.name) = e ∙ ap (λ (l : Option Local). Some (shown_text l)) known.0.shows in
        let past : Scope LocalMeaning = scope_from (counted n i.name) (p + 1) b rest in
        let here : scope ≡ done ++ (shown n i.name, value_at p s.ty) ∷ past = rw t whole in
        record {
          done = done ++ (shown n i.name, value_at p s.ty) ∷ [];
          next = counted n i.name;
          said_is = stmt_named ln n p b done past s i.name result known.0.once_more here;
          whole = moved scope done (shown n i.name, value_at p s.ty) past here;
          known = known.1;
        }
    inst_read false true i s e t ln n p b done rest whole known = record { done = done; next = n; said_is = stmt_silent ln n p b done s e; whole = whole; known = known.1 }
    inst_read true w i s e t ln n p b done rest whole known = record { done = done; next = n; said_is = stmt_silent ln n p b done s e; whole = whole; known = known.1 }

    -- what was said is what the lines after say
    pub record Passed (rest : List Thing) (b : ℕ) (more : List Line) (said : Result LocalNames ResolveRefusal) : Type 0 where
      pub done : Scope LocalMeaning
      pub next : ℕ
      pub place : ℕ
      pub number : ℕ
      pub is_open : Bool
      pub said_is : said ≡ with_lines (locals done next place b is_open) (numbered_from number more)
      pub whole : scope ≡ done ++ scope_from next place b rest
      pub known : Known base scope ns next place b rest

    -- the same after an instruction, which closes its block or not
    record After (rest : List Thing) (b : ℕ) (o : Bool) (more : List Line) (said : Result LocalNames ResolveRefusal) : Type 0 where
      done : Scope LocalMeaning
      next : ℕ
      place : ℕ
      number : ℕ
      said_is : said ≡ with_lines (locals done next place b o) (numbered_from number more)
      whole : scope ≡ done ++ scope_from next place b rest
      known : Known base scope ns next place b rest

    -- what stands after the lines after an instruction
    joined : (rest last : List Thing) (b : ℕ) (o : Bool) (more end : List Line) (said : Result LocalNames ResolveRefusal) (first : After rest b o more said) → o ≡ true →
        Passed last b end (with_lines (locals first.done first.next first.place b true) (numbered_from first.number more)) → Passed last b end said
    joined rest last b o more end said first opens next = record {
      done = next.done;
      next = next.next;
      place = next.place;
      number = next.number;
      is_open = next.is_open;
      said_is = first.said_is ∙ (ap (λ (t : Bool). with_lines (locals first.done first.next first.place b t) (numbered_from first.number more)) opens ∙ next.said_is);
      whole = next.whole;
      known = next.known;
    }

    module _ (gs : List (List ℕ)) where
      -- an instruction and the lines of its cases
      inst_passed : (i : Inst) (fs more : List Line) (ln n p b : ℕ) (done : Scope LocalMeaning) (rest : List Thing) → scope ≡ done ++ scope_from n p b (insts_things (i ∷ []) rest) → Known base scope ns n p b (insts_things (i ∷ []) rest) →
          After rest b (not (is_terminator i.op)) (fs ++ more) (with_lines (locals done n p b true) (numbered_from ln ((forms_of ns gs i ++ fs) ++ more)))
      inst_passed i fs more ln n p b done rest whole known =
          let step : Stepped rest p b (stmt_of ns gs i) (with_stmt ln (locals done n p b true) (stmt_of ns gs i)) = inst_read (is_void i.ty) (is_store i.op) i (stmt_of ns gs i) refl refl ln n p b done rest whole known in
          let after : LocalNames = locals step.done step.next (p + 1) b (not (is_terminator (op_of i.op))) in
          let passed : (k : ℕ) × (with_lines after (numbered_from (ln + 1) (more_forms ns i.opds i.op ++ (fs ++ more))) ≡ with_lines after (numbered_from k (fs ++ more))) = more_passed ns after i.opds i.op (fs ++ more) (ln + 1) in
          record {
            done = step.done;
            next = step.next;
            place = p + 1;
            number = passed.0;
            said_is =
                ap (λ (ls : List Line). with_lines (locals done n p b true) (numbered_from ln (line.Stmt (stmt_of ns gs i) ∷ ls))) (append_assoc (more_forms ns i.opds i.op) fs more)
                ∙ ap (λ (r : Result LocalNames ResolveRefusal). r >>= λ l. with_lines l (numbered_from (ln + 1) (more_forms ns i.opds i.op ++ (fs ++ more)))) step.said_is
                ∙ passed.1
                ∙ ap (λ (t : Bool). with_lines (locals step.done step.next (p + 1) b (not t)) (numbered_from passed.0 (fs ++ more))) (ends_as i.op);
            whole = step.whole;
            known = step.known;
          }

      -- the instructions of a block
      insts_read : (i : Inst) (is : List Inst) (more : List Line) (ln n p b : ℕ) (done : Scope LocalMeaning) (rest : List Thing) → ends_from i is ≡ true → scope ≡ done ++ scope_from n p b (insts_things (i ∷ is) rest) →
          Known base scope ns n p b (insts_things (i ∷ is) rest) → Passed rest b more (with_lines (locals done n p b true) (numbered_from ln (insts_forms ns gs (i ∷ is) ++ more)))
      insts_read i [] more ln n p b done rest ends whole known =
          let is : After rest b (not (is_terminator i.op)) more (with_lines (locals done n p b true) (numbered_from ln ((forms_of ns gs i ++ []) ++ more))) = inst_passed i [] more ln n p b done rest whole known in
          record { done = is.done; next = is.next; place = is.place; number = is.number; is_open = not (is_terminator i.op); said_is = is.said_is; whole = is.whole; known = is.known }
      insts_read i (j ∷ is) more ln n p b done rest ends whole known =
          let parts : (not (is_terminator i.op) ≡ true) × (ends_from j is ≡ true) = both (not (is_terminator i.op)) (ends_from j is) ends in
          let first : After (insts_things (j ∷ is) rest) b (not (is_terminator i.op)) (insts_forms ns gs (j ∷ is) ++ more) (with_lines (locals done n p b true) (numbered_from ln ((forms_of ns gs i ++ insts_forms ns gs (j ∷ is)) ++ more))) =
          inst_passed i (insts_forms ns gs (j ∷ is)) more ln n p b done (insts_things (j ∷ is) rest) whole known in
          joined (insts_things (j ∷ is) rest) rest b (not (is_terminator i.op)) (insts_forms ns gs (j ∷ is) ++ more) more _ first parts.0
          (insts_read j is more first.number first.next first.place b first.done rest parts.1 first.whole first.known)

      -- ---- blocks

      -- the body says the whole scope
      pub record Ended (said : Result LocalNames ResolveRefusal) : Type 0 where
        pub end : LocalNames
        pub said_is : said ≡ Ok end
        pub whole : end.scope ≡ scope

      pub label_read : (ln n p b : ℕ) (o : Bool) (done rest : Scope LocalMeaning) (name : Option (List ℕ)) → Again n name → scope ≡ done ++ (shown n name, block_at b) ∷ rest →
          with_label ln (locals done n p b o) (shown n name) ≡ Ok (locals (done ++ (shown n name, block_at b) ∷ []) (counted n name) p (b + 1) true)
      unfolding with_label after_label
      label_read ln n p b o done rest name again whole = rw (again.next_again, name_defined ln (locals done n p b o) (shown n name) (block_at b) _ rest whole) refl

      -- a block after its label
      labelled : (ln n p b : ℕ) (o : Bool) (done : Scope LocalMeaning) (block : Block) (rest : List Thing) (more : List Line) (name : List ℕ) → name ≡ shown n block.name → EndsOnce block.insts →
          scope ≡ done ++ scope_from n p b (Begins block.name ∷ insts_things block.insts rest) → Known base scope ns n p b (Begins block.name ∷ insts_things block.insts rest) →
          Passed rest (b + 1) more (with_lines (locals done n p b o) (numbered_from ln (line.Label name ∷ (insts_forms ns gs block.insts ++ more))))
      labelled ln n p b o done block rest more name is ends whole known = go block.insts ends whole known where
        go : (insts : List Inst) → EndsOnce insts → scope ≡ done ++ scope_from n p b (Begins block.name ∷ insts_things insts rest) → Known base scope ns n p b (Begins block.name ∷ insts_things insts rest) →
            Passed rest (b + 1) more (with_lines (locals done n p b o) (numbered_from ln (line.Label name ∷ (insts_forms ns gs insts ++ more))))
        go [] ends whole known = absurd ends
        go (i ∷ js) ends whole known =
            let past : Scope LocalMeaning = scope_from (counted n block.name) p (b + 1) (insts_things (i ∷ js) rest) in
            rw (is, label_read ln n p b o done past block.name known.0.once_more whole)
            (insts_read i js more (ln + 1) (counted n block.name) p (b + 1) (done ++ (shown n block.name, block_at b) ∷ []) rest ends (moved scope done (shown n block.name, block_at b) past whole) known.1)

      -- an unnamed first block, which its first instruction begins
      opened_read : (ln n p b : ℕ) (done rest : Scope LocalMeaning) (s : Stmt) → scope ≡ done ++ (decimal n, block_at b) ∷ rest → with_stmt ln (locals done n p b false) s ≡ with_stmt ln (locals (done ++ (decimal n, block_at b) ∷ []) (n + 1) p (b + 1) true) s
      unfolding with_stmt with_opened opened
      opened_read ln n p b done rest s whole = rw (name_defined ln (locals done n p b false) (decimal n) (block_at b) _ rest whole) refl

      unlabelled : (ln n p b : ℕ) (done : Scope LocalMeaning) (insts : List Inst) (rest : List Thing) (more : List Line) → EndsOnce insts → scope ≡ done ++ scope_from n p b (Begins None ∷ insts_things insts rest) →
          Known base scope ns n p b (Begins None ∷ insts_things insts rest) → Passed rest (b + 1) more (with_lines (locals done n p b false) (numbered_from ln (insts_forms ns gs insts ++ more)))
      unlabelled ln n p b done [] rest more ends whole known = absurd ends
      unlabelled ln n p b done (i ∷ js) rest more ends whole known =
          let past : Scope LocalMeaning = scope_from (n + 1) p (b + 1) (insts_things (i ∷ js) rest) in
          rw (opened_read ln n p b done past (stmt_of ns gs i) whole)
          (insts_read i js more ln (n + 1) p (b + 1) (done ++ (decimal n, block_at b) ∷ []) rest ends (moved scope done (decimal n, block_at b) past whole) known.1)

      -- blocks after the first
      blocks_read : (bs : List Block) (ln n p b : ℕ) (o : Bool) (done : Scope LocalMeaning) → All (λ (b : Block). EndsOnce b.insts) bs → scope ≡ done ++ scope_from n p b (blocks_things bs) → Known base scope ns n p b (blocks_things bs) →
          Ended (with_lines (locals done n p b o) (numbered_from ln (more_blocks_forms ns gs b bs)))
      blocks_read [] ln n p b o done ends whole known = record { end = locals done n p b o; said_is = refl; whole = sym (append-nil done) ∙ sym whole }
      blocks_read (block ∷ bs) ln n p b o done ends whole known =
          let more : List Line = more_blocks_forms ns gs (b + 1) bs in
          let first : Passed (blocks_things bs) (b + 1) more (with_lines (locals done n p b o) (numbered_from (ln + 1) (line.Label (shown n block.name) ∷ (insts_forms ns gs block.insts ++ more)))) =
          labelled (ln + 1) n p b o done block (blocks_things bs) more (shown n block.name) refl (All-head (λ (b : Block). EndsOnce b.insts) block bs ends) whole known in
          let next : Ended (with_lines (locals first.done first.next first.place (b + 1) first.is_open) (numbered_from first.number more)) =
          blocks_read bs first.number first.next first.place (b + 1) first.is_open first.done (All-tail (λ (b : Block). EndsOnce b.insts) block bs ends) first.whole first.known in
          record {
            end = next.end;
            said_is =
                ap (λ (name : Option (List ℕ)). with_lines (locals done n p b o) (numbered_from (ln + 1) (label_forms name ++ (insts_forms ns gs block.insts ++ more)))) known.0.shows ∙ first.said_is ∙ next.said_is;
            whole = next.whole;
          }

      -- all blocks
      body_read : (bs : List Block) (ln n p : ℕ) (done : Scope LocalMeaning) → All (λ (b : Block). EndsOnce b.insts) bs → scope ≡ done ++ scope_from n p 0 (blocks_things bs) → Known base scope ns n p 0 (blocks_things bs) →
          Ended (with_lines (locals done n p 0 false) (numbered_from ln (blocks_forms ns gs bs)))
      body_read [] ln n p done ends whole known = record { end = locals done n p 0 false; said_is = refl; whole = sym (append-nil done) ∙ sym whole }
      body_read (block ∷ bs) ln n p done ends whole known =
          let first : Passed (blocks_things bs) 1 (more_blocks_forms ns gs 1 bs) (with_lines (locals done n p 0 false) (numbered_from ln (label_forms block.name ++ (insts_forms ns gs block.insts ++ more_blocks_forms ns gs 1 bs)))) =
          go block.name refl whole known in
          let next : Ended (with_lines (locals first.done first.next first.place 1 first.is_open) (numbered_from first.number (more_blocks_forms ns gs 1 bs))) =
          blocks_read bs first.number first.next first.place 1 first.is_open first.done (All-tail (λ (b : Block). EndsOnce b.insts) block bs ends) first.whole first.known in
          record { end = next.end; said_is = first.said_is ∙ next.said_is; whole = next.whole } where
            go : (name : Option (List ℕ)) → block.name ≡ name → scope ≡ done ++ scope_from n p 0 (Begins name ∷ insts_things block.insts (blocks_things bs)) → Known base scope ns n p 0 (Begins name ∷ insts_things block.insts (blocks_things bs)) →
                Passed (blocks_things bs) 1 (more_blocks_forms ns gs 1 bs) (with_lines (locals done n p 0 false) (numbered_from ln (label_forms name ++ (insts_forms ns gs block.insts ++ more_blocks_forms ns gs 1 bs))))
            go None e whole known = unlabelled ln n p 0 done block.insts (blocks_things bs) (more_blocks_forms ns gs 1 bs) (All-head (λ (b : Block). EndsOnce b.insts) block bs ends) whole known
            go (Some name) e whole known =
                let same : record { name = Some name; insts = block.insts } ≡ block = ap (λ (x : Option (List ℕ)). record { name = x; insts = block.insts }) (sym e) in
                labelled ln n p 0 false done (record { name = Some name; insts = block.insts }) (blocks_things bs) (more_blocks_forms ns gs 1 bs) name refl (All-head (λ (b : Block). EndsOnce b.insts) block bs ends) whole known

-- ---- the function

-- a function's names, as its printed header and body define them
pub locals_are : (f : Func) (gs : List (List ℕ)) (base : ℕ) (scope : Scope LocalMeaning) (ln : ℕ) (once : Once scope) → All (λ (b : Block). EndsOnce b.insts) f.blocks → scope ≡ scope_from 0 0 0 (things_of f) → Known base scope (names_of f) 0 0 0 (things_of f) →
    Ended base scope once (names_of f) gs (locals_of ln (shown_head (names_of f) f) (numbered_from (ln + 1) (body_forms gs f)))
unfolding locals_of
locals_are f gs base scope ln once ends whole known =
    let first : Reached base scope once (names_of f) (blocks_things f.blocks) 0 false (with_params ln (locals [] 0 0 0 false) (shown_params (names_of f) 0 f.params)) =
    params_read base scope once (names_of f) ln 0 0 0 0 false [] f.params (blocks_things f.blocks) whole known in
    let next : Ended base scope once (names_of f) gs (with_lines (locals first.done first.next first.place 0 false) (numbered_from (ln + 1) (body_forms gs f))) =
    body_read base scope once (names_of f) gs f.blocks (ln + 1) first.next first.place first.done ends first.whole first.known in
    record {
      end = next.end;
      said_is = ap (λ (r : Result LocalNames ResolveRefusal). r >>= λ l. with_lines l (numbered_from (ln + 1) (body_forms gs f))) first.said_is ∙ next.said_is;
      whole = next.whole;
    }
