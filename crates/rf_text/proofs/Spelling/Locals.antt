-- The names of a function, as the lines define them that spell it: they are what is shown of its things.
use Rattle.std.proofs.Common.{◌≡◌, ℕ, ◌+◌, inl, inr, Bool, true, false, not, List, [], ◌∷◌, ◌++◌, map, Option, Result, Ok, refl, sym, ◌∙◌, ap, subst, append_assoc, arith}
use Rattle.std.proofs.lemmas.List.{append-nil}
use Rattle.std.specs.List.{AllZip}
use Rattle.std.specs.Prelude.{unwrap_or}
use Rattle.std.specs.Fmt.{decimal}
use Rattle.ir_types.specs.declared.ty.Ty.{Ty}
use Rattle.ir_types.specs.declared.opd.Opd.{Opd}
use Rattle.ir_types.specs.declared.op.Op.{Op}
use Rattle.ir_types.specs.declared.op.Op.TheVariants.{Switch}
use Rattle.ir_types.specs.declared.func.Param.{Param}
use Rattle.ir_types.specs.declared.func.Func.{Func}
use Rattle.ir_types.specs.Formed.{is_terminator}
use Rattle.ir_draft.specs.declared.head.Head.{Head}
use Rattle.ir_draft.specs.declared.stmt.Stmt.{Stmt}
use Rattle.ir_draft.specs.declared.line.Line.{Line}
use Rattle.ir_draft.specs.declared.line.Line.TheVariants as line
use Rattle.ir_draft.specs.declared.draft.Numbered.{Numbered}
use Rattle.ir_print.specs.Names.{Names, names_of, shown, counted, is_store, is_void}
use Rattle.ir_types_check.specs.declared.refusal.ResolveRefusal.{ResolveRefusal}
use Rattle.ir_types_check.specs.Answers.{◌>>=◌}
use Rattle.ir_types_check.specs.Scope.{Scope}
use Rattle.ir_types_check.specs.Outline.{after_name, after_param, param_name, opened, past_param}
use Rattle.ir_types_check.specs.Locals.{with_name, with_param, with_params, with_label, with_opened, with_stmt, with_line, with_lines, locals_of}
use Rattle.ir_types_check.proofs.Handed.{LocalMeaning, value_at, block_at, LinePlace, LocalNames}
use Rattle.rf_text.specs.Spelled.{MayWrite, AsShown, LeftOut, IsWrittenParam, IsHeaderOf}
use Rattle.rf_text.specs.Written.{shown_text, shown_block, stmt_of, first_ty, more_forms, cases_of}
use Rattle.rf_text.proofs.Named.Locals.{locals, ends_as, name_defined, Reached, Stepped, inst_read, label_read}
use Rattle.rf_text.proofs.Named.Places.{Known, IsValue}
use Rattle.rf_text.proofs.Named.Scope.{Once, moved}
use Rattle.rf_text.proofs.Named.Shown.{Again}
use Rattle.rf_text.proofs.Named.Things.{Thing, blocks_things, params_things, things_of, scope_from}
use Rattle.rf_text.proofs.Spells.Built.{Mark, Starts, Does, marks, marks_things, things_same}
use Rattle.rf_text.proofs.Spells.Marks.{starts, SayMarks, Ends, HasFirst, has_first}
use Rattle.rf_text.proofs.Spells.Order.{form_of}

clash : {P : Type 0} → true ≡ false → P
clash e = cc

no_line : {P : Type 0} {f : Line} {fs : List Line} → [] ≡ f ∷ fs → P
no_line e = cc

-- ---- lines that are passed over

-- the lines of a `switch` after its first
abbrev pub IsSilent : Line → Type 0
IsSilent (line.Case value label) = Unit {0}
IsSilent line.CasesEnd = Unit {0}
IsSilent _ = ⊥

abbrev pub AreSilent : List Numbered → Type 0
AreSilent [] = Unit {0}
AreSilent (x ∷ xs) = IsSilent x.form × AreSilent xs

-- the lines of a body after some that are passed over
pub record After (rest : List Line) (xs : List Numbered) : Type 0 where
  pub front : List Numbered
  pub ys : List Numbered
  pub whole : xs ≡ front ++ ys
  pub silent : AreSilent front
  pub forms : map form_of ys ≡ rest

-- with one more in front
after_one : (f : Line) (rest : List Line) (xs zs : List Numbered) (n : ℕ) → IsSilent f → xs ≡ record { line = n; form = f } ∷ zs → After rest zs → After rest xs
after_one f rest xs zs n s e b = record { front = record { line = n; form = f } ∷ b.front; ys = b.ys; whole = e ∙ ap (λ ws. record { line = n; form = f } ∷ ws) b.whole; silent = (s, b.silent); forms = b.forms }

none_after : (rest : List Line) (xs : List Numbered) → map form_of xs ≡ rest → After rest xs
none_after rest xs e = record { front = []; ys = xs; whole = refl; silent = tt; forms = e }

cases_after : (ns : Names) (ty : Ty) (cases : List (Option ℕ)) (to : List ℕ) (rest : List Line) (xs : List Numbered) → map form_of xs ≡ cases_of ns ty cases to ++ (line.CasesEnd ∷ rest) → After rest xs
cases_after ns ty [] to rest xs e =
    let f : HasFirst line.CasesEnd rest xs = has_first line.CasesEnd rest xs e in
    after_one line.CasesEnd rest xs f.rest f.n tt f.whole (none_after rest f.rest f.forms)
cases_after ns ty (c ∷ cs) [] rest xs e =
    let f : HasFirst line.CasesEnd rest xs = has_first line.CasesEnd rest xs e in
    after_one line.CasesEnd rest xs f.rest f.n tt f.whole (none_after rest f.rest f.forms)
cases_after ns ty (c ∷ cs) (b ∷ bs) rest xs e =
    let f : HasFirst (line.Case (record { ty = ty; lanes = c ∷ [] }) (shown_block ns b)) (cases_of ns ty cs bs ++ (line.CasesEnd ∷ rest)) xs = has_first _ _ xs e in
    after_one (line.Case (record { ty = ty; lanes = c ∷ [] }) (shown_block ns b)) rest xs f.rest f.n tt f.whole (cases_after ns ty cs bs rest f.rest f.forms)

pub more_after : (ns : Names) (os : List Opd) (op : Op) (rest : List Line) (xs : List Numbered) → map form_of xs ≡ more_forms ns os op ++ rest → After rest xs
more_after ns os (Switch other cases to) rest xs e = cases_after ns (first_ty ns os) cases to rest xs (e ∙ append_assoc (cases_of ns (first_ty ns os) cases to) (line.CasesEnd ∷ []) rest)
more_after ns os op rest xs e = none_after rest xs e

silent_line : (n : ℕ) (l : LocalNames) (f : Line) → IsSilent f → with_line n l f ≡ Ok l
silent_line n l (line.Case value label) s = refl
silent_line n l line.CasesEnd s = refl
silent_line n l line.Empty s = absurd s
silent_line n l (line.Kept kept) s = absurd s
silent_line n l (line.Define name head) s = absurd s
silent_line n l line.Close s = absurd s
silent_line n l (line.Label name) s = absurd s
silent_line n l (line.Stmt x) s = absurd s

silent_passed : (l : LocalNames) (front ys : List Numbered) → AreSilent front → with_lines l (front ++ ys) ≡ with_lines l ys
silent_passed l [] ys s = refl
silent_passed l (x ∷ xs) ys s = ap (λ (r : Result LocalNames ResolveRefusal). r >>= λ m. with_lines m (xs ++ ys)) (silent_line x.line l x.form s.0) ∙ silent_passed l xs ys s.1

-- ---- parameters

pub may_be : {name : Option (List ℕ)} {text : List ℕ} {w : Option (List ℕ)} → MayWrite name text w → (n : ℕ) → text ≡ shown n name → Again n name → (param_name n w ≡ shown n name) × (after_param n w ≡ counted n name)
may_be (AsShown name text) n e again = (e, ap (after_name n) e ∙ again.next_again)
may_be (LeftOut text) n e again = (refl, refl)

abbrev at_place : ℕ → ℕ → ℕ → Bool → LinePlace
at_place n p b o = record { next = n; place = p; blocks = b; is_open = o }

module _ (base : ℕ) (scope : Scope LocalMeaning) (once : Once scope) (ns : Names) where
  param_read : (ln n p b : ℕ) (o : Bool) (done rest : Scope LocalMeaning) (prm q : Param) → IsWrittenParam ns prm q → IsValue base scope ns n p prm.id prm.ty prm.name → scope ≡ done ++ (shown n prm.name, value_at p prm.ty) ∷ rest →
      with_param ln (locals done n p b o) q ≡ Ok (locals (done ++ (shown n prm.name, value_at p prm.ty) ∷ []) (counted n prm.name) (p + 1) b o)
  unfolding with_param past_param
  param_read ln n p b o done rest prm q w is whole =
      let m : (param_name n q.name ≡ shown n prm.name) × (after_param n q.name ≡ counted n prm.name) = may_be w.name n (ap shown_text is.shows) is.once_more in
      ap (λ x. with_name ln (locals done n p b o) x (value_at p q.ty) (at_place (after_param n q.name) (p + 1) b o)) m.0
      ∙ ap (λ x. with_name ln (locals done n p b o) (shown n prm.name) (value_at p x) (at_place (after_param n q.name) (p + 1) b o)) w.ty
      ∙ ap (λ x. with_name ln (locals done n p b o) (shown n prm.name) (value_at p prm.ty) (at_place x (p + 1) b o)) m.1
      ∙ name_defined base scope once ln (locals done n p b o) (shown n prm.name) (value_at p prm.ty) (at_place (counted n prm.name) (p + 1) b o) rest whole

  params_read : (ln n p b : ℕ) (o : Bool) (done : Scope LocalMeaning) (ps qs : List Param) (rest : List Thing) → AllZip (IsWrittenParam ns) ps qs → scope ≡ done ++ scope_from n p b (params_things ps rest) →
      Known base scope ns n p b (params_things ps rest) → Reached base scope once ns rest b o (with_params ln (locals done n p b o) qs)
  params_read ln n p b o done [] [] rest zip whole known = record { done = done; next = n; place = p; said_is = refl; whole = whole; known = known }
  params_read ln n p b o done [] (q ∷ qs) rest zip whole known = absurd zip
  params_read ln n p b o done (prm ∷ ps) [] rest zip whole known = absurd zip
  params_read ln n p b o done (prm ∷ ps) (q ∷ qs) rest zip whole known =
      let after : Scope LocalMeaning = scope_from (counted n prm.name) (p + 1) b (params_things ps rest) in
      let r : Reached base scope once ns rest b o (with_params ln (locals (done ++ (shown n prm.name, value_at p prm.ty) ∷ []) (counted n prm.name) (p + 1) b o) qs) =
      params_read ln (counted n prm.name) (p + 1) b o (done ++ (shown n prm.name, value_at p prm.ty) ∷ []) ps qs rest zip.1 (moved scope done (shown n prm.name, value_at p prm.ty) after whole) known.1 in
      record {
        done = r.done;
        next = r.next;
        place = r.place;
        said_is = ap (λ (x : Result LocalNames ResolveRefusal). x >>= λ l. with_params ln l qs) (param_read ln n p b o done after prm q zip.0 known.0 whole) ∙ r.said_is;
        whole = r.whole;
        known = r.known;
      }

  -- ---- lines

  -- all names are defined
  pub record IsSaid (blocks : ℕ) (said : Result LocalNames ResolveRefusal) : Type 0 where
    pub end : LocalNames
    pub said_is : said ≡ Ok end
    pub whole : end.scope ≡ scope
    pub count : end.at.blocks ≡ blocks

  said_by : {a b : Result LocalNames ResolveRefusal} {j k : ℕ} → a ≡ b → j ≡ k → IsSaid j b → IsSaid k a
  said_by e same s = record { end = s.end; said_is = e ∙ s.said_is; whole = s.whole; count = s.count ∙ same }

  module _ (gs : List (List ℕ)) where
    -- where no block is open, an instruction begins an unnamed one
    unnamed_opened : (ln n p b : ℕ) (done rest : Scope LocalMeaning) (s : Stmt) → scope ≡ done ++ (decimal n, block_at b) ∷ rest → with_stmt ln (locals done n p b false) s ≡ with_stmt ln (locals (done ++ (decimal n, block_at b) ∷ []) (n + 1) p (b + 1) true) s
    unfolding with_stmt with_opened opened
    unnamed_opened ln n p b done rest s whole = rw (name_defined base scope once ln (locals done n p b false) (decimal n) (block_at b) _ rest whole) refl

    -- so it may have no label
    unlabelled : (n p b : ℕ) (done rest : Scope LocalMeaning) (ms : List Mark) (body : List Numbered) → SayMarks gs ns (b + 1) ms (map form_of body) → Ends true ms → scope ≡ done ++ (decimal n, block_at b) ∷ rest →
        with_lines (locals done n p b false) body ≡ with_lines (locals (done ++ (decimal n, block_at b) ∷ []) (n + 1) p (b + 1) true) body
    unlabelled n p b done rest [] body h ends whole = clash ends
    unlabelled n p b done rest (Starts name ∷ ms) body h ends whole = clash ends.0
    unlabelled n p b done rest (Does i ∷ ms) body h ends whole =
        let f : HasFirst (line.Stmt (stmt_of ns gs i)) (more_forms ns i.opds i.op ++ h.0) body = has_first _ _ body h.1 in
        ap (with_lines (locals done n p b false)) f.whole
        ∙ ap (λ (r : Result LocalNames ResolveRefusal). r >>= λ l. with_lines l f.rest) (unnamed_opened f.n n p b done rest (stmt_of ns gs i) whole)
        ∙ sym (ap (with_lines (locals (done ++ (decimal n, block_at b) ∷ []) (n + 1) p (b + 1) true)) f.whole)

    pub marks_said : (ms : List Mark) (body : List Numbered) (n p b : ℕ) (o : Bool) (done : Scope LocalMeaning) → SayMarks gs ns b ms (map form_of body) → Ends o ms → scope ≡ done ++ scope_from n p b (marks_things ms) →
        Known base scope ns n p b (marks_things ms) → IsSaid (b + starts ms) (with_lines (locals done n p b o) body)
    marks_said [] [] n p b o done h ends whole known = record { end = locals done n p b o; said_is = refl; whole = sym (append-nil done) ∙ sym whole; count = omega arith }
    marks_said [] (x ∷ xs) n p b o done h ends whole known = no_line (sym h)
    marks_said (Starts name ∷ ms) body n p b o done h ends whole known =
        let after : Scope LocalMeaning = scope_from (counted n name) p (b + 1) (marks_things ms) in
        let one_more : b + 1 + starts ms ≡ b + starts (Starts name ∷ ms) = omega arith in
        let next : (rest : List Numbered) → SayMarks gs ns (b + 1) ms (map form_of rest) → IsSaid (b + 1 + starts ms) (with_lines (locals (done ++ (shown n name, block_at b) ∷ []) (counted n name) p (b + 1) true) rest) =
        λ rest says. marks_said ms rest (counted n name) p (b + 1) true (done ++ (shown n name, block_at b) ∷ []) says ends.1 (moved scope done (shown n name, block_at b) (scope_from (counted n name) p (b + 1) (marks_things ms)) whole) known.1 in
        elim h.1 as (λ _. IsSaid (b + starts (Starts name ∷ ms)) (with_lines (locals done n p b o) body)) [
          | inl e ↦
              let f : HasFirst (line.Label (shown_block ns b)) h.0 body = has_first _ _ body e in
              let text : shown_block ns b ≡ shown n name = ap (λ (x : Option (List ℕ)). unwrap_or x []) known.0.shows in
              said_by
              (ap (with_lines (locals done n p b o)) f.whole
              ∙ ap (λ x. with_label f.n (locals done n p b o) x >>= λ l. with_lines l f.rest) text
              ∙ ap (λ (r : Result LocalNames ResolveRefusal). r >>= λ l. with_lines l f.rest) (label_read base scope once ns gs f.n n p b o done after name known.0.once_more whole))
              one_more
              (next f.rest (subst (SayMarks gs ns (b + 1) ms) (sym f.forms) h.2))
          | inr e ↦
              let says : SayMarks gs ns (b + 1) ms (map form_of body) = subst (SayMarks gs ns (b + 1) ms) (sym e.1) h.2 in
              let whole' : scope ≡ done ++ (decimal n, block_at b) ∷ after = whole ∙ ap (λ x. done ++ (shown n x, block_at b) ∷ after) e.0 in
              said_by
              (ap (λ x. with_lines (locals done n p b x) body) ends.0
              ∙ unlabelled n p b done after ms body says ends.1 whole'
              ∙ sym (ap (λ x. with_lines (locals (done ++ (shown n x, block_at b) ∷ []) (counted n x) p (b + 1) true) body) e.0))
              one_more
              (next body says)
        ]
    marks_said (Does i ∷ ms) body n p b o done h ends whole known =
        let f : HasFirst (line.Stmt (stmt_of ns gs i)) (more_forms ns i.opds i.op ++ h.0) body = has_first _ _ body h.1 in
        let r : After h.0 f.rest = more_after ns i.opds i.op h.0 f.rest f.forms in
        let s : Stepped base scope once ns (marks_things ms) p b (stmt_of ns gs i) (with_stmt f.n (locals done n p b true) (stmt_of ns gs i)) =
        inst_read base scope once ns (is_void i.ty) (is_store i.op) i (stmt_of ns gs i) refl refl f.n n p b done (marks_things ms) whole known in
        let next : IsSaid (b + starts ms) (with_lines (locals s.done s.next (p + 1) b (not (is_terminator i.op))) r.ys) =
        marks_said ms r.ys s.next (p + 1) b (not (is_terminator i.op)) s.done (subst (SayMarks gs ns b ms) (sym r.forms) h.2) ends.1 s.whole s.known in
        said_by
        (ap (λ x. with_lines (locals done n p b x) body) ends.0 ∙ ap (with_lines (locals done n p b true)) f.whole
        ∙ ap (λ (x : Result LocalNames ResolveRefusal). x >>= λ l. with_lines l f.rest) s.said_is
        ∙ ap (λ x. with_lines (locals s.done s.next (p + 1) b (not x)) f.rest) (ends_as i.op)
        ∙ ap (with_lines (locals s.done s.next (p + 1) b (not (is_terminator i.op)))) r.whole
        ∙ silent_passed (locals s.done s.next (p + 1) b (not (is_terminator i.op))) r.front r.ys r.silent)
        refl
        next

-- ---- the function

-- its names, as a header and lines define them that spell it
pub locals_said : (f : Func) (gs : List (List ℕ)) (base : ℕ) (scope : Scope LocalMeaning) (once : Once scope) (ln : ℕ) (head : Head) (body : List Numbered) → IsHeaderOf f head → SayMarks gs (names_of f) 0 (marks f.blocks) (map form_of body) →
    Ends false (marks f.blocks) → scope ≡ scope_from 0 0 0 (things_of f) → Known base scope (names_of f) 0 0 0 (things_of f) → IsSaid base scope once (names_of f) (starts (marks f.blocks)) (locals_of ln head body)
unfolding locals_of
locals_said f gs base scope once ln head body is says ends whole known =
    let first : Reached base scope once (names_of f) (blocks_things f.blocks) 0 false (with_params ln (locals [] 0 0 0 false) head.params) =
    params_read base scope once (names_of f) ln 0 0 0 false [] f.params head.params (blocks_things f.blocks) is.params whole known in
    let next : IsSaid base scope once (names_of f) (0 + starts (marks f.blocks)) (with_lines (locals first.done first.next first.place 0 false) body) =
    marks_said base scope once (names_of f) gs (marks f.blocks) body first.next first.place 0 false first.done says ends
    (first.whole ∙ ap (λ ts. first.done ++ scope_from first.next first.place 0 ts) (sym (things_same f.blocks)))
    (subst (Known base scope (names_of f) first.next first.place 0) (sym (things_same f.blocks)) first.known) in
    record {
      end = next.end;
      said_is = ap (λ (r : Result LocalNames ResolveRefusal). r >>= λ l. with_lines l body) first.said_is ∙ next.said_is;
      whole = next.whole;
      count = (let z : 0 + starts (marks f.blocks) ≡ starts (marks f.blocks) = omega arith in next.count ∙ z);
    }
