-- The names of a function: what is shown of its things is what its lines name; so what a name means is what shows that name.
use Rattle.std.proofs.Common.{◌≡◌, ℕ, suc, ◌+◌, Bool, true, false, cond, not, if◌then◌else◌, List, [], ◌∷◌, ◌++◌, length, Option, Some, None, Ok, bytes_eq, refl, sym, ◌∙◌, ap, subst, append_assoc, arith, eq-eqb}
use Rattle.std.proofs.lemmas.List.{append-nil}
use Rattle.std.specs.Prelude.{slice_get}
use Rattle.std.specs.Fmt.{decimal}
use Rattle.std.specs.List.{All}
use Rattle.std.proofs.lemmas.List.Elements.{All-head, All-tail}
use Rattle.ir_types.specs.declared.id.Id.{Id}
use Rattle.ir_types.specs.declared.ty.Ty.{Ty}
use Rattle.ir_types.specs.declared.inst.Inst.{Inst}
use Rattle.ir_types.specs.declared.func.Param.{Param}
use Rattle.ir_types.specs.Formed.{is_terminator}
use Rattle.ir_draft.specs.declared.stmt.Stmt.{Stmt}
use Rattle.ir_draft.specs.declared.line.Line.{Line}
use Rattle.ir_draft.specs.declared.line.Line.TheVariants as line
use Rattle.ir_draft.specs.declared.draft.Numbered.{Numbered}
use Rattle.ir_forms.proofs.Steps.{bytes_is}
use Rattle.ir_print.specs.declared.names.Local.{Local}
use Rattle.ir_print.specs.Names.{Names, locals_from, labels_from, shown, counted, same_id, last_of, local_of, is_store, is_void}
use Rattle.ir_types_check.specs.Scope.{Scope, meaning, define, of_function}
use Rattle.ir_types_check.specs.Outline.{is_number, written_name, written, after_name, after_result, after_param, param_name, opened, past_param, after_label, after_inst}
use Rattle.ir_types_check.specs.Links.{linked, cases_of, op_of}
use Rattle.ir_types_check.specs.Locals.{with_name, with_param, with_params, with_label, with_opened, with_result, with_stmt, with_line, with_lines}
use Rattle.ir_types_check.specs.Blocks.{inst_of, params_from}
use Rattle.ir_types_check.proofs.Binding.{bind_ok, ok_is}
use Rattle.ir_types_check.proofs.BodyScope.{defined}
use Rattle.ir_types_check.proofs.Handed.{LocalMeaning, value_at, block_at, LinePlace, LocalNames, TopMeaning, LinkedNames, LinkedCases}
use Rattle.rf_text.proofs.Named.Things.{Thing, Gives, Silent, Begins, inst_thing, params_things, named_things, scope_from}
use Rattle.rf_text.proofs.Named.Places.{id_at, Placed, later, value_found, slice_get-append, push_length}
use Rattle.rf_text.proofs.Named.Locals.{locals}
use Rattle.rf_text.proofs.Showable.Names.{store_kept}
use Rattle.rf_text.proofs.Spells.Forms.{HasResult, IsGoodStmt, IsGoodLine}
use Rattle.rf_text.proofs.Spells.Numbers.{IsNext}
use Rattle.rf_text.proofs.Spells.Order.{here, is_switch, IsNextResult, Stands, next_after, open_after, choosing_after, InOrder, ParamsInOrder, past_params, IsGood}
use Rattle.rf_text.proofs.Spells.Built.{Mark, Does, opening, marks_things, LineBuilt, AreBuilt}

nothing : {A P : Type 0} {y : A} → None ≡ Some y → P
nothing e = cc

id_same : (id : Id) → same_id id id ≡ true
id_same id = rw (eq-eqb id.region id.region refl, eq-eqb id.k id.k refl) refl

-- ---- one name

-- what is shown of a thing with the written part of a name is that name
pub shown_again : (n : ℕ) (name : List ℕ) → IsNext n name → shown n (written_name name) ≡ name
shown_again n name next = go (is_number name) refl where
  go : (b : Bool) → is_number name ≡ b → shown n (cond b None (Some name)) ≡ name
  go true d = sym (next d)
  go false d = refl

pub counted_again : (n : ℕ) (name : List ℕ) → counted n (written_name name) ≡ after_name n name
counted_again n name = go (is_number name) where
  go : (b : Bool) → counted n (cond b None (Some name)) ≡ cond b (n + 1) n
  go true = refl
  go false = refl

-- ---- instructions

-- the parts of an instruction that a statement is
pub record IsInst (tops : Scope TopMeaning) (scope : Scope LocalMeaning) (base k n : ℕ) (s : Stmt) (rest : List Numbered) (inst : Inst) : Type 0 where
  pub links : LinkedNames
  pub cases : LinkedCases
  pub linked_is : linked tops scope base n s ≡ Ok links
  pub cases_is : cases_of scope s.op rest ≡ Ok cases
  pub id : inst.id ≡ record { region = 0; k = k }
  pub name : inst.name ≡ written s.result
  pub ty : inst.ty ≡ s.ty
  pub op : inst.op ≡ op_of links.blocks cases s.op
  pub opds : inst.opds ≡ links.opds

pub inst_is : (tops : Scope TopMeaning) (scope : Scope LocalMeaning) (base k n : ℕ) (s : Stmt) (rest : List Numbered) (inst : Inst) → inst_of tops scope base k n s rest ≡ Ok inst → IsInst tops scope base k n s rest inst
unfolding inst_of
inst_is tops scope base k n s rest inst e =
    bind_ok (linked tops scope base n s) _ inst e (λ l was now.
    bind_ok (cases_of scope s.op rest) _ inst now (λ c is then'.
    record {
      links = l;
      cases = c;
      linked_is = was;
      cases_is = is;
      id = sym (ap (λ (x : Inst). x.id) (ok_is then'));
      name = sym (ap (λ (x : Inst). x.name) (ok_is then'));
      ty = sym (ap (λ (x : Inst). x.ty) (ok_is then'));
      op = sym (ap (λ (x : Inst). x.op) (ok_is then'));
      opds = sym (ap (λ (x : Inst). x.opds) (ok_is then'));
    }))

-- the thing of the place p that a statement is
abbrev pub thing_of : ℕ → ℕ → Ty → Option (List ℕ) → Thing
thing_of base p ty None = Silent (id_at base p)
thing_of base p ty (Some name) = Gives (id_at base p) ty (written_name name)

pub thing_is : (tops : Scope TopMeaning) (scope : Scope LocalMeaning) (base p n : ℕ) (s : Stmt) (rest : List Numbered) (inst : Inst) → IsGoodStmt s → IsInst tops scope base (base + p) n s rest inst →
    inst_thing (is_void inst.ty) (is_store inst.op) inst ≡ thing_of base p s.ty s.result
thing_is tops scope base p n s rest inst good is =
    ap (λ t. inst_thing (is_void t) (is_store inst.op) inst) is.ty
    ∙ ap (λ w. inst_thing (is_void s.ty) w inst) (ap is_store is.op ∙ store_kept is.links.blocks is.cases s.op)
    ∙ go (is_void s.ty) (is_store s.op) s.result refl good.result
  where
    go : (v w : Bool) (r : Option (List ℕ)) → s.result ≡ r → HasResult v w r → inst_thing v w inst ≡ thing_of base p s.ty r
    go false false None e h = nothing h.1
    go false false (Some name) e h =
        ap (λ id. Gives id inst.ty inst.name) is.id ∙ ap (λ t. Gives (id_at base p) t inst.name) is.ty ∙ ap (λ x. Gives (id_at base p) s.ty x) (is.name ∙ ap written e)
    go false true None e h = ap Silent is.id
    go false true (Some name) e h = nothing (sym h)
    go true w None e h = ap Silent is.id
    go true w (Some name) e h = nothing (sym h)

-- ---- the scope

with_name_is : (ln : ℕ) (l after : LocalNames) (name : List ℕ) (m : LocalMeaning) (at : LinePlace) → with_name ln l name m at ≡ Ok after → record { scope = l.scope ++ (name, m) ∷ []; at = at } ≡ after
unfolding with_name
with_name_is ln l after name m at e =
    bind_ok (define ln of_function name m l.scope) _ after e (λ scope was is. ap (λ x. record { scope = x; at = at }) (sym (defined ln of_function name m l.scope scope was)) ∙ ok_is is)

-- parameters

shown_param : (n : ℕ) (name : Option (List ℕ)) → IsNextResult n name → shown n (written name) ≡ param_name n name
shown_param n None next = refl
shown_param n (Some name) next = shown_again n name next

pub counted_param : (n : ℕ) (name : Option (List ℕ)) → counted n (written name) ≡ after_param n name
counted_param n None = refl
counted_param n (Some name) = counted_again n name

-- the place after parameters
abbrev pub places_after : ℕ → List Param → ℕ
places_after p [] = p
places_after p (x ∷ ps) = places_after (p + 1) ps

pub places_are : (p : ℕ) (ps : List Param) → places_after p ps ≡ p + length ps
places_are p [] = omega arith
places_are p (x ∷ ps) = let more : places_after (p + 1) ps ≡ p + 1 + length ps = places_are (p + 1) ps in omega (arith, more)

param_is : (ln n p b : ℕ) (o : Bool) (done : Scope LocalMeaning) (m : LocalNames) (prm : Param) → with_param ln (locals done n p b o) prm ≡ Ok m →
    locals (done ++ (param_name n prm.name, value_at p prm.ty) ∷ []) (after_param n prm.name) (p + 1) b o ≡ m
unfolding with_param past_param
param_is ln n p b o done m prm e = with_name_is ln (locals done n p b o) m (param_name n prm.name) (value_at p prm.ty) _ e

pub record AreNamed (k n p b : ℕ) (o : Bool) (done : Scope LocalMeaning) (ps : List Param) (after : LocalNames) : Type 0 where
  pub scope : Scope LocalMeaning
  pub is : locals scope (past_params n ps) (places_after p ps) b o ≡ after
  pub whole : (rest : List Thing) → scope ++ scope_from (past_params n ps) (places_after p ps) b rest ≡ done ++ scope_from n p b (params_things (params_from k ps) rest)

pub params_named : (ln k n p b : ℕ) (o : Bool) (done : Scope LocalMeaning) (after : LocalNames) (ps : List Param) → ParamsInOrder n ps → with_params ln (locals done n p b o) ps ≡ Ok after → AreNamed k n p b o done ps after
params_named ln k n p b o done after [] order e = record { scope = done; is = ok_is e; whole = λ rest. refl }
params_named ln k n p b o done after (prm ∷ ps) order e =
    bind_ok (with_param ln (locals done n p b o) prm) _ after e (λ m was now.
    let next : Scope LocalMeaning = done ++ (param_name n prm.name, value_at p prm.ty) ∷ [] in
    let is : locals next (after_param n prm.name) (p + 1) b o ≡ m = param_is ln n p b o done m prm was in
    let r : AreNamed (k + 1) (after_param n prm.name) (p + 1) b o next ps after =
    params_named ln (k + 1) (after_param n prm.name) (p + 1) b o next after ps order.1 (subst (λ (x : LocalNames). with_params ln x ps ≡ Ok after) (sym is) now) in
    record {
      scope = r.scope;
      is = r.is;
      whole = λ rest.
          r.whole rest ∙ append_assoc done ((param_name n prm.name, value_at p prm.ty) ∷ []) (scope_from (after_param n prm.name) (p + 1) b (params_things (params_from (k + 1) ps) rest))
          ∙ ap (λ x. done ++ (x, value_at p prm.ty) ∷ scope_from (after_param n prm.name) (p + 1) b (params_things (params_from (k + 1) ps) rest)) (sym (shown_param n prm.name order.0))
          ∙ ap (λ x. done ++ (shown n (written prm.name), value_at p prm.ty) ∷ scope_from x (p + 1) b (params_things (params_from (k + 1) ps) rest)) (sym (counted_param n prm.name));
    })

-- lines

-- what an instruction names where a block is open or not, and the number of the next block after
abbrev pub begun : Bool → ℕ → ℕ → Scope LocalMeaning
begun true n b = []
begun false n b = (decimal n, block_at b) ∷ []

abbrev pub begins : Bool → ℕ → ℕ
begins true b = b
begins false b = b + 1

abbrev given : ℕ → Ty → Option (List ℕ) → Scope LocalMeaning
given p ty None = []
given p ty (Some name) = (name, value_at p ty) ∷ []

opened_is : (ln n p b : ℕ) (o : Bool) (done : Scope LocalMeaning) (m : LocalNames) → with_opened ln (locals done n p b o) ≡ Ok m → locals (done ++ begun o n b) (here o n) p (begins o b) true ≡ m
unfolding with_opened opened
opened_is ln n p b true done m e = ap (λ s. locals s n p b true) (append-nil done) ∙ ok_is e
opened_is ln n p b false done m e = with_name_is ln (locals done n p b false) m (decimal n) (block_at b) _ e

result_is : (ln n p b : ℕ) (done : Scope LocalMeaning) (m : LocalNames) (s : Stmt) (r : Option (List ℕ)) → s.result ≡ r → with_result ln (locals done n p b true) s r ≡ Ok m →
    locals (done ++ given p s.ty r) (after_result n r) (p + 1) b (not (is_terminator s.op)) ≡ m
unfolding after_inst
result_is ln n p b done m s None f e =
    ap (λ x. locals x n (p + 1) b (not (is_terminator s.op))) (append-nil done) ∙ ap (λ x. locals done (after_result n x) (p + 1) b (not (is_terminator s.op))) (sym f) ∙ ok_is e
result_is ln n p b done m s (Some name) f e =
    ap (λ x. locals (done ++ (name, value_at p s.ty) ∷ []) (after_result n x) (p + 1) b (not (is_terminator s.op))) (sym f)
    ∙ with_name_is ln (locals done n p b true) m name (value_at p s.ty) _ e

label_is : (ln n p b : ℕ) (o : Bool) (done : Scope LocalMeaning) (m : LocalNames) (name : List ℕ) → with_label ln (locals done n p b o) name ≡ Ok m → locals (done ++ (name, block_at b) ∷ []) (after_name n name) p (b + 1) true ≡ m
unfolding with_label after_label
label_is ln n p b o done m name e = with_name_is ln (locals done n p b o) m name (block_at b) _ e

pub opening_scope : (o : Bool) (n p b : ℕ) (ms : List Mark) → scope_from n p b (marks_things (opening o ms)) ≡ begun o n b ++ scope_from (here o n) p (begins o b) (marks_things ms)
opening_scope true n p b ms = refl
opening_scope false n p b ms = refl

thing_scope : (base n p b : ℕ) (ty : Ty) (r : Option (List ℕ)) (ts : List Thing) → IsNextResult n r → scope_from n p b (thing_of base p ty r ∷ ts) ≡ given p ty r ++ scope_from (after_result n r) (p + 1) b ts
thing_scope base n p b ty None ts next = refl
thing_scope base n p b ty (Some name) ts next =
    ap (λ x. (x, value_at p ty) ∷ scope_from (counted n (written_name name)) (p + 1) b ts) (shown_again n name next)
    ∙ ap (λ x. (name, value_at p ty) ∷ scope_from x (p + 1) b ts) (counted_again n name)

module _ (tops : Scope TopMeaning) (scope : Scope LocalMeaning) (base : ℕ) where
  -- what follows is said, wherever it stands
  Rest : LocalNames → List Numbered → Type 0
  Rest after xs = (n p b : ℕ) (o c : Bool) (done : Scope LocalMeaning) (ms : List Mark) → InOrder n o c xs → AreBuilt tops scope base o p xs ms → with_lines (locals done n p b o) xs ≡ Ok after →
      after.scope ≡ done ++ scope_from n p b (marks_things ms)

  line_named : (ln n p b : ℕ) (o c : Bool) (done : Scope LocalMeaning) (m after : LocalNames) (form : Line) (xs : List Numbered) (ms : List Mark) → Stands n o c form → InOrder (next_after n o form) (open_after o form) (choosing_after c form) xs →
      IsGoodLine form → LineBuilt tops scope base o p ln form xs ms (λ o q more. AreBuilt tops scope base o q xs more) → with_line ln (locals done n p b o) form ≡ Ok m → with_lines m xs ≡ Ok after → Rest after xs →
      after.scope ≡ done ++ scope_from n p b (marks_things ms)
  unfolding with_stmt Rest
  line_named ln n p b o c done m after (line.Label name) xs ms stands order good built e now rest =
      let next : Scope LocalMeaning = done ++ (name, block_at b) ∷ [] in
      let is : locals next (after_name n name) p (b + 1) true ≡ m = label_is ln n p b o done m name e in
      let said : after.scope ≡ next ++ scope_from (after_name n name) p (b + 1) (marks_things built.0) =
      rest (after_name n name) p (b + 1) true false next built.0 order built.2 (subst (λ (x : LocalNames). with_lines x xs ≡ Ok after) (sym is) now) in
      said ∙ append_assoc done ((name, block_at b) ∷ []) (scope_from (after_name n name) p (b + 1) (marks_things built.0))
      ∙ ap (λ x. done ++ (x, block_at b) ∷ scope_from (after_name n name) p (b + 1) (marks_things built.0)) (sym (shown_again n name stands.1))
      ∙ ap (λ x. done ++ (shown n (written_name name), block_at b) ∷ scope_from x p (b + 1) (marks_things built.0)) (sym (counted_again n name))
      ∙ ap (λ xs. done ++ scope_from n p b (marks_things xs)) (sym built.1)
  line_named ln n p b o c done m after (line.Stmt s) xs ms stands order good built e now rest =
      bind_ok (with_opened ln (locals done n p b o)) _ m e (λ x was then'.
      let inst : Inst = built.0 in
      let more : List Mark = built.1 in
      let first : locals (done ++ begun o n b) (here o n) p (begins o b) true ≡ x = opened_is ln n p b o done x was in
      let is : locals ((done ++ begun o n b) ++ given p s.ty s.result) (after_result (here o n) s.result) (p + 1) (begins o b) (not (is_terminator s.op)) ≡ m =
      result_is ln (here o n) p (begins o b) (done ++ begun o n b) m s s.result refl (subst (λ (y : LocalNames). with_result ln y s s.result ≡ Ok m) (sym first) then') in
      let past : Scope LocalMeaning = scope_from (after_result (here o n) s.result) (p + 1) (begins o b) (marks_things more) in
      let said : after.scope ≡ ((done ++ begun o n b) ++ given p s.ty s.result) ++ past =
      rest (after_result (here o n) s.result) (p + 1) (begins o b) (not (is_terminator s.op)) (is_switch s.op) ((done ++ begun o n b) ++ given p s.ty s.result) more order built.4
      (subst (λ (y : LocalNames). with_lines y xs ≡ Ok after) (sym is) now) in
      let thing : inst_thing (is_void inst.ty) (is_store inst.op) inst ≡ thing_of base p s.ty s.result = thing_is tops scope base p ln s xs inst good (inst_is tops scope base (base + p) ln s xs inst built.2) in
      let own : scope_from n p b (marks_things ms) ≡ begun o n b ++ (given p s.ty s.result ++ past) =
      ap (λ ys. scope_from n p b (marks_things ys)) built.3 ∙ opening_scope o n p b (Does inst ∷ more)
      ∙ ap (λ t. begun o n b ++ scope_from (here o n) p (begins o b) (t ∷ marks_things more)) thing
      ∙ ap (λ ys. begun o n b ++ ys) (thing_scope base (here o n) p (begins o b) s.ty s.result (marks_things more) stands.1) in
      said ∙ append_assoc (done ++ begun o n b) (given p s.ty s.result) past ∙ append_assoc done (begun o n b) (given p s.ty s.result ++ past) ∙ ap (λ ys. done ++ ys) (sym own))
  line_named ln n p b o c done m after (line.Case value label) xs ms stands order good built e now rest = rest n p b o c done ms order built (subst (λ (x : LocalNames). with_lines x xs ≡ Ok after) (sym (ok_is e)) now)
  line_named ln n p b o c done m after line.CasesEnd xs ms stands order good built e now rest = rest n p b o false done ms order built (subst (λ (x : LocalNames). with_lines x xs ≡ Ok after) (sym (ok_is e)) now)
  line_named ln n p b o c done m after line.Empty xs ms stands order good built e now rest = absurd stands
  line_named ln n p b o c done m after (line.Kept kept) xs ms stands order good built e now rest = absurd stands
  line_named ln n p b o c done m after (line.Define name head) xs ms stands order good built e now rest = absurd stands
  line_named ln n p b o c done m after line.Close xs ms stands order good built e now rest = absurd stands

  pub lines_named : (n p b : ℕ) (o c : Bool) (done : Scope LocalMeaning) (after : LocalNames) (body : List Numbered) (ms : List Mark) → InOrder n o c body → All IsGood body → AreBuilt tops scope base o p body ms →
      with_lines (locals done n p b o) body ≡ Ok after → after.scope ≡ done ++ scope_from n p b (marks_things ms)
  unfolding Rest
  lines_named n p b o c done after [] ms order good built e =
      sym (ap (λ (x : LocalNames). x.scope) (ok_is e)) ∙ sym (append-nil done) ∙ ap (λ xs. done ++ scope_from n p b (marks_things xs)) (sym built)
  lines_named n p b o c done after (x ∷ xs) ms order good built e =
      bind_ok (with_line x.line (locals done n p b o) x.form) _ after e (λ m was now.
      line_named x.line n p b o c done m after x.form xs ms order.0 order.1 (All-head IsGood x xs good) built was now
      (λ n' p' b' o' c' done' more order' built' e'. lines_named n' p' b' o' c' done' after xs more order' (All-tail IsGood x xs good) built' e'))

  -- ---- ids

  Remains : List Numbered → Type 0
  Remains xs = (o : Bool) (p : ℕ) (ms : List Mark) → AreBuilt tops scope base o p xs ms → Placed base p (marks_things ms)

  opening_placed : (o : Bool) (p : ℕ) (ms : List Mark) → Placed base p (marks_things ms) → Placed base p (marks_things (opening o ms))
  opening_placed true p ms h = h
  opening_placed false p ms h = h

  thing_placed : (p : ℕ) (ty : Ty) (r : Option (List ℕ)) (ts : List Thing) → Placed base (p + 1) ts → Placed base p (thing_of base p ty r ∷ ts)
  thing_placed p ty None ts h = (refl, h)
  thing_placed p ty (Some name) ts h = (refl, h)

  line_placed : (ln p : ℕ) (o : Bool) (form : Line) (xs : List Numbered) (ms : List Mark) → IsGoodLine form → LineBuilt tops scope base o p ln form xs ms (λ o q more. AreBuilt tops scope base o q xs more) → Remains xs → Placed base p (marks_things ms)
  unfolding Remains
  line_placed ln p o (line.Label name) xs ms good built rest = subst (λ ys. Placed base p (marks_things ys)) (sym built.1) (rest true p built.0 built.2)
  line_placed ln p o (line.Stmt s) xs ms good built rest =
      let inst : Inst = built.0 in
      let thing : inst_thing (is_void inst.ty) (is_store inst.op) inst ≡ thing_of base p s.ty s.result = thing_is tops scope base p ln s xs inst good (inst_is tops scope base (base + p) ln s xs inst built.2) in
      let past : Placed base (p + 1) (marks_things built.1) = rest (not (is_terminator s.op)) (p + 1) built.1 built.4 in
      subst (λ ys. Placed base p (marks_things ys)) (sym built.3)
      (opening_placed o p (Does inst ∷ built.1) (subst (λ t. Placed base p (t ∷ marks_things built.1)) (sym thing) (thing_placed p s.ty s.result (marks_things built.1) past)))
  line_placed ln p o (line.Case value label) xs ms good built rest = rest o p ms built
  line_placed ln p o line.CasesEnd xs ms good built rest = rest o p ms built
  line_placed ln p o line.Empty xs ms good built rest = rest o p ms built
  line_placed ln p o (line.Kept kept) xs ms good built rest = rest o p ms built
  line_placed ln p o (line.Define name head) xs ms good built rest = rest o p ms built
  line_placed ln p o line.Close xs ms good built rest = rest o p ms built

  pub lines_placed : (o : Bool) (p : ℕ) (body : List Numbered) (ms : List Mark) → All IsGood body → AreBuilt tops scope base o p body ms → Placed base p (marks_things ms)
  unfolding Remains
  lines_placed o p [] ms good built = subst (λ ys. Placed base p (marks_things ys)) (sym built) tt
  lines_placed o p (x ∷ xs) ms good built = line_placed x.line p o x.form xs ms (All-head IsGood x xs good) built (λ o' p' more built'. lines_placed o' p' xs more (All-tail IsGood x xs good) built')

pub params_placed : (base k p : ℕ) (ps : List Param) (rest : List Thing) → k ≡ base + p → Placed base (places_after p ps) rest → Placed base p (params_things (params_from k ps) rest)
params_placed base k p [] rest e h = h
params_placed base k p (x ∷ ps) rest e h = (ap (λ (j : ℕ). record { region = 0; k = j }) e, params_placed base (k + 1) (p + 1) ps rest (omega (arith, e)) h)

-- ---- what names mean

pub data Meant (name : List ℕ) (scope : Scope LocalMeaning) : Type 0 where
  Nothing : meaning name scope ≡ None → Meant name scope
  IsValue : (place : ℕ) (ty : Ty) → meaning name scope ≡ Some (value_at place ty) → Meant name scope
  IsBlock : (number : ℕ) → meaning name scope ≡ Some (block_at number) → Meant name scope

pub meant : (name : List ℕ) (n p b : ℕ) (ts : List Thing) → Meant name (scope_from n p b ts)
meant name n p b [] = Nothing refl
meant name n p b (Gives id ty key ∷ ts) = go (bytes_eq name (shown n key)) refl (meant name (counted n key) (p + 1) b ts) where
  go : (t : Bool) → bytes_eq name (shown n key) ≡ t → Meant name (scope_from (counted n key) (p + 1) b ts) → Meant name (scope_from n p b (Gives id ty key ∷ ts))
  go true e h = IsValue p ty (ap (λ t. cond t (Some (value_at p ty)) (meaning name (scope_from (counted n key) (p + 1) b ts))) e)
  go false e (Nothing m) = Nothing (ap (λ t. cond t (Some (value_at p ty)) (meaning name (scope_from (counted n key) (p + 1) b ts))) e ∙ m)
  go false e (IsValue place t m) = IsValue place t (ap (λ t. cond t (Some (value_at p ty)) (meaning name (scope_from (counted n key) (p + 1) b ts))) e ∙ m)
  go false e (IsBlock number m) = IsBlock number (ap (λ t. cond t (Some (value_at p ty)) (meaning name (scope_from (counted n key) (p + 1) b ts))) e ∙ m)
meant name n p b (Silent id ∷ ts) = meant name n (p + 1) b ts
meant name n p b (Begins key ∷ ts) = go (bytes_eq name (shown n key)) refl (meant name (counted n key) p (b + 1) ts) where
  go : (t : Bool) → bytes_eq name (shown n key) ≡ t → Meant name (scope_from (counted n key) p (b + 1) ts) → Meant name (scope_from n p b (Begins key ∷ ts))
  go true e h = IsBlock b (ap (λ t. cond t (Some (block_at b)) (meaning name (scope_from (counted n key) p (b + 1) ts))) e)
  go false e (Nothing m) = Nothing (ap (λ t. cond t (Some (block_at b)) (meaning name (scope_from (counted n key) p (b + 1) ts))) e ∙ m)
  go false e (IsValue place t m) = IsValue place t (ap (λ t. cond t (Some (block_at b)) (meaning name (scope_from (counted n key) p (b + 1) ts))) e ∙ m)
  go false e (IsBlock number m) = IsBlock number (ap (λ t. cond t (Some (block_at b)) (meaning name (scope_from (counted n key) p (b + 1) ts))) e ∙ m)

-- ---- what shows names

value_parts : {place p : ℕ} {ty t : Ty} → Some (value_at p t) ≡ Some (value_at place ty) → (p ≡ place) × (t ≡ ty)
value_parts e = (cc, cc)

no_value : {P : Type 0} {place b : ℕ} {ty : Ty} → Some (block_at b) ≡ Some (value_at place ty) → P
no_value e = cc

no_block : {P : Type 0} {place b : ℕ} {ty : Ty} → Some (value_at place ty) ≡ Some (block_at b) → P
no_block e = cc

block_parts : {b k : ℕ} → Some (block_at b) ≡ Some (block_at k) → b ≡ k
block_parts e = cc

-- a value's name is what is shown of the value
pub value_shown : (base : ℕ) (name : List ℕ) (n p b : ℕ) (ts : List Thing) (place : ℕ) (ty : Ty) → Placed base p ts → meaning name (scope_from n p b ts) ≡ Some (value_at place ty) → (before : Option Local) →
    last_of (id_at base place) (locals_from n (named_things ts)) before ≡ Some (record { id = id_at base place; ty = ty; text = name })
value_shown base name n p b [] place ty placed e before = nothing e
value_shown base name n p b (Gives id t key ∷ ts) place ty placed e before =
    go (bytes_eq name (shown n key)) refl e (λ m. value_shown base name (counted n key) (p + 1) b ts place ty placed.1 m _) where
      l : Local
      l = record { id = id; ty = t; text = shown n key }

      go : (q : Bool) → bytes_eq name (shown n key) ≡ q → cond q (Some (value_at p t)) (meaning name (scope_from (counted n key) (p + 1) b ts)) ≡ Some (value_at place ty) →
          (meaning name (scope_from (counted n key) (p + 1) b ts) ≡ Some (value_at place ty) → last_of (id_at base place) (locals_from (counted n key) (named_things ts)) (if same_id id (id_at base place) then Some (record { id = id; ty = t; text = shown n key }) else before)
          ≡ Some (record { id = id_at base place; ty = ty; text = name })) →
          last_of (id_at base place) (locals_from (counted n key) (named_things ts)) (if same_id id (id_at base place) then Some (record { id = id; ty = t; text = shown n key }) else before) ≡ Some (record { id = id_at base place; ty = ty; text = name })
      go false f e more = more e
      go true f e more =
          let parts : (p ≡ place) × (t ≡ ty) = value_parts e in
          let own : id ≡ id_at base place = placed.0 ∙ ap (id_at base) parts.0 in
          let same : same_id id (id_at base place) ≡ true = ap (λ x. same_id x (id_at base place)) own ∙ id_same (id_at base place) in
          let text : name ≡ shown n key = bytes_is name (shown n key) f in
          ap (λ q. last_of (id_at base place) (locals_from (counted n key) (named_things ts)) (if q then Some (record { id = id; ty = t; text = shown n key }) else before)) same
          ∙ ap (λ x. last_of (id_at base x) (locals_from (counted n key) (named_things ts)) (Some (record { id = id; ty = t; text = shown n key }))) (sym parts.0)
          ∙ later base (counted n key) (p + 1) p ts (omega arith) placed.1 (Some (record { id = id; ty = t; text = shown n key }))
          ∙ ap (λ x. Some (record { id = x; ty = t; text = shown n key })) own ∙ ap (λ x. Some (record { id = id_at base place; ty = x; text = shown n key })) parts.1
          ∙ ap (λ x. Some (record { id = id_at base place; ty = ty; text = x })) (sym text)
value_shown base name n p b (Silent id ∷ ts) place ty placed e before = value_shown base name n (p + 1) b ts place ty placed.1 e before
value_shown base name n p b (Begins key ∷ ts) place ty placed e before = go (bytes_eq name (shown n key)) e (λ m. value_shown base name (counted n key) p (b + 1) ts place ty placed m before) where
  go : (q : Bool) → cond q (Some (block_at b)) (meaning name (scope_from (counted n key) p (b + 1) ts)) ≡ Some (value_at place ty) →
      (meaning name (scope_from (counted n key) p (b + 1) ts) ≡ Some (value_at place ty) → last_of (id_at base place) (locals_from (counted n key) (named_things ts)) before ≡ Some (record { id = id_at base place; ty = ty; text = name })) →
      last_of (id_at base place) (locals_from (counted n key) (named_things ts)) before ≡ Some (record { id = id_at base place; ty = ty; text = name })
  go true e more = no_value e
  go false e more = more e

-- a block's name is what is shown of the block
pub block_shown : (name : List ℕ) (n p b : ℕ) (ts : List Thing) (k : ℕ) → meaning name (scope_from n p b ts) ≡ Some (block_at k) → (j : ℕ) × (k ≡ b + j) × (slice_get (labels_from n (named_things ts)) j ≡ Some name)
block_shown name n p b [] k e = nothing e
block_shown name n p b (Gives id t key ∷ ts) k e = go (bytes_eq name (shown n key)) e (λ m. block_shown name (counted n key) (p + 1) b ts k m) where
  go : (q : Bool) → cond q (Some (value_at p t)) (meaning name (scope_from (counted n key) (p + 1) b ts)) ≡ Some (block_at k) →
      (meaning name (scope_from (counted n key) (p + 1) b ts) ≡ Some (block_at k) → (j : ℕ) × (k ≡ b + j) × (slice_get (labels_from (counted n key) (named_things ts)) j ≡ Some name)) →
      (j : ℕ) × (k ≡ b + j) × (slice_get (labels_from (counted n key) (named_things ts)) j ≡ Some name)
  go true e more = no_block e
  go false e more = more e
block_shown name n p b (Silent id ∷ ts) k e = block_shown name n (p + 1) b ts k e
block_shown name n p b (Begins key ∷ ts) k e = go (bytes_eq name (shown n key)) refl e (λ m. block_shown name (counted n key) p (b + 1) ts k m) where
  go : (q : Bool) → bytes_eq name (shown n key) ≡ q → cond q (Some (block_at b)) (meaning name (scope_from (counted n key) p (b + 1) ts)) ≡ Some (block_at k) →
      (meaning name (scope_from (counted n key) p (b + 1) ts) ≡ Some (block_at k) → (j : ℕ) × (k ≡ b + 1 + j) × (slice_get (labels_from (counted n key) (named_things ts)) j ≡ Some name)) →
      (j : ℕ) × (k ≡ b + j) × (slice_get (shown n key ∷ labels_from (counted n key) (named_things ts)) j ≡ Some name)
  go true f e more = let same : b ≡ k = block_parts e in (0, omega (arith, same), ap Some (sym (bytes_is name (shown n key) f)))
  go false f e more =
      let r : (j : ℕ) × (k ≡ b + 1 + j) × (slice_get (labels_from (counted n key) (named_things ts)) j ≡ Some name) = more e in
      let at : k ≡ b + 1 + r.0 = r.1 in
      (suc r.0, omega (arith, at), r.2)

-- ---- what is shown of things, in order

module _ (base : ℕ) (ns : Names) where
  abbrev pub Shows : ℕ → ℕ → List Thing → Type 0
  Shows n b [] = Unit {0}
  Shows n b (Gives id ty name ∷ ts) = (local_of id ns.locals ≡ Some (record { id = id; ty = ty; text = shown n name })) × Shows (counted n name) b ts
  Shows n b (Silent id ∷ ts) = Shows n b ts
  Shows n b (Begins name ∷ ts) = (slice_get ns.labels b ≡ Some (shown n name)) × Shows (counted n name) (b + 1) ts

  pub shows_from : (n p b : ℕ) (ts : List Thing) (ls : List Local) (bs : List (List ℕ)) → ns.locals ≡ ls ++ locals_from n (named_things ts) → ns.labels ≡ bs ++ labels_from n (named_things ts) → length bs ≡ b → Placed base p ts → Shows n b ts
  shows_from n p b [] ls bs locals labels many placed = tt
  shows_from n p b (Gives id ty name ∷ ts) ls bs locals labels many placed =
      let l : Local = record { id = id; ty = ty; text = shown n name } in (
        ap (local_of id) locals ∙ value_found base (counted n name) p ls (record { id = id; ty = ty; text = shown n name }) ts placed.0 placed.1,
        shows_from (counted n name) (p + 1) b ts (ls ++ l ∷ []) bs (locals ∙ sym (append_assoc ls (l ∷ []) (locals_from (counted n name) (named_things ts)))) labels many placed.1,
      )
  shows_from n p b (Silent id ∷ ts) ls bs locals labels many placed = shows_from n (p + 1) b ts ls bs locals labels many placed.1
  shows_from n p b (Begins name ∷ ts) ls bs locals labels many placed = (
    ap (λ xs. slice_get xs b) labels ∙ slice_get-append bs (shown n name) (labels_from (counted n name) (named_things ts)) b many,
    shows_from (counted n name) p (b + 1) ts ls (bs ++ shown n name ∷ []) locals (labels ∙ sym (append_assoc bs (shown n name ∷ []) (labels_from (counted n name) (named_things ts)))) (push_length bs (shown n name) b many) placed,
  )

  -- after the parameters
  pub shows_after : (n k b : ℕ) (ps : List Param) (rest : List Thing) → Shows n b (params_things (params_from k ps) rest) → Shows (past_params n ps) b rest
  shows_after n k b [] rest h = h
  shows_after n k b (p ∷ ps) rest h = shows_after (after_param n p.name) (k + 1) b ps rest (subst (λ x. Shows x b (params_things (params_from (k + 1) ps) rest)) (counted_param n p.name) h.1)
