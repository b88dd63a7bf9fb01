-- A function that was read, whose names are known and whose lines are well typed: its lines are those that the function has.
use Rattle.std.proofs.Common.{◌≡◌, ℕ, ◌≤◌, suc, ◌+◌, inl, inr, Bool, true, false, not, List, [], ◌∷◌, ◌++◌, length, map, Option, Some, None, Ok, refl, sym, ◌∙◌, ap, subst, arith}
use Rattle.std.specs.Prelude.{slice_get, unwrap_or}
use Rattle.std.specs.List.{All, AllZip, list_all}
use Rattle.std.proofs.lemmas.List.Elements.{All-head, All-tail}
use Rattle.ir_types.specs.declared.ty.Ty.{Ty}
use Rattle.ir_types.specs.declared.inst.Inst.{Inst}
use Rattle.ir_types.specs.declared.func.Param.{Param}
use Rattle.ir_types.specs.declared.func.Func.{Func}
use Rattle.ir_types.specs.Formed.{is_terminator}
use Rattle.ir_draft.specs.declared.head.Head.{Head}
use Rattle.ir_draft.specs.declared.line.Line.{Line}
use Rattle.ir_draft.specs.declared.line.Line.TheVariants as line
use Rattle.ir_draft.specs.declared.draft.Numbered.{Numbered}
use Rattle.ir_print.specs.Names.{Names, Named, names_of, named_of, params_named as named_params, blocks_named, locals_from, labels_from, local_of, shown, is_store, is_void}
use Rattle.ir_types_check.specs.Answers.{well_typed}
use Rattle.ir_types_check.specs.Scope.{Scope, meaning}
use Rattle.ir_types_check.specs.Outline.{start, past, block_here, written, written_name, after_name, after_result, after_param}
use Rattle.ir_types_check.specs.Locals.{with_params, with_lines, locals_of}
use Rattle.ir_types_check.specs.Blocks.{closed, params_from, param_lines, func_of, built_of}
use Rattle.ir_types_check.specs.Typed.{arg_fits, op_fits, stmt_fits, cases_typed, line_typed, lines_typed, sources_of}
use Rattle.ir_types_check.proofs.Binding.{bind_ok, both, typed_line}
use Rattle.ir_types_check.proofs.BodyIds.{length_param_lines}
use Rattle.ir_types_check.proofs.Handed.{LocalMeaning, value_at, block_at, LinePlace, LocalNames, BuiltSoFar, TopMeaning}
use Rattle.ir_types_check.proofs.ReadLinks.{AreKnown}
use Rattle.rf_text.specs.Spelled.{MayWrite, AsShown, LeftOut, IsWrittenParam, IsHeaderOf, AreBlocks}
use Rattle.rf_text.specs.Written.{shown_text, shown_block, forms_of}
use Rattle.rf_text.proofs.Named.Locals.{locals}
use Rattle.rf_text.proofs.Named.Places.{id_at, Placed}
use Rattle.rf_text.proofs.Named.Things.{Thing, inst_thing, params_things, named_things, things_are, scope_from}
use Rattle.rf_text.proofs.Spells.Forms.{IsGoodLine}
use Rattle.rf_text.proofs.Spells.Order.{here, is_switch, IsNextResult, Stands, next_after, open_after, choosing_after, InOrder, ParamsInOrder, past_params, IsGood, IsOrdered, form_of}
use Rattle.rf_text.proofs.Spells.Counts.{stmt_in, label_in, stmts, labels}
use Rattle.rf_text.proofs.Spells.Marks.{SayMarks, blocks_say, many, starts, marks_named, blocks_are, named_most}
use Rattle.rf_text.proofs.Spells.Built.{Mark, Starts, Does, marks, marks_things, things_same, opening, LineBuilt, AreBuilt, IsBuilt, lines_built}
use Rattle.rf_text.proofs.Spells.Scope.{IsInst, inst_is, thing_of, thing_is, begins, places_after, places_are, AreNamed, params_named, lines_named, lines_placed, params_placed, shown_again, counted_again, Meant, meant, value_shown, block_shown, Shows, shows_from, shows_after, counted_param}
use Rattle.rf_text.proofs.Spells.Insts.{pending, AreShown, inst_spelled}

-- ---- lines that are well typed

abbrev pub IsTypedLine : Scope LocalMeaning → Line → List Numbered → Type 0
IsTypedLine scope (line.Stmt s) rest = (list_all (arg_fits scope) s.args ≡ true) × ((u : Unit {0}) × (cases_typed scope s s.op rest ≡ Ok u))
IsTypedLine scope _ rest = Unit {0}

abbrev pub AreTyped : Scope LocalMeaning → List Numbered → Type 0
AreTyped scope [] = Unit {0}
AreTyped scope (x ∷ xs) = IsTypedLine scope x.form xs × AreTyped scope xs

line_is_typed : (tops : Scope TopMeaning) (scope : Scope LocalMeaning) (ret : Ty) (edges : List (List ℕ)) (at : LinePlace) (n : ℕ) (form : Line) (rest : List Numbered) (u : Unit {0}) → line_typed tops scope ret edges at n form rest ≡ Ok u → IsTypedLine scope form rest
line_is_typed tops scope ret edges at n (line.Stmt s) rest u e =
    bind_ok (well_typed n (stmt_fits tops scope ret edges (block_here at) s)) _ u e (λ v was now.
    let fits = both (list_all (arg_fits scope) s.args) (op_fits tops scope ret edges (block_here at) s s.op) (typed_line n (stmt_fits tops scope ret edges (block_here at) s) v was) in
    (fits.0, (u, now)))
line_is_typed tops scope ret edges at n _ rest u e = tt

lines_are_typed : (tops : Scope TopMeaning) (scope : Scope LocalMeaning) (ret : Ty) (edges : List (List ℕ)) (at : LinePlace) (body : List Numbered) (u : Unit {0}) → lines_typed tops scope ret edges at body ≡ Ok u → AreTyped scope body
lines_are_typed tops scope ret edges at [] u e = tt
lines_are_typed tops scope ret edges at (x ∷ xs) u e =
    bind_ok (line_typed tops scope ret edges at x.line x.form xs) _ u e (λ v was now.
    (line_is_typed tops scope ret edges at x.line x.form xs v was, lines_are_typed tops scope ret edges (past at x.form) xs u now))

-- ---- what marks say

module _ (gs : List (List ℕ)) (ns : Names) where
  opening_says : (o : Bool) (k : ℕ) (ms : List Mark) (fs : List Line) → SayMarks gs ns (begins o k) ms fs → SayMarks gs ns k (opening o ms) fs
  opening_says true k ms fs h = h
  opening_says false k ms fs h = (fs, inr (refl, refl), h)

  -- ---- what is shown, from line to line

  opening_shows : (base n k : ℕ) (o : Bool) (ms : List Mark) → Shows base ns n k (marks_things (opening o ms)) → Shows base ns (here o n) (begins o k) (marks_things ms)
  opening_shows base n k true ms h = h
  opening_shows base n k false ms h = h.1

  thing_shows : (base n p k : ℕ) (ty : Ty) (r : Option (List ℕ)) (ts : List Thing) → Shows base ns n k (thing_of base p ty r ∷ ts) → Shows base ns (after_result n r) k ts
  thing_shows base n p k ty None ts h = h
  thing_shows base n p k ty (Some name) ts h = subst (λ x. Shows base ns x k ts) (counted_again n name) h.1

  -- ---- the lines of a body

  module _ (tops : Scope TopMeaning) (known : AreKnown tops gs) (scope : Scope LocalMeaning) (base : ℕ) (all : AreShown scope ns base) where
    -- lines, after those that are pending, are those of the marks
    record AreSaid (k : ℕ) (c : Bool) (body : List Numbered) (ms : List Mark) : Type 0 where
      rest : List Line
      split : map form_of body ≡ pending c body ++ rest
      says : SayMarks gs ns k ms rest

    Rest : List Numbered → Type 0
    Rest xs = (n p k : ℕ) (o c : Bool) (ms : List Mark) → InOrder n o c xs → AreBuilt tops scope base o p xs ms → Shows base ns n k (marks_things ms) → AreSaid k c xs ms

    line_said : (ln n p k : ℕ) (o c : Bool) (form : Line) (xs : List Numbered) (ms : List Mark) → Stands n o c form → InOrder (next_after n o form) (open_after o form) (choosing_after c form) xs → IsGoodLine form → All IsGood xs →
        IsTypedLine scope form xs → LineBuilt tops scope base o p ln form xs ms (λ o q more. AreBuilt tops scope base o q xs more) → Shows base ns n k (marks_things ms) → Rest xs → AreSaid k c (record { line = ln; form = form } ∷ xs) ms
    unfolding Rest
    line_said ln n p k o c (line.Label name) xs ms stands order good more typed built shows next =
        let here' : Shows base ns n k (marks_things (Starts (written_name name) ∷ built.0)) = subst (λ ys. Shows base ns n k (marks_things ys)) built.1 shows in
        let label : shown_block ns k ≡ name = ap (λ (x : Option (List ℕ)). unwrap_or x []) here'.0 ∙ shown_again n name stands.1 in
        let r : AreSaid (k + 1) false xs built.0 = next (after_name n name) p (k + 1) true false built.0 order built.2 (subst (λ x. Shows base ns x (k + 1) (marks_things built.0)) (counted_again n name) here'.1) in
        record {
          rest = line.Label name ∷ r.rest;
          split = ap (λ fs. line.Label name ∷ fs) r.split ∙ sym (ap (λ c. pending c (record { line = ln; form = line.Label name } ∷ xs) ++ line.Label name ∷ r.rest) stands.0);
          says = subst (λ ys. SayMarks gs ns k ys (line.Label name ∷ r.rest)) (sym built.1) (r.rest, inl (ap (λ x. line.Label x ∷ r.rest) (sym label)), r.says);
        }
    line_said ln n p k o c (line.Stmt s) xs ms stands order good more typed built shows next =
        let inst : Inst = built.0 in
        let is : IsInst tops scope base (base + p) ln s xs inst = inst_is tops scope base (base + p) ln s xs inst built.2 in
        let thing : inst_thing (is_void inst.ty) (is_store inst.op) inst ≡ thing_of base p s.ty s.result = thing_is tops scope base p ln s xs inst good is in
        let opened : Shows base ns (here o n) (begins o k) (marks_things (Does inst ∷ built.1)) = opening_shows base n k o (Does inst ∷ built.1) (subst (λ ys. Shows base ns n k (marks_things ys)) built.3 shows) in
        let own : Shows base ns (here o n) (begins o k) (thing_of base p s.ty s.result ∷ marks_things built.1) = subst (λ t. Shows base ns (here o n) (begins o k) (t ∷ marks_things built.1)) thing opened in
        let r : AreSaid (begins o k) (is_switch s.op) xs built.1 =
        next (after_result (here o n) s.result) (p + 1) (begins o k) (not (is_terminator s.op)) (is_switch s.op) built.1 order built.4 (thing_shows base (here o n) p (begins o k) s.ty s.result (marks_things built.1) own) in
        let lines : forms_of ns gs inst ≡ line.Stmt s ∷ pending (is_switch s.op) xs =
        inst_spelled gs tops known scope ns base all ln (here o n) p (begins o k) s xs inst (marks_things built.1) typed.1.0 good is typed.0 typed.1.1 more stands.1 own in
        record {
          rest = line.Stmt s ∷ map form_of xs;
          split = sym (ap (λ c. pending c (record { line = ln; form = line.Stmt s } ∷ xs) ++ line.Stmt s ∷ map form_of xs) stands.0);
          says = subst (λ ys. SayMarks gs ns k ys (line.Stmt s ∷ map form_of xs)) (sym built.3)
              (opening_says o k (Does inst ∷ built.1) (line.Stmt s ∷ map form_of xs) (r.rest, ap (λ fs. line.Stmt s ∷ fs) r.split ∙ sym (ap (λ fs. fs ++ r.rest) lines), r.says));
        }
    line_said ln n p k o c (line.Case value label) xs ms stands order good more typed built shows next =
        let r : AreSaid k c xs ms = next n p k o c ms order built shows in
        record {
          rest = r.rest;
          split = ap (λ fs. line.Case value label ∷ fs) (r.split ∙ ap (λ c. pending c xs ++ r.rest) stands) ∙ sym (ap (λ c. pending c (record { line = ln; form = line.Case value label } ∷ xs) ++ r.rest) stands);
          says = r.says;
        }
    line_said ln n p k o c line.CasesEnd xs ms stands order good more typed built shows next =
        let r : AreSaid k false xs ms = next n p k o false ms order built shows in
        record {
          rest = r.rest;
          split = ap (λ fs. line.CasesEnd ∷ fs) r.split ∙ sym (ap (λ c. pending c (record { line = ln; form = line.CasesEnd } ∷ xs) ++ r.rest) stands);
          says = r.says;
        }
    line_said ln n p k o c line.Empty xs ms stands order good more typed built shows next = absurd stands
    line_said ln n p k o c (line.Kept kept) xs ms stands order good more typed built shows next = absurd stands
    line_said ln n p k o c (line.Define name head) xs ms stands order good more typed built shows next = absurd stands
    line_said ln n p k o c line.Close xs ms stands order good more typed built shows next = absurd stands

    lines_said : (n p k : ℕ) (o c : Bool) (body : List Numbered) (ms : List Mark) → InOrder n o c body → All IsGood body → AreTyped scope body → AreBuilt tops scope base o p body ms → Shows base ns n k (marks_things ms) → AreSaid k c body ms
    unfolding Rest
    lines_said n p k o c [] ms order good typed built shows = record { rest = []; split = sym (ap (λ c. pending c [] ++ []) order); says = subst (λ ys. SayMarks gs ns k ys []) (sym built) refl }
    lines_said n p k o c (x ∷ xs) ms order good typed built shows =
        line_said x.line n p k o c x.form xs ms order.0 order.1 (All-head IsGood x xs good) (All-tail IsGood x xs good) typed.0 built shows
        (λ n' p' k' o' c' more order' built' shows'. lines_said n' p' k' o' c' xs more order' (All-tail IsGood x xs good) typed.1 built' shows')

  -- ---- parameters

  name_said : (n : ℕ) (name : Option (List ℕ)) (text : List ℕ) → IsNextResult n name → text ≡ shown n (written name) → MayWrite (written name) text name
  name_said n None text next e = LeftOut text
  name_said n (Some name) text next e = subst (λ x. MayWrite (written_name name) text (Some x)) (e ∙ shown_again n name next) (AsShown (written_name name) text)

  params_said : (base n k b : ℕ) (ps : List Param) (rest : List Thing) → ParamsInOrder n ps → Shows base ns n b (params_things (params_from k ps) rest) → AllZip (IsWrittenParam ns) (params_from k ps) ps
  params_said base n k b [] rest order shows = tt
  params_said base n k b (p ∷ ps) rest order shows = (
    record { name = name_said n p.name _ order.0 (ap shown_text shows.0); ty = refl; attrs = refl; noalias = refl },
    params_said base (after_param n p.name) (k + 1) b ps rest order.1 (subst (λ x. Shows base ns x b (params_things (params_from (k + 1) ps) rest)) (counted_param n p.name) shows.1),
  )

-- ---- how many there are

module _ (tops : Scope TopMeaning) (scope : Scope LocalMeaning) (base : ℕ) where
  -- marks are of so many lines
  abbrev AreOf : ℕ → ℕ → List Mark → Type 0
  AreOf s l ms = (many ms ≡ s) × (starts ms ≤ l + s)

  More : List Numbered → Type 0
  More xs = (o : Bool) (p : ℕ) (ms : List Mark) → AreBuilt tops scope base o p xs ms → AreOf (stmts xs) (labels xs) ms

  opening_of : (o : Bool) (i : Inst) (ms : List Mark) (s l : ℕ) → AreOf s l ms → AreOf (1 + s) (0 + l) (opening o (Does i ∷ ms))
  opening_of true i ms s l h = (omega (arith, h.0), omega (arith, h.1))
  opening_of false i ms s l h = (omega (arith, h.0), omega (arith, h.1))

  none_of : (s l : ℕ) (ms : List Mark) → AreOf s l ms → AreOf (0 + s) (0 + l) ms
  none_of s l ms h = (omega (arith, h.0), omega (arith, h.1))

  line_of : (n p : ℕ) (o : Bool) (form : Line) (xs : List Numbered) (ms : List Mark) → LineBuilt tops scope base o p n form xs ms (λ o q more. AreBuilt tops scope base o q xs more) → More xs → AreOf (stmt_in form + stmts xs) (label_in form + labels xs) ms
  unfolding More
  line_of n p o (line.Label name) xs ms b next =
      let h : AreOf (stmts xs) (labels xs) b.0 = next true p b.0 b.2 in
      let one : many b.0 ≡ stmts xs = h.0 in
      let two : starts b.0 ≤ labels xs + stmts xs = h.1 in
      subst (AreOf (0 + stmts xs) (1 + labels xs)) (sym b.1) (omega (arith, one), omega (arith, two))
  line_of n p o (line.Stmt s) xs ms b next = subst (AreOf (1 + stmts xs) (0 + labels xs)) (sym b.3) (opening_of o b.0 b.1 (stmts xs) (labels xs) (next (not (is_terminator s.op)) (p + 1) b.1 b.4))
  line_of n p o (line.Case value label) xs ms b next = none_of (stmts xs) (labels xs) ms (next o p ms b)
  line_of n p o line.CasesEnd xs ms b next = none_of (stmts xs) (labels xs) ms (next o p ms b)
  line_of n p o line.Empty xs ms b next = none_of (stmts xs) (labels xs) ms (next o p ms b)
  line_of n p o (line.Kept kept) xs ms b next = none_of (stmts xs) (labels xs) ms (next o p ms b)
  line_of n p o (line.Define name head) xs ms b next = none_of (stmts xs) (labels xs) ms (next o p ms b)
  line_of n p o line.Close xs ms b next = none_of (stmts xs) (labels xs) ms (next o p ms b)

  lines_of : (o : Bool) (p : ℕ) (body : List Numbered) (ms : List Mark) → AreBuilt tops scope base o p body ms → AreOf (stmts body) (labels body) ms
  unfolding More
  lines_of o p [] ms b = subst (AreOf 0 0) (sym b) (refl, omega arith)
  lines_of o p (x ∷ xs) ms b = line_of x.line p o x.form xs ms b (λ o' p' more b'. lines_of o' p' xs more b')

params_many : (ps : List Param) (vs : List Named) → length (named_params ps vs) ≡ length ps + length vs
params_many [] vs = omega arith
params_many (p ∷ ps) vs = let more : length (named_params ps vs) ≡ length ps + length vs = params_many ps vs in omega (arith, more)

params_same : (k : ℕ) (ps : List Param) → length (params_from k ps) ≡ length ps
params_same k [] = refl
params_same k (p ∷ ps) = ap suc (params_same (k + 1) ps)

-- ---- the function

pub record IsSpelledFunc (gs : List (List ℕ)) (f : Func) (head : Head) (body : List Numbered) : Type 0 where
  pub header : IsHeaderOf f head
  pub blocks : AreBlocks (names_of f) gs 0 f.blocks (map form_of body)
  pub few : length (named_of f) ≤ length head.params + (stmts body + (labels body + stmts body))

pub func_spelled : (gs : List (List ℕ)) (tops : Scope TopMeaning) (known : AreKnown tops gs) (n : ℕ) (lines : List ℕ) (head : Head) (body : List Numbered) (l : LocalNames) (b : BuiltSoFar) (u : Unit {0}) → IsOrdered head body →
    locals_of n head body ≡ Ok l → built_of tops l.scope n lines head body ≡ Ok b → lines_typed tops l.scope head.ret (sources_of l body) start body ≡ Ok u → IsSpelledFunc gs (func_of (length lines) head (closed b.blocks b.current)) head body
unfolding locals_of built_of
func_spelled gs tops known n lines head body l b u is e built typed =
    let base : ℕ = length lines in
    let ps : List Param = head.params in
    let f : Func = func_of (length lines) head (closed b.blocks b.current) in
    let ns : Names = names_of (func_of (length lines) head (closed b.blocks b.current)) in
    let longer : length (param_lines n lines head.params) ≡ length lines + length head.params = length_param_lines n lines head.params in
    let place : places_after 0 head.params ≡ 0 + length head.params = places_are 0 head.params in
    let made : IsBuilt tops l.scope (length lines) (record { blocks = []; current = None; lines = param_lines n lines head.params }) b false (places_after 0 head.params) body =
    lines_built tops l.scope (length lines) (record { blocks = []; current = None; lines = param_lines n lines head.params }) b false (places_after 0 head.params) body refl (omega (arith, longer, place)) built in
    let ms : List Mark = made.more in
    let whole : marks (closed b.blocks b.current) ≡ made.more = made.whole in
    let things : List Thing = params_things (params_from (length lines) head.params) (marks_things made.more) in
    bind_ok (with_params n (locals [] 0 0 0 false) head.params) _ l e (λ lp was now.
    let named : AreNamed (length lines) 0 0 0 false [] head.params lp = params_named n (length lines) 0 0 0 false [] lp head.params is.params was in
    let said : l.scope ≡ named.scope ++ scope_from (past_params 0 head.params) (places_after 0 head.params) 0 (marks_things made.more) =
    lines_named tops l.scope (length lines) (past_params 0 head.params) (places_after 0 head.params) 0 false false named.scope l body made.more is.lines is.good made.built
    (subst (λ (x : LocalNames). with_lines x body ≡ Ok l) (sym named.is) now) in
    let scope : l.scope ≡ scope_from 0 0 0 (params_things (params_from (length lines) head.params) (marks_things made.more)) = said ∙ named.whole (marks_things made.more) in
    let zero_place : length lines ≡ length lines + 0 = omega arith in
    let placed : Placed (length lines) 0 (params_things (params_from (length lines) head.params) (marks_things made.more)) =
    params_placed (length lines) (length lines) 0 head.params (marks_things made.more) zero_place (lines_placed tops l.scope (length lines) false (places_after 0 head.params) body made.more is.good made.built) in
    let same : named_of (func_of (length lines) head (closed b.blocks b.current)) ≡ named_things (params_things (params_from (length lines) head.params) (marks_things made.more)) =
    sym (things_are (func_of (length lines) head (closed b.blocks b.current)))
    ∙ ap (λ ts. named_things (params_things (params_from (length lines) head.params) ts)) (sym (things_same (closed b.blocks b.current)) ∙ ap marks_things whole) in
    let shown_locals : ns.locals ≡ locals_from 0 (named_things (params_things (params_from (length lines) head.params) (marks_things made.more))) = ap (locals_from 0) same in
    let shown_labels : ns.labels ≡ labels_from 0 (named_things (params_things (params_from (length lines) head.params) (marks_things made.more))) = ap (labels_from 0) same in
    let all : AreShown l.scope ns (length lines) = record {
      meant = λ name. subst (Meant name) (sym scope) (meant name 0 0 0 (params_things (params_from (length lines) head.params) (marks_things made.more)));
      values = λ name place ty m.
          ap (local_of (id_at (length lines) place)) shown_locals
          ∙ value_shown (length lines) name 0 0 0 (params_things (params_from (length lines) head.params) (marks_things made.more)) place ty placed (subst (λ s. meaning name s ≡ Some (value_at place ty)) scope m) None;
      blocks = λ name k m.
          let r : (j : ℕ) × (k ≡ 0 + j) × (slice_get (labels_from 0 (named_things (params_things (params_from (length lines) head.params) (marks_things made.more)))) j ≡ Some name) =
          block_shown name 0 0 0 (params_things (params_from (length lines) head.params) (marks_things made.more)) k (subst (λ s. meaning name s ≡ Some (block_at k)) scope m) in
          let at : k ≡ r.0 = omega (arith, r.1) in
          ap (λ x. slice_get x k) shown_labels ∙ ap (slice_get (labels_from 0 (named_things (params_things (params_from (length lines) head.params) (marks_things made.more))))) at ∙ r.2;
    } in
    let shows : Shows (length lines) ns 0 0 (params_things (params_from (length lines) head.params) (marks_things made.more)) =
    shows_from (length lines) ns 0 0 0 (params_things (params_from (length lines) head.params) (marks_things made.more)) [] [] shown_locals shown_labels refl placed in
    let r : AreSaid gs ns tops known l.scope (length lines) all 0 false body made.more =
    lines_said gs ns tops known l.scope (length lines) all (past_params 0 head.params) (places_after 0 head.params) 0 false false body made.more is.lines is.good (lines_are_typed tops l.scope head.ret (sources_of l body) start body u typed) made.built
    (shows_after (length lines) ns 0 (length lines) 0 head.params (marks_things made.more) shows) in
    let counts : (many made.more ≡ stmts body) × (starts made.more ≤ labels body + stmts body) = lines_of tops l.scope (length lines) false (places_after 0 head.params) body made.more made.built in
    let few : length (named_of (func_of (length lines) head (closed b.blocks b.current))) ≤ length head.params + (stmts body + (labels body + stmts body)) =
    let own : length (marks_named made.more) ≤ many made.more + starts made.more = named_most made.more in
    let named_blocks : blocks_named (closed b.blocks b.current) ≡ marks_named made.more = sym (blocks_are (closed b.blocks b.current)) ∙ ap marks_named whole in
    let all_named : length (named_params (params_from (length lines) head.params) (blocks_named (closed b.blocks b.current))) ≡ length (params_from (length lines) head.params) + length (blocks_named (closed b.blocks b.current)) = params_many _ _ in
    let one : many made.more ≡ stmts body = counts.0 in
    let two : starts made.more ≤ labels body + stmts body = counts.1 in
    omega (arith, own, ap length named_blocks, all_named, params_same (length lines) head.params, one, two) in
    record {
      header = record { before = refl; ret = refl; name = refl; params = params_said gs ns (length lines) 0 (length lines) 0 head.params (marks_things made.more) is.params shows; after = refl };
      blocks = subst (AreBlocks ns gs 0 (closed b.blocks b.current)) (sym r.split) (blocks_say gs ns 0 (closed b.blocks b.current) r.rest (subst (λ ys. SayMarks gs ns 0 ys r.rest) (sym whole) r.says));
      few = few;
    })
