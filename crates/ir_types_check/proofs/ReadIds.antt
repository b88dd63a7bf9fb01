-- The ids of a module that resolved: 0, 1 and so on in order of the text.
use Rattle.std.proofs.Common.{◌≡◌, ℕ, zero, suc, ◌+◌, List, [], ◌∷◌, ◌++◌, length, map, Option, None, Ok, refl, sym, ◌∙◌, ap, subst, arith, append_assoc, length-append}
use Rattle.std.proofs.lemmas.List.{append-nil}
use Rattle.ir_types.specs.declared.id.Id.{Id}
use Rattle.ir_types.specs.declared.inst.Inst.{Inst}
use Rattle.ir_types.specs.declared.func.Param.{Param}
use Rattle.ir_types.specs.declared.func.Block.{Block}
use Rattle.ir_types.specs.declared.module.Item.{Item}
use Rattle.ir_types.specs.declared.module.Item.TheVariants.{Kept, Opaque, Func}
use Rattle.ir_types.specs.declared.module.Module.{Module}
use Rattle.ir_types.specs.Formed.{block_ids, item_ids, ids_of_items, ids_of}
use Rattle.ir_draft.specs.declared.head.Head.{Head}
use Rattle.ir_draft.specs.declared.stmt.Stmt.{Stmt}
use Rattle.ir_draft.specs.declared.line.Line.{Line}
use Rattle.ir_draft.specs.declared.line.Line.TheVariants as line
use Rattle.ir_draft.specs.declared.draft.Numbered.{Numbered}
use Rattle.ir_draft.specs.declared.draft.DraftItem.{DraftItem}
use Rattle.ir_draft.specs.declared.draft.DraftItem.TheVariants as item
use Rattle.ir_types_check.specs.declared.locals.Meaning.{Meaning}
use Rattle.ir_types_check.specs.declared.tops.Top.{Top}
use Rattle.ir_types_check.specs.declared.building.Built.{Built}
use Rattle.ir_types_check.specs.declared.building.Done.{Done}
use Rattle.ir_types_check.specs.Scope.{Scope}
use Rattle.ir_types_check.specs.Locals.{locals_of}
use Rattle.ir_types_check.specs.Links.{linked, cases_of}
use Rattle.ir_types_check.specs.Blocks.{id_of, inst_of, closed, with_inst, labelled, with_statement, built_line, built_lines, params_from, param_lines, func_of, built_of}
use Rattle.ir_types_check.specs.Resolved.{with_built, resolved_function, with_kept, resolved_item, resolved_items, module_of}
use Rattle.ir_types_check.specs.Named.{Names}
use Rattle.ir_types_check.proofs.Binding.{bind_ok, ok_is}
use Rattle.ir_types_check.proofs.ReadParts.{inst_parts, parts, built_parts, inst_built, inst_lines, label_built}

-- n ids from the number k on
abbrev pub numbers_from : ℕ → ℕ → List Id
numbers_from k zero = []
numbers_from k (suc n) = id_of k ∷ numbers_from (k + 1) n

numbers_more : (k n m : ℕ) → numbers_from k n ++ numbers_from (k + n) m ≡ numbers_from k (n + m)
numbers_more k zero m =
    let a : k + 0 ≡ k = omega arith in
    let b : 0 + m ≡ m = omega arith in
    ap (λ x. numbers_from x m) a ∙ ap (numbers_from k) (sym b)
numbers_more k (suc n) m =
    let a : k + suc n ≡ k + 1 + n = omega arith in
    let b : suc (n + m) ≡ suc n + m = omega arith in
    ap (λ x. id_of k ∷ (numbers_from (k + 1) n ++ numbers_from x m)) a ∙ ap (λ xs. id_of k ∷ xs) (numbers_more (k + 1) n m) ∙ ap (numbers_from k) b

abbrev FromZero : List Id → ℕ → Type 0
FromZero ids n = ids ≡ numbers_from 0 n

one_more : (ids : List Id) (n : ℕ) (i : Id) → FromZero ids n → i ≡ id_of n → FromZero (ids ++ i ∷ []) (n + 1)
one_more ids n i e is =
    let a : 0 + n ≡ n = omega arith in
    ap (λ xs. xs ++ i ∷ []) e ∙ ap (λ x. numbers_from 0 n ++ x ∷ []) (is ∙ ap id_of (sym a)) ∙ numbers_more 0 n 1

-- ---- blocks

abbrev no_ids : Option (List ℕ) → List Id
no_ids name = []

abbrev its_id : Inst → List Id
its_id i = i.id ∷ []

inst_ids : (is : List Inst) → map (λ (i : Inst). i.id) is ≡ inst_parts no_ids its_id is
inst_ids [] = refl
inst_ids (i ∷ is) = ap (λ xs. i.id ∷ xs) (inst_ids is)

blocks_ids : (bs : List Block) → block_ids bs ≡ parts no_ids its_id bs
blocks_ids [] = refl
blocks_ids (b ∷ bs) = ap (λ xs. xs ++ block_ids bs) (inst_ids b.insts) ∙ ap (λ xs. inst_parts no_ids its_id b.insts ++ xs) (blocks_ids bs)

module _ (tops : Scope Top) (locals : Scope Meaning) (base : ℕ) where
  inst_id : (k n : ℕ) (s : Stmt) (rest : List Numbered) (inst : Inst) → inst_of tops locals base k n s rest ≡ Ok inst → inst.id ≡ id_of k
  unfolding inst_of
  inst_id k n s rest inst e =
      bind_ok (linked tops locals base n s) _ inst e (λ l _ now.
      bind_ok (cases_of locals s.op rest) _ inst now (λ c _ is. sym (ap (λ (x : Inst). x.id) (ok_is is))))

  -- all ids with those before the function, which are so many as lines have ids
  abbrev Counted : List Id → Built → Type 0
  Counted before b = FromZero (before ++ built_parts no_ids its_id b) (length b.lines)

  line_counted : (before : List Id) (n : ℕ) (b after : Built) (form : Line) (rest : List Numbered) → Counted before b → built_line tops locals base n b form rest ≡ Ok after → Counted before after
  unfolding with_statement labelled
  line_counted before n b after (line.Label name) rest c e =
      subst (Counted before) (ok_is e) (ap (λ xs. before ++ xs) (label_built no_ids its_id b name ∙ append-nil (built_parts no_ids its_id b)) ∙ c)
  line_counted before n b after (line.Stmt s) rest c e =
      bind_ok (inst_of tops locals base (length b.lines) n s rest) _ after e (λ inst was now.
      let more : FromZero ((before ++ built_parts no_ids its_id b) ++ inst.id ∷ []) (length b.lines + 1) =
      one_more (before ++ built_parts no_ids its_id b) (length b.lines) inst.id c (inst_id (length b.lines) n s rest inst was) in
      let size : length b.lines + 1 ≡ length (with_inst n b inst).lines = sym (ap length (inst_lines n b inst) ∙ length-append b.lines (n ∷ [])) in
      subst (Counted before) (ok_is now)
      (ap (λ xs. before ++ xs) (inst_built no_ids its_id n b inst refl) ∙ sym (append_assoc before (built_parts no_ids its_id b) (inst.id ∷ [])) ∙ more ∙ ap (numbers_from 0) size))
  line_counted before n b after line.Empty rest c e = subst (Counted before) (ok_is e) c
  line_counted before n b after (line.Kept kept) rest c e = subst (Counted before) (ok_is e) c
  line_counted before n b after (line.Define name head) rest c e = subst (Counted before) (ok_is e) c
  line_counted before n b after line.Close rest c e = subst (Counted before) (ok_is e) c
  line_counted before n b after (line.Case value label) rest c e = subst (Counted before) (ok_is e) c
  line_counted before n b after line.CasesEnd rest c e = subst (Counted before) (ok_is e) c

  lines_counted : (before : List Id) (b after : Built) (body : List Numbered) → Counted before b → built_lines tops locals base b body ≡ Ok after → Counted before after
  lines_counted before b after [] c e = subst (Counted before) (ok_is e) c
  lines_counted before b after (x ∷ xs) c e =
      bind_ok (built_line tops locals base x.line b x.form xs) _ after e (λ m was now. lines_counted before m after xs (line_counted before x.line b m x.form xs c was) now)

-- ---- functions

params_ids : (k : ℕ) (ps : List Param) → map (λ (p : Param). p.id) (params_from k ps) ≡ numbers_from k (length ps)
params_ids k [] = refl
params_ids k (p ∷ ps) = ap (λ xs. id_of k ∷ xs) (params_ids (k + 1) ps)

params_count : (n : ℕ) (lines : List ℕ) (ps : List Param) → length (param_lines n lines ps) ≡ length lines + length ps
params_count n lines [] = omega arith
params_count n lines (p ∷ ps) =
    let more : length (param_lines n (lines ++ n ∷ []) ps) ≡ length (lines ++ n ∷ []) + length ps = params_count n (lines ++ n ∷ []) ps in
    omega (arith, more, length-append lines (n ∷ []))

-- ---- the module

abbrev DoneCounted : Done → Type 0
DoneCounted done = FromZero (ids_of_items done.items) (length done.lines)

items_ids : (xs ys : List Item) → ids_of_items (xs ++ ys) ≡ ids_of_items xs ++ ids_of_items ys
items_ids [] ys = refl
items_ids (x ∷ xs) ys = ap (λ ids. item_ids x ++ ids) (items_ids xs ys) ∙ sym (append_assoc (item_ids x) (ids_of_items xs) (ids_of_items ys))

kept_counted : (done : Done) (i : Item) → item_ids i ≡ [] → DoneCounted done → DoneCounted (with_kept done i)
unfolding with_kept
kept_counted done i none c = items_ids done.items (i ∷ []) ∙ ap (λ xs. ids_of_items done.items ++ (xs ++ [])) none ∙ append-nil (ids_of_items done.items) ∙ c

function_counted : (tops : Scope Top) (n : ℕ) (done after : Done) (head : Head) (body : List Numbered) → DoneCounted done → resolved_function tops n done head body ≡ Ok after → DoneCounted after
unfolding resolved_function built_of with_built
function_counted tops n done after head body c e =
    bind_ok (locals_of n head body) _ after e (λ l _ then'.
    bind_ok (built_of tops l.scope n done.lines head body) _ after then' (λ b was now.
    let base : ℕ = length done.lines in
    let ids : List Id = ids_of_items done.items in
    let params : List Id = map (λ (p : Param). p.id) (params_from base head.params) in
    let lines : List ℕ = param_lines n done.lines head.params in
    let a : 0 + base ≡ base = omega arith in
    let start : Counted tops l.scope base (ids ++ params) (record { blocks = []; current = None; lines = lines }) =
    append-nil (ids ++ params) ∙ ap (λ xs. xs ++ params) c ∙ ap (λ xs. numbers_from 0 base ++ xs) (params_ids base head.params ∙ ap (λ k. numbers_from k (length head.params)) (sym a))
    ∙ numbers_more 0 base (length head.params) ∙ ap (numbers_from 0) (sym (params_count n done.lines head.params)) in
    let end : Counted tops l.scope base (ids ++ params) b = lines_counted tops l.scope base (ids ++ params) (record { blocks = []; current = None; lines = lines }) b body start was in
    subst DoneCounted (ok_is now)
    (items_ids done.items (Func (func_of base head (closed b.blocks b.current)) ∷ [])
    ∙ ap (λ xs. ids ++ xs) (append-nil (params ++ block_ids (closed b.blocks b.current)))
    ∙ ap (λ xs. ids ++ (params ++ xs)) (blocks_ids (closed b.blocks b.current))
    ∙ sym (append_assoc ids params (parts no_ids its_id (closed b.blocks b.current)))
    ∙ end)))

items_counted : (tops : Scope Top) (done after : Done) (items : List DraftItem) → DoneCounted done → resolved_items tops done items ≡ Ok after → DoneCounted after
items_counted tops done after [] c e = subst DoneCounted (ok_is e) c
items_counted tops done after (x ∷ xs) c e =
    bind_ok (resolved_item tops done x) _ after e (λ m was now. items_counted tops m after xs (here x m was) now) where
      here : (x : DraftItem) (m : Done) → resolved_item tops done x ≡ Ok m → DoneCounted m
      here (item.Kept n kept) m e = subst DoneCounted (ok_is e) (kept_counted done (Kept kept.text) refl c)
      here (item.Opaque n name text) m e = subst DoneCounted (ok_is e) (kept_counted done (Opaque text) refl c)
      here (item.Func n head body) m e = function_counted tops n done m head body c e

-- the ids of a module whose names are known
pub ids_in_order : (items : List DraftItem) (m : Module) → Names items m → (n : ℕ) × (ids_of m ≡ numbers_from 0 n)
unfolding module_of
ids_in_order items m names =
    let c : DoneCounted names.resolved = items_counted names.tops.scope (record { items = []; lines = [] }) names.resolved items refl names.known in
    (length names.resolved.lines, sym (ap ids_of names.is) ∙ c)
