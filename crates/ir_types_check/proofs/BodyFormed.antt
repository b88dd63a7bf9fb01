-- A function that was read, whose names are known and whose lines are well typed, is formed; and its ids are one number after the other.
use Rattle.std.proofs.Common.{◌≡◌, ℕ, zero, suc, ◌+◌, ◌<◌, ◌⊎◌, inl, inr, Bool, true, false, List, [], ◌∷◌, ◌++◌, length, Option, Some, None, Ok, refl, sym, ◌∙◌, ap, subst, arith}
use Rattle.std.proofs.lemmas.Option.{slice_get_within, get_or_from_slice_get}
use Rattle.std.proofs.lemmas.List.{append-nil, length-replicate}
use Rattle.std.specs.Prelude.{slice_get, replicate, nat_lt}
use Rattle.std.specs.List.{All}
use Rattle.std.proofs.lemmas.List.Elements.{All-nil, All-cons, All-head, All-tail, All-push}
use Rattle.ir_types.specs.declared.ty.Ty.{Ty}
use Rattle.ir_types.specs.declared.ty.Ty.TheVariants.{Void}
use Rattle.ir_types.specs.declared.inst.Inst.{Inst}
use Rattle.ir_types.specs.declared.func.Param.{Param}
use Rattle.ir_types.specs.declared.func.Block.{Block}
use Rattle.ir_types.specs.declared.func.Func.{Func}
use Rattle.ir_types.specs.declared.module.Item.TheVariants.{Func as FuncItem}
use Rattle.ir_types.specs.declared.module.Module.{Module}
use Rattle.ir_types.specs.Typed.{is_value}
use Rattle.ir_types.specs.Formed.{or_else, ty_in_blocks, value_ty, block_ids, item_ids, is_terminator, IsFormedInst, IsFormedFunc}
use Rattle.ir_draft.specs.declared.head.Head.{Head}
use Rattle.ir_draft.specs.declared.stmt.Stmt.{Stmt}
use Rattle.ir_draft.specs.declared.line.Line.TheVariants as line
use Rattle.ir_draft.specs.declared.draft.Numbered.{Numbered}
use Rattle.ir_line.proofs.Bodies as stage
use Rattle.ir_line.proofs.Bodies.{Stage, stage_after_line, begun_after, IsBodyFrom, IsBody}
use Rattle.ir_types_check.specs.declared.outline.At.{At}
use Rattle.ir_types_check.specs.declared.locals.Meaning.{Meaning}
use Rattle.ir_types_check.specs.declared.locals.Meaning.TheVariants.{Value}
use Rattle.ir_types_check.specs.declared.locals.Locals.{Locals}
use Rattle.ir_types_check.specs.declared.tops.Top.{Top}
use Rattle.ir_types_check.specs.declared.tops.Top.TheVariants.{Global}
use Rattle.ir_types_check.specs.declared.building.Built.{Built}
use Rattle.ir_types_check.specs.Scope.{Scope, meaning}
use Rattle.ir_types_check.specs.Outline.{start, opened, after_inst}
use Rattle.ir_types_check.specs.Locals.{with_params, locals_of}
use Rattle.ir_types_check.specs.Blocks.{id_of, closed, open_block, with_last, settled, with_inst, labelled, params_from, param_lines, func_of, built_lines, built_of}
use Rattle.ir_types_check.specs.Typed.{sources_at, count, sources_of, lines_typed, with_line_edges}
use Rattle.ir_types_check.proofs.Binding.{bind_ok, nothing}
use Rattle.ir_types_check.proofs.BodyScope.{stmt_tys, param_tys, IsScope, Grows, params_grow, lines_grow, after_all}
use Rattle.ir_types_check.proofs.BodyBlocks.{AtStage, begun_all, at_end, is_open, opens, IsWholeBlock, Sim, Ended, IsStep, Stays, goes}
use Rattle.ir_types_check.proofs.BodyTypes.{map_length}
use Rattle.ir_types_check.proofs.BodyIds.{flat, all_insts, AreCounted, Counting, counting, in_flat, in_counted, in_params, past_params, ids_from, ids_append, counted_ids, flat_ids, param_ids, length_param_lines}
use Rattle.ir_types_check.proofs.BodyEdges.{hits, row_at, Edged, edged, graph_rows, no_sources, no_rows}
use Rattle.ir_types_check.proofs.BodyInsts.{IsWholeFunc, formed_inst}

all_get : {X : Type 0} (P : X → Type 0) (xs : List X) (k : ℕ) (x : X) → All P xs → slice_get xs k ≡ Some x → P x
all_get P xs k x h e = subst P (get_or_from_slice_get xs k x x e) (h k x (slice_get_within xs k x e))

-- ---- what holds of each instruction and its block

module _ (P : ℕ → Inst → Type 0) where
  AllFrom : ℕ → List Block → Type 0
  AllFrom k [] = Unit {0}
  AllFrom k (b ∷ bs) = All (P k) b.insts × AllFrom (k + 1) bs

  from_push : (k : ℕ) (bs : List Block) (b : Block) → AllFrom k bs → All (P (k + length bs)) b.insts → AllFrom k (bs ++ b ∷ [])
  unfolding AllFrom
  from_push k [] b h p = let e : k + length {A = Block} [] ≡ k = omega arith in (subst (λ n. All (P n) b.insts) e p, tt)
  from_push k (x ∷ bs) b h p = let e : k + length (x ∷ bs) ≡ k + 1 + length bs = omega arith in (h.0, from_push (k + 1) bs b h.1 (subst (λ n. All (P n) b.insts) e p))

  from_get : (k : ℕ) (bs : List Block) (j : ℕ) (b : Block) → AllFrom k bs → slice_get bs j ≡ Some b → All (P (k + j)) b.insts
  unfolding AllFrom
  from_get k [] j b h e = nothing e
  from_get k (x ∷ bs) zero b h e =
      let z : k ≡ k + 0 = omega arith in
      let same : x ≡ b = cc in
      subst (λ n. All (P n) b.insts) z (subst (λ (y : Block). All (P k) y.insts) same h.0)
  from_get k (x ∷ bs) (suc j) b h e = let z : k + 1 + j ≡ k + suc j = omega arith in subst (λ n. All (P n) b.insts) z (from_get (k + 1) bs j b h.1 e)

  record Each' (at : At) (S : List (List ℕ)) (b : Built) (rest : List Numbered) : Type 0 where
    done : AllFrom 0 b.blocks
    current : All (P (length b.blocks)) (open_block b.current).insts

  with_each : (k : ℕ) (b : Built) (inst : Inst) (at to : At) (S T : List (List ℕ)) (rest after : List Numbered) → Each' at S b rest → P (length b.blocks) inst → Each' to T (with_inst k b inst) after
  unfolding with_inst
  with_each k b inst at to S T rest after h p = here (is_terminator inst.op) where
    more : All (P (length b.blocks)) ((open_block b.current).insts ++ inst ∷ [])
    more = All-push (P (length b.blocks)) (open_block b.current).insts inst h.current p

    here : (t : Bool) → Each' to T (settled t b.blocks (with_last (open_block b.current) inst) (b.lines ++ k ∷ [])) after
    here true =
        let e : length b.blocks ≡ 0 + length b.blocks = omega arith in
        record {
          done = from_push 0 b.blocks (with_last (open_block b.current) inst) h.done (subst (λ n. All (P n) ((open_block b.current).insts ++ inst ∷ [])) e more);
          current = All-nil (P (length (b.blocks ++ with_last (open_block b.current) inst ∷ [])));
        }
    here false = record { done = h.done; current = more }

  each_stays : (tops : Scope Top) (locals : Scope Meaning) (ret : Ty) (edges : List (List ℕ)) (base : ℕ) →
      ((at : At) (b : Built) (k : ℕ) (s : Stmt) (rest : List Numbered) (inst : Inst) → IsStep tops locals ret edges base at b k s rest inst → P (length b.blocks) inst) →
      Stays tops locals ret edges base Each'
  unfolding labelled
  each_stays tops locals ret edges base each = record {
    on_label = λ at S b n name rest none h.
        let same : closed b.blocks b.current ≡ b.blocks = ap (closed b.blocks) none in
        record { done = subst (AllFrom 0) (sym same) h.done; current = All-nil (P (length (closed b.blocks b.current))) };
    on_case = λ at S b n value label rest h. record { done = h.done; current = h.current };
    on_end = λ at S b n rest h. record { done = h.done; current = h.current };
    on_stmt = λ at S b n s rest inst step h.
        with_each n b inst at (after_inst (opened at) s) S (with_line_edges locals at S (line.Stmt s) rest) (record { line = n; form = line.Stmt s } ∷ rest) rest h (each at b n s rest inst step);
  }

  pub each_inst : (tops : Scope Top) (locals : Scope Meaning) (ret : Ty) (edges : List (List ℕ)) (base : ℕ) (b after : Built) (body : List Numbered) (u : Unit {0}) →
      ((at : At) (b : Built) (k : ℕ) (s : Stmt) (rest : List Numbered) (inst : Inst) → IsStep tops locals ret edges base at b k s rest inst → P (length b.blocks) inst) →
      b.blocks ≡ [] → b.current ≡ None → Sim stage.Between 0 b → AtStage stage.Between 0 start → IsBody body → built_lines tops locals base b body ≡ Ok after →
      lines_typed tops locals ret edges start body ≡ Ok u → (j : ℕ) (block : Block) → slice_get after.blocks j ≡ Some block → All (P j) block.insts
  unfolding AllFrom
  each_inst tops locals ret edges base b after body u each none closed' sim at is built typed j block e =
      let first : Each' start [] b body = record {
        done = subst (AllFrom 0) (sym none) tt;
        current = subst (λ (c : Option Block). All (P (length b.blocks)) (open_block c).insts) (sym closed') (All-nil (P (length b.blocks)));
      } in
      let g : Each' (after_all start body) _ after [] × Ended after (begun_all stage.Between 0 body) =
      goes tops locals ret edges base Each' (each_stays tops locals ret edges base each) stage.Between 0 start [] b after body u sim at is first built typed in
      let z : 0 + j ≡ j = omega arith in
      subst (λ n. All (P n) block.insts) z (from_get 0 after.blocks j block g.0.done e)

-- ---- one function

some_begun : (st : Stage) (n : ℕ) (body : List Numbered) → IsBodyFrom st n body → 0 < begun_all st n body
some_begun st n [] h = h.1
some_begun st n (x ∷ xs) h = some_begun (stage_after_line st x.form) (begun_after st n x.form) xs h.1

params_typed : (k : ℕ) (ps : List Param) → All (λ (p : Param). is_value p.ty ≡ true) ps → All (λ (p : Param). is_value p.ty ≡ true) (params_from k ps)
params_typed k [] h = All-nil (λ (p : Param). is_value p.ty ≡ true)
params_typed k (p ∷ ps) h =
    All-cons (λ (p : Param). is_value p.ty ≡ true) _ (params_from (k + 1) ps) (All-head (λ (p : Param). is_value p.ty ≡ true) p ps h)
    (params_typed (k + 1) ps (All-tail (λ (p : Param). is_value p.ty ≡ true) p ps h))

-- the types of a header are of the profile
pub record HasTypes (head : Head) : Type 0 where
  pub returns : (head.ret ≡ Void) ⊎ (is_value head.ret ≡ true)
  pub params : All (λ (p : Param). is_value p.ty ≡ true) head.params

-- a function of the module, and its ids
pub record FormedFunc (m : Module) (base : ℕ) (func : Func) (lines : List ℕ) : Type 0 where
  pub formed : IsFormedFunc m func
  pub many : ℕ
  pub ids : item_ids (FuncItem func) ≡ ids_from base many
  pub lines_are : length lines ≡ base + many

module _ (m : Module) (tops : Scope Top) (globals : (name : List ℕ) (g : ℕ) → meaning name tops ≡ Some (Global g) → nat_lt g (length m.globals) ≡ true)
    (n : ℕ) (lines : List ℕ) (head : Head) (body : List Numbered) (types : HasTypes head) (is : IsBody body) where
  -- the locals
  record LocalsAre (l : Locals) : Type 0 where
    values : (name : List ℕ) (place : ℕ) (ty : Ty) → meaning name l.scope ≡ Some (Value place ty) →
        ((k : ℕ) × (place ≡ k) × (slice_get (param_tys head.params) k ≡ Some ty)) ⊎ ((k : ℕ) × (place ≡ length head.params + k) × (slice_get (stmt_tys body) k ≡ Some ty))
    scoped : IsScope l
    blocks : l.at.blocks ≡ begun_all stage.Between 0 body

  locals_are : (l : Locals) → locals_of n head body ≡ Ok l → LocalsAre l
  unfolding locals_of is_open
  locals_are l e =
      bind_ok (with_params n (record { scope = []; at = start }) head.params) _ l e (λ lp was now.
      let g : Grows (record { scope = []; at = start }) lp (param_tys head.params) × (lp.at.blocks ≡ 0) × (lp.at.is_open ≡ false) = params_grow n (record { scope = []; at = start }) lp head.params was in
      let h : Grows lp l (stmt_tys body) × (l.at ≡ after_all lp.at body) = lines_grow lp l stage.Between 0 body is now in
      let many : length (param_tys head.params) ≡ length head.params = map_length (λ (p : Param). p.ty) head.params in
      record {
        values = λ name place ty e. elim (h.0.values name place ty e) [
          | inl old ↦ elim (g.0.values name place ty old) [ inl none ↦ nothing none | inr new ↦ inl (new.0, omega (arith, new.1), new.2) ]
          | inr new ↦ inr (new.0, omega (arith, new.1, g.0.place, many), new.2)
        ];
        scoped = h.0.scoped (g.0.scoped (record { below = λ name k e. nothing e; once = λ x y k e f. nothing e }));
        blocks = ap (λ (x : At). x.blocks) h.1 ∙ at_end stage.Between 0 lp.at body (record { blocks = g.1; opens = g.2 }) is;
      })

  abbrev base : ℕ
  base = length lines

  abbrev begin : Built
  begin = record { blocks = []; current = None; lines = param_lines n lines head.params }

  -- the blocks
  record BuiltIs (l : Locals) (b : Built) : Type 0 where
    current : b.current ≡ None
    done : All IsWholeBlock b.blocks
    many : length b.blocks ≡ l.at.blocks
    counted : AreCounted (base + length head.params) (stmt_tys body) (flat b.blocks)
    lines_are : length b.lines ≡ base + length head.params + length (stmt_tys body)
    edged : (c to : ℕ) → to < length b.blocks → count c (sources_at (sources_of l body) to) ≡ hits to (row_at b.blocks [] c)

  sim_begin : Sim stage.Between 0 begin
  unfolding opens
  sim_begin = record { current = tt; done = All-nil IsWholeBlock; count = omega arith }

  at_start : AtStage stage.Between 0 start
  unfolding is_open
  at_start = record { blocks = refl; opens = refl }

  built_is : (l : Locals) (b : Built) (u : Unit {0}) → LocalsAre l → built_lines tops l.scope base begin body ≡ Ok b → lines_typed tops l.scope head.ret (sources_of l body) start body ≡ Ok u → BuiltIs l b
  built_is l b u known built typed =
      let zero_lines : length (param_lines n lines head.params) ≡ length lines + length head.params = length_param_lines n lines head.params in
      let counted : Counting (base + length head.params) (stmt_tys body) (after_all start body) _ b [] × Ended b (begun_all stage.Between 0 body) =
      goes tops l.scope head.ret (sources_of l body) base (Counting (base + length head.params) (stmt_tys body)) (counting tops l.scope head.ret (sources_of l body) base (base + length head.params) (stmt_tys body))
      stage.Between 0 start (replicate l.at.blocks []) begin b body u sim_begin at_start is
      (record { tys = []; counted = tt; whole = refl; lines = omega (arith, zero_lines) }) built typed in
      let edges : Edged l.at.blocks (after_all start body) (sources_of l body) b [] × Ended b (begun_all stage.Between 0 body) =
      goes tops l.scope head.ret (sources_of l body) base (Edged l.at.blocks) (edged tops l.scope head.ret (sources_of l body) base l.at.blocks)
      stage.Between 0 start (replicate l.at.blocks []) begin b body u sim_begin at_start is
      (record { many = length-replicate l.at.blocks []; same = λ c to less. no_sources l.at.blocks c to ∙ sym (no_rows c to) }) built typed in
      let ended : Ended b (begun_all stage.Between 0 body) = counted.1 in
      let size : length b.blocks ≡ l.at.blocks = ended.count ∙ sym known.blocks in
      let all : counted.0.tys ≡ stmt_tys body = sym (append-nil counted.0.tys) ∙ counted.0.whole in
      let insts : all_insts b ≡ flat b.blocks = ap (λ c. flat b.blocks ++ (open_block c).insts) ended.current ∙ append-nil (flat b.blocks) in
      record {
        current = ended.current;
        done = ended.done;
        many = size;
        counted = subst (λ ts. AreCounted (base + length head.params) ts (flat b.blocks)) all (subst (AreCounted (base + length head.params) counted.0.tys) insts counted.0.counted);
        lines_are = counted.0.lines ∙ ap (λ ts. base + length head.params + length ts) all;
        edged = λ c to less. edges.0.same c to (subst (λ k. to < k) size less) ∙ ap (λ x. hits to (row_at b.blocks (open_block x).insts c)) ended.current;
      }

  abbrev func : Built → Func
  func b = func_of base head b.blocks

  whole_func : (l : Locals) (b : Built) → LocalsAre l → BuiltIs l b → IsWholeFunc m (func b) tops l.scope (sources_of l body) base
  whole_func l b known h = record {
    there = record {
      values = λ name place ty e. value_is name place ty (known.values name place ty e);
      globals = globals;
    };
    below = λ name k e. subst (λ x. k < x) (sym h.many) (known.scoped.below name k e);
    once = known.scoped.once;
    edged = λ c to less. h.edged c to less ∙ ap (hits to) (sym (graph_rows b.blocks c h.done));
  }
    where
      value_is : (name : List ℕ) (place : ℕ) (ty : Ty) →
          ((k : ℕ) × (place ≡ k) × (slice_get (param_tys head.params) k ≡ Some ty)) ⊎ ((k : ℕ) × (place ≡ length head.params + k) × (slice_get (stmt_tys body) k ≡ Some ty)) →
          value_ty (func b) (record { region = 0; k = base + place }) ≡ Some ty
      value_is name place ty (inl p) =
          ap (λ o. or_else o (ty_in_blocks (id_of (base + place)) b.blocks)) (in_params base head.params p.0 (base + place) ty p.2 (omega (arith, p.1)))
      value_is name place ty (inr p) =
          ap (λ o. or_else o (ty_in_blocks (id_of (base + place)) b.blocks)) (past_params base head.params (base + place) (omega (arith, p.1)))
          ∙ in_flat (id_of (base + place)) b.blocks ∙ in_counted (base + length head.params) (stmt_tys body) (flat b.blocks) p.0 (base + place) ty h.counted p.2 (omega (arith, p.1))

  func_formed : (l : Locals) (b : Built) (u : Unit {0}) → LocalsAre l → BuiltIs l b → built_lines tops l.scope base begin body ≡ Ok b → lines_typed tops l.scope head.ret (sources_of l body) start body ≡ Ok u →
      IsFormedFunc m (func b)
  func_formed l b u known h built typed =
      let w : IsWholeFunc m (func b) tops l.scope (sources_of l body) base = whole_func l b known h in
      let begins : 0 < begun_all stage.Between 0 body = some_begun stage.Between 0 body is in
      record {
        returns = types.returns;
        params = params_typed base head.params types.params;
        blocks = λ j block e. record {
          ends = (all_get IsWholeBlock b.blocks j block h.done e).ends;
          phis = (all_get IsWholeBlock b.blocks j block h.done e).phis;
          insts = λ position inst f.
              all_get (λ (i : Inst). j < length b.blocks → (position : ℕ) → IsFormedInst m (func b) j position i) block.insts position inst
              (each_inst (λ number i. number < length b.blocks → (position : ℕ) → IsFormedInst m (func b) number position i) tops l.scope head.ret (sources_of l body) base begin b body u
              (λ at before k s rest i step less. formed_inst m (func b) tops l.scope (sources_of l body) base w at before k s rest i step less)
              refl refl sim_begin at_start is built typed j block e) f (slice_get_within b.blocks j block e) position;
        };
        some = subst (λ k. 0 < k) (sym (h.many ∙ known.blocks)) begins;
      }

  func_ids : (l : Locals) (b : Built) → BuiltIs l b → item_ids (FuncItem (func b)) ≡ ids_from base (length head.params + length (stmt_tys body))
  func_ids l b h =
      ap (λ xs. xs ++ block_ids b.blocks) (param_ids base head.params)
      ∙ ap (λ xs. ids_from base (length head.params) ++ xs) (flat_ids b.blocks ∙ counted_ids (base + length head.params) (stmt_tys body) (flat b.blocks) h.counted)
      ∙ sym (ids_append base (length head.params) (length (stmt_tys body)))

  -- a function that is resolved and well typed
  pub function_is_formed : (l : Locals) (b : Built) (u : Unit {0}) → locals_of n head body ≡ Ok l → built_of tops l.scope n lines head body ≡ Ok b →
      lines_typed tops l.scope head.ret (sources_of l body) start body ≡ Ok u → FormedFunc m (length lines) (func_of (length lines) head (closed b.blocks b.current)) b.lines
  unfolding built_of
  function_is_formed l b u e built typed =
      let known : LocalsAre l = locals_are l e in
      let h : BuiltIs l b = built_is l b u known built typed in
      let same : closed b.blocks b.current ≡ b.blocks = ap (closed b.blocks) h.current in
      subst (λ bs. FormedFunc m (length lines) (func_of (length lines) head bs) b.lines) (sym same) (record {
        formed = func_formed l b u known h built typed;
        many = length head.params + length (stmt_tys body);
        ids = func_ids l b h;
        lines_are = h.lines_are ∙ omega arith;
      })
