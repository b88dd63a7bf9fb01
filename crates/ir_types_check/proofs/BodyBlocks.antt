-- The blocks of a function whose lines stand where they may: each ends once and has its phis first; and a way to go through the lines.
use Rattle.std.proofs.Common.{◌≡◌, ℕ, ◌+◌, Bool, true, false, cond, not, ◌&&◌, List, [], ◌∷◌, ◌++◌, length, Option, Some, None, Ok, refl, sym, ◌∙◌, ap, subst, arith, length-append}
use Rattle.std.specs.List.{All, list_all}
use Rattle.std.proofs.lemmas.List.Elements.{All-push}
use Rattle.ir_types.specs.declared.ty.Ty.{Ty}
use Rattle.ir_types.specs.declared.literal.Literal.{Literal}
use Rattle.ir_types.specs.declared.op.Op.{Op}
use Rattle.ir_types.specs.declared.op.Op.TheVariants as ops
use Rattle.ir_types.specs.declared.inst.Inst.{Inst}
use Rattle.ir_types.specs.declared.func.Block.{Block}
use Rattle.ir_types.specs.Formed.{is_phi, is_terminator, ends_from, EndsOnce, PhisFirst}
use Rattle.ir_draft.specs.declared.stmt.Stmt.{Stmt}
use Rattle.ir_draft.specs.declared.line.Line.{Line}
use Rattle.ir_draft.specs.declared.line.Line.TheVariants as line
use Rattle.ir_draft.specs.declared.draft.Numbered.{Numbered}
use Rattle.ir_line.proofs.Bodies as stage
use Rattle.ir_line.proofs.Bodies.{Stage, May, stage_after, begun, IsStmtAt, Stands, stage_after_line, begun_after, IsBodyFrom, IsBody}
use Rattle.ir_types_check.specs.declared.outline.At.{At}
use Rattle.ir_types_check.specs.declared.locals.Meaning.{Meaning}
use Rattle.ir_types_check.specs.declared.tops.Top.{Top}
use Rattle.ir_types_check.specs.declared.links.Linked.{Linked}
use Rattle.ir_types_check.specs.declared.links.Cases.{Cases}
use Rattle.ir_types_check.specs.declared.building.Built.{Built}
use Rattle.ir_types_check.specs.Scope.{Scope}
use Rattle.ir_types_check.specs.Outline.{opened, after_label, after_inst, past, block_here}
use Rattle.ir_types_check.specs.Links.{linked, cases_of, op_of}
use Rattle.ir_types_check.specs.Blocks.{inst_of, closed, open_block, with_last, settled, with_inst, labelled, with_statement, built_line, built_lines}
use Rattle.ir_types_check.specs.Typed.{with_line_edges, sources_from, line_typed, lines_typed}
use Rattle.ir_types_check.proofs.Binding.{bind_ok, ok_is, both, clash}
use Rattle.ir_types_check.proofs.BodyScope.{after_all}

-- ---- where a line stands

unfoldable pub is_open : Stage → Bool
is_open stage.Front = true
is_open stage.After = true
is_open stage.Between = false
is_open stage.Cases = false

pub record AtStage (st : Stage) (n : ℕ) (at : At) : Type 0 where
  pub blocks : at.blocks ≡ n
  pub opens : at.is_open ≡ is_open st

pub opened_blocks : (st : Stage) (n : ℕ) (at : At) (op : Op) → AtStage st n at → May st op → (opened at).blocks ≡ begun st n
unfolding opened is_open
opened_blocks stage.Between n at op h m = ap (λ b. (cond b at (record { next = at.next + 1; place = at.place; blocks = at.blocks + 1; is_open = true })).blocks) h.opens ∙ ap (λ k. k + 1) h.blocks
opened_blocks stage.Front n at op h m = ap (λ b. (cond b at (record { next = at.next + 1; place = at.place; blocks = at.blocks + 1; is_open = true })).blocks) h.opens ∙ h.blocks
opened_blocks stage.After n at op h m = ap (λ b. (cond b at (record { next = at.next + 1; place = at.place; blocks = at.blocks + 1; is_open = true })).blocks) h.opens ∙ h.blocks
opened_blocks stage.Cases n at op h m = absurd m

after_open : (op : Op) → not (is_terminator op) ≡ is_open (stage_after op)
unfolding is_open
after_open (ops.Phi blocks) = refl
after_open ops.Ret = refl
after_open (ops.Br to) = refl
after_open (ops.CondBr first second) = refl
after_open (ops.Switch other cases to) = refl
after_open ops.Unreachable = refl
after_open _ = refl

pub at_after : (st : Stage) (n : ℕ) (at : At) (form : Line) → AtStage st n at → Stands st n form → AtStage (stage_after_line st form) (begun_after st n form) (past at form)
unfolding after_label after_inst is_open
at_after st n at line.Empty h s = absurd s
at_after st n at (line.Kept kept) h s = absurd s
at_after st n at (line.Define name head) h s = absurd s
at_after st n at line.Close h s = absurd s
at_after st n at (line.Label name) h s = record { blocks = ap (λ k. k + 1) h.blocks; opens = refl }
at_after st n at (line.Stmt s) h i = record { blocks = opened_blocks st n at s.op h i.stands; opens = after_open s.op }
at_after st n at (line.Case value label) h s = h
at_after stage.Cases n at line.CasesEnd h s = record { blocks = h.blocks; opens = h.opens }
at_after stage.Between n at line.CasesEnd h s = absurd s
at_after stage.Front n at line.CasesEnd h s = absurd s
at_after stage.After n at line.CasesEnd h s = absurd s

-- how many blocks have begun at the end
abbrev pub begun_all : Stage → ℕ → List Numbered → ℕ
begun_all st n [] = n
begun_all st n (x ∷ xs) = begun_all (stage_after_line st x.form) (begun_after st n x.form) xs

pub at_end : (st : Stage) (n : ℕ) (at : At) (body : List Numbered) → AtStage st n at → IsBodyFrom st n body → (after_all at body).blocks ≡ begun_all st n body
at_end st n at [] h b = h.blocks
at_end st n at (x ∷ xs) h b = at_end (stage_after_line st x.form) (begun_after st n x.form) (past at x.form) xs (at_after st n at x.form h b.0) b.1

-- ---- operations

pub op_phi : (blocks : List ℕ) (cases : Cases) (op : Op) → is_phi (op_of blocks cases op) ≡ is_phi op
op_phi blocks cases (ops.Phi places) = refl
op_phi blocks cases (ops.Br to) = refl
op_phi blocks cases (ops.CondBr first second) = refl
op_phi blocks cases (ops.Switch other values to) = refl
op_phi blocks cases _ = refl

pub op_stage : (blocks : List ℕ) (cases : Cases) (op : Op) → stage_after (op_of blocks cases op) ≡ stage_after op
op_stage blocks cases (ops.Phi places) = refl
op_stage blocks cases (ops.Br to) = refl
op_stage blocks cases (ops.CondBr first second) = refl
op_stage blocks cases (ops.Switch other values to) = refl
op_stage blocks cases _ = refl

pub op_may : (st : Stage) (blocks : List ℕ) (cases : Cases) (op : Op) → May st op → May st (op_of blocks cases op)
op_may stage.Between blocks cases op m = tt
op_may stage.Front blocks cases op m = tt
op_may stage.After blocks cases op m = op_phi blocks cases op ∙ m
op_may stage.Cases blocks cases op m = m

-- the parts of an instruction that a statement is
pub record IsInst (tops : Scope Top) (locals : Scope Meaning) (base k n : ℕ) (s : Stmt) (rest : List Numbered) (inst : Inst) : Type 0 where
  pub links : Linked
  pub cases : Cases
  pub linked_is : linked tops locals base n s ≡ Ok links
  pub cases_is : cases_of locals s.op rest ≡ Ok cases
  pub id : inst.id ≡ record { region = 0; k = k }
  pub ty : inst.ty ≡ s.ty
  pub op : inst.op ≡ op_of links.blocks cases s.op
  pub opds : inst.opds ≡ links.opds

pub inst_is : (tops : Scope Top) (locals : Scope Meaning) (base k n : ℕ) (s : Stmt) (rest : List Numbered) (inst : Inst) → inst_of tops locals base k n s rest ≡ Ok inst →
    IsInst tops locals base k n s rest inst
unfolding inst_of
inst_is tops locals base k n s rest inst e =
    bind_ok (linked tops locals base n s) _ inst e (λ l was now.
    bind_ok (cases_of locals s.op rest) _ inst now (λ c is then'.
    record {
      links = l;
      cases = c;
      linked_is = was;
      cases_is = is;
      id = sym (ap (λ (x : Inst). x.id) (ok_is then'));
      ty = sym (ap (λ (x : Inst). x.ty) (ok_is then'));
      op = sym (ap (λ (x : Inst). x.op) (ok_is then'));
      opds = sym (ap (λ (x : Inst). x.opds) (ok_is then'));
    }))

-- ---- blocks

abbrev pub unended : List Inst → Bool
unended insts = list_all (λ (i : Inst). not (is_terminator i.op)) insts

abbrev pub all_phis : List Inst → Bool
all_phis insts = list_all (λ (i : Inst). is_phi i.op) insts

pub record IsWholeBlock (block : Block) : Type 0 where
  pub ends : EndsOnce block.insts
  pub phis : PhisFirst true block.insts

abbrev pub IsOpenBlock : Stage → Option Block → Type 0
IsOpenBlock stage.Between None = Unit {0}
IsOpenBlock stage.Cases None = Unit {0}
IsOpenBlock stage.Front (Some block) = (unended block.insts ≡ true) × (all_phis block.insts ≡ true)
IsOpenBlock stage.After (Some block) = (unended block.insts ≡ true) × PhisFirst true block.insts
IsOpenBlock _ _ = ⊥

phis_any : (insts : List Inst) (i : Inst) → all_phis insts ≡ true → PhisFirst true (insts ++ i ∷ [])
phis_any [] i h = (λ e. refl, tt)
phis_any (x ∷ xs) i h =
    let p : (is_phi x.op ≡ true) × (all_phis xs ≡ true) = both (is_phi x.op) (all_phis xs) h in
    (λ e. refl, subst (λ b. PhisFirst b (xs ++ i ∷ [])) (sym p.0) (phis_any xs i p.1))

phis_more : (before : Bool) (insts : List Inst) (i : Inst) → PhisFirst before insts → is_phi i.op ≡ false → PhisFirst before (insts ++ i ∷ [])
phis_more before [] i h n = (λ e. clash (sym e ∙ n), tt)
phis_more before (x ∷ xs) i h n = (h.0, phis_more (before && is_phi x.op) xs i h.1 n)

all_more : (t : Inst → Bool) (insts : List Inst) (i : Inst) → list_all t insts ≡ true → t i ≡ true → list_all t (insts ++ i ∷ []) ≡ true
all_more t [] i h e = ap (λ b. b && true) e
all_more t (x ∷ xs) i h e = let p : (t x ≡ true) × (list_all t xs ≡ true) = both (t x) (list_all t xs) h in rw p.0 (all_more t xs i p.1 e)

ends_at : (x : Inst) (xs : List Inst) (i : Inst) → unended (x ∷ xs) ≡ true → is_terminator i.op ≡ true → ends_from x (xs ++ i ∷ []) ≡ true
ends_at x [] i h e = let p : (not (is_terminator x.op) ≡ true) × (unended [] ≡ true) = both (not (is_terminator x.op)) (unended []) h in rw p.0 e
ends_at x (y ∷ ys) i h e = let p : (not (is_terminator x.op) ≡ true) × (unended (y ∷ ys) ≡ true) = both (not (is_terminator x.op)) (unended (y ∷ ys)) h in rw p.0 (ends_at y ys i p.1 e)

ends_more : (insts : List Inst) (i : Inst) → unended insts ≡ true → is_terminator i.op ≡ true → EndsOnce (insts ++ i ∷ [])
ends_more [] i h e = e
ends_more (x ∷ xs) i h e = ends_at x xs i h e

unfoldable pub opens : Stage → ℕ
opens stage.Front = 1
opens stage.After = 1
opens stage.Between = 0
opens stage.Cases = 0

pub record Sim (st : Stage) (n : ℕ) (b : Built) : Type 0 where
  pub current : IsOpenBlock st b.current
  pub done : All IsWholeBlock b.blocks
  pub count : n ≡ length b.blocks + opens st

-- an instruction that may stand there, put after those of the open block
record Room (st : Stage) (n : ℕ) (b : Built) (op : Op) : Type 0 where
  none : unended (open_block b.current).insts ≡ true
  phis : (i : Inst) → i.op ≡ op → PhisFirst true ((open_block b.current).insts ++ i ∷ [])
  front : is_phi op ≡ true → all_phis (open_block b.current).insts ≡ true
  count : begun st n ≡ length b.blocks + 1

room : (st : Stage) (n : ℕ) (b : Built) (op : Op) → Sim st n b → May st op → Room st n b op
unfolding opens
room st n b op h m = here st b.current refl h.current h.count m where
  here : (st : Stage) (current : Option Block) → b.current ≡ current → IsOpenBlock st current → n ≡ length b.blocks + opens st → May st op → Room st n b op
  here stage.Between None is o c m =
      let e : (open_block b.current).insts ≡ [] = ap (λ x. (open_block x).insts) is in
      record { none = ap unended e; phis = λ i s. subst (λ xs. PhisFirst true (xs ++ i ∷ [])) (sym e) (phis_any [] i refl); front = λ p. ap all_phis e; count = omega (arith, c) }
  here stage.Between (Some block) is o c m = absurd o
  here stage.Cases current is o c m = absurd m
  here stage.Front None is o c m = absurd o
  here stage.Front (Some block) is o c m =
      let e : (open_block b.current).insts ≡ block.insts = ap (λ x. (open_block x).insts) is in
      record { none = ap unended e ∙ o.0; phis = λ i s. subst (λ xs. PhisFirst true (xs ++ i ∷ [])) (sym e) (phis_any block.insts i o.1); front = λ p. ap all_phis e ∙ o.1; count = c }
  here stage.After None is o c m = absurd o
  here stage.After (Some block) is o c m =
      let e : (open_block b.current).insts ≡ block.insts = ap (λ x. (open_block x).insts) is in
      record {
        none = ap unended e ∙ o.0;
        phis = λ i s. subst (λ xs. PhisFirst true (xs ++ i ∷ [])) (sym e) (phis_more true block.insts i o.1 (ap is_phi s ∙ m));
        front = λ p. clash (sym p ∙ m);
        count = c;
      }

pub begins_at : (st : Stage) (n : ℕ) (b : Built) (op : Op) → Sim st n b → May st op → begun st n ≡ length b.blocks + 1
begins_at st n b op h m = (room st n b op h m).count

data Sort (op : Op) : Type 0 where
  Ends : is_terminator op ≡ true → IsOpenBlock (stage_after op) None → opens (stage_after op) ≡ 0 → Sort op
  IsPhi : is_terminator op ≡ false → is_phi op ≡ true → stage_after op ≡ stage.Front → Sort op
  Other : is_terminator op ≡ false → stage_after op ≡ stage.After → Sort op

sort_of : (op : Op) → Sort op
unfolding opens
sort_of (ops.Phi blocks) = IsPhi refl refl refl
sort_of ops.Ret = Ends refl tt refl
sort_of (ops.Br to) = Ends refl tt refl
sort_of (ops.CondBr first second) = Ends refl tt refl
sort_of (ops.Switch other cases to) = Ends refl tt refl
sort_of ops.Unreachable = Ends refl tt refl
sort_of _ = Other refl refl

sim_inst : (st : Stage) (n k : ℕ) (b : Built) (inst : Inst) → Sim st n b → May st inst.op → Sim (stage_after inst.op) (begun st n) (with_inst k b inst)
unfolding with_inst opens
sim_inst st n k b inst h m = here (room st n b inst.op h m) (sort_of inst.op) where
  here : Room st n b inst.op → Sort inst.op → Sim (stage_after inst.op) (begun st n) (settled (is_terminator inst.op) b.blocks (with_last (open_block b.current) inst) (b.lines ++ k ∷ []))
  here r (Ends t o z) = subst (λ x. Sim (stage_after inst.op) (begun st n) (settled x b.blocks (with_last (open_block b.current) inst) (b.lines ++ k ∷ []))) (sym t) (record {
    current = o;
    done = All-push IsWholeBlock b.blocks (with_last (open_block b.current) inst) h.done (record { ends = ends_more (open_block b.current).insts inst r.none t; phis = r.phis inst refl });
    count = omega (arith, r.count, z, length-append b.blocks (with_last (open_block b.current) inst ∷ []));
  })
  here r (IsPhi t p s) =
      subst (λ x. Sim (stage_after inst.op) (begun st n) (settled x b.blocks (with_last (open_block b.current) inst) (b.lines ++ k ∷ []))) (sym t)
      (subst (λ x. Sim x (begun st n) (settled false b.blocks (with_last (open_block b.current) inst) (b.lines ++ k ∷ []))) (sym s) (record {
        current = (
          all_more (λ (i : Inst). not (is_terminator i.op)) (open_block b.current).insts inst r.none (ap not t),
          all_more (λ (i : Inst). is_phi i.op) (open_block b.current).insts inst (r.front p) p,
        );
        done = h.done;
        count = r.count;
      }))
  here r (Other t s) =
      subst (λ x. Sim (stage_after inst.op) (begun st n) (settled x b.blocks (with_last (open_block b.current) inst) (b.lines ++ k ∷ []))) (sym t)
      (subst (λ x. Sim x (begun st n) (settled false b.blocks (with_last (open_block b.current) inst) (b.lines ++ k ∷ []))) (sym s) (record {
        current = (all_more (λ (i : Inst). not (is_terminator i.op)) (open_block b.current).insts inst r.none (ap not t), r.phis inst refl);
        done = h.done;
        count = r.count;
      }))

-- between blocks none is open
pub none_open : (st : Stage) (current : Option Block) → stage.IsBetween st → IsOpenBlock st current → current ≡ None
none_open stage.Between None s o = refl
none_open stage.Between (Some block) s o = absurd o
none_open stage.Front current s o = absurd s
none_open stage.After current s o = absurd s
none_open stage.Cases current s o = absurd s

pub none_opens : (st : Stage) → stage.IsBetween st → opens st ≡ 0
unfolding opens
none_opens stage.Between s = refl
none_opens stage.Front s = absurd s
none_opens stage.After s = absurd s
none_opens stage.Cases s = absurd s

sim_label : (st : Stage) (n : ℕ) (b : Built) (name : List ℕ) → stage.IsBetween st → Sim st n b → Sim stage.Front (n + 1) (labelled b name)
unfolding labelled opens
sim_label st n b name s h =
    let none : b.current ≡ None = none_open st b.current s h.current in
    let same : closed b.blocks b.current ≡ b.blocks = ap (closed b.blocks) none in
    record {
      current = (refl, refl);
      done = subst (All IsWholeBlock) (sym same) h.done;
      count = omega (arith, h.count, none_opens st s, ap length same);
    }

sim_end : (st : Stage) (n : ℕ) (b : Built) → stage.IsCases st → Sim st n b → Sim stage.Between n b
unfolding opens
sim_end stage.Cases n b s h = here b.current refl h.current where
  here : (current : Option Block) → b.current ≡ current → IsOpenBlock stage.Cases current → Sim stage.Between n b
  here None is o = record { current = subst (IsOpenBlock stage.Between) (sym is) tt; done = h.done; count = h.count }
  here (Some block) is o = absurd o
sim_end stage.Between n b s h = absurd s
sim_end stage.Front n b s h = absurd s
sim_end stage.After n b s h = absurd s

-- ---- going through the lines

pub record Ended (b : Built) (n : ℕ) : Type 0 where
  pub current : b.current ≡ None
  pub done : All IsWholeBlock b.blocks
  pub count : length b.blocks ≡ n

-- a statement that is well typed, and the instruction that it is
pub record IsStep (tops : Scope Top) (locals : Scope Meaning) (ret : Ty) (edges : List (List ℕ)) (base : ℕ) (at : At) (b : Built) (k : ℕ) (s : Stmt) (rest : List Numbered) (inst : Inst) : Type 0 where
  pub st : Stage
  pub n : ℕ
  pub stands : IsStmtAt st n s
  pub later : IsBodyFrom (stage_after s.op) (begun st n) rest
  pub here : block_here at ≡ length b.blocks
  pub begins : begun st n ≡ length b.blocks + 1
  pub parts : IsInst tops locals base (length b.lines) k s rest inst
  pub unit : Unit {0}
  pub typed : line_typed tops locals ret edges at k (line.Stmt s) rest ≡ Ok unit

-- what stays true from line to line
pub record Stays (tops : Scope Top) (locals : Scope Meaning) (ret : Ty) (edges : List (List ℕ)) (base : ℕ) (Inv : At → List (List ℕ) → Built → List Numbered → Type 0) : Type 0 where
  pub on_label : (at : At) (S : List (List ℕ)) (b : Built) (k : ℕ) (name : List ℕ) (rest : List Numbered) → b.current ≡ None →
      Inv at S b (record { line = k; form = line.Label name } ∷ rest) → Inv (after_label at name) S (labelled b name) rest
  pub on_case : (at : At) (S : List (List ℕ)) (b : Built) (k : ℕ) (value : Literal) (label : List ℕ) (rest : List Numbered) →
      Inv at S b (record { line = k; form = line.Case value label } ∷ rest) → Inv at S b rest
  pub on_end : (at : At) (S : List (List ℕ)) (b : Built) (k : ℕ) (rest : List Numbered) → Inv at S b (record { line = k; form = line.CasesEnd } ∷ rest) → Inv at S b rest
  pub on_stmt : (at : At) (S : List (List ℕ)) (b : Built) (k : ℕ) (s : Stmt) (rest : List Numbered) (inst : Inst) → IsStep tops locals ret edges base at b k s rest inst →
      Inv at S b (record { line = k; form = line.Stmt s } ∷ rest) → Inv (after_inst (opened at) s) (with_line_edges locals at S (line.Stmt s) rest) (with_inst k b inst) rest

module _ (tops : Scope Top) (locals : Scope Meaning) (ret : Ty) (edges : List (List ℕ)) (base : ℕ) (Inv : At → List (List ℕ) → Built → List Numbered → Type 0) (stays : Stays tops locals ret edges base Inv) where
  line_goes : (st : Stage) (n : ℕ) (at : At) (S : List (List ℕ)) (b after : Built) (k : ℕ) (form : Line) (rest : List Numbered) (u : Unit {0}) → Sim st n b → AtStage st n at →
      Stands st n form → IsBodyFrom (stage_after_line st form) (begun_after st n form) rest → Inv at S b (record { line = k; form = form } ∷ rest) →
      built_line tops locals base k b form rest ≡ Ok after → line_typed tops locals ret edges at k form rest ≡ Ok u →
      Inv (past at form) (with_line_edges locals at S form rest) after rest × Sim (stage_after_line st form) (begun_after st n form) after
  unfolding with_statement
  line_goes st n at S b after k line.Empty rest u sim h s more inv e t = absurd s
  line_goes st n at S b after k (line.Kept kept) rest u sim h s more inv e t = absurd s
  line_goes st n at S b after k (line.Define name head) rest u sim h s more inv e t = absurd s
  line_goes st n at S b after k line.Close rest u sim h s more inv e t = absurd s
  line_goes st n at S b after k (line.Label name) rest u sim h s more inv e t =
      subst (λ x. Inv (after_label at name) S x rest × Sim stage.Front (n + 1) x) (ok_is e)
      (stays.on_label at S b k name rest (none_open st b.current s sim.current) inv, sim_label st n b name s sim)
  line_goes st n at S b after k (line.Stmt s) rest u sim h i more inv e t =
      bind_ok (inst_of tops locals base (length b.lines) k s rest) _ after e (λ inst was is.
      let p : IsInst tops locals base (length b.lines) k s rest inst = inst_is tops locals base (length b.lines) k s rest inst was in
      let m : May st inst.op = subst (May st) (sym p.op) (op_may st p.links.blocks p.cases s.op i.stands) in
      let begins : begun st n ≡ length b.blocks + 1 = begins_at st n b s.op sim i.stands in
      let opened_is : (opened at).blocks ≡ begun st n = opened_blocks st n at s.op h i.stands in
      let step : IsStep tops locals ret edges base at b k s rest inst =
      record { st = st; n = n; stands = i; later = more; here = omega (arith, opened_is, begins); begins = begins; parts = p; unit = u; typed = t } in
      let after_is : Sim (stage_after s.op) (begun st n) (with_inst k b inst) =
      subst (λ x. Sim x (begun st n) (with_inst k b inst)) (ap stage_after p.op ∙ op_stage p.links.blocks p.cases s.op) (sim_inst st n k b inst sim m) in
      subst (λ x. Inv (after_inst (opened at) s) (with_line_edges locals at S (line.Stmt s) rest) x rest × Sim (stage_after s.op) (begun st n) x) (ok_is is)
      (stays.on_stmt at S b k s rest inst step inv, after_is))
  line_goes st n at S b after k (line.Case value label) rest u sim h s more inv e t = subst (λ x. Inv at S x rest × Sim st n x) (ok_is e) (stays.on_case at S b k value label rest inv, sim)
  line_goes st n at S b after k line.CasesEnd rest u sim h s more inv e t =
      subst (λ x. Inv at S x rest × Sim stage.Between n x) (ok_is e) (stays.on_end at S b k rest inv, sim_end st n b s sim)

  pub goes : (st : Stage) (n : ℕ) (at : At) (S : List (List ℕ)) (b after : Built) (body : List Numbered) (u : Unit {0}) → Sim st n b → AtStage st n at → IsBodyFrom st n body → Inv at S b body →
      built_lines tops locals base b body ≡ Ok after → lines_typed tops locals ret edges at body ≡ Ok u →
      Inv (after_all at body) (sources_from locals at S body) after [] × Ended after (begun_all st n body)
  goes st n at S b after [] u sim h s inv e t =
      let none : b.current ≡ None = none_open st b.current s.0 sim.current in
      subst (λ x. Inv at S x [] × Ended x n) (ok_is e) (inv, record { current = none; done = sim.done; count = omega (arith, sim.count, none_opens st s.0) })
  goes st n at S b after (x ∷ xs) u sim h s inv e t =
      bind_ok (built_line tops locals base x.line b x.form xs) _ after e (λ m was now.
      bind_ok (line_typed tops locals ret edges at x.line x.form xs) _ u t (λ v typed then'.
      let g : Inv (past at x.form) (with_line_edges locals at S x.form xs) m xs × Sim (stage_after_line st x.form) (begun_after st n x.form) m =
      line_goes st n at S b m x.line x.form xs v sim h s.0 s.1 inv was typed in
      goes (stage_after_line st x.form) (begun_after st n x.form) (past at x.form) (with_line_edges locals at S x.form xs) m after xs u g.1 (at_after st n at x.form h s.0) s.1 g.0 now then'))
