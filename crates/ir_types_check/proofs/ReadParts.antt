-- What is taken of a function's blocks in order, as its lines build them; and what holds of them one by one.
use Rattle.std.proofs.Common.{◌≡◌, ℕ, Bool, true, false, List, [], ◌∷◌, ◌++◌, Option, Some, None, Ok, refl, sym, ◌∙◌, ap, subst, append_assoc}
use Rattle.std.proofs.lemmas.List.{append-nil}
use Rattle.std.specs.List.{All}
use Rattle.std.proofs.lemmas.List.Elements.{All-nil, All-push}
use Rattle.ir_types.specs.declared.inst.Inst.{Inst}
use Rattle.ir_types.specs.declared.func.Block.{Block}
use Rattle.ir_types.specs.Formed.{is_terminator}
use Rattle.ir_draft.specs.declared.line.Line.{Line}
use Rattle.ir_draft.specs.declared.line.Line.TheVariants as line
use Rattle.ir_draft.specs.declared.draft.Numbered.{Numbered}
use Rattle.ir_types_check.specs.declared.locals.Meaning.{Meaning}
use Rattle.ir_types_check.specs.declared.tops.Top.{Top}
use Rattle.ir_types_check.specs.declared.building.Built.{Built}
use Rattle.ir_types_check.specs.Scope.{Scope}
use Rattle.ir_types_check.specs.Outline.{written_name}
use Rattle.ir_types_check.specs.Blocks.{inst_of, closed, open_block, with_last, settled, with_inst, labelled, with_statement, built_line, built_lines}
use Rattle.ir_types_check.proofs.Binding.{bind_ok, ok_is}

-- ---- parts in order

module _ {X : Type 0} (named : Option (List ℕ) → List X) (given : Inst → List X) where
  abbrev pub inst_parts : List Inst → List X
  inst_parts [] = []
  inst_parts (i ∷ is) = given i ++ inst_parts is

  -- of each block what its name gives, and then what its instructions give
  abbrev pub parts : List Block → List X
  parts [] = []
  parts (b ∷ bs) = named b.name ++ (inst_parts b.insts ++ parts bs)

  inst_push : (is : List Inst) (i : Inst) → inst_parts (is ++ i ∷ []) ≡ inst_parts is ++ given i
  inst_push [] i = append-nil (given i)
  inst_push (j ∷ is) i = ap (λ xs. given j ++ xs) (inst_push is i) ∙ sym (append_assoc (given j) (inst_parts is) (given i))

  pub parts_push : (bs : List Block) (b : Block) → parts (bs ++ b ∷ []) ≡ parts bs ++ (named b.name ++ inst_parts b.insts)
  parts_push [] b = ap (λ xs. named b.name ++ xs) (append-nil (inst_parts b.insts))
  parts_push (c ∷ bs) b =
      ap (λ xs. named c.name ++ (inst_parts c.insts ++ xs)) (parts_push bs b)
      ∙ ap (λ xs. named c.name ++ xs) (sym (append_assoc (inst_parts c.insts) (parts bs) (named b.name ++ inst_parts b.insts)))
      ∙ sym (append_assoc (named c.name) (inst_parts c.insts ++ parts bs) (named b.name ++ inst_parts b.insts))

  -- the parts of what is built, with the open block
  abbrev pub built_parts : Built → List X
  built_parts b = parts (closed b.blocks b.current)

  last_parts : (blocks : List Block) (current : Option Block) (inst : Inst) → named None ≡ [] → parts (blocks ++ with_last (open_block current) inst ∷ []) ≡ parts (closed blocks current) ++ given inst
  last_parts blocks None inst silent = parts_push blocks (with_last (open_block None) inst) ∙ ap (λ xs. parts blocks ++ (xs ++ (given inst ++ []))) silent ∙ ap (λ xs. parts blocks ++ xs) (append-nil (given inst))
  last_parts blocks (Some block) inst silent =
      parts_push blocks (with_last block inst)
      ∙ ap (λ xs. parts blocks ++ (named block.name ++ xs)) (inst_push block.insts inst)
      ∙ ap (λ xs. parts blocks ++ xs) (sym (append_assoc (named block.name) (inst_parts block.insts) (given inst)))
      ∙ sym (append_assoc (parts blocks) (named block.name ++ inst_parts block.insts) (given inst))
      ∙ ap (λ xs. xs ++ given inst) (sym (parts_push blocks block))

  settled_parts : (ends : Bool) (blocks : List Block) (block : Block) (lines : List ℕ) → built_parts (settled ends blocks block lines) ≡ parts (blocks ++ block ∷ [])
  settled_parts true blocks block lines = refl
  settled_parts false blocks block lines = refl

  pub inst_built : (n : ℕ) (b : Built) (inst : Inst) → named None ≡ [] → built_parts (with_inst n b inst) ≡ built_parts b ++ given inst
  unfolding with_inst
  inst_built n b inst silent =
      settled_parts (is_terminator inst.op) b.blocks (with_last (open_block b.current) inst) (b.lines ++ n ∷ []) ∙ last_parts b.blocks b.current inst silent

  pub label_built : (b : Built) (name : List ℕ) → built_parts (labelled b name) ≡ built_parts b ++ named (written_name name)
  unfolding labelled
  label_built b name = parts_push (closed b.blocks b.current) (record { name = written_name name; insts = [] }) ∙ ap (λ xs. built_parts b ++ xs) (append-nil (named (written_name name)))

pub settled_lines : (ends : Bool) (blocks : List Block) (block : Block) (lines : List ℕ) → (settled ends blocks block lines).lines ≡ lines
settled_lines true blocks block lines = refl
settled_lines false blocks block lines = refl

pub inst_lines : (n : ℕ) (b : Built) (inst : Inst) → (with_inst n b inst).lines ≡ b.lines ++ n ∷ []
unfolding with_inst
inst_lines n b inst = settled_lines (is_terminator inst.op) b.blocks (with_last (open_block b.current) inst) (b.lines ++ n ∷ [])

-- ---- one by one

-- a predicate of each line
abbrev pub EachLine : (Line → Type 0) → List Numbered → Type 0
EachLine P [] = Unit {0}
EachLine P (x ∷ xs) = P x.form × EachLine P xs

module _ (FineName : Option (List ℕ) → Type 0) (FineInst : Inst → Type 0) where
  pub record IsFineBlock (b : Block) : Type 0 where
    pub named : FineName b.name
    pub insts : All FineInst b.insts

  FineOpen : Option Block → Type 0
  FineOpen None = Unit {0}
  FineOpen (Some b) = IsFineBlock b

  record FineBuilt (b : Built) : Type 0 where
    blocks : All IsFineBlock b.blocks
    current : FineOpen b.current

  closed_fine : (blocks : List Block) (current : Option Block) → All IsFineBlock blocks → FineOpen current → All IsFineBlock (closed blocks current)
  unfolding FineOpen
  closed_fine blocks None all open' = all
  closed_fine blocks (Some b) all open' = All-push IsFineBlock blocks b all open'

  settled_fine : (ends : Bool) (blocks : List Block) (block : Block) (lines : List ℕ) → All IsFineBlock blocks → IsFineBlock block → FineBuilt (settled ends blocks block lines)
  unfolding FineOpen
  settled_fine true blocks block lines all one = record { blocks = All-push IsFineBlock blocks block all one; current = tt }
  settled_fine false blocks block lines all one = record { blocks = all; current = one }

  opened_fine : (current : Option Block) → FineName None → FineOpen current → IsFineBlock (open_block current)
  unfolding FineOpen
  opened_fine None none open' = record { named = none; insts = All-nil FineInst }
  opened_fine (Some b) none open' = open'

  inst_fine : (n : ℕ) (b : Built) (inst : Inst) → FineName None → FineBuilt b → FineInst inst → FineBuilt (with_inst n b inst)
  unfolding with_inst
  inst_fine n b inst none fine one =
      let o : IsFineBlock (open_block b.current) = opened_fine b.current none fine.current in
      settled_fine (is_terminator inst.op) b.blocks (with_last (open_block b.current) inst) (b.lines ++ n ∷ []) fine.blocks
      (record { named = o.named; insts = All-push FineInst (open_block b.current).insts inst o.insts one })

  label_fine : (b : Built) (name : List ℕ) → FineBuilt b → FineName (written_name name) → FineBuilt (labelled b name)
  unfolding labelled FineOpen
  label_fine b name fine one = record { blocks = closed_fine b.blocks b.current fine.blocks fine.current; current = record { named = one; insts = All-nil FineInst } }

  module _ (tops : Scope Top) (locals : Scope Meaning) (base : ℕ) where
    -- whatever a line makes is fine
    abbrev pub MakesFine : Line → Type 0
    MakesFine (line.Label name) = FineName (written_name name)
    MakesFine (line.Stmt s) = (k n : ℕ) (rest : List Numbered) (inst : Inst) → inst_of tops locals base k n s rest ≡ Ok inst → FineInst inst
    MakesFine _ = Unit {0}

    line_fine : (n : ℕ) (b after : Built) (form : Line) (rest : List Numbered) → FineName None → FineBuilt b → MakesFine form → built_line tops locals base n b form rest ≡ Ok after → FineBuilt after
    unfolding with_statement
    line_fine n b after (line.Label name) rest none fine one e = subst FineBuilt (ok_is e) (label_fine b name fine one)
    line_fine n b after (line.Stmt s) rest none fine one e =
        bind_ok (inst_of tops locals base _ n s rest) _ after e (λ inst was now. subst FineBuilt (ok_is now) (inst_fine n b inst none fine (one _ n rest inst was)))
    line_fine n b after line.Empty rest none fine one e = subst FineBuilt (ok_is e) fine
    line_fine n b after (line.Kept kept) rest none fine one e = subst FineBuilt (ok_is e) fine
    line_fine n b after (line.Define name head) rest none fine one e = subst FineBuilt (ok_is e) fine
    line_fine n b after line.Close rest none fine one e = subst FineBuilt (ok_is e) fine
    line_fine n b after (line.Case value label) rest none fine one e = subst FineBuilt (ok_is e) fine
    line_fine n b after line.CasesEnd rest none fine one e = subst FineBuilt (ok_is e) fine

    lines_fine : (b after : Built) (body : List Numbered) → FineName None → FineBuilt b → EachLine MakesFine body → built_lines tops locals base b body ≡ Ok after → FineBuilt after
    lines_fine b after [] none fine each e = subst FineBuilt (ok_is e) fine
    lines_fine b after (x ∷ xs) none fine each e =
        bind_ok (built_line tops locals base x.line b x.form xs) _ after e (λ m was now. lines_fine m after xs none (line_fine x.line b m x.form xs none fine each.0 was) each.1 now)

    -- the blocks that fine lines build
    pub blocks_fine : (lines : List ℕ) (after : Built) (body : List Numbered) → FineName None → EachLine MakesFine body → built_lines tops locals base (record { blocks = []; current = None; lines = lines }) body ≡ Ok after →
        All IsFineBlock (closed after.blocks after.current)
    unfolding FineOpen
    blocks_fine lines after body none each e =
        let f : FineBuilt after = lines_fine (record { blocks = []; current = None; lines = lines }) after body none (record { blocks = All-nil IsFineBlock; current = tt }) each e in
        closed_fine after.blocks after.current f.blocks f.current
