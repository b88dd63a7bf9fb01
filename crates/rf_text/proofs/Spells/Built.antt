-- The blocks that lines build, as one row of marks: the begin of each block and each instruction, in order of the lines.
use Rattle.std.proofs.Common.{◌≡◌, ℕ, ◌+◌, Bool, true, false, not, List, [], ◌∷◌, ◌++◌, length, Option, Some, None, Ok, refl, sym, ◌∙◌, ap, subst, append_assoc, arith, length-append}
use Rattle.std.proofs.lemmas.List.{append-nil}
use Rattle.ir_types.specs.declared.op.Op.{Op}
use Rattle.ir_types.specs.declared.op.Op.TheVariants as ops
use Rattle.ir_types.specs.declared.inst.Inst.{Inst}
use Rattle.ir_types.specs.declared.func.Block.{Block}
use Rattle.ir_types.specs.Formed.{is_terminator}
use Rattle.ir_draft.specs.declared.line.Line.{Line}
use Rattle.ir_draft.specs.declared.line.Line.TheVariants as line
use Rattle.ir_draft.specs.declared.draft.Numbered.{Numbered}
use Rattle.ir_print.specs.Names.{is_store, is_void}
use Rattle.ir_types_check.specs.Scope.{Scope}
use Rattle.ir_types_check.specs.Outline.{written_name}
use Rattle.ir_types_check.specs.Links.{op_of}
use Rattle.ir_types_check.specs.Blocks.{inst_of, closed, open_block, with_last, settled, with_inst, labelled, with_statement, built_line, built_lines}
use Rattle.ir_types_check.proofs.Binding.{bind_ok, ok_is}
use Rattle.ir_types_check.proofs.BodyBlocks.{IsInst, inst_is}
use Rattle.ir_types_check.proofs.Handed.{LocalMeaning, TopMeaning, BuiltSoFar, LinkedCases}
use Rattle.ir_types_check.proofs.ReadParts.{inst_lines}
use Rattle.rf_text.proofs.Named.Things.{Thing, Begins, inst_thing, insts_things, blocks_things}

-- ---- marks

pub data Mark : Type 0 where
  -- the begin of a block, with its written name
  Starts : Option (List ℕ) → Mark
  Does : Inst → Mark

abbrev pub insts_marks : List Inst → List Mark → List Mark
insts_marks [] rest = rest
insts_marks (i ∷ is) rest = Does i ∷ insts_marks is rest

abbrev pub marks : List Block → List Mark
marks [] = []
marks (b ∷ bs) = Starts b.name ∷ insts_marks b.insts (marks bs)

abbrev pub marks_things : List Mark → List Thing
marks_things [] = []
marks_things (Starts name ∷ ms) = Begins name ∷ marks_things ms
marks_things (Does i ∷ ms) = inst_thing (is_void i.ty) (is_store i.op) i ∷ marks_things ms

insts_same : (is : List Inst) (rest : List Mark) → marks_things (insts_marks is rest) ≡ insts_things is (marks_things rest)
insts_same [] rest = refl
insts_same (i ∷ is) rest = ap (λ ts. inst_thing (is_void i.ty) (is_store i.op) i ∷ ts) (insts_same is rest)

pub things_same : (bs : List Block) → marks_things (marks bs) ≡ blocks_things bs
things_same [] = refl
things_same (b ∷ bs) = ap (λ ts. Begins b.name ∷ ts) (insts_same b.insts (marks bs) ∙ ap (insts_things b.insts) (things_same bs))

insts_push : (is : List Inst) (i : Inst) → insts_marks (is ++ i ∷ []) [] ≡ insts_marks is [] ++ Does i ∷ []
insts_push [] i = refl
insts_push (j ∷ is) i = ap (λ ms. Does j ∷ ms) (insts_push is i)

insts_front : (is : List Inst) (rest more : List Mark) → insts_marks is rest ++ more ≡ insts_marks is (rest ++ more)
insts_front [] rest more = refl
insts_front (i ∷ is) rest more = ap (λ ms. Does i ∷ ms) (insts_front is rest more)

marks_push : (bs : List Block) (b : Block) → marks (bs ++ b ∷ []) ≡ marks bs ++ Starts b.name ∷ insts_marks b.insts []
marks_push [] b = refl
marks_push (c ∷ bs) b = ap (λ ms. Starts c.name ∷ ms) (ap (insts_marks c.insts) (marks_push bs b) ∙ sym (insts_front c.insts (marks bs) (Starts b.name ∷ insts_marks b.insts [])))

-- ---- what lines build

abbrev pub so_far : BuiltSoFar → List Mark
so_far b = marks (closed b.blocks b.current)

abbrev pub is_some : Option Block → Bool
is_some None = false
is_some (Some block) = true

-- an instruction after the begin of an unnamed block, where none is open
abbrev pub opening : Bool → List Mark → List Mark
opening true ms = ms
opening false ms = Starts None ∷ ms

pub with_marks : (n : ℕ) (b : BuiltSoFar) (inst : Inst) → so_far (with_inst n b inst) ≡ so_far b ++ opening (is_some b.current) (Does inst ∷ [])
unfolding with_inst
with_marks n b inst = ap marks (same (is_terminator inst.op)) ∙ go b.current where
  same : (t : Bool) → closed (settled t b.blocks (with_last (open_block b.current) inst) (b.lines ++ n ∷ [])).blocks (settled t b.blocks (with_last (open_block b.current) inst) (b.lines ++ n ∷ [])).current
      ≡ b.blocks ++ with_last (open_block b.current) inst ∷ []
  same true = refl
  same false = refl

  go : (current : Option Block) → marks (b.blocks ++ with_last (open_block current) inst ∷ []) ≡ marks (closed b.blocks current) ++ opening (is_some current) (Does inst ∷ [])
  go None = marks_push b.blocks (with_last (open_block None) inst)
  go (Some block) =
      marks_push b.blocks (with_last block inst) ∙ ap (λ ms. marks b.blocks ++ Starts block.name ∷ ms) (insts_push block.insts inst)
      ∙ sym (append_assoc (marks b.blocks) (Starts block.name ∷ insts_marks block.insts []) (Does inst ∷ []))
      ∙ ap (λ ms. ms ++ Does inst ∷ []) (sym (marks_push b.blocks block))

pub with_open : (n : ℕ) (b : BuiltSoFar) (inst : Inst) → is_some (with_inst n b inst).current ≡ not (is_terminator inst.op)
unfolding with_inst
with_open n b inst = go (is_terminator inst.op) where
  go : (t : Bool) → is_some (settled t b.blocks (with_last (open_block b.current) inst) (b.lines ++ n ∷ [])).current ≡ not t
  go true = refl
  go false = refl

pub label_marks : (b : BuiltSoFar) (name : List ℕ) → so_far (labelled b name) ≡ so_far b ++ Starts (written_name name) ∷ []
unfolding labelled
label_marks b name = marks_push (closed b.blocks b.current) (record { name = written_name name; insts = [] })

pub label_open : (b : BuiltSoFar) (name : List ℕ) → is_some (labelled b name).current ≡ true
unfolding labelled
label_open b name = refl

pub label_lines : (b : BuiltSoFar) (name : List ℕ) → (labelled b name).lines ≡ b.lines
unfolding labelled
label_lines b name = refl

-- an operation ends a block where its line does
pub ends_kept : (blocks : List ℕ) (cases : LinkedCases) (op : Op) → is_terminator (op_of blocks cases op) ≡ is_terminator op
ends_kept blocks cases (ops.Phi places) = refl
ends_kept blocks cases (ops.Br to) = refl
ends_kept blocks cases (ops.CondBr first second) = refl
ends_kept blocks cases (ops.Switch other values to) = refl
ends_kept blocks cases _ = refl

-- ---- line by line

module _ (tops : Scope TopMeaning) (locals : Scope LocalMeaning) (base : ℕ) where
  -- what a line builds where a block is open or not and p is the next place, and what follows
  abbrev pub LineBuilt : Bool → ℕ → ℕ → Line → List Numbered → List Mark → (Bool → ℕ → List Mark → Type 0) → Type 0
  LineBuilt open' p n (line.Label name) rest ms next = (more : List Mark) × (ms ≡ Starts (written_name name) ∷ more) × next true p more
  LineBuilt open' p n (line.Stmt s) rest ms next =
      (inst : Inst) × (more : List Mark) × (inst_of tops locals base (base + p) n s rest ≡ Ok inst) × (ms ≡ opening open' (Does inst ∷ more)) × next (not (is_terminator s.op)) (p + 1) more
  LineBuilt open' p n form rest ms next = next open' p ms

  abbrev pub AreBuilt : Bool → ℕ → List Numbered → List Mark → Type 0
  AreBuilt open' p [] ms = ms ≡ []
  AreBuilt open' p (x ∷ xs) ms = LineBuilt open' p x.line x.form xs ms (λ o q more. AreBuilt o q xs more)

  opening_front : (open' : Bool) (inst : Inst) (more : List Mark) → opening open' (Does inst ∷ []) ++ more ≡ opening open' (Does inst ∷ more)
  opening_front true inst more = refl
  opening_front false inst more = refl

  pub record IsBuilt (b after : BuiltSoFar) (open' : Bool) (p : ℕ) (body : List Numbered) : Type 0 where
    pub more : List Mark
    pub whole : so_far after ≡ so_far b ++ more
    pub built : AreBuilt open' p body more

  record IsLineBuilt (b after : BuiltSoFar) (open' : Bool) (p n : ℕ) (form : Line) (xs : List Numbered) : Type 0 where
    more : List Mark
    whole : so_far after ≡ so_far b ++ more
    built : LineBuilt open' p n form xs more (λ o q more. AreBuilt o q xs more)

  -- what follows builds the rest, whatever is open
  Follows : BuiltSoFar → BuiltSoFar → List Numbered → Type 0
  Follows m after xs = (open' : Bool) (p : ℕ) → is_some m.current ≡ open' → length m.lines ≡ base + p → IsBuilt m after open' p xs

  -- a line that builds nothing
  passed : (b m after : BuiltSoFar) (open' : Bool) (p : ℕ) (xs : List Numbered) → is_some b.current ≡ open' → length b.lines ≡ base + p → b ≡ m → Follows m after xs → IsBuilt b after open' p xs
  unfolding Follows
  passed b m after open' p xs o h is next =
      subst (λ x. IsBuilt x after open' p xs) (sym is) (next open' p (ap (λ (x : BuiltSoFar). is_some x.current) (sym is) ∙ o) (ap (λ (x : BuiltSoFar). length x.lines) (sym is) ∙ h))

  line_built : (b m after : BuiltSoFar) (open' : Bool) (p n : ℕ) (form : Line) (xs : List Numbered) → is_some b.current ≡ open' → length b.lines ≡ base + p → built_line tops locals base n b form xs ≡ Ok m → Follows m after xs →
      IsLineBuilt b after open' p n form xs
  unfolding with_statement Follows
  line_built b m after open' p n (line.Label name) xs o h e next =
      let is : labelled b name ≡ m = ok_is e in
      let r : IsBuilt m after true p xs = next true p (ap (λ (x : BuiltSoFar). is_some x.current) (sym is) ∙ label_open b name) (ap (λ (x : BuiltSoFar). length x.lines) (sym is) ∙ ap length (label_lines b name) ∙ h) in
      record {
        more = Starts (written_name name) ∷ r.more;
        whole = r.whole ∙ ap (λ ms. ms ++ r.more) (ap so_far (sym is) ∙ label_marks b name) ∙ append_assoc (so_far b) (Starts (written_name name) ∷ []) r.more;
        built = (r.more, refl, r.built);
      }
  line_built b m after open' p n (line.Stmt s) xs o h e next =
      bind_ok (inst_of tops locals base (length b.lines) n s xs) _ m e (λ inst was same.
      let is : with_inst n b inst ≡ m = ok_is same in
      let parts : IsInst tops locals base (length b.lines) n s xs inst = inst_is tops locals base (length b.lines) n s xs inst was in
      let ends : is_terminator inst.op ≡ is_terminator s.op = ap is_terminator parts.op ∙ ends_kept parts.links.blocks parts.cases s.op in
      let longer : length m.lines ≡ length b.lines + 1 = ap (λ (x : BuiltSoFar). length x.lines) (sym is) ∙ ap length (inst_lines n b inst) ∙ length-append b.lines (n ∷ []) in
      let r : IsBuilt m after (not (is_terminator s.op)) (p + 1) xs =
      next (not (is_terminator s.op)) (p + 1) (ap (λ (x : BuiltSoFar). is_some x.current) (sym is) ∙ with_open n b inst ∙ ap not ends) (omega (arith, longer, h)) in
      record {
        more = opening open' (Does inst ∷ r.more);
        whole =
            r.whole ∙ ap (λ ms. ms ++ r.more) (ap so_far (sym is) ∙ with_marks n b inst ∙ ap (λ t. so_far b ++ opening t (Does inst ∷ [])) o)
            ∙ append_assoc (so_far b) (opening open' (Does inst ∷ [])) r.more ∙ ap (λ ms. so_far b ++ ms) (opening_front open' inst r.more);
        built = (inst, r.more, subst (λ k. inst_of tops locals base k n s xs ≡ Ok inst) h was, refl, r.built);
      })
  line_built b m after open' p n line.Empty xs o h e next = let r : IsBuilt b after open' p xs = passed b m after open' p xs o h (ok_is e) next in record { more = r.more; whole = r.whole; built = r.built }
  line_built b m after open' p n (line.Kept kept) xs o h e next = let r : IsBuilt b after open' p xs = passed b m after open' p xs o h (ok_is e) next in record { more = r.more; whole = r.whole; built = r.built }
  line_built b m after open' p n (line.Define name head) xs o h e next = let r : IsBuilt b after open' p xs = passed b m after open' p xs o h (ok_is e) next in record { more = r.more; whole = r.whole; built = r.built }
  line_built b m after open' p n line.Close xs o h e next = let r : IsBuilt b after open' p xs = passed b m after open' p xs o h (ok_is e) next in record { more = r.more; whole = r.whole; built = r.built }
  line_built b m after open' p n (line.Case value label) xs o h e next = let r : IsBuilt b after open' p xs = passed b m after open' p xs o h (ok_is e) next in record { more = r.more; whole = r.whole; built = r.built }
  line_built b m after open' p n line.CasesEnd xs o h e next = let r : IsBuilt b after open' p xs = passed b m after open' p xs o h (ok_is e) next in record { more = r.more; whole = r.whole; built = r.built }

  pub lines_built : (b after : BuiltSoFar) (open' : Bool) (p : ℕ) (body : List Numbered) → is_some b.current ≡ open' → length b.lines ≡ base + p → built_lines tops locals base b body ≡ Ok after → IsBuilt b after open' p body
  unfolding Follows
  lines_built b after open' p [] o h e = record { more = []; whole = ap so_far (sym (ok_is e)) ∙ sym (append-nil (so_far b)); built = refl }
  lines_built b after open' p (x ∷ xs) o h e =
      bind_ok (built_line tops locals base x.line b x.form xs) _ after e (λ m was now.
      let r : IsLineBuilt b after open' p x.line x.form xs = line_built b m after open' p x.line x.form xs o h was (λ open'' q c g. lines_built m after open'' q xs c g now) in
      record { more = r.more; whole = r.whole; built = r.built })
