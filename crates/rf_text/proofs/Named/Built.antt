-- The blocks of a function, as its printed body builds them: they are the function's.
use Rattle.std.proofs.Common.{◌≡◌, ℕ, ◌+◌, Bool, true, false, not, ◌&&◌, List, [], ◌∷◌, ◌++◌, length, Option, Some, None, Result, Ok, refl, sym, ◌∙◌, ap, arith, append_assoc}
use Rattle.std.proofs.lemmas.List.{append-nil}
use Rattle.std.proofs.lemmas.List.Elements.{All-head, All-tail}
use Rattle.std.specs.List.{All}
use Rattle.ir_types.specs.declared.ty.Ty.{Ty}
use Rattle.ir_types.specs.declared.opd.Opd.{Opd}
use Rattle.ir_types.specs.declared.op.Op.{Op}
use Rattle.ir_types.specs.declared.op.Op.TheVariants.{Switch}
use Rattle.ir_types.specs.declared.inst.Inst.{Inst}
use Rattle.ir_types.specs.declared.func.Block.{Block}
use Rattle.ir_types.specs.Formed.{is_terminator, ends_from, EndsOnce}
use Rattle.ir_lex.proofs.Classes.{both}
use Rattle.ir_draft.specs.declared.line.Line.{Line}
use Rattle.ir_draft.specs.declared.line.Line.TheVariants as line
use Rattle.ir_draft.specs.declared.draft.Numbered.{Numbered}
use Rattle.ir_print.specs.declared.names.Local.{Local}
use Rattle.ir_print.specs.Names.{Names, local_of, shown, counted, is_store, is_void}
use Rattle.ir_read.specs.Bodies.{numbered_from}
use Rattle.ir_types_check.specs.declared.refusal.ResolveRefusal.{ResolveRefusal}
use Rattle.ir_types_check.specs.Answers.{◌>>=◌}
use Rattle.ir_types_check.specs.Scope.{Scope}
use Rattle.ir_types_check.specs.Outline.{written_name, written as written_again}
use Rattle.ir_types_check.specs.Blocks.{open_block, with_last, with_inst, labelled, with_statement, built_lines}
use Rattle.ir_types_check.proofs.Handed.{LocalMeaning, TopMeaning, BuiltSoFar}
use Rattle.rf_text.proofs.PlainItems.{gives}
use Rattle.rf_text.specs.Written.{result_of, shown_text, stmt_of, first_ty, more_forms, cases_of, forms_of}
use Rattle.rf_text.specs.ModuleForms.{label_forms, insts_forms, more_blocks_forms, blocks_forms}
use Rattle.rf_text.proofs.Named.Things.{Thing, inst_thing, insts_things, blocks_things}
use Rattle.rf_text.proofs.Named.Places.{Known, id_at, ids_things, push_length}
use Rattle.rf_text.proofs.Named.Links.{IsFoundInst, inst_again}

abbrev pub built_with : List Block → Option Block → List ℕ → BuiltSoFar
built_with blocks current lines = record { blocks = blocks; current = current; lines = lines }

module _ (tops : Scope TopMeaning) (scope : Scope LocalMeaning) (base : ℕ) (ns : Names) (gs : List (List ℕ)) where
  abbrev built_from : BuiltSoFar → List Numbered → Result BuiltSoFar ResolveRefusal
  built_from b xs = built_lines tops scope base b xs

  -- ---- lines that build nothing

  cases_passed : (b : BuiltSoFar) (ty : Ty) (cases : List (Option ℕ)) (to : List ℕ) (rest : List Line) (n : ℕ) → (k : ℕ) × (built_from b (numbered_from n (cases_of ns ty cases to ++ rest)) ≡ built_from b (numbered_from k rest))
  cases_passed b ty [] to rest n = (n, refl)
  cases_passed b ty (c ∷ cs) [] rest n = (n, refl)
  cases_passed b ty (c ∷ cs) (t ∷ to) rest n = cases_passed b ty cs to rest (n + 1)

  more_passed : (b : BuiltSoFar) (os : List Opd) (op : Op) (rest : List Line) (n : ℕ) → (k : ℕ) × (built_from b (numbered_from n (more_forms ns os op ++ rest)) ≡ built_from b (numbered_from k rest))
  more_passed b os (Switch other cases to) rest n =
      let first : (k : ℕ) × (built_from b (numbered_from n (cases_of ns (first_ty ns os) cases to ++ (line.CasesEnd ∷ rest))) ≡ built_from b (numbered_from k (line.CasesEnd ∷ rest))) =
      cases_passed b (first_ty ns os) cases to (line.CasesEnd ∷ rest) n in
      (first.0 + 1, ap (λ (fs : List Line). built_from b (numbered_from n fs)) (append_assoc (cases_of ns (first_ty ns os) cases to) (line.CasesEnd ∷ []) rest) ∙ first.1)
  more_passed b os op rest n = (n, refl)

  -- ---- instructions

  -- an instruction whose names are found, and that has no name if it gives no value
  pub record IsReadInst (i : Inst) : Type 0 where
    pub found : IsFoundInst tops scope base ns gs i
    pub silent : gives i ≡ false → i.name ≡ None

  pub record IsReadBlock (b : Block) : Type 0 where
    pub ends : EndsOnce b.insts
    pub insts : All IsReadInst b.insts

  -- after an instruction, its name as it was
  pub record Stepped (n p b : ℕ) (v w : Bool) (i : Inst) (rest : List Thing) : Type 0 where
    pub next : ℕ
    pub name : written_again (result_of v w (shown_text (local_of i.id ns.locals))) ≡ i.name
    pub id : i.id ≡ id_at base p
    pub count : length (ids_things (inst_thing v w i ∷ rest)) ≡ length (ids_things rest) + 1
    pub known : Known base scope ns next (p + 1) b rest

  pub stepped : (n p b : ℕ) (v w : Bool) (i : Inst) (rest : List Thing) → (not v && not w ≡ false → i.name ≡ None) → Known base scope ns n p b (inst_thing v w i ∷ rest) → Stepped n p b v w i rest
  stepped n p b false false i rest silent known = record {
    next = counted n i.name;
    name = ap (λ (l : Option Local). written_again (Some (shown_text l))) known.0.shows ∙ known.0.once_more.name_again;
    id = known.0.placed;
    count = omega arith;
    known = known.1;
  }
  stepped n p b false true i rest silent known = record { next = n; name = sym (silent refl); id = known.0; count = omega arith; known = known.1 }
  stepped n p b true w i rest silent known = record { next = n; name = sym (silent refl); id = known.0; count = omega arith; known = known.1 }

  statement_built : (ln k : ℕ) (b : BuiltSoFar) (i : Inst) (rest : List Line) → i.id ≡ record { region = 0; k = length b.lines } → written_again (stmt_of ns gs i).result ≡ i.name → IsFoundInst tops scope base ns gs i →
      with_statement tops scope base ln b (stmt_of ns gs i) (numbered_from k (more_forms ns i.opds i.op ++ rest)) ≡ Ok (with_inst ln b i)
  unfolding with_statement
  statement_built ln k b i rest id name found = rw (inst_again tops scope base ns gs i (length b.lines) ln k rest id name found) refl

  -- the lines after an instruction go on from it
  record After (b : BuiltSoFar) (total bs : ℕ) (i : Inst) (ln : ℕ) (rest : List Thing) (more : List Line) (said : Result BuiltSoFar ResolveRefusal) : Type 0 where
    next : ℕ
    place : ℕ
    number : ℕ
    said_is : said ≡ built_from (with_inst ln b i) (numbered_from number more)
    counted : length (b.lines ++ ln ∷ []) ≡ base + place
    count : place + length (ids_things rest) ≡ total
    known : Known base scope ns next place bs rest

  inst_built : (i : Inst) (fs more : List Line) (ln n p bs total : ℕ) (b : BuiltSoFar) (rest : List Thing) → length b.lines ≡ base + p → p + length (ids_things (insts_things (i ∷ []) rest)) ≡ total → Known base scope ns n p bs (insts_things (i ∷ []) rest) → IsReadInst i →
      After b total bs i ln rest (fs ++ more) (built_from b (numbered_from ln ((forms_of ns gs i ++ fs) ++ more)))
  inst_built i fs more ln n p bs total b rest many count known is =
      let step : Stepped n p bs (is_void i.ty) (is_store i.op) i rest = stepped n p bs (is_void i.ty) (is_store i.op) i rest is.silent known in
      let id : i.id ≡ record { region = 0; k = length b.lines } = step.id ∙ ap (λ (k : ℕ). record { region = 0; k = k }) (sym many) in
      let passed : (k : ℕ) × (built_from (with_inst ln b i) (numbered_from (ln + 1) (more_forms ns i.opds i.op ++ (fs ++ more))) ≡ built_from (with_inst ln b i) (numbered_from k (fs ++ more))) =
      more_passed (with_inst ln b i) i.opds i.op (fs ++ more) (ln + 1) in
      record {
        next = step.next;
        place = p + 1;
        number = passed.0;
        said_is =
            ap (λ (ls : List Line). built_from b (numbered_from ln (line.Stmt (stmt_of ns gs i) ∷ ls))) (append_assoc (more_forms ns i.opds i.op) fs more)
            ∙ ap (λ (r : Result BuiltSoFar ResolveRefusal). r >>= λ after. built_from after (numbered_from (ln + 1) (more_forms ns i.opds i.op ++ (fs ++ more)))) (statement_built ln (ln + 1) b i (fs ++ more) id step.name is.found)
            ∙ passed.1;
        counted = let more : length (b.lines ++ ln ∷ []) ≡ length b.lines + 1 = push_length b.lines ln (length b.lines) refl in omega (arith, more, many);
        count = omega (arith, count, step.count);
        known = step.known;
      }

  closing : (ln : ℕ) (b : BuiltSoFar) (i : Inst) → is_terminator i.op ≡ true → with_inst ln b i ≡ built_with (b.blocks ++ with_last (open_block b.current) i ∷ []) None (b.lines ++ ln ∷ [])
  unfolding with_inst
  closing ln b i ends = rw ends refl

  leaving : (ln : ℕ) (b : BuiltSoFar) (i : Inst) → is_terminator i.op ≡ false → with_inst ln b i ≡ built_with b.blocks (Some (with_last (open_block b.current) i)) (b.lines ++ ln ∷ [])
  unfolding with_inst
  leaving ln b i goes = rw goes refl

  -- what was said is what the lines after say
  record Passed (total bs : ℕ) (rest : List Thing) (blocks : List Block) (more : List Line) (said : Result BuiltSoFar ResolveRefusal) : Type 0 where
    next : ℕ
    place : ℕ
    number : ℕ
    lines : List ℕ
    said_is : said ≡ built_from (built_with blocks None lines) (numbered_from number more)
    counted : length lines ≡ base + place
    count : place + length (ids_things rest) ≡ total
    known : Known base scope ns next place bs rest

  -- the open block with more instructions
  abbrev block_with : Option Block → List Inst → Block
  block_with current insts = record { name = (open_block current).name; insts = (open_block current).insts ++ insts }

  not_true : (t : Bool) → not t ≡ true → t ≡ false
  not_true true e = cc
  not_true false e = refl

  insts_built : (i : Inst) (is : List Inst) (more : List Line) (ln n p bs total : ℕ) (b : BuiltSoFar) (rest : List Thing) → ends_from i is ≡ true → length b.lines ≡ base + p → p + length (ids_things (insts_things (i ∷ is) rest)) ≡ total →
      Known base scope ns n p bs (insts_things (i ∷ is) rest) → All IsReadInst (i ∷ is) → Passed total bs rest (b.blocks ++ block_with b.current (i ∷ is) ∷ []) more (built_from b (numbered_from ln (insts_forms ns gs (i ∷ is) ++ more)))
  insts_built i [] more ln n p bs total b rest ends many count known all =
      let first : After b total bs i ln rest more (built_from b (numbered_from ln ((forms_of ns gs i ++ []) ++ more))) = inst_built i [] more ln n p bs total b rest many count known (All-head IsReadInst i [] all) in
      record {
        next = first.next;
        place = first.place;
        number = first.number;
        lines = b.lines ++ ln ∷ [];
        said_is = first.said_is ∙ ap (λ (x : BuiltSoFar). built_from x (numbered_from first.number more)) (closing ln b i ends);
        counted = first.counted;
        count = first.count;
        known = first.known;
      }
  insts_built i (j ∷ is) more ln n p bs total b rest ends many count known all =
      let parts : (not (is_terminator i.op) ≡ true) × (ends_from j is ≡ true) = both (not (is_terminator i.op)) (ends_from j is) ends in
      let first : After b total bs i ln (insts_things (j ∷ is) rest) (insts_forms ns gs (j ∷ is) ++ more) (built_from b (numbered_from ln ((forms_of ns gs i ++ insts_forms ns gs (j ∷ is)) ++ more))) =
      inst_built i (insts_forms ns gs (j ∷ is)) more ln n p bs total b (insts_things (j ∷ is) rest) many count known (All-head IsReadInst i (j ∷ is) all) in
      let c : BuiltSoFar = built_with b.blocks (Some (with_last (open_block b.current) i)) (b.lines ++ ln ∷ []) in
      let next : Passed total bs rest (b.blocks ++ block_with (Some (with_last (open_block b.current) i)) (j ∷ is) ∷ []) more (built_from c (numbered_from first.number (insts_forms ns gs (j ∷ is) ++ more))) =
      insts_built j is more first.number first.next first.place bs total (built_with b.blocks (Some (with_last (open_block b.current) i)) (b.lines ++ ln ∷ [])) rest parts.1 first.counted first.count first.known (All-tail IsReadInst i (j ∷ is) all) in
      record {
        next = next.next;
        place = next.place;
        number = next.number;
        lines = next.lines;
        said_is =
            first.said_is ∙ ap (λ (x : BuiltSoFar). built_from x (numbered_from first.number (insts_forms ns gs (j ∷ is) ++ more))) (leaving ln b i (not_true (is_terminator i.op) parts.0)) ∙ next.said_is
            ∙ ap (λ (xs : List Inst). built_from (built_with (b.blocks ++ record { name = (open_block b.current).name; insts = xs } ∷ []) None next.lines) (numbered_from next.number more)) (append_assoc (open_block b.current).insts (i ∷ []) (j ∷ is));
        counted = next.counted;
        count = next.count;
        known = next.known;
      }

  -- ---- blocks

  block_built : (block : Block) (current : Option Block) (more : List Line) (ln n p bs total : ℕ) (blocks : List Block) (lines : List ℕ) (rest : List Thing) → open_block current ≡ record { name = block.name; insts = [] } → IsReadBlock block → length lines ≡ base + p →
      p + length (ids_things (insts_things block.insts rest)) ≡ total → Known base scope ns n p bs (insts_things block.insts rest) →
      Passed total bs rest (blocks ++ block ∷ []) more (built_from (built_with blocks current lines) (numbered_from ln (insts_forms ns gs block.insts ++ more)))
  block_built block current more ln n p bs total blocks lines rest opens is many count known = go block.insts refl is.ends count known is.insts where
    go : (insts : List Inst) → insts ≡ block.insts → EndsOnce insts → p + length (ids_things (insts_things insts rest)) ≡ total → Known base scope ns n p bs (insts_things insts rest) → All IsReadInst insts →
        Passed total bs rest (blocks ++ block ∷ []) more (built_from (built_with blocks current lines) (numbered_from ln (insts_forms ns gs insts ++ more)))
    go [] same ends count known all = absurd ends
    go (i ∷ js) same ends count known all =
        let named : block_with current (i ∷ js) ≡ record { name = block.name; insts = i ∷ js } = ap (λ (o : Block). record { name = o.name; insts = o.insts ++ i ∷ js }) opens in
        let whole : block_with current (i ∷ js) ≡ block = named ∙ ap (λ (xs : List Inst). record { name = block.name; insts = xs }) same in
        let first : Passed total bs rest (blocks ++ block_with current (i ∷ js) ∷ []) more (built_from (built_with blocks current lines) (numbered_from ln (insts_forms ns gs (i ∷ js) ++ more))) =
        insts_built i js more ln n p bs total (built_with blocks current lines) rest ends many count known all in
        record {
          next = first.next;
          place = first.place;
          number = first.number;
          lines = first.lines;
          said_is = first.said_is ∙ ap (λ (x : Block). built_from (built_with (blocks ++ x ∷ []) None first.lines) (numbered_from first.number more)) whole;
          counted = first.counted;
          count = first.count;
          known = first.known;
        }

  label_built : (blocks : List Block) (lines : List ℕ) (name : List ℕ) → labelled (built_with blocks None lines) name ≡ built_with blocks (Some (record { name = written_name name; insts = [] })) lines
  unfolding labelled
  label_built blocks lines name = refl

  -- a block after its label
  labelled_built : (block : Block) (more : List Line) (ln n p bs total : ℕ) (blocks : List Block) (lines : List ℕ) (rest : List Thing) (name : List ℕ) → written_name name ≡ block.name → IsReadBlock block → length lines ≡ base + p →
      p + length (ids_things (insts_things block.insts rest)) ≡ total → Known base scope ns n p bs (insts_things block.insts rest) →
      Passed total bs rest (blocks ++ block ∷ []) more (built_from (built_with blocks None lines) (numbered_from ln (line.Label name ∷ (insts_forms ns gs block.insts ++ more))))
  labelled_built block more ln n p bs total blocks lines rest name is read many count known =
      rw (label_built blocks lines name)
      (block_built block (Some (record { name = written_name name; insts = [] })) more (ln + 1) n p bs total blocks lines rest (ap (λ (x : Option (List ℕ)). record { name = x; insts = [] }) is) read many count known)

  -- the body is built of these blocks, and so many lines have ids
  pub record Built (total : ℕ) (blocks : List Block) (said : Result BuiltSoFar ResolveRefusal) : Type 0 where
    pub lines : List ℕ
    pub said_is : said ≡ Ok (built_with blocks None lines)
    pub counted : length lines ≡ base + total

  -- blocks after the first
  blocks_built : (bs : List Block) (ln n p b total : ℕ) (blocks : List Block) (lines : List ℕ) → length lines ≡ base + p → p + length (ids_things (blocks_things bs)) ≡ total → Known base scope ns n p b (blocks_things bs) → All IsReadBlock bs →
      Built total (blocks ++ bs) (built_from (built_with blocks None lines) (numbered_from ln (more_blocks_forms ns gs b bs)))
  blocks_built [] ln n p b total blocks lines many count known all = record { lines = lines; said_is = ap (λ (x : List Block). Ok (built_with x None lines)) (sym (append-nil blocks)); counted = omega (arith, many, count) }
  blocks_built (block ∷ bs) ln n p b total blocks lines many count known all =
      let more : List Line = more_blocks_forms ns gs (b + 1) bs in
      let first : Passed total (b + 1) (blocks_things bs) (blocks ++ block ∷ []) more (built_from (built_with blocks None lines) (numbered_from (ln + 1) (line.Label (shown n block.name) ∷ (insts_forms ns gs block.insts ++ more)))) =
      labelled_built block (more_blocks_forms ns gs (b + 1) bs) (ln + 1) (counted n block.name) p (b + 1) total blocks lines (blocks_things bs) (shown n block.name) known.0.once_more.name_again (All-head IsReadBlock block bs all) many count known.1 in
      let next : Built total ((blocks ++ block ∷ []) ++ bs) (built_from (built_with (blocks ++ block ∷ []) None first.lines) (numbered_from first.number more)) =
      blocks_built bs first.number first.next first.place (b + 1) total (blocks ++ block ∷ []) first.lines first.counted first.count first.known (All-tail IsReadBlock block bs all) in
      record {
        lines = next.lines;
        said_is =
            ap (λ (name : Option (List ℕ)). built_from (built_with blocks None lines) (numbered_from (ln + 1) (label_forms name ++ (insts_forms ns gs block.insts ++ more_blocks_forms ns gs (b + 1) bs)))) known.0.shows
            ∙ first.said_is ∙ next.said_is ∙ ap (λ (x : List Block). Ok (built_with x None next.lines)) (append_assoc blocks (block ∷ []) bs);
        counted = next.counted;
      }

  -- all blocks
  pub body_built : (bs : List Block) (ln n p total : ℕ) (lines : List ℕ) → length lines ≡ base + p → p + length (ids_things (blocks_things bs)) ≡ total → Known base scope ns n p 0 (blocks_things bs) → All IsReadBlock bs →
      Built total bs (built_from (built_with [] None lines) (numbered_from ln (blocks_forms ns gs bs)))
  body_built [] ln n p total lines many count known all = record { lines = lines; said_is = refl; counted = omega (arith, many, count) }
  body_built (block ∷ bs) ln n p total lines many count known all =
      let first : Passed total 1 (blocks_things bs) (block ∷ []) (more_blocks_forms ns gs 1 bs) (built_from (built_with [] None lines) (numbered_from ln (label_forms block.name ++ (insts_forms ns gs block.insts ++ more_blocks_forms ns gs 1 bs)))) =
      go block.name refl known.0.once_more.name_again in
      let next : Built total (block ∷ bs) (built_from (built_with (block ∷ []) None first.lines) (numbered_from first.number (more_blocks_forms ns gs 1 bs))) =
      blocks_built bs first.number first.next first.place 1 total (block ∷ []) first.lines first.counted first.count first.known (All-tail IsReadBlock block bs all) in
      record { lines = next.lines; said_is = first.said_is ∙ next.said_is; counted = next.counted } where
        go : (name : Option (List ℕ)) → block.name ≡ name → written_name (shown n name) ≡ name →
            Passed total 1 (blocks_things bs) (block ∷ []) (more_blocks_forms ns gs 1 bs) (built_from (built_with [] None lines) (numbered_from ln (label_forms name ++ (insts_forms ns gs block.insts ++ more_blocks_forms ns gs 1 bs))))
        go None e again =
            block_built block None (more_blocks_forms ns gs 1 bs) ln (counted n block.name) p 1 total [] lines (blocks_things bs) (ap (λ (x : Option (List ℕ)). record { name = x; insts = [] }) (sym e)) (All-head IsReadBlock block bs all) many count known.1
        go (Some name) e again =
            labelled_built block (more_blocks_forms ns gs 1 bs) ln (counted n block.name) p 1 total [] lines (blocks_things bs) name (again ∙ sym e) (All-head IsReadBlock block bs all) many count known.1
