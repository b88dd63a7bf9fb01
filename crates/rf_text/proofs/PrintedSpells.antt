-- The text of a formed and printable module spells it: its lines are those of its items.
use Rattle.std.proofs.Common.{◌≡◌, ℕ, ◌+◌, ◌^◌, ◌<◌, Bool, true, false, List, [], ◌∷◌, ◌++◌, length, map, Option, Some, None, refl, sym, ◌∙◌, ap, subst, append_assoc, slice_get, unwrap_or}
use Rattle.std.proofs.lemmas.List.{append-nil, map-append}
use Rattle.std.specs.List.{All, AllZip, list_all}
use Rattle.std.proofs.lemmas.List.Elements.{All-nil, All-cons, All-head, All-tail, All-weaker}
use Rattle.ir_lex.specs.Scan.{cut, fault_of}
use Rattle.ir_lex.specs.Tokens.{is_name}
use Rattle.ir_lex.proofs.Classes.{both}
use Rattle.ir_types.specs.declared.ty.Ty.{Ty}
use Rattle.ir_types.specs.declared.opd.Opd.{Opd}
use Rattle.ir_types.specs.declared.op.Op.{Op}
use Rattle.ir_types.specs.declared.op.Op.TheVariants.{Switch}
use Rattle.ir_types.specs.declared.inst.Inst.{Inst}
use Rattle.ir_types.specs.declared.func.Param.{Param}
use Rattle.ir_types.specs.declared.func.Block.{Block}
use Rattle.ir_types.specs.declared.func.Func.{Func}
use Rattle.ir_types.specs.declared.module.Item.{Item}
use Rattle.ir_types.specs.declared.module.Item.TheVariants.{Kept, Opaque, Func as FuncItem}
use Rattle.ir_types.specs.declared.module.Module.{Module}
use Rattle.ir_types.specs.Formed.{IsFormed, IsFormedItem, item_ids, ids_of_items}
use Rattle.ir_draft.specs.declared.line.Line.{Line}
use Rattle.ir_draft.specs.declared.line.Line.TheVariants as line
use Rattle.ir_line.specs.Body.{Spells as SpellsInside}
use Rattle.ir_line.specs.Outside.{Spells as SpellsOutside}
use Rattle.ir_line.proofs.BodyLines.{body_spelled}
use Rattle.ir_line.proofs.OutsideLines.{outside_spelled}
use Rattle.ir_print.specs.declared.names.Local.{Local}
use Rattle.ir_print.specs.Names.{Names, Named, Label, names_of, named_of, result_named, insts_named, blocks_named, params_named, is_void, is_store, local_of, shown, counted}
use Rattle.ir_print.specs.Text.{item_text, is_function, gap_text, more_items, items_text, text_of}
use Rattle.ir_read.specs.Forms.{form_in, form_by, inside_after, forms_from}
use Rattle.ir_read.specs.Lines.{lines_of}
use Rattle.ir_read.specs.Opaque.{is_opaque, joined}
use Rattle.ir_read.specs.Outlook.{outlook_of}
use Rattle.rf_text.specs.Headed.{is_shown, shown_name, shown_params, shown_head, first_name}
use Rattle.rf_text.specs.Written.{stmt_of, shown_text, shown_block, cases_of, more_forms, forms_of as inst_forms}
use Rattle.rf_text.specs.ModuleForms.{label_forms, insts_forms, more_blocks_forms, blocks_forms, body_forms, func_forms, gap_forms, item_forms, more_items_forms, items_forms, module_forms, kept_at}
use Rattle.rf_text.specs.OpaqueText.{opaque_forms, opaque_in, IsOpaqueText}
use Rattle.rf_text.specs.Printable.{IsKeptOpaque, IsPrintable, IsNumbered, IsCountedItem, IsCounted}
use Rattle.rf_text.proofs.PlainItems.{IsPlainFunc, IsPlainItem, plain_items}
use Rattle.rf_text.specs.Spelled.{closes, AreInside, NoLine, OneLine, IsBrace, solid, MayWrite, AsShown, LeftOut, IsWrittenParam, IsHeaderOf, AreBlocks, NoBlock, Labelled, Unlabelled, Laid, NoItem, EmptyLine, KeptItem, Function, OpaqueItem, Spelled}
use Rattle.rf_text.proofs.Kept.Lines.{formed}
use Rattle.rf_text.proofs.OpaqueLines.{IsSound, Whole, whole_sound, IsBodyLine, function_forms, Parts, parts_of}
use Rattle.rf_text.proofs.Placed.Blocks.{all_ahead}
use Rattle.rf_text.proofs.Placed.Module.{apart_front, apart_after}
use Rattle.rf_text.proofs.Placed.Names.{Ahead, Apart, pairs_apart, value_passed, label_found, label_passed}
use Rattle.rf_text.proofs.Spelling.Reads.{inside_form}
use Rattle.rf_text.proofs.Splitting.{lines_of_joined}
use Rattle.rf_text.proofs.TextLines.Lines.{Said, said_none, said_append, empty_said, gap_said, empty_read, opaque_said, item_said, all_lines}
use Rattle.rf_text.proofs.TextLines.Bodies.{keeps_inside, Keep, body_keep}
use Rattle.rf_text.proofs.TextLines.Names.{func_headed}
use Rattle.rf_text.proofs.TextLines.Once.{Once, once_ids, once_front, once_back}

-- ---- lines of instructions are not empty

cases_solid : (ns : Names) (ty : Ty) (ms : List (Option ℕ)) (bs : List ℕ) (fs : List Line) → solid (cases_of ns ty ms bs ++ fs) ≡ cases_of ns ty ms bs ++ solid fs
cases_solid ns ty [] bs fs = refl
cases_solid ns ty (m ∷ ms) [] fs = refl
cases_solid ns ty (m ∷ ms) (b ∷ bs) fs = ap (λ gs. line.Case (record { ty = ty; lanes = m ∷ [] }) (shown_block ns b) ∷ gs) (cases_solid ns ty ms bs fs)

more_solid : (ns : Names) (os : List Opd) (op : Op) (fs : List Line) → solid (more_forms ns os op ++ fs) ≡ more_forms ns os op ++ solid fs
more_solid ns os (Switch other cases to) fs =
    ap solid (append_assoc (cases_of ns _ cases to) (line.CasesEnd ∷ []) fs) ∙ cases_solid ns _ cases to (line.CasesEnd ∷ fs) ∙ sym (append_assoc (cases_of ns _ cases to) (line.CasesEnd ∷ []) (solid fs))
more_solid ns os op fs = refl

insts_solid : (ns : Names) (gs : List (List ℕ)) (is : List Inst) (fs : List Line) → solid (insts_forms ns gs is ++ fs) ≡ insts_forms ns gs is ++ solid fs
insts_solid ns gs [] fs = refl
insts_solid ns gs (i ∷ is) fs =
    ap solid (append_assoc (inst_forms ns gs i) (insts_forms ns gs is) fs)
    ∙ ap (λ hs. line.Stmt (stmt_of ns gs i) ∷ hs) (more_solid ns i.opds i.op (insts_forms ns gs is ++ fs) ∙ ap (λ hs. more_forms ns i.opds i.op ++ hs) (insts_solid ns gs is fs))
    ∙ sym (append_assoc (inst_forms ns gs i) (insts_forms ns gs is) (solid fs))

-- ---- functions

-- what is named of the instructions of a block is passed
result_passed : (ns : Names) (at n : ℕ) (void store : Bool) (i : Inst) (vs : List Named) → Ahead ns at n (result_named void store i vs) → (k : ℕ) × Ahead ns at k vs
result_passed ns at n false false i vs a = (counted n i.name, value_passed ns at n i.id i.ty i.name vs a)
result_passed ns at n false true i vs a = (n, a)
result_passed ns at n true store i vs a = (n, a)

insts_passed : (ns : Names) (at n : ℕ) (is : List Inst) (vs : List Named) → Ahead ns at n (insts_named is vs) → (k : ℕ) × Ahead ns at k vs
insts_passed ns at n [] vs a = (n, a)
insts_passed ns at n (i ∷ is) vs a =
    let here : (k : ℕ) × Ahead ns at k (insts_named is vs) = result_passed ns at n (is_void i.ty) (is_store i.op) i (insts_named is vs) a in
    insts_passed ns at here.0 is vs here.1

params_passed : (ns : Names) (at n : ℕ) (ps : List Param) (vs : List Named) → Ahead ns at n (params_named ps vs) → (k : ℕ) × Ahead ns at k vs
params_passed ns at n [] vs a = (n, a)
params_passed ns at n (p ∷ ps) vs a = params_passed ns at (counted n p.name) ps vs (value_passed ns at n p.id p.ty p.name (params_named ps vs) a)

module _ (ns : Names) (gs : List (List ℕ)) where
  more_are : (at n : ℕ) (bs : List Block) → Ahead ns at n (blocks_named bs) → AreBlocks ns gs at bs (solid (more_blocks_forms ns gs at bs))
  more_are at n [] a = NoBlock at
  more_are at n (b ∷ bs) a =
      let found : slice_get ns.labels at ≡ Some (shown n b.name) = label_found ns at n b.name (insts_named b.insts (blocks_named bs)) a in
      let next : (k : ℕ) × Ahead ns (at + 1) k (blocks_named bs) = insts_passed ns (at + 1) (counted n b.name) b.insts (blocks_named bs) (label_passed ns at n b.name (insts_named b.insts (blocks_named bs)) a) in
      let named : solid (label_forms (slice_get ns.labels at) ++ (insts_forms ns gs b.insts ++ more_blocks_forms ns gs (at + 1) bs)) ≡ line.Label (shown_block ns at) ∷ solid (insts_forms ns gs b.insts ++ more_blocks_forms ns gs (at + 1) bs) =
      ap (λ (o : Option (List ℕ)). solid (label_forms o ++ (insts_forms ns gs b.insts ++ more_blocks_forms ns gs (at + 1) bs))) found
      ∙ ap (λ (t : List ℕ). line.Label t ∷ solid (insts_forms ns gs b.insts ++ more_blocks_forms ns gs (at + 1) bs)) (sym (ap (λ (o : Option (List ℕ)). unwrap_or o []) found)) in
      subst (AreBlocks ns gs at (b ∷ bs)) (sym (named ∙ ap (λ hs. line.Label (shown_block ns at) ∷ hs) (insts_solid ns gs b.insts (more_blocks_forms ns gs (at + 1) bs))))
      (Labelled at b bs (solid (more_blocks_forms ns gs (at + 1) bs)) (more_are (at + 1) next.0 bs next.1))

  first_are : (n : ℕ) (b : Block) (bs : List Block) (name : Option (List ℕ)) → b.name ≡ name → Ahead ns 0 n (blocks_named (b ∷ bs)) → AreBlocks ns gs 0 (b ∷ bs) (solid (label_forms name ++ (insts_forms ns gs b.insts ++ more_blocks_forms ns gs 1 bs)))
  first_are n b bs None e a =
      let next : (k : ℕ) × Ahead ns 1 k (blocks_named bs) = insts_passed ns 1 (counted n b.name) b.insts (blocks_named bs) (label_passed ns 0 n b.name (insts_named b.insts (blocks_named bs)) a) in
      subst (AreBlocks ns gs 0 (b ∷ bs)) (sym (insts_solid ns gs b.insts (more_blocks_forms ns gs 1 bs))) (Unlabelled 0 b bs (solid (more_blocks_forms ns gs 1 bs)) e (more_are 1 next.0 bs next.1))
  first_are n b bs (Some name) e a =
      let next : (k : ℕ) × Ahead ns 1 k (blocks_named bs) = insts_passed ns 1 (counted n b.name) b.insts (blocks_named bs) (label_passed ns 0 n b.name (insts_named b.insts (blocks_named bs)) a) in
      let found : slice_get ns.labels 0 ≡ Some name = label_found ns 0 n b.name (insts_named b.insts (blocks_named bs)) a ∙ ap (λ (o : Option (List ℕ)). Some (shown n o)) e in
      let same : shown_block ns 0 ≡ name = ap (λ (o : Option (List ℕ)). unwrap_or o []) found in
      subst (AreBlocks ns gs 0 (b ∷ bs)) (ap (λ (t : List ℕ). line.Label t ∷ (insts_forms ns gs b.insts ++ solid (more_blocks_forms ns gs 1 bs))) same ∙ ap (λ hs. line.Label name ∷ hs) (sym (insts_solid ns gs b.insts (more_blocks_forms ns gs 1 bs))))
      (Labelled 0 b bs (solid (more_blocks_forms ns gs 1 bs)) (more_are 1 next.0 bs next.1))

  blocks_are : (n : ℕ) (bs : List Block) → Ahead ns 0 n (blocks_named bs) → AreBlocks ns gs 0 bs (solid (blocks_forms ns gs bs))
  blocks_are n [] a = NoBlock 0
  blocks_are n (b ∷ bs) a = first_are n b bs b.name refl a

may_write : (name : Option (List ℕ)) (o : Option Local) → is_shown o ≡ true → MayWrite name (shown_text o) (shown_name o)
may_write name None e = cc
may_write name (Some l) e = AsShown name l.text

params_written : (ns : Names) (at : ℕ) (ps : List Param) → All (λ p. is_shown (local_of p.id ns.locals) ≡ true) ps → AllZip (IsWrittenParam ns) ps (shown_params ns at ps)
params_written ns at [] all = tt
params_written ns at (p ∷ ps) all = (
  record { name = may_write p.name (local_of p.id ns.locals) (All-head (λ p. is_shown (local_of p.id ns.locals) ≡ true) p ps all); ty = refl; attrs = refl; noalias = refl },
  params_written ns (at + 1) ps (All-tail (λ p. is_shown (local_of p.id ns.locals) ≡ true) p ps all),
)

header_is : (f : Func) → All (λ p. is_shown (local_of p.id (names_of f).locals) ≡ true) f.params → IsHeaderOf f (shown_head (names_of f) f)
header_is f all = record { before = refl; ret = refl; name = refl; params = params_written (names_of f) 0 f.params all; after = refl }

body_are : (gs : List (List ℕ)) (f : Func) → Apart (item_ids (FuncItem f)) → length (named_of f) < 2 ^ 64 → AreBlocks (names_of f) gs 0 f.blocks (solid (body_forms gs f))
body_are gs f apart small =
    let next : (k : ℕ) × Ahead (names_of f) 0 k (blocks_named f.blocks) = params_passed (names_of f) 0 0 f.params (blocks_named f.blocks) (all_ahead f apart small) in
    blocks_are (names_of f) gs next.0 f.blocks next.1

-- ---- lines

outside_line : (l : List ℕ) (form : Line) → form_in false l ≡ Some form → SpellsOutside l (cut l) form
unfolding form_by
outside_line l form e = outside_spelled l (cut l) form (formed false l form e).read

inside_line : (l : List ℕ) (form : Line) → form_in true l ≡ Some form → SpellsInside l (cut l) form
unfolding form_by
inside_line l form e = body_spelled l (cut l) form (formed true l form e).read

first_form : {a b : Option Line} {as' bs : List (Option Line)} → a ∷ as' ≡ b ∷ bs → a ≡ b
first_form e = cc

more_forms' : {a b : Option Line} {as' bs : List (Option Line)} → a ∷ as' ≡ b ∷ bs → as' ≡ bs
more_forms' e = cc

no_form : {P : Type 0} {b : Option Line} {bs : List (Option Line)} → [] ≡ b ∷ bs → P
no_form e = cc

-- lines of a function after its header that have these forms
record Split (ls : List (List ℕ)) (fs : List Line) : Type 0 where
  body : List (List ℕ)
  brace : List ℕ
  whole : ls ≡ body ++ brace ∷ []
  inside : AreInside body fs
  last : IsBrace brace

kept_open : (f : Line) → keeps_inside f ≡ true → (closes f ≡ false) × (inside_after true (Some f) ≡ true)
kept_open (line.Define name head) h = cc
kept_open line.Close h = cc
kept_open line.Empty h = (refl, refl)
kept_open (line.Kept kept) h = (refl, refl)
kept_open (line.Label name) h = (refl, refl)
kept_open (line.Stmt s) h = (refl, refl)
kept_open (line.Case value label) h = (refl, refl)
kept_open line.CasesEnd h = (refl, refl)

split : (fs : List Line) (ls : List (List ℕ)) → Keep fs → forms_from true ls ≡ map Some fs ++ Some line.Close ∷ [] → Split ls fs
split [] [] keep e = no_form e
split [] (l ∷ ls) keep e =
    let is : form_in true l ≡ Some line.Close = first_form e in
    record { body = []; brace = l; whole = ap (λ xs. l ∷ xs) (none ls (ap (λ f. forms_from (inside_after true f) ls) (sym is) ∙ more_forms' e)); inside = NoLine; last = inside_line l line.Close is } where
      none : (ls : List (List ℕ)) → forms_from false ls ≡ [] → ls ≡ []
      none [] e = refl
      none (l ∷ ls) e = no_form (sym e)
split (f ∷ fs) [] keep e = no_form e
split (f ∷ fs) (l ∷ ls) keep e =
    let is : form_in true l ≡ Some f = first_form e in
    let parts : (keeps_inside f ≡ true) × (list_all keeps_inside fs ≡ true) = both (keeps_inside f) (list_all keeps_inside fs) keep in
    let k : (closes f ≡ false) × (inside_after true (Some f) ≡ true) = kept_open f parts.0 in
    let r : Split ls fs = split fs ls parts.1 (ap (λ b. forms_from b ls) (sym (ap (inside_after true) is ∙ k.1)) ∙ more_forms' e) in
    record { body = l ∷ r.body; brace = r.brace; whole = ap (λ xs. l ∷ xs) r.whole; inside = OneLine l f r.body fs (inside_line l f is) k.0 r.inside; last = r.last }

-- ---- items

module _ (m : Module) (globals : All (λ g. is_name g ≡ true) m.globals) (all : List (Option Line)) where
  func_laid : (f : Func) (own : List (List ℕ)) (is : List Item) (ls : List (List ℕ)) → forms_from false own ≡ map Some (func_forms m.globals f) → IsPlainFunc f → length (named_of f) < 2 ^ 64 → Apart (item_ids (FuncItem f)) → Laid all m.globals is ls →
      Laid all m.globals (FuncItem f ∷ is) (own ++ ls)
  func_laid f [] is ls e plain few apart h = no_form e
  func_laid f (l ∷ own) is ls e plain few apart h =
      let header : form_in false l ≡ Some (line.Define (first_name f) (Some (shown_head (names_of f) f))) = first_form e in
      let rest : forms_from true own ≡ map Some (body_forms m.globals f) ++ Some line.Close ∷ [] =
      ap (λ o. forms_from (inside_after false o) own) (sym header) ∙ more_forms' e ∙ map-append Some (body_forms m.globals f) (line.Close ∷ []) in
      let r : Split own (body_forms m.globals f) = split (body_forms m.globals f) own (body_keep (names_of f) m.globals f.blocks) rest in
      let lines : l ∷ (r.body ++ r.brace ∷ ls) ≡ (l ∷ own) ++ ls = ap (λ xs. l ∷ xs) (sym (append_assoc r.body (r.brace ∷ []) ls)) ∙ ap (λ xs. l ∷ (xs ++ ls)) (sym r.whole) in
      subst (Laid all m.globals (FuncItem f ∷ is)) lines
      (Function l r.brace f (shown_head (names_of f) f) r.body (body_forms m.globals f) is ls (outside_line l (line.Define (first_name f) (Some (shown_head (names_of f) f))) header) (header_is f (func_headed f plain few).shown) r.inside
      (body_are m.globals f apart few) r.last h)

  opaque_laid : (text : List ℕ) (is : List Item) (ls : List (List ℕ)) → IsOpaqueText text → opaque_in all (opaque_forms text) ≡ true → Laid all m.globals is ls → Laid all m.globals (Opaque text ∷ is) (lines_of text ++ ls)
  opaque_laid text is ls o own h =
      let p : Parts text = parts_of text o in
      let forms : opaque_forms text ≡ Some (line.Define p.name p.head) ∷ (map (form_in true) p.body ++ Some line.Close ∷ []) = ap (forms_from false) p.lines ∙ function_forms p.first p.name p.head p.body p.last [] p.header p.inside p.brace in
      let opaque : is_opaque (outlook_of all) p.head (map (form_in true) p.body ++ Some line.Close ∷ []) ≡ true = ap (opaque_in all) (sym forms) ∙ own in
      let lines : p.first ∷ (p.body ++ p.last ∷ ls) ≡ lines_of text ++ ls = ap (λ xs. p.first ∷ xs) (sym (append_assoc p.body (p.last ∷ []) ls)) ∙ ap (λ xs. xs ++ ls) (sym p.lines) in
      let same : joined (p.first ∷ (p.body ++ p.last ∷ [])) ≡ text = ap joined (sym p.lines) ∙ sym o.whole in
      subst (λ t. Laid all m.globals (Opaque t ∷ is) (lines_of text ++ ls)) same
      (subst (Laid all m.globals (Opaque (joined (p.first ∷ (p.body ++ p.last ∷ []))) ∷ is)) lines
      (OpaqueItem p.first p.last p.name p.head p.body is ls (outside_line p.first (line.Define p.name p.head) p.header) (no_braces' p.body (whole_sound p.first p.body p.last [] (subst (All IsSound) p.lines o.sound)).body' p.inside) (inside_line p.last line.Close p.brace) opaque h))
    where
      no_braces' : (body : List (List ℕ)) → All IsSound body → All IsBodyLine body → All (λ m. IsBrace m → ⊥) body
      no_braces' [] sound inside = All-nil (λ m. IsBrace m → ⊥)
      no_braces' (b ∷ body) sound inside =
          All-cons (λ m. IsBrace m → ⊥) b body (λ c. All-head IsBodyLine b body inside (inside_form b line.Close (All-head IsSound b body sound) c))
          (no_braces' body (All-tail IsSound b body sound) (All-tail IsBodyLine b body inside))

  abbrev IsOpaqueItem : Item → Type 0
  IsOpaqueItem (Opaque text) = opaque_in all (opaque_forms text) ≡ true
  IsOpaqueItem _ = Unit {0}

  -- items with their lines
  record SaidItems (is : List Item) (text : List ℕ) (forms : List (Option Line)) : Type 0 where
    said : Said text forms
    laid : Laid all m.globals is said.lines

  gap_laid : (a b : Bool) (is : List Item) (ls : List (List ℕ)) → Laid all m.globals is ls → Laid all m.globals is ((gap_said a b).lines ++ ls)
  unfolding gap_said said_none empty_said
  gap_laid false false is ls h = h
  gap_laid false true is ls h = EmptyLine [] is ls (outside_line [] line.Empty empty_read) h
  gap_laid true b is ls h = EmptyLine [] is ls (outside_line [] line.Empty empty_read) h

  item_laid : (i : Item) (formed : IsFormedItem m i) (plain : IsPlainItem i) (once : Once (item_ids i)) (few : IsCountedItem i) → IsOpaqueItem i → Apart (item_ids i) → (is : List Item) (ls : List (List ℕ)) → Laid all m.globals is ls →
      Laid all m.globals (i ∷ is) ((item_said m globals i formed plain once few).lines ++ ls)
  unfolding item_said opaque_said
  item_laid (Kept text) formed plain once few opaque apart is ls h = KeptItem text text is ls (outside_line text (line.Kept (kept_at text)) plain.reads) h
  item_laid (Opaque text) formed plain once few opaque apart is ls h = opaque_laid text is ls plain opaque h
  item_laid (FuncItem f) formed plain once few opaque apart is ls h =
      let s : Said (item_text m.globals (FuncItem f)) (item_forms m.globals (FuncItem f)) = item_said m globals (FuncItem f) formed plain once few in
      func_laid f (item_said m globals (FuncItem f) formed plain once few).lines is ls
      (ap (forms_from false) (sym (append-nil (item_said m globals (FuncItem f) formed plain once few).lines)) ∙ (item_said m globals (FuncItem f) formed plain once few).each [] ∙ append-nil (map Some (func_forms m.globals f))) plain few apart h

  more_items_said : (before : Bool) (is : List Item) → All (IsFormedItem m) is → All IsPlainItem is → Once (ids_of_items is) → All IsCountedItem is → All IsOpaqueItem is → Apart (ids_of_items is) →
      SaidItems is (more_items m.globals before is) (more_items_forms m.globals before is)
  unfolding said_none said_append
  more_items_said before [] formed plain once few opaque apart = record { said = said_none; laid = NoItem }
  more_items_said before (i ∷ is) formed plain once few opaque apart =
      let fi : IsFormedItem m i = All-head (IsFormedItem m) i is formed in
      let pi : IsPlainItem i = All-head IsPlainItem i is plain in
      let oi : Once (item_ids i) = once_front (item_ids i) (ids_of_items is) once in
      let ci : IsCountedItem i = All-head IsCountedItem i is few in
      let own : Said (item_text m.globals i) (item_forms m.globals i) = item_said m globals i (All-head (IsFormedItem m) i is formed) (All-head IsPlainItem i is plain) (once_front (item_ids i) (ids_of_items is) once) (All-head IsCountedItem i is few) in
      let rest : SaidItems is (more_items m.globals (is_function i) is) (more_items_forms m.globals (is_function i) is) =
      more_items_said (is_function i) is (All-tail (IsFormedItem m) i is formed) (All-tail IsPlainItem i is plain) (once_back (item_ids i) (ids_of_items is) once) (All-tail IsCountedItem i is few) (All-tail IsOpaqueItem i is opaque) (apart_after (item_ids i) (ids_of_items is) apart) in
      record {
        said = said_append (gap_said before (is_function i)) (said_append (item_said m globals i (All-head (IsFormedItem m) i is formed) (All-head IsPlainItem i is plain) (once_front (item_ids i) (ids_of_items is) once) (All-head IsCountedItem i is few)) rest.said);
        laid = gap_laid before (is_function i) (i ∷ is) _
            (item_laid i (All-head (IsFormedItem m) i is formed) (All-head IsPlainItem i is plain) (once_front (item_ids i) (ids_of_items is) once) (All-head IsCountedItem i is few) (All-head IsOpaqueItem i is opaque) (apart_front (item_ids i) (ids_of_items is) apart) is rest.said.lines rest.laid);
      }

  all_items_said : (is : List Item) → All (IsFormedItem m) is → All IsPlainItem is → Once (ids_of_items is) → All IsCountedItem is → All IsOpaqueItem is → Apart (ids_of_items is) → SaidItems is (items_text m.globals is) (items_forms m.globals is)
  unfolding said_none said_append
  all_items_said [] formed plain once few opaque apart = record { said = said_none; laid = NoItem }
  all_items_said (i ∷ is) formed plain once few opaque apart =
      let rest : SaidItems is (more_items m.globals (is_function i) is) (more_items_forms m.globals (is_function i) is) =
      more_items_said (is_function i) is (All-tail (IsFormedItem m) i is formed) (All-tail IsPlainItem i is plain) (once_back (item_ids i) (ids_of_items is) once) (All-tail IsCountedItem i is few) (All-tail IsOpaqueItem i is opaque) (apart_after (item_ids i) (ids_of_items is) apart) in
      record {
        said = said_append (item_said m globals i (All-head (IsFormedItem m) i is formed) (All-head IsPlainItem i is plain) (once_front (item_ids i) (ids_of_items is) once) (All-head IsCountedItem i is few)) rest.said;
        laid = item_laid i (All-head (IsFormedItem m) i is formed) (All-head IsPlainItem i is plain) (once_front (item_ids i) (ids_of_items is) once) (All-head IsCountedItem i is few) (All-head IsOpaqueItem i is opaque) (apart_front (item_ids i) (ids_of_items is) apart) is rest.said.lines rest.laid;
      }

-- ---- the module

pub printed_spells : (m : Module) → IsFormed m → IsPrintable m → IsNumbered m → IsCounted m → Spelled (text_of m) m
printed_spells m formed printable numbered few =
    let s : SaidItems m printable.named (module_forms m) m.items (text_of m) (module_forms m) =
    all_items_said m printable.named (module_forms m) m.items formed.items (plain_items m formed printable) (once_ids (ids_of_items m.items) formed.once) few (opaques m printable.named m.items printable.opaques) (pairs_apart _ formed.once) in
    let again : lines_of (text_of m) ≡ s.said.lines = ap lines_of s.said.whole ∙ lines_of_joined s.said.lines (all_lines s.said.lines s.said.sound) in
    record {
      sound = subst (All (λ l. fault_of l ≡ None)) (sym again) s.said.sound;
      laid = subst (Laid (module_forms m) m.globals m.items) (sym again) s.laid;
      printable = printable;
      numbered = numbered;
      counted = few;
    }
  where
    opaques : (m : Module) (globals : All (λ g. is_name g ≡ true) m.globals) (is : List Item) → All (IsKeptOpaque m) is → All (IsOpaqueItem m globals (module_forms m)) is
    opaques m globals is all = All-weaker (IsKeptOpaque m) (IsOpaqueItem m globals (module_forms m)) (one m globals) is all where
      one : (m : Module) (globals : All (λ g. is_name g ≡ true) m.globals) (i : Item) → IsKeptOpaque m i → IsOpaqueItem m globals (module_forms m) i
      one m globals (Kept text) h = tt
      one m globals (Opaque text) h = h
      one m globals (FuncItem f) h = tt
