-- The items of a module that was read: each is one that text can have.
use Rattle.std.proofs.Common.{◌≡◌, ℕ, ◌+◌, ◌⊎◌, inl, inr, Bool, true, false, cond, not, ◌&&◌, ◌||◌, List, [], ◌∷◌, ◌++◌, Option, Some, None, refl, sym, ◌∙◌, ap, subst, codes}
use Rattle.std.proofs.lemmas.List.Elements.{All-nil, All-cons, All-head, All-tail, All-weaker, All-append}
use Rattle.std.specs.List.{All, AllZip}
use Rattle.ir_lex.specs.Scan.{texts}
use Rattle.ir_lex.specs.Tokens.{is_name}
use Rattle.ir_lex.proofs.Standing.{AreWords, texts_are}
use Rattle.ir_types.specs.declared.opd.Opd.{Opd}
use Rattle.ir_types.specs.declared.opd.Opd.TheVariants.{Val, Lit, Sym}
use Rattle.ir_types.specs.declared.inst.Inst.{Inst}
use Rattle.ir_types.specs.declared.func.Param.{Param}
use Rattle.ir_types.specs.declared.func.Block.{Block}
use Rattle.ir_types.specs.declared.func.Func.{Func}
use Rattle.ir_types.specs.declared.module.Item.{Item}
use Rattle.ir_types.specs.declared.module.Item.TheVariants as items
use Rattle.ir_types.specs.Formed as formed
use Rattle.ir_draft.specs.declared.head.Head.{Head}
use Rattle.ir_draft.specs.declared.kept.Kept.{Kept}
use Rattle.ir_draft.specs.declared.stmt.Stmt.{Stmt}
use Rattle.ir_draft.specs.declared.line.Line.{Line}
use Rattle.ir_draft.specs.declared.line.Line.TheVariants as line
use Rattle.ir_draft.specs.declared.written.Written.{Written}
use Rattle.ir_draft.specs.declared.written.Written.TheVariants as written'
use Rattle.ir_draft.specs.declared.written.Arg.{Arg}
use Rattle.ir_draft.specs.declared.draft.Numbered.{Numbered}
use Rattle.ir_draft.specs.declared.draft.DraftItem.{DraftItem}
use Rattle.ir_draft.specs.declared.draft.DraftItem.TheVariants as item
use Rattle.ir_words.specs.Values.{symbol_of}
use Rattle.ir_words.specs.Words.{Words, is_first}
use Rattle.ir_line.specs.Keeping.{defined}
use Rattle.ir_line.specs.Sound.{IsSound, IsCallOp, IsCallLine}
use Rattle.ir_forms.proofs.PoisonPointers.{IsPoison, PoisonArg}
use Rattle.ir_forms.proofs.Steps.{nothing}
use Rattle.ir_print.specs.Names.{is_store, is_void}
use Rattle.ir_read.specs.Forms.{form_in}
use Rattle.ir_read.specs.Function.{is_barred, any_barred}
use Rattle.ir_read.specs.Opaque.{is_opaque}
use Rattle.ir_read.proofs.Placing.{Known}
use Rattle.ir_types_check.specs.Outline.{written}
use Rattle.ir_types_check.specs.Blocks.{params_from}
use Rattle.ir_types_check.specs.Resolved.{if_big, or_later, big_endian_line}
use Rattle.ir_types_check.proofs.ReadParts.{EachLine, IsFineBlock}
use Rattle.ir_types_check.proofs.ReadLinks.{IsFound, IsFineOpd, IsFineInst}
use Rattle.ir_types_check.proofs.ReadTops.{global_part, draft_globals, draft_tops}
use Rattle.ir_types_check.proofs.ReadNames.{onto}
use Rattle.ir_types_check.proofs.ReadModule.{EachItem, IsFineLine, IsFineItem, IsFineName, IsFuncOf, IsItemOf}
use Rattle.rf_text.specs.Headed.{is_local_name, is_returned, is_written, IsParam, IsHead}
use Rattle.ir_types.specs.KeptParts.{IsKeptPart, IsBefore}
use Rattle.rf_text.specs.Shown.{is_call}
use Rattle.ir_types.specs.Formed.{IsPoisonIfPointer}
use Rattle.rf_text.specs.ModuleForms.{kept_at}
use Rattle.rf_text.specs.Printable.{IsPlainLine, global_before, globals_in, in_front, tops_in}
use Rattle.rf_text.proofs.PlainItems.{gives, IsPlainInst, IsPlainBlock, IsPlainFunc, IsPlainItem, func_formed}
use Rattle.ir_types.specs.Formed.{is_plain}
use Rattle.rf_text.specs.OpaqueText.{IsOpaqueText, opaque_forms, opaque_name}
use Rattle.rf_text.proofs.Kept.Lines.{kept_again, kept_is, kept_by_text}
use Rattle.rf_text.proofs.Heads.Found.{symbol_name, words_front}
use Rattle.rf_text.proofs.Showable.Lines.{IsPlainStmt, IsPlainForm, IsReadForm, silent_result, uncalled_op}
use Rattle.rf_text.proofs.Showable.Names.{plain_written, plain_result, store_kept, call_kept, names_once}

-- ---- items as they are read

-- a line was kept as this
abbrev pub WasKept : Kept → Type 0
WasKept kept = (l : List ℕ) × (form_in false l ≡ Some (line.Kept kept))

pub was_kept : (l : List ℕ) (kept : Kept) → form_in false l ≡ Some (line.Kept kept) → WasKept kept
was_kept l kept e = (l, e)

-- ---- items that were read

-- a line that is no call and names nothing barred
abbrev pub IsAllowedLine : List (List ℕ) → Line → Type 0
IsAllowedLine names (line.Stmt s) = (IsCallOp s.op → ⊥) × (any_barred names s.args ≡ false)
IsAllowedLine names _ = Unit {0}

-- whether a function whose lines have these forms is opaque where this is known
abbrev pub is_kept : Known → List (Option Line) → Bool
is_kept known (Some (line.Define name head) ∷ fs) = is_opaque known head fs
is_kept known _ = false

module _ (names : List (List ℕ)) (other : Bool) where
  pub record IsReadAt (x : Numbered) : Type 0 where
    pub fine : IsReadForm x.form
    pub allowed : IsAllowedLine names x.form

  pub record IsReadFunc (head : Head) (body : List Numbered) : Type 0 where
    pub headed : IsHead head
    pub lines : All IsReadAt body
    pub pointers : other ≡ false

  pub record IsReadOpaque (name : Option (List ℕ)) (text : List ℕ) : Type 0 where
    pub plain : IsOpaqueText text
    pub named : name ≡ opaque_name text
    pub kept : is_kept (record { names = names; other_pointers = other }) (opaque_forms text) ≡ true

  abbrev pub IsRead : DraftItem → Type 0
  IsRead (item.Kept n kept) = WasKept kept
  IsRead (item.Opaque n name text) = IsReadOpaque name text
  IsRead (item.Func n head body) = IsReadFunc head body

  -- the names and statements of lines

  abbrev pub IsLocal : List ℕ → Type 0
  IsLocal name = is_local_name name ≡ true

  abbrev pub IsFree : Written → Type 0
  IsFree w = IsPoison w × (is_barred names w ≡ false)

  pub record IsFreeStmt (s : Stmt) : Type 0 where
    pub sound : IsSound s
    pub plain : IsPlainStmt s
    pub uncalled : IsCallOp s.op → ⊥
    pub args : All (λ (a : Arg). IsFree a.opd) s.args

  pub free_args : (s : Stmt) → IsFreeStmt s → All (λ (a : Arg). IsFree a.opd) s.args
  free_args s f = f.args

  all_free : (as' : List Arg) → All PoisonArg as' → any_barred names as' ≡ false → All (λ (a : Arg). IsFree a.opd) as'
  all_free [] all e = All-nil (λ (a : Arg). IsFree a.opd)
  all_free (a ∷ as') all e = here (is_barred names a.opd) refl e (all_free as' (All-tail PoisonArg a as' all)) where
    here : (b : Bool) → is_barred names a.opd ≡ b → b || any_barred names as' ≡ false → (any_barred names as' ≡ false → All (λ (a : Arg). IsFree a.opd) as') → All (λ (a : Arg). IsFree a.opd) (a ∷ as')
    here true s e more = cc
    here false s e more = All-cons (λ (a : Arg). IsFree a.opd) a as' (All-head PoisonArg a as' all, s) (more e)

  line_is : (form : Line) → IsReadForm form → IsAllowedLine names form → IsFineLine IsLocal IsFreeStmt IsFree free_args form
  line_is (line.Label name) r a = elim r.plain [ inl c ↦ absurd c | inr p ↦ p ]
  line_is (line.Stmt s) r a = record {
    sound = r.sound;
    plain = plain r.plain;
    uncalled = a.0;
    args = all_free s.args (plain r.plain).poison a.1;
  }
    where
      plain : IsCallLine (line.Stmt s) ⊎ IsPlainForm (line.Stmt s) → IsPlainStmt s
      plain (inl c) = absurd (a.0 c)
      plain (inr p) = p
  line_is line.Empty r a = tt
  line_is (line.Kept kept) r a = tt
  line_is (line.Define name head) r a = tt
  line_is line.Close r a = tt
  line_is (line.Case value label) r a = tt
  line_is line.CasesEnd r a = tt

  body_is : (body : List Numbered) → All IsReadAt body → EachLine (IsFineLine IsLocal IsFreeStmt IsFree free_args) body
  body_is [] all = tt
  body_is (x ∷ xs) all = let one : IsReadAt x = All-head IsReadAt x xs all in (line_is x.form one.fine one.allowed, body_is xs (All-tail IsReadAt x xs all))

  -- the draft's items are such as its names can be looked up in
  pub items_are : (xs : List DraftItem) → All IsRead xs → EachItem (IsFineItem IsLocal IsFreeStmt IsFree free_args) xs
  items_are [] all = tt
  items_are (x ∷ xs) all = (here x (All-head IsRead x xs all), items_are xs (All-tail IsRead x xs all)) where
    here : (x : DraftItem) → IsRead x → IsFineItem IsLocal IsFreeStmt IsFree free_args x
    here (item.Kept n kept) r = tt
    here (item.Opaque n name text) r = tt
    here (item.Func n head body) r = body_is body r.lines

  -- ---- functions

  module _ (globals : List (List ℕ)) where
    abbrev pub IsOf : DraftItem → Item → Type 0
    IsOf x i = IsItemOf IsLocal IsFreeStmt IsFree free_args globals x i

    abbrev pub IsFunc : Head → Func → Type 0
    IsFunc head f = IsFuncOf IsLocal IsFreeStmt IsFree free_args globals head f

    abbrev pub IsMade : Inst → Type 0
    IsMade i = IsFineInst IsFreeStmt IsFree free_args globals i

    abbrev pub IsUsed : Opd → Type 0
    IsUsed o = IsFineOpd IsFreeStmt IsFree free_args globals o

    abbrev pub IsNamed : Option (List ℕ) → Type 0
    IsNamed name = IsFineName IsLocal IsFreeStmt IsFree free_args name

    opd_poison : (w : Written) (o : Opd) → IsPoison w → IsFound globals w o → IsPoisonIfPointer o
    opd_poison w (Val id) p f = tt
    opd_poison w (Sym g) p f = tt
    opd_poison (written'.Lit literal) (Lit found) p f = subst (λ x. IsPoisonIfPointer (Lit x)) (sym f) p
    opd_poison (written'.Local name) (Lit found) p f = absurd f
    opd_poison (written'.Symbol name) (Lit found) p f = absurd f

    inst_plain : (i : Inst) → IsMade i → IsPlainInst i
    inst_plain i h = record {
      named = ap is_plain h.name ∙ plain_result h.stmt.result h.fine.plain.named;
      silent = λ e. h.name ∙ ap written (silent_result h.stmt h.fine.sound h.fine.plain h.fine.uncalled (sym (ap (λ t. not (is_void t) && not (is_store i.op)) h.ty ∙ ap (λ b. not (is_void h.stmt.ty) && not b) store) ∙ e));
      pointers = All-weaker IsUsed IsPoisonIfPointer (λ o u. opd_poison u.from o u.fine.0 u.is) i.opds h.opds;
      other = ap is_call h.op ∙ call_kept h.blocks h.cases h.stmt.op ∙ uncalled_op h.stmt.op h.fine.uncalled;
    }
      where
        store : is_store i.op ≡ is_store h.stmt.op
        store = ap is_store h.op ∙ store_kept h.blocks h.cases h.stmt.op

    name_plain : (name : Option (List ℕ)) → IsNamed name → is_plain name ≡ true
    name_plain name (inl none) = ap is_plain none
    name_plain name (inr label) = ap is_plain label.2 ∙ plain_written label.0 label.1

    block_plain : (b : Block) → IsFineBlock IsNamed IsMade b → IsPlainBlock b
    block_plain b h = record { named = name_plain b.name h.named; insts = All-weaker IsMade IsPlainInst inst_plain b.insts h.insts }

    params_are : (k : ℕ) (ps : List Param) → All IsParam ps → All IsParam (params_from k ps)
    params_are k [] all = All-nil IsParam
    params_are k (p ∷ ps) all =
        let one : IsParam p = All-head IsParam p ps all in
        All-cons IsParam _ (params_from (k + 1) ps) (record { typed = one.typed; attributed = one.attributed }) (params_are (k + 1) ps (All-tail IsParam p ps all))

    abbrev HasWritten : Param → Type 0
    HasWritten p = is_written p.name ≡ true

    abbrev HasPlain : Param → Type 0
    HasPlain p = is_plain p.name ≡ true

    params_plain : (k : ℕ) (ps : List Param) → All HasWritten ps → All HasPlain (params_from k ps)
    params_plain k [] all = All-nil HasPlain
    params_plain k (p ∷ ps) all = All-cons HasPlain _ (params_from (k + 1) ps) (plain_result p.name (All-head HasWritten p ps all)) (params_plain (k + 1) ps (All-tail HasWritten p ps all))

    func_plain : (head : Head) (f : Func) → IsHead head → IsFunc head f → IsPlainFunc f
    func_plain head f h is =
        let blocks : All IsPlainBlock f.blocks = All-weaker (IsFineBlock IsNamed IsMade) IsPlainBlock block_plain f.blocks is.blocks in
        record {
          header = record {
            in_front = subst IsBefore (sym is.before) h.parts.in_front;
            returned = ap is_returned is.ret ∙ h.parts.returned;
            named = ap is_name is.name ∙ h.parts.named;
            typed = subst (All IsParam) (sym is.params) (params_are is.base head.params h.parts.typed);
            at_end = subst IsKeptPart (sym is.after) h.parts.at_end;
          };
          params = subst (All HasPlain) (sym is.params) (params_plain is.base head.params h.written);
          blocks = blocks;
          once = names_once f (All-weaker IsPlainBlock (λ (b : Block). All (λ (i : Inst). gives i ≡ false → i.name ≡ None) b.insts) (λ b p. All-weaker IsPlainInst (λ (i : Inst). gives i ≡ false → i.name ≡ None) (λ i q. q.silent) b.insts p.insts) f.blocks blocks) is.apart;
        }

    -- ---- kept lines

    no_big : (n : ℕ) (b : Bool) (later : Option ℕ) → or_later (if_big n b) later ≡ None → (b ≡ false) × (later ≡ None)
    no_big n true later e = nothing (sym e)
    no_big n false later e = (refl, e)

    kept_line : (kept : Kept) (text : List ℕ) → WasKept kept → kept.big_endian ≡ false → text ≡ kept.text → IsPlainLine text
    kept_line kept text k big e =
        let is : kept ≡ kept_at kept.text = kept_by_text k.0 kept k.1 in
        subst IsPlainLine (sym e) (record {
          reads = kept_again k.0 kept k.1 ∙ ap (λ x. Some (line.Kept x)) is;
          whole = ap (λ (x : Kept). x.text) (sym is);
          little_endian = ap (λ (x : Kept). x.big_endian) (sym is) ∙ big;
        })

    pub items_plain : (xs : List DraftItem) (is : List Item) → AllZip IsOf xs is → All IsRead xs → big_endian_line xs ≡ None → All IsPlainItem is
    items_plain [] [] zip all little = All-nil IsPlainItem
    items_plain [] (i ∷ is) zip all little = absurd zip
    items_plain (x ∷ xs) [] zip all little = absurd zip
    items_plain (item.Kept n kept ∷ xs) (items.Kept text ∷ is) zip all little =
        let b : (kept.big_endian ≡ false) × (big_endian_line xs ≡ None) = no_big n kept.big_endian (big_endian_line xs) little in
        All-cons IsPlainItem (items.Kept text) is (kept_line kept text (All-head IsRead (item.Kept n kept) xs all) b.0 zip.0) (items_plain xs is zip.1 (All-tail IsRead (item.Kept n kept) xs all) b.1)
    items_plain (item.Func n head body ∷ xs) (items.Func f ∷ is) zip all little =
        All-cons IsPlainItem (items.Func f) is (func_plain head f (All-head IsRead (item.Func n head body) xs all).headed zip.0) (items_plain xs is zip.1 (All-tail IsRead (item.Func n head body) xs all) little)
    items_plain (item.Opaque n name text ∷ xs) (items.Opaque said ∷ is) zip all little =
        All-cons IsPlainItem (items.Opaque said) is (subst IsOpaqueText (sym zip.0) (All-head IsRead (item.Opaque n name text) xs all).plain) (items_plain xs is zip.1 (All-tail IsRead (item.Opaque n name text) xs all) little)
    items_plain (item.Opaque n name text ∷ xs) (items.Kept said ∷ is) zip all little = absurd zip.0
    items_plain (item.Opaque n name text ∷ xs) (items.Func f ∷ is) zip all little = absurd zip.0
    items_plain (item.Kept n kept ∷ xs) (items.Opaque text ∷ is) zip all little = absurd zip.0
    items_plain (item.Kept n kept ∷ xs) (items.Func f ∷ is) zip all little = absurd zip.0
    items_plain (item.Func n head body ∷ xs) (items.Kept text ∷ is) zip all little = absurd zip.0
    items_plain (item.Func n head body ∷ xs) (items.Opaque text ∷ is) zip all little = absurd zip.0

    -- whatever the layout, names, results and literals of pointers are plain
    pub items_formed : (xs : List DraftItem) (is : List Item) → AllZip IsOf xs is → All IsRead xs → All formed.IsPlainItem is
    items_formed [] [] zip all = All-nil formed.IsPlainItem
    items_formed [] (i ∷ is) zip all = absurd zip
    items_formed (x ∷ xs) [] zip all = absurd zip
    items_formed (item.Kept n kept ∷ xs) (items.Kept text ∷ is) zip all = All-cons formed.IsPlainItem (items.Kept text) is tt (items_formed xs is zip.1 (All-tail IsRead (item.Kept n kept) xs all))
    items_formed (item.Func n head body ∷ xs) (items.Func f ∷ is) zip all =
        All-cons formed.IsPlainItem (items.Func f) is (func_formed f (func_plain head f (All-head IsRead (item.Func n head body) xs all).headed zip.0)) (items_formed xs is zip.1 (All-tail IsRead (item.Func n head body) xs all))
    items_formed (item.Opaque n name text ∷ xs) (items.Opaque said ∷ is) zip all =
        All-cons formed.IsPlainItem (items.Opaque said) is tt (items_formed xs is zip.1 (All-tail IsRead (item.Opaque n name text) xs all))
    items_formed (item.Opaque n name text ∷ xs) (items.Kept said ∷ is) zip all = absurd zip.0
    items_formed (item.Opaque n name text ∷ xs) (items.Func f ∷ is) zip all = absurd zip.0
    items_formed (item.Kept n kept ∷ xs) (items.Opaque text ∷ is) zip all = absurd zip.0
    items_formed (item.Kept n kept ∷ xs) (items.Func f ∷ is) zip all = absurd zip.0
    items_formed (item.Func n head body ∷ xs) (items.Kept text ∷ is) zip all = absurd zip.0
    items_formed (item.Func n head body ∷ xs) (items.Opaque text ∷ is) zip all = absurd zip.0

    -- ---- names

    global_is : (global : Bool) (symbol : Option (List ℕ)) (xs ys : List (List ℕ)) → xs ≡ ys → global_part global symbol ++ xs ≡ global_before global symbol ys
    global_is true (Some name) xs ys e = ap (λ zs. name ∷ zs) e
    global_is true None xs ys e = e
    global_is false symbol xs ys e = e

    top_is : (symbol : Option (List ℕ)) (xs ys : List (List ℕ)) → xs ≡ ys → onto symbol [] ++ xs ≡ in_front symbol ys
    top_is None xs ys e = e
    top_is (Some name) xs ys e = ap (λ zs. name ∷ zs) e

    kept_same : (kept : Kept) (text : List ℕ) → WasKept kept → text ≡ kept.text → kept ≡ kept_at text
    kept_same kept text k e = kept_by_text k.0 kept k.1 ∙ ap kept_at (sym e)

    pub globals_are : (xs : List DraftItem) (is : List Item) → AllZip IsOf xs is → All IsRead xs → draft_globals xs ≡ globals_in is
    globals_are [] [] zip all = refl
    globals_are [] (i ∷ is) zip all = absurd zip
    globals_are (x ∷ xs) [] zip all = absurd zip
    globals_are (item.Kept n kept ∷ xs) (items.Kept text ∷ is) zip all =
        global_is kept.global kept.symbol (draft_globals xs) (globals_in is) (globals_are xs is zip.1 (All-tail IsRead (item.Kept n kept) xs all))
        ∙ ap (λ (k : Kept). global_before k.global k.symbol (globals_in is)) (kept_same kept text (All-head IsRead (item.Kept n kept) xs all) zip.0)
    globals_are (item.Func n head body ∷ xs) (items.Func f ∷ is) zip all = globals_are xs is zip.1 (All-tail IsRead (item.Func n head body) xs all)
    globals_are (item.Opaque n name text ∷ xs) (items.Opaque said ∷ is) zip all = globals_are xs is zip.1 (All-tail IsRead (item.Opaque n name text) xs all)
    globals_are (item.Opaque n name text ∷ xs) (items.Kept said ∷ is) zip all = absurd zip.0
    globals_are (item.Opaque n name text ∷ xs) (items.Func f ∷ is) zip all = absurd zip.0
    globals_are (item.Kept n kept ∷ xs) (items.Opaque text ∷ is) zip all = absurd zip.0
    globals_are (item.Kept n kept ∷ xs) (items.Func f ∷ is) zip all = absurd zip.0
    globals_are (item.Func n head body ∷ xs) (items.Kept text ∷ is) zip all = absurd zip.0
    globals_are (item.Func n head body ∷ xs) (items.Opaque text ∷ is) zip all = absurd zip.0

    pub tops_are : (xs : List DraftItem) (is : List Item) → AllZip IsOf xs is → All IsRead xs → draft_tops xs ≡ tops_in is
    tops_are [] [] zip all = refl
    tops_are [] (i ∷ is) zip all = absurd zip
    tops_are (x ∷ xs) [] zip all = absurd zip
    tops_are (item.Kept n kept ∷ xs) (items.Kept text ∷ is) zip all =
        top_is kept.symbol (draft_tops xs) (tops_in is) (tops_are xs is zip.1 (All-tail IsRead (item.Kept n kept) xs all))
        ∙ ap (λ (k : Kept). in_front k.symbol (tops_in is)) (kept_same kept text (All-head IsRead (item.Kept n kept) xs all) zip.0)
    tops_are (item.Func n head body ∷ xs) (items.Func f ∷ is) zip all =
        ap (λ name. name ∷ draft_tops xs) (sym zip.0.name) ∙ ap (λ ys. f.name ∷ ys) (tops_are xs is zip.1 (All-tail IsRead (item.Func n head body) xs all))
    tops_are (item.Opaque n name text ∷ xs) (items.Opaque said ∷ is) zip all =
        top_is name (draft_tops xs) (tops_in is) (tops_are xs is zip.1 (All-tail IsRead (item.Opaque n name text) xs all))
        ∙ ap (λ o. in_front o (tops_in is)) ((All-head IsRead (item.Opaque n name text) xs all).named ∙ ap opaque_name (sym zip.0))
    tops_are (item.Opaque n name text ∷ xs) (items.Kept said ∷ is) zip all = absurd zip.0
    tops_are (item.Opaque n name text ∷ xs) (items.Func f ∷ is) zip all = absurd zip.0
    tops_are (item.Kept n kept ∷ xs) (items.Opaque text ∷ is) zip all = absurd zip.0
    tops_are (item.Kept n kept ∷ xs) (items.Func f ∷ is) zip all = absurd zip.0
    tops_are (item.Func n head body ∷ xs) (items.Kept text ∷ is) zip all = absurd zip.0
    tops_are (item.Func n head body ∷ xs) (items.Opaque text ∷ is) zip all = absurd zip.0

  abbrev pub IsSymbol : List ℕ → Type 0
  IsSymbol g = is_name g ≡ true

  symbol_found : (ts : Words) (name : List ℕ) → AreWords ts → defined ts ≡ Some name → IsSymbol name
  symbol_found [] name h e = nothing e
  symbol_found (t ∷ ts) name h e = here (is_first (codes "=") ts) e where
    here : (b : Bool) → cond b (symbol_of t) None ≡ Some name → IsSymbol name
    here true e = symbol_name t name (words_front (t ∷ []) ts h) e
    here false e = nothing e

  symbol_named : (kept : Kept) → WasKept kept → (name : List ℕ) → kept.symbol ≡ Some name → IsSymbol name
  symbol_named kept k name e = symbol_found (texts k.0) name (texts_are k.0) (sym (ap (λ (x : Kept). x.symbol) (kept_is k.0 kept k.1)) ∙ e)

  global_named : (kept : Kept) → WasKept kept → All IsSymbol (global_part kept.global kept.symbol)
  global_named kept k = here kept.global kept.symbol (symbol_named kept k) where
    here : (b : Bool) (o : Option (List ℕ)) → ((name : List ℕ) → o ≡ Some name → IsSymbol name) → All IsSymbol (global_part b o)
    here true (Some name) h = All-cons IsSymbol name [] (h name refl) (All-nil IsSymbol)
    here true None h = All-nil IsSymbol
    here false o h = All-nil IsSymbol

  pub globals_named : (xs : List DraftItem) → All IsRead xs → All IsSymbol (draft_globals xs)
  globals_named [] all = All-nil IsSymbol
  globals_named (item.Kept n kept ∷ xs) all =
      All-append IsSymbol (global_part kept.global kept.symbol) (draft_globals xs) (global_named kept (All-head IsRead (item.Kept n kept) xs all)) (globals_named xs (All-tail IsRead (item.Kept n kept) xs all))
  globals_named (item.Func n head body ∷ xs) all = globals_named xs (All-tail IsRead (item.Func n head body) xs all)
  globals_named (item.Opaque n name text ∷ xs) all = globals_named xs (All-tail IsRead (item.Opaque n name text) xs all)
