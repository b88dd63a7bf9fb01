-- A module that was read can be printed and read again: its items, its names and what its operands name are such as text can have.
use Rattle.std.proofs.Common.{◌≡◌, ℕ, zero, suc, ◌+◌, Bool, true, false, cond, ◌||◌, List, [], ◌∷◌, ◌++◌, length, map, Option, Some, None, Result, Ok, Err, refl, sym, ◌∙◌, ap, subst, append_assoc}
use Rattle.std.proofs.lemmas.List.Elements.{All-nil, All-cons, All-head, All-tail, All-weaker}
use Rattle.std.specs.List.{All, AllPairs, AllZip}
use Rattle.std.specs.Prelude.{unwrap_or}
use Rattle.ir_lex.specs.Scan.{texts, fault_of}
use Rattle.ir_types.specs.declared.id.Id.{Id}
use Rattle.ir_types.specs.declared.op.Op.{Op}
use Rattle.ir_types.specs.declared.op.Op.TheVariants as ops
use Rattle.ir_types.specs.declared.opd.Opd.{Opd}
use Rattle.ir_types.specs.declared.opd.Opd.TheVariants.{Val, Lit, Sym}
use Rattle.ir_types.specs.declared.inst.Inst.{Inst}
use Rattle.ir_types.specs.declared.func.Block.{Block}
use Rattle.ir_types.specs.declared.func.Func.{Func}
use Rattle.ir_types.specs.declared.module.Item.{Item}
use Rattle.ir_types.specs.declared.module.Item.TheVariants as items
use Rattle.ir_types.specs.declared.module.Module.{Module}
use Rattle.ir_types.specs.Formed.{ids_of}
use Rattle.ir_draft.specs.declared.head.Head.{Head}
use Rattle.ir_draft.specs.declared.line.Line.{Line}
use Rattle.ir_draft.specs.declared.line.Line.TheVariants as line
use Rattle.ir_draft.specs.declared.written.Written.{Written}
use Rattle.ir_draft.specs.declared.written.Written.TheVariants as written'
use Rattle.ir_draft.specs.declared.draft.DraftItem.{DraftItem}
use Rattle.ir_draft.specs.declared.draft.DraftItem.TheVariants as item
use Rattle.ir_line.specs.Keeping.{first_symbol, or_later}
use Rattle.ir_line.specs.Sound.{IsCallOp}
use Rattle.ir_read.specs.declared.refusal.ReadRefusal.{ReadRefusal}
use Rattle.ir_read.specs.Answers.{◌>>=◌}
use Rattle.ir_read.specs.Bodies.{numbered_from}
use Rattle.ir_read.specs.Faults as faults
use Rattle.ir_read.specs.Faults.{first_fault}
use Rattle.ir_read.specs.Forms.{form_in, inside_after, forms_from, forms_of}
use Rattle.ir_read.specs.Function.{any_barred, is_foreign, is_outside, after_inst}
use Rattle.ir_read.specs.Lines.{lines_of}
use Rattle.ir_read.specs.Opaque.{is_headless, is_opaque, joined}
use Rattle.ir_read.specs.Outlook.{has, outlook_of}
use Rattle.ir_read.specs.Items.{barred_in, has_other_pointers}
use Rattle.ir_read.specs.Position.{start, after_label, after_case, after_cases}
use Rattle.ir_read.proofs.Placing.{Place, Known as Outlook, body_lines}
use Rattle.ir_types_check.specs.Named.{Names}
use Rattle.ir_types_check.proofs.ReadParts.{IsFineBlock}
use Rattle.ir_types_check.proofs.ReadLinks.{IsFound}
use Rattle.ir_types_check.proofs.ReadIds.{numbers_from, ids_in_order}
use Rattle.ir_types_check.proofs.ReadTops.{draft_globals}
use Rattle.ir_types_check.proofs.ReadModule.{IsModuleOf, module_is}
use Rattle.rf_text.specs.Headed.{IsHead, first_name}
use Rattle.rf_text.specs.Written.{shown_global}
use Rattle.rf_text.specs.ModuleForms.{kept_at, item_forms, more_items_forms, items_forms, module_forms}
use Rattle.rf_text.specs.OpaqueText.{opaque_forms, name_in, opaque_in}
use Rattle.rf_text.specs.Printable.{has_function, IsAllowed, IsAllowedBlock, IsAllowedItem, IsKeptOpaque, IsPrintable, IsPrintableItem, ids_from, IsNumbered}
use Rattle.rf_text.proofs.PlainItems.{IsPlainItem, item_printable}
use Rattle.rf_text.proofs.FunctionNames.{names_apart}
use Rattle.ir_types.specs.Formed.{IsPlain}
use Rattle.rf_text.specs.Reads.{Reads}
use Rattle.rf_text.proofs.Cut as cuts
use Rattle.rf_text.proofs.Cut.{Cut, text_cut}
use Rattle.rf_text.proofs.Kept.Lines.{kept_by_text}
use Rattle.rf_text.proofs.Heads.Found.{head_of_line}
use Rattle.rf_text.proofs.OpaqueLines.{IsBodyLine, function_forms, text_forms, text_is_opaque, IsSound, Whole, whole_sound, faultless}
use Rattle.rf_text.proofs.Publics.{publics, SaySame, seen_same, publics_append, passed, say_itself, zip_append}
use Rattle.rf_text.proofs.Showable.Heads.{first_of, name_of_line}
use Rattle.rf_text.proofs.Showable.Lines.{form_is_read}
use Rattle.rf_text.proofs.Showable.Forms.{body_silent, gap_silent}
use Rattle.rf_text.proofs.Showable.Items.{was_kept, is_kept, IsReadAt, IsRead, IsLocal, IsFree, IsFreeStmt, free_args, items_are, IsOf, IsFunc, IsMade, IsUsed, IsNamed, items_plain, items_formed, globals_are, IsSymbol, globals_named, tops_are}

-- ---- items that were read

first_form : {a b : Option Line} {as' bs : List (Option Line)} → a ∷ as' ≡ b ∷ bs → a ≡ b
first_form e = cc

more_forms : {a b : Option Line} {as' bs : List (Option Line)} → a ∷ as' ≡ b ∷ bs → as' ≡ bs
more_forms e = cc

no_form : {P : Type 0} {b : Option Line} {bs : List (Option Line)} → [] ≡ b ∷ bs → P
no_form e = cc

refused : {A P : Type 0} {refusal : ReadRefusal} {y : A} → Err refusal ≡ Ok y → P
refused e = cc

read_ok : {A B P : Type 0} (r : Result A ReadRefusal) (f : A → Result B ReadRefusal) (y : B) → (r >>= f) ≡ Ok y → ((x : A) → r ≡ Ok x → f x ≡ Ok y → P) → P
read_ok (Ok x) f y e k = k x refl e
read_ok (Err refusal) f y e k = refused e

cond_not : {A P : Type 0} (b : Bool) (r : Result A ReadRefusal) (refusal : ReadRefusal) (y : A) → cond b (Err refusal) r ≡ Ok y → (b ≡ false → r ≡ Ok y → P) → P
cond_not true r refusal y e k = refused e
cond_not false r refusal y e k = k refl e

neither : (a b : Bool) → a || b ≡ false → (a ≡ false) × (b ≡ false)
neither true b e = cc
neither false b e = (refl, e)

no_call : (p : Place) (op : Op) → is_foreign p op ≡ false → IsCallOp op → ⊥
no_call p (ops.Call site) e c = cc
no_call p _ e c = c

-- the lines of a function of the profile
lines_read : (names : List (List ℕ)) (other : Bool) (n : ℕ) (p end : Place) (body : List (List ℕ)) (forms : List Line) → map (form_in true) body ≡ map Some forms → body_lines names n p forms ≡ Ok end → All (IsReadAt names other) (numbered_from n forms)
unfolding after_inst
lines_read names other n p end [] [] e s = All-nil (IsReadAt names other)
lines_read names other n p end [] (f ∷ fs) e s = no_form e
lines_read names other n p end (l ∷ ls) [] e s = no_form (sym e)
lines_read names other n p end (l ∷ ls) (line.Empty ∷ fs) e s = lines_read names other (n + 1) p end ls fs (more_forms e) s
lines_read names other n p end (l ∷ ls) (line.Kept kept ∷ fs) e s = refused s
lines_read names other n p end (l ∷ ls) (line.Define name head ∷ fs) e s = refused s
lines_read names other n p end (l ∷ ls) (line.Close ∷ fs) e s = refused s
lines_read names other n p end (l ∷ ls) (line.Label name ∷ fs) e s =
    read_ok (after_label n p name) _ end s (λ q was now.
    All-cons (IsReadAt names other) (record { line = n; form = line.Label name }) (numbered_from (n + 1) fs) (record { fine = form_is_read l (line.Label name) (first_form e); allowed = tt }) (lines_read names other (n + 1) q end ls fs (more_forms e) now))
lines_read names other n p end (l ∷ ls) (line.Stmt x ∷ fs) e s =
    read_ok (after_inst names n p x) _ end s (λ q was now.
    cond_not (is_outside names p x) _ _ q was (λ b _.
    let parts : (is_foreign p x.op ≡ false) × (any_barred names x.args ≡ false) = neither (is_foreign p x.op) (any_barred names x.args) b in
    All-cons (IsReadAt names other) (record { line = n; form = line.Stmt x }) (numbered_from (n + 1) fs) (record { fine = form_is_read l (line.Stmt x) (first_form e); allowed = (no_call p x.op parts.0, parts.1) }) (lines_read names other (n + 1) q end ls fs (more_forms e) now)))
lines_read names other n p end (l ∷ ls) (line.Case value label ∷ fs) e s =
    read_ok (after_case n p) _ end s (λ q was now.
    All-cons (IsReadAt names other) (record { line = n; form = line.Case value label }) (numbered_from (n + 1) fs) (record { fine = form_is_read l (line.Case value label) (first_form e); allowed = tt }) (lines_read names other (n + 1) q end ls fs (more_forms e) now))
lines_read names other n p end (l ∷ ls) (line.CasesEnd ∷ fs) e s =
    read_ok (after_cases n p) _ end s (λ q was now.
    All-cons (IsReadAt names other) (record { line = n; form = line.CasesEnd }) (numbered_from (n + 1) fs) (record { fine = form_is_read l line.CasesEnd (first_form e); allowed = tt }) (lines_read names other (n + 1) q end ls fs (more_forms e) now))

own_pointers : (known : Outlook) (head : Option Head) (fs : List (Option Line)) → is_opaque known head fs ≡ false → known.other_pointers ≡ false
unfolding is_opaque
own_pointers known head fs e = (neither known.other_pointers _ (neither (known.other_pointers || is_headless head) _ e).0).0

-- the items of a text, each as it was read
cut_read : {known : Outlook} {n : ℕ} {ls : List (List ℕ)} {xs : List DraftItem} → Cut known n ls xs → All IsSound ls → All (IsRead known.names known.other_pointers) xs
cut_read {known} (cuts.NoLine n) sound = All-nil (IsRead known.names known.other_pointers)
cut_read (cuts.EmptyLine n l ls xs is c) sound = cut_read c (All-tail IsSound l ls sound)
cut_read {known} (cuts.KeptLine n l kept ls xs is c) sound = All-cons (IsRead known.names known.other_pointers) (item.Kept n kept) xs (was_kept l kept is) (cut_read c (All-tail IsSound l ls sound))
cut_read {known} (cuts.FunctionLines n l name head body forms brace ls xs first p q k is own params are stand shut last c) sound =
    let w : Whole l body brace ls = whole_sound l body brace ls sound in
    All-cons (IsRead known.names known.other_pointers) (item.Func n head (numbered_from (n + 1) forms)) xs
    (record { headed = head_of_line l name head is; lines = lines_read known.names known.other_pointers (n + 1) (start first) p body forms are stand; pointers = own_pointers known (Some head) (map Some forms ++ Some line.Close ∷ []) own }) (cut_read c w.rest)
cut_read {known} (cuts.OpaqueLines n l name head body brace ls xs is own inside last c) sound =
    let w : Whole l body brace ls = whole_sound l body brace ls sound in
    let forms : opaque_forms (joined (l ∷ (body ++ brace ∷ []))) ≡ Some (line.Define name head) ∷ (map (form_in true) body ++ Some line.Close ∷ []) = text_forms l name head body brace w.own is inside last in
    All-cons (IsRead known.names known.other_pointers) (item.Opaque n name (joined (l ∷ (body ++ brace ∷ [])))) xs
    (record { plain = text_is_opaque l name head body brace w.own is inside last; named = sym (ap name_in forms); kept = ap (is_kept (record { names = known.names; other_pointers = known.other_pointers })) forms ∙ own }) (cut_read c w.rest)

-- ---- what lines say for the whole text

-- lines that say this for the text, and so does the module as it is printed
record SaySo (globals : List (List ℕ)) (is : List Item) (ls : List (List ℕ)) : Type 0 where
  said : List Line
  own : AllZip SaySame (publics (forms_from false ls)) said
  more : (before : Bool) → AllZip SaySame (publics (more_items_forms globals before is)) said
  all : AllZip SaySame (publics (items_forms globals is)) said

both : (fs rest : List (Option Line)) (said : List Line) → AllZip SaySame (publics rest) said → AllZip SaySame (publics (fs ++ rest)) (publics fs ++ said)
both fs rest said h = subst (λ xs. AllZip SaySame xs (publics fs ++ said)) (sym (publics_append fs rest)) (zip_append SaySame (publics fs) (publics rest) (publics fs) said (say_itself fs) h)

-- lines in a function of the profile say nothing
stands_silent : (names : List (List ℕ)) (n : ℕ) (p end : Place) (forms : List Line) → body_lines names n p forms ≡ Ok end → publics (map Some forms) ≡ []
stands_silent names n p end [] s = refl
stands_silent names n p end (line.Empty ∷ fs) s = stands_silent names (n + 1) p end fs s
stands_silent names n p end (line.Kept kept ∷ fs) s = refused s
stands_silent names n p end (line.Define name head ∷ fs) s = refused s
stands_silent names n p end (line.Close ∷ fs) s = refused s
stands_silent names n p end (line.Label name ∷ fs) s = read_ok (after_label n p name) _ end s (λ q was now. stands_silent names (n + 1) q end fs now)
stands_silent names n p end (line.Stmt x ∷ fs) s = read_ok (after_inst names n p x) _ end s (λ q was now. stands_silent names (n + 1) q end fs now)
stands_silent names n p end (line.Case value label ∷ fs) s = read_ok (after_case n p) _ end s (λ q was now. stands_silent names (n + 1) q end fs now)
stands_silent names n p end (line.CasesEnd ∷ fs) s = read_ok (after_cases n p) _ end s (λ q was now. stands_silent names (n + 1) q end fs now)

-- a function of a draft as a module's
head_said : (names : List (List ℕ)) (other : Bool) (globals : List (List ℕ)) (head : Head) (f : Func) → IsFunc names other globals head f → first_name f ≡ first_of head
head_said names other globals head f is = ap (λ before. or_later (first_symbol (texts before)) (Some f.name)) is.before ∙ ap (λ name. or_later (first_symbol (texts head.before)) (Some name)) is.name

cut_says : (names : List (List ℕ)) (other : Bool) (globals : List (List ℕ)) {known : Outlook} {n : ℕ} {ls : List (List ℕ)} {xs : List DraftItem} → Cut known n ls xs → All IsSound ls → (is : List Item) → AllZip (IsOf names other globals) xs is → SaySo globals is ls
cut_says names other globals (cuts.NoLine n) sound [] zip = record { said = []; own = tt; more = λ before. tt; all = tt }
cut_says names other globals (cuts.NoLine n) sound (i ∷ is) zip = absurd zip
cut_says names other globals (cuts.EmptyLine n l ls xs e c) sound is zip =
    let r : SaySo globals is ls = cut_says names other globals c (All-tail IsSound l ls sound) is zip in
    record { said = r.said; own = subst (λ f. AllZip SaySame (publics (f ∷ forms_from (inside_after false f) ls)) r.said) (sym e) r.own; more = r.more; all = r.all }
cut_says names other globals (cuts.KeptLine n l kept ls xs e c) sound (items.Kept text ∷ is) zip =
    let r : SaySo globals is ls = cut_says names other globals c (All-tail IsSound l ls sound) is zip.1 in
    let same : kept_at text ≡ kept = ap kept_at zip.0 ∙ sym (kept_by_text l kept e) in
    record {
      said = line.Kept kept ∷ r.said;
      own = subst (λ f. AllZip SaySame (publics (f ∷ forms_from (inside_after false f) ls)) (line.Kept kept ∷ r.said)) (sym e) (refl, r.own);
      more = λ before. subst (λ fs. AllZip SaySame fs (line.Kept kept ∷ r.said)) (sym (gap_silent before false (Some (line.Kept (kept_at text)) ∷ more_items_forms globals false is))) (same, r.more false);
      all = (same, r.more false);
    }
cut_says names other globals (cuts.KeptLine n l kept ls xs e c) sound [] zip = absurd zip
cut_says names other globals (cuts.KeptLine n l kept ls xs e c) sound (items.Opaque text ∷ is) zip = absurd zip.0
cut_says names other globals (cuts.KeptLine n l kept ls xs e c) sound (items.Func f ∷ is) zip = absurd zip.0
cut_says names other globals (cuts.FunctionLines n l name head body forms brace ls xs first p q k e own params are stand shut last c) sound (items.Func f ∷ is) zip =
    let w : Whole l body brace ls = whole_sound l body brace ls sound in
    let r : SaySo globals is ls = cut_says names other globals c w.rest is zip.1 in
    let inside : All IsBodyLine body = cuts.no_close _ body forms are p (n + 1) (start first) stand in
    let forms_are : forms_from false (l ∷ (body ++ brace ∷ ls)) ≡ Some (line.Define name (Some head)) ∷ (map Some forms ++ Some line.Close ∷ forms_from false ls) =
    function_forms l name (Some head) body brace ls e inside last ∙ ap (λ fs. Some (line.Define name (Some head)) ∷ (fs ++ Some line.Close ∷ forms_from false ls)) are in
    let silent : publics (map Some forms ++ Some line.Close ∷ forms_from false ls) ≡ publics (forms_from false ls) = passed (map Some forms) (Some line.Close ∷ forms_from false ls) (stands_silent _ (n + 1) (start first) p forms stand) in
    let named : first_name f ≡ name = head_said names other globals head f zip.0 ∙ sym (name_of_line l name head e) in
    let first_said : AllZip SaySame (publics (item_forms globals (items.Func f) ++ more_items_forms globals true is)) (line.Define name (Some head) ∷ r.said) =
    ((named, zip.0.name), subst (λ fs. AllZip SaySame fs r.said) (sym (body_silent globals f (more_items_forms globals true is))) (r.more true)) in
    record {
      said = line.Define name (Some head) ∷ r.said;
      own = subst (λ fs. AllZip SaySame (publics fs) (line.Define name (Some head) ∷ r.said)) (sym forms_are) ((refl, refl), subst (λ fs. AllZip SaySame fs r.said) (sym silent) r.own);
      more = λ before. subst (λ fs. AllZip SaySame fs (line.Define name (Some head) ∷ r.said)) (sym (gap_silent before true (item_forms globals (items.Func f) ++ more_items_forms globals true is))) first_said;
      all = first_said;
    }
cut_says names other globals (cuts.FunctionLines n l name head body forms brace ls xs first p q k e own params are stand shut last c) sound [] zip = absurd zip
cut_says names other globals (cuts.FunctionLines n l name head body forms brace ls xs first p q k e own params are stand shut last c) sound (items.Kept text ∷ is) zip = absurd zip.0
cut_says names other globals (cuts.FunctionLines n l name head body forms brace ls xs first p q k e own params are stand shut last c) sound (items.Opaque text ∷ is) zip = absurd zip.0
cut_says names other globals (cuts.OpaqueLines n l name head body brace ls xs e own inside last c) sound (items.Opaque text ∷ is) zip =
    let w : Whole l body brace ls = whole_sound l body brace ls sound in
    let r : SaySo globals is ls = cut_says names other globals c w.rest is zip.1 in
    let own_forms : opaque_forms text ≡ Some (line.Define name head) ∷ (map (form_in true) body ++ Some line.Close ∷ []) = ap opaque_forms zip.0 ∙ text_forms l name head body brace w.own e inside last in
    let forms_are : forms_from false (l ∷ (body ++ brace ∷ ls)) ≡ opaque_forms text ++ forms_from false ls =
    function_forms l name head body brace ls e inside last ∙ ap (λ fs. Some (line.Define name head) ∷ fs) (sym (append_assoc (map (form_in true) body) (Some line.Close ∷ []) (forms_from false ls))) ∙ ap (λ fs. fs ++ forms_from false ls) (sym own_forms) in
    let first_said : AllZip SaySame (publics (opaque_forms text ++ more_items_forms globals true is)) (publics (opaque_forms text) ++ r.said) = both (opaque_forms text) (more_items_forms globals true is) r.said (r.more true) in
    record {
      said = publics (opaque_forms text) ++ r.said;
      own = subst (λ fs. AllZip SaySame (publics fs) (publics (opaque_forms text) ++ r.said)) (sym forms_are) (both (opaque_forms text) (forms_from false ls) r.said r.own);
      more = λ before. subst (λ fs. AllZip SaySame fs (publics (opaque_forms text) ++ r.said)) (sym (gap_silent before true (opaque_forms text ++ more_items_forms globals true is))) first_said;
      all = first_said;
    }
cut_says names other globals (cuts.OpaqueLines n l name head body brace ls xs e own inside last c) sound [] zip = absurd zip
cut_says names other globals (cuts.OpaqueLines n l name head body brace ls xs e own inside last c) sound (items.Kept text ∷ is) zip = absurd zip.0
cut_says names other globals (cuts.OpaqueLines n l name head body brace ls xs e own inside last c) sound (items.Func f ∷ is) zip = absurd zip.0

module _ (names : List (List ℕ)) (other : Bool) (globals : List (List ℕ)) where
  -- a function that was read stands under pointers of 64 bits
  function_pointers : (xs : List DraftItem) (is : List Item) → AllZip (IsOf names other globals) xs is → All (IsRead names other) xs → has_function is ≡ true → other ≡ false
  function_pointers [] [] zip all h = cc
  function_pointers [] (i ∷ is) zip all h = absurd zip
  function_pointers (x ∷ xs) [] zip all h = absurd zip
  function_pointers (item.Func n head body ∷ xs) (i ∷ is) zip all h = (All-head (IsRead names other) (item.Func n head body) xs all).pointers
  function_pointers (item.Opaque n name text ∷ xs) (items.Opaque said ∷ is) zip all h = function_pointers xs is zip.1 (All-tail (IsRead names other) (item.Opaque n name text) xs all) h
  function_pointers (item.Opaque n name text ∷ xs) (items.Kept said ∷ is) zip all h = absurd zip.0
  function_pointers (item.Opaque n name text ∷ xs) (items.Func f ∷ is) zip all h = absurd zip.0
  function_pointers (item.Kept n kept ∷ xs) (items.Kept text ∷ is) zip all h = function_pointers xs is zip.1 (All-tail (IsRead names other) (item.Kept n kept) xs all) h
  function_pointers (item.Kept n kept ∷ xs) (items.Opaque text ∷ is) zip all h = absurd zip.0
  function_pointers (item.Kept n kept ∷ xs) (items.Func f ∷ is) zip all h = absurd zip.0

-- ---- operands

module _ (m : Module) (other : Bool) where
  abbrev Barred : List (List ℕ)
  Barred = barred_in (module_forms m)

  opd_allowed : (w : Written) (o : Opd) → IsFree Barred other w → IsFound m.globals w o → IsAllowed m o
  opd_allowed w (Val id) f is = tt
  opd_allowed w (Lit literal) f is = tt
  opd_allowed (written'.Symbol name) (Sym g) f is =
      let same : shown_global m.globals g ≡ name = ap (λ (o : Option (List ℕ)). unwrap_or o []) is in
      ap (has Barred) same ∙ f.1
  opd_allowed (written'.Local name) (Sym g) f is = absurd is
  opd_allowed (written'.Lit literal) (Sym g) f is = absurd is

  inst_allowed : (i : Inst) → IsMade Barred other m.globals i → All (IsAllowed m) i.opds
  inst_allowed i h = All-weaker (IsUsed Barred other m.globals) (IsAllowed m) (λ o u. opd_allowed u.from o u.fine u.is) i.opds h.opds

  block_allowed : (b : Block) → IsFineBlock (IsNamed Barred other m.globals) (IsMade Barred other m.globals) b → IsAllowedBlock m b
  block_allowed b h = All-weaker (IsMade Barred other m.globals) (λ (i : Inst). All (IsAllowed m) i.opds) inst_allowed b.insts h.insts

  item_allowed : (x : DraftItem) (i : Item) → IsOf Barred other m.globals x i → IsAllowedItem m i
  item_allowed x (items.Kept text) is = tt
  item_allowed x (items.Opaque text) is = tt
  item_allowed (item.Func n head body) (items.Func f) is = All-weaker (IsFineBlock (IsNamed Barred other m.globals) (IsMade Barred other m.globals)) (IsAllowedBlock m) block_allowed f.blocks is.blocks
  item_allowed (item.Kept n kept) (items.Func f) is = absurd is
  item_allowed (item.Opaque n name text) (items.Func f) is = absurd is

  items_allowed : (xs : List DraftItem) (is : List Item) → AllZip (IsOf Barred other m.globals) xs is → All (IsAllowedItem m) is
  items_allowed [] [] zip = All-nil (IsAllowedItem m)
  items_allowed [] (i ∷ is) zip = absurd zip
  items_allowed (x ∷ xs) [] zip = absurd zip
  items_allowed (x ∷ xs) (i ∷ is) zip = All-cons (IsAllowedItem m) i is (item_allowed x i zip.0) (items_allowed xs is zip.1)

  -- an opaque function that was read is opaque in the module
  kept_in : (fs : List (Option Line)) → is_kept (record { names = barred_in (module_forms m); other_pointers = has_other_pointers (module_forms m) }) fs ≡ true → opaque_in (module_forms m) fs ≡ true
  kept_in [] h = h
  kept_in (None ∷ fs) h = h
  kept_in (Some (line.Define name head) ∷ fs) h = h
  kept_in (Some line.Empty ∷ fs) h = h
  kept_in (Some (line.Kept kept) ∷ fs) h = h
  kept_in (Some line.Close ∷ fs) h = h
  kept_in (Some (line.Label name) ∷ fs) h = h
  kept_in (Some (line.Stmt s) ∷ fs) h = h
  kept_in (Some (line.Case value label) ∷ fs) h = h
  kept_in (Some line.CasesEnd ∷ fs) h = h

  opaques_kept : (xs : List DraftItem) (is : List Item) → AllZip (IsOf Barred (has_other_pointers (module_forms m)) m.globals) xs is → All (IsRead Barred (has_other_pointers (module_forms m))) xs → All (IsKeptOpaque m) is
  opaques_kept [] [] zip all = All-nil (IsKeptOpaque m)
  opaques_kept [] (i ∷ is) zip all = absurd zip
  opaques_kept (x ∷ xs) [] zip all = absurd zip
  opaques_kept (x ∷ xs) (i ∷ is) zip all =
      All-cons (IsKeptOpaque m) i is (here x i zip.0 (All-head (IsRead Barred (has_other_pointers (module_forms m))) x xs all)) (opaques_kept xs is zip.1 (All-tail (IsRead Barred (has_other_pointers (module_forms m))) x xs all)) where
        here : (x : DraftItem) (i : Item) → IsOf Barred (has_other_pointers (module_forms m)) m.globals x i → IsRead Barred (has_other_pointers (module_forms m)) x → IsKeptOpaque m i
        here x (items.Kept text) is r = tt
        here x (items.Func f) is r = tt
        here (item.Opaque n name text) (items.Opaque said) is r = ap (λ t. opaque_in (module_forms m) (opaque_forms t)) is ∙ kept_in (opaque_forms text) r.kept
        here (item.Kept n kept) (items.Opaque said) is r = absurd is
        here (item.Func n head body) (items.Opaque said) is r = absurd is

-- ---- the module

-- what is known of a module that was read, where operands are free of these names
record Known (xs : List DraftItem) (m : Module) (names : List (List ℕ)) (other : Bool) : Type 0 where
  read : All (IsRead names other) xs
  is : IsModuleOf (IsLocal names other) (IsFreeStmt names other) (IsFree names other) (free_args names other) xs m

known_of : (xs : List DraftItem) (m : Module) (names : List (List ℕ)) (other : Bool) → All (IsRead names other) xs → Names xs m → Known xs m names other
known_of xs m names other read named = record {
  read = read;
  is = module_is (IsLocal names other) (IsFreeStmt names other) (IsFree names other) (free_args names other) xs m named (items_are names other xs read);
}

printable_of : (xs : List DraftItem) (m : Module) → m.big_endian_line ≡ None → Known xs m (barred_in (module_forms m)) (has_other_pointers (module_forms m)) → IsPrintable m
printable_of xs m little k =
    let names : List (List ℕ) = barred_in (module_forms m) in
    let other : Bool = has_other_pointers (module_forms m) in
    let zip : AllZip (IsOf names other m.globals) xs m.items = k.is.items_are in
    let globals : m.globals ≡ draft_globals xs = k.is.globals_are in
    record {
      items = All-weaker IsPlainItem IsPrintableItem item_printable m.items (items_plain names other m.globals xs m.items zip k.read (sym k.is.big_endian ∙ little));
      globals = globals ∙ globals_are names other m.globals xs m.items zip k.read;
      named = subst (All (IsSymbol names other)) (sym globals) (globals_named names other xs k.read);
      once = subst (AllPairs (λ (a b : List ℕ). a ≡ b → ⊥)) (tops_are names other m.globals xs m.items zip k.read) k.is.apart;
      operands = items_allowed m other xs m.items zip;
      opaques = opaques_kept m other xs m.items zip k.read;
      pointers = function_pointers names other m.globals xs m.items zip k.read;
      little_endian = little;
    }

plain_of : (xs : List DraftItem) (m : Module) (names : List (List ℕ)) (other : Bool) → Known xs m names other → IsPlain m
plain_of xs m names other k = record {
  items = items_formed names other m.globals xs m.items k.is.items_are k.read;
  names = names_apart m.items (subst (AllPairs (λ (a b : List ℕ). a ≡ b → ⊥)) (tops_are names other m.globals xs m.items k.is.items_are k.read) k.is.apart);
}

pub read_plain : (bytes : List ℕ) (m : Module) → Reads bytes m → IsPlain m
read_plain bytes m r =
    let known : Outlook = outlook_of (forms_of (lines_of bytes)) in
    let sound : All IsSound (lines_of bytes) = faultless 1 (lines_of bytes) r.says.sound in
    let c : Cut (outlook_of (forms_of (lines_of bytes))) 1 (lines_of bytes) r.items = text_cut bytes r.items r.says in
    let read : All (IsRead (outlook_of (forms_of (lines_of bytes))).names (outlook_of (forms_of (lines_of bytes))).other_pointers) r.items = cut_read c sound in
    plain_of r.items m (outlook_of (forms_of (lines_of bytes))).names (outlook_of (forms_of (lines_of bytes))).other_pointers
    (known_of r.items m (outlook_of (forms_of (lines_of bytes))).names (outlook_of (forms_of (lines_of bytes))).other_pointers read r.named)

read_printable : (bytes : List ℕ) (m : Module) → Reads bytes m → m.big_endian_line ≡ None → IsPrintable m
read_printable bytes m r little =
    let xs : List DraftItem = r.items in
    let known : Outlook = outlook_of (forms_of (lines_of bytes)) in
    let sound : All IsSound (lines_of bytes) = faultless 1 (lines_of bytes) r.says.sound in
    let c : Cut (outlook_of (forms_of (lines_of bytes))) 1 (lines_of bytes) r.items = text_cut bytes r.items r.says in
    let read : All (IsRead (outlook_of (forms_of (lines_of bytes))).names (outlook_of (forms_of (lines_of bytes))).other_pointers) r.items = cut_read c sound in
    let k : Known r.items m (outlook_of (forms_of (lines_of bytes))).names (outlook_of (forms_of (lines_of bytes))).other_pointers = known_of r.items m (outlook_of (forms_of (lines_of bytes))).names (outlook_of (forms_of (lines_of bytes))).other_pointers read r.named in
    let so : SaySo m.globals m.items (lines_of bytes) = cut_says (outlook_of (forms_of (lines_of bytes))).names (outlook_of (forms_of (lines_of bytes))).other_pointers m.globals c sound m.items k.is.items_are in
    let same : outlook_of (module_forms m) ≡ outlook_of (forms_of (lines_of bytes)) = seen_same (module_forms m) so.said so.all ∙ sym (seen_same (forms_of (lines_of bytes)) so.said so.own) in
    printable_of r.items m little (subst (λ (o : Outlook). Known r.items m o.names o.other_pointers) (sym same) k)

-- ---- ids

numbers_are : (k n : ℕ) → numbers_from k n ≡ ids_from k n
numbers_are k zero = refl
numbers_are k (suc n) = ap (λ (ids : List Id). record { region = 0; k = k } ∷ ids) (numbers_are (k + 1) n)

ids_length : (k n : ℕ) → length (ids_from k n) ≡ n
ids_length k zero = refl
ids_length k (suc n) = ap suc (ids_length (k + 1) n)

pub read_numbered : (bytes : List ℕ) (m : Module) → Reads bytes m → IsNumbered m
read_numbered bytes m r =
    let e : (n : ℕ) × (ids_of m ≡ numbers_from 0 n) = ids_in_order r.items m r.named in
    let is : ids_of m ≡ ids_from 0 e.0 = e.1 ∙ numbers_are 0 e.0 in
    is ∙ ap (ids_from 0) (sym (ap length is ∙ ids_length 0 e.0))

pub read_back : (bytes : List ℕ) (m : Module) → Reads bytes m → m.big_endian_line ≡ None → IsPrintable m × IsNumbered m
read_back bytes m r little = (read_printable bytes m r little, read_numbered bytes m r)
