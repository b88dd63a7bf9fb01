-- A text that spells a formed module reads as it; and a text spells one formed module at most.
use Rattle.std.proofs.Common.{◌≡◌, ℕ, zero, suc, ◌+◌, ◌-◌, ◌<◌, Bool, true, false, List, [], ◌∷◌, ◌++◌, length, map, max, drop, Option, Some, None, Result, Ok, nat_eq, refl, sym, ◌∙◌, ap, subst, append_assoc, arith}
use Rattle.std.proofs.lemmas.Bool.Decides.{nat_tests}
use Rattle.std.proofs.lemmas.List.{append-nil, map-append}
use Rattle.std.specs.List.{All, AllZip}
use Rattle.std.proofs.lemmas.List.Elements.{All-nil, All-cons, All-head, All-tail}
use Rattle.ir_lex.specs.Scan.{cut, fault_of}
use Rattle.ir_types.specs.declared.opd.Opd.{Opd}
use Rattle.ir_types.specs.declared.inst.Inst.{Inst}
use Rattle.ir_types.specs.declared.func.Block.{Block}
use Rattle.ir_types.specs.declared.func.Func.{Func}
use Rattle.ir_types.specs.declared.module.Item.{Item}
use Rattle.ir_types.specs.declared.module.Item.TheVariants.{Kept, Opaque, Func as FuncItem}
use Rattle.ir_types.specs.declared.module.Module.{Module}
use Rattle.ir_types.specs.Formed.{IsFormed, IsFormedItem, EndsOnce}
use Rattle.ir_draft.specs.declared.head.Head.{Head}
use Rattle.ir_draft.specs.declared.line.Line.{Line}
use Rattle.ir_draft.specs.declared.line.Line.TheVariants as line
use Rattle.ir_draft.specs.declared.draft.DraftItem.{DraftItem}
use Rattle.ir_draft.specs.declared.draft.DraftItem.TheVariants as item
use Rattle.ir_line.specs.Body.{Spells as SpellsInside}
use Rattle.ir_line.specs.Outside.{Spells as SpellsOutside}
use Rattle.ir_line.proofs.BodyLines.{body_read, body_spelled}
use Rattle.ir_line.proofs.OutsideLines.{outside_read}
use Rattle.ir_print.specs.Names.{Names, names_of, named_of, blocks_named}
use Rattle.ir_read.specs.declared.refusal.ReadRefusal.{ReadRefusal}
use Rattle.ir_read.specs.Bodies.{numbered_from}
use Rattle.ir_read.specs.Draft.{nothing_done}
use Rattle.ir_read.specs.Forms.{form_in, form_by, inside_after, forms_from, forms_of}
use Rattle.ir_read.specs.Items.{barred_in}
use Rattle.ir_read.specs.Lines.{lines_of}
use Rattle.ir_read.specs.Numbers.{after_params}
use Rattle.ir_read.specs.Opaque.{is_opaque, joined}
use Rattle.ir_read.specs.Outlook.{outlook_of}
use Rattle.ir_read.specs.Position.{is_between, start}
use Rattle.ir_read.specs.Sizes.{insts_in, blocks_in, sized, sized_all}
use Rattle.ir_read.proofs.Sizes.{TextSize, BodySized, body_sized}
use Rattle.ir_read.proofs.Placing.{Known, no_block, place, body_lines}
use Rattle.ir_types_check.specs.Tops.{tops_of}
use Rattle.ir_types_check.specs.Resolved.{resolved_items, module_of}
use Rattle.ir_types_check.proofs.Binding.{ok_is}
use Rattle.ir_types_check.proofs.Handed.{TopNames}
use Rattle.rf_text.specs.Headed.{first_name}
use Rattle.rf_text.specs.Limits.{insts_of}
use Rattle.rf_text.specs.ModuleForms.{insts_forms, kept_at, item_forms, more_items_forms, items_forms, module_forms}
use Rattle.rf_text.specs.OpaqueText.{opaque_forms, name_in, opaque_name}
use Rattle.rf_text.specs.Printable.{IsAllowed}
use Rattle.rf_text.specs.Reads.{Reads}
use Rattle.rf_text.specs.Spells.{SpelledTextsRead, SpelledOnce}
use Rattle.rf_text.specs.Spelled.{closes, AreInside, NoLine, OneLine, IsBrace, solid, IsHeaderOf, AreBlocks, NoBlock, Labelled, Unlabelled, Laid, NoItem, EmptyLine, KeptItem, Function, OpaqueItem, Spelled}
use Rattle.rf_text.proofs.Kept.Lines.{Formed, formed, has_form}
use Rattle.rf_text.proofs.Named.Found.{all_end}
use Rattle.rf_text.proofs.OpaqueLines.{IsSound, Whole, whole_sound, IsBodyLine, map_length, function_forms, no_braces, opaque_free, text_is, text_forms}
use Rattle.rf_text.proofs.Placed.Blocks.{IsFittingFunc, all_ahead}
use Rattle.rf_text.proofs.Placed.Insts.{IsFree}
use Rattle.rf_text.proofs.Placed.Items.{Remain, none_remain, empty_remains, kept_remains, function_remains, opaque_remains}
use Rattle.rf_text.proofs.Placed.Module.{AreFittingItems, items_fit, free_of}
use Rattle.rf_text.proofs.Placed.Names.{Ahead, pairs_apart}
use Rattle.rf_text.proofs.Publics.{publics, SaySame, seen_same, publics_append, passed, say_itself, zip_append}
use Rattle.rf_text.proofs.Showable.Forms.{quiet, insts_silent, body_silent, gap_silent}
use Rattle.rf_text.proofs.Spells.Built.{Mark, insts_marks, marks}
use Rattle.rf_text.proofs.Spells.Marks.{many, starts, blocks_marked, blocks_end, blocks_are}
use Rattle.rf_text.proofs.Spells.Order.{form_of}
use Rattle.rf_text.proofs.Spelling.Items.{IsDraftOf, all_begin, zip_length, items_named}
use Rattle.rf_text.proofs.Spelling.Placed.{ParamsTaken, params_taken, blocks_fit, LinesStand, marks_stand, lines_free}
use Rattle.rf_text.proofs.TextLines.Lines.{no_fault}
use Rattle.rf_text.proofs.PlainItems.{plain_items}

-- ---- lines of a function

pub numbered_solid : (n : ℕ) (fs : List Line) → map form_of (numbered_from n fs) ≡ solid fs
numbered_solid n [] = refl
numbered_solid n (line.Empty ∷ fs) = numbered_solid (n + 1) fs
numbered_solid n (line.Kept kept ∷ fs) = ap (λ gs. line.Kept kept ∷ gs) (numbered_solid (n + 1) fs)
numbered_solid n (line.Define name head ∷ fs) = ap (λ gs. line.Define name head ∷ gs) (numbered_solid (n + 1) fs)
numbered_solid n (line.Close ∷ fs) = ap (λ gs. line.Close ∷ gs) (numbered_solid (n + 1) fs)
numbered_solid n (line.Label name ∷ fs) = ap (λ gs. line.Label name ∷ gs) (numbered_solid (n + 1) fs)
numbered_solid n (line.Stmt s ∷ fs) = ap (λ gs. line.Stmt s ∷ gs) (numbered_solid (n + 1) fs)
numbered_solid n (line.Case value label ∷ fs) = ap (λ gs. line.Case value label ∷ gs) (numbered_solid (n + 1) fs)
numbered_solid n (line.CasesEnd ∷ fs) = ap (λ gs. line.CasesEnd ∷ gs) (numbered_solid (n + 1) fs)

pub inside_form : (l : List ℕ) (form : Line) → fault_of l ≡ None → SpellsInside l (cut l) form → form_in true l ≡ Some form
unfolding form_by
inside_form l form sound s = has_form true l form (record { sound = sound; read = body_read l (cut l) s })

pub outside_form : (l : List ℕ) (form : Line) → fault_of l ≡ None → SpellsOutside l (cut l) form → form_in false l ≡ Some form
unfolding form_by
outside_form l form sound s = has_form false l form (record { sound = sound; read = outside_read l (cut l) s })

not_close : (l : List ℕ) (form : Line) → form_in true l ≡ Some form → closes form ≡ false → IsBodyLine l
not_close l line.Close e c = cc
not_close l line.Empty e c = λ d. let x : Some line.Empty ≡ Some line.Close = sym e ∙ d in cc
not_close l (line.Kept kept) e c = λ d. let x : Some (line.Kept kept) ≡ Some line.Close = sym e ∙ d in cc
not_close l (line.Define name head) e c = λ d. let x : Some (line.Define name head) ≡ Some line.Close = sym e ∙ d in cc
not_close l (line.Label name) e c = λ d. let x : Some (line.Label name) ≡ Some line.Close = sym e ∙ d in cc
not_close l (line.Stmt s) e c = λ d. let x : Some (line.Stmt s) ≡ Some line.Close = sym e ∙ d in cc
not_close l (line.Case value label) e c = λ d. let x : Some (line.Case value label) ≡ Some line.Close = sym e ∙ d in cc
not_close l line.CasesEnd e c = λ d. let x : Some line.CasesEnd ≡ Some line.Close = sym e ∙ d in cc

record BodyForms (body : List (List ℕ)) (forms : List Line) : Type 0 where
  are : map (form_in true) body ≡ map Some forms
  inside : All IsBodyLine body

body_forms : {body : List (List ℕ)} {forms : List Line} → AreInside body forms → All IsSound body → BodyForms body forms
body_forms NoLine all = record { are = refl; inside = All-nil IsBodyLine }
body_forms (OneLine l form lines forms s c h) all =
    let r : BodyForms lines forms = body_forms h (All-tail IsSound l lines all) in
    let is : form_in true l ≡ Some form = inside_form l form (All-head IsSound l lines all) s in
    record {
      are = ap (λ f. f ∷ map (form_in true) lines) is ∙ ap (λ fs. Some form ∷ fs) r.are;
      inside = All-cons IsBodyLine l lines (not_close l form is c) r.inside;
    }

-- lines none of which is the brace
no_close : (body : List (List ℕ)) → All (λ m. IsBrace m → ⊥) body → All IsBodyLine body
unfolding form_by
no_close [] all = All-nil IsBodyLine
no_close (l ∷ body) all =
    All-cons IsBodyLine l body (λ e. All-head (λ m. IsBrace m → ⊥) l body all (body_spelled l (cut l) line.Close (formed true l line.Close e).read)) (no_close body (All-tail (λ m. IsBrace m → ⊥) l body all))

-- ---- where the lines stand

drop_one : (n : ℕ) (xs : List (List ℕ)) (y : List ℕ) (ys : List (List ℕ)) → 0 < n → drop (n - 1) xs ≡ y ∷ ys → drop (n + 1 - 1) xs ≡ ys
drop_one n xs y ys some e = let same : n + 1 - 1 ≡ suc (n - 1) = omega (arith, some) in ap (λ k. drop k xs) same ∙ drop_next (n - 1) xs y ys e where
  drop_next : (k : ℕ) (xs : List (List ℕ)) (y : List ℕ) (ys : List (List ℕ)) → drop k xs ≡ y ∷ ys → drop (suc k) xs ≡ ys
  drop_next zero [] y ys e = cc
  drop_next zero (x ∷ xs) y ys e = cc
  drop_next (suc k) [] y ys e = cc
  drop_next (suc k) (x ∷ xs) y ys e = drop_next k xs y ys e

drop_body : (n : ℕ) (xs body : List (List ℕ)) (y : List ℕ) (ys : List (List ℕ)) → 0 < n → drop (n - 1) xs ≡ body ++ y ∷ ys → drop (n + length body + 1 - 1) xs ≡ ys
drop_body n xs [] y ys some e = let same : n + 0 ≡ n = omega arith in ap (λ k. drop (k + 1 - 1) xs) same ∙ drop_one n xs y ys some e
drop_body n xs (b ∷ body) y ys some e = let same : n + suc (length body) ≡ n + 1 + length body = omega arith in ap (λ k. drop (k + 1 - 1) xs) same ∙ drop_body (n + 1) xs body y ys (omega arith) (drop_one n xs b (body ++ y ∷ ys) some e)

-- ---- sizes

-- with one more item
abbrev pub sized_item : TextSize → Item → TextSize
sized_item s (FuncItem f) = record { insts = s.insts + insts_of f.blocks; values = max s.values (length f.params + insts_of f.blocks); blocks = max s.blocks (length f.blocks) }
sized_item s _ = s

abbrev pub sized_items : TextSize → List Item → TextSize
sized_items s [] = s
sized_items s (i ∷ is) = sized_items (sized_item s i) is

insts_many : (is : List Inst) (ms : List Mark) → many (insts_marks is ms) ≡ length is + many ms
insts_many [] ms = omega arith
insts_many (i ∷ is) ms = let more : many (insts_marks is ms) ≡ length is + many ms = insts_many is ms in omega (arith, more)

insts_counted : (bs : List Block) → many (marks bs) ≡ insts_of bs
insts_counted [] = refl
insts_counted (b ∷ bs) = let one : many (insts_marks b.insts (marks bs)) ≡ length b.insts + many (marks bs) = insts_many b.insts (marks bs) in let more : many (marks bs) ≡ insts_of bs = insts_counted bs in omega (arith, one, more)

size_of_function : (s : TextSize) (n : ℕ) (f : Func) (head : Head) (front : List Line) → length head.params ≡ length f.params → insts_in (numbered_from (n + 1) front) ≡ insts_of f.blocks → blocks_in true (numbered_from (n + 1) front) ≡ length f.blocks →
    sized s (item.Func n head (numbered_from (n + 1) front)) ≡ sized_item s (FuncItem f)
size_of_function s n f head front p i b =
    ap (λ k. record { insts = s.insts + k; values = max s.values (length head.params + k); blocks = max s.blocks (blocks_in true (numbered_from (n + 1) front)) }) i
    ∙ ap (λ k. record { insts = s.insts + insts_of f.blocks; values = max s.values (k + insts_of f.blocks); blocks = max s.blocks (blocks_in true (numbered_from (n + 1) front)) }) p
    ∙ ap (λ k. record { insts = s.insts + insts_of f.blocks; values = max s.values (length f.params + insts_of f.blocks); blocks = max s.blocks k }) b

module _ (known : Known) (gs : List (List ℕ)) (lines : List (List ℕ)) where
  record ItemsRemain (n : ℕ) (before : List DraftItem) (ls : List (List ℕ)) (is : List Item) : Type 0 where
    xs : List DraftItem
    zip : AllZip (IsDraftOf gs) xs is
    sizes : (s : TextSize) → sized_all s xs ≡ sized_items s is
    remain : Remain known lines n before (forms_from false ls) (before ++ xs)

  -- the header opens the function, and the lines of its body stand where they may
  record BodyStands (n : ℕ) (f : Func) (head : Head) (front : List Line) : Type 0 where
    first : ℕ
    params : after_params n 0 head.params ≡ Ok first
    next : ℕ
    insts : ℕ
    blocks : ℕ
    stand : body_lines known.names (n + 1) (start first) front ≡ Ok (place next insts blocks no_block)
    some : nat_eq blocks 0 ≡ false
    sizes : (s : TextSize) → sized s (item.Func n head (numbered_from (n + 1) front)) ≡ sized_item s (FuncItem f)

  some_starts : (bs : List Block) → 0 < length bs → 0 < starts (marks bs)
  some_starts [] h = absurd (omega (arith, h))
  some_starts (b ∷ bs) h = omega arith

  not_zero : (k : ℕ) → 0 < k → nat_eq k 0 ≡ false
  not_zero k h = grind (arith, nat_tests)

  body_stands : (n : ℕ) (f : Func) (head : Head) (body front : List Line) → IsFittingFunc known.names gs f → IsHeaderOf f head → AreBlocks (names_of f) gs 0 f.blocks body → All (λ (b : Block). EndsOnce b.insts) f.blocks → solid front ≡ body → BodyStands n f head front
  body_stands n f head body front fits header blocks ends e =
      let ahead : Ahead (names_of f) 0 0 (named_of f) = all_ahead f fits.apart fits.small in
      let taken : ParamsTaken (names_of f) n 0 0 head.params (blocks_named f.blocks) = params_taken (names_of f) n 0 0 f.params head.params (blocks_named f.blocks) header.params fits.params ahead in
      let lines : LinesStand known.names (names_of f) gs 0 0 (marks f.blocks) (body_lines known.names 0 (place taken.next 0 0 no_block) body) =
      marks_stand known.names (names_of f) gs (marks f.blocks) body 0 taken.next 0 0 false true (blocks_marked gs (names_of f) blocks) (blocks_end f.blocks ends) (blocks_fit known.names (names_of f) gs 0 f.blocks fits.blocks true)
      (subst (Ahead (names_of f) 0 taken.next) (sym (blocks_are f.blocks)) taken.ahead) in
      let many' : 0 < starts (marks f.blocks) = some_starts f.blocks fits.some in
      let stand : body_lines known.names (n + 1) (start taken.next) front ≡ Ok (place lines.next lines.insts lines.blocks no_block) =
      lines_free known.names 0 (n + 1) (start taken.next) (place lines.next lines.insts lines.blocks no_block) front (ap (body_lines known.names 0 (start taken.next)) e ∙ lines.stand) in
      let size : BodySized (start taken.next) (place lines.next lines.insts lines.blocks no_block) (numbered_from (n + 1) front) = body_sized known.names (n + 1) (start taken.next) (place lines.next lines.insts lines.blocks no_block) front stand in
      record {
        first = taken.next;
        params = taken.taken;
        next = lines.next;
        insts = lines.insts;
        blocks = lines.blocks;
        stand = stand;
        some = not_zero lines.blocks (let count : lines.blocks ≡ 0 + starts (marks f.blocks) = lines.count in omega (arith, count, many'));
        sizes = λ s. size_of_function s n f head front (zip_length (names_of f) f.params head.params header.params)
            (let a : lines.insts ≡ 0 + insts_in (numbered_from (n + 1) front) = size.insts in let b : lines.insts ≡ 0 + many (marks f.blocks) = lines.done in let c : many (marks f.blocks) ≡ insts_of f.blocks = insts_counted f.blocks in omega (arith, a, b, c))
            (let a : lines.blocks ≡ 0 + blocks_in (is_between (start taken.next).spot) (numbered_from (n + 1) front) = size.blocks in let b : lines.blocks ≡ 0 + starts (marks f.blocks) = lines.count in let c : starts (marks f.blocks) ≡ length f.blocks = all_begin f.blocks in omega (arith, a, b, c));
      }

  AreEnding : List Item → Type 0
  AreEnding [] = Unit {0}
  AreEnding (FuncItem f ∷ is) = All (λ (b : Block). EndsOnce b.insts) f.blocks × AreEnding is
  AreEnding (_ ∷ is) = AreEnding is

  items_remain : {all : List (Option Line)} {is : List Item} {ls : List (List ℕ)} → Laid all gs is ls → outlook_of all ≡ known → All IsSound ls → AreFittingItems known gs is → AreEnding is → (n : ℕ) (before : List DraftItem) → 0 < n → drop (n - 1) lines ≡ ls → ItemsRemain n before ls is
  unfolding AreEnding
  items_remain NoItem same sound fits ends n before some whole =
      record { xs = []; zip = tt; sizes = λ s. refl; remain = subst (Remain known lines n before []) (sym (append-nil before)) (none_remain known lines n before) }
  items_remain (EmptyLine l is ls s h) same sound fits ends n before some whole =
      let e : form_in false l ≡ Some line.Empty = outside_form l line.Empty (All-head IsSound l ls sound) s in
      let r : ItemsRemain (n + 1) before ls is = items_remain h same (All-tail IsSound l ls sound) fits ends (n + 1) before (omega arith) (drop_one n lines l ls some whole) in
      record {
        xs = r.xs;
        zip = r.zip;
        sizes = r.sizes;
        remain = subst (λ fs. Remain known lines n before fs (before ++ r.xs)) (ap (λ f. f ∷ forms_from (inside_after false f) ls) (sym e)) (empty_remains known lines n before (before ++ r.xs) (forms_from false ls) r.remain);
      }
  items_remain (KeptItem l text is ls s h) same sound fits ends n before some whole =
      let e : form_in false l ≡ Some (line.Kept (kept_at text)) = outside_form l (line.Kept (kept_at text)) (All-head IsSound l ls sound) s in
      let r : ItemsRemain (n + 1) (before ++ item.Kept n (kept_at text) ∷ []) ls is =
      items_remain h same (All-tail IsSound l ls sound) fits.1 ends (n + 1) (before ++ item.Kept n (kept_at text) ∷ []) (omega arith) (drop_one n lines l ls some whole) in
      let rest : Remain known lines (n + 1) (before ++ item.Kept n (kept_at text) ∷ []) (forms_from false ls) (before ++ item.Kept n (kept_at text) ∷ r.xs) =
      subst (Remain known lines (n + 1) (before ++ item.Kept n (kept_at text) ∷ []) (forms_from false ls)) (append_assoc before (item.Kept n (kept_at text) ∷ []) r.xs) r.remain in
      record {
        xs = item.Kept n (kept_at text) ∷ r.xs;
        zip = (refl, r.zip);
        sizes = r.sizes;
        remain = subst (λ fs. Remain known lines n before fs (before ++ item.Kept n (kept_at text) ∷ r.xs)) (ap (λ f. f ∷ forms_from (inside_after false f) ls) (sym e))
            (kept_remains known lines n before (before ++ item.Kept n (kept_at text) ∷ r.xs) (kept_at text) (forms_from false ls) rest);
      }
  items_remain (Function l brace f head body forms is ls s header inside blocks last h) same sound fits ends n before some whole =
      let w : Whole l body brace ls = whole_sound l body brace ls sound in
      let b : BodyForms body forms = body_forms inside w.body' in
      let e : form_in false l ≡ Some (line.Define (first_name f) (Some head)) = outside_form l (line.Define (first_name f) (Some head)) w.header s in
      let c : form_in true brace ≡ Some line.Close = inside_form brace line.Close w.last last in
      let all_forms : forms_from false (l ∷ (body ++ brace ∷ ls)) ≡ Some (line.Define (first_name f) (Some head)) ∷ (map Some forms ++ Some line.Close ∷ forms_from false ls) =
      function_forms l (first_name f) (Some head) body brace ls e b.inside c ∙ ap (λ fs. Some (line.Define (first_name f) (Some head)) ∷ (fs ++ Some line.Close ∷ forms_from false ls)) b.are in
      let size : n + 1 + length body + 1 ≡ n + 1 + length forms + 1 = lengths body forms b.are in
      let x : DraftItem = item.Func n head (numbered_from (n + 1) forms) in
      let stands : BodyStands n f head forms = body_stands n f head (solid forms) forms fits.0.1 header blocks ends.0 refl in
      let r : ItemsRemain (n + 1 + length body + 1) (before ++ item.Func n head (numbered_from (n + 1) forms) ∷ []) ls is =
      items_remain h same w.rest fits.1 ends.1 (n + 1 + length body + 1) (before ++ item.Func n head (numbered_from (n + 1) forms) ∷ []) (omega arith) (drop_body (n + 1) lines body brace ls (omega arith) (drop_one n lines l (body ++ brace ∷ ls) some whole)) in
      let rest : Remain known lines (n + 1 + length forms + 1) (before ++ item.Func n head (numbered_from (n + 1) forms) ∷ []) (forms_from false ls) (before ++ item.Func n head (numbered_from (n + 1) forms) ∷ r.xs) =
      subst (λ k. Remain known lines k (before ++ item.Func n head (numbered_from (n + 1) forms) ∷ []) (forms_from false ls) (before ++ item.Func n head (numbered_from (n + 1) forms) ∷ r.xs)) size
      (subst (Remain known lines (n + 1 + length body + 1) (before ++ item.Func n head (numbered_from (n + 1) forms) ∷ []) (forms_from false ls)) (append_assoc before (item.Func n head (numbered_from (n + 1) forms) ∷ []) r.xs) r.remain) in
      record {
        xs = item.Func n head (numbered_from (n + 1) forms) ∷ r.xs;
        zip = ((header, subst (AreBlocks (names_of f) gs 0 f.blocks) (sym (numbered_solid (n + 1) forms)) blocks), r.zip);
        sizes = λ s. ap (λ k. sized_all k r.xs) (stands.sizes s) ∙ r.sizes (sized_item s (FuncItem f));
        remain = subst (λ fs. Remain known lines n before fs (before ++ item.Func n head (numbered_from (n + 1) forms) ∷ r.xs)) (sym all_forms)
            (function_remains known lines n before (before ++ item.Func n head (numbered_from (n + 1) forms) ∷ r.xs) (first_name f) head forms (forms_from false ls) stands.first stands.next stands.insts stands.blocks fits.0.0 stands.params stands.stand stands.some rest);
      }
    where
      lengths : (body : List (List ℕ)) (forms : List Line) → map (form_in true) body ≡ map Some forms → n + 1 + length body + 1 ≡ n + 1 + length forms + 1
      lengths body forms e = let a : length (map (form_in true) body) ≡ length body = map_length (form_in true) body in let b : length (map Some forms) ≡ length forms = map_length Some forms in let c : length (map (form_in true) body) ≡ length (map Some forms) = ap length e in omega (arith, a, b, c)
  items_remain {all} (OpaqueItem l brace name head body is ls s none last own h) same sound fits ends n before some whole =
      let w : Whole l body brace ls = whole_sound l body brace ls sound in
      let inside : All IsBodyLine body = no_close body none in
      let e : form_in false l ≡ Some (line.Define name head) = outside_form l (line.Define name head) w.header s in
      let c : form_in true brace ≡ Some line.Close = inside_form brace line.Close w.last last in
      let text : List ℕ = joined (l ∷ (body ++ brace ∷ [])) in
      let all_forms : forms_from false (l ∷ (body ++ brace ∷ ls)) ≡ Some (line.Define name head) ∷ (map (form_in true) body ++ Some line.Close ∷ forms_from false ls) = function_forms l name head body brace ls e inside c in
      let opaque : is_opaque known head (map (form_in true) body ++ Some line.Close ∷ forms_from false ls) ≡ true =
      opaque_free known head (map (form_in true) body) (forms_from false ls) [] ∙ ap (λ k. is_opaque k head (map (form_in true) body ++ Some line.Close ∷ [])) (sym same) ∙ own in
      let named : name ≡ opaque_name (joined (l ∷ (body ++ brace ∷ []))) = sym (ap name_in (text_forms l name head body brace w.own e inside c)) in
      let size : n + 1 + length body + 1 ≡ n + 1 + length (map (form_in true) body) + 1 = sym (ap (λ k. n + 1 + k + 1) (map_length (form_in true) body)) in
      let r : ItemsRemain (n + 1 + length body + 1) (before ++ item.Opaque n name (joined (l ∷ (body ++ brace ∷ []))) ∷ []) ls is =
      items_remain h same w.rest fits.1 ends (n + 1 + length body + 1) (before ++ item.Opaque n name (joined (l ∷ (body ++ brace ∷ []))) ∷ []) (omega arith) (drop_body (n + 1) lines body brace ls (omega arith) (drop_one n lines l (body ++ brace ∷ ls) some whole)) in
      let rest : Remain known lines (n + 1 + length (map (form_in true) body) + 1) (before ++ item.Opaque n name (joined (l ∷ (body ++ brace ∷ []))) ∷ []) (forms_from false ls) (before ++ item.Opaque n name (joined (l ∷ (body ++ brace ∷ []))) ∷ r.xs) =
      subst (λ k. Remain known lines k (before ++ item.Opaque n name (joined (l ∷ (body ++ brace ∷ []))) ∷ []) (forms_from false ls) (before ++ item.Opaque n name (joined (l ∷ (body ++ brace ∷ []))) ∷ r.xs)) size
      (subst (Remain known lines (n + 1 + length body + 1) (before ++ item.Opaque n name (joined (l ∷ (body ++ brace ∷ []))) ∷ []) (forms_from false ls)) (append_assoc before (item.Opaque n name (joined (l ∷ (body ++ brace ∷ []))) ∷ []) r.xs) r.remain) in
      record {
        xs = item.Opaque n name (joined (l ∷ (body ++ brace ∷ []))) ∷ r.xs;
        zip = ((named, refl), r.zip);
        sizes = r.sizes;
        remain = subst (λ fs. Remain known lines n before fs (before ++ item.Opaque n name (joined (l ∷ (body ++ brace ∷ []))) ∷ r.xs)) (sym all_forms)
            (opaque_remains known lines n before (before ++ item.Opaque n name (joined (l ∷ (body ++ brace ∷ []))) ∷ r.xs) name head (joined (l ∷ (body ++ brace ∷ []))) (map (form_in true) body) (forms_from false ls) (no_braces body inside) opaque
            (text_is lines n l body brace ls (forms_from false ls) whole inside) rest);
      }

-- ---- what the lines say for the whole text

blocks_silent : {ns : Names} {gs : List (List ℕ)} {at : ℕ} {bs : List Block} {fs : List Line} → AreBlocks ns gs at bs fs → publics (map Some fs) ≡ []
blocks_silent (NoBlock at) = refl
blocks_silent {ns} {gs} (Labelled at b bs more h) = quiet (insts_forms ns gs b.insts) more (insts_silent ns gs b.insts) ∙ blocks_silent h
blocks_silent {ns} {gs} (Unlabelled at b bs more none h) = quiet (insts_forms ns gs b.insts) more (insts_silent ns gs b.insts) ∙ blocks_silent h

solid_public : (fs : List Line) → publics (map Some (solid fs)) ≡ publics (map Some fs)
solid_public [] = refl
solid_public (line.Empty ∷ fs) = solid_public fs
solid_public (line.Kept kept ∷ fs) = ap (λ gs. line.Kept kept ∷ gs) (solid_public fs)
solid_public (line.Define name head ∷ fs) = ap (λ gs. line.Define name head ∷ gs) (solid_public fs)
solid_public (line.Close ∷ fs) = solid_public fs
solid_public (line.Label name ∷ fs) = solid_public fs
solid_public (line.Stmt s ∷ fs) = solid_public fs
solid_public (line.Case value label ∷ fs) = solid_public fs
solid_public (line.CasesEnd ∷ fs) = solid_public fs

both : (fs rest : List (Option Line)) (said : List Line) → AllZip SaySame (publics rest) said → AllZip SaySame (publics (fs ++ rest)) (publics fs ++ said)
both fs rest said h = subst (λ xs. AllZip SaySame xs (publics fs ++ said)) (sym (publics_append fs rest)) (zip_append SaySame (publics fs) (publics rest) (publics fs) said (say_itself fs) h)

-- lines that say this for the text, and so does the module as it is printed
record SaySo (gs : List (List ℕ)) (is : List Item) (ls : List (List ℕ)) : Type 0 where
  said : List Line
  own : AllZip SaySame (publics (forms_from false ls)) said
  more : (before : Bool) → AllZip SaySame (publics (more_items_forms gs before is)) said
  all : AllZip SaySame (publics (items_forms gs is)) said

say_so : {all : List (Option Line)} {gs : List (List ℕ)} {is : List Item} {ls : List (List ℕ)} → Laid all gs is ls → All IsSound ls → SaySo gs is ls
say_so NoItem sound = record { said = []; own = tt; more = λ before. tt; all = tt }
say_so {all} {gs} (EmptyLine l is ls s h) sound =
    let r : SaySo gs is ls = say_so h (All-tail IsSound l ls sound) in
    let e : form_in false l ≡ Some line.Empty = outside_form l line.Empty (All-head IsSound l ls sound) s in
    record { said = r.said; own = subst (λ f. AllZip SaySame (publics (f ∷ forms_from (inside_after false f) ls)) r.said) (sym e) r.own; more = r.more; all = r.all }
say_so {all} {gs} (KeptItem l text is ls s h) sound =
    let r : SaySo gs is ls = say_so h (All-tail IsSound l ls sound) in
    let e : form_in false l ≡ Some (line.Kept (kept_at text)) = outside_form l (line.Kept (kept_at text)) (All-head IsSound l ls sound) s in
    record {
      said = line.Kept (kept_at text) ∷ r.said;
      own = subst (λ f. AllZip SaySame (publics (f ∷ forms_from (inside_after false f) ls)) (line.Kept (kept_at text) ∷ r.said)) (sym e) (refl, r.own);
      more = λ before. subst (λ fs. AllZip SaySame fs (line.Kept (kept_at text) ∷ r.said)) (sym (gap_silent before false (Some (line.Kept (kept_at text)) ∷ more_items_forms gs false is))) (refl, r.more false);
      all = (refl, r.more false);
    }
say_so {all} {gs} (Function l brace f head body forms is ls s header inside blocks last h) sound =
    let w : Whole l body brace ls = whole_sound l body brace ls sound in
    let r : SaySo gs is ls = say_so h w.rest in
    let b : BodyForms body forms = body_forms inside w.body' in
    let e : form_in false l ≡ Some (line.Define (first_name f) (Some head)) = outside_form l (line.Define (first_name f) (Some head)) w.header s in
    let c : form_in true brace ≡ Some line.Close = inside_form brace line.Close w.last last in
    let forms_are : forms_from false (l ∷ (body ++ brace ∷ ls)) ≡ Some (line.Define (first_name f) (Some head)) ∷ (map Some forms ++ Some line.Close ∷ forms_from false ls) =
    function_forms l (first_name f) (Some head) body brace ls e b.inside c ∙ ap (λ fs. Some (line.Define (first_name f) (Some head)) ∷ (fs ++ Some line.Close ∷ forms_from false ls)) b.are in
    let silent : publics (map Some forms ++ Some line.Close ∷ forms_from false ls) ≡ publics (forms_from false ls) = passed (map Some forms) (Some line.Close ∷ forms_from false ls) (sym (solid_public forms) ∙ blocks_silent blocks) in
    let first : AllZip SaySame (publics (item_forms gs (FuncItem f) ++ more_items_forms gs true is)) (line.Define (first_name f) (Some head) ∷ r.said) =
    ((refl, sym header.name), subst (λ fs. AllZip SaySame fs r.said) (sym (body_silent gs f (more_items_forms gs true is))) (r.more true)) in
    record {
      said = line.Define (first_name f) (Some head) ∷ r.said;
      own = subst (λ fs. AllZip SaySame (publics fs) (line.Define (first_name f) (Some head) ∷ r.said)) (sym forms_are) ((refl, refl), subst (λ fs. AllZip SaySame fs r.said) (sym silent) r.own);
      more = λ before. subst (λ fs. AllZip SaySame fs (line.Define (first_name f) (Some head) ∷ r.said)) (sym (gap_silent before true (item_forms gs (FuncItem f) ++ more_items_forms gs true is))) first;
      all = first;
    }
say_so {all} {gs} (OpaqueItem l brace name head body is ls s none last own h) sound =
    let w : Whole l body brace ls = whole_sound l body brace ls sound in
    let r : SaySo gs is ls = say_so h w.rest in
    let inside : All IsBodyLine body = no_close body none in
    let e : form_in false l ≡ Some (line.Define name head) = outside_form l (line.Define name head) w.header s in
    let c : form_in true brace ≡ Some line.Close = inside_form brace line.Close w.last last in
    let forms : List (Option Line) = opaque_forms (joined (l ∷ (body ++ brace ∷ []))) in
    let own_forms : opaque_forms (joined (l ∷ (body ++ brace ∷ []))) ≡ Some (line.Define name head) ∷ (map (form_in true) body ++ Some line.Close ∷ []) = text_forms l name head body brace w.own e inside c in
    let forms_are : forms_from false (l ∷ (body ++ brace ∷ ls)) ≡ opaque_forms (joined (l ∷ (body ++ brace ∷ []))) ++ forms_from false ls =
    function_forms l name head body brace ls e inside c ∙ ap (λ fs. Some (line.Define name head) ∷ fs) (sym (append_assoc (map (form_in true) body) (Some line.Close ∷ []) (forms_from false ls))) ∙ ap (λ fs. fs ++ forms_from false ls) (sym own_forms) in
    let first : AllZip SaySame (publics (opaque_forms (joined (l ∷ (body ++ brace ∷ []))) ++ more_items_forms gs true is)) (publics (opaque_forms (joined (l ∷ (body ++ brace ∷ [])))) ++ r.said) =
    both (opaque_forms (joined (l ∷ (body ++ brace ∷ [])))) (more_items_forms gs true is) r.said (r.more true) in
    record {
      said = publics (opaque_forms (joined (l ∷ (body ++ brace ∷ [])))) ++ r.said;
      own = subst (λ fs. AllZip SaySame (publics fs) (publics (opaque_forms (joined (l ∷ (body ++ brace ∷ [])))) ++ r.said)) (sym forms_are) (both (opaque_forms (joined (l ∷ (body ++ brace ∷ [])))) (forms_from false ls) r.said r.own);
      more = λ before. subst (λ fs. AllZip SaySame fs (publics (opaque_forms (joined (l ∷ (body ++ brace ∷ [])))) ++ r.said)) (sym (gap_silent before true (opaque_forms (joined (l ∷ (body ++ brace ∷ []))) ++ more_items_forms gs true is))) first;
      all = first;
    }

-- ---- the module

ending : (m : Module) (known : Known) (gs lines : List (List ℕ)) (is : List Item) → All (IsFormedItem m) is → AreEnding known gs lines is
unfolding AreEnding
ending m known gs lines [] all = tt
ending m known gs lines (Kept text ∷ is) all = ending m known gs lines is (All-tail (IsFormedItem m) (Kept text) is all)
ending m known gs lines (Opaque text ∷ is) all = ending m known gs lines is (All-tail (IsFormedItem m) (Opaque text) is all)
ending m known gs lines (FuncItem f ∷ is) all = (all_end m f (All-head (IsFormedItem m) (FuncItem f) is all), ending m known gs lines is (All-tail (IsFormedItem m) (FuncItem f) is all))

-- a text has the outlook of the module that it spells
pub same_outlook : {all : List (Option Line)} (bytes : List ℕ) (m : Module) → Laid all m.globals m.items (lines_of bytes) → All IsSound (lines_of bytes) → outlook_of (module_forms m) ≡ outlook_of (forms_of (lines_of bytes))
same_outlook bytes m laid sound =
    let so : SaySo m.globals m.items (lines_of bytes) = say_so laid sound in
    seen_same (module_forms m) so.said so.all ∙ sym (seen_same (forms_of (lines_of bytes)) so.said so.own)

-- the items of the draft that it reads as
pub record ReadsAs (bytes : List ℕ) (m : Module) : Type 0 where
  pub reads : Reads bytes m
  pub zip : AllZip (IsDraftOf m.globals) reads.items m.items
  pub sizes : (s : TextSize) → sized_all s reads.items ≡ sized_items s m.items

pub spelled_items : (bytes : List ℕ) (m : Module) → Spelled bytes m → IsFormed m → ReadsAs bytes m
spelled_items bytes m s formed =
    let known : Known = outlook_of (forms_of (lines_of bytes)) in
    let same : outlook_of (module_forms m) ≡ outlook_of (forms_of (lines_of bytes)) = same_outlook bytes m s.laid s.sound in
    let free : (o : Opd) → IsAllowed m o → IsFree (barred_in (forms_of (lines_of bytes))) m.globals o = λ o h. subst (λ (k : Known). IsFree k.names m.globals o) same (free_of m o h) in
    let fits : AreFittingItems (outlook_of (forms_of (lines_of bytes))) m.globals m.items =
    items_fit m (outlook_of (forms_of (lines_of bytes))) free m.items formed.items (plain_items m formed s.printable) s.printable.operands s.counted (pairs_apart _ formed.once) (λ h. ap (λ (k : Known). k.other_pointers) (sym same) ∙ s.printable.pointers h) in
    let r : ItemsRemain (outlook_of (forms_of (lines_of bytes))) m.globals (lines_of bytes) 1 [] (lines_of bytes) m.items =
    items_remain (outlook_of (forms_of (lines_of bytes))) m.globals (lines_of bytes) s.laid same s.sound fits (ending m (outlook_of (forms_of (lines_of bytes))) m.globals (lines_of bytes) m.items formed.items) 1 [] (omega arith) refl in
    record {
      reads = record {
        items = r.xs;
        says = record { sound = no_fault 1 (lines_of bytes) s.sound; placed = r.remain nothing_done refl };
        named = items_named m r.xs formed s.printable s.numbered s.counted r.zip;
      };
      zip = r.zip;
      sizes = r.sizes;
    }

pub spelled_reads : SpelledTextsRead
spelled_reads bytes m s formed = (spelled_items bytes m s formed).reads

-- ---- one module at most

abbrev read_ok : {A : Type 0} → A → Result A ReadRefusal
read_ok x = Ok x

read_is : {A : Type 0} {x y : A} → read_ok x ≡ read_ok y → x ≡ y
read_is e = cc

-- a text reads as one module at most
reads_once : (bytes : List ℕ) (m n : Module) → Reads bytes m → Reads bytes n → m ≡ n
reads_once bytes m n a b =
    let items : a.items ≡ b.items = read_is (sym a.says.placed ∙ b.says.placed) in
    let tops : a.named.tops ≡ b.named.tops = ok_is (sym a.named.once ∙ ap tops_of items ∙ b.named.once) in
    let done : a.named.resolved ≡ b.named.resolved =
    ok_is (sym a.named.known ∙ ap (λ (t : TopNames). resolved_items t.scope (record { items = []; lines = [] }) a.items) tops ∙ ap (resolved_items b.named.tops.scope (record { items = []; lines = [] })) items ∙ b.named.known) in
    sym a.named.is ∙ ap (λ t. (module_of t a.items a.named.resolved).«module») tops ∙ ap (λ xs. (module_of b.named.tops xs a.named.resolved).«module») items
    ∙ ap (λ d. (module_of b.named.tops b.items d).«module») done ∙ b.named.is

pub spelled_once : SpelledOnce
spelled_once bytes m n a b formed_m formed_n = reads_once bytes m n (spelled_reads bytes m a formed_m) (spelled_reads bytes n b formed_n)
