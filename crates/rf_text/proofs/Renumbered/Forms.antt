-- A module with its ids given anew can be printed, has the ids of a module that was read, and has the same lines.
use Rattle.std.proofs.Common.{◌≡◌, refl, sym, ap, ◌∙◌, subst, ℕ, zero, suc, ◌+◌, ◌^◌, ◌<◌, Bool, true, false, ◌||◌, Option, None, Some, List, [], ◌∷◌, ◌++◌, length, map, cond, get_or, slice_get, option_map, unwrap_or}
use Rattle.std.specs.List.{All, AllPairs}
use Rattle.std.proofs.lemmas.List.Elements.{All-map}
use Rattle.ir_types.specs.declared.id.Id.{Id}
use Rattle.ir_types.specs.declared.ty.Ty.{Ty}
use Rattle.ir_types.specs.declared.opd.Opd.{Opd}
use Rattle.ir_types.specs.declared.opd.Opd.TheVariants.{Val, Lit, Sym}
use Rattle.ir_types.specs.declared.op.Op.{Op}
use Rattle.ir_types.specs.declared.op.Op.TheVariants.{Switch}
use Rattle.ir_types.specs.declared.inst.Inst.{Inst}
use Rattle.ir_types.specs.declared.func.Param.{Param}
use Rattle.ir_types.specs.declared.func.Block.{Block}
use Rattle.ir_types.specs.declared.func.Func.{Func}
use Rattle.ir_types.specs.declared.module.Item.{Item}
use Rattle.ir_types.specs.declared.module.Item.TheVariants.{Kept, Opaque, Func as FuncItem}
use Rattle.ir_types.specs.declared.module.Module.{Module}
use Rattle.ir_types.specs.Available.{same_id}
use Rattle.ir_types.specs.Formed.{ids_of, IsFormed}
use Rattle.ir_types.specs.Renumbered.{new_id, new_opd, new_inst, new_block, new_param, new_func, new_item, renumbered}
use Rattle.ir_types.proofs.Formed.{Every}
use Rattle.ir_types.proofs.Among.{among, same_is, same_itself, Once, once_of_pairs, In, OpdIn, InstIn, BlockIn, FuncIn, ItemIn, module_in}
use Rattle.ir_types.proofs.Renumbered.{items_new_ids, renumbered_formed}
use Rattle.ir_draft.specs.declared.written.Written.{Written}
use Rattle.ir_draft.specs.declared.written.Written.TheVariants.{Local as LocalName}
use Rattle.ir_draft.specs.declared.written.Arg.{Arg}
use Rattle.ir_draft.specs.declared.stmt.Stmt.{Stmt}
use Rattle.ir_draft.specs.declared.line.Line.{Line}
use Rattle.ir_draft.specs.declared.line.Line.TheVariants as line
use Rattle.ir_print.specs.declared.names.Local.{Local}
use Rattle.ir_print.specs.Names.{Named, Value, Label, is_store, is_void, named_of, Names, names_of, local_of}
use Rattle.ir_print.specs.Operands.{opd_ty}
use Rattle.ir_print.specs.Text.{is_function, text_of}
use Rattle.ir_read.specs.Outlook.{has}
use Rattle.ir_read.specs.Items.{barred_in, has_other_pointers}
use Rattle.rf_text.specs.Headed.{IsParam, shown_name, shown_param, shown_params, shown_head, first_name}
use Rattle.ir_types.specs.Formed.{IsPoisonIfPointer}
use Rattle.rf_text.specs.Written.{shown_text, shown_block, shown_global, written, arg_of, op_of, line_blocks, result_of, stmt_of, cases_of, first_ty, more_forms, forms_of}
use Rattle.rf_text.specs.ModuleForms.{label_forms, insts_forms, more_blocks_forms, blocks_forms, func_forms, item_forms, gap_forms, more_items_forms, items_forms, module_forms}
use Rattle.rf_text.specs.OpaqueText.{opaque_forms, opaque_name, opaque_in}
use Rattle.rf_text.specs.Printable.{HasNoCall, IsPrintableFunc, IsPrintableItem, in_front, written_names, globals_in, global_before, tops_in, IsAllowed, IsAllowedBlock, IsAllowedItem, has_function, IsPrintable, ids_from, IsNumbered, IsCountedItem, IsCounted, IsKeptOpaque}
use Rattle.rf_text.specs.Shown.{is_call}
use Rattle.rf_text.specs.ModuleForms.{kept_at}
use Rattle.rf_text.specs.Reads.{Reads}
use Rattle.rf_text.specs.Spelled.{Spelled}
use Rattle.rf_text.specs.Again.{IsReadAgain}
use Rattle.rf_text.proofs.Renumbering.{numbered_stays}
use Rattle.rf_text.proofs.TextsAgain.{texts_again}
use Rattle.rf_text.proofs.Renumbered.Text.{New, NewNamed, NewLocal, named_new, Alike, names_alike, ty_same, renumbered_text}

module _ (ids : List Id) where
  same_shown : (o : Option Local) → shown_text (option_map (NewLocal ids) o) ≡ shown_text o
  same_shown None = refl
  same_shown (Some l) = refl

  same_name : (o : Option Local) → shown_name (option_map (NewLocal ids) o) ≡ shown_name o
  same_name None = refl
  same_name (Some l) = refl

  module _ (now before : Names) (gs : List (List ℕ)) (alike : Alike ids now before) where
    -- ---- lines

    shown_same : (x : Id) → In ids x → shown_text (local_of (New ids x) now.locals) ≡ shown_text (local_of x before.locals)
    shown_same x p = ap shown_text (alike.found x p) ∙ same_shown (local_of x before.locals)

    written_same : (o : Opd) → OpdIn ids o → written now gs (new_opd ids o) ≡ written before gs o
    written_same (Val x) p = ap LocalName (shown_same x p)
    written_same (Lit l) p = refl
    written_same (Sym g) p = refl

    args_same : (os : List Opd) → Every (OpdIn ids) os → map (arg_of now gs) (map (new_opd ids) os) ≡ map (arg_of before gs) os
    args_same [] h = refl
    args_same (o ∷ os) h =
        ap (λ (t : Ty). record { ty = t; opd = written now gs (new_opd ids o) } ∷ map (arg_of now gs) (map (new_opd ids) os)) (ty_same ids now before gs alike o h.0)
        ∙ ap (λ (w : Written). record { ty = opd_ty before o; opd = w } ∷ map (arg_of now gs) (map (new_opd ids) os)) (written_same o h.0)
        ∙ ap (λ (as' : List Arg). arg_of before gs o ∷ as') (args_same os h.1)

    blocks_shown : (bs : List ℕ) → map (shown_block now) bs ≡ map (shown_block before) bs
    blocks_shown [] = refl
    blocks_shown (b ∷ bs) = ap (λ (ls : List (List ℕ)). unwrap_or (slice_get ls b) [] ∷ map (shown_block now) bs) alike.labels ∙ ap (λ (ts : List (List ℕ)). shown_block before b ∷ ts) (blocks_shown bs)

    stmt_same : (i : Inst) → InstIn ids i → stmt_of now gs (new_inst ids i) ≡ stmt_of before gs i
    stmt_same i h =
        ap (λ (t : List ℕ). record { result = result_of (is_void i.ty) (is_store i.op) t; ty = i.ty; op = op_of i.op; args = map (arg_of now gs) (map (new_opd ids) i.opds); labels = map (shown_block now) (line_blocks i.op) }) (shown_same i.id h.id)
        ∙ ap (λ (as' : List Arg). record { result = result_of (is_void i.ty) (is_store i.op) (shown_text (local_of i.id before.locals)); ty = i.ty; op = op_of i.op; args = as'; labels = map (shown_block now) (line_blocks i.op) }) (args_same i.opds h.opds)
        ∙ ap (λ (ls : List (List ℕ)). record { result = result_of (is_void i.ty) (is_store i.op) (shown_text (local_of i.id before.locals)); ty = i.ty; op = op_of i.op; args = map (arg_of before gs) i.opds; labels = ls }) (blocks_shown (line_blocks i.op))

    first_same : (os : List Opd) → Every (OpdIn ids) os → first_ty now (map (new_opd ids) os) ≡ first_ty before os
    first_same [] h = refl
    first_same (o ∷ os) h = ty_same ids now before gs alike o h.0

    cases_same : (t : Ty) (ns : List (Option ℕ)) (bs : List ℕ) → cases_of now t ns bs ≡ cases_of before t ns bs
    cases_same t [] bs = refl
    cases_same t (n ∷ ns) [] = refl
    cases_same t (n ∷ ns) (b ∷ bs) =
        ap (λ (ls : List (List ℕ)). line.Case (record { ty = t; lanes = n ∷ [] }) (unwrap_or (slice_get ls b) []) ∷ cases_of now t ns bs) alike.labels
        ∙ ap (λ (fs : List Line). line.Case (record { ty = t; lanes = n ∷ [] }) (shown_block before b) ∷ fs) (cases_same t ns bs)

    more_same : (os : List Opd) → Every (OpdIn ids) os → (op : Op) → more_forms now (map (new_opd ids) os) op ≡ more_forms before os op
    more_same os h (Switch other cases to) =
        ap (λ (t : Ty). cases_of now t cases to ++ line.CasesEnd ∷ []) (first_same os h) ∙ ap (λ (fs : List Line). fs ++ line.CasesEnd ∷ []) (cases_same (first_ty before os) cases to)
    more_same os h op = refl

    insts_lines : (is : List Inst) → Every (InstIn ids) is → insts_forms now gs (map (new_inst ids) is) ≡ insts_forms before gs is
    insts_lines [] h = refl
    insts_lines (i ∷ is) h =
        ap (λ (s : Stmt). (line.Stmt s ∷ more_forms now (map (new_opd ids) i.opds) i.op) ++ insts_forms now gs (map (new_inst ids) is)) (stmt_same i h.0)
        ∙ ap (λ (fs : List Line). (line.Stmt (stmt_of before gs i) ∷ fs) ++ insts_forms now gs (map (new_inst ids) is)) (more_same i.opds h.0.opds i.op)
        ∙ ap (λ (fs : List Line). forms_of before gs i ++ fs) (insts_lines is h.1)

    more_blocks_lines : (at : ℕ) (bs : List Block) → Every (BlockIn ids) bs → more_blocks_forms now gs at (map (new_block ids) bs) ≡ more_blocks_forms before gs at bs
    more_blocks_lines at [] h = refl
    more_blocks_lines at (b ∷ bs) h =
        ap (λ (ls : List (List ℕ)). line.Empty ∷ (label_forms (slice_get ls at) ++ (insts_forms now gs (map (new_inst ids) b.insts) ++ more_blocks_forms now gs (at + 1) (map (new_block ids) bs)))) alike.labels
        ∙ ap (λ (fs : List Line). line.Empty ∷ (label_forms (slice_get before.labels at) ++ (fs ++ more_blocks_forms now gs (at + 1) (map (new_block ids) bs)))) (insts_lines b.insts h.0)
        ∙ ap (λ (fs : List Line). line.Empty ∷ (label_forms (slice_get before.labels at) ++ (insts_forms before gs b.insts ++ fs))) (more_blocks_lines (at + 1) bs h.1)

    blocks_lines : (bs : List Block) → Every (BlockIn ids) bs → blocks_forms now gs (map (new_block ids) bs) ≡ blocks_forms before gs bs
    blocks_lines [] h = refl
    blocks_lines (b ∷ bs) h =
        ap (λ (fs : List Line). label_forms b.name ++ (fs ++ more_blocks_forms now gs 1 (map (new_block ids) bs))) (insts_lines b.insts h.0)
        ∙ ap (λ (fs : List Line). label_forms b.name ++ (insts_forms before gs b.insts ++ fs)) (more_blocks_lines 1 bs h.1)

    params_lines : (at : ℕ) (ps : List Param) → Every (λ (p : Param). In ids p.id) ps → shown_params now at (map (new_param ids) ps) ≡ shown_params before at ps
    params_lines at [] h = refl
    params_lines at (p ∷ ps) h =
        ap (λ (o : Option (List ℕ)). record { id = record { region = 0; k = at }; name = o; ty = p.ty; attrs = p.attrs; noalias = p.noalias } ∷ shown_params now (at + 1) (map (new_param ids) ps))
        (ap shown_name (alike.found p.id h.0) ∙ same_name (local_of p.id before.locals))
        ∙ ap (λ (qs : List Param). shown_param before at p ∷ qs) (params_lines (at + 1) ps h.1)

  func_lines : (gs : List (List ℕ)) (f : Func) → FuncIn ids f → func_forms gs (new_func ids f) ≡ func_forms gs f
  func_lines gs f h =
      ap (λ (ps : List Param). line.Define (first_name f) (Some (record { before = f.before; ret = f.ret; name = f.name; params = ps; after = f.after })) ∷ (blocks_forms (names_of (new_func ids f)) gs (map (new_block ids) f.blocks) ++ line.Close ∷ []))
      (params_lines (names_of (new_func ids f)) (names_of f) gs (names_alike ids f h) 0 f.params h.params)
      ∙ ap (λ (fs : List Line). line.Define (first_name f) (Some (shown_head (names_of f) f)) ∷ (fs ++ line.Close ∷ []))
      (blocks_lines (names_of (new_func ids f)) (names_of f) gs (names_alike ids f h) f.blocks h.blocks)

  item_lines : (gs : List (List ℕ)) (i : Item) → ItemIn ids i → item_forms gs (new_item ids i) ≡ item_forms gs i
  item_lines gs (Kept text) h = refl
  item_lines gs (Opaque text) h = refl
  item_lines gs (FuncItem f) h = ap (map Some) (func_lines gs f h)

  same_kind : (i : Item) → is_function (new_item ids i) ≡ is_function i
  same_kind (Kept text) = refl
  same_kind (Opaque text) = refl
  same_kind (FuncItem f) = refl

  more_items_lines : (gs : List (List ℕ)) (before : Bool) (items : List Item) → Every (ItemIn ids) items → more_items_forms gs before (map (new_item ids) items) ≡ more_items_forms gs before items
  more_items_lines gs before [] h = refl
  more_items_lines gs before (i ∷ items) h =
      ap (λ (b : Bool). gap_forms before b ++ (item_forms gs (new_item ids i) ++ more_items_forms gs b (map (new_item ids) items))) (same_kind i)
      ∙ ap (λ (fs : List (Option Line)). gap_forms before (is_function i) ++ (fs ++ more_items_forms gs (is_function i) (map (new_item ids) items))) (item_lines gs i h.0)
      ∙ ap (λ (fs : List (Option Line)). gap_forms before (is_function i) ++ (item_forms gs i ++ fs)) (more_items_lines gs (is_function i) items h.1)

  items_lines : (gs : List (List ℕ)) (items : List Item) → Every (ItemIn ids) items → items_forms gs (map (new_item ids) items) ≡ items_forms gs items
  items_lines gs [] h = refl
  items_lines gs (i ∷ items) h =
      ap (λ (b : Bool). item_forms gs (new_item ids i) ++ more_items_forms gs b (map (new_item ids) items)) (same_kind i)
      ∙ ap (λ (fs : List (Option Line)). fs ++ more_items_forms gs (is_function i) (map (new_item ids) items)) (item_lines gs i h.0)
      ∙ ap (λ (fs : List (Option Line)). item_forms gs i ++ fs) (more_items_lines gs (is_function i) items h.1)

  -- ---- names and parts

  every_map : {A B : Type 0} (P : A → Type 0) (Q : B → Type 0) (f : A → B) → ((x : A) → P x → Q (f x)) → (xs : List A) → All P xs → All Q (map f xs)
  every_map P Q f g xs h = All-map Q f xs (λ k d less. g (get_or xs k d) (h k d less))

  names_same : (xs : List Named) → written_names (map (NewNamed ids) xs) ≡ written_names xs
  names_same [] = refl
  names_same (Value id ty name ∷ xs) = ap (in_front name) (names_same xs)
  names_same (Label name ∷ xs) = ap (in_front name) (names_same xs)

  calls_none : (b : Block) → HasNoCall b → HasNoCall (new_block ids b)
  calls_none b h = every_map (λ (i : Inst). is_call i.op ≡ false) (λ (i : Inst). is_call i.op ≡ false) (new_inst ids) (λ i k. k) b.insts h

  printable_func : (f : Func) → IsPrintableFunc f → IsPrintableFunc (new_func ids f)
  printable_func f h = record {
    calls = every_map HasNoCall HasNoCall (new_block ids) calls_none f.blocks h.calls;
    once = subst (AllPairs (λ (a b : List ℕ). a ≡ b → ⊥)) (sym (ap written_names (named_new ids f) ∙ names_same (named_of f))) h.once;
  }

  printable_item : (i : Item) → IsPrintableItem i → IsPrintableItem (new_item ids i)
  printable_item (Kept text) h = h
  printable_item (Opaque text) h = h
  printable_item (FuncItem f) h = printable_func f h

  globals_same : (items : List Item) → globals_in (map (new_item ids) items) ≡ globals_in items
  globals_same [] = refl
  globals_same (Kept text ∷ items) = ap (global_before (kept_at text).global (kept_at text).symbol) (globals_same items)
  globals_same (Opaque text ∷ items) = globals_same items
  globals_same (FuncItem f ∷ items) = globals_same items

  tops_same : (items : List Item) → tops_in (map (new_item ids) items) ≡ tops_in items
  tops_same [] = refl
  tops_same (Kept text ∷ items) = ap (in_front (kept_at text).symbol) (tops_same items)
  tops_same (Opaque text ∷ items) = ap (in_front (opaque_name text)) (tops_same items)
  tops_same (FuncItem f ∷ items) = ap (λ (ts : List (List ℕ)). f.name ∷ ts) (tops_same items)

  functions_same : (items : List Item) → has_function (map (new_item ids) items) ≡ has_function items
  functions_same [] = refl
  functions_same (Kept text ∷ items) = functions_same items
  functions_same (Opaque text ∷ items) = functions_same items
  functions_same (FuncItem f ∷ items) = refl

  -- operands of a module with the same lines and globals
  module _ (m n : Module) (lines : module_forms n ≡ module_forms m) (globals : n.globals ≡ m.globals) where
    allowed : (o : Opd) → IsAllowed m o → IsAllowed n (new_opd ids o)
    allowed (Val x) h = tt
    allowed (Lit l) h = tt
    allowed (Sym g) h = ap (λ (fs : List (Option Line)). has (barred_in fs) (shown_global n.globals g)) lines ∙ ap (λ (gs : List (List ℕ)). has (barred_in (module_forms m)) (shown_global gs g)) globals ∙ h

    allowed_block : (b : Block) → IsAllowedBlock m b → IsAllowedBlock n (new_block ids b)
    allowed_block b h =
        every_map (λ (i : Inst). All (IsAllowed m) i.opds) (λ (i : Inst). All (IsAllowed n) i.opds) (new_inst ids)
        (λ i k. every_map (IsAllowed m) (IsAllowed n) (new_opd ids) allowed i.opds k) b.insts h

    opaque_item : (i : Item) → IsKeptOpaque m i → IsKeptOpaque n (new_item ids i)
    opaque_item (Kept text) h = tt
    opaque_item (Opaque text) h = ap (λ (fs : List (Option Line)). opaque_in fs (opaque_forms text)) lines ∙ h
    opaque_item (FuncItem f) h = tt

    allowed_item : (i : Item) → IsAllowedItem m i → IsAllowedItem n (new_item ids i)
    allowed_item (Kept text) h = tt
    allowed_item (Opaque text) h = tt
    allowed_item (FuncItem f) h = every_map (IsAllowedBlock m) (IsAllowedBlock n) (new_block ids) allowed_block f.blocks h

  counted_item : (i : Item) → IsCountedItem i → IsCountedItem (new_item ids i)
  counted_item (Kept text) h = tt
  counted_item (Opaque text) h = tt
  counted_item (FuncItem f) h = subst (λ k. k < 2 ^ 64) (sym (ap length (named_new ids f) ∙ length_map (named_of f))) h
    where
      length_map : (xs : List Named) → length (map (NewNamed ids) xs) ≡ length xs
      length_map [] = refl
      length_map (x ∷ xs) = ap suc (length_map xs)

-- ---- numbers

-- an id that is another than the first is found after it
new_rest : (k : ℕ) (x : Id) (xs ys : List Id) → among xs x ≡ false → ((y : Id) → among ys y ≡ true → among xs y ≡ true) → map (new_id k (x ∷ xs)) ys ≡ map (new_id (k + 1) xs) ys
new_rest k x xs [] h in_xs = refl
new_rest k x xs (y ∷ ys) h in_xs =
    ap (λ (z : Id). z ∷ map (new_id k (x ∷ xs)) ys) (ap (λ b. cond b (record { region = 0; k = k }) (new_id (k + 1) xs y)) other)
    ∙ ap (λ (zs : List Id). new_id (k + 1) xs y ∷ zs) (new_rest k x xs ys h (λ z e. in_xs z (or_right (same_id y z) (among ys z) e)))
  where
    or_right : (a b : Bool) → b ≡ true → (a || b) ≡ true
    or_right true b e = refl
    or_right false b e = e

    true_false : true ≡ false → ⊥
    true_false e = cc

    by_test : (b : Bool) → same_id x y ≡ b → b ≡ false
    by_test false e = refl
    by_test true e = absurd (true_false (sym (in_xs y (ap (λ b. b || among ys y) (same_itself y))) ∙ ap (among xs) (sym (same_is x y e)) ∙ h))

    other : same_id x y ≡ false
    other = by_test (same_id x y) refl

new_numbers : (k : ℕ) (xs : List Id) → Once xs → map (new_id k xs) xs ≡ ids_from k (length xs)
new_numbers k [] h = refl
new_numbers k (x ∷ xs) h =
    ap (λ (z : Id). z ∷ map (new_id k (x ∷ xs)) xs) (ap (λ b. cond b (record { region = 0; k = k }) (new_id (k + 1) xs x)) (same_itself x))
    ∙ ap (λ (zs : List Id). record { region = 0; k = k } ∷ zs) (new_rest k x xs xs h.0 (λ y e. e) ∙ new_numbers (k + 1) xs h.1)

-- ---- the module

module _ (m : Module) (formed : IsFormed m) where
  lines_same : module_forms (renumbered m) ≡ module_forms m
  lines_same = items_lines (ids_of m) m.globals m.items (module_in m formed)

  pub renumbered_printable : IsPrintable m → IsPrintable (renumbered m)
  renumbered_printable p = record {
    items = every_map (ids_of m) IsPrintableItem IsPrintableItem (new_item (ids_of m)) (printable_item (ids_of m)) m.items p.items;
    globals = p.globals ∙ sym (globals_same (ids_of m) m.items);
    named = p.named;
    once = subst (AllPairs (λ (a b : List ℕ). a ≡ b → ⊥)) (sym (tops_same (ids_of m) m.items)) p.once;
    operands = every_map (ids_of m) (IsAllowedItem m) (IsAllowedItem (renumbered m)) (new_item (ids_of m)) (allowed_item (ids_of m) m (renumbered m) lines_same refl) m.items p.operands;
    opaques = every_map (ids_of m) (IsKeptOpaque m) (IsKeptOpaque (renumbered m)) (new_item (ids_of m)) (opaque_item (ids_of m) m (renumbered m) lines_same refl) m.items p.opaques;
    pointers = λ e. ap has_other_pointers lines_same ∙ p.pointers (sym (functions_same (ids_of m) m.items) ∙ e);
    little_endian = p.little_endian;
  }

  ids_same : ids_of (renumbered m) ≡ ids_from 0 (length (ids_of m))
  ids_same = items_new_ids (ids_of m) m.items ∙ new_numbers 0 (ids_of m) (once_of_pairs (ids_of m) formed.once)

  length_ids : (k n : ℕ) → length (ids_from k n) ≡ n
  length_ids k zero = refl
  length_ids k (suc n) = ap suc (length_ids (k + 1) n)

  pub renumbered_numbered : IsNumbered (renumbered m)
  renumbered_numbered = ids_same ∙ ap (ids_from 0) (sym (ap length ids_same ∙ length_ids 0 (length (ids_of m))))

  pub renumbered_counted : IsCounted m → IsCounted (renumbered m)
  renumbered_counted c = every_map (ids_of m) IsCountedItem IsCountedItem (new_item (ids_of m)) (counted_item (ids_of m)) m.items c

  -- what is printed is read again, whatever the ids are
  pub any_text_again : IsPrintable m → IsCounted m → IsReadAgain m
  any_text_again p c =
      let again : IsReadAgain (renumbered m) = texts_again (renumbered m) (renumbered_formed m formed) (renumbered_printable p) renumbered_numbered (renumbered_counted c) in
      let same : renumbered (renumbered m) ≡ renumbered m = numbered_stays (renumbered m) renumbered_numbered in
      record {
        reads = subst (λ (x : Module). Reads (text_of m) x) same (subst (λ (t : List ℕ). Reads t (renumbered (renumbered m))) (renumbered_text m formed) again.reads);
        spells = subst (λ (x : Module). Spelled (text_of m) x) same (subst (λ (t : List ℕ). Spelled t (renumbered (renumbered m))) (renumbered_text m formed) again.spells);
        formed = renumbered_formed m formed;
      }
