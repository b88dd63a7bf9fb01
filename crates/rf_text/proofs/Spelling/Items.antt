-- A draft whose items have the lines that spell a formed module: its names stand for that module.
use Rattle.std.proofs.Common.{◌≡◌, ℕ, suc, ◌+◌, false, List, [], ◌∷◌, ◌++◌, length, map, Option, None, Some, Result, Ok, refl, sym, ◌∙◌, ap, subst, append_assoc, arith, length-append}
use Rattle.std.proofs.lemmas.List.{append-nil}
use Rattle.std.specs.List.{AllZip}
use Rattle.ir_types.specs.declared.ty.Ty.{Ty}
use Rattle.ir_types.specs.declared.inst.Inst.{Inst}
use Rattle.ir_types.specs.declared.func.Param.{Param}
use Rattle.ir_types.specs.declared.func.Block.{Block}
use Rattle.ir_types.specs.declared.func.Func.{Func}
use Rattle.ir_types.specs.declared.module.Item.{Item}
use Rattle.ir_types.specs.declared.module.Item.TheVariants as items
use Rattle.ir_types.specs.declared.module.Module.{Module}
use Rattle.ir_types.specs.Formed.{IsFormed, IsFormedFunc, block_ids, item_ids, ids_of}
use Rattle.ir_draft.specs.declared.head.Head.{Head}
use Rattle.ir_draft.specs.declared.kept.Kept.{Kept}
use Rattle.ir_draft.specs.declared.draft.Numbered.{Numbered}
use Rattle.ir_draft.specs.declared.draft.DraftItem.{DraftItem}
use Rattle.ir_draft.specs.declared.draft.DraftItem.TheVariants as item
use Rattle.ir_print.specs.Names.{Names, names_of, counted}
use Rattle.ir_types_check.specs.declared.refusal.ResolveRefusal.{ResolveRefusal}
use Rattle.ir_types_check.specs.Answers.{◌>>=◌}
use Rattle.ir_types_check.specs.Scope.{Scope}
use Rattle.ir_types_check.specs.Locals.{locals_of}
use Rattle.ir_types_check.specs.Tops.{with_top, with_symbol, with_opaque, signature_of, with_function, with_items}
use Rattle.ir_types_check.specs.Blocks.{closed, params_from, param_lines, func_of, built_of}
use Rattle.ir_types_check.specs.Resolved.{with_built, with_kept, resolved_function, resolved_items, big_endian_line, module_of}
use Rattle.ir_types_check.specs.Named.{Names as DraftNames}
use Rattle.ir_types_check.proofs.BodyIds.{length_param_lines}
use Rattle.ir_types_check.proofs.Handed.{LocalMeaning, TopMeaning, function_of, LocalNames, TopNames, BuiltSoFar, DoneSoFar}
use Rattle.rf_text.specs.Headed.{shown_params, shown_head}
use Rattle.rf_text.specs.ModuleForms.{kept_at}
use Rattle.rf_text.specs.OpaqueText.{opaque_name}
use Rattle.rf_text.specs.Printable.{IsPrintable, IsNumbered, IsCounted, globals_in}
use Rattle.rf_text.proofs.PlainItems.{IsPlainFunc, plain_items}
use Rattle.rf_text.specs.Spelled.{IsWrittenParam, IsHeaderOf, AreBlocks}
use Rattle.rf_text.proofs.Named.Found.{HasGlobals, blocks_are_read, all_end}
use Rattle.rf_text.proofs.Named.Function as named
use Rattle.rf_text.proofs.Named.Function.{scope_of}
use Rattle.rf_text.proofs.Named.Module.{AllStand, all_stand}
use Rattle.rf_text.proofs.Named.Places.{Known}
use Rattle.rf_text.proofs.Named.Scope.{Once, moved}
use Rattle.rf_text.proofs.Named.Things.{Thing, blocks_things, params_things}
use Rattle.rf_text.proofs.Named.Tops.{tops_from, tops_once, kept_scope, kept_next, HasTops, globals_found}
use Rattle.rf_text.proofs.Named.Tops as tops
use Rattle.rf_text.proofs.Spells.Built.{Mark, insts_marks, marks, things_same}
use Rattle.rf_text.proofs.Spells.Marks.{many, starts, blocks_marked, Ends, blocks_end, marks_once}
use Rattle.rf_text.proofs.Spells.Order.{form_of}
use Rattle.rf_text.proofs.Spelling.Built.{AreRead, blocks_read, IsMade, marks_made, params_again}
use Rattle.rf_text.proofs.Spelling.Locals.{IsSaid, locals_said}

-- a draft's item with the lines of an item
abbrev pub IsDraftOf : List (List ℕ) → DraftItem → Item → Type 0
IsDraftOf gs (item.Kept n kept) (items.Kept text) = kept ≡ kept_at text
IsDraftOf gs (item.Opaque n name text) (items.Opaque said) = (name ≡ opaque_name said) × (text ≡ said)
IsDraftOf gs (item.Func n head body) (items.Func f) = IsHeaderOf f head × AreBlocks (names_of f) gs 0 f.blocks (map form_of body)
IsDraftOf gs _ _ = ⊥

-- ---- numbers of ids

insts_many : (is : List Inst) (ms : List Mark) → many (insts_marks is ms) ≡ length (map (λ (i : Inst). i.id) is) + many ms
insts_many [] ms = omega arith
insts_many (i ∷ is) ms = let more : many (insts_marks is ms) ≡ length (map (λ (i : Inst). i.id) is) + many ms = insts_many is ms in omega (arith, more)

blocks_many : (bs : List Block) → many (marks bs) ≡ length (block_ids bs)
blocks_many [] = refl
blocks_many (b ∷ bs) =
    let here : many (insts_marks b.insts (marks bs)) ≡ length (map (λ (i : Inst). i.id) b.insts) + many (marks bs) = insts_many b.insts (marks bs) in
    let more : many (marks bs) ≡ length (block_ids bs) = blocks_many bs in
    let whole : length (map (λ (i : Inst). i.id) b.insts ++ block_ids bs) ≡ length (map (λ (i : Inst). i.id) b.insts) + length (block_ids bs) = length-append (map (λ (i : Inst). i.id) b.insts) (block_ids bs) in
    omega (arith, here, more, whole)

map_length : (ps : List Param) → length (map (λ (p : Param). p.id) ps) ≡ length ps
map_length [] = refl
map_length (p ∷ ps) = let more : length (map (λ (p : Param). p.id) ps) ≡ length ps = map_length ps in omega (arith, more)

func_many : (f : Func) → length (item_ids (items.Func f)) ≡ length f.params + many (marks f.blocks)
func_many f =
    let whole : length (map (λ (p : Param). p.id) f.params ++ block_ids f.blocks) ≡ length (map (λ (p : Param). p.id) f.params) + length (block_ids f.blocks) = length-append (map (λ (p : Param). p.id) f.params) (block_ids f.blocks) in
    omega (arith, whole, map_length f.params, blocks_many f.blocks)

pub zip_length : (ns : Names) (ps qs : List Param) → AllZip (IsWrittenParam ns) ps qs → length qs ≡ length ps
zip_length ns [] [] z = refl
zip_length ns [] (q ∷ qs) z = absurd z
zip_length ns (p ∷ ps) [] z = absurd z
zip_length ns (p ∷ ps) (q ∷ qs) z = let more : length qs ≡ length ps = zip_length ns ps qs z.1 in omega (arith, more)

-- ---- one function

abbrev pub HasNames : Func → Result LocalNames ResolveRefusal → Type 0
HasNames f said = (end : LocalNames) × (said ≡ Ok end) × (end.scope ≡ scope_of f) × (end.at.blocks ≡ length f.blocks)

insts_begin : (is : List Inst) (ms : List Mark) → starts (insts_marks is ms) ≡ starts ms
insts_begin [] ms = refl
insts_begin (i ∷ is) ms = insts_begin is ms

-- as many blocks begin as there are
pub all_begin : (bs : List Block) → starts (marks bs) ≡ length bs
all_begin [] = refl
all_begin (b ∷ bs) = ap suc (insts_begin b.insts (marks bs) ∙ all_begin bs)

pub has_names : (m : Module) (f : Func) (base ln : ℕ) (head : Head) (body : List Numbered) → IsFormedFunc m f → named.Stands f base → IsHeaderOf f head → AreBlocks (names_of f) m.globals 0 f.blocks (map form_of body) → HasNames f (locals_of ln head body)
has_names m f base ln head body formed is header blocks =
    let ends : Ends false (marks f.blocks) = blocks_end f.blocks (all_end m f formed) in
    let s : IsSaid base (scope_of f) is.once (names_of f) (starts (marks f.blocks)) (locals_of ln head body) = locals_said f m.globals base (scope_of f) is.once ln head body header (blocks_marked m.globals (names_of f) blocks) ends refl is.known in
    (s.end, s.said_is, s.whole, s.count ∙ all_begin f.blocks)

-- what is known after the parameters
params_known : (base : ℕ) (scope : Scope LocalMeaning) (ns : Names) (n p b q : ℕ) (ps : List Param) (rest : List Thing) → q ≡ p + length ps → Known base scope ns n p b (params_things ps rest) → (k : ℕ) × Known base scope ns k q b rest
params_known base scope ns n p b q [] rest e known = let same : p ≡ q = omega (arith, e) in (n, subst (λ x. Known base scope ns n x b rest) same known)
params_known base scope ns n p b q (prm ∷ ps) rest e known = params_known base scope ns (counted n prm.name) (p + 1) b q ps rest (omega (arith, e)) known.1

record Resolves (f : Func) (done : DoneSoFar) (said : Result DoneSoFar ResolveRefusal) : Type 0 where
  lines : List ℕ
  said_is : said ≡ Ok (record { items = done.items ++ items.Func f ∷ []; lines = lines })
  counted : length lines ≡ length done.lines + length (item_ids (items.Func f))

same_func : (f : Func) (before : List ℕ) (ret : Ty) (name : List ℕ) (params : List Param) (after : List ℕ) (blocks : List Block) → before ≡ f.before → ret ≡ f.ret → name ≡ f.name → params ≡ f.params → after ≡ f.after → blocks ≡ f.blocks →
    record { before = before; ret = ret; name = name; params = params; after = after; blocks = blocks } ≡ f
same_func f before ret name params after blocks a b c d e g =
    ap (λ (x : List ℕ). record { before = x; ret = ret; name = name; params = params; after = after; blocks = blocks }) a
    ∙ ap (λ (x : Ty). record { before = f.before; ret = x; name = name; params = params; after = after; blocks = blocks }) b
    ∙ ap (λ (x : List ℕ). record { before = f.before; ret = f.ret; name = x; params = params; after = after; blocks = blocks }) c
    ∙ ap (λ (x : List Param). record { before = f.before; ret = f.ret; name = f.name; params = x; after = after; blocks = blocks }) d
    ∙ ap (λ (x : List ℕ). record { before = f.before; ret = f.ret; name = f.name; params = f.params; after = x; blocks = blocks }) e
    ∙ ap (λ (x : List Block). record { before = f.before; ret = f.ret; name = f.name; params = f.params; after = f.after; blocks = x }) g

abbrev begun : ℕ → List ℕ → Head → BuiltSoFar
begun ln lines head = record { blocks = []; current = None; lines = param_lines ln lines head.params }

function_resolves : (tops : Scope TopMeaning) (m : Module) (f : Func) (done : DoneSoFar) (ln : ℕ) (head : Head) (body : List Numbered) → HasGlobals m.globals tops → IsFormedFunc m f → IsPlainFunc f → named.Stands f (length done.lines) → IsHeaderOf f head →
    AreBlocks (names_of f) m.globals 0 f.blocks (map form_of body) → Resolves f done (resolved_function tops ln done head body)
unfolding resolved_function with_built built_of
function_resolves tops m f done ln head body globals formed plain is header blocks =
    let base : ℕ = length done.lines in
    let locals : HasNames f (locals_of ln head body) = has_names m f (length done.lines) ln head body formed is header blocks in
    let read : AreRead tops (scope_of f) (length done.lines) (names_of f) m.globals (marks f.blocks) =
    blocks_read tops (scope_of f) (length done.lines) (names_of f) m.globals f.blocks (blocks_are_read m f tops (scope_of f) (length done.lines) globals is.known formed plain) in
    let past : (k : ℕ) × Known (length done.lines) (scope_of f) (names_of f) k (length f.params) 0 (blocks_things f.blocks) =
    params_known (length done.lines) (scope_of f) (names_of f) 0 0 0 (length f.params) f.params (blocks_things f.blocks) (omega arith) is.known in
    let count : length (param_lines ln done.lines head.params) ≡ length done.lines + length head.params = length_param_lines ln done.lines head.params in
    let same : length head.params ≡ length f.params = zip_length (names_of f) f.params head.params header.params in
    let made : IsMade tops (scope_of f) (length done.lines) (names_of f) m.globals (begun ln done.lines head) (length f.params) (marks f.blocks) (built_of tops (scope_of f) ln done.lines head body) =
    marks_made tops (scope_of f) (length done.lines) (names_of f) m.globals (marks f.blocks) body past.0 (length f.params) 0 false (begun ln done.lines head) (blocks_marked m.globals (names_of f) blocks) (blocks_end f.blocks (all_end m f formed)) refl
    (omega (arith, count, same)) (subst (Known (length done.lines) (scope_of f) (names_of f) past.0 (length f.params) 0) (sym (things_same f.blocks)) past.1) read in
    let own : closed made.end.blocks made.end.current ≡ f.blocks = marks_once (closed made.end.blocks made.end.current) f.blocks made.whole in
    let func : func_of (length done.lines) head (closed made.end.blocks made.end.current) ≡ f =
    same_func f head.before head.ret head.name (params_from (length done.lines) head.params) head.after (closed made.end.blocks made.end.current) header.before header.ret header.name
    (params_again (length done.lines) (scope_of f) (names_of f) 0 0 0 (length done.lines) f.params head.params (blocks_things f.blocks) header.params (omega arith) is.known) header.after own in
    record {
      lines = made.end.lines;
      said_is =
          ap (λ (r : Result LocalNames ResolveRefusal). r >>= λ l. built_of tops l.scope ln done.lines head body >>= λ b. Ok (with_built done head b)) locals.1
          ∙ ap (λ (s : Scope LocalMeaning). built_of tops s ln done.lines head body >>= λ b. Ok (with_built done head b)) locals.2
          ∙ ap (λ (r : Result BuiltSoFar ResolveRefusal). r >>= λ b. Ok (with_built done head b)) made.said_is
          ∙ ap (λ (g : Func). Ok (record { items = done.items ++ items.Func g ∷ []; lines = made.end.lines })) func;
      counted = let ids : length (item_ids (items.Func f)) ≡ length f.params + many (marks f.blocks) = func_many f in let whole : length made.end.lines ≡ length done.lines + (length f.params + many (marks f.blocks)) = made.counted in omega (arith, ids, whole);
    }

-- ---- all functions

-- what is resolved of items, after others
record AreResolved (done : DoneSoFar) (is : List Item) (said : Result DoneSoFar ResolveRefusal) : Type 0 where
  lines : List ℕ
  said_is : said ≡ Ok (record { items = done.items ++ is; lines = lines })

items_resolve : (m : Module) (tops : Scope TopMeaning) (xs : List DraftItem) (is : List Item) (base : ℕ) (done : DoneSoFar) → HasGlobals m.globals tops → length done.lines ≡ base → AllStand m base is → AllZip (IsDraftOf m.globals) xs is →
    AreResolved done is (resolved_items tops done xs)
unfolding with_kept
items_resolve m tops [] [] base done globals count all zip = record { lines = done.lines; said_is = ap (λ (xs : List Item). Ok (record { items = xs; lines = done.lines })) (sym (append-nil done.items)) }
items_resolve m tops [] (i ∷ is) base done globals count all zip = absurd zip
items_resolve m tops (x ∷ xs) [] base done globals count all zip = absurd zip
items_resolve m tops (item.Kept n kept ∷ xs) (items.Kept text ∷ is) base done globals count all zip =
    let same : kept.text ≡ text = ap (λ (k : Kept). k.text) zip.0 ∙ all.0.whole in
    let after : DoneSoFar = record { items = done.items ++ items.Kept text ∷ []; lines = done.lines } in
    let next : AreResolved (record { items = done.items ++ items.Kept text ∷ []; lines = done.lines }) is (resolved_items tops (record { items = done.items ++ items.Kept text ∷ []; lines = done.lines }) xs) =
    items_resolve m tops xs is base after globals count all.1 zip.1 in
    record {
      lines = next.lines;
      said_is =
          ap (λ (t : List ℕ). resolved_items tops (record { items = done.items ++ items.Kept t ∷ []; lines = done.lines }) xs) same ∙ next.said_is
          ∙ ap (λ (ys : List Item). Ok (record { items = ys; lines = next.lines })) (append_assoc done.items (items.Kept text ∷ []) is);
    }
items_resolve m tops (item.Func n head body ∷ xs) (items.Func f ∷ is) base done globals count all zip =
    let here : named.Stands f (length done.lines) = subst (named.Stands f) (sym count) all.2 in
    let first : Resolves f done (resolved_function tops n done head body) = function_resolves tops m f done n head body globals all.0 all.1 here zip.0.0 zip.0.1 in
    let after : DoneSoFar = record { items = done.items ++ items.Func f ∷ []; lines = first.lines } in
    let counted : length first.lines ≡ base + length (item_ids (items.Func f)) = first.counted ∙ ap (λ (k : ℕ). k + length (item_ids (items.Func f))) count in
    let next : AreResolved (record { items = done.items ++ items.Func f ∷ []; lines = first.lines }) is (resolved_items tops (record { items = done.items ++ items.Func f ∷ []; lines = first.lines }) xs) =
    items_resolve m tops xs is (base + length (item_ids (items.Func f))) after globals counted all.3 zip.1 in
    record {
      lines = next.lines;
      said_is =
          ap (λ (r : Result DoneSoFar ResolveRefusal). r >>= λ d. resolved_items tops d xs) first.said_is ∙ next.said_is
          ∙ ap (λ (ys : List Item). Ok (record { items = ys; lines = next.lines })) (append_assoc done.items (items.Func f ∷ []) is);
    }
items_resolve m tops (item.Opaque n name text ∷ xs) (items.Opaque said ∷ is) base done globals count all zip =
    let after : DoneSoFar = record { items = done.items ++ items.Opaque said ∷ []; lines = done.lines } in
    let next : AreResolved (record { items = done.items ++ items.Opaque said ∷ []; lines = done.lines }) is (resolved_items tops (record { items = done.items ++ items.Opaque said ∷ []; lines = done.lines }) xs) =
    items_resolve m tops xs is base after globals count all zip.1 in
    record {
      lines = next.lines;
      said_is =
          ap (λ (t : List ℕ). resolved_items tops (record { items = done.items ++ items.Opaque t ∷ []; lines = done.lines }) xs) zip.0.1 ∙ next.said_is
          ∙ ap (λ (ys : List Item). Ok (record { items = ys; lines = next.lines })) (append_assoc done.items (items.Opaque said ∷ []) is);
    }
items_resolve m tops (item.Opaque n name text ∷ xs) (items.Kept said ∷ is) base done globals count all zip = absurd zip.0
items_resolve m tops (item.Opaque n name text ∷ xs) (items.Func f ∷ is) base done globals count all zip = absurd zip.0
items_resolve m tops (item.Kept n kept ∷ xs) (items.Opaque text ∷ is) base done globals count all zip = absurd zip.0
items_resolve m tops (item.Kept n kept ∷ xs) (items.Func f ∷ is) base done globals count all zip = absurd zip.0
items_resolve m tops (item.Func n head body ∷ xs) (items.Kept text ∷ is) base done globals count all zip = absurd zip.0
items_resolve m tops (item.Func n head body ∷ xs) (items.Opaque text ∷ is) base done globals count all zip = absurd zip.0

-- ---- the names of the module

params_tys : (ns : Names) (at : ℕ) (ps qs : List Param) → AllZip (IsWrittenParam ns) ps qs → map (λ (p : Param). p.ty) qs ≡ map (λ (p : Param). p.ty) (shown_params ns at ps)
params_tys ns at [] [] z = refl
params_tys ns at [] (q ∷ qs) z = absurd z
params_tys ns at (p ∷ ps) [] z = absurd z
params_tys ns at (p ∷ ps) (q ∷ qs) z = ap (λ (t : Ty). t ∷ map (λ (p : Param). p.ty) qs) z.0.ty ∙ ap (λ ts. p.ty ∷ ts) (params_tys ns (at + 1) ps qs z.1)

same_signature : (f : Func) (head : Head) → IsHeaderOf f head → signature_of head ≡ signature_of (shown_head (names_of f) f)
same_signature f head is =
    ap (λ (t : Ty). record { ret = t; params = map (λ (p : Param). p.ty) head.params }) is.ret
    ∙ ap (λ (ts : List Ty). record { ret = f.ret; params = ts }) (params_tys (names_of f) 0 f.params head.params is.params)

HaveNames : List DraftItem → Type 0
HaveNames [] = Unit {0}
HaveNames (item.Kept n kept ∷ xs) = HaveNames xs
HaveNames (item.Opaque n name text ∷ xs) = HaveNames xs
HaveNames (item.Func n head body ∷ xs) = ((l : LocalNames) × (locals_of n head body ≡ Ok l)) × HaveNames xs

have_names : (m : Module) (xs : List DraftItem) (is : List Item) (base : ℕ) → AllStand m base is → AllZip (IsDraftOf m.globals) xs is → HaveNames xs
unfolding HaveNames
have_names m [] [] base all zip = tt
have_names m [] (i ∷ is) base all zip = absurd zip
have_names m (x ∷ xs) [] base all zip = absurd zip
have_names m (item.Kept n kept ∷ xs) (items.Kept text ∷ is) base all zip = have_names m xs is base all.1 zip.1
have_names m (item.Func n head body ∷ xs) (items.Func f ∷ is) base all zip =
    let h : HasNames f (locals_of n head body) = has_names m f base n head body all.0 all.2 zip.0.0 zip.0.1 in
    ((h.0, h.1), have_names m xs is (base + length (item_ids (items.Func f))) all.3 zip.1)
have_names m (item.Opaque n name text ∷ xs) (items.Opaque said ∷ is) base all zip = have_names m xs is base all zip.1
have_names m (item.Opaque n name text ∷ xs) (items.Kept said ∷ is) base all zip = absurd zip.0
have_names m (item.Opaque n name text ∷ xs) (items.Func f ∷ is) base all zip = absurd zip.0
have_names m (item.Kept n kept ∷ xs) (items.Opaque text ∷ is) base all zip = absurd zip.0
have_names m (item.Kept n kept ∷ xs) (items.Func f ∷ is) base all zip = absurd zip.0
have_names m (item.Func n head body ∷ xs) (items.Kept text ∷ is) base all zip = absurd zip.0
have_names m (item.Func n head body ∷ xs) (items.Opaque text ∷ is) base all zip = absurd zip.0

-- an opaque function is named as a kept line is that is no global
opaque_symbol : (n : ℕ) (t : TopNames) (name : Option (List ℕ)) → with_opaque n t name ≡ with_symbol n t false name
opaque_symbol n t None = refl
opaque_symbol n t (Some name) = refl

module _ (gs : List (List ℕ)) (scope : Scope TopMeaning) (once : Once scope) where
  function_defined : (f : Func) (head : Head) (body : List Numbered) (n k : ℕ) (t : TopNames) (rest : Scope TopMeaning) (l : LocalNames) → locals_of n head body ≡ Ok l → IsHeaderOf f head → length t.globals ≡ k →
      scope ≡ t.scope ++ (f.name, function_of (signature_of (shown_head (names_of f) f))) ∷ rest → tops.Stepped scope once t k [] rest (with_function n t head body)
  unfolding with_function
  function_defined f head body n k t rest l e is count whole =
      let after : TopNames = record { scope = t.scope ++ (f.name, function_of (signature_of (shown_head (names_of f) f))) ∷ []; globals = t.globals } in
      record {
        end = after;
        said_is =
            ap (λ (x : List ℕ). with_top n t x (function_of (signature_of head)) >>= λ after. locals_of n head body >>= λ _. Ok after) is.name
            ∙ ap (λ x. with_top n t f.name (function_of x) >>= λ after. locals_of n head body >>= λ _. Ok after) (same_signature f head is)
            ∙ ap (λ (r : Result TopNames ResolveRefusal). r >>= λ after. locals_of n head body >>= λ _. Ok after) (tops.top_defined scope once n t f.name (function_of (signature_of (shown_head (names_of f) f))) rest whole)
            ∙ ap (λ (r : Result LocalNames ResolveRefusal). r >>= λ _. Ok after) e;
        whole = moved scope t.scope (f.name, function_of (signature_of (shown_head (names_of f) f))) rest whole;
        counted = count;
        globals = sym (append-nil t.globals);
      }

  tops_said : (xs : List DraftItem) (is : List Item) (k : ℕ) (t : TopNames) → HaveNames xs → AllZip (IsDraftOf gs) xs is → length t.globals ≡ k → scope ≡ t.scope ++ tops_from k is → HasTops scope once (t.globals ++ globals_in is) (with_items t xs)
  unfolding HaveNames
  tops_said [] [] k t all zip count whole = record { end = t; said_is = refl; whole = sym (append-nil t.scope) ∙ sym whole; globals_are = sym (append-nil t.globals) }
  tops_said [] (i ∷ is) k t all zip count whole = absurd zip
  tops_said (x ∷ xs) [] k t all zip count whole = absurd zip
  tops_said (item.Kept n kept ∷ xs) (items.Kept text ∷ is) k t all zip count whole =
      let first : tops.Stepped scope once t (kept_next k (kept_at text).global (kept_at text).symbol) (tops.item_globals scope once (kept_at text).global (kept_at text).symbol) (tops_from (kept_next k (kept_at text).global (kept_at text).symbol) is) (with_symbol n t (kept_at text).global (kept_at text).symbol) =
      tops.kept_defined scope once (kept_at text).global (kept_at text).symbol n k t (tops_from (kept_next k (kept_at text).global (kept_at text).symbol) is) count whole in
      let next : HasTops scope once (first.end.globals ++ globals_in is) (with_items first.end xs) = tops_said xs is (kept_next k (kept_at text).global (kept_at text).symbol) first.end all zip.1 first.counted first.whole in
      record {
        end = next.end;
        said_is =
            ap (λ (x : Kept). with_symbol n t x.global x.symbol >>= λ after. with_items after xs) zip.0
            ∙ ap (λ (r : Result TopNames ResolveRefusal). r >>= λ after. with_items after xs) first.said_is ∙ next.said_is;
        whole = next.whole;
        globals_are =
            next.globals_are ∙ ap (λ (ys : List (List ℕ)). ys ++ globals_in is) first.globals ∙ append_assoc t.globals (tops.item_globals scope once (kept_at text).global (kept_at text).symbol) (globals_in is)
            ∙ ap (λ (ys : List (List ℕ)). t.globals ++ ys) (tops.globals_append scope once (kept_at text).global (kept_at text).symbol (globals_in is));
      }
  tops_said (item.Func n head body ∷ xs) (items.Func f ∷ is) k t all zip count whole =
      let first : tops.Stepped scope once t k [] (tops_from k is) (with_function n t head body) = function_defined f head body n k t (tops_from k is) all.0.0 all.0.1 zip.0.0 count whole in
      let next : HasTops scope once (first.end.globals ++ globals_in is) (with_items first.end xs) = tops_said xs is k first.end all.1 zip.1 first.counted first.whole in
      record {
        end = next.end;
        said_is = ap (λ (r : Result TopNames ResolveRefusal). r >>= λ after. with_items after xs) first.said_is ∙ next.said_is;
        whole = next.whole;
        globals_are = next.globals_are ∙ ap (λ (ys : List (List ℕ)). ys ++ globals_in is) (first.globals ∙ append-nil t.globals);
      }
  tops_said (item.Opaque n name text ∷ xs) (items.Opaque said ∷ is) k t all zip count whole =
      let first : tops.Stepped scope once t (kept_next k false (opaque_name said)) (tops.item_globals scope once false (opaque_name said)) (tops_from k is) (with_symbol n t false (opaque_name said)) =
      tops.kept_defined scope once false (opaque_name said) n k t (tops_from k is) count whole in
      let next : HasTops scope once (first.end.globals ++ globals_in is) (with_items first.end xs) = tops_said xs is k first.end all zip.1 first.counted first.whole in
      record {
        end = next.end;
        said_is =
            ap (λ (x : Option (List ℕ)). with_opaque n t x >>= λ after. with_items after xs) zip.0.0
            ∙ ap (λ (r : Result TopNames ResolveRefusal). r >>= λ after. with_items after xs) (opaque_symbol n t (opaque_name said) ∙ first.said_is) ∙ next.said_is;
        whole = next.whole;
        globals_are = next.globals_are ∙ ap (λ (ys : List (List ℕ)). ys ++ globals_in is) (first.globals ∙ append-nil t.globals);
      }
  tops_said (item.Opaque n name text ∷ xs) (items.Kept said ∷ is) k t all zip count whole = absurd zip.0
  tops_said (item.Opaque n name text ∷ xs) (items.Func f ∷ is) k t all zip count whole = absurd zip.0
  tops_said (item.Kept n kept ∷ xs) (items.Opaque text ∷ is) k t all zip count whole = absurd zip.0
  tops_said (item.Kept n kept ∷ xs) (items.Func f ∷ is) k t all zip count whole = absurd zip.0
  tops_said (item.Func n head body ∷ xs) (items.Kept text ∷ is) k t all zip count whole = absurd zip.0
  tops_said (item.Func n head body ∷ xs) (items.Opaque text ∷ is) k t all zip count whole = absurd zip.0

-- ---- the byte order

low_first : (m : Module) (xs : List DraftItem) (is : List Item) (base : ℕ) → AllStand m base is → AllZip (IsDraftOf m.globals) xs is → big_endian_line xs ≡ None
low_first m [] [] base all zip = refl
low_first m [] (i ∷ is) base all zip = absurd zip
low_first m (x ∷ xs) [] base all zip = absurd zip
low_first m (item.Kept n kept ∷ xs) (items.Kept text ∷ is) base all zip =
    let no : kept.big_endian ≡ false = ap (λ (k : Kept). k.big_endian) zip.0 ∙ all.0.little_endian in
    rw no (low_first m xs is base all.1 zip.1)
low_first m (item.Func n head body ∷ xs) (items.Func f ∷ is) base all zip = low_first m xs is (base + length (item_ids (items.Func f))) all.3 zip.1
low_first m (item.Opaque n name text ∷ xs) (items.Opaque said ∷ is) base all zip = low_first m xs is base all zip.1
low_first m (item.Opaque n name text ∷ xs) (items.Kept said ∷ is) base all zip = absurd zip.0
low_first m (item.Opaque n name text ∷ xs) (items.Func f ∷ is) base all zip = absurd zip.0
low_first m (item.Kept n kept ∷ xs) (items.Opaque text ∷ is) base all zip = absurd zip.0
low_first m (item.Kept n kept ∷ xs) (items.Func f ∷ is) base all zip = absurd zip.0
low_first m (item.Func n head body ∷ xs) (items.Kept text ∷ is) base all zip = absurd zip.0
low_first m (item.Func n head body ∷ xs) (items.Opaque text ∷ is) base all zip = absurd zip.0

-- ---- the module

pub items_named : (m : Module) (xs : List DraftItem) → IsFormed m → IsPrintable m → IsNumbered m → IsCounted m → AllZip (IsDraftOf m.globals) xs m.items → DraftNames xs m
unfolding module_of
items_named m xs formed printable numbered few zip =
    let all : AllStand m 0 m.items = all_stand m m.items 0 (length (ids_of m)) formed.items (plain_items m formed printable) few numbered in
    let once : Once (tops_from 0 m.items) = tops_once m.items printable.once in
    let names : HasTops (tops_from 0 m.items) once ([] ++ globals_in m.items) (with_items (record { scope = []; globals = [] }) xs) =
    tops_said m.globals (tops_from 0 m.items) once xs m.items 0 (record { scope = []; globals = [] }) (have_names m xs m.items 0 all zip) zip refl refl in
    let found : HasGlobals (globals_in m.items) (tops_from 0 m.items) = globals_found (tops_from 0 m.items) once m.items refl in
    let globals : HasGlobals m.globals names.end.scope = subst (HasGlobals m.globals) (sym names.whole) (subst (λ gs. HasGlobals gs (tops_from 0 m.items)) (sym printable.globals) found) in
    let done : AreResolved (record { items = []; lines = [] }) m.items (resolved_items names.end.scope (record { items = []; lines = [] }) xs) =
    items_resolve m names.end.scope xs m.items 0 (record { items = []; lines = [] }) globals refl all zip in
    record {
      tops = names.end;
      once = names.said_is;
      resolved = record { items = m.items; lines = done.lines };
      known = done.said_is;
      is =
          ap (λ (gs : List (List ℕ)). record { items = m.items; globals = gs; big_endian_line = big_endian_line xs }) (names.globals_are ∙ sym printable.globals)
          ∙ ap (λ (l : Option ℕ). record { items = m.items; globals = m.globals; big_endian_line = l }) (low_first m xs m.items 0 all zip ∙ sym printable.little_endian);
    }
