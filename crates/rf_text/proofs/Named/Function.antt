-- A function as its printed header and body resolve: it is the same function, each of its ids the next of the module.
use Rattle.std.proofs.Common.{◌≡◌, ℕ, ◌+◌, ◌^◌, ◌<◌, ◌≤◌, Bool, true, false, List, [], ◌∷◌, ◌++◌, map, length, Option, Result, Ok, refl, sym, ◌∙◌, ap, arith, length-append}
use Rattle.std.proofs.lemmas.List.Elements.{All-nil, All-cons, All-head, All-tail}
use Rattle.std.specs.List.{All, AllPairs}
use Rattle.ir_types.specs.declared.id.Id.{Id}
use Rattle.ir_types.specs.declared.inst.Inst.{Inst}
use Rattle.ir_types.specs.declared.func.Param.{Param}
use Rattle.ir_types.specs.declared.func.Block.{Block}
use Rattle.ir_types.specs.declared.func.Func.{Func}
use Rattle.ir_types.specs.declared.module.Item.TheVariants.{Func as FuncItem}
use Rattle.ir_types.specs.declared.module.Module.{Module}
use Rattle.ir_types.specs.Formed.{IsFormedFunc, EndsOnce, block_ids, item_ids}
use Rattle.ir_print.specs.declared.names.Local.{Local}
use Rattle.ir_print.specs.Names.{Names, names_of, named_of, locals_from, labels_from, local_of, counted, is_store, is_void}
use Rattle.ir_read.specs.Bodies.{numbered_from}
use Rattle.ir_types_check.specs.declared.refusal.ResolveRefusal.{ResolveRefusal}
use Rattle.ir_types_check.specs.Answers.{◌>>=◌}
use Rattle.ir_types_check.specs.Scope.{Scope}
use Rattle.ir_types_check.specs.Outline.{written as written_again}
use Rattle.ir_types_check.specs.Locals.{locals_of}
use Rattle.ir_types_check.specs.Blocks.{params_from, param_lines, built_of}
use Rattle.ir_types_check.specs.Resolved.{with_built, resolved_function}
use Rattle.ir_types_check.proofs.Handed.{LocalMeaning, TopMeaning, LocalNames, BuiltSoFar, DoneSoFar}
use Rattle.rf_text.specs.Headed.{shown_name, shown_params, shown_head}
use Rattle.rf_text.specs.Printable.{written_names, ids_from}
use Rattle.rf_text.proofs.PlainItems.{IsPlainInst, IsPlainBlock, IsPlainFunc}
use Rattle.ir_types.specs.Formed.{is_plain}
use Rattle.rf_text.specs.ModuleForms.{body_forms}
use Rattle.rf_text.proofs.Named.Scope.{Once}
use Rattle.rf_text.proofs.Named.Things.{Thing, Gives, Begins, inst_thing, insts_things, blocks_things, params_things, things_of, named_things, things_are, scope_from, IsPlainThing, once_from}
use Rattle.rf_text.proofs.Named.Places.{Known, known_from, ids_things, Placed, placed_from}
use Rattle.rf_text.proofs.Named.Locals.{Ended, locals_are}
use Rattle.rf_text.proofs.Named.Built.{IsReadBlock, Built, body_built}
use Rattle.rf_text.proofs.Named.Found.{HasGlobals, blocks_are_read, all_end}

-- ---- the things of a plain function

inst_plain : (v w : Bool) (i : Inst) → IsPlainInst i → IsPlainThing (inst_thing v w i)
inst_plain false false i plain = plain.named
inst_plain false true i plain = tt
inst_plain true w i plain = tt

insts_plain : (is : List Inst) (rest : List Thing) → All IsPlainInst is → All IsPlainThing rest → All IsPlainThing (insts_things is rest)
insts_plain [] rest all others = others
insts_plain (i ∷ is) rest all others =
    All-cons IsPlainThing (inst_thing (is_void i.ty) (is_store i.op) i) (insts_things is rest) (inst_plain (is_void i.ty) (is_store i.op) i (All-head IsPlainInst i is all)) (insts_plain is rest (All-tail IsPlainInst i is all) others)

blocks_plain : (bs : List Block) → All IsPlainBlock bs → All IsPlainThing (blocks_things bs)
blocks_plain [] all = All-nil IsPlainThing
blocks_plain (b ∷ bs) all =
    let first : IsPlainBlock b = All-head IsPlainBlock b bs all in
    All-cons IsPlainThing (Begins b.name) (insts_things b.insts (blocks_things bs)) first.named (insts_plain b.insts (blocks_things bs) first.insts (blocks_plain bs (All-tail IsPlainBlock b bs all)))

params_plain : (ps : List Param) (rest : List Thing) → All (λ (p : Param). is_plain p.name ≡ true) ps → All IsPlainThing rest → All IsPlainThing (params_things ps rest)
params_plain [] rest all others = others
params_plain (p ∷ ps) rest all others =
    All-cons IsPlainThing (Gives p.id p.ty p.name) (params_things ps rest) (All-head (λ (p : Param). is_plain p.name ≡ true) p ps all) (params_plain ps rest (All-tail (λ (p : Param). is_plain p.name ≡ true) p ps all) others)

-- their ids

insts_ids : (is : List Inst) (rest : List Thing) → ids_things (insts_things is rest) ≡ map (λ (i : Inst). i.id) is ++ ids_things rest
insts_ids [] rest = refl
insts_ids (i ∷ is) rest = go (is_void i.ty) (is_store i.op) (insts_ids is rest) where
  go : (v w : Bool) → ids_things (insts_things is rest) ≡ map (λ (i : Inst). i.id) is ++ ids_things rest → ids_things (inst_thing v w i ∷ insts_things is rest) ≡ i.id ∷ (map (λ (i : Inst). i.id) is ++ ids_things rest)
  go false false e = ap (λ (ids : List Id). i.id ∷ ids) e
  go false true e = ap (λ (ids : List Id). i.id ∷ ids) e
  go true w e = ap (λ (ids : List Id). i.id ∷ ids) e

blocks_ids : (bs : List Block) → ids_things (blocks_things bs) ≡ block_ids bs
blocks_ids [] = refl
blocks_ids (b ∷ bs) = insts_ids b.insts (blocks_things bs) ∙ ap (λ (ids : List Id). map (λ (i : Inst). i.id) b.insts ++ ids) (blocks_ids bs)

params_ids : (ps : List Param) (rest : List Thing) → ids_things (params_things ps rest) ≡ map (λ (p : Param). p.id) ps ++ ids_things rest
params_ids [] rest = refl
params_ids (p ∷ ps) rest = ap (λ (ids : List Id). p.id ∷ ids) (params_ids ps rest)

pub things_ids : (f : Func) → ids_things (things_of f) ≡ item_ids (FuncItem f)
things_ids f = params_ids f.params (blocks_things f.blocks) ∙ ap (λ (ids : List Id). map (λ (p : Param). p.id) f.params ++ ids) (blocks_ids f.blocks)

params_many : (ps : List Param) (rest : List Thing) → length (ids_things (params_things ps rest)) ≡ length ps + length (ids_things rest)
params_many [] rest = omega arith
params_many (p ∷ ps) rest = let less : length (ids_things (params_things ps rest)) ≡ length ps + length (ids_things rest) = params_many ps rest in omega (arith, less)

-- ---- parameters

params_counted : (ns : Names) (ln at : ℕ) (lines : List ℕ) (ps : List Param) → length (param_lines ln lines (shown_params ns at ps)) ≡ length lines + length ps
params_counted ns ln at lines [] = omega arith
params_counted ns ln at lines (p ∷ ps) =
    let less : length (param_lines ln (lines ++ ln ∷ []) (shown_params ns (at + 1) ps)) ≡ length (lines ++ ln ∷ []) + length ps = params_counted ns ln (at + 1) (lines ++ ln ∷ []) ps in
    let more : length (lines ++ ln ∷ []) ≡ length lines + 1 = length-append lines (ln ∷ []) in
    omega (arith, less, more)

module _ (base : ℕ) (scope : Scope LocalMeaning) (ns : Names) where
  params_known : (n p b q : ℕ) (ps : List Param) (rest : List Thing) → q ≡ p + length ps → Known base scope ns n p b (params_things ps rest) → (k : ℕ) × Known base scope ns k q b rest
  params_known n p b q [] rest e known = let same : p ≡ q = omega (arith, e) in (n, rw (← same) known)
  params_known n p b q (prm ∷ ps) rest e known = params_known (counted n prm.name) (p + 1) b q ps rest (omega (arith, e)) known.1

  -- the parameters with their ids and names
  params_again : (n p b k at : ℕ) (ps : List Param) (rest : List Thing) → k ≡ base + p → Known base scope ns n p b (params_things ps rest) → params_from k (shown_params ns at ps) ≡ ps
  params_again n p b k at [] rest e known = refl
  params_again n p b k at (prm ∷ ps) rest e known =
      let past : params_from (k + 1) (shown_params ns (at + 1) ps) ≡ ps = params_again (counted n prm.name) (p + 1) b (k + 1) (at + 1) ps rest (omega (arith, e)) known.1 in
      let id : record { region = 0; k = k } ≡ prm.id = ap (λ (x : ℕ). record { region = 0; k = x }) e ∙ sym known.0.placed in
      let name : written_again (shown_name (local_of prm.id ns.locals)) ≡ prm.name = ap (λ (l : Option Local). written_again (shown_name l)) known.0.shows ∙ known.0.once_more.name_again in
      ap (λ (x : Id). record { id = x; name = written_again (shown_name (local_of prm.id ns.locals)); ty = prm.ty; attrs = prm.attrs; noalias = prm.noalias } ∷ params_from (k + 1) (shown_params ns (at + 1) ps)) id
      ∙ ap (λ (x : Option (List ℕ)). record { id = prm.id; name = x; ty = prm.ty; attrs = prm.attrs; noalias = prm.noalias } ∷ params_from (k + 1) (shown_params ns (at + 1) ps)) name
      ∙ ap (λ (xs : List Param). prm ∷ xs) past

-- ---- the function

-- the scope of a function
abbrev pub scope_of : Func → Scope LocalMeaning
scope_of f = scope_from 0 0 0 (things_of f)

-- a plain function of few enough things, whose ids go on from a number
pub record Stands (f : Func) (base : ℕ) : Type 0 where
  pub once : Once (scope_of f)
  pub known : Known base (scope_of f) (names_of f) 0 0 0 (things_of f)

pub stands : (f : Func) (base : ℕ) (rest : List Id) (count : ℕ) → IsPlainFunc f → length (named_of f) < 2 ^ 64 → item_ids (FuncItem f) ++ rest ≡ ids_from base count → Stands f base
stands f base rest count plain few ids =
    let things : All IsPlainThing (things_of f) = params_plain f.params (blocks_things f.blocks) plain.params (blocks_plain f.blocks plain.blocks) in
    let small : 0 + length (named_things (things_of f)) ≤ 2 ^ 64 = rw (things_are f) (omega (arith, few)) in
    let pairs : AllPairs (λ (a b : List ℕ). a ≡ b → ⊥) (written_names (named_things (things_of f))) = rw (things_are f) plain.once in
    let one : Once (scope_of f) = once_from 0 0 0 (things_of f) small things pairs in
    let placed : Placed base 0 (things_of f) = placed_from base 0 (things_of f) rest base count (omega arith) (ap (λ (xs : List Id). xs ++ rest) (things_ids f) ∙ ids) in
    record {
      once = one;
      known = known_from base (scope_of f) (names_of f) 0 0 0 (things_of f) [] [] [] refl (ap (locals_from 0) (sym (things_are f))) (ap (labels_from 0) (sym (things_are f))) refl small things placed one;
    }

-- its names
pub record HasLocals (f : Func) (said : Result LocalNames ResolveRefusal) : Type 0 where
  pub end : LocalNames
  pub said_is : said ≡ Ok end
  pub whole : end.scope ≡ scope_of f

pub has_locals : (m : Module) (f : Func) (base ln : ℕ) → IsFormedFunc m f → Stands f base → HasLocals f (locals_of ln (shown_head (names_of f) f) (numbered_from (ln + 1) (body_forms m.globals f)))
has_locals m f base ln formed is =
    let ends : All (λ (b : Block). EndsOnce b.insts) f.blocks = all_end m f formed in
    let e : Ended base (scope_of f) is.once (names_of f) m.globals (locals_of ln (shown_head (names_of f) f) (numbered_from (ln + 1) (body_forms m.globals f))) = locals_are f m.globals base (scope_of f) ln is.once ends refl is.known in
    record { end = e.end; said_is = e.said_is; whole = e.whole }

-- the function again
pub record Resolves (f : Func) (done : DoneSoFar) (said : Result DoneSoFar ResolveRefusal) : Type 0 where
  pub lines : List ℕ
  pub said_is : said ≡ Ok (record { items = done.items ++ FuncItem f ∷ []; lines = lines })
  pub counted : length lines ≡ length done.lines + length (item_ids (FuncItem f))

body_again : (tops : Scope TopMeaning) (m : Module) (f : Func) (lines : List ℕ) (ln : ℕ) → HasGlobals m.globals tops → IsFormedFunc m f → IsPlainFunc f → Stands f (length lines) →
    Built tops (scope_of f) (length lines) (names_of f) m.globals (length (item_ids (FuncItem f))) f.blocks (built_of tops (scope_of f) ln lines (shown_head (names_of f) f) (numbered_from (ln + 1) (body_forms m.globals f)))
unfolding built_of
body_again tops m f lines ln globals formed plain is =
    let blocks : All (IsReadBlock tops (scope_of f) (length lines) (names_of f) m.globals) f.blocks = blocks_are_read m f tops (scope_of f) (length lines) globals is.known formed plain in
    let past : (k : ℕ) × Known (length lines) (scope_of f) (names_of f) k (length f.params) 0 (blocks_things f.blocks) = params_known (length lines) (scope_of f) (names_of f) 0 0 0 (length f.params) f.params (blocks_things f.blocks) (omega arith) is.known in
    let many : length f.params + length (ids_things (blocks_things f.blocks)) ≡ length (item_ids (FuncItem f)) = sym (params_many f.params (blocks_things f.blocks)) ∙ ap length (things_ids f) in
    body_built tops (scope_of f) (length lines) (names_of f) m.globals f.blocks (ln + 1) past.0 (length f.params) (length (item_ids (FuncItem f))) (param_lines ln lines (shown_params (names_of f) 0 f.params))
    (params_counted (names_of f) ln 0 lines f.params) many past.1 blocks

pub function_again : (tops : Scope TopMeaning) (m : Module) (f : Func) (done : DoneSoFar) (ln : ℕ) → HasGlobals m.globals tops → IsFormedFunc m f → IsPlainFunc f → Stands f (length done.lines) →
    Resolves f done (resolved_function tops ln done (shown_head (names_of f) f) (numbered_from (ln + 1) (body_forms m.globals f)))
unfolding resolved_function with_built
function_again tops m f done ln globals formed plain is =
    let head = shown_head (names_of f) f in
    let body = numbered_from (ln + 1) (body_forms m.globals f) in
    let names : HasLocals f (locals_of ln (shown_head (names_of f) f) (numbered_from (ln + 1) (body_forms m.globals f))) = has_locals m f (length done.lines) ln formed is in
    let b : Built tops (scope_of f) (length done.lines) (names_of f) m.globals (length (item_ids (FuncItem f))) f.blocks (built_of tops (scope_of f) ln done.lines (shown_head (names_of f) f) (numbered_from (ln + 1) (body_forms m.globals f))) =
    body_again tops m f done.lines ln globals formed plain is in
    let params : params_from (length done.lines) (shown_params (names_of f) 0 f.params) ≡ f.params = params_again (length done.lines) (scope_of f) (names_of f) 0 0 0 (length done.lines) 0 f.params (blocks_things f.blocks) (omega arith) is.known in
    record {
      lines = b.lines;
      said_is =
          ap (λ (r : Result LocalNames ResolveRefusal). r >>= λ l. built_of tops l.scope ln done.lines head body >>= λ b. Ok (with_built done head b)) names.said_is
          ∙ ap (λ (s : Scope LocalMeaning). built_of tops s ln done.lines head body >>= λ b. Ok (with_built done head b)) names.whole
          ∙ ap (λ (r : Result BuiltSoFar ResolveRefusal). r >>= λ b. Ok (with_built done head b)) b.said_is
          ∙ ap (λ (ps : List Param). Ok (record { items = done.items ++ FuncItem (record { before = f.before; ret = f.ret; name = f.name; params = ps; after = f.after; blocks = f.blocks }) ∷ []; lines = b.lines })) params;
      counted = b.counted;
    }
