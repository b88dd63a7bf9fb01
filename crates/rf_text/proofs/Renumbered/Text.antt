-- The text of a module does not tell its ids: with its ids given anew the text is the same.
use Rattle.std.proofs.Common.{◌≡◌, refl, ap, ◌∙◌, ℕ, zero, suc, ◌+◌, Bool, true, false, Option, None, Some, List, [], ◌∷◌, ◌++◌, map, slice_get, option_map, if◌then◌else◌, codes}
use Rattle.vx_num.specs.Keywords as keywords
use Rattle.ir_types.specs.declared.id.Id.{Id}
use Rattle.ir_types.specs.declared.ty.Ty.{Ty}
use Rattle.ir_types.specs.declared.opd.Opd.{Opd}
use Rattle.ir_types.specs.declared.opd.Opd.TheVariants.{Val, Lit, Sym}
use Rattle.ir_types.specs.declared.op.Op.{Op}
use Rattle.ir_types.specs.declared.op.Op.TheVariants.{Bin, Icmp, Cast, Select, Extract, Insert, Shuffle, Gep, Load, Store, Alloca, Phi, Ret, Br, CondBr, Switch, Unreachable, Call}
use Rattle.ir_types.specs.declared.inst.Inst.{Inst}
use Rattle.ir_types.specs.declared.func.Param.{Param}
use Rattle.ir_types.specs.declared.func.Block.{Block}
use Rattle.ir_types.specs.declared.func.Func.{Func}
use Rattle.ir_types.specs.declared.module.Item.{Item}
use Rattle.ir_types.specs.declared.module.Item.TheVariants.{Kept, Opaque, Func as FuncItem}
use Rattle.ir_types.specs.declared.module.Module.{Module}
use Rattle.ir_types.specs.Formed.{ids_of, IsFormed}
use Rattle.ir_types.specs.Renumbered.{new_id, new_opd, new_inst, new_block, new_param, new_func, new_item, renumbered}
use Rattle.ir_types.proofs.Formed.{Every}
use Rattle.ir_types.proofs.Among.{new_apart, In, OpdIn, InstIn, BlockIn, FuncIn, ItemIn, module_in}
use Rattle.ir_print.specs.declared.names.Local.{Local}
use Rattle.ir_print.specs.Literals.{ty_text}
use Rattle.ir_print.specs.Names.{Named, Value, Label, is_store, is_void, result_named, insts_named, blocks_named, params_named, named_of, shown, counted, locals_from, labels_from, Names, names_of, same_id, last_of, local_of}
use Rattle.ir_print.specs.Operands.{spaced, local_text, local_ty, opd_text, opd_ty, typed_text, bare_at, typed_at, ty_at, block_text, label_text}
use Rattle.ir_print.specs.Instructions as text
use Rattle.ir_print.specs.Text.{param_text, more_params, params_text, head_text, header_text, label_line, next_block, more_blocks, blocks_text, func_with, item_text, is_function, gap_text, more_items, items_text, text_of}

module _ (ids : List Id) where
  abbrev pub New : Id → Id
  New = new_id 0 ids

  -- ---- names

  abbrev pub NewNamed : Named → Named
  NewNamed (Value id ty name) = Value (New id) ty name
  NewNamed (Label name) = Label name

  abbrev pub NewLocal : Local → Local
  NewLocal l = record { id = New l.id; ty = l.ty; text = l.text }

  result_named_new : (a b : Bool) (i : Inst) (rest : List Named) → result_named a b (new_inst ids i) (map NewNamed rest) ≡ map NewNamed (result_named a b i rest)
  result_named_new false false i rest = refl
  result_named_new false true i rest = refl
  result_named_new true b i rest = refl

  insts_named_new : (is : List Inst) (rest : List Named) → insts_named (map (new_inst ids) is) (map NewNamed rest) ≡ map NewNamed (insts_named is rest)
  insts_named_new [] rest = refl
  insts_named_new (i ∷ is) rest =
      ap (result_named (is_void i.ty) (is_store i.op) (new_inst ids i)) (insts_named_new is rest) ∙ result_named_new (is_void i.ty) (is_store i.op) i (insts_named is rest)

  blocks_named_new : (bs : List Block) → blocks_named (map (new_block ids) bs) ≡ map NewNamed (blocks_named bs)
  blocks_named_new [] = refl
  blocks_named_new (b ∷ bs) =
      ap (λ xs. Label b.name ∷ insts_named (map (new_inst ids) b.insts) xs) (blocks_named_new bs) ∙ ap (λ xs. Label b.name ∷ xs) (insts_named_new b.insts (blocks_named bs))

  params_named_new : (ps : List Param) (rest : List Named) → params_named (map (new_param ids) ps) (map NewNamed rest) ≡ map NewNamed (params_named ps rest)
  params_named_new [] rest = refl
  params_named_new (p ∷ ps) rest = ap (λ xs. Value (New p.id) p.ty p.name ∷ xs) (params_named_new ps rest)

  pub named_new : (f : Func) → named_of (new_func ids f) ≡ map NewNamed (named_of f)
  named_new f = ap (params_named (map (new_param ids) f.params)) (blocks_named_new f.blocks) ∙ params_named_new f.params (blocks_named f.blocks)

  locals_new : (n : ℕ) (xs : List Named) → locals_from n (map NewNamed xs) ≡ map NewLocal (locals_from n xs)
  locals_new n [] = refl
  locals_new n (Value id ty name ∷ xs) = ap (λ ls. record { id = New id; ty = ty; text = shown n name } ∷ ls) (locals_new (counted n name) xs)
  locals_new n (Label name ∷ xs) = locals_new (counted n name) xs

  labels_new : (n : ℕ) (xs : List Named) → labels_from n (map NewNamed xs) ≡ labels_from n xs
  labels_new n [] = refl
  labels_new n (Value id ty name ∷ xs) = labels_new (counted n name) xs
  labels_new n (Label name ∷ xs) = ap (λ ls. shown n name ∷ ls) (labels_new (counted n name) xs)

  -- ---- what is found under an id

  abbrev LocalIn : Local → Type 0
  LocalIn l = In ids l.id

  abbrev NamedIn : Named → Type 0
  NamedIn (Value id ty name) = In ids id
  NamedIn (Label name) = Unit {0}

  locals_in : (n : ℕ) (xs : List Named) → Every NamedIn xs → Every LocalIn (locals_from n xs)
  locals_in n [] h = tt
  locals_in n (Value id ty name ∷ xs) h = (h.0, locals_in (counted n name) xs h.1)
  locals_in n (Label name ∷ xs) h = locals_in (counted n name) xs h.1

  insts_named_in : (is : List Inst) (rest : List Named) → Every (InstIn ids) is → Every NamedIn rest → Every NamedIn (insts_named is rest)
  insts_named_in [] rest h r = r
  insts_named_in (i ∷ is) rest h r = by_kind (is_void i.ty) (is_store i.op) (insts_named_in is rest h.1 r)
    where
      by_kind : (a b : Bool) → Every NamedIn (insts_named is rest) → Every NamedIn (result_named a b i (insts_named is rest))
      by_kind false false k = (h.0.id, k)
      by_kind false true k = k
      by_kind true b k = k

  blocks_named_in : (bs : List Block) → Every (BlockIn ids) bs → Every NamedIn (blocks_named bs)
  blocks_named_in [] h = tt
  blocks_named_in (b ∷ bs) h = (tt, insts_named_in b.insts (blocks_named bs) h.0 (blocks_named_in bs h.1))

  params_named_in : (ps : List Param) (rest : List Named) → Every (λ (p : Param). In ids p.id) ps → Every NamedIn rest → Every NamedIn (params_named ps rest)
  params_named_in [] rest h r = r
  params_named_in (p ∷ ps) rest h r = (h.0, params_named_in ps rest h.1 r)

  last_new : (x : Id) → In ids x → (ls : List Local) → Every LocalIn ls → (before : Option Local) →
      last_of (New x) (map NewLocal ls) (option_map NewLocal before) ≡ option_map NewLocal (last_of x ls before)
  last_new x p [] h before = refl
  last_new x p (l ∷ ls) h before =
      ap (λ b. last_of (New x) (map NewLocal ls) (if b then Some (NewLocal l) else option_map NewLocal before)) (new_apart 0 ids l.id x h.0 p)
      ∙ ap (last_of (New x) (map NewLocal ls)) (by_test (same_id l.id x)) ∙ last_new x p ls h.1 (if same_id l.id x then Some l else before)
    where
      by_test : (b : Bool) → (if b then Some (NewLocal l) else option_map NewLocal before) ≡ option_map NewLocal (if b then Some l else before)
      by_test true = refl
      by_test false = refl

  -- names that show the same: the labels, and each value under its new id
  pub record Alike (now before : Names) : Type 0 where
    pub labels : now.labels ≡ before.labels
    pub found : (x : Id) → In ids x → local_of (New x) now.locals ≡ option_map NewLocal (local_of x before.locals)

  pub names_alike : (f : Func) → FuncIn ids f → Alike (names_of (new_func ids f)) (names_of f)
  names_alike f h = record {
    labels = ap (labels_from 0) (named_new f) ∙ labels_new 0 (named_of f);
    found = λ x p.
        ap (λ xs. local_of (New x) (locals_from 0 xs)) (named_new f) ∙ ap (local_of (New x)) (locals_new 0 (named_of f))
        ∙ last_new x p (locals_from 0 (named_of f)) (locals_in 0 (named_of f) (params_named_in f.params (blocks_named f.blocks) h.params (blocks_named_in f.blocks h.blocks))) None;
  }

  same_text : (o : Option Local) → local_text (option_map NewLocal o) ≡ local_text o
  same_text None = refl
  same_text (Some l) = refl

  same_type : (o : Option Local) → local_ty (option_map NewLocal o) ≡ local_ty o
  same_type None = refl
  same_type (Some l) = refl

  module _ (now before : Names) (gs : List (List ℕ)) (alike : Alike now before) where
    pub shown_local : (x : Id) → In ids x → local_text (local_of (New x) now.locals) ≡ local_text (local_of x before.locals)
    shown_local x p = ap local_text (alike.found x p) ∙ same_text (local_of x before.locals)

    opd_same : (o : Opd) → OpdIn ids o → opd_text now gs (new_opd ids o) ≡ opd_text before gs o
    opd_same (Val x) p = shown_local x p
    opd_same (Lit l) p = refl
    opd_same (Sym g) p = refl

    pub ty_same : (o : Opd) → OpdIn ids o → opd_ty now (new_opd ids o) ≡ opd_ty before o
    ty_same (Val x) p = ap local_ty (alike.found x p) ∙ same_type (local_of x before.locals)
    ty_same (Lit l) p = refl
    ty_same (Sym g) p = refl

    typed_same : (o : Opd) → OpdIn ids o → typed_text now gs (new_opd ids o) ≡ typed_text before gs o
    typed_same o p = ap (λ t. ty_text t ++ (codes " " ++ opd_text now gs (new_opd ids o))) (ty_same o p) ∙ ap (λ t. ty_text (opd_ty before o) ++ (codes " " ++ t)) (opd_same o p)

    labels_same : (b : ℕ) → label_text now b ≡ label_text before b
    labels_same b = ap (λ ls. codes "label " ++ block_text (slice_get ls b)) alike.labels

    -- ---- slots

    -- what is shown of a slot, by what is shown of an operand
    slot_same : (now_at before_at : Option Opd → List ℕ) → now_at None ≡ before_at None → ((o : Opd) → OpdIn ids o → now_at (Some (new_opd ids o)) ≡ before_at (Some o)) →
        (os : List Opd) → Every (OpdIn ids) os → (k : ℕ) → now_at (slice_get (map (new_opd ids) os) k) ≡ before_at (slice_get os k)
    slot_same now_at before_at none some [] h k = none
    slot_same now_at before_at none some (o ∷ os) h zero = some o h.0
    slot_same now_at before_at none some (o ∷ os) h (suc k) = slot_same now_at before_at none some os h.1 k

    module _ (os : List Opd) (h : Every (OpdIn ids) os) where
      abbrev Os : List Opd
      Os = map (new_opd ids) os

      bare : (k : ℕ) → bare_at now gs (slice_get Os k) ≡ bare_at before gs (slice_get os k)
      bare k = slot_same (bare_at now gs) (bare_at before gs) refl opd_same os h k

      typed : (k : ℕ) → typed_at now gs (slice_get Os k) ≡ typed_at before gs (slice_get os k)
      typed k = slot_same (typed_at now gs) (typed_at before gs) refl typed_same os h k

      types : (k : ℕ) → ty_at now (slice_get Os k) ≡ ty_at before (slice_get os k)
      types k = slot_same (ty_at now) (ty_at before) refl (λ o p. ap ty_text (ty_same o p)) os h k

      two : text.two_text now gs Os ≡ text.two_text before gs os
      two = ap (λ t. t ++ (codes ", " ++ bare_at now gs (slice_get Os 1))) (bare 0) ∙ ap (λ t. bare_at before gs (slice_get os 0) ++ (codes ", " ++ t)) (bare 1)

      two_typed : text.two_typed now gs Os ≡ text.two_typed before gs os
      two_typed = ap (λ t. t ++ (codes ", " ++ typed_at now gs (slice_get Os 1))) (typed 0) ∙ ap (λ t. typed_at before gs (slice_get os 0) ++ (codes ", " ++ t)) (typed 1)

      three_typed : text.three_typed now gs Os ≡ text.three_typed before gs os
      three_typed = ap (λ t. t ++ (codes ", " ++ typed_at now gs (slice_get Os 2))) two_typed ∙ ap (λ t. text.two_typed before gs os ++ (codes ", " ++ t)) (typed 2)

    indices : (os : List Opd) → Every (OpdIn ids) os → text.indices_text now gs (map (new_opd ids) os) ≡ text.indices_text before gs os
    indices [] h = refl
    indices (o ∷ os) h =
        ap (λ t. codes ", " ++ (t ++ text.indices_text now gs (map (new_opd ids) os))) (typed_same o h.0) ∙ ap (λ t. codes ", " ++ (typed_text before gs o ++ t)) (indices os h.1)

    pair : (o : Opd) → OpdIn ids o → (b : ℕ) → text.pair_text now gs (new_opd ids o) b ≡ text.pair_text before gs o b
    pair o p b =
        ap (λ t. codes "[ " ++ (t ++ (codes ", " ++ (block_text (slice_get now.labels b) ++ codes " ]")))) (opd_same o p)
        ∙ ap (λ ls. codes "[ " ++ (opd_text before gs o ++ (codes ", " ++ (block_text (slice_get ls b) ++ codes " ]")))) alike.labels

    more_pairs : (os : List Opd) → Every (OpdIn ids) os → (bs : List ℕ) → text.more_pairs now gs (map (new_opd ids) os) bs ≡ text.more_pairs before gs os bs
    more_pairs [] h bs = refl
    more_pairs (o ∷ os) h [] = refl
    more_pairs (o ∷ os) h (b ∷ bs) =
        ap (λ t. codes ", " ++ (t ++ text.more_pairs now gs (map (new_opd ids) os) bs)) (pair o h.0 b) ∙ ap (λ t. codes ", " ++ (text.pair_text before gs o b ++ t)) (more_pairs os h.1 bs)

    pairs : (os : List Opd) → Every (OpdIn ids) os → (bs : List ℕ) → text.pairs_text now gs (map (new_opd ids) os) bs ≡ text.pairs_text before gs os bs
    pairs [] h bs = refl
    pairs (o ∷ os) h [] = refl
    pairs (o ∷ os) h (b ∷ bs) = ap (λ t. t ++ text.more_pairs now gs (map (new_opd ids) os) bs) (pair o h.0 b) ∙ ap (λ t. text.pair_text before gs o b ++ t) (more_pairs os h.1 bs)

    case_same : (w : ℕ) (n : Option ℕ) (b : ℕ) → text.case_text now w n b ≡ text.case_text before w n b
    case_same w n b = ap (λ ls. text.case_text (record { locals = []; labels = ls }) w n b) alike.labels

    cases_same : (w : ℕ) (ns : List (Option ℕ)) (bs : List ℕ) → text.cases_text now w ns bs ≡ text.cases_text before w ns bs
    cases_same w [] bs = refl
    cases_same w (n ∷ ns) [] = refl
    cases_same w (n ∷ ns) (b ∷ bs) = ap (λ t. t ++ text.cases_text now w ns bs) (case_same w n b) ∙ ap (λ t. text.case_text before w n b ++ t) (cases_same w ns bs)

    width_same : (os : List Opd) → Every (OpdIn ids) os → text.switch_width now (slice_get (map (new_opd ids) os) 0) ≡ text.switch_width before (slice_get os 0)
    width_same [] h = refl
    width_same (o ∷ os) h = ap text.width_of (ty_same o h.0)

    argument : (o : Opd) → OpdIn ids o → (a : List ℕ) → text.argument_text now gs (new_opd ids o) a ≡ text.argument_text before gs o a
    argument o p a =
        ap (λ t. ty_text t ++ (spaced a ++ (codes " " ++ opd_text now gs (new_opd ids o)))) (ty_same o p) ∙ ap (λ t. ty_text (opd_ty before o) ++ (spaced a ++ (codes " " ++ t))) (opd_same o p)

    more_arguments : (os : List Opd) → Every (OpdIn ids) os → (bs : List (List ℕ)) → text.more_arguments now gs (map (new_opd ids) os) bs ≡ text.more_arguments before gs os bs
    more_arguments [] h bs = refl
    more_arguments (o ∷ os) h [] = refl
    more_arguments (o ∷ os) h (b ∷ bs) =
        ap (λ t. codes ", " ++ (t ++ text.more_arguments now gs (map (new_opd ids) os) bs)) (argument o h.0 b) ∙ ap (λ t. codes ", " ++ (text.argument_text before gs o b ++ t)) (more_arguments os h.1 bs)

    arguments : (os : List Opd) → Every (OpdIn ids) os → (bs : List (List ℕ)) → text.arguments_text now gs (map (new_opd ids) os) bs ≡ text.arguments_text before gs os bs
    arguments [] h bs = refl
    arguments (o ∷ os) h [] = refl
    arguments (o ∷ os) h (b ∷ bs) = ap (λ t. t ++ text.more_arguments now gs (map (new_opd ids) os) bs) (argument o h.0 b) ∙ ap (λ t. text.argument_text before gs o b ++ t) (more_arguments os h.1 bs)

    -- ---- all forms

    acts_same : (op : Op) (ty : Ty) (os : List Opd) → Every (OpdIn ids) os → text.act_text now gs op ty (map (new_opd ids) os) ≡ text.act_text before gs op ty os
    acts_same (Bin op f) ty os h = ap (λ t. keywords.bin_word op ++ (text.flags_text op f ++ (codes " " ++ (ty_text ty ++ (codes " " ++ t))))) (two os h)
    acts_same (Icmp p) ty os h =
        ap (λ t. codes "icmp " ++ (keywords.pred_word p ++ (codes " " ++ (t ++ (codes " " ++ text.two_text now gs (map (new_opd ids) os)))))) (types os h 0)
        ∙ ap (λ t. codes "icmp " ++ (keywords.pred_word p ++ (codes " " ++ (ty_at before (slice_get os 0) ++ (codes " " ++ t))))) (two os h)
    acts_same (Cast op nneg) ty os h = ap (λ t. keywords.cast_word op ++ (text.flag_text nneg (codes "nneg") ++ (codes " " ++ (t ++ (codes " to " ++ ty_text ty))))) (typed os h 0)
    acts_same Select ty os h = ap (λ t. codes "select " ++ t) (three_typed os h)
    acts_same Extract ty os h = ap (λ t. codes "extractelement " ++ t) (two_typed os h)
    acts_same Insert ty os h = ap (λ t. codes "insertelement " ++ t) (three_typed os h)
    acts_same (Shuffle mask) ty os h = ap (λ t. (codes "shufflevector " ++ (t ++ codes ", ")) ++ text.mask_text mask) (two_typed os h)
    acts_same (Gep e inbounds) ty os h = ap (λ t. text.stepped_text e inbounds ++ t) (indices os h)
    acts_same (Load align) ty os h = ap (λ t. codes "load " ++ (ty_text ty ++ (codes ", ptr " ++ (t ++ text.align_text align)))) (bare os h 0)
    acts_same (Store align) ty os h =
        ap (λ t. codes "store " ++ (ty_text ty ++ (codes " " ++ (t ++ (codes ", ptr " ++ (bare_at now gs (slice_get (map (new_opd ids) os) 1) ++ text.align_text align)))))) (bare os h 0)
        ∙ ap (λ t. codes "store " ++ (ty_text ty ++ (codes " " ++ (bare_at before gs (slice_get os 0) ++ (codes ", ptr " ++ (t ++ text.align_text align)))))) (bare os h 1)
    acts_same (Alloca e align) ty os h = refl
    acts_same (Phi bs) ty os h = ap (λ t. codes "phi " ++ (ty_text ty ++ (codes " " ++ t))) (pairs os h bs)
    acts_same Ret ty os h = slot_same (text.ret_text now gs) (text.ret_text before gs) refl (λ o p. ap (λ t. codes "ret " ++ t) (typed_same o p)) os h 0
    acts_same (Br b) ty os h = ap (λ t. codes "br " ++ t) (labels_same b)
    acts_same (CondBr b c) ty os h =
        ap (λ t. codes "br i1 " ++ (t ++ (codes ", " ++ (label_text now b ++ (codes ", " ++ label_text now c))))) (bare os h 0)
        ∙ ap (λ t. codes "br i1 " ++ (bare_at before gs (slice_get os 0) ++ (codes ", " ++ (t ++ (codes ", " ++ label_text now c))))) (labels_same b)
        ∙ ap (λ t. codes "br i1 " ++ (bare_at before gs (slice_get os 0) ++ (codes ", " ++ (label_text before b ++ (codes ", " ++ t))))) (labels_same c)
    acts_same (Switch other cases to) ty os h =
        ap (λ t. codes "switch " ++ (t ++ (codes ", " ++ (label_text now other ++ (codes " [\n" ++ (text.cases_text now (text.switch_width now (slice_get (map (new_opd ids) os) 0)) cases to ++ codes "  ]")))))) (typed os h 0)
        ∙ ap (λ t. codes "switch " ++ (typed_at before gs (slice_get os 0) ++ (codes ", " ++ (t ++ (codes " [\n" ++ (text.cases_text now (text.switch_width now (slice_get (map (new_opd ids) os) 0)) cases to ++ codes "  ]")))))) (labels_same other)
        ∙ ap (λ t. codes "switch " ++ (typed_at before gs (slice_get os 0) ++ (codes ", " ++ (label_text before other ++ (codes " [\n" ++ (t ++ codes "  ]"))))))
        (ap (λ w. text.cases_text now w cases to) (width_same os h) ∙ cases_same (text.switch_width before (slice_get os 0)) cases to)
    acts_same Unreachable ty os h = refl
    acts_same (Call site) ty os h =
        ap (λ t. text.tail_text site.tail ++ (text.callee_text site.pre ty site.callee ++ (t ++ (codes ")" ++ spaced site.post)))) (arguments os h site.attrs)

    results_same : (a b : Bool) (i : Inst) → In ids i.id → text.result_text now a b (new_inst ids i) ≡ text.result_text before a b i
    results_same false false i p = ap (λ t. t ++ codes " = ") (shown_local i.id p)
    results_same false true i p = refl
    results_same true b i p = refl

    insts_same : (is : List Inst) → Every (InstIn ids) is → text.insts_text now gs (map (new_inst ids) is) ≡ text.insts_text before gs is
    insts_same [] h = refl
    insts_same (i ∷ is) h =
        ap (λ t. (codes "  " ++ (t ++ (text.act_text now gs i.op i.ty (map (new_opd ids) i.opds) ++ codes "\n"))) ++ text.insts_text now gs (map (new_inst ids) is))
        (results_same (is_void i.ty) (is_store i.op) i h.0.id)
        ∙ ap (λ t. (codes "  " ++ (text.result_text before (is_void i.ty) (is_store i.op) i ++ (t ++ codes "\n"))) ++ text.insts_text now gs (map (new_inst ids) is))
        (acts_same i.op i.ty i.opds h.0.opds)
        ∙ ap (λ t. text.inst_text before gs i ++ t) (insts_same is h.1)

    -- ---- functions

    more_blocks_same : (at : ℕ) (bs : List Block) → Every (BlockIn ids) bs → more_blocks now gs at (map (new_block ids) bs) ≡ more_blocks before gs at bs
    more_blocks_same at [] h = refl
    more_blocks_same at (b ∷ bs) h =
        ap (λ ls. (codes "\n" ++ (label_line (slice_get ls at) ++ text.insts_text now gs (map (new_inst ids) b.insts))) ++ more_blocks now gs (at + 1) (map (new_block ids) bs)) alike.labels
        ∙ ap (λ t. (codes "\n" ++ (label_line (slice_get before.labels at) ++ t)) ++ more_blocks now gs (at + 1) (map (new_block ids) bs)) (insts_same b.insts h.0)
        ∙ ap (λ t. next_block before gs at b ++ t) (more_blocks_same (at + 1) bs h.1)

    blocks_same : (bs : List Block) → Every (BlockIn ids) bs → blocks_text now gs (map (new_block ids) bs) ≡ blocks_text before gs bs
    blocks_same [] h = refl
    blocks_same (b ∷ bs) h =
        ap (λ t. label_line b.name ++ (t ++ more_blocks now gs 1 (map (new_block ids) bs))) (insts_same b.insts h.0)
        ∙ ap (λ t. label_line b.name ++ (text.insts_text before gs b.insts ++ t)) (more_blocks_same 1 bs h.1)

    param_same : (p : Param) → In ids p.id → param_text now (new_param ids p) ≡ param_text before p
    param_same p h = ap (λ t. ty_text p.ty ++ (spaced p.attrs ++ (codes " " ++ t))) (shown_local p.id h)

    more_params_same : (ps : List Param) → Every (λ (p : Param). In ids p.id) ps → more_params now (map (new_param ids) ps) ≡ more_params before ps
    more_params_same [] h = refl
    more_params_same (p ∷ ps) h =
        ap (λ t. codes ", " ++ (t ++ more_params now (map (new_param ids) ps))) (param_same p h.0) ∙ ap (λ t. codes ", " ++ (param_text before p ++ t)) (more_params_same ps h.1)

    params_same : (ps : List Param) → Every (λ (p : Param). In ids p.id) ps → params_text now (map (new_param ids) ps) ≡ params_text before ps
    params_same [] h = refl
    params_same (p ∷ ps) h = ap (λ t. t ++ more_params now (map (new_param ids) ps)) (param_same p h.0) ∙ ap (λ t. param_text before p ++ t) (more_params_same ps h.1)

    func_same : (f : Func) → FuncIn ids f → func_with now gs (new_func ids f) ≡ func_with before gs f
    func_same f h =
        ap (λ t. (head_text f ++ (codes "(" ++ (t ++ (codes ")" ++ (spaced f.after ++ codes " {\n"))))) ++ (blocks_text now gs (map (new_block ids) f.blocks) ++ codes "}\n")) (params_same f.params h.params)
        ∙ ap (λ t. header_text before f ++ (t ++ codes "}\n")) (blocks_same f.blocks h.blocks)

  -- ---- items

  item_same : (gs : List (List ℕ)) (i : Item) → ItemIn ids i → item_text gs (new_item ids i) ≡ item_text gs i
  item_same gs (Kept text) h = refl
  item_same gs (Opaque text) h = refl
  item_same gs (FuncItem f) h = func_same (names_of (new_func ids f)) (names_of f) gs (names_alike f h) f h

  is_function_same : (i : Item) → is_function (new_item ids i) ≡ is_function i
  is_function_same (Kept text) = refl
  is_function_same (Opaque text) = refl
  is_function_same (FuncItem f) = refl

  more_items_same : (gs : List (List ℕ)) (before : Bool) (items : List Item) → Every (ItemIn ids) items → more_items gs before (map (new_item ids) items) ≡ more_items gs before items
  more_items_same gs before [] h = refl
  more_items_same gs before (i ∷ items) h =
      ap (λ b. gap_text before b ++ (item_text gs (new_item ids i) ++ more_items gs b (map (new_item ids) items))) (is_function_same i)
      ∙ ap (λ t. gap_text before (is_function i) ++ (t ++ more_items gs (is_function i) (map (new_item ids) items))) (item_same gs i h.0)
      ∙ ap (λ t. gap_text before (is_function i) ++ (item_text gs i ++ t)) (more_items_same gs (is_function i) items h.1)

  items_same : (gs : List (List ℕ)) (items : List Item) → Every (ItemIn ids) items → items_text gs (map (new_item ids) items) ≡ items_text gs items
  items_same gs [] h = refl
  items_same gs (i ∷ items) h =
      ap (λ b. item_text gs (new_item ids i) ++ more_items gs b (map (new_item ids) items)) (is_function_same i)
      ∙ ap (λ t. t ++ more_items gs (is_function i) (map (new_item ids) items)) (item_same gs i h.0)
      ∙ ap (λ t. item_text gs i ++ t) (more_items_same gs (is_function i) items h.1)

pub renumbered_text : (m : Module) → IsFormed m → text_of (renumbered m) ≡ text_of m
renumbered_text m h = items_same (ids_of m) m.globals m.items (module_in m h)
