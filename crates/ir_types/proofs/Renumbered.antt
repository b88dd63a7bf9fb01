-- A formed module with its ids given anew is formed.
use Rattle.std.proofs.Common.{◌≡◌, refl, sym, ap, ◌∙◌, subst, ℕ, zero, suc, ◌-◌, ◌<◌, Bool, true, false, not, ◌&&◌, ◌||◌, ◌==◌, Option, None, Some, List, [], ◌∷◌, ◌++◌, length, map, take, get_or, slice_get, option_map, if◌then◌else◌, arith}
use Rattle.std.specs.List.{All, AllPairs, Contains, list_any, count_by}
use Rattle.std.proofs.lemmas.List.{map-append}
use Rattle.std.proofs.lemmas.List.Elements.{All-map}
use Rattle.std.proofs.lemmas.Option.{slice_get-map, slice_get-get_or, get_or_from_slice_get}
use Rattle.ir_types.specs.declared.id.Id.{Id}
use Rattle.ir_types.specs.declared.ty.Ty.{Ty}
use Rattle.ir_types.specs.declared.opd.Opd.{Opd}
use Rattle.ir_types.specs.declared.opd.Opd.TheVariants.{Val, Lit, Sym}
use Rattle.ir_types.specs.declared.op.Op.{Op}
use Rattle.ir_types.specs.declared.op.Op.TheVariants.{Phi, Call}
use Rattle.ir_types.specs.declared.inst.Inst.{Inst}
use Rattle.ir_types.specs.declared.func.Param.{Param}
use Rattle.ir_types.specs.declared.func.Block.{Block}
use Rattle.ir_types.specs.declared.func.Func.{Func}
use Rattle.ir_types.specs.declared.module.Item.{Item}
use Rattle.ir_types.specs.declared.module.Item.TheVariants.{Kept, Opaque, Func as FuncItem}
use Rattle.ir_types.specs.declared.module.Module.{Module}
use Rattle.ir_types.specs.Typed.{is_value, IsTyped}
use Rattle.ir_types.specs.Walks.{targets_at, IsWalk}
use Rattle.ir_types.specs.Available.{same_id, op_targets, targets_of, block_targets, is_param, defines, insts_of, insts_at, stands_from, stands_on, before_use, IsAvailableOpd, IsAvailableInst, IsAvailableBlock, IsAvailableFunc, IsAvailableItem}
use Rattle.ir_types.specs.Formed.{given_ty, ty_in_insts, or_else, ty_in_blocks, ty_in_params, value_ty, opd_ty, IsOpd, is_terminator, ends_from, EndsOnce, PhisFirst, is_phi, IsIncoming, IsCalling, block_ids, item_ids, ids_of_items, ids_of, IsFormedInst, IsFormedBlock, IsFormedFunc, IsFormedItem, IsFormed, IsPoisonIfPointer, is_plain, IsPlainInst, IsPlainBlock, IsPlainFunc, IsPlainItem, function_names}
use Rattle.ir_types.specs.KeptParts.{IsAttributes}
use Rattle.ir_types.specs.Renumbered.{new_id, new_opd, new_inst, new_block, new_param, new_func, new_item, renumbered}
use Rattle.ir_types.proofs.Formed.{Every, every_at}
use Rattle.ir_types.proofs.Among.{among, same_is, same_itself, new_apart, In, OpdIn, InstIn, BlockIn, FuncIn, ItemIn, module_in}

-- ---- lists

-- an item of a list that a function made
map_found : {A B : Type 0} (f : A → B) (xs : List A) (k : ℕ) (y : B) → slice_get (map f xs) k ≡ Some y → (x : A) × (slice_get xs k ≡ Some x) × (f x ≡ y)
map_found f [] k y e = absurd cc
map_found f (x ∷ xs) zero y e = let s : f x ≡ y = cc in (x, refl, s)
map_found f (x ∷ xs) (suc k) y e = map_found f xs k y e

length_map : {A B : Type 0} (f : A → B) (xs : List A) → length (map f xs) ≡ length xs
length_map f [] = refl
length_map f (x ∷ xs) = ap suc (length_map f xs)

true_false : true ≡ false → ⊥
true_false e = cc

module _ (ids : List Id) where
  abbrev pub New : Id → Id
  New = new_id 0 ids

  -- ---- types of ids

  ty_insts : (is : List Inst) → Every (InstIn ids) is → (x : Id) → In ids x → ty_in_insts (New x) (map (new_inst ids) is) ≡ ty_in_insts x is
  ty_insts [] h x p = refl
  ty_insts (i ∷ is) h x p =
      ap (λ b. if b then Some (given_ty i.op i.ty) else ty_in_insts (New x) (map (new_inst ids) is)) (new_apart 0 ids i.id x h.0.id p)
      ∙ ap (λ o. if same_id i.id x then Some (given_ty i.op i.ty) else o) (ty_insts is h.1 x p)

  ty_blocks : (bs : List Block) → Every (BlockIn ids) bs → (x : Id) → In ids x → ty_in_blocks (New x) (map (new_block ids) bs) ≡ ty_in_blocks x bs
  ty_blocks [] h x p = refl
  ty_blocks (b ∷ bs) h x p =
      ap (λ o. or_else o (ty_in_blocks (New x) (map (new_block ids) bs))) (ty_insts b.insts h.0 x p) ∙ ap (or_else (ty_in_insts x b.insts)) (ty_blocks bs h.1 x p)

  ty_params : (ps : List Param) → Every (λ (p : Param). In ids p.id) ps → (x : Id) → In ids x → ty_in_params (New x) (map (new_param ids) ps) ≡ ty_in_params x ps
  ty_params [] h x p = refl
  ty_params (q ∷ ps) h x p =
      ap (λ b. if b then Some q.ty else ty_in_params (New x) (map (new_param ids) ps)) (new_apart 0 ids q.id x h.0 p)
      ∙ ap (λ o. if same_id q.id x then Some q.ty else o) (ty_params ps h.1 x p)

  ty_value : (f : Func) → FuncIn ids f → (x : Id) → In ids x → value_ty (new_func ids f) (New x) ≡ value_ty f x
  ty_value f h x p =
      ap (λ o. or_else o (ty_in_blocks (New x) (map (new_block ids) f.blocks))) (ty_params f.params h.params x p) ∙ ap (or_else (ty_in_params x f.params)) (ty_blocks f.blocks h.blocks x p)

  -- ---- the graph

  last_targets : (o : Option Inst) → targets_of (option_map (new_inst ids) o) ≡ targets_of o
  last_targets None = refl
  last_targets (Some i) = refl

  same_targets : (b : Block) → block_targets (new_block ids b) ≡ block_targets b
  same_targets b =
      ap (λ n. targets_of (slice_get (map (new_inst ids) b.insts) (n - 1))) (length_map (new_inst ids) b.insts)
      ∙ ap targets_of (slice_get-map (new_inst ids) b.insts (length b.insts - 1)) ∙ last_targets (slice_get b.insts (length b.insts - 1))

  same_graph : (bs : List Block) → map block_targets (map (new_block ids) bs) ≡ map block_targets bs
  same_graph [] = refl
  same_graph (b ∷ bs) = ap (λ t. t ∷ map block_targets (map (new_block ids) bs)) (same_targets b) ∙ ap (λ ts. block_targets b ∷ ts) (same_graph bs)

  -- ---- what stands where

  defines_new : (n : ℕ) (is : List Inst) → Every (InstIn ids) is → (x : Id) → In ids x → defines (New x) (take n (map (new_inst ids) is)) ≡ defines x (take n is)
  defines_new zero [] h x p = refl
  defines_new zero (i ∷ is) h x p = refl
  defines_new (suc n) [] h x p = refl
  defines_new (suc n) (i ∷ is) h x p =
      ap (λ b. b || defines (New x) (take n (map (new_inst ids) is))) (new_apart 0 ids i.id x h.0.id p) ∙ ap (λ b. same_id i.id x || b) (defines_new n is h.1 x p)

  defines_all : (is : List Inst) → Every (InstIn ids) is → (x : Id) → In ids x → defines (New x) (map (new_inst ids) is) ≡ defines x is
  defines_all [] h x p = refl
  defines_all (i ∷ is) h x p =
      ap (λ b. b || defines (New x) (map (new_inst ids) is)) (new_apart 0 ids i.id x h.0.id p) ∙ ap (λ b. same_id i.id x || b) (defines_all is h.1 x p)

  params_new : (ps : List Param) → Every (λ (p : Param). In ids p.id) ps → (x : Id) → In ids x →
      list_any (λ (p : Param). same_id p.id (New x)) (map (new_param ids) ps) ≡ list_any (λ (p : Param). same_id p.id x) ps
  params_new [] h x p = refl
  params_new (q ∷ ps) h x p =
      ap (λ b. b || list_any (λ (r : Param). same_id r.id (New x)) (map (new_param ids) ps)) (new_apart 0 ids q.id x h.0 p)
      ∙ ap (λ b. same_id q.id x || b) (params_new ps h.1 x p)

  insts_new : (f : Func) (a : ℕ) → insts_at (new_func ids f) a ≡ map (new_inst ids) (insts_at f a)
  insts_new f a = ap insts_of (slice_get-map (new_block ids) f.blocks a) ∙ by_block (slice_get f.blocks a)
    where
      by_block : (o : Option Block) → insts_of (option_map (new_block ids) o) ≡ map (new_inst ids) (insts_of o)
      by_block None = refl
      by_block (Some b) = refl

  insts_in : (f : Func) → FuncIn ids f → (a : ℕ) → Every (InstIn ids) (insts_at f a)
  insts_in f h a = by_block (slice_get f.blocks a) refl
    where
      by_block : (o : Option Block) → slice_get f.blocks a ≡ o → Every (InstIn ids) (insts_of o)
      by_block None e = tt
      by_block (Some b) e = every_at (BlockIn ids) f.blocks a b h.blocks e

  stands_from_new : (f : Func) → FuncIn ids f → (x : Id) → In ids x → (before a : ℕ) (rest : List ℕ) → stands_from (new_func ids f) (New x) before a rest ≡ stands_from f x before a rest
  stands_from_new f h x p before a [] =
      ap (λ is. defines (New x) (take before is)) (insts_new f a) ∙ defines_new before (insts_at f a) (insts_in f h a) x p
  stands_from_new f h x p before a (b ∷ rest) =
      ap (λ c. c || stands_from (new_func ids f) (New x) before b rest) (ap (defines (New x)) (insts_new f a) ∙ defines_all (insts_at f a) (insts_in f h a) x p)
      ∙ ap (λ c. defines x (insts_at f a) || c) (stands_from_new f h x p before b rest)

  stands_new : (f : Func) → FuncIn ids f → (x : Id) → In ids x → (before : ℕ) (walk : List ℕ) → stands_on (new_func ids f) (New x) before walk ≡ stands_on f x before walk
  stands_new f h x p before [] = params_new f.params h.params x p
  stands_new f h x p before (a ∷ rest) =
      ap (λ c. c || stands_from (new_func ids f) (New x) before a rest) (params_new f.params h.params x p) ∙ ap (λ c. is_param x f || c) (stands_from_new f h x p before a rest)

  -- ---- instructions

  ends_new : (i : Inst) (is : List Inst) → ends_from (new_inst ids i) (map (new_inst ids) is) ≡ ends_from i is
  ends_new i [] = refl
  ends_new i (j ∷ is) = ap (λ b. not (is_terminator i.op) && b) (ends_new j is)

  ends_once_new : (is : List Inst) → EndsOnce is → EndsOnce (map (new_inst ids) is)
  ends_once_new [] h = h
  ends_once_new (i ∷ is) h = ends_new i is ∙ h

  phis_new : (before : Bool) (is : List Inst) → PhisFirst before is → PhisFirst before (map (new_inst ids) is)
  phis_new before [] h = tt
  phis_new before (i ∷ is) h = (h.0, phis_new (before && is_phi i.op) is h.1)

  literals_new : (os : List Opd) → All IsOpd os → All IsOpd (map (new_opd ids) os)
  literals_new os h = All-map IsOpd (new_opd ids) os (λ k d less. literal (get_or os k d) (h k d less))
    where
      literal : (o : Opd) → IsOpd o → IsOpd (new_opd ids o)
      literal (Val x) h = tt
      literal (Lit l) h = h
      literal (Sym g) h = tt

  incoming_new : (f : Func) (number : ℕ) (op : Op) (os : List Opd) → IsIncoming f number op os → IsIncoming (new_func ids f) number op (map (new_opd ids) os)
  incoming_new f number (Phi blocks) os h = (
    λ c. h.0 c ∙ ap (λ g. count_by (λ b. b == number) (targets_at g c)) (sym (same_graph f.blocks)),
    λ i j b p q. slice_get-map (new_opd ids) os i ∙ ap (option_map (new_opd ids)) (h.1 i j b p q) ∙ sym (slice_get-map (new_opd ids) os j),
  )
  incoming_new f number op os h = tt

  same_param_types : (ps : List Param) → map (λ (p : Param). Some p.ty) (map (new_param ids) ps) ≡ map (λ (p : Param). Some p.ty) ps
  same_param_types [] = refl
  same_param_types (p ∷ ps) = ap (λ ts. Some p.ty ∷ ts) (same_param_types ps)

  contains_new : (items : List Item) (f : Func) → Contains items (FuncItem f) → Contains (map (new_item ids) items) (FuncItem (new_func ids f))
  contains_new items f h = (
    h.0,
    (let long = length_map (new_item ids) items in let less = h.1 in omega arith),
    get_or_from_slice_get (map (new_item ids) items) h.0 (FuncItem (new_func ids f)) (FuncItem (new_func ids f))
        (slice_get-map (new_item ids) items h.0 ∙ ap (option_map (new_item ids)) (slice_get-get_or items h.0 (FuncItem f) h.1 ∙ ap Some h.2)),
  )

  module _ (m : Module) where
    abbrev Renewed : Module
    Renewed = record { items = map (new_item ids) m.items; globals = m.globals; big_endian_line = m.big_endian_line }

    calling_new : (op : Op) (t : Ty) (tys : List (Option Ty)) → IsCalling m op t tys → IsCalling Renewed op t tys
    calling_new (Call site) t tys h =
        (new_func ids h.0, contains_new m.items h.0 h.1, h.2, h.3, h.4 ∙ sym (same_param_types h.0.params))
    calling_new op t tys h = tt

    opd_types : (f : Func) → FuncIn ids f → (os : List Opd) → Every (OpdIn ids) os → map (opd_ty Renewed (new_func ids f)) (map (new_opd ids) os) ≡ map (opd_ty m f) os
    opd_types f h [] p = refl
    opd_types f h (o ∷ os) p =
        ap (λ t. t ∷ map (opd_ty Renewed (new_func ids f)) (map (new_opd ids) os)) (one o p.0) ∙ ap (λ ts. opd_ty m f o ∷ ts) (opd_types f h os p.1)
      where
        one : (o : Opd) → OpdIn ids o → opd_ty Renewed (new_func ids f) (new_opd ids o) ≡ opd_ty m f o
        one (Val x) q = ty_value f h x q
        one (Lit l) q = refl
        one (Sym g) q = refl

    inst_new : (f : Func) → FuncIn ids f → (number position : ℕ) (i : Inst) → InstIn ids i → IsFormedInst m f number position i → IsFormedInst Renewed (new_func ids f) number position (new_inst ids i)
    inst_new f h number position i p z = record {
      operands = literals_new i.opds z.operands;
      typed = subst (IsTyped f.ret i.op i.ty) (sym (opd_types f h i.opds p.opds)) z.typed;
      targets = λ k d less. let t = z.targets k d less in (t.0, subst (λ n. get_or (op_targets i.op) k d < n) (sym (length_map (new_block ids) f.blocks)) t.1);
      incoming = incoming_new f number i.op i.opds z.incoming;
      calling = subst (IsCalling Renewed i.op i.ty) (sym (opd_types f h i.opds p.opds)) (calling_new i.op i.ty (map (opd_ty m f) i.opds) z.calling);
      allocas = z.allocas;
    }

    block_new : (f : Func) → FuncIn ids f → (number : ℕ) (b : Block) → BlockIn ids b → IsFormedBlock m f number b → IsFormedBlock Renewed (new_func ids f) number (new_block ids b)
    block_new f h number b p z = record {
      ends = ends_once_new b.insts z.ends;
      phis = phis_new true b.insts z.phis;
      insts = λ k j e.
          let r = map_found (new_inst ids) b.insts k j e in
          subst (λ (i : Inst). IsFormedInst Renewed (new_func ids f) number k i) r.2 (inst_new f h number k r.0 (every_at (InstIn ids) b.insts k r.0 p r.1) (z.insts k r.0 r.1));
    }

    func_new : (f : Func) → FuncIn ids f → IsFormedFunc m f → IsFormedFunc Renewed (new_func ids f)
    func_new f h z = record {
      returns = z.returns;
      params = All-map (λ (p : Param). is_value p.ty ≡ true) (new_param ids) f.params z.params;
      blocks = λ k c e.
          let r = map_found (new_block ids) f.blocks k c e in
          subst (λ (b : Block). IsFormedBlock Renewed (new_func ids f) k b) r.2 (block_new f h k r.0 (every_at (BlockIn ids) f.blocks k r.0 h.blocks r.1) (z.blocks k r.0 r.1));
      some = subst (λ n. 0 < n) (sym (length_map (new_block ids) f.blocks)) z.some;
    }

    item_new : (i : Item) → ItemIn ids i → IsFormedItem m i → IsFormedItem Renewed (new_item ids i)
    item_new (Kept text) h z = tt
    item_new (Opaque text) h z = tt
    item_new (FuncItem f) h z = func_new f h z

  -- ---- names

  poison_new : (o : Opd) → IsPoisonIfPointer o → IsPoisonIfPointer (new_opd ids o)
  poison_new (Val x) h = tt
  poison_new (Lit l) h = h
  poison_new (Sym g) h = tt

  plain_inst : (i : Inst) → IsPlainInst i → IsPlainInst (new_inst ids i)
  plain_inst i h = record {
    named = h.named;
    silent = h.silent;
    pointers = All-map IsPoisonIfPointer (new_opd ids) i.opds (λ k d less. poison_new (get_or i.opds k d) (h.pointers k d less));
  }

  plain_block : (b : Block) → IsPlainBlock b → IsPlainBlock (new_block ids b)
  plain_block b h = record {
    named = h.named;
    insts = All-map IsPlainInst (new_inst ids) b.insts (λ k d less. plain_inst (get_or b.insts k d) (h.insts k d less));
  }

  plain_func : (f : Func) → IsPlainFunc f → IsPlainFunc (new_func ids f)
  plain_func f h = record {
    header = record {
      in_front = h.header.in_front;
      attributed = All-map (λ (p : Param). IsAttributes p.noalias p.attrs) (new_param ids) f.params h.header.attributed;
      at_end = h.header.at_end;
    };
    named = h.named;
    params = All-map (λ (p : Param). is_plain p.name ≡ true) (new_param ids) f.params h.params;
    blocks = All-map IsPlainBlock (new_block ids) f.blocks (λ k d less. plain_block (get_or f.blocks k d) (h.blocks k d less));
  }

  plain_item : (i : Item) → IsPlainItem i → IsPlainItem (new_item ids i)
  plain_item (Kept text) h = tt
  plain_item (Opaque text) h = tt
  plain_item (FuncItem f) h = plain_func f h

  same_names : (items : List Item) → function_names (map (new_item ids) items) ≡ function_names items
  same_names [] = refl
  same_names (Kept text ∷ items) = same_names items
  same_names (Opaque text ∷ items) = same_names items
  same_names (FuncItem f ∷ items) = ap (λ xs. f.name ∷ xs) (same_names items)

  -- ---- availability

  before_new : (op : Op) (last : List Inst) (k : ℕ) → before_use op (map (new_inst ids) last) k ≡ before_use op last k
  before_new (Phi blocks) last k = length_map (new_inst ids) last
  before_new op last k = refl

  opd_available : (f : Func) → FuncIn ids f → (number position : ℕ) (i : Inst) (slot : ℕ) (o : Opd) → OpdIn ids o → IsAvailableOpd f number position i slot o →
      IsAvailableOpd (new_func ids f) number position (new_inst ids i) slot (new_opd ids o)
  opd_available f h number position i slot (Val x) p z =
      λ end e walk walks ends.
      stands_new f h x p (before_use i.op (insts_at (new_func ids f) end) position) walk
      ∙ ap (λ n. stands_on f x n walk) (ap (λ is. before_use i.op is position) (insts_new f end) ∙ before_new i.op (insts_at f end) position)
      ∙ z end e walk (subst (λ g. IsWalk g walk) (same_graph f.blocks) walks) ends
  opd_available f h number position i slot (Lit l) p z = tt
  opd_available f h number position i slot (Sym g) p z = tt

  inst_available : (f : Func) → FuncIn ids f → (number position : ℕ) (i : Inst) → InstIn ids i → IsAvailableInst f number position i → IsAvailableInst (new_func ids f) number position (new_inst ids i)
  inst_available f h number position i p z slot u e =
      let r = map_found (new_opd ids) i.opds slot u e in
      subst (IsAvailableOpd (new_func ids f) number position (new_inst ids i) slot) r.2
      (opd_available f h number position i slot r.0 (every_at (OpdIn ids) i.opds slot r.0 p.opds r.1) (z slot r.0 r.1))

  block_available : (f : Func) → FuncIn ids f → (number : ℕ) (b : Block) → BlockIn ids b → IsAvailableBlock f number b → IsAvailableBlock (new_func ids f) number (new_block ids b)
  block_available f h number b p z k j e =
      let r = map_found (new_inst ids) b.insts k j e in
      subst (IsAvailableInst (new_func ids f) number k) r.2 (inst_available f h number k r.0 (every_at (InstIn ids) b.insts k r.0 p r.1) (z k r.0 r.1))

  func_available : (f : Func) → FuncIn ids f → IsAvailableFunc f → IsAvailableFunc (new_func ids f)
  func_available f h z k c e =
      let r = map_found (new_block ids) f.blocks k c e in
      subst (IsAvailableBlock (new_func ids f) k) r.2 (block_available f h k r.0 (every_at (BlockIn ids) f.blocks k r.0 h.blocks r.1) (z k r.0 r.1))

  item_available : (k : ℕ) (i : Item) → ItemIn ids i → IsAvailableItem k i → IsAvailableItem k (new_item ids i)
  item_available k (Kept text) h z = tt
  item_available k (Opaque text) h z = tt
  item_available k (FuncItem f) h z = func_available f h z

  -- ---- ids

  insts_ids : (is : List Inst) → map (λ (i : Inst). i.id) (map (new_inst ids) is) ≡ map New (map (λ (i : Inst). i.id) is)
  insts_ids [] = refl
  insts_ids (i ∷ is) = ap (λ xs. New i.id ∷ xs) (insts_ids is)

  blocks_ids : (bs : List Block) → block_ids (map (new_block ids) bs) ≡ map New (block_ids bs)
  blocks_ids [] = refl
  blocks_ids (b ∷ bs) =
      ap (λ xs. xs ++ block_ids (map (new_block ids) bs)) (insts_ids b.insts) ∙ ap (λ xs. map New (map (λ (i : Inst). i.id) b.insts) ++ xs) (blocks_ids bs)
      ∙ sym (map-append New (map (λ (i : Inst). i.id) b.insts) (block_ids bs))

  params_ids : (ps : List Param) → map (λ (p : Param). p.id) (map (new_param ids) ps) ≡ map New (map (λ (p : Param). p.id) ps)
  params_ids [] = refl
  params_ids (p ∷ ps) = ap (λ xs. New p.id ∷ xs) (params_ids ps)

  item_new_ids : (i : Item) → item_ids (new_item ids i) ≡ map New (item_ids i)
  item_new_ids (Kept text) = refl
  item_new_ids (Opaque text) = refl
  item_new_ids (FuncItem f) =
      ap (λ xs. xs ++ block_ids (map (new_block ids) f.blocks)) (params_ids f.params) ∙ ap (λ xs. map New (map (λ (p : Param). p.id) f.params) ++ xs) (blocks_ids f.blocks)
      ∙ sym (map-append New (map (λ (p : Param). p.id) f.params) (block_ids f.blocks))

  pub items_new_ids : (items : List Item) → ids_of_items (map (new_item ids) items) ≡ map New (ids_of_items items)
  items_new_ids [] = refl
  items_new_ids (i ∷ items) =
      ap (λ xs. xs ++ ids_of_items (map (new_item ids) items)) (item_new_ids i) ∙ ap (λ xs. map New (item_ids i) ++ xs) (items_new_ids items)
      ∙ sym (map-append New (item_ids i) (ids_of_items items))

-- an id of a list is among its ids
at_among : (xs : List Id) (k : ℕ) (x : Id) → slice_get xs k ≡ Some x → among xs x ≡ true
at_among [] k x e = absurd cc
at_among (y ∷ xs) zero x e = let s : y ≡ x = cc in ap (λ z. same_id z x || among xs x) s ∙ ap (λ b. b || among xs x) (same_itself x)
at_among (y ∷ xs) (suc k) x e = by_test (same_id y x) (at_among xs k x e) where
  by_test : (b : Bool) → among xs x ≡ true → (b || among xs x) ≡ true
  by_test true h = refl
  by_test false h = h

new_once : (xs : List Id) → AllPairs (λ (a b : Id). a ≡ b → ⊥) xs → AllPairs (λ (a b : Id). a ≡ b → ⊥) (map (new_id 0 xs) xs)
new_once xs h i j d less within same =
    h i j zero_id less here
    (same_is (get_or xs i zero_id) (get_or xs j zero_id)
    (sym (new_apart 0 xs (get_or xs i zero_id) (get_or xs j zero_id) (at_among xs i (get_or xs i zero_id) (slice_get-get_or xs i zero_id there)) (at_among xs j (get_or xs j zero_id) (slice_get-get_or xs j zero_id here)))
    ∙ ap (same_id (new_id 0 xs (get_or xs i zero_id))) (sym new_same) ∙ same_itself (new_id 0 xs (get_or xs i zero_id))))
  where
    zero_id : Id
    zero_id = record { region = 0; k = 0 }

    here : j < length xs
    here = let long = length_map (new_id 0 xs) xs in omega arith

    there : i < length xs
    there = let long = length_map (new_id 0 xs) xs in omega arith

    at : (k : ℕ) → k < length xs → get_or (map (new_id 0 xs) xs) k d ≡ new_id 0 xs (get_or xs k zero_id)
    at k less =
        get_or_from_slice_get (map (new_id 0 xs) xs) k (new_id 0 xs (get_or xs k zero_id)) d
        (slice_get-map (new_id 0 xs) xs k ∙ ap (option_map (new_id 0 xs)) (slice_get-get_or xs k zero_id less))

    new_same : new_id 0 xs (get_or xs i zero_id) ≡ new_id 0 xs (get_or xs j zero_id)
    new_same = sym (at i there) ∙ same ∙ at j here

-- ---- the module

pub renumbered_formed : (m : Module) → IsFormed m → IsFormed (renumbered m)
renumbered_formed m h = record {
  items = All-map (IsFormedItem (renumbered m)) (new_item (ids_of m)) m.items
      (λ k d less. item_new (ids_of m) m (get_or m.items k d) (every_at (ItemIn (ids_of m)) m.items k (get_or m.items k d) (module_in m h) (slice_get-get_or m.items k d less)) (h.items k d less));
  plain = record {
    items = All-map IsPlainItem (new_item (ids_of m)) m.items (λ k d less. plain_item (ids_of m) (get_or m.items k d) (h.plain.items k d less));
    names = subst (AllPairs (λ (a b : List ℕ). a ≡ b → ⊥)) (sym (same_names (ids_of m) m.items)) h.plain.names;
  };
  once = subst (AllPairs (λ (a b : Id). a ≡ b → ⊥)) (sym (items_new_ids (ids_of m) m.items)) (new_once (ids_of m) h.once);
  available = λ k j e.
      let r = map_found (new_item (ids_of m)) m.items k j e in
      subst (IsAvailableItem k) r.2 (item_available (ids_of m) k r.0 (every_at (ItemIn (ids_of m)) m.items k r.0 (module_in m h) r.1) (h.available k r.0 r.1));
}
