-- A formed module with its first pair of stores joined is formed.
use Rattle.std.proofs.Common.{◌≡◌, refl, sym, ap, ◌∙◌, subst, ℕ, zero, suc, ◌<◌, Bool, true, false, not, ◌&&◌, ◌||◌, Option, None, Some, List, [], ◌∷◌, ◌++◌, ◌⊎◌, inl, inr, cond, map, take, length, slice_get, if◌then◌else◌, arith, lit<}
use Rattle.std.specs.List.{All, AllPairs, Contains, list_all}
use Rattle.std.specs.Prelude.{is_none, slice_index_or}
use Rattle.std.proofs.lemmas.List.Elements.{All-nil, All-cons, All-head, All-tail}
use Rattle.vx_num.specs.Width.{IsLane}
use Rattle.vx_num.specs.declared.operations.BinOp.TheVariants.{Add}
use Rattle.ir_types.specs.declared.id.Id.{Id}
use Rattle.ir_types.specs.declared.ty.Ty.{Ty}
use Rattle.ir_types.specs.declared.ty.Ty.TheVariants.{Void, Int, Ptr, Row}
use Rattle.ir_types.specs.declared.literal.Literal.{Literal}
use Rattle.ir_types.specs.declared.opd.Opd.{Opd}
use Rattle.ir_types.specs.declared.opd.Opd.TheVariants.{Val, Lit, Sym}
use Rattle.ir_types.specs.declared.op.Op.{Op}
use Rattle.ir_types.specs.declared.op.Op.TheVariants.{Bin, Gep, Load, Store, Ret, Phi, Call}
use Rattle.ir_types.specs.declared.inst.Inst.{Inst}
use Rattle.ir_types.specs.declared.func.Param.{Param}
use Rattle.ir_types.specs.declared.func.Block.{Block}
use Rattle.ir_types.specs.declared.func.Func.{Func}
use Rattle.ir_types.specs.declared.module.Item.{Item}
use Rattle.ir_types.specs.declared.module.Item.TheVariants.{Kept, Opaque, Func as FuncItem}
use Rattle.ir_types.specs.declared.module.Module.{Module}
use Rattle.ir_types.specs.Typed.{is_value, lane_width, IsLiteral, IsAlign, IsTyped}
use Rattle.ir_types.specs.Walks.{IsWalk, EndsAt}
use Rattle.ir_types.specs.Available.{same_id, op_targets, targets_of, graph_of, is_param, defines, insts_at, stands_on, walk_end, before_use, Each, IsAvailableOpd, IsAvailableInst, IsAvailableBlock, IsAvailableFunc, IsAvailableItem, IsAvailable}
use Rattle.ir_types.specs.Formed.{given_ty, ty_in_insts, or_else, ty_in_params, value_ty, opd_ty, IsOpd, is_phi, EndsOnce, PhisFirst, IsTarget, IsIncoming, IsCalling, item_ids, ids_of, IsPoisonIfPointer, IsPlainInst, IsPlainBlock, IsPlainFunc, IsPlainItem, IsFormedInst, IsFormedBlock, IsFormedFunc, IsFormedItem, IsFormed}
use Rattle.ir_types.proofs.Formed.{Every, every_of_all, every_of_each, every_at, every_more, IsValued, typed_valued}
use Rattle.ir_types.proofs.Among.{same_is, Once, once_of_pairs}
use Rattle.ir_model.proofs.Ids.{value_type, func_once}
use Rattle.ir_model.proofs.Sound.{params_formed}
use Rattle.vx_serial.specs.declared.pairing.scan.LedStore.{LedStore}
use Rattle.vx_serial.specs.Pair.{is_statement_of, is_return_of, is_straight, is_void, is_empty, is_first_param, is_one_block, is_first_func, leads_at_start, paired, or_same, both_stored, pair_in_blocks, pair_in_func, pair_in_items, pair_of}
use Rattle.rf_pack.proofs.Statements.{both_true, true_of}
use Rattle.rf_pack.proofs.Straight.{StraightFrom, Last, More, straight_from}
use Rattle.rf_pack.proofs.PairShape.{IsLitStore, Joined, joined_of}
use Rattle.rf_pack.proofs.PairKept.{IsBoth, joined_every, sub_after, sub_before, sub_pairs, joined_sub, not_value, store_void, joined_ty, joined_ends, Uses, At, Stands, to_stands, from_stands, UsesValues, GivesNone, joined_stands}

-- ---- what straight code has

pub record IsSimple (op : Op) : Type 0 where
  pub no_phi : is_phi op ≡ false
  pub goes : op_targets op ≡ []
  pub comes : (f : Func) (n : ℕ) (opds : List Opd) → IsIncoming f n op opds
  pub calls : (m : Module) (t : Ty) (tys : List (Option Ty)) → IsCalling m op t tys
  pub ends : (slot n : ℕ) → walk_end op slot n ≡ Some n
  pub before : (last : List Inst) (k : ℕ) → before_use op last k ≡ k

simple_statement : (op : Op) (ty : Ty) (opds : List Opd) → is_statement_of op ty opds ≡ true → IsSimple op
simple_statement (Load align) ty (p ∷ []) h = record { no_phi = refl; goes = refl; comes = λ f n os. tt; calls = λ m t tys. tt; ends = λ s n. refl; before = λ l k. refl }
simple_statement (Bin Add flags) ty (a ∷ b ∷ []) h = record { no_phi = refl; goes = refl; comes = λ f n os. tt; calls = λ m t tys. tt; ends = λ s n. refl; before = λ l k. refl }
simple_statement (Gep elem inbounds) ty (p ∷ c ∷ []) h = record { no_phi = refl; goes = refl; comes = λ f n os. tt; calls = λ m t tys. tt; ends = λ s n. refl; before = λ l k. refl }
simple_statement (Store align) ty (v ∷ p ∷ []) h = record { no_phi = refl; goes = refl; comes = λ f n os. tt; calls = λ m t tys. tt; ends = λ s n. refl; before = λ l k. refl }
simple_statement op ty opds h = absurd (true_of h)

simple_return : (op : Op) (opds : List Opd) → is_return_of op opds ≡ true → IsSimple op
simple_return Ret [] h = record { no_phi = refl; goes = refl; comes = λ f n os. tt; calls = λ m t tys. tt; ends = λ s n. refl; before = λ l k. refl }
simple_return op opds h = absurd (true_of h)

simple_store : (align : ℕ) → IsSimple (Store align)
simple_store align = record { no_phi = refl; goes = refl; comes = λ f n os. tt; calls = λ m t tys. tt; ends = λ s n. refl; before = λ l k. refl }

abbrev pub Simple : Inst → Type 0
Simple i = IsSimple i.op

straight_simple : (is : List Inst) → is_straight is ≡ true → Every Simple is
straight_simple [] h = tt
straight_simple (i ∷ is) h = by_first (straight_from i is h) (straight_simple is) where
  by_first : StraightFrom i is → (is_straight is ≡ true → Every Simple is) → Every Simple (i ∷ is)
  by_first (Last r nil) more = (simple_return i.op i.opds r, subst (Every Simple) (sym nil) tt)
  by_first (More p r) more = (simple_statement i.op i.ty i.opds p, more r)

simple_both : (a b : LedStore) (j both : Inst) → IsBoth a b j both → Simple both
simple_both a b j both (inl e) = subst Simple (sym e) (simple_store a.align)
simple_both a b j both (inr e) = subst Simple (sym e) (simple_store b.align)

phis_first : (before : Bool) (is : List Inst) → Every Simple is → PhisFirst before is
phis_first before [] h = tt
phis_first before (i ∷ is) h = (λ e. absurd (true_of (sym h.0.no_phi ∙ e)), phis_first (before && is_phi i.op) is h.1)

all_of_every : {A : Type 0} (P : A → Type 0) (xs : List A) → Every P xs → All P xs
all_of_every P [] h = All-nil P
all_of_every P (x ∷ xs) h = All-cons P x xs h.0 (all_of_every P xs h.1)

two_every : {A : Type 0} (P Q : A → Type 0) (xs : List A) → Every P xs → Every Q xs → Every (λ x. P x × Q x) xs
two_every P Q [] p q = tt
two_every P Q (x ∷ xs) p q = ((p.0, q.0), two_every P Q xs p.1 q.1)

no_targets : (is : List Inst) → Every Simple is → (n : ℕ) → targets_of (slice_get is n) ≡ []
no_targets [] h n = refl
no_targets (i ∷ is) h zero = h.0.goes
no_targets (i ∷ is) h (suc n) = no_targets is h.1 n

valued_is : (u : Option Ty) → IsValued u → (t : Ty) × (u ≡ Some t) × (is_value t ≡ true)
valued_is None h = absurd h
valued_is (Some t) h = (t, refl, h)

-- ---- a module of one function of one block

module _ (before ret_name : List ℕ) (ret : Ty) (params : List Param) (after : List ℕ) (label : Option (List ℕ)) (globals : List (List ℕ)) (line : Option ℕ) where
  abbrev BlockOf : List Inst → Block
  BlockOf is = record { name = label; insts = is }

  abbrev FuncOf : List Inst → Func
  FuncOf is = record { before = before; ret = ret; name = ret_name; params = params; after = after; blocks = BlockOf is ∷ [] }

  abbrev pub ModuleOf : List Inst → Module
  ModuleOf is = record { items = FuncItem (FuncOf is) ∷ []; globals = globals; big_endian_line = line }

  abbrev IsFine : List Inst → Inst → Type 0
  IsFine is i = IsFormedInst (ModuleOf is) (FuncOf is) 0 0 i

  -- ---- no walk leaves the block

  no_edges : (is : List Inst) → Every Simple is → graph_of (FuncOf is) ≡ [] ∷ []
  no_edges is h = ap (λ ts. ts ∷ []) (no_targets is h _)

  only_walk : (walk : List ℕ) (end : ℕ) → IsWalk ([] ∷ []) walk → EndsAt walk end → (walk ≡ 0 ∷ []) × (end ≡ 0)
  only_walk [] end w e = absurd w
  only_walk (a ∷ []) end w e = (ap (λ n. n ∷ []) w.0, sym e ∙ w.0)
  only_walk (a ∷ b ∷ rest) end w e =
      let c : Contains (slice_index_or ([] ∷ []) 0 []) b = subst (λ n. Contains (slice_index_or ([] ∷ []) n []) b) w.0 w.2.0.0 in
      absurd (omega (arith, c.1))

  -- ---- uses are available exactly where what they use stands before them

  abbrev Params : Id → Bool
  Params x = is_param x (FuncOf [])

  stands_of : (is : List Inst) → Every Simple is → IsAvailableFunc (FuncOf is) → Stands Params is
  stands_of is simple h = to_stands is Params each where
    each : (k : ℕ) (i : Inst) → slice_get is k ≡ Some i → (x : Id) → Uses i x → Params x || defines x (take k is) ≡ true
    each k i e x (At slot u) =
        let s : IsSimple i.op = every_at Simple is k i simple e in
        subst (λ n. Params x || defines x (take n is) ≡ true) (s.before is k)
        (h 0 (BlockOf is) refl k i e slot (Val x) u 0 (s.ends slot 0) (0 ∷ []) (refl, lit< tt, tt) refl)

  opd_available : (is : List Inst) → Every Simple is → Stands Params is → (k : ℕ) (i : Inst) → slice_get is k ≡ Some i → (slot : ℕ) (o : Opd) → slice_get i.opds slot ≡ Some o →
      IsAvailableOpd (FuncOf is) 0 k i slot o
  opd_available is simple st k i e slot (Lit l) u = tt
  opd_available is simple st k i e slot (Sym g) u = tt
  opd_available is simple st k i e slot (Val x) u = λ end at walk w ends.
      let s : IsSimple i.op = every_at Simple is k i simple e in
      let only : (walk ≡ 0 ∷ []) × (end ≡ 0) = only_walk walk end (subst (λ g. IsWalk g walk) (no_edges is simple) w) ends in
      ap (λ l. stands_on (FuncOf is) x (before_use i.op (insts_at (FuncOf is) end) k) l) only.0
      ∙ ap (λ n. Params x || defines x (take n is)) (s.before (insts_at (FuncOf is) end) k)
      ∙ from_stands is Params st k i e x (At slot u)

  block_is : (is : List Inst) (b : Block) → Some (BlockOf is) ≡ Some b → BlockOf is ≡ b
  block_is is b e = cc

  available_of : (is : List Inst) → Every Simple is → Stands Params is → IsAvailableFunc (FuncOf is)
  available_of is simple st zero b found = subst (IsAvailableBlock (FuncOf is) 0) (block_is is b found) (λ k i e slot o u. opd_available is simple st k i e slot o u)
  available_of is simple st (suc n) b found = absurd cc

  -- ---- the joined code

  module _ (is new : List Inst) (joined : Joined is new) (formed : IsFormed (ModuleOf is)) (simple : Every Simple is) where
    func_formed : IsFormedFunc (ModuleOf is) (FuncOf is)
    func_formed = All-head (IsFormedItem (ModuleOf is)) (FuncItem (FuncOf is)) [] formed.items

    block_formed : IsFormedBlock (ModuleOf is) (FuncOf is) 0 (BlockOf is)
    block_formed = func_formed.blocks 0 (BlockOf is) refl

    fine : Every (IsFine is) is
    fine = every_of_each (IsFine is) is (λ k i e.
        let z : IsFormedInst (ModuleOf is) (FuncOf is) 0 k i = block_formed.insts k i e in
        record { operands = z.operands; typed = z.typed; targets = z.targets; incoming = z.incoming; calling = z.calling; allocas = z.allocas })

    -- ---- types

    ty_kept : (x : Id) (t : Ty) → is_value t ≡ true → value_ty (FuncOf is) x ≡ Some t → value_ty (FuncOf new) x ≡ Some t
    ty_kept x t v e = by_param (ty_in_params x params) e where
      in_block : (o : Option Ty) → or_else o None ≡ Some t → o ≡ Some t
      in_block (Some u) e = e
      in_block None e = e

      by_param : (o : Option Ty) → or_else o (or_else (ty_in_insts x is) None) ≡ Some t → or_else o (or_else (ty_in_insts x new) None) ≡ Some t
      by_param (Some u) e = e
      by_param None e = ap (λ o. or_else o None) (joined_ty joined x t v (in_block (ty_in_insts x is) e))

    opd_kept : (o : Opd) → IsValued (opd_ty (ModuleOf is) (FuncOf is) o) → opd_ty (ModuleOf new) (FuncOf new) o ≡ opd_ty (ModuleOf is) (FuncOf is) o
    opd_kept (Lit l) h = refl
    opd_kept (Sym g) h = refl
    opd_kept (Val x) h = let v = valued_is (value_ty (FuncOf is) x) h in ty_kept x v.0 v.2 v.1 ∙ sym v.1

    opds_kept : (os : List Opd) → Every IsValued (map (opd_ty (ModuleOf is) (FuncOf is)) os) → map (opd_ty (ModuleOf new) (FuncOf new)) os ≡ map (opd_ty (ModuleOf is) (FuncOf is)) os
    opds_kept [] h = refl
    opds_kept (o ∷ os) h = ap (λ u. u ∷ map (opd_ty (ModuleOf new) (FuncOf new)) os) (opd_kept o h.0) ∙ ap (λ us. opd_ty (ModuleOf is) (FuncOf is) o ∷ us) (opds_kept os h.1)

    opds_valued : (i : Inst) → IsFine is i → Every IsValued (map (opd_ty (ModuleOf is) (FuncOf is)) i.opds)
    opds_valued i z = typed_valued (ModuleOf is) (params_formed (ModuleOf is) formed) ret i.op i.ty (map (opd_ty (ModuleOf is) (FuncOf is)) i.opds) z.typed z.calling

    inst_kept : (i : Inst) → IsFine is i × Simple i → IsFine new i
    inst_kept i h = record {
      operands = h.0.operands;
      typed = subst (IsTyped ret i.op i.ty) (sym (opds_kept i.opds (opds_valued i h.0))) h.0.typed;
      targets = subst (All (IsTarget (FuncOf new))) (sym h.1.goes) (All-nil (IsTarget (FuncOf new)));
      incoming = h.1.comes (FuncOf new) 0 i.opds;
      calling = h.1.calls (ModuleOf new) i.ty (map (opd_ty (ModuleOf new) (FuncOf new)) i.opds);
      allocas = λ e. refl;
    }

    -- ---- the store of both

    record IsLed (a : LedStore) : Type 0 where
      lane : IsLane 32 a.lane
      align : IsAlign a.align
      pointer : value_ty (FuncOf is) a.pointer ≡ Some Ptr

    led : (i : Inst) (a : LedStore) → IsFine is i → IsLitStore i a → IsLed a
    led i a z l = record { lane = lane; align = typed.1; pointer = second typed.2 } where
      typed : IsTyped ret (Store a.align) i.ty (Some l.literal.ty ∷ value_ty (FuncOf is) a.pointer ∷ [])
      typed = subst (λ o. IsTyped ret o i.ty (Some l.literal.ty ∷ value_ty (FuncOf is) a.pointer ∷ [])) l.stores (subst (λ os. IsTyped ret i.op i.ty (map (opd_ty (ModuleOf is) (FuncOf is)) os)) l.opds_are z.typed)

      second : Some l.literal.ty ∷ value_ty (FuncOf is) a.pointer ∷ [] ≡ Some i.ty ∷ Some Ptr ∷ [] → value_ty (FuncOf is) a.pointer ≡ Some Ptr
      second e = cc

      literal : IsLiteral l.literal
      literal = All-head IsOpd (Lit l.literal) (Val a.pointer ∷ []) (subst (All IsOpd) l.opds_are z.operands)

      lanes : All (λ lane. IsLane (lane_width l.literal.ty) lane) (a.lane ∷ [])
      lanes = subst (All (λ lane. IsLane (lane_width l.literal.ty) lane)) l.lanes literal.2

      lane : IsLane 32 a.lane
      lane = subst (λ w. IsLane w a.lane) (ap lane_width l.wide) (All-head (λ lane. IsLane (lane_width l.literal.ty) lane) a.lane [] lanes)

    both_fine : (j : Inst) (low high : LedStore) → IsLed low → IsLed high → IsFine new (both_stored j low high)
    both_fine j low high l h = record {
      operands = All-cons IsOpd (Lit (record { ty = Row 2 32; lanes = low.lane ∷ high.lane ∷ [] })) (Val low.pointer ∷ [])
          (refl, refl, All-cons (λ lane. IsLane 32 lane) low.lane (high.lane ∷ []) l.lane (All-cons (λ lane. IsLane 32 lane) high.lane [] h.lane (All-nil (λ lane. IsLane 32 lane))))
          (All-cons IsOpd (Val low.pointer) [] tt (All-nil IsOpd));
      typed = (refl, l.align, ap (λ u. Some (Row 2 32) ∷ u ∷ []) (ty_kept low.pointer Ptr refl l.pointer));
      targets = All-nil (IsTarget (FuncOf new));
      incoming = tt;
      calling = tt;
      allocas = λ e. refl;
    }

    new_fine : Every (IsFine new) new
    new_fine = joined_every (λ i. IsFine is i × Simple i) (IsFine new) inst_kept (λ i a j b both p l q k s. make j a b both (led i a p.0 l) (led j b q.0 k) s) joined (two_every (IsFine is) Simple is fine simple) where
      make : (j : Inst) (a b : LedStore) (both : Inst) → IsLed a → IsLed b → IsBoth a b j both → IsFine new both
      make j a b both l k (inl e) = subst (IsFine new) (sym e) (both_fine j a b l k)
      make j a b both l k (inr e) = subst (IsFine new) (sym e) (both_fine j b a k l)

    new_simple : Every Simple new
    new_simple = joined_every Simple Simple (λ i s. s) (λ i a j b both p l q k s. simple_both a b j both s) joined simple

    -- ---- what stands before uses

    abbrev IsValueId : Id → Type 0
    IsValueId x = (t : Ty) × (value_ty (FuncOf is) x ≡ Some t) × (is_value t ≡ true)

    used : (os : List Opd) → Every IsValued (map (opd_ty (ModuleOf is) (FuncOf is)) os) → (slot : ℕ) (x : Id) → slice_get os slot ≡ Some (Val x) → IsValued (value_ty (FuncOf is) x)
    used [] h slot x e = absurd cc
    used (o ∷ os) h zero x e = subst (λ o. IsValued (opd_ty (ModuleOf is) (FuncOf is) o)) (some e) h.0 where
      some : Some o ≡ Some (Val x) → o ≡ Val x
      some e = cc
    used (o ∷ os) h (suc slot) x e = used os h.1 slot x e

    uses_values : Every (UsesValues IsValueId) is
    uses_values = every_more (IsFine is) (UsesValues IsValueId) one is fine where
      one : (i : Inst) → IsFine is i → UsesValues IsValueId i
      one i z x (At slot e) = valued_is (value_ty (FuncOf is) x) (used i.opds (opds_valued i z) slot x e)

    once : Once (item_ids (FuncItem (FuncOf is)))
    once = func_once (FuncItem (FuncOf is) ∷ []) 0 (FuncOf is) refl (once_of_pairs (ids_of (ModuleOf is)) formed.once)

    gives_none : Every (GivesNone IsValueId) is
    gives_none = every_of_each (GivesNone IsValueId) is (λ k i e a l x v same.
        let type : value_ty (FuncOf is) i.id ≡ Some (given_ty i.op i.ty) = value_type (FuncOf is) 0 (BlockOf is) k i refl e once in
        not_value i a v.0 l (sym type ∙ ap (value_ty (FuncOf is)) (same_is i.id x same) ∙ v.1) v.2)

    new_stands : Stands Params new
    new_stands = joined_stands IsValueId joined Params Params (λ x v e. e) uses_values gives_none (stands_of is simple (formed.available 0 (FuncItem (FuncOf is)) refl))

    -- ---- names

    func_plain : IsPlainFunc (FuncOf is)
    func_plain = All-head IsPlainItem (FuncItem (FuncOf is)) [] formed.plain.items

    block_plain : IsPlainBlock (BlockOf is)
    block_plain = All-head IsPlainBlock (BlockOf is) [] func_plain.blocks

    both_plain : (j : Inst) (low high b : LedStore) → IsLitStore j b → IsPlainInst j → IsPlainInst (both_stored j low high)
    both_plain j low high b l p = record {
      named = p.named;
      silent = λ e. p.silent (store_void j b l);
      pointers = All-cons IsPoisonIfPointer (Lit (record { ty = Row 2 32; lanes = low.lane ∷ high.lane ∷ [] })) (Val low.pointer ∷ []) (λ e. absurd (no_row e)) (All-cons IsPoisonIfPointer (Val low.pointer) [] tt (All-nil IsPoisonIfPointer));
    }
      where
        no_row : Row 2 32 ≡ Ptr → ⊥
        no_row e = cc

    new_plain : Every IsPlainInst new
    new_plain = joined_every IsPlainInst IsPlainInst (λ i p. p) (λ i a j b both p l q k s. make j a b both k q s) joined (every_of_all IsPlainInst is block_plain.insts) where
      make : (j : Inst) (a b : LedStore) (both : Inst) → IsLitStore j b → IsPlainInst j → IsBoth a b j both → IsPlainInst both
      make j a b both k q (inl e) = subst IsPlainInst (sym e) (both_plain j a b b k q)
      make j a b both k q (inr e) = subst IsPlainInst (sym e) (both_plain j b a b k q)

    -- ---- the module

    new_block : IsFormedBlock (ModuleOf new) (FuncOf new) 0 (BlockOf new)
    new_block = record {
      ends = joined_ends joined block_formed.ends;
      phis = phis_first true new new_simple;
      insts = λ k i e.
          let z : IsFine new i = every_at (IsFine new) new k i new_fine e in
          record { operands = z.operands; typed = z.typed; targets = z.targets; incoming = z.incoming; calling = z.calling; allocas = z.allocas };
    }

    new_blocks : (k : ℕ) (b : Block) → slice_get (BlockOf new ∷ []) k ≡ Some b → IsFormedBlock (ModuleOf new) (FuncOf new) k b
    new_blocks zero b e = subst (IsFormedBlock (ModuleOf new) (FuncOf new) 0) (some e) new_block where
      some : Some (BlockOf new) ≡ Some b → BlockOf new ≡ b
      some e = cc
    new_blocks (suc k) b e = absurd cc

    pub joined_formed : IsFormed (ModuleOf new)
    joined_formed = record {
      items = All-cons (IsFormedItem (ModuleOf new)) (FuncItem (FuncOf new)) [] (record { returns = func_formed.returns; params = func_formed.params; blocks = new_blocks; some = lit< tt }) (All-nil (IsFormedItem (ModuleOf new)));
      plain = record {
        items = All-cons IsPlainItem (FuncItem (FuncOf new)) []
            (record { header = func_plain.header; named = func_plain.named; params = func_plain.params; blocks = All-cons IsPlainBlock (BlockOf new) [] (record { named = block_plain.named; insts = all_of_every IsPlainInst new new_plain }) (All-nil IsPlainBlock) })
            (All-nil IsPlainItem);
        names = formed.plain.names;
      };
      once = sub_pairs (sub_before [] (sub_after (map (λ (p : Param). p.id) params) (sub_before [] (joined_sub joined)))) formed.once;
      available = available;
    }
      where
        available : IsAvailable (ModuleOf new)
        available zero i e = subst (λ (x : Item). IsAvailableItem 0 x) (some e) (available_of new new_simple new_stands) where
          some : Some (FuncItem (FuncOf new)) ≡ Some i → FuncItem (FuncOf new) ≡ i
          some e = cc
        available (suc k) i e = absurd cc

-- ---- every module

func_formed_of : (f : Func) (globals : List (List ℕ)) (line : Option ℕ) (bs : List Block) → f.blocks ≡ bs → is_one_block bs ≡ true →
    IsFormed (record { items = FuncItem (record { before = f.before; ret = f.ret; name = f.name; params = f.params; after = f.after; blocks = bs }) ∷ []; globals = globals; big_endian_line = line }) →
    IsFormed (record { items = FuncItem (record { before = f.before; ret = f.ret; name = f.name; params = f.params; after = f.after; blocks = pair_in_blocks f.params bs }) ∷ []; globals = globals; big_endian_line = line })
func_formed_of f globals line [] same h z = absurd (true_of h)
func_formed_of f globals line (b ∷ c ∷ bs) same h z = absurd (true_of h)
func_formed_of f globals line (b ∷ []) same h z = by_pair (paired (leads_at_start f.params) b.insts) refl where
  straight : is_straight b.insts ≡ true
  straight = (both_true (is_none b.name) (is_straight b.insts) h).1

  by_pair : (o : Option (List Inst)) → paired (leads_at_start f.params) b.insts ≡ o → IsFormed (ModuleOf f.before f.name f.ret f.params f.after b.name globals line (or_same b.insts o))
  by_pair None e = z
  by_pair (Some new) e = joined_formed f.before f.name f.ret f.params f.after b.name globals line b.insts new (joined_of b.insts (leads_at_start f.params) new straight e) z (straight_simple b.insts straight)

items_formed : (items : List Item) (globals : List (List ℕ)) (line : Option ℕ) → IsFormed (record { items = items; globals = globals; big_endian_line = line }) →
    IsFormed (record { items = pair_in_items items; globals = globals; big_endian_line = line })
items_formed [] globals line z = z
items_formed (Kept text ∷ items) globals line z = z
items_formed (Opaque text ∷ items) globals line z = z
items_formed (FuncItem f ∷ i ∷ items) globals line z = z
items_formed (FuncItem f ∷ []) globals line z = by_test (is_first_func f) refl where
  one_block : is_first_func f ≡ true → is_one_block f.blocks ≡ true
  one_block h = (both_true (is_empty f.before && is_void f.ret && list_all is_first_param f.params && is_empty f.after) (is_one_block f.blocks) h).1

  by_test : (b : Bool) → is_first_func f ≡ b → IsFormed (record { items = FuncItem (cond b (pair_in_func f) f) ∷ []; globals = globals; big_endian_line = line })
  by_test true h = func_formed_of f globals line f.blocks refl (one_block h) z
  by_test false h = z

pub pair_formed : (m : Module) → IsFormed m → IsFormed (pair_of m)
pair_formed m z = items_formed m.items m.globals m.big_endian_line z
