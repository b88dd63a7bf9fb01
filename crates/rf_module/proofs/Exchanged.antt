-- A formed module with another row of instructions in a block stays formed, where the row is fine line by line and loses nothing that is used.
use Rattle.std.proofs.Common.{◌≡◌, refl, sym, ap, ◌∙◌, subst, ℕ, zero, suc, ◌+◌, ◌<◌, ◌≤◌, ◌⊎◌, inl, inr, Bool, true, false, ◌||◌, Option, None, Some, List, [], ◌∷◌, ◌++◌, map, cond, nat_eq, nat_lt, slice_get, take, if◌then◌else◌, arith, length}
use Rattle.std.specs.Bool.{⊤}
use Rattle.std.specs.List.{All, AllPairs, Contains, list_any}
use Rattle.std.proofs.lemmas.Bool.Decides.{nat_tests}
use Rattle.ir_types.specs.declared.id.Id.{Id}
use Rattle.ir_types.specs.declared.ty.Ty.{Ty}
use Rattle.ir_types.specs.declared.ty.Ty.TheVariants.{Ptr}
use Rattle.ir_types.specs.declared.opd.Opd.{Opd}
use Rattle.ir_types.specs.declared.opd.Opd.TheVariants.{Val, Lit, Sym}
use Rattle.ir_types.specs.declared.op.Op.{Op}
use Rattle.ir_types.specs.declared.op.Op.TheVariants as op
use Rattle.ir_types.specs.declared.inst.Inst.{Inst}
use Rattle.ir_types.specs.declared.func.Param.{Param}
use Rattle.ir_types.specs.declared.func.Block.{Block}
use Rattle.ir_types.specs.declared.func.Func.{Func}
use Rattle.ir_types.specs.declared.module.Item.{Item}
use Rattle.ir_types.specs.declared.module.Item.TheVariants.{Kept, Opaque, Func as FuncItem}
use Rattle.ir_types.specs.declared.module.Module.{Module}
use Rattle.ir_types.specs.Walks.{targets_at, IsWalk, EndsAt}
use Rattle.ir_types.specs.Available.{same_id, op_targets, block_targets, graph_of, Each, is_param, defines, insts_at, stands_from, stands_on, walk_end, before_use, IsAvailableAt, IsAvailableOpd, IsAvailableBlock, IsAvailableFunc, IsAvailableItem}
use Rattle.ir_types.specs.Typed.{IsTyped}
use Rattle.ir_types.specs.Formed.{given_ty, value_ty, opd_ty, is_phi, EndsOnce, PhisFirst, IsTarget, IsIncoming, IsCalling, IsFormedInst, IsFormedBlock, IsFormedFunc, IsFormedItem, IsPlainInst, IsPlainBlock, IsPlainFunc, IsPlainItem, function_names, ids_of, IsFormed}
use Rattle.ir_types.proofs.Formed.{Every, every_of_all, every_at, every_more, IsThere, typed_there, opds_there}
use Rattle.ir_types.proofs.Among.{same_itself}
use Rattle.vx_view.specs.Answers.{find, uses_in, uses_in_blocks, slots_from, is_value}
use Rattle.vx_serial.proofs.Decided.{true_false}
use Rattle.rf_rewrite.proofs.Contexts.{Context, block_with, items_with, plug, one_of, times, times_append, around, ids_plug}
use Rattle.rf_rewrite.proofs.Parts.{NoneAround}
use Rattle.rf_rewrite.proofs.Window.{find_times, find_front}
use Rattle.rf_rewrite.proofs.Gone.{uses_id, find_some}
use Rattle.rf_rewrite.proofs.Blocks.{every_split, get_split, Parts, parts_get, func_in, times_few}
use Rattle.rf_rewrite.proofs.Earlier.{plain_end, plain_before}
use Rattle.sb_uses.specs.Totals.{id_times}
use Rattle.std.specs.Prelude.{get_or}
use Rattle.rf_module.proofs.Lines.{Known, next, after, after_none, after_found, ty_by, LineOk, Lines, line_at}
use Rattle.rf_module.proofs.Exchange.{get_other, same_length, take_all, defines_times, times_defines, own_ty, kept_ty, Stay, tys_kept, graph_same, insts_own, insts_other, stands_kept, stands_last}

-- ---- lists

pub all_of_every : {A : Type 0} (P : A → Type 0) (xs : List A) → Every P xs → All P xs
all_of_every P [] h k d less = absurd (omega (arith, less))
all_of_every P (x ∷ xs) h zero d less = h.0
all_of_every P (x ∷ xs) h (suc k) d less = all_of_every P xs h.1 k d (omega (arith, less))

every_swap : {A : Type 0} (P Q : A → Type 0) (xs ys : List A) (x y : A) → ((z : A) → P z → Q z) → Q y → Every P (xs ++ x ∷ ys) → Every Q (xs ++ y ∷ ys)
every_swap P Q [] ys x y f q h = (q, every_more P Q f ys h.1)
every_swap P Q (w ∷ xs) ys x y f q h = (f w h.0, every_swap P Q xs ys x y f q h.1)

-- a member is another one, or the one in the place
contains_other : {A : Type 0} (xs ys : List A) (x y z : A) → Contains (xs ++ x ∷ ys) z → Contains (xs ++ y ∷ ys) z ⊎ (x ≡ z)
contains_other [] ys x y z (zero, less, e) = inr e
contains_other [] ys x y z (suc k, less, e) = inl (suc k, less, e)
contains_other (w ∷ xs) ys x y z (zero, less, e) = inl (0, omega (arith), e)
contains_other (w ∷ xs) ys x y z (suc k, less, e) = later (contains_other xs ys x y z (k, omega (arith, less), e))
  where
    later : Contains (xs ++ y ∷ ys) z ⊎ (x ≡ z) → Contains (w ∷ xs ++ y ∷ ys) z ⊎ (x ≡ z)
    later (inl h) = inl (suc h.0, (let l = h.1 in omega (arith, l)), h.2)
    later (inr h) = inr h

contains_place : {A : Type 0} (xs ys : List A) (x : A) → Contains (xs ++ x ∷ ys) x
contains_place [] ys x = (0, omega (arith), refl)
contains_place (w ∷ xs) ys x = let h = contains_place xs ys x in (suc h.0, (let l = h.1 in omega (arith, l)), h.2)

-- ---- what the operation of an instruction that is no phi leaves open

no_incoming : (f : Func) (n : ℕ) (o : Op) (os : List Opd) → is_phi o ≡ false → IsIncoming f n o os
no_incoming f n (op.Bin o flags) os e = tt
no_incoming f n (op.Icmp pred) os e = tt
no_incoming f n (op.Cast o nneg) os e = tt
no_incoming f n op.Select os e = tt
no_incoming f n op.Extract os e = tt
no_incoming f n op.Insert os e = tt
no_incoming f n (op.Shuffle mask) os e = tt
no_incoming f n (op.Gep elem inbounds) os e = tt
no_incoming f n (op.Load align) os e = tt
no_incoming f n (op.Store align) os e = tt
no_incoming f n (op.Alloca elem align) os e = tt
no_incoming f n (op.Phi blocks) os e = absurd cc
no_incoming f n op.Ret os e = tt
no_incoming f n (op.Br to) os e = tt
no_incoming f n (op.CondBr first second) os e = tt
no_incoming f n (op.Switch other cases to) os e = tt
no_incoming f n op.Unreachable os e = tt
no_incoming f n (op.Call site) os e = tt

same_incoming : (f g : Func) (n : ℕ) (o : Op) (os : List Opd) → graph_of g ≡ graph_of f → IsIncoming f n o os → IsIncoming g n o os
same_incoming f g n (op.Bin o flags) os e h = tt
same_incoming f g n (op.Icmp pred) os e h = tt
same_incoming f g n (op.Cast o nneg) os e h = tt
same_incoming f g n op.Select os e h = tt
same_incoming f g n op.Extract os e h = tt
same_incoming f g n op.Insert os e h = tt
same_incoming f g n (op.Shuffle mask) os e h = tt
same_incoming f g n (op.Gep elem inbounds) os e h = tt
same_incoming f g n (op.Load align) os e h = tt
same_incoming f g n (op.Store align) os e h = tt
same_incoming f g n (op.Alloca elem align) os e h = tt
same_incoming f g n (op.Phi blocks) os e h = (
  (λ c. h.0 c ∙ ap (λ w. Rattle.std.specs.Prelude.count_by (λ b. Rattle.std.specs.Prelude.nat_eq b n) (targets_at w c)) (sym e)),
  h.1,
)
same_incoming f g n op.Ret os e h = tt
same_incoming f g n (op.Br to) os e h = tt
same_incoming f g n (op.CondBr first second) os e h = tt
same_incoming f g n (op.Switch other cases to) os e h = tt
same_incoming f g n op.Unreachable os e h = tt
same_incoming f g n (op.Call site) os e h = tt

-- ---- what a row must be

pub record Exchange (c : Context) (l k : List Inst) (start : Known) : Type 0 where
  pub formed : IsFormed (plug c l)
  -- no id stands twice
  pub few : (y : Id) → around c y + times y k ≤ 1
  pub lines : Lines (plug c l) (func_in c l) (length c.blocks_before) start k
  -- what is known at the start stands outside the old row, with its type, on each walk to the block
  pub starts : (y : Id) (t : Ty) → start y ≡ Some t →
      (value_ty (func_in c l) y ≡ Some t) × (times y l ≡ 0)
      × ((p : ℕ) × ((walk : List ℕ) → IsWalk (graph_of (func_in c l)) walk → EndsAt walk (length c.blocks_before) → stands_on (func_in c l) y p walk ≡ true))
  pub ends : EndsOnce k
  pub targets : block_targets (block_with c k) ≡ block_targets (block_with c l)
  pub phis : PhisFirst true k
  -- each phi was one
  pub same_phis : (i : Inst) → is_phi i.op ≡ true → find i.id k ≡ Some i → find i.id l ≡ Some i
  pub types : (y : Id) (i j : Inst) → find y l ≡ Some i → find y k ≡ Some j → given_ty j.op j.ty ≡ given_ty i.op i.ty
  -- what is lost is used by nothing around the block and by no phi
  pub lost : (y : Id) → 1 ≤ times y l → times y k ≡ 0 → NoneAround c y × ((i : Inst) → is_phi i.op ≡ true → find i.id k ≡ Some i → uses_id y i ≡ false)

-- ---- uses around the block

slots_some : (y user : Id) (os : List Opd) (from slot : ℕ) → slice_get os slot ≡ Some (Val y) → slots_from y user from os ≡ [] → ⊥
slots_some y user [] from slot e n = cc
slots_some y user (o ∷ os) from zero e n = by_test (is_value y o) own n
  where
    some_is : Some o ≡ Some (Val y) → o ≡ Val y
    some_is r = cc

    own : is_value y o ≡ true
    own = ap (is_value y) (some_is e) ∙ same_itself y

    by_test : (b : Bool) → b ≡ true → cond b (record { user = user; slot = from } ∷ slots_from y user (suc from) os) (slots_from y user (suc from) os) ≡ [] → ⊥
    by_test true t r = cc
    by_test false t r = cc
slots_some y user (o ∷ os) from (suc slot) e n = by_test (is_value y o) n (slots_some y user os (suc from) slot e)
  where
    by_test : (b : Bool) → cond b (record { user = user; slot = from } ∷ slots_from y user (suc from) os) (slots_from y user (suc from) os) ≡ [] → (slots_from y user (suc from) os ≡ [] → ⊥) → ⊥
    by_test true r more = cc
    by_test false r more = more r

empty_left : {A : Type 0} (xs ys : List A) → xs ++ ys ≡ [] → xs ≡ []
empty_left [] ys e = refl
empty_left (x ∷ xs) ys e = absurd cc

empty_right : {A : Type 0} (xs ys : List A) → xs ++ ys ≡ [] → ys ≡ []
empty_right [] ys e = e
empty_right (x ∷ xs) ys e = absurd cc

insts_some : (y : Id) (is : List Inst) (p slot : ℕ) (i : Inst) → slice_get is p ≡ Some i → slice_get i.opds slot ≡ Some (Val y) → uses_in y is ≡ [] → ⊥
insts_some y [] p slot i e s n = cc
insts_some y (j ∷ is) zero slot i e s n = slots_some y i.id i.opds 0 slot s (empty_left (slots_from y i.id 0 i.opds) (uses_in y is) (subst (λ (u : Inst). slots_from y u.id 0 u.opds ++ uses_in y is ≡ []) (some_is e) n))
  where
    some_is : Some j ≡ Some i → j ≡ i
    some_is r = cc
insts_some y (j ∷ is) (suc p) slot i e s n = insts_some y is p slot i e s (empty_right (slots_from y j.id 0 j.opds) (uses_in y is) n)

blocks_some : (y : Id) (bs : List Block) (n : ℕ) (b : Block) → slice_get bs n ≡ Some b → (uses_in y b.insts ≡ [] → ⊥) → uses_in_blocks y bs ≡ [] → ⊥
blocks_some y [] n b e s u = cc
blocks_some y (d ∷ bs) zero b e s u = s (subst (λ (x : Block). uses_in y x.insts ≡ []) (some_is e) (empty_left (uses_in y d.insts) (uses_in_blocks y bs) u))
  where
    some_is : Some d ≡ Some b → d ≡ b
    some_is r = cc
blocks_some y (d ∷ bs) (suc n) b e s u = blocks_some y bs n b e s (empty_right (uses_in y d.insts) (uses_in_blocks y bs) u)

-- a block at another place stands before or after
other_side : (bs cs : List Block) (x : Block) (n : ℕ) (b : Block) → (n ≡ length bs → ⊥) → slice_get (bs ++ x ∷ cs) n ≡ Some b → ((slice_get bs n ≡ Some b)) ⊎ ((m : ℕ) × (slice_get cs m ≡ Some b))
other_side [] cs x zero b apart e = absurd (apart refl)
other_side [] cs x (suc n) b apart e = inr (n, e)
other_side (d ∷ bs) cs x zero b apart e = inl e
other_side (d ∷ bs) cs x (suc n) b apart e = other_side bs cs x n b (λ s. apart (ap suc s)) e

module _ (c : Context) (l k : List Inst) (start : Known) (x : Exchange c l k start) where
  abbrev old : Module
  old = plug c l

  abbrev new : Module
  new = plug c k

  abbrev f : Func
  f = func_in c l

  abbrev g : Func
  g = func_in c k

  abbrev number : ℕ
  number = length c.blocks_before

  few_old : (y : Id) → around c y + times y l ≤ 1
  few_old = times_few c l x.formed

  graphs : graph_of g ≡ graph_of f
  graphs = graph_same c l k x.targets

  own_block : slice_get f.blocks number ≡ Some (block_with c l)
  own_block = get_split c.blocks_before c.blocks_after (block_with c l)

  formed_func : IsFormedFunc old f
  formed_func = every_split (IsFormedItem old) c.items_before c.items_after (FuncItem f) (every_of_all (IsFormedItem old) (items_with c l) x.formed.items)

  formed_block : IsFormedBlock old f number (block_with c l)
  formed_block = formed_func.blocks number (block_with c l) own_block

  -- ---- what is not lost

  -- the operands of an instruction of another block
  stay_around : (n : ℕ) (b : Block) → (n ≡ number → ⊥) → slice_get f.blocks n ≡ Some b → (p : ℕ) (i : Inst) → slice_get b.insts p ≡ Some i → Stay c l k few_old x.few x.types i.opds
  stay_around n b apart e p i at slot y s some = by_number (times y k) refl
    where
      never : NoneAround c y → ⊥
      never none = by_side (other_side c.blocks_before c.blocks_after (block_with c l) n b apart e)
        where
          by_side : (slice_get c.blocks_before n ≡ Some b) ⊎ ((m : ℕ) × (slice_get c.blocks_after m ≡ Some b)) → ⊥
          by_side (inl h) = blocks_some y c.blocks_before n b h (insts_some y b.insts p slot i at s) none.blocks_before
          by_side (inr h) = blocks_some y c.blocks_after h.0 b h.1 (insts_some y b.insts p slot i at s) none.blocks_after

      by_number : (j : ℕ) → times y k ≡ j → 1 ≤ times y k
      by_number zero z = absurd (never (x.lost y some z).0)
      by_number (suc j) z = omega (arith, z)

  used : (y : Id) (os : List Opd) (slot : ℕ) → slice_get os slot ≡ Some (Val y) → list_any (is_value y) os ≡ true
  used y [] slot e = absurd cc
  used y (o ∷ os) zero e = ap (λ u. is_value y u || list_any (is_value y) os) (some_is e) ∙ ap (λ b. b || list_any (is_value y) os) (same_itself y)
    where
      some_is : Some o ≡ Some (Val y) → o ≡ Val y
      some_is r = cc
  used y (o ∷ os) (suc slot) e = later (is_value y o) (used y os slot e)
    where
      later : (b : Bool) → list_any (is_value y) os ≡ true → (b || list_any (is_value y) os) ≡ true
      later true r = refl
      later false r = r

  -- the operands of a phi
  stay_phi : (i : Inst) → is_phi i.op ≡ true → find i.id k ≡ Some i → Stay c l k few_old x.few x.types i.opds
  stay_phi i phi e slot y s some = by_number (times y k) refl
    where
      by_number : (j : ℕ) → times y k ≡ j → 1 ≤ times y k
      by_number zero z = absurd (true_false (sym (used y i.opds slot s) ∙ (x.lost y some z).1 i phi e))
      by_number (suc j) z = omega (arith, z)

  -- ---- calls

  call_kept : (o : Op) (t : Ty) (tys : List (Option Ty)) → IsCalling old o t tys → IsCalling new o t tys
  call_kept (op.Call site) t tys (h, there, name, ret, params) = by_side (contains_other c.items_before c.items_after (FuncItem f) (FuncItem g) (FuncItem h) there)
    where
      item_is : (p q : Func) → FuncItem p ≡ FuncItem q → p ≡ q
      item_is p q e = cc

      by_side : Contains (items_with c k) (FuncItem h) ⊎ (FuncItem f ≡ FuncItem h) → IsCalling new (op.Call site) t tys
      by_side (inl at) = (h, at, name, ret, params)
      by_side (inr e) =
          let same = item_is f h e in (
            g,
            contains_place c.items_before c.items_after (FuncItem g),
            ap (λ (u : Func). u.name) same ∙ name,
            ret ∙ sym (ap (λ (u : Func). u.ret) same),
            params ∙ sym (ap (λ (u : Func). map (λ (p : Param). Some p.ty) u.params) same),
          )
  call_kept (op.Bin o flags) t tys h = tt
  call_kept (op.Icmp pred) t tys h = tt
  call_kept (op.Cast o nneg) t tys h = tt
  call_kept op.Select t tys h = tt
  call_kept op.Extract t tys h = tt
  call_kept op.Insert t tys h = tt
  call_kept (op.Shuffle mask) t tys h = tt
  call_kept (op.Gep elem inbounds) t tys h = tt
  call_kept (op.Load align) t tys h = tt
  call_kept (op.Store align) t tys h = tt
  call_kept (op.Alloca elem align) t tys h = tt
  call_kept (op.Phi blocks) t tys h = tt
  call_kept op.Ret t tys h = tt
  call_kept (op.Br to) t tys h = tt
  call_kept (op.CondBr first second) t tys h = tt
  call_kept (op.Switch other cases to) t tys h = tt
  call_kept op.Unreachable t tys h = tt

  target_kept : (b : ℕ) → IsTarget f b → IsTarget g b
  target_kept b h = (h.0, subst (λ n. b < n) (same_length c.blocks_before c.blocks_after (block_with c l) (block_with c k)) h.1)

  all_kept : (bs : List ℕ) → All (IsTarget f) bs → All (IsTarget g) bs
  all_kept bs h j d less = target_kept (Rattle.std.specs.Prelude.slice_index_or bs j d) (h j d less)

  -- ---- instructions

  -- one that stands as it stood
  inst_kept : (n p q : ℕ) (i : Inst) → Stay c l k few_old x.few x.types i.opds → IsFormedInst old f n p i → IsFormedInst new g n q i
  inst_kept n p q i stay h =
      let tys = tys_kept c l k few_old x.few x.types i.opds stay (opds_there old f n p i h) in
      record {
        operands = h.operands;
        typed = subst (IsTyped c.func.ret i.op i.ty) (sym tys) h.typed;
        targets = all_kept (op_targets i.op) h.targets;
        incoming = same_incoming f g n i.op i.opds graphs h.incoming;
        calling = subst (IsCalling new i.op i.ty) (sym tys) (call_kept i.op i.ty (map (opd_ty old f) i.opds) h.calling);
        allocas = h.allocas;
      }

  -- the type of what is known at a place of the row
  known_ty : (front rest : List Inst) (i : Inst) → k ≡ front ++ i ∷ rest → (y : Id) (t : Ty) → after front start y ≡ Some t → value_ty g y ≡ Some t
  known_ty front rest i are y t e = by_number (times y front) refl
    where
      front_few : times y front ≤ 1
      front_few = let le = x.few y in let all = ap (times y) are in let sum = times_append y front (i ∷ rest) in omega (arith, le, all, sum)

      by_number : (j : ℕ) → times y front ≡ j → value_ty g y ≡ Some t
      by_number zero z =
          let s = x.starts y t (sym (after_none front start y z) ∙ e) in
          kept_ty c l k few_old x.few x.types y t (λ some. (let none = s.1 in absurd (omega (arith, some, none)))) s.0
      by_number (suc j) z =
          let at = find_some y front (omega (arith, z)) in
          let le = x.few y in
          let all = ap (times y) are in
          let sum = times_append y front (i ∷ rest) in
          own_ty c k y at.0 (omega (arith, le, all, sum, z)) (ap (find y) are ∙ find_front y front (i ∷ rest) at.0 at.1)
          ∙ sym (after_found front start y at.0 at.1 front_few) ∙ e

  tys_known : (front rest : List Inst) (i : Inst) → k ≡ front ++ i ∷ rest → (os : List Opd) → Every IsThere (map (ty_by old f number (after front start)) os) →
      map (opd_ty new g) os ≡ map (ty_by old f number (after front start)) os
  tys_known front rest i are [] h = refl
  tys_known front rest i are (Lit a ∷ os) h = ap (λ ts. Some a.ty ∷ ts) (tys_known front rest i are os h.1)
  tys_known front rest i are (Sym n ∷ os) h = ap (λ ts. (if nat_lt n (length c.globals) then Some Ptr else None) ∷ ts) (tys_known front rest i are os h.1)
  tys_known front rest i are (Val v ∷ os) h =
      ap (λ t. t ∷ map (opd_ty new g) os) (by_ty (after front start v) refl h.0) ∙ ap (λ ts. after front start v ∷ ts) (tys_known front rest i are os h.1)
    where
      by_ty : (o : Option Ty) → after front start v ≡ o → IsThere o → value_ty g v ≡ after front start v
      by_ty None e there = elim there [ ]
      by_ty (Some t) e there = known_ty front rest i are v t e ∙ sym e

  inst_new : (front rest : List Inst) (i : Inst) (q : ℕ) → k ≡ front ++ i ∷ rest → is_phi i.op ≡ false → LineOk old f number (after front start) i → IsFormedInst new g number q i
  inst_new front rest i q are plain h =
      let tys = tys_known front rest i are i.opds (typed_there old f.ret i.op i.ty (map (ty_by old f number (after front start)) i.opds) h.typed h.calling) in
      record {
        operands = h.operands;
        typed = subst (IsTyped c.func.ret i.op i.ty) (sym tys) h.typed;
        targets = all_kept (op_targets i.op) h.targets;
        incoming = no_incoming g number i.op i.opds plain;
        calling = subst (IsCalling new i.op i.ty) (sym tys) (call_kept i.op i.ty (map (ty_by old f number (after front start)) i.opds) h.calling);
        allocas = h.allocas;
      }

  -- ---- parts of the row

  line : (front rest : List Inst) (i : Inst) → k ≡ front ++ i ∷ rest → is_phi i.op ≡ false → LineOk old f number (after front start) i
  line front rest i are plain = line_at old f number start front i rest (subst (Lines old f number start) are x.lines) plain

  found_new : (front rest : List Inst) (i : Inst) → k ≡ front ++ i ∷ rest → find i.id k ≡ Some i
  found_new front rest i are =
      let le = x.few i.id in
      let all = ap (times i.id) are in
      let sum = times_append i.id front (i ∷ rest) in
      let one : one_of i.id i.id ≡ 1 = ap (λ b. cond b 1 0) (same_itself i.id) in
      ap (find i.id) are ∙ Rattle.rf_rewrite.proofs.Window.find_append i.id front (i ∷ rest) (omega (arith, le, all, sum, one)) ∙ ap (λ b. cond b (Some i) (find i.id rest)) (same_itself i.id)

  -- an instruction that is found stands at a place
  place_of : (y : Id) (is : List Inst) (i : Inst) → find y is ≡ Some i → (p : ℕ) × (slice_get is p ≡ Some i)
  place_of y [] i e = absurd cc
  place_of y (j ∷ is) i e = by_test (same_id j.id y) e (place_of y is i)
    where
      by_test : (b : Bool) → cond b (Some j) (find y is) ≡ Some i → (find y is ≡ Some i → (p : ℕ) × (slice_get is p ≡ Some i)) → (p : ℕ) × (slice_get (j ∷ is) p ≡ Some i)
      by_test true r more = (0, r)
      by_test false r more = let h = more r in (suc h.0, h.1)

  inst_own : (q : ℕ) (i : Inst) → slice_get k q ≡ Some i → IsFormedInst new g number q i
  inst_own q i at = by_parts (parts_get k q i at).0
    where
      by_parts : Parts k i → IsFormedInst new g number q i
      by_parts p = by_phi (is_phi i.op) refl
        where
          by_phi : (b : Bool) → is_phi i.op ≡ b → IsFormedInst new g number q i
          by_phi false e = inst_new p.front p.rest i q p.are e (line p.front p.rest i p.are e)
          by_phi true e =
              let finds = found_new p.front p.rest i p.are in
              let was = place_of i.id l i (x.same_phis i e finds) in
              inst_kept number was.0 q i (stay_phi i e finds) (formed_block.insts was.0 i was.1)

  -- ---- blocks and functions

  blocks_kept : Each (IsFormedBlock new g) g.blocks
  blocks_kept n b e = by_number (nat_eq n number) refl
    where
      by_number : (t : Bool) → nat_eq n number ≡ t → IsFormedBlock new g n b
      by_number true s =
          let same : n ≡ number = grind (arith, nat_tests) in
          subst (λ j. IsFormedBlock new g j b) (sym same)
          (subst (IsFormedBlock new g number) (some_is (sym (get_split c.blocks_before c.blocks_after (block_with c k)) ∙ (ap (slice_get g.blocks) (sym same) ∙ e)))
          (record { ends = x.ends; phis = x.phis; insts = inst_own }))
        where
          some_is : Some (block_with c k) ≡ Some b → block_with c k ≡ b
          some_is r = cc
      by_number false s =
          let there = get_other c.blocks_before c.blocks_after (block_with c k) (block_with c l) b n apart e in
          let h = formed_func.blocks n b there in
          record { ends = h.ends; phis = h.phis; insts = λ p i at. inst_kept n p p i (stay_around n b apart there p i at) (h.insts p i at) }
        where
          apart : n ≡ number → ⊥
          apart same = absurd (grind (arith, nat_tests))

  func_kept : IsFormedFunc new g
  func_kept = record {
    returns = formed_func.returns;
    params = formed_func.params;
    blocks = blocks_kept;
    some = subst (λ n. 0 < n) (same_length c.blocks_before c.blocks_after (block_with c l) (block_with c k)) formed_func.some;
  }

  -- another function
  opd_same : (h : Func) (os : List Opd) → map (opd_ty new h) os ≡ map (opd_ty old h) os
  opd_same h [] = refl
  opd_same h (Val v ∷ os) = ap (λ ts. value_ty h v ∷ ts) (opd_same h os)
  opd_same h (Lit a ∷ os) = ap (λ ts. Some a.ty ∷ ts) (opd_same h os)
  opd_same h (Sym n ∷ os) = ap (λ ts. (if nat_lt n (length c.globals) then Some Ptr else None) ∷ ts) (opd_same h os)

  item_kept : (item : Item) → IsFormedItem old item → IsFormedItem new item
  item_kept (Kept text) h = tt
  item_kept (Opaque text) h = tt
  item_kept (FuncItem h) w = record {
    returns = w.returns;
    params = w.params;
    blocks = λ n b e. let v = w.blocks n b e in record { ends = v.ends; phis = v.phis; insts = λ p i at. inst (v.insts p i at) };
    some = w.some;
  }
    where
      inst : {n p : ℕ} {i : Inst} → IsFormedInst old h n p i → IsFormedInst new h n p i
      inst {n} {p} {i} v = record {
        operands = v.operands;
        typed = subst (IsTyped h.ret i.op i.ty) (sym (opd_same h i.opds)) v.typed;
        targets = v.targets;
        incoming = v.incoming;
        calling = subst (IsCalling new i.op i.ty) (sym (opd_same h i.opds)) (call_kept i.op i.ty (map (opd_ty old h) i.opds) v.calling);
        allocas = v.allocas;
      }

  items_kept : All (IsFormedItem new) (items_with c k)
  items_kept =
      all_of_every (IsFormedItem new) (items_with c k)
      (every_swap (IsFormedItem old) (IsFormedItem new) c.items_before c.items_after (FuncItem f) (FuncItem g) item_kept func_kept (every_of_all (IsFormedItem old) (items_with c l) x.formed.items))

  -- ---- names and headers

  plain_insts : (known : Known) (is : List Inst) → Lines old f number known is → ((i : Inst) (front rest : List Inst) → is ≡ front ++ i ∷ rest → is_phi i.op ≡ true → IsPlainInst i) → Every IsPlainInst is
  plain_insts known [] h phi = tt
  plain_insts known (i ∷ is) h phi = (by_phi (is_phi i.op) refl, plain_insts (next i known) is h.1 (λ j front rest e p. phi j (i ∷ front) rest (ap (λ u. i ∷ u) e) p))
    where
      by_phi : (b : Bool) → is_phi i.op ≡ b → IsPlainInst i
      by_phi true p = phi i [] is refl p
      by_phi false p = (h.0 p).plain

  plain_func : IsPlainFunc f
  plain_func = every_split IsPlainItem c.items_before c.items_after (FuncItem f) (every_of_all IsPlainItem (items_with c l) x.formed.plain.items)

  plain_block : IsPlainBlock (block_with c l)
  plain_block = every_split IsPlainBlock c.blocks_before c.blocks_after (block_with c l) (every_of_all IsPlainBlock f.blocks plain_func.blocks)

  plain_old : (i : Inst) → find i.id l ≡ Some i → IsPlainInst i
  plain_old i e = let at = place_of i.id l i e in every_at IsPlainInst l at.0 i (every_of_all IsPlainInst l plain_block.insts) at.1

  block_plain : IsPlainBlock (block_with c k)
  block_plain = record {
    named = plain_block.named;
    insts = all_of_every IsPlainInst k (plain_insts start k x.lines (λ i front rest e p. plain_old i (x.same_phis i p (found_new front rest i e))));
  }

  func_plain : IsPlainFunc g
  func_plain = record {
    header = plain_func.header;
    named = plain_func.named;
    params = plain_func.params;
    blocks = all_of_every IsPlainBlock g.blocks
        (every_swap IsPlainBlock IsPlainBlock c.blocks_before c.blocks_after (block_with c l) (block_with c k) (λ b h. h) block_plain (every_of_all IsPlainBlock f.blocks plain_func.blocks));
  }

  names_same : (xs ys : List Item) → function_names (xs ++ FuncItem g ∷ ys) ≡ function_names (xs ++ FuncItem f ∷ ys)
  names_same [] ys = refl
  names_same (Kept text ∷ xs) ys = names_same xs ys
  names_same (Opaque text ∷ xs) ys = names_same xs ys
  names_same (FuncItem h ∷ xs) ys = ap (λ ns. h.name ∷ ns) (names_same xs ys)

  -- ---- availability

  walk_same : (walk : List ℕ) → IsWalk (graph_of g) walk → IsWalk (graph_of f) walk
  walk_same walk h = subst (λ w. IsWalk w walk) graphs h

  -- what stands on a walk in the old function stands there in the new one
  on_kept : (y : Id) → (1 ≤ times y l → 1 ≤ times y k) → (p q end : ℕ) → (defines y (take p (insts_at f end)) ≡ true → defines y (take q (insts_at g end)) ≡ true) → (walk : List ℕ) → EndsAt walk end →
      stands_on f y p walk ≡ true → stands_on g y q walk ≡ true
  on_kept y stays p q end last [] e h = elim e [ ]
  on_kept y stays p q end last (a ∷ rest) e h = by_param (is_param y f) h
    where
      by_param : (b : Bool) → (b || stands_from f y p a rest) ≡ true → (b || stands_from g y q a rest) ≡ true
      by_param true r = refl
      by_param false r = stands_kept c l k y stays p q a rest end e last r

  -- a use of an instruction that stands as it stood, in a block where all before it stands as it stood, or a phi's
  opd_kept : (n p q : ℕ) (i : Inst) (slot : ℕ) (y : Id) → (1 ≤ times y l → 1 ≤ times y k) →
      ((end : ℕ) → walk_end i.op slot n ≡ Some end → defines y (take (before_use i.op (insts_at f end) p) (insts_at f end)) ≡ true → defines y (take (before_use i.op (insts_at g end) q) (insts_at g end)) ≡ true) →
      IsAvailableOpd f n p i slot (Val y) → IsAvailableOpd g n q i slot (Val y)
  opd_kept n p q i slot y stays last h end e walk w ends =
      on_kept y stays (before_use i.op (insts_at f end) p) (before_use i.op (insts_at g end) q) end (last end e) walk ends (h end e walk (walk_same walk w) ends)

  -- all of a block that defines it defines it still
  whole_kept : (y : Id) → (1 ≤ times y l → 1 ≤ times y k) → (end : ℕ) → defines y (insts_at f end) ≡ true → defines y (insts_at g end) ≡ true
  whole_kept y stays end h = by_number (nat_eq end number) refl
    where
      by_number : (t : Bool) → nat_eq end number ≡ t → defines y (insts_at g end) ≡ true
      by_number true n =
          let at : end ≡ number = grind (arith, nat_tests) in
          ap (λ m. defines y (insts_at g m)) at ∙ ap (defines y) (insts_own c k l)
          ∙ times_defines y k (stays (defines_times y l (sym (ap (λ m. defines y (insts_at f m)) at ∙ ap (defines y) (insts_own c l k)) ∙ h)))
      by_number false n = ap (defines y) (insts_other c k l end apart) ∙ h
        where
          apart : end ≡ number → ⊥
          apart same = absurd (grind (arith, nat_tests))

  phi_last : (i : Inst) → is_phi i.op ≡ true → (y : Id) → (1 ≤ times y l → 1 ≤ times y k) → (p q end : ℕ) →
      defines y (take (before_use i.op (insts_at f end) p) (insts_at f end)) ≡ true → defines y (take (before_use i.op (insts_at g end) q) (insts_at g end)) ≡ true
  phi_last i phi y stays p q end h =
      ap (λ n. defines y (take n (insts_at g end))) (phi_before i.op (insts_at g end) q phi) ∙ ap (defines y) (take_all (insts_at g end))
      ∙ whole_kept y stays end (sym (ap (λ n. defines y (take n (insts_at f end))) (phi_before i.op (insts_at f end) p phi) ∙ ap (defines y) (take_all (insts_at f end))) ∙ h)
    where
      phi_before : (o : Op) (last : List Inst) (p : ℕ) → is_phi o ≡ true → before_use o last p ≡ length last
      phi_before (op.Phi blocks) last p e = refl
      phi_before (op.Bin o flags) last p e = absurd cc
      phi_before (op.Icmp pred) last p e = absurd cc
      phi_before (op.Cast o nneg) last p e = absurd cc
      phi_before op.Select last p e = absurd cc
      phi_before op.Extract last p e = absurd cc
      phi_before op.Insert last p e = absurd cc
      phi_before (op.Shuffle mask) last p e = absurd cc
      phi_before (op.Gep elem inbounds) last p e = absurd cc
      phi_before (op.Load align) last p e = absurd cc
      phi_before (op.Store align) last p e = absurd cc
      phi_before (op.Alloca elem align) last p e = absurd cc
      phi_before op.Ret last p e = absurd cc
      phi_before (op.Br to) last p e = absurd cc
      phi_before (op.CondBr first second) last p e = absurd cc
      phi_before (op.Switch other cases to) last p e = absurd cc
      phi_before op.Unreachable last p e = absurd cc
      phi_before (op.Call site) last p e = absurd cc

  available_func : IsAvailableFunc f
  available_func = x.formed.available (length c.items_before) (FuncItem f) (get_split c.items_before c.items_after (FuncItem f))

  available_other : (n : ℕ) (b : Block) → (n ≡ number → ⊥) → slice_get f.blocks n ≡ Some b → IsAvailableBlock g n b
  available_other n b apart e p i at slot (Lit a) s = tt
  available_other n b apart e p i at slot (Sym a) s = tt
  available_other n b apart e p i at slot (Val y) s =
      opd_kept n p p i slot y (stay_around n b apart e p i at slot y s) (λ end w. by_phi end w (is_phi i.op) refl) (available_func n b e p i at slot (Val y) s)
    where
      some_is : {a d : ℕ} → Some a ≡ Some d → a ≡ d
      some_is r = cc

      by_phi : (end : ℕ) → walk_end i.op slot n ≡ Some end → (t : Bool) → is_phi i.op ≡ t →
          defines y (take (before_use i.op (insts_at f end) p) (insts_at f end)) ≡ true → defines y (take (before_use i.op (insts_at g end) p) (insts_at g end)) ≡ true
      by_phi end w true phi h = phi_last i phi y (stay_around n b apart e p i at slot y s) p p end h
      by_phi end w false plain h =
          subst (λ is. defines y (take (before_use i.op is p) is) ≡ true) (insts_other c l k end (λ same. apart (some_is (sym (plain_end i.op slot n plain) ∙ w) ∙ same))) h

  there_at : (known : Known) (os : List Opd) (slot : ℕ) (y : Id) → slice_get os slot ≡ Some (Val y) → Every IsThere (map (ty_by old f number known) os) → IsThere (known y)
  there_at known [] slot y e h = absurd cc
  there_at known (o ∷ os) zero y e h = subst (λ u. IsThere (ty_by old f number known u)) (some_is e) h.0
    where
      some_is : Some o ≡ Some (Val y) → o ≡ Val y
      some_is r = cc
  there_at known (o ∷ os) (suc slot) y e h = there_at known os slot y e h.1

  -- what is known at a place of the row stands before it on each walk
  on_known : (front rest : List Inst) (i : Inst) → k ≡ front ++ i ∷ rest → (y : Id) (t : Ty) → after front start y ≡ Some t → (walk : List ℕ) → IsWalk (graph_of g) walk → EndsAt walk number → stands_on g y (length front) walk ≡ true
  on_known front rest i are y t e walk w ends = by_number (times y front) refl walk w ends
    where
      taken : take (length front) (insts_at g number) ≡ front
      taken = ap (take (length front)) (insts_own c k l ∙ are) ∙ take_front front (i ∷ rest)
        where
          take_front : (xs ys : List Inst) → take (length xs) (xs ++ ys) ≡ xs
          take_front [] ys = refl
          take_front (j ∷ xs) ys = ap (λ u. j ∷ u) (take_front xs ys)

      later : (b d : Bool) → d ≡ true → (b || d) ≡ true
      later true d r = refl
      later false d r = r

      by_number : (j : ℕ) → times y front ≡ j → (walk : List ℕ) → IsWalk (graph_of g) walk → EndsAt walk number → stands_on g y (length front) walk ≡ true
      by_number j z [] v ends = elim v [ ]
      by_number zero z (a ∷ rest_walk) v ends =
          let s = x.starts y t (sym (after_none front start y z) ∙ e) in
          on_kept y (λ some. (let none = s.1 in absurd (omega (arith, some, none)))) s.2.0 (length front) number
          (λ d. absurd (never s.1 s.2.0 d)) (a ∷ rest_walk) ends (s.2.1 (a ∷ rest_walk) (walk_same (a ∷ rest_walk) v) ends)
        where
          take_fewer : (n : ℕ) (is : List Inst) → times y (take n is) ≤ times y is
          take_fewer zero is = omega (arith)
          take_fewer (suc n) [] = omega (arith)
          take_fewer (suc n) (j ∷ is) = let r = take_fewer n is in omega (arith, r)

          never : times y l ≡ 0 → (n : ℕ) → defines y (take n (insts_at f number)) ≡ true → ⊥
          never none n d =
              let some = defines_times y (take n (insts_at f number)) d in
              let le = take_fewer n (insts_at f number) in
              let own = ap (times y) (insts_own c l k) in
              omega (arith, none, some, le, own)
      by_number (suc j) z (a ∷ rest_walk) v ends =
          later (is_param y g) (stands_from g y (length front) a rest_walk) (stands_last g y (length front) a rest_walk number ends (ap (defines y) taken ∙ times_defines y front (omega (arith, z))))

  own_value : (q : ℕ) (i : Inst) → slice_get k q ≡ Some i → (slot : ℕ) (y : Id) → slice_get i.opds slot ≡ Some (Val y) → IsAvailableOpd g number q i slot (Val y)
  own_value q i at slot y s = by_parts (parts_get k q i at).0 (parts_get k q i at).1
    where
      some_is : {a d : ℕ} → Some a ≡ Some d → a ≡ d
      some_is r = cc

      by_parts : (p : Parts k i) → length p.front ≡ q → IsAvailableOpd g number q i slot (Val y)
      by_parts p long = by_phi (is_phi i.op) refl
        where
          by_phi : (t : Bool) → is_phi i.op ≡ t → IsAvailableOpd g number q i slot (Val y)
          by_phi true phi =
              let finds = found_new p.front p.rest i p.are in
              let was = place_of i.id l i (x.same_phis i phi finds) in
              opd_kept number was.0 q i slot y (stay_phi i phi finds slot y s) (λ end w. phi_last i phi y (stay_phi i phi finds slot y s) was.0 q end)
              (available_func number (block_with c l) own_block was.0 i was.1 slot (Val y) s)
          by_phi false plain = by_ty (after p.front start y) refl there
            where
              ok : LineOk old f number (after p.front start) i
              ok = line p.front p.rest i p.are plain

              there : IsThere (after p.front start y)
              there = there_at (after p.front start) i.opds slot y s (typed_there old f.ret i.op i.ty (map (ty_by old f number (after p.front start)) i.opds) ok.typed ok.calling)

              at_end : (t : Ty) → after p.front start y ≡ Some t → IsAvailableOpd g number q i slot (Val y)
              at_end t e end w =
                  let same : number ≡ end = some_is (sym (plain_end i.op slot number plain) ∙ w) in
                  subst (λ n. IsAvailableAt g y n end) (long ∙ sym (plain_before i.op (insts_at g end) q plain))
                  (subst (IsAvailableAt g y (length p.front)) same (on_known p.front p.rest i p.are y t e))

              by_ty : (o : Option Ty) → after p.front start y ≡ o → IsThere o → IsAvailableOpd g number q i slot (Val y)
              by_ty None e h = elim h [ ]
              by_ty (Some t) e h = at_end t e

  available_own : IsAvailableBlock g number (block_with c k)
  available_own q i at slot (Lit a) s = tt
  available_own q i at slot (Sym a) s = tt
  available_own q i at slot (Val y) s = own_value q i at slot y s

  available_new : IsAvailableFunc g
  available_new n b e = by_number (nat_eq n number) refl
    where
      by_number : (t : Bool) → nat_eq n number ≡ t → IsAvailableBlock g n b
      by_number true s =
          let same : n ≡ number = grind (arith, nat_tests) in
          subst (λ j. IsAvailableBlock g j b) (sym same)
          (subst (IsAvailableBlock g number) (some_is (sym (get_split c.blocks_before c.blocks_after (block_with c k)) ∙ (ap (slice_get g.blocks) (sym same) ∙ e))) available_own)
        where
          some_is : Some (block_with c k) ≡ Some b → block_with c k ≡ b
          some_is r = cc
      by_number false s = available_other n b apart (get_other c.blocks_before c.blocks_after (block_with c k) (block_with c l) b n apart e)
        where
          apart : n ≡ number → ⊥
          apart same = absurd (grind (arith, nat_tests))

  items_available : Each IsAvailableItem (items_with c k)
  items_available n item e = by_number (nat_eq n (length c.items_before)) refl
    where
      by_number : (t : Bool) → nat_eq n (length c.items_before) ≡ t → IsAvailableItem n item
      by_number true s =
          let same : n ≡ length c.items_before = grind (arith, nat_tests) in
          subst (λ j. IsAvailableItem j item) (sym same)
          (subst (IsAvailableItem (length c.items_before)) (some_is (sym (get_split c.items_before c.items_after (FuncItem g)) ∙ (ap (slice_get (items_with c k)) (sym same) ∙ e))) available_new)
        where
          some_is : Some (FuncItem g) ≡ Some item → FuncItem g ≡ item
          some_is r = cc
      by_number false s = x.formed.available n item (get_other c.items_before c.items_after (FuncItem g) (FuncItem f) item n apart e)
        where
          apart : n ≡ length c.items_before → ⊥
          apart same = absurd (grind (arith, nat_tests))

  -- ---- ids

  times_at : (xs : List Id) (j : ℕ) (d : Id) → j < length xs → 1 ≤ id_times (get_or xs j d) xs
  times_at [] j d less = absurd (omega (arith, less))
  times_at (y ∷ ys) zero d less = own (same_id y y) (same_itself y)
    where
      own : (b : Bool) → b ≡ true → 1 ≤ cond b (1 + id_times y ys) (id_times y ys)
      own true e = omega (arith)
      own false e = absurd cc
  times_at (y ∷ ys) (suc j) d less = more (same_id y (get_or ys j d)) (times_at ys j d (omega (arith, less)))
    where
      more : (b : Bool) → 1 ≤ id_times (get_or ys j d) ys → 1 ≤ cond b (1 + id_times (get_or ys j d) ys) (id_times (get_or ys j d) ys)
      more true some = omega (arith)
      more false some = some

  pairs_apart : (xs : List Id) → ((y : Id) → id_times y xs ≤ 1) → AllPairs (λ (a b : Id). a ≡ b → ⊥) xs
  pairs_apart [] le i j d less more e = omega (arith, more)
  pairs_apart (y ∷ ys) le zero zero d less more e = omega (arith, less)
  pairs_apart (y ∷ ys) le zero (suc j) d less more e = twice (same_id y y) (same_itself y) (le y)
    where
      some : 1 ≤ id_times y ys
      some = subst (λ v. 1 ≤ id_times v ys) (sym e) (times_at ys j d (omega (arith, more)))

      twice : (b : Bool) → b ≡ true → cond b (1 + id_times y ys) (id_times y ys) ≤ 1 → ⊥
      twice true t few = omega (arith, few, some)
      twice false t few = cc
  pairs_apart (y ∷ ys) le (suc i) zero d less more e = omega (arith, less)
  pairs_apart (y ∷ ys) le (suc i) (suc j) d less more e = pairs_apart ys (λ v. fewer v (same_id y v) (le v)) i j d (omega (arith, less)) (omega (arith, more)) e
    where
      fewer : (v : Id) (b : Bool) → cond b (1 + id_times v ys) (id_times v ys) ≤ 1 → id_times v ys ≤ 1
      fewer v true few = omega (arith, few)
      fewer v false few = few

  pub formed_new : IsFormed (plug c k)
  formed_new = record {
    items = items_kept;
    plain = record {
      items = all_of_every IsPlainItem (items_with c k)
          (every_swap IsPlainItem IsPlainItem c.items_before c.items_after (FuncItem f) (FuncItem g) (λ item h. h) func_plain (every_of_all IsPlainItem (items_with c l) x.formed.plain.items));
      names = subst (AllPairs (λ (a b : List ℕ). a ≡ b → ⊥)) (sym (names_same c.items_before c.items_after)) x.formed.plain.names;
    };
    once = pairs_apart (ids_of (plug c k)) (λ y. (let ids = ids_plug c k y in let le = x.few y in omega (arith, ids, le)));
    available = items_available;
  }
