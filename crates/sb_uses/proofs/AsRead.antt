-- The slots of a module whose ids are apart, brought in in order of the text, are the lists as it was read.
use Rattle.std.proofs.Common.{◌≡◌, refl, sym, ap, ◌∙◌, ℕ, suc, Bool, true, false, ◌&&◌, ◌||◌, List, [], ◌∷◌, ◌++◌, map, cond, nat_eq}
use Rattle.std.proofs.Math.Path.{fun_ext}
use Rattle.ir_types.specs.declared.id.Id.{Id}
use Rattle.ir_types.specs.declared.id.Use.{Use}
use Rattle.ir_types.specs.declared.opd.Opd.{Opd}
use Rattle.ir_types.specs.declared.opd.Opd.TheVariants.{Val, Lit, Sym}
use Rattle.ir_types.specs.declared.inst.Inst.{Inst}
use Rattle.ir_types.specs.declared.func.Param.{Param}
use Rattle.ir_types.specs.declared.func.Block.{Block}
use Rattle.ir_types.specs.declared.func.Func.{Func}
use Rattle.ir_types.specs.declared.module.Item.{Item}
use Rattle.ir_types.specs.declared.module.Item.TheVariants.{Kept, Opaque, Func as FuncItem}
use Rattle.ir_types.specs.declared.module.Module.{Module}
use Rattle.ir_types.specs.Available.{same_id}
use Rattle.ir_types.specs.Formed.{block_ids, item_ids, ids_of_items}
use Rattle.ir_types.proofs.Among.{among, among_left, among_right, same_is, same_itself, Once}
use Rattle.vx_view.specs.Answers.{funcs_of, slots_from, uses_in, uses_in_blocks, uses_of}
use Rattle.vx_view.specs.Uses.{newest_first, lifted}
use Rattle.vx_view.specs.UsesAfter.{opd_added}
use Rattle.vx_view.proofs.Edits.{once_left, once_right, once_apart, lacks_left, lacks_right, inst_ids}
use Rattle.sb_uses.specs.Places.{has}
use Rattle.sb_uses.specs.Stock.{Stock, slot_use, LacksSlot, LacksSlots, slot_added, added}
use Rattle.sb_uses.specs.Totals.{IdsApart}
use Rattle.sb_uses.specs.Lifting.{inst_added, insts_added, blocks_added, funcs_added, CanAddInsts, CanAddBlocks, CanAddFuncs, nothing}
use Rattle.sb_uses.proofs.Segments.{miss}
use Rattle.sb_uses.proofs.Stocks.{at-list}
use Rattle.sb_uses.proofs.Totals.{apart_once}

-- ---- the lists

newest_append : (xs ys done : List Use) → newest_first (xs ++ ys) done ≡ newest_first ys (newest_first xs done)
newest_append [] ys done = refl
newest_append (x ∷ xs) ys done = newest_append xs ys (x ∷ done)

slots_read : (v user : Id) (k : ℕ) (os : List Opd) (s : Stock) → (added user k os s).lists v ≡ newest_first (slots_from v user k os) (s.lists v)
slots_read v user k [] s = refl
slots_read v user k (o ∷ os) s = slots_read v user (suc k) os (slot_added user k o s) ∙ one o
  where
    one : (p : Opd) → newest_first (slots_from v user (suc k) os) (opd_added user k p s.lists v) ≡ newest_first (slots_from v user k (p ∷ os)) (s.lists v)
    one (Val x) = ap (newest_first (slots_from v user (suc k) os)) (at-list (λ us. slot_use user k ∷ us) x v s.lists) ∙ by_test (same_id x v)
      where
        by_test : (b : Bool) → newest_first (slots_from v user (suc k) os) (cond b (slot_use user k ∷ s.lists v) (s.lists v))
            ≡ newest_first (cond b (slot_use user k ∷ slots_from v user (suc k) os) (slots_from v user (suc k) os)) (s.lists v)
        by_test true = refl
        by_test false = refl
    one (Lit l) = refl
    one (Sym g) = refl

insts_read : (v : Id) (l : List Inst) (s : Stock) → (insts_added l s).lists v ≡ newest_first (uses_in v l) (s.lists v)
insts_read v [] s = refl
insts_read v (i ∷ is) s =
    insts_read v is (inst_added i s) ∙ ap (newest_first (uses_in v is)) (slots_read v i.id 0 i.opds s) ∙ sym (newest_append (slots_from v i.id 0 i.opds) (uses_in v is) (s.lists v))

blocks_read : (v : Id) (bs : List Block) (s : Stock) → (blocks_added bs s).lists v ≡ newest_first (uses_in_blocks v bs) (s.lists v)
blocks_read v [] s = refl
blocks_read v (b ∷ bs) s =
    blocks_read v bs (insts_added b.insts s) ∙ ap (newest_first (uses_in_blocks v bs)) (insts_read v b.insts s) ∙ sym (newest_append (uses_in v b.insts) (uses_in_blocks v bs) (s.lists v))

funcs_read : (v : Id) (fs : List Func) (s : Stock) → (funcs_added fs s).lists v ≡ newest_first (uses_of v fs) (s.lists v)
funcs_read v [] s = refl
funcs_read v (f ∷ fs) s =
    funcs_read v fs (blocks_added f.blocks s) ∙ ap (newest_first (uses_of v fs)) (blocks_read v f.blocks s) ∙ sym (newest_append (uses_in_blocks v f.blocks) (uses_of v fs) (s.lists v))

pub lists_read : (m : Module) → (funcs_added (funcs_of m.items) nothing).lists ≡ lifted m
lists_read m = fun_ext λ v. funcs_read v (funcs_of m.items) nothing

kept_slots : (user : Id) (k : ℕ) (os : List Opd) (s : Stock) → (added user k os s).kept ≡ s.kept
kept_slots user k [] s = refl
kept_slots user k (o ∷ os) s = kept_slots user (suc k) os (slot_added user k o s)

kept_insts : (l : List Inst) (s : Stock) → (insts_added l s).kept ≡ s.kept
kept_insts [] s = refl
kept_insts (i ∷ is) s = kept_insts is (inst_added i s) ∙ kept_slots i.id 0 i.opds s

kept_blocks : (bs : List Block) (s : Stock) → (blocks_added bs s).kept ≡ s.kept
kept_blocks [] s = refl
kept_blocks (b ∷ bs) s = kept_blocks bs (insts_added b.insts s) ∙ kept_insts b.insts s

pub kept_read : (fs : List Func) (s : Stock) → (funcs_added fs s).kept ≡ s.kept
kept_read [] s = refl
kept_read (f ∷ fs) s = kept_read fs (blocks_added f.blocks s) ∙ kept_blocks f.blocks s

-- ---- no list has a slot of an instruction before it comes

-- no list has a slot of an id
abbrev Lacks : Id → Stock → Type 0
Lacks x s = (v : Id) (j : ℕ) → has (slot_use x j) (s.lists v) ≡ false

lacks_one : (x user : Id) (k : ℕ) (o : Opd) (s : Stock) → same_id user x ≡ false → Lacks x s → Lacks x (slot_added user k o s)
lacks_one x user k (Val y) s differ none v j = ap (has (slot_use x j)) (at-list (λ us. slot_use user k ∷ us) y v s.lists) ∙ by_test (same_id y v)
  where
    by_test : (b : Bool) → has (slot_use x j) (cond b (slot_use user k ∷ s.lists v) (s.lists v)) ≡ false
    by_test true = miss _ (ap (λ c. c && nat_eq k j) differ) ∙ none v j
    by_test false = none v j
lacks_one x user k (Lit l) s differ none v j = none v j
lacks_one x user k (Sym g) s differ none v j = none v j

lacks_slots : (x user : Id) (k : ℕ) (os : List Opd) (s : Stock) → same_id user x ≡ false → Lacks x s → Lacks x (added user k os s)
lacks_slots x user k [] s differ none = none
lacks_slots x user k (o ∷ os) s differ none = lacks_slots x user (suc k) os (slot_added user k o s) differ (lacks_one x user k o s differ none)

not_head : (y x : Id) (ys : List Id) → among (y ∷ ys) x ≡ false → same_id y x ≡ false
not_head y x ys e = by_test (same_id y x) e
  where
    by_test : (b : Bool) → (b || among ys x) ≡ false → b ≡ false
    by_test true h = h
    by_test false h = refl

not_tail : (y x : Id) (ys : List Id) → among (y ∷ ys) x ≡ false → among ys x ≡ false
not_tail y x ys e = by_test (same_id y x) e
  where
    by_test : (b : Bool) → (b || among ys x) ≡ false → among ys x ≡ false
    by_test true h = absurd cc
    by_test false h = h

lacks_insts : (x : Id) (l : List Inst) (s : Stock) → among (inst_ids l) x ≡ false → Lacks x s → Lacks x (insts_added l s)
lacks_insts x [] s e none = none
lacks_insts x (i ∷ is) s e none = lacks_insts x is (inst_added i s) (not_tail i.id x (inst_ids is) e) (lacks_slots x i.id 0 i.opds s (not_head i.id x (inst_ids is) e) none)

lacks_operands : (x : Id) (k : ℕ) (os : List Opd) (s : Stock) → Lacks x s → LacksSlots x k os s.lists
lacks_operands x k [] s none = tt
lacks_operands x k (o ∷ os) s none = (first o, lacks_operands x (suc k) os s none)
  where
    first : (p : Opd) → LacksSlot x k p s.lists
    first (Val v) = none v k
    first (Lit l) = tt
    first (Sym g) = tt

-- what is among ids is lacked
abbrev LacksAll : List Id → Stock → Type 0
LacksAll ids s = (x : Id) → among ids x ≡ true → Lacks x s

-- an id of others than these is none of these
apart_from : (ids : List Id) (y x : Id) → among ids y ≡ false → among ids x ≡ true → same_id y x ≡ false
apart_from ids y x e r = by_test (same_id y x) refl
  where
    by_test : (b : Bool) → same_id y x ≡ b → b ≡ false
    by_test true t = absurd (true_false (sym r ∙ ap (among ids) (sym (same_is y x t)) ∙ e)) where
      true_false : true ≡ false → ⊥
      true_false f = cc
    by_test false t = refl

all_head : (y : Id) (ys : List Id) (s : Stock) → LacksAll (y ∷ ys) s → Lacks y s
all_head y ys s all = all y (ap (λ b. b || among ys y) (itself y)) where
  itself : (x : Id) → same_id x x ≡ true
  itself x = same_itself x

all_tail : (y : Id) (ys : List Id) (s : Stock) → LacksAll (y ∷ ys) s → LacksAll ys s
all_tail y ys s all x r = all x (or_right (same_id y x) (among ys x) r) where
  or_right : (a b : Bool) → b ≡ true → (a || b) ≡ true
  or_right true b h = refl
  or_right false b h = h

can_insts : (l : List Inst) (s : Stock) → Once (inst_ids l) → LacksAll (inst_ids l) s → CanAddInsts l s
can_insts [] s o all = tt
can_insts (i ∷ is) s o all = (
  lacks_operands i.id 0 i.opds s (all_head i.id (inst_ids is) s all),
  can_insts is (inst_added i s) o.1 (λ x r. lacks_slots x i.id 0 i.opds s (apart_from (inst_ids is) i.id x o.0 r) (all_tail i.id (inst_ids is) s all x r)),
)

all_left : (xs ys : List Id) (s : Stock) → LacksAll (xs ++ ys) s → LacksAll xs s
all_left xs ys s all x r = all x (among_left xs ys x r)

all_right : (xs ys : List Id) (s : Stock) → LacksAll (xs ++ ys) s → LacksAll ys s
all_right xs ys s all x r = all x (among_right xs ys x r)

-- what is among the second is not among the first
before_not : (xs ys : List Id) (x : Id) → Once (xs ++ ys) → among ys x ≡ true → among xs x ≡ false
before_not xs ys x o r = by_test (among xs x) refl
  where
    by_test : (b : Bool) → among xs x ≡ b → b ≡ false
    by_test true t = absurd (true_false (sym r ∙ once_apart xs ys x o t)) where
      true_false : true ≡ false → ⊥
      true_false f = cc
    by_test false t = refl

can_blocks : (bs : List Block) (s : Stock) → Once (block_ids bs) → LacksAll (block_ids bs) s → CanAddBlocks bs s
can_blocks [] s o all = tt
can_blocks (b ∷ bs) s o all = (
  can_insts b.insts s (once_left (inst_ids b.insts) (block_ids bs) o) (all_left (inst_ids b.insts) (block_ids bs) s all),
  can_blocks bs (insts_added b.insts s) (once_right (inst_ids b.insts) (block_ids bs) o)
      (λ x r. lacks_insts x b.insts s (before_not (inst_ids b.insts) (block_ids bs) x o r) (all_right (inst_ids b.insts) (block_ids bs) s all x r)),
)

lacks_blocks : (x : Id) (bs : List Block) (s : Stock) → among (block_ids bs) x ≡ false → Lacks x s → Lacks x (blocks_added bs s)
lacks_blocks x [] s e none = none
lacks_blocks x (b ∷ bs) s e none =
    lacks_blocks x bs (insts_added b.insts s) (lacks_right (inst_ids b.insts) (block_ids bs) x e) (lacks_insts x b.insts s (lacks_left (inst_ids b.insts) (block_ids bs) x e) none)

can_items : (items : List Item) (s : Stock) → Once (ids_of_items items) → LacksAll (ids_of_items items) s → CanAddFuncs (funcs_of items) s
can_items [] s o all = tt
can_items (Kept text ∷ items) s o all = can_items items s o all
can_items (Opaque text ∷ items) s o all = can_items items s o all
can_items (FuncItem f ∷ items) s o all =
    let params : List Id = map (λ (p : Param). p.id) f.params in
    let own = all_left (item_ids (FuncItem f)) (ids_of_items items) s all in (
      can_blocks f.blocks s (once_right params (block_ids f.blocks) (once_left (item_ids (FuncItem f)) (ids_of_items items) o)) (all_right params (block_ids f.blocks) s own),
      can_items items (blocks_added f.blocks s) (once_right (item_ids (FuncItem f)) (ids_of_items items) o)
          (λ x r. lacks_blocks x f.blocks s (lacks_right params (block_ids f.blocks) x (before_not (item_ids (FuncItem f)) (ids_of_items items) x o r)) (all_right (item_ids (FuncItem f)) (ids_of_items items) s all x r)),
    )

pub can_read : (m : Module) (s : Stock) → ((v : Id) → s.lists v ≡ []) → IdsApart m → CanAddFuncs (funcs_of m.items) s
can_read m s none apart = can_items m.items s (apart_once m apart) (λ x r v j. ap (has (slot_use x j)) (none v))
