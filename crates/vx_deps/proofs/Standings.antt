-- What the answers of a formed module tell of an instruction of a block.
use Rattle.std.proofs.Common.{◌≡◌, refl, sym, ap, ◌∙◌, ℕ, zero, suc, Bool, true, false, Option, None, Some, List, [], ◌∷◌, map, cond, slice_get}
use Rattle.ir_types.specs.declared.id.Id.{Id}
use Rattle.ir_types.specs.declared.id.Place.{Place}
use Rattle.ir_types.specs.declared.inst.Inst.{Inst}
use Rattle.ir_types.specs.declared.func.Param.{Param}
use Rattle.ir_types.specs.declared.func.Block.{Block}
use Rattle.ir_types.specs.declared.module.Item.{Item}
use Rattle.ir_types.specs.declared.module.Item.TheVariants.{Kept, Opaque, Func as FuncItem}
use Rattle.ir_types.specs.declared.module.Module.{Module}
use Rattle.ir_types.specs.Formed.{block_ids, item_ids, ids_of_items, ids_of, IsFormed}
use Rattle.ir_types.proofs.Among.{Once, once_of_pairs}
use Rattle.vx_view.specs.declared.answer.Answer.{Answer}
use Rattle.vx_view.specs.declared.question.Question.TheVariants as ask
use Rattle.vx_view.specs.Answers.{funcs_of, param_of, find, found, before, Standing, of_value, beside, answer}
use Rattle.vx_view.specs.Views.{same_place}
use Rattle.vx_view.specs.Blocks.{insts_of, insts_in, block_at, in_place}
use Rattle.vx_view.proofs.Edits.{once_left, once_right, inst_ids}
use Rattle.vx_view.proofs.Blocks.{standing_is, found_alone, found_block, place_is}
use Rattle.vx_deps.specs.Reach.{is_there, is_answered, id_answered}

none_some : {A : Type 0} {a : A} → None ≡ Some a → ⊥
none_some e = cc

some_none : {A : Type 0} {a : A} → Some a ≡ None → ⊥
some_none e = cc

-- what stands in the block of a place is found there
pub stood_in : (m : Module) → IsFormed m → (place : Place) (x : Id) (i : Inst) → find x (block_at m place) ≡ Some i →
    (s : Standing) × (found m x ≡ Some s) × (block_at m place ≡ s.block)
stood_in m h place x i e = by_both (param_of x (funcs_of m.items)) (found m x) refl (standing_is m h place x ∙ e)
  where
    by_both : (p : Option Param) (u : Option Standing) → found m x ≡ u → in_place place (of_value p u) ≡ Some i → (s : Standing) × (found m x ≡ Some s) × (block_at m place ≡ s.block)
    by_both (Some p) u t r = absurd (none_some r)
    by_both None None t r = absurd (none_some r)
    by_both None (Some s) t r = by_test (same_place s.place place) refl r
      where
        by_test : (b : Bool) → same_place s.place place ≡ b → cond b (Some s.inst) None ≡ Some i → (s : Standing) × (found m x ≡ Some s) × (block_at m place ≡ s.block)
        by_test true q r = (s, t, ap (block_at m) (sym (place_is s.place place q)) ∙ (found_block x s m t).0)
        by_test false q r = absurd (none_some r)

pub prev_is : (m : Module) → IsFormed m → (place : Place) (x : Id) (i : Inst) → find x (block_at m place) ≡ Some i → (a : Answer) → answer m (ask.Prev x) ≡ a →
    id_answered a ≡ before x None (block_at m place)
prev_is m h place x i e a r =
    let w = stood_in m h place x i e in
    ap id_answered (sym r) ∙ ap (λ p. id_answered (beside p (found m x) (before x None))) (found_alone x w.0 m h w.1) ∙ ap (λ u. id_answered (beside None u (before x None))) w.1
    ∙ ap (before x None) (sym w.2)

there_is : (m : Module) → IsFormed m → (x : Id) (p : Option Param) (u : Option Standing) → param_of x (funcs_of m.items) ≡ p → found m x ≡ u → is_answered (of_value p u) ≡ is_there u
there_is m h x None None e f = refl
there_is m h x None (Some s) e f = refl
there_is m h x (Some p) None e f = refl
there_is m h x (Some p) (Some s) e f = absurd (some_none (sym e ∙ found_alone x s m h f))

pub there : (m : Module) → IsFormed m → (x : Id) (a : Answer) → answer m (ask.Inst x) ≡ a → is_answered a ≡ is_there (found m x)
there m h x a e = ap is_answered (sym e) ∙ there_is m h x (param_of x (funcs_of m.items)) (found m x) refl refl

-- ---- ids stand once in a block

blocks_once : (j : ℕ) (bs : List Block) → Once (block_ids bs) → Once (inst_ids (insts_of (slice_get bs j)))
blocks_once j [] o = tt
blocks_once zero (b ∷ bs) o = once_left (inst_ids b.insts) (block_ids bs) o
blocks_once (suc j) (b ∷ bs) o = blocks_once j bs (once_right (inst_ids b.insts) (block_ids bs) o)

items_once : (j n : ℕ) (items : List Item) → Once (ids_of_items items) → Once (inst_ids (insts_in (slice_get (funcs_of items) j) n))
items_once j n [] o = tt
items_once j n (Kept text ∷ items) o = items_once j n items o
items_once j n (Opaque text ∷ items) o = items_once j n items o
items_once zero n (FuncItem f ∷ items) o =
    blocks_once n f.blocks (once_right (map (λ (p : Param). p.id) f.params) (block_ids f.blocks) (once_left (item_ids (FuncItem f)) (ids_of_items items) o))
items_once (suc j) n (FuncItem f ∷ items) o = items_once j n items (once_right (item_ids (FuncItem f)) (ids_of_items items) o)

pub block_once : (m : Module) → IsFormed m → (place : Place) → Once (inst_ids (block_at m place))
block_once m h place = items_once place.func place.block m.items (once_of_pairs (ids_of m) h.once)
