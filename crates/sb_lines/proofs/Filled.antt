-- Modules with the instructions of each block told anew: what two tellings make, and what stays.
use Rattle.std.proofs.Common.{◌≡◌, refl, sym, ap, ◌∙◌, ℕ, zero, suc, ◌+◌, Bool, true, false, nat_lt, None, List, [], ◌∷◌, length, map, cond, slice_get, option_map, arith}
use Rattle.std.proofs.Math.Path.{fun_ext}
use Rattle.std.proofs.lemmas.Bool.Decides.{nat_tests}
use Rattle.ir_types.specs.declared.id.Id.{Id}
use Rattle.ir_types.specs.declared.id.Place.{Place}
use Rattle.ir_types.specs.declared.inst.Inst.{Inst}
use Rattle.ir_types.specs.declared.func.Block.{Block}
use Rattle.ir_types.specs.declared.func.Func.{Func}
use Rattle.ir_types.specs.declared.module.Item.{Item}
use Rattle.ir_types.specs.declared.module.Item.TheVariants.{Kept, Opaque, Func as FuncItem}
use Rattle.ir_types.specs.declared.module.Module.{Module}
use Rattle.vx_view.specs.Answers.{funcs_of, param_in, param_of, either, id_of, first_of, first_in}
use Rattle.vx_view.specs.Changes.{Edit, each, edited_block, edited_item, edited}
use Rattle.sb_lines.specs.declared.spot.Before.{Before}
use Rattle.sb_lines.specs.declared.spot.Before.TheVariants.{Line, End}
use Rattle.sb_lines.specs.declared.arena.Arena.{Arena}
use Rattle.sb_lines.specs.Filling.{Filling, place_of, blocks_filled, func_filled, items_filled, filled, block_in, has_block}
use Rattle.sb_lines.specs.Params.{spot_of, spot_from}
use Rattle.sb_lines.specs.Spots.{put_in}
use Rattle.sb_lines.specs.Arena.{contents, seen}
use Rattle.sb_lines.specs.Steps.{SameFrame, coming}

-- ---- one telling after another

abbrev func_with : Func → List Block → Func
func_with f bs = record { before = f.before; ret = f.ret; name = f.name; params = f.params; after = f.after; blocks = bs }

abbrev module_with : Module → List Item → Module
module_with m items = record { items = items; globals = m.globals; big_endian_line = m.big_endian_line }

module _ (c d : Filling) where
  abbrev pub both : Filling
  both q insts = c q (d q insts)

  blocks-again : (func n : ℕ) (bs : List Block) → blocks_filled c func n (blocks_filled d func n bs) ≡ blocks_filled both func n bs
  blocks-again func n [] = refl
  blocks-again func n (b ∷ bs) = ap (λ r. record { name = b.name; insts = c (place_of func n) (d (place_of func n) b.insts) } ∷ r) (blocks-again func (suc n) bs)

  items-again : (func : ℕ) (items : List Item) → items_filled c func (items_filled d func items) ≡ items_filled both func items
  items-again func [] = refl
  items-again func (Kept text ∷ items) = ap (λ r. Kept text ∷ r) (items-again func items)
  items-again func (Opaque text ∷ items) = ap (λ r. Opaque text ∷ r) (items-again func items)
  items-again func (FuncItem f ∷ items) =
      ap (λ bs. FuncItem (func_with f bs) ∷ items_filled c (suc func) (items_filled d (suc func) items)) (blocks-again func 0 f.blocks)
      ∙ ap (λ r. FuncItem (func_with f (blocks_filled both func 0 f.blocks)) ∷ r) (items-again (suc func) items)

  pub filled-again : (m : Module) → filled c (filled d m) ≡ filled both m
  filled-again m = ap (module_with m) (items-again 0 m.items)

-- an edit tells each block by itself
module _ (F : Edit) where
  abbrev edit : Filling
  edit q insts = each F insts

  blocks-edited : (func n : ℕ) (bs : List Block) → map (edited_block F) bs ≡ blocks_filled edit func n bs
  blocks-edited func n [] = refl
  blocks-edited func n (b ∷ bs) = ap (λ r. record { name = b.name; insts = each F b.insts } ∷ r) (blocks-edited func (suc n) bs)

  items-edited : (func : ℕ) (items : List Item) → map (edited_item F) items ≡ items_filled edit func items
  items-edited func [] = refl
  items-edited func (Kept text ∷ items) = ap (λ r. Kept text ∷ r) (items-edited func items)
  items-edited func (Opaque text ∷ items) = ap (λ r. Opaque text ∷ r) (items-edited func items)
  items-edited func (FuncItem f ∷ items) =
      ap (λ bs. FuncItem (func_with f bs) ∷ map (edited_item F) items) (blocks-edited func 0 f.blocks)
      ∙ ap (λ r. FuncItem (func_with f (blocks_filled edit func 0 f.blocks)) ∷ r) (items-edited (suc func) items)

  pub edited-filled : (m : Module) → edited F m ≡ filled edit m
  edited-filled m = ap (module_with m) (items-edited 0 m.items)

-- ---- the module that is held

-- what tells each block of the one from that of the other tells the module
pub seen-filled : (s t : Arena) (c : Filling) → SameFrame s t → ((q : Place) → contents t q ≡ c q (contents s q)) → seen t ≡ filled c (seen s)
seen-filled s t c same each =
    ap (filled (λ q insts. contents t q)) same.frame
    ∙ ap (λ (e : Place → List Inst). filled (λ q insts. e q) s.frame) (fun_ext each)
    ∙ sym (filled-again c (λ q insts. contents s q) s.frame)

pub seen-edited : (s t : Arena) (F : Edit) → SameFrame s t → ((q : Place) → contents t q ≡ each F (contents s q)) → seen t ≡ edited F (seen s)
seen-edited s t F same each = seen-filled s t (λ q insts. Rattle.vx_view.specs.Changes.each F insts) same each ∙ sym (edited-filled F (seen s))

pub seen-same : (s t : Arena) → SameFrame s t → ((q : Place) → contents t q ≡ contents s q) → seen t ≡ seen s
seen-same s t same each = ap (filled (λ q insts. contents t q)) same.frame ∙ ap (λ (e : Place → List Inst). filled (λ q insts. e q) s.frame) (fun_ext each)

pub put-filled : (before : Before) (new : Inst) (m : Module) → put_in before new m ≡ filled (coming before new) m
put-filled (Line x) new m = edited-filled (Rattle.vx_view.specs.Changes.inserting x new) m
put-filled (End place) new m = refl

pub seen-put : (s t : Arena) (before : Before) (new : Inst) → SameFrame s t → ((q : Place) → contents t q ≡ coming before new q (contents s q)) → seen t ≡ put_in before new (seen s)
seen-put s t before new same each = seen-filled s t (coming before new) same each ∙ sym (put-filled before new (seen s))

-- ---- what stays

-- functions with their blocks told anew
abbrev pub funcs_filled : Filling → ℕ → List Func → List Func
funcs_filled c func [] = []
funcs_filled c func (f ∷ fs) = func_filled c func f ∷ funcs_filled c (suc func) fs

pub funcs-filled : (c : Filling) (func : ℕ) (items : List Item) → funcs_of (items_filled c func items) ≡ funcs_filled c func (funcs_of items)
funcs-filled c func [] = refl
funcs-filled c func (Kept text ∷ items) = funcs-filled c func items
funcs-filled c func (Opaque text ∷ items) = funcs-filled c func items
funcs-filled c func (FuncItem f ∷ items) = ap (λ r. func_filled c func f ∷ r) (funcs-filled c (suc func) items)

module _ (c : Filling) where
  long-blocks : (func n : ℕ) (bs : List Block) → length (blocks_filled c func n bs) ≡ length bs
  long-blocks func n [] = refl
  long-blocks func n (b ∷ bs) = ap suc (long-blocks func (suc n) bs)

  block-filled : (func j : ℕ) (fs : List Func) (number : ℕ) → block_in (slice_get (funcs_filled c func fs) j) number ≡ block_in (slice_get fs j) number
  block-filled func j [] number = refl
  block-filled func zero (f ∷ fs) number = ap (nat_lt number) (long-blocks func 0 f.blocks)
  block-filled func (suc j) (f ∷ fs) number = block-filled (suc func) j fs number

  pub has-filled : (m : Module) (q : Place) → has_block (filled c m) q ≡ has_block m q
  has-filled m q = ap (λ fs. block_in (slice_get fs q.func) q.block) (funcs-filled c 0 m.items) ∙ block-filled 0 q.func (funcs_of m.items) q.block

  params-filled : (id : Id) (func : ℕ) (fs : List Func) → param_of id (funcs_filled c func fs) ≡ param_of id fs
  params-filled id func [] = refl
  params-filled id func (f ∷ fs) = ap (either (param_in id f.params)) (params-filled id (suc func) fs)

  pub param-filled : (m : Module) (id : Id) → param_of id (funcs_of (filled c m).items) ≡ param_of id (funcs_of m.items)
  param-filled m id = ap (param_of id) (funcs-filled c 0 m.items) ∙ params-filled id 0 (funcs_of m.items)

  spots-filled : (id : Id) (n func : ℕ) (fs : List Func) → spot_from id n (funcs_filled c func fs) ≡ spot_from id n fs
  spots-filled id n func [] = refl
  spots-filled id n func (f ∷ fs) = ap (either (option_map (spot_of n) (param_in id f.params))) (spots-filled id (suc n) (suc func) fs)

  pub spot-filled : (m : Module) (id : Id) → spot_from id 0 (funcs_of (filled c m).items) ≡ spot_from id 0 (funcs_of m.items)
  spot-filled m id = ap (spot_from id 0) (funcs-filled c 0 m.items) ∙ spots-filled id 0 0 (funcs_of m.items)

-- ---- blocks by their place

both-ways : (a b : Bool) → (a ≡ true → b ≡ true) → (b ≡ true → a ≡ true) → a ≡ b
both-ways true b f g = sym (f refl)
both-ways false true f g = g refl
both-ways false false f g = refl

module _ (c : Place → List Inst) where
  abbrev told : Filling
  told q insts = c q

  add-zero : (k : ℕ) → k ≡ k + 0
  add-zero k = omega (arith)

  add-suc : (k l : ℕ) → suc k + l ≡ k + suc l
  add-suc k l = omega (arith)

  zero-add : (k : ℕ) → 0 + k ≡ k
  zero-add k = omega (arith)

  none-less : (j : ℕ) → nat_lt j 0 ≡ false
  none-less j = grind (arith, nat_tests)

  zero-less : (k : ℕ) → nat_lt 0 (suc k) ≡ true
  zero-less k = grind (arith, nat_tests)

  suc-less : (j k : ℕ) → nat_lt (suc j) (suc k) ≡ nat_lt j k
  suc-less j k = both-ways (nat_lt (suc j) (suc k)) (nat_lt j k) (λ e. grind (arith, nat_tests)) (λ e. grind (arith, nat_tests))

  first-block : (func n j : ℕ) (bs : List Block) → first_of (slice_get (blocks_filled told func n bs) j) ≡ cond (nat_lt j (length bs)) (id_of (c (place_of func (n + j)))) None
  first-block func n j [] = sym (ap (λ b. cond b (id_of (c (place_of func (n + j)))) None) (none-less j))
  first-block func n zero (b ∷ bs) = ap (λ k. id_of (c (place_of func k))) (add-zero n) ∙ sym (ap (λ t. cond t (id_of (c (place_of func (n + 0)))) None) (zero-less (length bs)))
  first-block func n (suc j) (b ∷ bs) =
      first-block func (suc n) j bs
      ∙ ap (λ k. cond (nat_lt j (length bs)) (id_of (c (place_of func k))) None) (add-suc n j)
      ∙ sym (ap (λ t. cond t (id_of (c (place_of func (n + suc j)))) None) (suc-less j (length bs)))

  first-func : (func j : ℕ) (fs : List Func) (number : ℕ) → first_in number (slice_get (funcs_filled told func fs) j) ≡ cond (block_in (slice_get fs j) number) (id_of (c (place_of (func + j) number))) None
  first-func func j [] number = refl
  first-func func zero (f ∷ fs) number = first-block func 0 number f.blocks ∙ ap (λ k. cond (nat_lt number (length f.blocks)) (id_of (c (place_of func k))) None) (zero-add number) ∙ ap (λ k. cond (nat_lt number (length f.blocks)) (id_of (c (place_of k number))) None) (add-zero func)
  first-func func (suc j) (f ∷ fs) number = first-func (suc func) j fs number ∙ ap (λ k. cond (block_in (slice_get fs j) number) (id_of (c (place_of k number))) None) (add-suc func j)

  pub first-filled : (m : Module) (q : Place) → first_in q.block (slice_get (funcs_of (filled told m).items) q.func) ≡ cond (has_block m q) (id_of (c q)) None
  first-filled m q = ap (λ fs. first_in q.block (slice_get fs q.func)) (funcs-filled told 0 m.items) ∙ first-func 0 q.func (funcs_of m.items) q.block ∙ ap (λ k. cond (has_block m q) (id_of (c (place_of k q.block))) None) (zero-add q.func)
