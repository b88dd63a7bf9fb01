-- What was lifted is the module.
use Rattle.std.proofs.Common.{◌≡◌, refl, sym, ap, ◌∙◌, ℕ, zero, suc, ◌+◌, false, Option, None, Some, is_some, List, [], ◌∷◌, length, cond, slice_get, option_map, arith}
use Rattle.ir_types.specs.declared.id.Id.{Id}
use Rattle.ir_types.specs.declared.id.Place.{Place}
use Rattle.ir_types.specs.declared.inst.Inst.{Inst}
use Rattle.ir_types.specs.declared.func.Block.{Block}
use Rattle.ir_types.specs.declared.func.Func.{Func}
use Rattle.ir_types.specs.declared.module.Item.{Item}
use Rattle.ir_types.specs.declared.module.Item.TheVariants.{Kept, Opaque, Func as FuncItem}
use Rattle.ir_types.specs.declared.module.Module.{Module}
use Rattle.ir_types.specs.IdTable.{found as item_of}
use Rattle.vx_view.specs.Answers.{funcs_of, either}
use Rattle.vx_view.specs.Views.{same_place}
use Rattle.sb_lines.specs.declared.arena.Arena.{Arena}
use Rattle.sb_lines.specs.Filling.{Filling, place_of, blocks_filled, func_filled, items_filled, filled, block_in, has_block}
use Rattle.sb_lines.specs.Params.{of_func, param_there, spots_at}
use Rattle.sb_lines.specs.Arena.{mark, contents, seen}
use Rattle.sb_lines.specs.Whole.{IsRings, IsWhole}
use Rattle.sb_lines.specs.Lifting.{shown, blocks_at, items_at}
use Rattle.sb_lines.proofs.Rings.{hit, miss, to-false}
use Rattle.sb_lines.proofs.Standing.{place-is, place-itself, none-some, some-is}
use Rattle.sb_lines.proofs.Filled.{funcs_filled, funcs-filled, filled-again, has-filled}
use Rattle.sb_lines.proofs.Typing.{get-filled, none-past}
use Rattle.sb_lines.proofs.Kept.{spots-there}

-- ---- what items have at a place

abbrev in_func : Option Func → ℕ → Option (List Inst)
in_func None l = None
in_func (Some f) l = option_map (λ (b : Block). b.insts) (slice_get f.blocks l)

place-func : {a b c d : ℕ} → place_of a b ≡ place_of c d → a ≡ c
place-func e = ap (λ (q : Place). q.func) e

place-block : {a b c d : ℕ} → place_of a b ≡ place_of c d → b ≡ d
place-block e = ap (λ (q : Place). q.block) e

apart : (p q : Place) → (p ≡ q → ⊥) → same_place p q ≡ false
apart p q n = to-false (same_place p q) (λ h. n (place-is p q h))

-- blocks of another function, or after one
other-func : (func n : ℕ) (bs : List Block) (q : Place) → (func ≡ q.func → ⊥) → blocks_at func n bs q ≡ None
other-func func n [] q ne = refl
other-func func n (b ∷ bs) q ne =
    ap (λ o. either o (cond (same_place (place_of func n) q) (Some b.insts) None)) (other-func func (suc n) bs q ne)
    ∙ miss (Some b.insts) (apart (place_of func n) q (λ e. ne (ap (λ (p : Place). p.func) e)))

later-blocks : (func l j : ℕ) (bs : List Block) → blocks_at func (l + suc j) bs (place_of func l) ≡ None
later-blocks func l j [] = refl
later-blocks func l j (b ∷ bs) =
    ap (λ o. either o (cond (same_place (place_of func (l + suc j)) (place_of func l)) (Some b.insts) None)) (ap (λ k. blocks_at func k bs (place_of func l)) (next l j) ∙ later-blocks func l (suc j) bs)
    ∙ miss (Some b.insts) (apart (place_of func (l + suc j)) (place_of func l) (λ e. more l j (place-block e)))
  where
    next : (a b : ℕ) → suc (a + suc b) ≡ a + suc (suc b)
    next a b = omega (arith)

    more : (a b : ℕ) → a + suc b ≡ a → ⊥
    more a b e = omega (arith, e)

blocks-there : (func n l : ℕ) (bs : List Block) → blocks_at func n bs (place_of func (n + l)) ≡ option_map (λ (b : Block). b.insts) (slice_get bs l)
blocks-there func n l [] = refl
blocks-there func n zero (b ∷ bs) =
    ap (λ q. either (blocks_at func (suc n) bs q) (cond (same_place (place_of func n) q) (Some b.insts) None)) (ap (place_of func) (add-zero n))
    ∙ ap (λ o. either o (cond (same_place (place_of func n) (place_of func n)) (Some b.insts) None)) (ap (λ k. blocks_at func k bs (place_of func n)) (later n) ∙ later-blocks func n 0 bs)
    ∙ hit None (place-itself (place_of func n))
  where
    add-zero : (a : ℕ) → a + 0 ≡ a
    add-zero a = omega (arith)

    later : (a : ℕ) → suc a ≡ a + suc 0
    later a = omega (arith)
blocks-there func n (suc l) (b ∷ bs) =
    ap (either (blocks_at func (suc n) bs (place_of func (n + suc l)))) (miss (Some b.insts) (apart (place_of func n) (place_of func (n + suc l)) (λ e. more n l (place-block e))))
    ∙ right (blocks_at func (suc n) bs (place_of func (n + suc l)))
    ∙ ap (λ k. blocks_at func (suc n) bs (place_of func k)) (next n l)
    ∙ blocks-there func (suc n) l bs
  where
    more : (a b : ℕ) → a ≡ a + suc b → ⊥
    more a b e = omega (arith, e)

    next : (a b : ℕ) → a + suc b ≡ suc a + b
    next a b = omega (arith)

    right : (o : Option (List Inst)) → either o None ≡ o
    right None = refl
    right (Some x) = refl

later-items : (func l j : ℕ) (items : List Item) → items_at (func + suc j) items (place_of func l) ≡ None
later-items func l j [] = refl
later-items func l j (Kept text ∷ items) = ap (λ o. either o None) (later-items func l j items)
later-items func l j (Opaque text ∷ items) = ap (λ o. either o None) (later-items func l j items)
later-items func l j (FuncItem f ∷ items) =
    ap (λ o. either o (blocks_at (func + suc j) 0 f.blocks (place_of func l))) (ap (λ k. items_at k items (place_of func l)) (next func j) ∙ later-items func l (suc j) items)
    ∙ other-func (func + suc j) 0 f.blocks (place_of func l) (λ e. more func j e)
  where
    next : (a b : ℕ) → suc (a + suc b) ≡ a + suc (suc b)
    next a b = omega (arith)

    more : (a b : ℕ) → a + suc b ≡ a → ⊥
    more a b e = omega (arith, e)

pub either-none : (o : Option (List Inst)) → either o None ≡ o
either-none None = refl
either-none (Some x) = refl

pub items-there : (n j l : ℕ) (items : List Item) → items_at n items (place_of (n + j) l) ≡ in_func (slice_get (funcs_of items) j) l
items-there n j l [] = refl
items-there n j l (Kept text ∷ items) = either-none (items_at n items (place_of (n + j) l)) ∙ items-there n j l items
items-there n j l (Opaque text ∷ items) = either-none (items_at n items (place_of (n + j) l)) ∙ items-there n j l items
items-there n zero l (FuncItem f ∷ items) =
    ap (λ k. either (items_at (suc n) items (place_of k l)) (blocks_at n 0 f.blocks (place_of k l))) (add-zero n)
    ∙ ap (λ o. either o (blocks_at n 0 f.blocks (place_of n l))) (ap (λ k. items_at k items (place_of n l)) (later n) ∙ later-items n l 0 items)
    ∙ ap (λ k. blocks_at n 0 f.blocks (place_of n k)) (zero-add l)
    ∙ blocks-there n 0 l f.blocks
  where
    add-zero : (a : ℕ) → a + 0 ≡ a
    add-zero a = omega (arith)

    zero-add : (a : ℕ) → a ≡ 0 + a
    zero-add a = omega (arith)

    later : (a : ℕ) → suc a ≡ a + suc 0
    later a = omega (arith)
items-there n (suc j) l (FuncItem f ∷ items) =
    ap (either (items_at (suc n) items (place_of (n + suc j) l))) (other-func n 0 f.blocks (place_of (n + suc j) l) (λ e. more n j e))
    ∙ either-none (items_at (suc n) items (place_of (n + suc j) l))
    ∙ ap (λ k. items_at (suc n) items (place_of k l)) (next n j)
    ∙ items-there (suc n) j l items
  where
    more : (a b : ℕ) → a ≡ a + suc b → ⊥
    more a b e = omega (arith, e)

    next : (a b : ℕ) → a + suc b ≡ suc a + b
    next a b = omega (arith)

-- ---- a module filled with what it has

module _ (c : Place → List Inst) where
  abbrev told : Filling
  told q insts = c q

  blocks-full : (func n : ℕ) (bs : List Block) → ((l : ℕ) (b : Block) → slice_get bs l ≡ Some b → c (place_of func (n + l)) ≡ b.insts) → blocks_filled told func n bs ≡ bs
  blocks-full func n [] is = refl
  blocks-full func n (b ∷ bs) is =
      ap (λ is. record { name = b.name; insts = is } ∷ blocks_filled told func (suc n) bs) (ap (λ k. c (place_of func k)) (add-zero n) ∙ is 0 b refl)
      ∙ ap (λ r. b ∷ r) (blocks-full func (suc n) bs (λ l d e. ap (λ k. c (place_of func k)) (next n l) ∙ is (suc l) d e))
    where
      add-zero : (a : ℕ) → a ≡ a + 0
      add-zero a = omega (arith)

      next : (a b : ℕ) → suc a + b ≡ a + suc b
      next a b = omega (arith)

  abbrev func_with : Func → List Block → Func
  func_with f bs = record { before = f.before; ret = f.ret; name = f.name; params = f.params; after = f.after; blocks = bs }

  abbrev Full : ℕ → List Item → Type 0
  Full n items = (j l : ℕ) (f : Func) (b : Block) → slice_get (funcs_of items) j ≡ Some f → slice_get f.blocks l ≡ Some b → c (place_of (n + j) l) ≡ b.insts

  items-full : (n : ℕ) (items : List Item) → Full n items → items_filled told n items ≡ items
  items-full n [] is = refl
  items-full n (Kept text ∷ items) is = ap (λ r. Kept text ∷ r) (items-full n items is)
  items-full n (Opaque text ∷ items) is = ap (λ r. Opaque text ∷ r) (items-full n items is)
  items-full n (FuncItem f ∷ items) is =
      ap (λ bs. FuncItem (func_with f bs) ∷ items_filled told (suc n) items) (blocks-full n 0 f.blocks (λ l b e. ap (λ k. c (place_of n k)) (zero-add l) ∙ ap (λ k. c (place_of k l)) (add-zero n) ∙ is 0 l f b refl e))
      ∙ ap (λ r. FuncItem f ∷ r) (items-full (suc n) items (λ j l g b e h. ap (λ k. c (place_of k l)) (next n j) ∙ is (suc j) l g b e h))
    where
      add-zero : (a : ℕ) → a ≡ a + 0
      add-zero a = omega (arith)

      zero-add : (a : ℕ) → 0 + a ≡ a
      zero-add a = omega (arith)

      next : (a b : ℕ) → suc a + b ≡ a + suc b
      next a b = omega (arith)

-- ---- all together

zero-plus : (a : ℕ) → a ≡ 0 + a
zero-plus a = omega (arith)

at-place : (items : List Item) (q : Place) → items_at 0 items q ≡ in_func (slice_get (funcs_of items) q.func) q.block
at-place items q = ap (λ k. items_at 0 items (place_of k q.block)) (zero-plus q.func) ∙ items-there 0 q.func q.block items

abbrev bare : Filling
bare q insts = []

long-funcs : (c : Filling) (n : ℕ) (fs : List Func) → length (funcs_filled c n fs) ≡ length fs
long-funcs c n [] = refl
long-funcs c n (f ∷ fs) = ap suc (long-funcs c (suc n) fs)

same-params : (c : Filling) (id : Id) (func n : ℕ) (o : Option Func) → param_there id func (option_map (func_filled c n) o) ≡ param_there id func o
same-params c id func n None = refl
same-params c id func n (Some f) = refl

module _ (a : Arena) (read : Module) (R : IsRings a) (frame : a.frame ≡ filled bare read) (shown_is : (q : Place) → shown a q ≡ items_at 0 read.items q) where
  mark-or-not : (o : Option ℕ) (l : List Inst) → is_some o ≡ is_some (option_map (λ (m : ℕ). l) o)
  mark-or-not None l = refl
  mark-or-not (Some m) l = refl

  there-or-not : (o : Option Func) (l : ℕ) → is_some (in_func o l) ≡ block_in o l
  there-or-not None l = refl
  there-or-not (Some f) l = by (slice_get f.blocks l) ∙ sym (none-past Block f.blocks l)
    where
      by : (o : Option Block) → is_some (option_map (λ (b : Block). b.insts) o) ≡ is_some o
      by None = refl
      by (Some b) = refl

  pub lifted-whole : a.funcs ≡ length (funcs_of read.items) → ((id : Id) (k : ℕ) → of_func k (item_of a.params id) ≡ spots_at id k 0 read.items) → IsWhole a
  lifted-whole funcs params = record {
    rings = R;
    marked = λ q. mark-or-not (mark a q) (contents a q) ∙ ap is_some (shown_is q ∙ at-place read.items q) ∙ there-or-not (slice_get (funcs_of read.items) q.func) q.block
        ∙ sym (has-filled bare read q) ∙ ap (λ m. has_block m q) (sym frame);
    params = λ id k. params id k ∙ ap (λ j. spots_at id j 0 read.items) (zero-plus k) ∙ spots-there id 0 k read.items
        ∙ ap (λ j. param_there id j (slice_get (funcs_of read.items) k)) (sym (zero-plus k))
        ∙ sym (ap (λ m. param_there id k (slice_get (funcs_of m.items) k)) frame
        ∙ ap (λ fs. param_there id k (slice_get fs k)) (funcs-filled bare 0 read.items)
        ∙ ap (param_there id k) (get-filled bare 0 k (funcs_of read.items))
        ∙ same-params bare id k (0 + k) (slice_get (funcs_of read.items) k));
    funcs = funcs ∙ sym (ap (λ m. length (funcs_of m.items)) frame ∙ ap length (funcs-filled bare 0 read.items) ∙ long-funcs bare 0 (funcs_of read.items));
  }

  shown-contents : (q : Place) (l : List Inst) → shown a q ≡ Some l → contents a q ≡ l
  shown-contents q l e = by (mark a q) e
    where
      by : (o : Option ℕ) → option_map (λ (m : ℕ). contents a q) o ≡ Some l → contents a q ≡ l
      by None f = absurd (none-some f)
      by (Some m) f = some-is f

  full : Full (contents a) 0 read.items
  full j l f b e h = shown-contents (place_of (0 + j) l) b.insts (shown_is (place_of (0 + j) l) ∙ items-there 0 j l read.items ∙ ap (λ o. in_func o l) e ∙ ap (option_map (λ (d : Block). d.insts)) h)

  pub lifted-seen : seen a ≡ read
  lifted-seen =
      ap (filled (λ q insts. contents a q)) frame
      ∙ filled-again (λ q insts. contents a q) bare read
      ∙ ap (λ items. record { items = items; globals = read.globals; big_endian_line = read.big_endian_line }) (items-full (contents a) 0 read.items full)
