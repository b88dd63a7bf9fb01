-- The items of a formed and printable module stand where they may.
use Rattle.std.proofs.Common.{◌≡◌, ℕ, suc, ◌+◌, ◌^◌, ◌<◌, Bool, true, false, List, [], ◌∷◌, ◌++◌, length, map, Some, Ok, refl, sym, subst, arith, slice_get, slice_index_or}
use Rattle.std.proofs.lemmas.List.Elements.{All-head, All-tail, All-nil, All-cons}
use Rattle.std.specs.List.{All}
use Rattle.ir_types.specs.declared.id.Id.{Id}
use Rattle.ir_types.specs.declared.opd.Opd.{Opd}
use Rattle.ir_types.specs.declared.opd.Opd.TheVariants.{Val, Lit, Sym}
use Rattle.ir_types.specs.declared.inst.Inst.{Inst}
use Rattle.ir_types.specs.declared.func.Block.{Block}
use Rattle.ir_types.specs.declared.func.Func.{Func}
use Rattle.ir_types.specs.declared.module.Item.{Item}
use Rattle.ir_types.specs.declared.module.Item.TheVariants.{Kept, Opaque, Func as FuncItem}
use Rattle.ir_types.specs.declared.module.Module.{Module}
use Rattle.ir_types.specs.Formed.{IsFormedItem, IsFormedFunc, IsFormedBlock, is_alloca, item_ids, ids_of_items}
use Rattle.ir_print.specs.Names.{named_of}
use Rattle.ir_read.specs.Items.{barred_in}
use Rattle.ir_read.proofs.Placing.{Known}
use Rattle.rf_text.specs.ModuleForms.{module_forms}
use Rattle.rf_text.specs.Printable.{IsAllowed, IsAllowedBlock, IsAllowedItem, has_function, IsCountedItem}
use Rattle.rf_text.proofs.PlainItems.{IsPlainInst, IsPlainBlock, IsPlainFunc, IsPlainItem}
use Rattle.rf_text.proofs.Placed.Names.{Apart, IsNone}
use Rattle.rf_text.proofs.Placed.Insts.{IsFree, IsFitting}
use Rattle.rf_text.proofs.Placed.Blocks.{IsFittingBlock, AreFitting, IsFittingFunc}

-- an item that stands where it may
abbrev pub IsFittingItem : Known → List (List ℕ) → Item → Type 0
IsFittingItem known gs (Kept text) = Unit {0}
IsFittingItem known gs (Opaque text) = Unit {0}
IsFittingItem known gs (FuncItem f) = (known.other_pointers ≡ false) × IsFittingFunc known.names gs f

abbrev pub AreFittingItems : Known → List (List ℕ) → List Item → Type 0
AreFittingItems known gs [] = Unit {0}
AreFittingItems known gs (i ∷ is) = IsFittingItem known gs i × AreFittingItems known gs is

-- ---- what is formed and printable fits

pub free_of : (m : Module) (o : Opd) → IsAllowed m o → IsFree (barred_in (module_forms m)) m.globals o
free_of m (Val id) h = h
free_of m (Lit literal) h = h
free_of m (Sym g) h = h

abbrev Opds : Module → Inst → Type 0
Opds m i = All (IsAllowed m) i.opds

module _ (m : Module) (names : List (List ℕ)) (free : (o : Opd) → IsAllowed m o → IsFree names m.globals o) where
  insts_fit : (number : ℕ) (is : List Inst) → ((k : ℕ) (i : Inst) → slice_get is k ≡ Some i → is_alloca i.op ≡ true → number ≡ 0) → All IsPlainInst is → All (Opds m) is → All (IsFitting names m.globals number) is
  insts_fit number [] allocas plain allowed = All-nil (IsFitting names m.globals number)
  insts_fit number (i ∷ is) allocas plain allowed =
      let p : IsPlainInst i = All-head IsPlainInst i is plain in
      let opds : All (IsAllowed m) i.opds = All-head (Opds m) i is allowed in
      All-cons (IsFitting names m.globals number) i is
      (record { named = p.named; other = p.other; free = λ k d within. free (slice_index_or i.opds k d) (opds k d within); allocas = allocas 0 i refl })
      (insts_fit number is (λ k j e. allocas (suc k) j e) (All-tail IsPlainInst i is plain) (All-tail (Opds m) i is allowed))

  block_fits : (f : Func) (number : ℕ) (b : Block) → IsFormedBlock m f number b → IsPlainBlock b → IsAllowedBlock m b → IsFittingBlock names m.globals number b
  block_fits f number b formed plain allowed = record {
    named = plain.named;
    ends = formed.ends;
    phis = formed.phis;
    insts = insts_fit number b.insts (λ k i e. (formed.insts k i e).allocas) plain.insts allowed;
  }

  blocks_fit : (f : Func) (number : ℕ) (bs : List Block) → ((k : ℕ) (b : Block) → slice_get bs k ≡ Some b → IsFormedBlock m f (number + k) b) → All IsPlainBlock bs → All (IsAllowedBlock m) bs → AreFitting names m.globals number bs
  blocks_fit f number [] formed plain allowed = tt
  blocks_fit f number (b ∷ bs) formed plain allowed =
      let here : number + 0 ≡ number = omega arith in (
        block_fits f number b (subst (λ (k : ℕ). IsFormedBlock m f k b) here (formed 0 b refl)) (All-head IsPlainBlock b bs plain) (All-head (IsAllowedBlock m) b bs allowed),
        blocks_fit f (number + 1) bs
            (λ k c e. let next : number + suc k ≡ number + 1 + k = omega arith in subst (λ (j : ℕ). IsFormedBlock m f j c) next (formed (suc k) c e))
            (All-tail IsPlainBlock b bs plain) (All-tail (IsAllowedBlock m) b bs allowed),
      )

  func_fits : (f : Func) → IsFormedFunc m f → IsPlainFunc f → All (IsAllowedBlock m) f.blocks → length (named_of f) < 2 ^ 64 → Apart (item_ids (FuncItem f)) → IsFittingFunc names m.globals f
  func_fits f formed plain allowed small apart = record {
    params = plain.params;
    some = formed.some;
    blocks = blocks_fit f 0 f.blocks (λ k b e. let same : k ≡ 0 + k = omega arith in subst (λ (j : ℕ). IsFormedBlock m f j b) same (formed.blocks k b e)) plain.blocks allowed;
    apart = apart;
    small = small;
  }

-- ids of one item are apart where those of all are
none_front : (id : Id) (xs ys : List Id) → IsNone id (xs ++ ys) → IsNone id xs
none_front id [] ys h = tt
none_front id (x ∷ xs) ys h = (h.0, none_front id xs ys h.1)

pub apart_front : (xs ys : List Id) → Apart (xs ++ ys) → Apart xs
apart_front [] ys h = tt
apart_front (x ∷ xs) ys h = (none_front x xs ys h.0, apart_front xs ys h.1)

pub apart_after : (xs ys : List Id) → Apart (xs ++ ys) → Apart ys
apart_after [] ys h = h
apart_after (x ∷ xs) ys h = apart_after xs ys h.1

module _ (m : Module) (known : Known) (free : (o : Opd) → IsAllowed m o → IsFree known.names m.globals o) where
  item_fits : (i : Item) (is : List Item) → IsFormedItem m i → IsPlainItem i → IsAllowedItem m i → IsCountedItem i → Apart (item_ids i) → (has_function (i ∷ is) ≡ true → known.other_pointers ≡ false) → IsFittingItem known m.globals i
  item_fits (Kept text) is formed plain allowed counted apart pointers = tt
  item_fits (Opaque text) is formed plain allowed counted apart pointers = tt
  item_fits (FuncItem f) is formed plain allowed counted apart pointers = (pointers refl, func_fits m known.names free f formed plain allowed counted apart)

  function_after : (i : Item) (is : List Item) → has_function is ≡ true → has_function (i ∷ is) ≡ true
  function_after (Kept text) is h = h
  function_after (Opaque text) is h = h
  function_after (FuncItem f) is h = refl

  pub items_fit : (is : List Item) → All (IsFormedItem m) is → All IsPlainItem is → All (IsAllowedItem m) is → All IsCountedItem is → Apart (ids_of_items is) → (has_function is ≡ true → known.other_pointers ≡ false) → AreFittingItems known m.globals is
  items_fit [] formed plain allowed counted apart pointers = tt
  items_fit (i ∷ is) formed plain allowed counted apart pointers = (
    item_fits i is (All-head (IsFormedItem m) i is formed) (All-head IsPlainItem i is plain) (All-head (IsAllowedItem m) i is allowed) (All-head IsCountedItem i is counted) (apart_front (item_ids i) (ids_of_items is) apart) pointers,
    items_fit is (All-tail (IsFormedItem m) i is formed) (All-tail IsPlainItem i is plain) (All-tail (IsAllowedItem m) i is allowed) (All-tail IsCountedItem i is counted) (apart_after (item_ids i) (ids_of_items is) apart)
        (λ h. pointers (function_after i is h)),
  )
