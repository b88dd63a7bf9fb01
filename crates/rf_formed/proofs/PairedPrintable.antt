-- A printable module with its first pair of stores joined is printable, and its text is read again.
use Rattle.std.proofs.Common.{◌≡◌, refl, sym, ap, ◌∙◌, subst, ℕ, Bool, true, false, not, ◌&&◌, Option, None, Some, List, [], ◌∷◌, ◌++◌, ◌⊎◌, inl, inr, cond, map}
use Rattle.std.specs.Prelude.{is_none, ◌<◌, ◌^◌, length}
use Rattle.std.specs.List.{All, AllPairs, AllZip, list_all}
use Rattle.std.proofs.lemmas.List.Elements.{All-nil, All-cons, All-head, All-tail, All-weaker}
use Rattle.ir_types.specs.declared.ty.Ty.{Ty}
use Rattle.ir_types.specs.declared.ty.Ty.TheVariants.{Void, Int, Ptr, Row}
use Rattle.ir_types.specs.declared.opd.Opd.{Opd}
use Rattle.ir_types.specs.declared.opd.Opd.TheVariants.{Val, Lit, Sym}
use Rattle.ir_types.specs.declared.inst.Inst.{Inst}
use Rattle.ir_types.specs.declared.func.Param.{Param}
use Rattle.ir_types.specs.declared.func.Block.{Block}
use Rattle.ir_types.specs.declared.func.Func.{Func}
use Rattle.ir_types.specs.declared.module.Item.{Item}
use Rattle.ir_types.specs.declared.module.Item.TheVariants.{Kept, Opaque, Func as FuncItem}
use Rattle.ir_types.specs.declared.module.Module.{Module}
use Rattle.ir_types.specs.Formed.{IsFormed}
use Rattle.ir_types.proofs.Formed.{Every, every_of_all}
use Rattle.ir_draft.specs.declared.line.Line.{Line}
use Rattle.ir_draft.specs.declared.line.Line.TheVariants as line
use Rattle.ir_print.specs.Names.{Named, Label, named_of, names_of, params_named, is_void, is_store, result_named, insts_named}
use Rattle.ir_read.specs.Outlook.{outlook_of, has}
use Rattle.ir_read.proofs.Placing.{Known}
use Rattle.vx_serial.specs.declared.pairing.scan.LedStore.{LedStore}
use Rattle.vx_serial.specs.Pair.{is_straight, is_void as is_void_ty, is_empty, is_first_param, is_one_block, is_first_func, leads_at_start, paired, or_same, both_stored, pair_in_blocks, pair_in_func, pair_in_items, pair_of}
use Rattle.rf_pack.proofs.Statements.{both_true, true_of}
use Rattle.rf_pack.proofs.PairShape.{IsLitStore, After, Here, Later, Joined, First, Next, joined_of}
use Rattle.rf_pack.proofs.PairKept.{IsBoth, joined_every}
use Rattle.rf_pack.proofs.PairFormed.{pair_formed}
use Rattle.rf_text.specs.Headed.{shown_head, first_name}
use Rattle.rf_text.specs.Shown.{is_call}
use Rattle.rf_text.specs.Written.{shown_global}
use Rattle.rf_text.specs.ModuleForms.{body_forms, module_forms}
use Rattle.rf_text.specs.Printable.{written_names, HasNoCall, IsPrintableFunc, IsPrintableItem, IsAllowed, IsAllowedBlock, IsAllowedItem, IsKeptOpaque, IsPrintable, IsCountedItem, IsCounted}
use Rattle.rf_text.specs.Again.{IsReadAgain}
use Rattle.rf_text.proofs.Publics.{publics, SaySame, seen_same}
use Rattle.rf_text.proofs.Showable.Forms.{body_silent}
use Rattle.rf_text.proofs.Renumbered.Forms.{any_text_again}

-- ---- stores name nothing

store_silent : (i : Inst) (a : LedStore) → IsLitStore i a → (rest : List Named) → result_named (is_void i.ty) (is_store i.op) i rest ≡ rest
store_silent i a l rest = ap (λ o. result_named (is_void i.ty) (is_store o) i rest) l.stores ∙ by_void (is_void i.ty) where
  by_void : (b : Bool) → result_named b true i rest ≡ rest
  by_void true = refl
  by_void false = refl

after_named : {a : LedStore} {is new : List Inst} → After a is new → (rest : List Named) → insts_named new rest ≡ insts_named is rest
after_named {a} (Here j b both js l s) rest = by_both s ∙ sym (store_silent j b l (insts_named js rest)) where
  by_both : IsBoth a b j both → insts_named (both ∷ js) rest ≡ insts_named js rest
  by_both (inl e) = ap (λ (i : Inst). insts_named (i ∷ js) rest) e
  by_both (inr e) = ap (λ (i : Inst). insts_named (i ∷ js) rest) e
after_named (Later j js new h) rest = ap (result_named (is_void j.ty) (is_store j.op) j) (after_named h rest)

joined_named : {is new : List Inst} → Joined is new → (rest : List Named) → insts_named new rest ≡ insts_named is rest
joined_named (First i a is new l h) rest = after_named h rest ∙ sym (store_silent i a l (insts_named is rest))
joined_named (Next i is new h) rest = ap (result_named (is_void i.ty) (is_store i.op) i) (joined_named h rest)

all_of_every : {A : Type 0} (P : A → Type 0) (xs : List A) → Every P xs → All P xs
all_of_every P [] h = All-nil P
all_of_every P (x ∷ xs) h = All-cons P x xs h.0 (all_of_every P xs h.1)

abbrev Uncalled : Inst → Type 0
Uncalled i = is_call i.op ≡ false

-- ---- a module of one function of one block

module _ (before name : List ℕ) (ret : Ty) (params : List Param) (after : List ℕ) (label : Option (List ℕ)) (globals : List (List ℕ)) (big : Option ℕ) where
  abbrev BlockOf : List Inst → Block
  BlockOf is = record { name = label; insts = is }

  abbrev FuncOf : List Inst → Func
  FuncOf is = record { before = before; ret = ret; name = name; params = params; after = after; blocks = BlockOf is ∷ [] }

  abbrev ModuleOf : List Inst → Module
  ModuleOf is = record { items = FuncItem (FuncOf is) ∷ []; globals = globals; big_endian_line = big }

  -- its lines say its name alone
  header_of : List Inst → Line
  header_of is = line.Define (first_name (FuncOf is)) (Some (shown_head (names_of (FuncOf is)) (FuncOf is)))

  header_said : (is new : List Inst) → AllZip SaySame (publics (module_forms (ModuleOf is))) (header_of new ∷ [])
  unfolding header_of
  header_said is new = subst (λ xs. AllZip SaySame (header_of is ∷ xs) (header_of new ∷ [])) (sym (body_silent globals (FuncOf is) [])) ((refl, refl), tt)

  same_outlook : (is new : List Inst) → outlook_of (module_forms (ModuleOf new)) ≡ outlook_of (module_forms (ModuleOf is))
  same_outlook is new =
      seen_same (module_forms (ModuleOf new)) (header_of new ∷ []) (header_said new new)
      ∙ sym (seen_same (module_forms (ModuleOf is)) (header_of new ∷ []) (header_said is new))

  module _ (is new : List Inst) (joined : Joined is new) where
    named_same : named_of (FuncOf new) ≡ named_of (FuncOf is)
    named_same = ap (λ ns. params_named params (Label label ∷ ns)) (joined_named joined [])

    joined_counted : IsCounted (ModuleOf is) → IsCounted (ModuleOf new)
    joined_counted c =
        All-cons IsCountedItem (FuncItem (FuncOf new)) [] (subst (λ ns. length ns < 2 ^ 64) (sym named_same) (All-head IsCountedItem (FuncItem (FuncOf is)) [] c)) (All-nil IsCountedItem)

    module _ (p : IsPrintable (ModuleOf is)) where
      func : IsPrintableFunc (FuncOf is)
      func = All-head IsPrintableItem (FuncItem (FuncOf is)) [] p.items

      uncalled : All Uncalled new
      uncalled = all_of_every Uncalled new (joined_every Uncalled Uncalled (λ i h. h) (λ i a j b both pi l pj k s. make a b j both s) joined (every_of_all Uncalled is (All-head HasNoCall (BlockOf is) [] func.calls))) where
        make : (a b : LedStore) (j both : Inst) → IsBoth a b j both → Uncalled both
        make a b j both (inl e) = ap (λ (i : Inst). is_call i.op) e
        make a b j both (inr e) = ap (λ (i : Inst). is_call i.op) e

      abbrev Old : Inst → Type 0
      Old i = All (IsAllowed (ModuleOf is)) i.opds

      abbrev New : Inst → Type 0
      New i = All (IsAllowed (ModuleOf new)) i.opds

      opd_allowed : (o : Opd) → IsAllowed (ModuleOf is) o → IsAllowed (ModuleOf new) o
      opd_allowed (Val x) h = tt
      opd_allowed (Lit l) h = tt
      opd_allowed (Sym g) h = ap (λ (o : Known). has o.names (shown_global globals g)) (same_outlook is new) ∙ h

      both_allowed : (low high : LedStore) (j : Inst) → New (both_stored j low high)
      both_allowed low high j =
          All-cons (IsAllowed (ModuleOf new)) (Lit (record { ty = Row 2 32; lanes = low.lane ∷ high.lane ∷ [] })) (Val low.pointer ∷ []) tt
          (All-cons (IsAllowed (ModuleOf new)) (Val low.pointer) [] tt (All-nil (IsAllowed (ModuleOf new))))

      allowed : All New new
      allowed = all_of_every New new (joined_every Old New (λ i h. All-weaker (IsAllowed (ModuleOf is)) (IsAllowed (ModuleOf new)) opd_allowed i.opds h) (λ i a j b both pi l pj k s. make a b j both s) joined
          (every_of_all Old is (All-head (IsAllowedBlock (ModuleOf is)) (BlockOf is) [] (All-head (IsAllowedItem (ModuleOf is)) (FuncItem (FuncOf is)) [] p.operands)))) where
            make : (a b : LedStore) (j both : Inst) → IsBoth a b j both → New both
            make a b j both (inl e) = subst New (sym e) (both_allowed a b j)
            make a b j both (inr e) = subst New (sym e) (both_allowed b a j)

      joined_printable : IsPrintable (ModuleOf new)
      joined_printable = record {
        items = All-cons IsPrintableItem (FuncItem (FuncOf new)) []
            (record {
              calls = All-cons HasNoCall (BlockOf new) [] uncalled (All-nil HasNoCall);
              once = subst (AllPairs (λ (a b : List ℕ). a ≡ b → ⊥)) (sym (ap written_names named_same)) func.once;
            })
            (All-nil IsPrintableItem);
        globals = p.globals;
        named = p.named;
        once = p.once;
        operands = All-cons (IsAllowedItem (ModuleOf new)) (FuncItem (FuncOf new)) [] (All-cons (IsAllowedBlock (ModuleOf new)) (BlockOf new) [] allowed (All-nil (IsAllowedBlock (ModuleOf new)))) (All-nil (IsAllowedItem (ModuleOf new)));
        opaques = All-cons (IsKeptOpaque (ModuleOf new)) (FuncItem (FuncOf new)) [] tt (All-nil (IsKeptOpaque (ModuleOf new)));
        pointers = λ e. ap (λ (o : Known). o.other_pointers) (same_outlook is new) ∙ p.pointers refl;
        little_endian = p.little_endian;
      }

-- ---- every module

-- what holds of a module of one function of one block, and of the same with its first pair joined, holds of what `pair` makes
module _ (P : Module → Type 0) (keeps : (before name : List ℕ) (ret : Ty) (params : List Param) (after : List ℕ) (label : Option (List ℕ)) (globals : List (List ℕ)) (big : Option ℕ) (is new : List Inst) → Joined is new →
    P (record { items = FuncItem (record { before = before; ret = ret; name = name; params = params; after = after; blocks = record { name = label; insts = is } ∷ [] }) ∷ []; globals = globals; big_endian_line = big }) →
    P (record { items = FuncItem (record { before = before; ret = ret; name = name; params = params; after = after; blocks = record { name = label; insts = new } ∷ [] }) ∷ []; globals = globals; big_endian_line = big })) where
  func_keeps : (f : Func) (globals : List (List ℕ)) (big : Option ℕ) (bs : List Block) → is_one_block bs ≡ true →
      P (record { items = FuncItem (record { before = f.before; ret = f.ret; name = f.name; params = f.params; after = f.after; blocks = bs }) ∷ []; globals = globals; big_endian_line = big }) →
      P (record { items = FuncItem (record { before = f.before; ret = f.ret; name = f.name; params = f.params; after = f.after; blocks = pair_in_blocks f.params bs }) ∷ []; globals = globals; big_endian_line = big })
  func_keeps f globals big [] h z = absurd (true_of h)
  func_keeps f globals big (b ∷ c ∷ bs) h z = absurd (true_of h)
  func_keeps f globals big (b ∷ []) h z = by_pair (paired (leads_at_start f.params) b.insts) refl where
    straight : is_straight b.insts ≡ true
    straight = (both_true (is_none b.name) (is_straight b.insts) h).1

    by_pair : (o : Option (List Inst)) → paired (leads_at_start f.params) b.insts ≡ o →
        P (record { items = FuncItem (record { before = f.before; ret = f.ret; name = f.name; params = f.params; after = f.after; blocks = record { name = b.name; insts = or_same b.insts o } ∷ [] }) ∷ []; globals = globals; big_endian_line = big })
    by_pair None e = z
    by_pair (Some new) e = keeps f.before f.name f.ret f.params f.after b.name globals big b.insts new (joined_of b.insts (leads_at_start f.params) new straight e) z

  items_keep : (items : List Item) (globals : List (List ℕ)) (big : Option ℕ) → P (record { items = items; globals = globals; big_endian_line = big }) → P (record { items = pair_in_items items; globals = globals; big_endian_line = big })
  items_keep [] globals big z = z
  items_keep (Kept text ∷ items) globals big z = z
  items_keep (Opaque text ∷ items) globals big z = z
  items_keep (FuncItem f ∷ i ∷ items) globals big z = z
  items_keep (FuncItem f ∷ []) globals big z = by_test (is_first_func f) refl where
    one_block : is_first_func f ≡ true → is_one_block f.blocks ≡ true
    one_block h = (both_true (is_empty f.before && is_void_ty f.ret && list_all is_first_param f.params && is_empty f.after) (is_one_block f.blocks) h).1

    by_test : (b : Bool) → is_first_func f ≡ b → P (record { items = FuncItem (cond b (pair_in_func f) f) ∷ []; globals = globals; big_endian_line = big })
    by_test true h = func_keeps f globals big f.blocks (one_block h) z
    by_test false h = z

pub pair_printable : (m : Module) → IsPrintable m → IsPrintable (pair_of m)
pair_printable m p = items_keep IsPrintable (λ before name ret params after label globals big is new joined q. joined_printable before name ret params after label globals big is new joined q) m.items m.globals m.big_endian_line p

pub pair_counted : (m : Module) → IsCounted m → IsCounted (pair_of m)
pair_counted m c = items_keep IsCounted (λ before name ret params after label globals big is new joined q. joined_counted before name ret params after label globals big is new joined q) m.items m.globals m.big_endian_line c

pub pair_again : (m : Module) → IsFormed m → IsPrintable m → IsCounted m → IsReadAgain (pair_of m)
pair_again m z p c = any_text_again (pair_of m) (pair_formed m z) (pair_printable m p) (pair_counted m c)
