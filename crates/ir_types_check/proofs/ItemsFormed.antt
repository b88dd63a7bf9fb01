-- The items of a draft whose functions have headers of the profile and lines that stand where they may: resolved and well typed, they are
-- formed, and their ids are one number after the other.
use Rattle.std.proofs.Common.{◌≡◌, ℕ, zero, suc, ◌+◌, ◌<◌, inl, inr, Bool, true, false, List, [], ◌∷◌, ◌++◌, length, get_or, Option, Some, None, Ok, refl, sym, ◌∙◌, ap, subst, arith, append_assoc, length-append}
use Rattle.std.proofs.lemmas.Bool.Decides.{nat_tests}
use Rattle.std.proofs.lemmas.List.{append-nil}
use Rattle.std.specs.Prelude.{nat_lt}
use Rattle.std.specs.List.{All, AllPairs}
use Rattle.std.proofs.lemmas.List.Elements.{All-nil, All-head, All-tail, All-push}
use Rattle.ir_types.specs.declared.id.Id.{Id}
use Rattle.ir_types.specs.declared.module.Item.{Item}
use Rattle.ir_types.specs.declared.module.Item.TheVariants.{Kept, Opaque, Func as FuncItem}
use Rattle.ir_types.specs.declared.module.Module.{Module}
use Rattle.ir_types.specs.Formed.{IsFormedItem, item_ids, ids_of_items, ids_of}
use Rattle.ir_draft.specs.declared.head.Head.{Head}
use Rattle.ir_draft.specs.declared.draft.Numbered.{Numbered}
use Rattle.ir_draft.specs.declared.draft.Draft.{Draft}
use Rattle.ir_draft.specs.declared.draft.DraftItem.{DraftItem}
use Rattle.ir_draft.specs.declared.draft.DraftItem.TheVariants as item
use Rattle.ir_line.proofs.Bodies.{IsBody}
use Rattle.ir_types_check.specs.declared.locals.Locals.{Locals}
use Rattle.ir_types_check.specs.declared.tops.Top.{Top}
use Rattle.ir_types_check.specs.declared.tops.Top.TheVariants.{Global, Function, Other}
use Rattle.ir_types_check.specs.declared.tops.Tops.{Tops}
use Rattle.ir_types_check.specs.declared.building.Done.{Done}
use Rattle.ir_types_check.specs.declared.resolved.Resolved.{Resolved}
use Rattle.ir_types_check.specs.Scope.{Scope, meaning, define, of_module}
use Rattle.ir_types_check.specs.Locals.{locals_of}
use Rattle.ir_types_check.specs.Tops.{with_top, with_global, with_symbol, with_opaque, signature_of, with_function, with_item, with_items, tops_of}
use Rattle.ir_types_check.specs.Blocks.{id_of, closed, func_of, built_of}
use Rattle.ir_types_check.specs.Outline.{start}
use Rattle.ir_types_check.specs.Typed.{lines_typed, sources_of, function_typed, item_typed, items_typed}
use Rattle.ir_types_check.specs.Resolved.{with_built, resolved_function, with_kept, resolved_item, resolved_items, module_of, resolved_with, resolved_of}
use Rattle.ir_types_check.proofs.Binding.{bind_ok, ok, ok_is, nothing}
use Rattle.ir_types_check.proofs.BodyScope.{found, defined}
use Rattle.ir_types_check.proofs.BodyIds.{ids_from, ids_append}
use Rattle.ir_types_check.proofs.BodyFormed.{HasTypes, FormedFunc, function_is_formed}

-- ---- globals

-- each global's number is below the number of globals
abbrev AreGlobals : Tops → Type 0
AreGlobals t = (name : List ℕ) (g : ℕ) → meaning name t.scope ≡ Some (Global g) → g < length t.globals

-- what is no global
abbrev IsNoGlobal : Top → Type 0
IsNoGlobal (Global g) = ⊥
IsNoGlobal _ = Unit {0}

top_keeps : (n : ℕ) (t after : Tops) (name : List ℕ) (top : Top) → IsNoGlobal top → with_top n t name top ≡ Ok after → AreGlobals t → AreGlobals after
unfolding with_top
top_keeps n t after name top other e h =
    bind_ok (define n of_module name top t.scope) _ after e (λ scope was is.
    let there : scope ≡ t.scope ++ (name, top) ∷ [] = defined n of_module name top t.scope scope was in
    subst AreGlobals (ok_is is) (λ x g found_is. elim (found x t.scope name top (Global g) (subst (λ s. meaning x s ≡ Some (Global g)) there found_is)) [
      | inl old ↦ h x g old
      | inr new ↦ absurd (subst IsNoGlobal new.1 other)
    ]))

global_is : {j k : ℕ} → Global j ≡ Global k → j ≡ k
global_is e = cc

global_keeps : (n : ℕ) (t after : Tops) (name : List ℕ) → with_global n t name ≡ Ok after → AreGlobals t → AreGlobals after
unfolding with_global
global_keeps n t after name e h =
    bind_ok (define n of_module name (Global (length t.globals)) t.scope) _ after e (λ scope was is.
    let there : scope ≡ t.scope ++ (name, Global (length t.globals)) ∷ [] = defined n of_module name (Global (length t.globals)) t.scope scope was in
    let longer : length (t.globals ++ name ∷ []) ≡ length t.globals + 1 = length-append t.globals (name ∷ []) in
    subst AreGlobals (ok_is is) (λ x g found_is.
    elim (found x t.scope name (Global (length t.globals)) (Global g) (subst (λ s. meaning x s ≡ Some (Global g)) there found_is)) as (λ _. g < length (t.globals ++ name ∷ [])) [
      | inl old ↦ let less : g < length t.globals = h x g old in omega (arith, less, longer)
      | inr new ↦ let same : length t.globals ≡ g = global_is new.1 in omega (arith, same, longer)
    ]))

symbol_keeps : (n : ℕ) (t after : Tops) (global : Bool) (symbol : Option (List ℕ)) → with_symbol n t global symbol ≡ Ok after → AreGlobals t → AreGlobals after
symbol_keeps n t after global None e h = subst AreGlobals (ok_is e) h
symbol_keeps n t after true (Some name) e h = global_keeps n t after name e h
symbol_keeps n t after false (Some name) e h = top_keeps n t after name Other tt e h

opaque_keeps : (n : ℕ) (t after : Tops) (name : Option (List ℕ)) → with_opaque n t name ≡ Ok after → AreGlobals t → AreGlobals after
opaque_keeps n t after None e h = subst AreGlobals (ok_is e) h
opaque_keeps n t after (Some name) e h = top_keeps n t after name Other tt e h

item_keeps : (t after : Tops) (x : DraftItem) → with_item t x ≡ Ok after → AreGlobals t → AreGlobals after
unfolding with_function
item_keeps t after (item.Kept n kept) e h = symbol_keeps n t after kept.global kept.symbol e h
item_keeps t after (item.Opaque n name text) e h = opaque_keeps n t after name e h
item_keeps t after (item.Func n head body) e h =
    bind_ok (with_top n t head.name (Function (signature_of head))) _ after e (λ m was now.
    bind_ok (locals_of n head body) _ after now (λ l _ is.
    subst AreGlobals (ok_is is) (top_keeps n t m head.name (Function (signature_of head)) tt was h)))

items_keep : (t after : Tops) (xs : List DraftItem) → with_items t xs ≡ Ok after → AreGlobals t → AreGlobals after
items_keep t after [] e h = subst AreGlobals (ok_is e) h
items_keep t after (x ∷ xs) e h = bind_ok (with_item t x) _ after e (λ m was now. items_keep m after xs now (item_keeps t m x was h))

-- ---- items

-- a function with a header of the profile and lines that stand where they may
pub record IsFit (head : Head) (body : List Numbered) : Type 0 where
  pub types : HasTypes head
  pub stands : IsBody body

abbrev pub IsFitItem : DraftItem → Type 0
IsFitItem (item.Func n head body) = IsFit head body
IsFitItem _ = Unit {0}

ids_push : (items : List Item) (i : Item) → ids_of_items (items ++ i ∷ []) ≡ ids_of_items items ++ item_ids i
ids_push [] i = append-nil (item_ids i)
ids_push (x ∷ items) i = ap (λ xs. item_ids x ++ xs) (ids_push items i) ∙ sym (append_assoc (item_ids x) (ids_of_items items) (item_ids i))

record AreFormed (m : Module) (done : Done) : Type 0 where
  formed : All (IsFormedItem m) done.items
  ids : ids_of_items done.items ≡ ids_from 0 (length done.lines)

module _ (m : Module) (tops : Scope Top) (globals : (name : List ℕ) (g : ℕ) → meaning name tops ≡ Some (Global g) → nat_lt g (length m.globals) ≡ true) where
  kept_formed : (done after : Done) (i : Item) → IsFormedItem m i → item_ids i ≡ [] → ok (with_kept done i) ≡ Ok after → AreFormed m done → AreFormed m after
  unfolding with_kept
  kept_formed done after i f none e h = subst (AreFormed m) (ok_is e) (record {
    formed = All-push (IsFormedItem m) done.items i h.formed f;
    ids = ids_push done.items i ∙ ap (λ xs. ids_of_items done.items ++ xs) none ∙ append-nil (ids_of_items done.items) ∙ h.ids;
  })

  function_formed : (n : ℕ) (done after : Done) (head : Head) (body : List Numbered) (u : Unit {0}) → IsFit head body → resolved_function tops n done head body ≡ Ok after →
      function_typed tops n head body ≡ Ok u → AreFormed m done → AreFormed m after
  unfolding resolved_function function_typed with_built
  function_formed n done after head body u fit e t h =
      bind_ok (locals_of n head body) _ after e (λ l was now.
      bind_ok (built_of tops l.scope n done.lines head body) _ after now (λ b built is.
      bind_ok (locals_of n head body) _ u t (λ k again typed.
      let same : k ≡ l = ok_is (sym again ∙ was) in
      let f : FormedFunc m (length done.lines) (func_of (length done.lines) head (closed b.blocks b.current)) b.lines =
      function_is_formed m tops globals n done.lines head body fit.types fit.stands l b u was built (typed_of k l same typed) in
      let count : length b.lines ≡ length done.lines + f.many = f.lines_are in
      let zero_base : 0 + length done.lines ≡ length done.lines = omega arith in
      subst (AreFormed m) (ok_is is) (record {
        formed = All-push (IsFormedItem m) done.items (FuncItem (func_of (length done.lines) head (closed b.blocks b.current))) h.formed f.formed;
        ids = ids_push done.items (FuncItem (func_of (length done.lines) head (closed b.blocks b.current))) ∙ ap (λ xs. xs ++ item_ids (FuncItem (func_of (length done.lines) head (closed b.blocks b.current)))) h.ids
            ∙ ap (λ xs. ids_from 0 (length done.lines) ++ xs) (f.ids ∙ ap (λ k. ids_from k f.many) (sym zero_base))
            ∙ sym (ids_append 0 (length done.lines) f.many) ∙ ap (ids_from 0) (sym count);
      }))))
    where
      typed_of : (k l : Locals) → k ≡ l → lines_typed tops k.scope head.ret (sources_of k body) start body ≡ Ok u → lines_typed tops l.scope head.ret (sources_of l body) start body ≡ Ok u
      typed_of k l same typed = subst (λ (x : Locals). lines_typed tops x.scope head.ret (sources_of x body) start body ≡ Ok u) same typed

  item_formed : (done after : Done) (x : DraftItem) (u : Unit {0}) → IsFitItem x → resolved_item tops done x ≡ Ok after → item_typed tops x ≡ Ok u → AreFormed m done → AreFormed m after
  item_formed done after (item.Kept n kept) u fit e t h = kept_formed done after (Kept kept.text) tt refl e h
  item_formed done after (item.Opaque n name text) u fit e t h = kept_formed done after (Opaque text) tt refl e h
  item_formed done after (item.Func n head body) u fit e t h = function_formed n done after head body u fit e t h

  items_formed : (done after : Done) (xs : List DraftItem) (u : Unit {0}) → All IsFitItem xs → resolved_items tops done xs ≡ Ok after → items_typed tops xs ≡ Ok u → AreFormed m done → AreFormed m after
  items_formed done after [] u fit e t h = subst (AreFormed m) (ok_is e) h
  items_formed done after (x ∷ xs) u fit e t h =
      bind_ok (resolved_item tops done x) _ after e (λ d was now.
      bind_ok (item_typed tops x) _ u t (λ v typed then'.
      items_formed d after xs u (All-tail IsFitItem x xs fit) now then' (item_formed done d x v (All-head IsFitItem x xs fit) was typed h)))

-- ---- ids once

nth_id : (k n i : ℕ) (d : Id) → i < n → get_or (ids_from k n) i d ≡ id_of (k + i)
nth_id k zero i d less = absurd (omega (arith, less))
nth_id k (suc n) zero d less = let e : k ≡ k + 0 = omega arith in ap id_of e
nth_id k (suc n) (suc i) d less = let e : k + 1 + i ≡ k + suc i = omega arith in nth_id (k + 1) n i d (omega (arith, less)) ∙ ap id_of e

length_ids : (k n : ℕ) → length (ids_from k n) ≡ n
length_ids k zero = refl
length_ids k (suc n) = ap (λ x. suc x) (length_ids (k + 1) n)

ids_once : (k n : ℕ) → AllPairs (λ (a b : Id). a ≡ b → ⊥) (ids_from k n)
ids_once k n i j d less within same =
    let size : length (ids_from k n) ≡ n = length_ids k n in
    let first : get_or (ids_from k n) i d ≡ id_of (k + i) = nth_id k n i d (omega (arith, less, within, size)) in
    let second : get_or (ids_from k n) j d ≡ id_of (k + j) = nth_id k n j d (omega (arith, within, size)) in
    let equal : k + i ≡ k + j = ap (λ (x : Id). x.k) (sym first ∙ same ∙ second) in
    omega (arith, equal, less)

-- ---- the module

pub record FormedItems (m : Module) : Type 0 where
  pub items : All (IsFormedItem m) m.items
  pub once : AllPairs (λ (a b : Id). a ≡ b → ⊥) (ids_of m)
  pub counted : ids_of m ≡ ids_from 0 (length (ids_of m))

pub resolved_is_formed : (d : Draft) (r : Resolved) → All IsFitItem d.items → resolved_of d ≡ Ok r → FormedItems r.«module»
unfolding resolved_of resolved_with module_of
resolved_is_formed d r fit e =
    bind_ok (tops_of d.items) _ r e (λ tops named now.
    bind_ok (resolved_items tops.scope (record { items = []; lines = [] }) d.items) _ r now (λ done was then'.
    bind_ok (items_typed tops.scope d.items) _ r then' (λ u typed is.
    let globals : AreGlobals tops = items_keep (record { scope = []; globals = [] }) tops d.items named (λ name g e. nothing e) in
    let f : AreFormed (module_of tops d.items done).«module» done =
    items_formed (module_of tops d.items done).«module» tops.scope (λ name g there. below g (length tops.globals) (globals name g there)) (record { items = []; lines = [] }) done d.items u fit was typed
    (record { formed = All-nil (IsFormedItem (module_of tops d.items done).«module»); ids = refl }) in
    subst (λ (x : Resolved). FormedItems x.«module») (ok_is is) (record {
      items = f.formed;
      once = subst (AllPairs (λ (a b : Id). a ≡ b → ⊥)) (sym f.ids) (ids_once 0 (length done.lines));
      counted = f.ids ∙ ap (ids_from 0) (sym (ap length f.ids ∙ length_ids 0 (length done.lines)));
    }))))
  where
    below : (g n : ℕ) → g < n → nat_lt g n ≡ true
    below g n less = grind (arith, nat_tests)
