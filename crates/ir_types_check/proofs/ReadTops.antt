-- The names of a module that resolved: none twice, and the globals among them by their places.
use Rattle.std.proofs.Common.{◌≡◌, ℕ, ◌+◌, Bool, true, false, List, [], ◌∷◌, ◌++◌, length, Option, Some, None, Ok, refl, sym, ◌∙◌, ap, subst, arith, append_assoc, inl, inr}
use Rattle.std.proofs.lemmas.List.{append-nil}
use Rattle.std.specs.Prelude.{slice_get}
use Rattle.ir_draft.specs.declared.draft.DraftItem.{DraftItem}
use Rattle.ir_draft.specs.declared.draft.DraftItem.TheVariants as item
use Rattle.ir_types_check.specs.declared.tops.Top.{Top}
use Rattle.ir_types_check.specs.declared.tops.Top.TheVariants.{Global, Function, Other}
use Rattle.ir_types_check.specs.declared.tops.Tops.{Tops}
use Rattle.ir_types_check.specs.Scope.{meaning, define, of_module}
use Rattle.ir_types_check.specs.Locals.{locals_of}
use Rattle.ir_types_check.specs.Tops.{with_top, with_global, with_symbol, signature_of, with_function, with_item, with_items, tops_of}
use Rattle.ir_types_check.proofs.Binding.{bind_ok, ok_is}
use Rattle.ir_types_check.proofs.BodyScope.{get_front, get_back, found, defined}
use Rattle.ir_types_check.proofs.ReadNames.{Apart, apart_none, onto, keys, Defined, defined_keys}
use Rattle.ir_types_check.proofs.ReadLinks.{AreKnown}

-- ---- what the items of a draft name

abbrev pub global_part : Bool → Option (List ℕ) → List (List ℕ)
global_part true (Some name) = name ∷ []
global_part _ _ = []

abbrev pub item_globals : DraftItem → List (List ℕ)
item_globals (item.Kept n kept) = global_part kept.global kept.symbol
item_globals _ = []

abbrev pub item_tops : DraftItem → List (List ℕ)
item_tops (item.Kept n kept) = onto kept.symbol []
item_tops (item.Opaque n name text) = onto name []
item_tops (item.Func n head body) = head.name ∷ []

abbrev pub draft_globals : List DraftItem → List (List ℕ)
draft_globals [] = []
draft_globals (x ∷ xs) = item_globals x ++ draft_globals xs

abbrev pub draft_tops : List DraftItem → List (List ℕ)
draft_tops [] = []
draft_tops (x ∷ xs) = item_tops x ++ draft_tops xs

-- ---- names

-- with these names after, of which these are globals
record Grown (t after : Tops) (names globals : List (List ℕ)) : Type 0 where
  keys_are : keys after.scope ≡ keys t.scope ++ names
  apart : Apart (keys t.scope) → Apart (keys after.scope)
  globals_are : after.globals ≡ t.globals ++ globals
  known : AreKnown t.scope t.globals → AreKnown after.scope after.globals

same : (t : Tops) → Grown t t [] []
same t = record { keys_are = sym (append-nil (keys t.scope)); apart = λ h. h; globals_are = sym (append-nil t.globals); known = λ h. h }

further : (t m after : Tops) (names globals more others : List (List ℕ)) → Grown t m names globals → Grown m after more others → Grown t after (names ++ more) (globals ++ others)
further t m after names globals more others g h = record {
  keys_are = h.keys_are ∙ ap (λ xs. xs ++ more) g.keys_are ∙ append_assoc (keys t.scope) names more;
  apart = λ a. h.apart (g.apart a);
  globals_are = h.globals_are ∙ ap (λ xs. xs ++ others) g.globals_are ∙ append_assoc t.globals globals others;
  known = λ k. h.known (g.known k);
}

IsNoGlobal : Top → Type 0
IsNoGlobal (Global g) = ⊥
IsNoGlobal _ = Unit {0}

no_global : {P : Type 0} (top : Top) (g : ℕ) → IsNoGlobal top → top ≡ Global g → P
unfolding IsNoGlobal
no_global top g h e = absurd (subst IsNoGlobal e h)

global_is : {g h : ℕ} → Global g ≡ Global h → g ≡ h
global_is e = cc

top_grown : (n : ℕ) (t after : Tops) (name : List ℕ) (top : Top) → IsNoGlobal top → with_top n t name top ≡ Ok after → Grown t after (name ∷ []) []
unfolding with_top
top_grown n t after name top none e =
    bind_ok (define n of_module name top t.scope) _ after e (λ scope was is.
    let d : Defined t.scope scope name = defined_keys n of_module name top t.scope scope was in
    subst (λ x. Grown t x (name ∷ []) []) (ok_is is) (record {
      keys_are = d.keys_are;
      apart = d.apart;
      globals_are = sym (append-nil t.globals);
      known = λ h x g m. elim (found x t.scope name top (Global g) (subst (λ s. meaning x s ≡ Some (Global g)) (defined n of_module name top t.scope scope was) m)) [
        | inl old ↦ h x g old
        | inr new ↦ no_global top g none new.1
      ];
    }))

global_grown : (n : ℕ) (t after : Tops) (name : List ℕ) → with_global n t name ≡ Ok after → Grown t after (name ∷ []) (name ∷ [])
unfolding with_global
global_grown n t after name e =
    bind_ok (define n of_module name (Global (length t.globals)) t.scope) _ after e (λ scope was is.
    let d : Defined t.scope scope name = defined_keys n of_module name (Global (length t.globals)) t.scope scope was in
    subst (λ x. Grown t x (name ∷ []) (name ∷ [])) (ok_is is) (record {
      keys_are = d.keys_are;
      apart = d.apart;
      globals_are = refl;
      known = λ h x g m. elim (found x t.scope name (Global (length t.globals)) (Global g) (subst (λ s. meaning x s ≡ Some (Global g)) (defined n of_module name (Global (length t.globals)) t.scope scope was) m)) [
        | inl old ↦ get_front t.globals (name ∷ []) g x (h x g old)
        | inr new ↦
            let at : length t.globals + 0 ≡ g = omega (arith, global_is new.1) in
            subst (λ k. slice_get (t.globals ++ name ∷ []) k ≡ Some x) at (get_back t.globals (name ∷ []) 0 ∙ ap Some (sym new.0))
      ];
    }))

symbol_grown : (n : ℕ) (t after : Tops) (global : Bool) (symbol : Option (List ℕ)) → with_symbol n t global symbol ≡ Ok after → Grown t after (onto symbol []) (global_part global symbol)
unfolding IsNoGlobal
symbol_grown n t after true None e = subst (λ x. Grown t x [] []) (ok_is e) (same t)
symbol_grown n t after false None e = subst (λ x. Grown t x [] []) (ok_is e) (same t)
symbol_grown n t after true (Some name) e = global_grown n t after name e
symbol_grown n t after false (Some name) e = top_grown n t after name Other tt e

item_grown : (t after : Tops) (x : DraftItem) → with_item t x ≡ Ok after → Grown t after (item_tops x) (item_globals x)
unfolding with_function IsNoGlobal
item_grown t after (item.Kept n kept) e = symbol_grown n t after kept.global kept.symbol e
item_grown t after (item.Opaque n None text) e = subst (λ x. Grown t x [] []) (ok_is e) (same t)
item_grown t after (item.Opaque n (Some name) text) e = top_grown n t after name Other tt e
item_grown t after (item.Func n head body) e =
    bind_ok (with_top n t head.name (Function (signature_of head))) _ after e (λ m was now.
    bind_ok (locals_of n head body) _ after now (λ _ _ is.
    subst (λ x. Grown t x (head.name ∷ []) []) (ok_is is) (top_grown n t m head.name (Function (signature_of head)) tt was)))

items_grown : (t after : Tops) (items : List DraftItem) → with_items t items ≡ Ok after → Grown t after (draft_tops items) (draft_globals items)
items_grown t after [] e = subst (λ x. Grown t x [] []) (ok_is e) (same t)
items_grown t after (x ∷ xs) e =
    bind_ok (with_item t x) _ after e (λ m was now. further t m after (item_tops x) (item_globals x) (draft_tops xs) (draft_globals xs) (item_grown t m x was) (items_grown m after xs now))

pub record AreTops (items : List DraftItem) (t : Tops) : Type 0 where
  pub globals_are : t.globals ≡ draft_globals items
  pub apart : Apart (draft_tops items)
  pub known : AreKnown t.scope t.globals

pub tops_are : (items : List DraftItem) (t : Tops) → tops_of items ≡ Ok t → AreTops items t
tops_are items t e =
    let g : Grown (record { scope = []; globals = [] }) t (draft_tops items) (draft_globals items) = items_grown (record { scope = []; globals = [] }) t items e in
    record { globals_are = g.globals_are; apart = subst Apart g.keys_are (g.apart apart_none); known = g.known (λ name k m. cc) }
