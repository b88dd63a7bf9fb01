-- The names of a module, as its printed items define them.
use Rattle.std.proofs.Common.{◌≡◌, ℕ, suc, zero, ◌+◌, Bool, true, false, List, [], ◌∷◌, ◌++◌, map, length, bytes_eq, Option, Some, None, Result, Ok, refl, sym, ◌∙◌, ap, arith}
use Rattle.std.proofs.lemmas.List.{append-nil}
use Rattle.std.proofs.lemmas.List.Elements.{All-head, All-tail}
use Rattle.std.specs.List.{All, AllPairs, slice_get}
use Rattle.ir_types.specs.declared.module.Item.{Item}
use Rattle.ir_types.specs.declared.module.Item.TheVariants.{Kept, Opaque, Func as FuncItem}
use Rattle.ir_forms.proofs.Steps.{bytes_is}
use Rattle.ir_print.specs.Names.{names_of}
use Rattle.ir_types_check.specs.declared.refusal.ResolveRefusal.{ResolveRefusal}
use Rattle.ir_types_check.specs.Scope.{Scope, meaning, of_module}
use Rattle.ir_types_check.specs.Tops.{with_top, with_global, with_symbol, signature_of}
use Rattle.ir_types_check.proofs.Handed.{TopMeaning, global_at, function_of, other_top, TopNames}
use Rattle.rf_text.specs.Headed.{shown_head}
use Rattle.rf_text.specs.Printable.{in_front, global_before, globals_in, tops_in}
use Rattle.rf_text.specs.ModuleForms.{kept_at}
use Rattle.rf_text.specs.OpaqueText.{opaque_name}
use Rattle.rf_text.proofs.Named.Scope.{Once, defined, found, moved}
use Rattle.rf_text.proofs.Named.Things.{pairs_first}
use Rattle.rf_text.proofs.Named.Places.{push_length}
use Rattle.rf_text.proofs.Named.Found.{HasGlobals}

-- ---- the scope of a module

-- what a kept line gives, where k is the number of the next global, and the number after it
abbrev pub kept_scope : ℕ → Bool → Option (List ℕ) → Scope TopMeaning
kept_scope k global None = []
kept_scope k true (Some name) = (name, global_at k) ∷ []
kept_scope k false (Some name) = (name, other_top) ∷ []

abbrev pub kept_next : ℕ → Bool → Option (List ℕ) → ℕ
kept_next k true (Some name) = k + 1
kept_next k _ _ = k

abbrev pub tops_from : ℕ → List Item → Scope TopMeaning
tops_from k [] = []
tops_from k (Kept text ∷ items) = kept_scope k (kept_at text).global (kept_at text).symbol ++ tops_from (kept_next k (kept_at text).global (kept_at text).symbol) items
tops_from k (Opaque text ∷ items) = kept_scope k false (opaque_name text) ++ tops_from k items
tops_from k (FuncItem f ∷ items) = (f.name, function_of (signature_of (shown_head (names_of f) f))) ∷ tops_from k items

-- ---- no name twice

abbrev Differ : List ℕ → List ℕ → Type 0
Differ a b = a ≡ b → ⊥

abbrev keys : Scope TopMeaning → List (List ℕ)
keys s = map (λ e. e.0) s

kept_keys : (k : ℕ) (g : Bool) (s : Option (List ℕ)) (rest : Scope TopMeaning) → keys (kept_scope k g s ++ rest) ≡ in_front s (keys rest)
kept_keys k g None rest = refl
kept_keys k true (Some name) rest = refl
kept_keys k false (Some name) rest = refl

tops_keys : (k : ℕ) (items : List Item) → keys (tops_from k items) ≡ tops_in items
tops_keys k [] = refl
tops_keys k (Kept text ∷ items) =
    kept_keys k (kept_at text).global (kept_at text).symbol (tops_from (kept_next k (kept_at text).global (kept_at text).symbol) items)
    ∙ ap (in_front (kept_at text).symbol) (tops_keys (kept_next k (kept_at text).global (kept_at text).symbol) items)
tops_keys k (Opaque text ∷ items) = kept_keys k false (opaque_name text) (tops_from k items) ∙ ap (in_front (opaque_name text)) (tops_keys k items)
tops_keys k (FuncItem f ∷ items) = ap (λ (ks : List (List ℕ)). f.name ∷ ks) (tops_keys k items)

key_new : (name : List ℕ) (s : Scope TopMeaning) → All (Differ name) (keys s) → meaning name s ≡ None
key_new name [] all = refl
key_new name (e ∷ s) all = rw (go (bytes_eq name e.0) refl) (key_new name s (All-tail (Differ name) e.0 (keys s) all)) where
  go : (t : Bool) → bytes_eq name e.0 ≡ t → t ≡ false
  go false is = refl
  go true is = absurd (All-head (Differ name) e.0 (keys s) all (bytes_is name e.0 is))

once_keys : (s : Scope TopMeaning) → AllPairs Differ (keys s) → Once s
once_keys [] pairs = tt
once_keys (e ∷ s) pairs = (key_new e.0 s (pairs_first Differ e.0 (keys s) pairs), once_keys s (λ i j d less within. pairs (suc i) (suc j) d (omega (arith, less)) (omega (arith, within))))

pub tops_once : (items : List Item) → AllPairs (λ (a b : List ℕ). a ≡ b → ⊥) (tops_in items) → Once (tops_from 0 items)
tops_once items pairs = once_keys (tops_from 0 items) (rw (tops_keys 0 items) pairs)

module _ (scope : Scope TopMeaning) (once : Once scope) where
  -- ---- what is defined

  -- the globals that an item has
  abbrev pub item_globals : Bool → Option (List ℕ) → List (List ℕ)
  item_globals g s = global_before g s []

  -- after an item
  pub record Stepped (t : TopNames) (k : ℕ) (more : List (List ℕ)) (rest : Scope TopMeaning) (said : Result TopNames ResolveRefusal) : Type 0 where
    pub end : TopNames
    pub said_is : said ≡ Ok end
    pub whole : scope ≡ end.scope ++ rest
    pub counted : length end.globals ≡ k
    pub globals : end.globals ≡ t.globals ++ more

  pub top_defined : (n : ℕ) (t : TopNames) (name : List ℕ) (top : TopMeaning) (rest : Scope TopMeaning) → scope ≡ t.scope ++ (name, top) ∷ rest → with_top n t name top ≡ Ok (record { scope = t.scope ++ (name, top) ∷ []; globals = t.globals })
  unfolding with_top
  top_defined n t name top rest whole = rw (defined n of_module t.scope name top rest (rw whole at once)) refl

  global_defined : (n : ℕ) (t : TopNames) (name : List ℕ) (k : ℕ) (rest : Scope TopMeaning) → length t.globals ≡ k → scope ≡ t.scope ++ (name, global_at k) ∷ rest →
      with_global n t name ≡ Ok (record { scope = t.scope ++ (name, global_at k) ∷ []; globals = t.globals ++ name ∷ [] })
  unfolding with_global
  global_defined n t name k rest many whole = rw (many, defined n of_module t.scope name (global_at k) rest (rw whole at once)) refl

  pub kept_defined : (g : Bool) (s : Option (List ℕ)) (n k : ℕ) (t : TopNames) (rest : Scope TopMeaning) → length t.globals ≡ k → scope ≡ t.scope ++ (kept_scope k g s ++ rest) → Stepped t (kept_next k g s) (item_globals g s) rest (with_symbol n t g s)
  kept_defined true None n k t rest many whole = record { end = t; said_is = refl; whole = whole; counted = many; globals = sym (append-nil t.globals) }
  kept_defined false None n k t rest many whole = record { end = t; said_is = refl; whole = whole; counted = many; globals = sym (append-nil t.globals) }
  kept_defined true (Some name) n k t rest many whole = record {
    end = record { scope = t.scope ++ (name, global_at k) ∷ []; globals = t.globals ++ name ∷ [] };
    said_is = global_defined n t name k rest many whole;
    whole = moved scope t.scope (name, global_at k) rest whole;
    counted = push_length t.globals name k many;
    globals = refl;
  }
  kept_defined false (Some name) n k t rest many whole = record {
    end = record { scope = t.scope ++ (name, other_top) ∷ []; globals = t.globals };
    said_is = top_defined n t name other_top rest whole;
    whole = moved scope t.scope (name, other_top) rest whole;
    counted = many;
    globals = sym (append-nil t.globals);
  }

  -- ---- all items

  -- the items define the whole scope, and these globals after others
  pub record HasTops (globals : List (List ℕ)) (said : Result TopNames ResolveRefusal) : Type 0 where
    pub end : TopNames
    pub said_is : said ≡ Ok end
    pub whole : end.scope ≡ scope
    pub globals_are : end.globals ≡ globals

  pub globals_append : (g : Bool) (s : Option (List ℕ)) (rest : List (List ℕ)) → item_globals g s ++ rest ≡ global_before g s rest
  globals_append true None rest = refl
  globals_append true (Some name) rest = refl
  globals_append false s rest = refl

  -- ---- globals

  meant : (done : Scope TopMeaning) (name : List ℕ) (m : TopMeaning) (rest : Scope TopMeaning) → scope ≡ done ++ (name, m) ∷ rest → meaning name scope ≡ Some m
  meant done name m rest whole = rw whole (found done name m rest (rw whole at once))

  -- a global of the items, or one of those after the first
  kept_meant : (g : Bool) (s : Option (List ℕ)) (k at j : ℕ) (name : List ℕ) (done rest : Scope TopMeaning) (others : List (List ℕ)) → scope ≡ done ++ (kept_scope k g s ++ rest) → slice_get (global_before g s others) at ≡ Some name → j ≡ k + at →
      ((done : Scope TopMeaning) (at : ℕ) → scope ≡ done ++ rest → slice_get others at ≡ Some name → j ≡ kept_next k g s + at → meaning name scope ≡ Some (global_at j)) → meaning name scope ≡ Some (global_at j)
  kept_meant true None k at j name done rest others whole e is after = after done at whole e is
  kept_meant false None k at j name done rest others whole e is after = after done at whole e is
  kept_meant false (Some key) k at j name done rest others whole e is after = after (done ++ (key, other_top) ∷ []) at (moved scope done (key, other_top) rest whole) e is
  kept_meant true (Some key) k zero j name done rest others whole e is after =
      let same : key ≡ name = cc in
      let here : k ≡ j = omega (arith, is) in
      rw (← same, ← here) (meant done key (global_at k) rest whole)
  kept_meant true (Some key) k (suc at) j name done rest others whole e is after = after (done ++ (key, global_at k) ∷ []) at (moved scope done (key, global_at k) rest whole) e (omega (arith, is))

  globals_meant : (items : List Item) (k at j : ℕ) (name : List ℕ) (done : Scope TopMeaning) → scope ≡ done ++ tops_from k items → slice_get (globals_in items) at ≡ Some name → j ≡ k + at → meaning name scope ≡ Some (global_at j)
  globals_meant [] k at j name done whole e is = cc
  globals_meant (Kept text ∷ items) k at j name done whole e is =
      kept_meant (kept_at text).global (kept_at text).symbol k at j name done (tops_from (kept_next k (kept_at text).global (kept_at text).symbol) items) (globals_in items) whole e is
      (λ done at whole e is. globals_meant items (kept_next k (kept_at text).global (kept_at text).symbol) at j name done whole e is)
  globals_meant (Opaque text ∷ items) k at j name done whole e is =
      kept_meant false (opaque_name text) k at j name done (tops_from k items) (globals_in items) whole e is
      (λ done at whole e is. globals_meant items k at j name done whole e is)
  globals_meant (FuncItem f ∷ items) k at j name done whole e is =
      globals_meant items k at j name (done ++ (f.name, function_of (signature_of (shown_head (names_of f) f))) ∷ []) (moved scope done (f.name, function_of (signature_of (shown_head (names_of f) f))) (tops_from k items) whole) e is

  -- each global is found
  pub globals_found : (items : List Item) → scope ≡ tops_from 0 items → HasGlobals (globals_in items) scope
  globals_found items whole g name e = globals_meant items 0 g g name [] whole e (omega arith)
