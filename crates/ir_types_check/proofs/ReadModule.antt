-- What a module is whose names are known: each of its items is made of one of the draft's, and no name is given twice.
use Rattle.std.proofs.Common.{◌≡◌, ℕ, ◌⊎◌, inl, inr, List, [], ◌∷◌, ◌++◌, length, Option, None, Ok, refl, sym, ◌∙◌, ap, subst, append_assoc}
use Rattle.std.proofs.lemmas.List.{append-nil}
use Rattle.std.specs.List.{All, AllZip}
use Rattle.ir_types.specs.declared.inst.Inst.{Inst}
use Rattle.ir_types.specs.declared.func.Func.{Func}
use Rattle.ir_types.specs.declared.module.Item.{Item}
use Rattle.ir_types.specs.declared.module.Item.TheVariants as items
use Rattle.ir_types.specs.declared.module.Module.{Module}
use Rattle.ir_draft.specs.declared.head.Head.{Head}
use Rattle.ir_draft.specs.declared.stmt.Stmt.{Stmt}
use Rattle.ir_draft.specs.declared.line.Line.{Line}
use Rattle.ir_draft.specs.declared.line.Line.TheVariants as line
use Rattle.ir_draft.specs.declared.written.Written.{Written}
use Rattle.ir_draft.specs.declared.written.Arg.{Arg}
use Rattle.ir_draft.specs.declared.draft.Numbered.{Numbered}
use Rattle.ir_draft.specs.declared.draft.DraftItem.{DraftItem}
use Rattle.ir_draft.specs.declared.draft.DraftItem.TheVariants as item
use Rattle.ir_types_check.specs.declared.locals.Locals.{Locals}
use Rattle.ir_types_check.specs.declared.tops.Top.{Top}
use Rattle.ir_types_check.specs.declared.building.Done.{Done}
use Rattle.ir_types_check.specs.Scope.{Scope}
use Rattle.ir_types_check.specs.Outline.{written_name}
use Rattle.ir_types_check.specs.Locals.{locals_of}
use Rattle.ir_types_check.specs.Blocks.{closed, params_from, param_lines, func_of, built_of}
use Rattle.ir_types_check.specs.Resolved.{with_built, resolved_function, with_kept, resolved_item, resolved_items, module_of, big_endian_line}
use Rattle.ir_types_check.specs.Named.{Names}
use Rattle.ir_types_check.proofs.Binding.{bind_ok, ok_is}
use Rattle.ir_types_check.proofs.ReadParts.{EachLine, IsFineBlock, MakesFine, blocks_fine}
use Rattle.ir_types_check.proofs.ReadNames.{Apart, given_names, block_names, names_apart}
use Rattle.ir_types_check.proofs.ReadLinks.{AreKnown, IsFineInst, inst_found}
use Rattle.ir_types_check.proofs.ReadTops.{draft_globals, draft_tops, AreTops, tops_are}

-- a predicate of each item
abbrev pub EachItem : (DraftItem → Type 0) → List DraftItem → Type 0
EachItem P [] = Unit {0}
EachItem P (x ∷ xs) = P x × EachItem P xs

module _ (FineLabel : List ℕ → Type 0) (FineStmt : Stmt → Type 0) (FineOpd : Written → Type 0) (args : (s : Stmt) → FineStmt s → All (λ (a : Arg). FineOpd a.opd) s.args) where
  abbrev pub IsFineLine : Line → Type 0
  IsFineLine (line.Label name) = FineLabel name
  IsFineLine (line.Stmt s) = FineStmt s
  IsFineLine _ = Unit {0}

  abbrev pub IsFineItem : DraftItem → Type 0
  IsFineItem (item.Func n head body) = EachLine IsFineLine body
  IsFineItem _ = Unit {0}

  -- a block has no name, or that of its label unless it is a number
  abbrev pub IsFineName : Option (List ℕ) → Type 0
  IsFineName name = (name ≡ None) ⊎ ((w : List ℕ) × FineLabel w × (name ≡ written_name w))

  module _ (globals : List (List ℕ)) where
    abbrev pub IsInst : Inst → Type 0
    IsInst i = IsFineInst FineStmt FineOpd args globals i

    -- a function of this header
    pub record IsFuncOf (head : Head) (f : Func) : Type 0 where
      pub base : ℕ
      pub before : f.before ≡ head.before
      pub ret : f.ret ≡ head.ret
      pub name : f.name ≡ head.name
      pub params : f.params ≡ params_from base head.params
      pub after : f.after ≡ head.after
      pub blocks : All (IsFineBlock IsFineName IsInst) f.blocks
      pub apart : Apart (given_names f.params ++ block_names f.blocks)

    abbrev pub IsItemOf : DraftItem → Item → Type 0
    IsItemOf (item.Kept n kept) (items.Kept text) = text ≡ kept.text
    IsItemOf (item.Opaque n name text) (items.Opaque said) = said ≡ text
    IsItemOf (item.Func n head body) (items.Func f) = IsFuncOf head f
    IsItemOf _ _ = ⊥

    module _ (tops : Scope Top) (known : AreKnown tops globals) where
      body_makes : (l : Locals) (base : ℕ) (body : List Numbered) → EachLine IsFineLine body → EachLine (MakesFine IsFineName IsInst tops l.scope base) body
      body_makes l base [] each = tt
      body_makes l base (x ∷ xs) each = (here x.form each.0, body_makes l base xs each.1) where
        here : (form : Line) → IsFineLine form → MakesFine IsFineName IsInst tops l.scope base form
        here (line.Label name) fine = inr (name, fine, refl)
        here (line.Stmt s) fine = λ k n rest inst e. inst_found FineStmt FineOpd args globals tops known l.scope base n k s rest inst fine e
        here line.Empty fine = tt
        here (line.Kept kept) fine = tt
        here (line.Define name head) fine = tt
        here line.Close fine = tt
        here (line.Case value label) fine = tt
        here line.CasesEnd fine = tt

      function_made : (n : ℕ) (done after : Done) (head : Head) (body : List Numbered) → EachLine IsFineLine body → resolved_function tops n done head body ≡ Ok after →
          (f : Func) × IsFuncOf head f × (after.items ≡ done.items ++ items.Func f ∷ [])
      unfolding resolved_function built_of with_built
      function_made n done after head body each e =
          bind_ok (locals_of n head body) _ after e (λ l known_l then'.
          bind_ok (built_of tops l.scope n done.lines head body) _ after then' (λ b was is.
          let base : ℕ = length done.lines in
          let lines : List ℕ = param_lines n done.lines head.params in (
            func_of base head (closed b.blocks b.current),
            record {
              base = base;
              before = refl;
              ret = refl;
              name = refl;
              params = refl;
              after = refl;
              blocks = blocks_fine IsFineName IsInst tops l.scope base lines b body (inl refl) (body_makes l base body each) was;
              apart = names_apart tops l.scope base n base head body l lines b known_l was;
            },
            sym (ap (λ (x : Done). x.items) (ok_is is)),
          )))

      item_made : (done after : Done) (x : DraftItem) → IsFineItem x → resolved_item tops done x ≡ Ok after → (i : Item) × IsItemOf x i × (after.items ≡ done.items ++ i ∷ [])
      unfolding with_kept
      item_made done after (item.Kept n kept) fine e = (items.Kept kept.text, refl, sym (ap (λ (x : Done). x.items) (ok_is e)))
      item_made done after (item.Opaque n name text) fine e = (items.Opaque text, refl, sym (ap (λ (x : Done). x.items) (ok_is e)))
      item_made done after (item.Func n head body) fine e =
          let f : (f : Func) × IsFuncOf head f × (after.items ≡ done.items ++ items.Func f ∷ []) = function_made n done after head body fine e in
          (items.Func f.0, f.1, f.2)

      items_made : (done after : Done) (xs : List DraftItem) → EachItem IsFineItem xs → resolved_items tops done xs ≡ Ok after → (is : List Item) × AllZip IsItemOf xs is × (after.items ≡ done.items ++ is)
      items_made done after [] each e = ([], tt, sym (ap (λ (x : Done). x.items) (ok_is e)) ∙ sym (append-nil done.items))
      items_made done after (x ∷ xs) each e =
          bind_ok (resolved_item tops done x) _ after e (λ m was now.
          let i : (i : Item) × IsItemOf x i × (m.items ≡ done.items ++ i ∷ []) = item_made done m x each.0 was in
          let more : (is : List Item) × AllZip IsItemOf xs is × (after.items ≡ m.items ++ is) = items_made m after xs each.1 now in
          (i.0 ∷ more.0, (i.1, more.1), more.2 ∙ ap (λ ys. ys ++ more.0) i.2 ∙ append_assoc done.items (i.0 ∷ []) more.0))

  pub record IsModuleOf (xs : List DraftItem) (m : Module) : Type 0 where
    pub items_are : AllZip (IsItemOf m.globals) xs m.items
    pub globals_are : m.globals ≡ draft_globals xs
    pub apart : Apart (draft_tops xs)
    pub big_endian : m.big_endian_line ≡ big_endian_line xs

  pub module_is : (xs : List DraftItem) (m : Module) → Names xs m → EachItem IsFineItem xs → IsModuleOf xs m
  unfolding module_of
  module_is xs m names each =
      let t : AreTops xs names.tops = tops_are xs names.tops names.once in
      let made : (is : List Item) × AllZip (IsItemOf names.tops.globals) xs is × (names.resolved.items ≡ [] ++ is) =
      items_made names.tops.globals names.tops.scope t.known (record { items = []; lines = [] }) names.resolved xs each names.known in
      subst (IsModuleOf xs) names.is (record {
        items_are = subst (AllZip (IsItemOf names.tops.globals) xs) (sym made.2) made.1;
        globals_are = t.globals_are;
        apart = t.apart;
        big_endian = refl;
      })
