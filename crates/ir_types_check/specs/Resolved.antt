-- The module that a draft is, or the first of these that is wrong with it:
-- 1. a name that is defined twice, the first line that defines one again;
-- 2. a name that is unknown, the first line that uses one;
-- 3. the first line that is ill typed.
-- On one line the leftmost name is meant. `Examples` has small drafts and what they are.
use Rattle.std.specs.Prelude.{ℕ, Bool, true, false, Option, None, Some, Result, Ok, List, [], ◌∷◌, ◌++◌, length}
use Rattle.ir_types.specs.declared.module.Item.{Item}
use Rattle.ir_types.specs.declared.module.Item.TheVariants.{Kept, Opaque, Func}
use Rattle.ir_draft.specs.declared.head.Head.{Head}
use Rattle.ir_draft.specs.declared.draft.Numbered.{Numbered}
use Rattle.ir_draft.specs.declared.draft.DraftItem.{DraftItem}
use Rattle.ir_draft.specs.declared.draft.DraftItem.TheVariants as item
use Rattle.ir_draft.specs.declared.draft.Draft.{Draft}
use Rattle.ir_types_check.specs.declared.tops.Top.{Top}
use Rattle.ir_types_check.specs.declared.tops.Tops.{Tops}
use Rattle.ir_types_check.specs.declared.building.Built.{Built}
use Rattle.ir_types_check.specs.declared.building.Done.{Done}
use Rattle.ir_types_check.specs.declared.resolved.Resolved.{Resolved}
use Rattle.ir_types_check.specs.declared.refusal.ResolveRefusal.{ResolveRefusal}
use Rattle.ir_types_check.specs.Answers.{◌>>=◌}
use Rattle.ir_types_check.specs.Scope.{Scope}
use Rattle.ir_types_check.specs.Locals.{locals_of}
use Rattle.ir_types_check.specs.Tops.{tops_of}
use Rattle.ir_types_check.specs.Blocks.{closed, func_of, built_of}
use Rattle.ir_types_check.specs.Typed.{items_typed}

-- with a function, whose last block the end of its body closes
unfoldable pub with_built : Done → Head → Built → Done
with_built done head b = record { items = done.items ++ Func (func_of (length done.lines) head (closed b.blocks b.current)) ∷ []; lines = b.lines }

unfoldable pub resolved_function : Scope Top → ℕ → Done → Head → List Numbered → Result Done ResolveRefusal
resolved_function tops n done head body =
    locals_of n head body >>= λ l. built_of tops l.scope n done.lines head body >>= λ b. Ok (with_built done head b)

unfoldable pub with_kept : Done → Item → Done
with_kept done i = record { items = done.items ++ i ∷ []; lines = done.lines }

abbrev pub resolved_item : Scope Top → Done → DraftItem → Result Done ResolveRefusal
resolved_item tops done (item.Kept n kept) = Ok (with_kept done (Kept kept.text))
resolved_item tops done (item.Opaque n name text) = Ok (with_kept done (Opaque text))
resolved_item tops done (item.Func n head body) = resolved_function tops n done head body

-- the items of the module, or the first name that is unknown
abbrev pub resolved_items : Scope Top → Done → List DraftItem → Result Done ResolveRefusal
resolved_items tops done [] = Ok done
resolved_items tops done (x ∷ xs) = resolved_item tops done x >>= λ after. resolved_items tops after xs

-- the line n, where it says that the layout is big-endian
abbrev pub if_big : ℕ → Bool → Option ℕ
if_big n true = Some n
if_big n false = None

-- the line of an item that says so
abbrev pub big_line : DraftItem → Option ℕ
big_line (item.Kept n kept) = if_big n kept.big_endian
big_line _ = None

abbrev pub or_later : Option ℕ → Option ℕ → Option ℕ
or_later (Some n) later = Some n
or_later None later = later

-- the first line that says that the layout is big-endian
abbrev pub big_endian_line : List DraftItem → Option ℕ
big_endian_line [] = None
big_endian_line (x ∷ xs) = or_later (big_line x) (big_endian_line xs)

unfoldable pub module_of : Tops → List DraftItem → Done → Resolved
module_of tops items done = record {
  «module» = record { items = done.items; globals = tops.globals; big_endian_line = big_endian_line items };
  lines = done.lines;
}

-- the module of a draft's items, whose names are these
unfoldable pub resolved_with : Tops → List DraftItem → Result Resolved ResolveRefusal
resolved_with tops items =
    resolved_items tops.scope (record { items = []; lines = [] }) items >>= λ done.
    items_typed tops.scope items >>= λ _. Ok (module_of tops items done)

-- the module that a draft is, or the first that is wrong with it
unfoldable pub resolved_of : Draft → Result Resolved ResolveRefusal
resolved_of d = tops_of d.items >>= λ tops. resolved_with tops d.items
