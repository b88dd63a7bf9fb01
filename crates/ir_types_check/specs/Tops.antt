-- The names of a module: kept lines `@name = ..`, functions and opaque items have one namespace. A `declare` line defines nothing.
use Rattle.std.specs.Prelude.{ℕ, Bool, true, false, Option, None, Some, Result, Ok, List, [], ◌∷◌, ◌++◌, length, map}
use Rattle.ir_types.specs.declared.func.Param.{Param}
use Rattle.ir_draft.specs.declared.head.Head.{Head}
use Rattle.ir_draft.specs.declared.draft.Numbered.{Numbered}
use Rattle.ir_draft.specs.declared.draft.DraftItem.{DraftItem}
use Rattle.ir_draft.specs.declared.draft.DraftItem.TheVariants as item
use Rattle.ir_types_check.specs.declared.tops.Signature.{Signature}
use Rattle.ir_types_check.specs.declared.tops.Top.{Top}
use Rattle.ir_types_check.specs.declared.tops.Top.TheVariants.{Global, Function, Other}
use Rattle.ir_types_check.specs.declared.tops.Tops.{Tops}
use Rattle.ir_types_check.specs.declared.refusal.ResolveRefusal.{ResolveRefusal}
use Rattle.ir_types_check.specs.Answers.{◌>>=◌}
use Rattle.ir_types_check.specs.Scope.{define, of_module}
use Rattle.ir_types_check.specs.Locals.{locals_of}

-- with a name that the line n defines and that is no global
unfoldable pub with_top : ℕ → Tops → List ℕ → Top → Result Tops ResolveRefusal
with_top n t name top = define n of_module name top t.scope >>= λ scope. Ok (record { scope = scope; globals = t.globals })

-- with a global, which takes the next number
unfoldable pub with_global : ℕ → Tops → List ℕ → Result Tops ResolveRefusal
with_global n t name = define n of_module name (Global (length t.globals)) t.scope >>= λ scope. Ok (record { scope = scope; globals = t.globals ++ name ∷ [] })

-- with the symbol of a kept line, if it has one
abbrev pub with_symbol : ℕ → Tops → Bool → Option (List ℕ) → Result Tops ResolveRefusal
with_symbol n t global None = Ok t
with_symbol n t true (Some name) = with_global n t name
with_symbol n t false (Some name) = with_top n t name Other

-- with the name of an opaque function, if it has one
abbrev pub with_opaque : ℕ → Tops → Option (List ℕ) → Result Tops ResolveRefusal
with_opaque n t None = Ok t
with_opaque n t (Some name) = with_top n t name Other

-- what a header gives and takes
abbrev pub signature_of : Head → Signature
signature_of head = record { ret = head.ret; params = map (λ (p : Param). p.ty) head.params }

-- with a function; its own names come after its name
unfoldable pub with_function : ℕ → Tops → Head → List Numbered → Result Tops ResolveRefusal
with_function n t head body = with_top n t head.name (Function (signature_of head)) >>= λ after. locals_of n head body >>= λ _. Ok after

abbrev pub with_item : Tops → DraftItem → Result Tops ResolveRefusal
with_item t (item.Kept n kept) = with_symbol n t kept.global kept.symbol
with_item t (item.Opaque n name text) = with_opaque n t name
with_item t (item.Func n head body) = with_function n t head body

abbrev pub with_items : Tops → List DraftItem → Result Tops ResolveRefusal
with_items t [] = Ok t
with_items t (x ∷ xs) = with_item t x >>= λ after. with_items after xs

-- the names of a module, or the first that is defined twice, in it or in a function
abbrev pub tops_of : List DraftItem → Result Tops ResolveRefusal
tops_of items = with_items (record { scope = []; globals = [] }) items
