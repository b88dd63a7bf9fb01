-- The parts of `resolved_of` in the order in which they are found: first the names of the module, then, function by function, the
-- function's names, what its lines use, and its types. What is found out of order is kept aside.
use Rattle.std.specs.Prelude.{◌≡◌, ℕ, Option, None, Some, Result, Ok, Err, List, [], ◌∷◌}
use Rattle.ir_types.specs.declared.op.Op.{Op}
use Rattle.ir_draft.specs.declared.draft.Numbered.{Numbered}
use Rattle.ir_draft.specs.declared.draft.DraftItem.{DraftItem}
use Rattle.ir_draft.specs.declared.draft.DraftItem.TheVariants as item
use Rattle.ir_types_check.specs.declared.locals.Meaning.{Meaning}
use Rattle.ir_types_check.specs.declared.tops.Top.TheVariants.{Function}
use Rattle.ir_types_check.specs.declared.tops.Tops.{Tops}
use Rattle.ir_types_check.specs.declared.building.Done.{Done}
use Rattle.ir_types_check.specs.declared.refusal.ResolveRefusal.{ResolveRefusal}
use Rattle.ir_types_check.specs.declared.refusal.ResolveRefusal.TheVariants.{IllTyped}
use Rattle.ir_types_check.specs.Answers.{◌>>=◌, Refuses}
use Rattle.ir_types_check.specs.Scope.{Scope}
use Rattle.ir_types_check.specs.Links.{cases_of, op_of}
use Rattle.ir_types_check.specs.Locals.{locals_of}
use Rattle.ir_types_check.specs.Tops.{with_top, with_symbol, with_opaque, signature_of, tops_of}

-- with the name of an item, those inside a function left out
abbrev pub with_head : Tops → DraftItem → Result Tops ResolveRefusal
with_head t (item.Kept n kept) = with_symbol n t kept.global kept.symbol
with_head t (item.Opaque n name text) = with_opaque n t name
with_head t (item.Func n head body) = with_top n t head.name (Function (signature_of head))

abbrev pub with_heads : Tops → List DraftItem → Result Tops ResolveRefusal
with_heads t [] = Ok t
with_heads t (x ∷ xs) = with_head t x >>= λ after. with_heads after xs

-- nothing, or the first name inside a function that is defined twice
abbrev pub own_names : DraftItem → Result (Unit {0}) ResolveRefusal
own_names (item.Func n head body) = locals_of n head body >>= λ _. Ok tt
own_names _ = Ok tt

abbrev pub all_own_names : List DraftItem → Result (Unit {0}) ResolveRefusal
all_own_names [] = Ok tt
all_own_names (x ∷ xs) = own_names x >>= λ _. all_own_names xs

-- the operation with these blocks, where these lines follow it
abbrev pub op_with : Scope Meaning → List ℕ → Op → List Numbered → Result Op ResolveRefusal
op_with locals blocks op rest = cases_of locals op rest >>= λ cases. Ok (op_of blocks cases op)

-- these are the names of the module, if no function defines one twice; or the refusal is that of the first that is defined twice
abbrev pub GivesTops : Result Tops ResolveRefusal → List DraftItem → Type 0
GivesTops (Ok tops) items = tops_of items ≡ (all_own_names items >>= λ _. Ok tops)
GivesTops (Err refusal) items = Refuses refusal (tops_of items)

-- what is said where this line is the first that is ill typed, if one is
abbrev pub told : Option ℕ → Result (Unit {0}) ResolveRefusal
told None = Ok tt
told (Some n) = Err (IllTyped n)

-- the first that is ill typed: the one that was told, or else what is found after it
abbrev pub first_told : Option ℕ → Result (Unit {0}) ResolveRefusal → Result (Unit {0}) ResolveRefusal
first_told ill later = told ill >>= λ _. later

-- what is made of the items so far, where no name in them is unknown
abbrev pub where_known : Result Done ResolveRefusal → (Done → Result Done ResolveRefusal) → Result Done ResolveRefusal
where_known linked f = linked >>= f
