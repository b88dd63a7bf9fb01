-- Where the walks of an address come by: the values that they follow or stop at.
--
-- These are what a call may ask of a view beside the ids that it was handed.
use Rattle.std.specs.Prelude.{◌≡◌, refl, ℕ, zero, suc, Bool, true, false, ◌&&◌, ◌||◌, Option, None, Some, List, [], ◌∷◌}
use Rattle.ir_types.specs.declared.id.Id.{Id}
use Rattle.ir_types.specs.declared.opd.Opd.{Opd}
use Rattle.ir_types.specs.declared.op.Op.{Op}
use Rattle.ir_types.specs.declared.op.Op.TheVariants.{Bin, Gep}
use Rattle.ir_types.specs.declared.ty.Ty.TheVariants.{Int, Ptr}
use Rattle.ir_types.specs.declared.ty.Elem.TheVariants.{One}
use Rattle.vx_num.specs.declared.operations.BinOp.TheVariants.{Add}
use Rattle.ir_types.specs.declared.inst.Inst.{Inst}
use Rattle.ir_types.specs.declared.module.Module.{Module}
use Rattle.ir_types.specs.Available.{same_id}
use Rattle.vx_view.specs.declared.question.Question.{Question}
use Rattle.vx_view.specs.declared.question.Question.TheVariants as ask
use Rattle.vx_view.specs.Answers.{is_value, found, Standing}
use Rattle.vx_view.specs.Addresses.{Symbol, Offset, Walked, Led, Form, led_back, symbol_back, or_stay, pointers, form_of, start, block_of, value, number, line}
use Rattle.vx_view.specs.Conflicts.{Access, access_of}

-- ---- walks

-- a walk of pointers, with so many definitions to follow, comes by a value
abbrev pub on_pointers : ℕ → List Inst → Opd → Offset → Id → Bool
on_pointers zero block p o x = is_value x p
on_pointers (suc n) block p o x = is_value x p || or_stay false (led_back block p o) (λ led. on_pointers n block led.0 led.1 x)

abbrev pub is_symbol : Id → Option Symbol → Bool
is_symbol x None = false
is_symbol x (Some s) = same_id s.0 x

-- a walk of symbols does
abbrev pub on_symbols : ℕ → List Inst → Offset → Id → Bool
on_symbols zero block o x = is_symbol x o.symbol
on_symbols (suc n) block o x = is_symbol x o.symbol || or_stay false (symbol_back block o) (λ next. on_symbols n block next x)

abbrev pub on_from : List Inst → Walked → Id → Bool
on_from block w x = on_pointers w.left block w.pointer w.offset x

abbrev pub on_rest : List Inst → Walked → Id → Bool
on_rest block w x = on_symbols w.left block w.offset x

-- where a walk of pointers begins
abbrev pub first : Opd → Walked
first p = record { pointer = p; offset = start; left = 64 }

-- where it ends
abbrev pub end : List Inst → Walked → Walked
end block w = pointers w.left block w.pointer w.offset

-- the walks of the form of a pointer in a block come by a value
abbrev pub on_walks : List Inst → Opd → Id → Bool
on_walks block p x = on_from block (first p) x || on_rest block (end block (first p)) x

-- ---- questions

-- a question for the instruction or parameter of one of some ids
abbrev pub Names : (Id → Bool) → Question → Type 0
Names on q = (x : Id) × (q ≡ ask.Inst x) × (on x ≡ true)

-- what a form asks for: the user, and what its walks come by
abbrev pub form_names : Module → Id → Opd → Id → Bool
form_names m user p x = same_id user x || on_walks (block_of (found m user)) p x

abbrev pub on_access : List Inst → Option Access → Id → Bool
on_access block None x = false
on_access block (Some a) x = on_walks block a.pointer x

abbrev pub on_both : Option Standing → Option Standing → Id → Bool
on_both (Some i) (Some j) x = on_access i.block (access_of i.inst) x || on_access i.block (access_of j.inst) x
on_both _ _ x = false

-- what a conflict asks for: both instructions, and what the walks from their pointers come by
abbrev pub conflict_names : Module → Id → Id → Id → Bool
conflict_names m i j x = same_id i x || same_id j x || on_both (found m i) (found m j) x

-- ---- one step of a walk

-- a step was made, or the walk had ended
abbrev pub IsStep : List Inst → Walked → Walked → Bool → Type 0
IsStep block old new true = (end block old ≡ end block new) × ((x : Id) → on_from block new x ≡ true → on_from block old x ≡ true)
IsStep block old new false = (end block old ≡ old) × (new ≡ old)

-- what a getelementptr leads back to was followed, or there was none
abbrev pub Follows : Option Led → Walked → Walked → Bool → Type 0
Follows None old new on = (on ≡ false) × (new ≡ old)
Follows (Some led) old new on = (on ≡ true) × (new.pointer ≡ led.0) × (new.offset ≡ led.1) × (old.left ≡ suc new.left)

-- the form where the walk of symbols stands still
abbrev pub still : Walked → Form
still w = record { root = w.pointer; offset = w.offset }

-- the form of a pointer to which nothing is added
abbrev pub bare : Opd → Form
bare p = record { root = p; offset = start }

-- the same of the walk of symbols
abbrev pub IsSumStep : List Inst → Walked → Walked → Bool → Type 0
IsSumStep block old new true = (form_of block old ≡ form_of block new) × ((x : Id) → on_rest block new x ≡ true → on_rest block old x ≡ true)
IsSumStep block old new false = (form_of block old ≡ still old) × (new ≡ old)

abbrev pub FollowsSum : Option Offset → Walked → Walked → Bool → Type 0
FollowsSum None old new on = (on ≡ false) × (new ≡ old)
FollowsSum (Some o) old new on = (on ≡ true) × (new.pointer ≡ old.pointer) × (new.offset ≡ o) × (old.left ≡ suc new.left)

-- ---- a worked example: %2 = add %1, 1;  %3 = gep i8, %0, %2. The walks from %3 come by it and its base, by the sum that is its index,
-- and by what the sum adds to.

abbrev plain_add : Op
plain_add = Bin Add (record { nuw = false; nsw = false; exact = false; disjoint = false })

abbrev block : List Inst
block =
    line 2 (Int 64) plain_add (value 1 ∷ number 1 ∷ [])
    ∷ line 3 Ptr (Gep (One (Int 8)) false) (value 0 ∷ value 2 ∷ []) ∷ []

abbrev id : ℕ → Id
id k = record { region = 0; k = k }

by_all : on_walks block (value 3) (id 3) && on_walks block (value 3) (id 0) && on_walks block (value 3) (id 2) && on_walks block (value 3) (id 1) ≡ true
by_all = refl

not_by_another : on_walks block (value 3) (id 5) ≡ false
not_by_another = refl
