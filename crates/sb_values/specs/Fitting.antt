-- Whether a change fits, as it is tested: each condition by cases, of what is found by id.
use Rattle.std.specs.Prelude.{◌≡◌, refl, ℕ, Bool, true, false, not, ◌&&◌, ◌||◌, nat_lt, Option, None, Some, List, [], ◌∷◌, length, slice_get, is_some, option_map}
use Rattle.ir_types.specs.declared.id.Id.{Id}
use Rattle.ir_types.specs.declared.ty.Ty.{Ty}
use Rattle.ir_types.specs.declared.op.Op.{Op}
use Rattle.ir_types.specs.declared.opd.Opd.{Opd}
use Rattle.ir_types.specs.declared.opd.Opd.TheVariants.{Val, Lit, Sym}
use Rattle.ir_types.specs.declared.inst.Inst.{Inst}
use Rattle.ir_types.specs.declared.module.Module.{Module}
use Rattle.ir_types.specs.Available.{same_id}
use Rattle.ir_types.specs.Typed.{same_ty}
use Rattle.ir_types.specs.Formed.{is_phi, is_alloca, is_terminator}
use Rattle.vx_view.specs.declared.change.Change.{Change}
use Rattle.vx_view.specs.declared.change.Change.TheVariants.{Insert, Remove, Move, Replace, SetOperand}
use Rattle.vx_view.specs.Answers.{funcs_of, found, value, line, doubles}
use Rattle.vx_view.specs.Changes.{ty_in}
use Rattle.vx_view.specs.Uses.{lifted}
use Rattle.vx_view.specs.UsesAfter.{Contents}
use Rattle.vx_view.specs.Views.{same_place}
use Rattle.sb_uses.specs.Places.{is_some_use}
use Rattle.sb_lines.specs.Arena.{Told, told_of}
use Rattle.sb_lines.specs.Params.{spot_from}

-- ---- what is there

-- the instruction of an id, with its block
abbrev pub told : Module → Id → Option Told
told m id = option_map told_of (found m id)

abbrev pub stands : Option Told → (Told → Bool) → Bool
stands None test = false
stands (Some t) test = test t

-- an id of the module
abbrev pub is_known : Module → Id → Bool
is_known m id = is_some (spot_from id 0 (funcs_of m.items)) || is_some (told m id)

abbrev pub is_there : Module → Opd → Bool
is_there m (Val id) = is_known m id
is_there m (Lit l) = true
is_there m (Sym g) = nat_lt g (length m.globals)

abbrev pub all_there : Module → List Opd → Bool
all_there m [] = true
all_there m (o ∷ os) = is_there m o && all_there m os

-- ---- what may go where

-- an instruction may stand before it
abbrev pub is_place : Op → Bool
is_place op = not (is_phi op)

abbrev pub is_movable : Op → Bool
is_movable op = not (is_phi op) && not (is_terminator op)

abbrev pub is_removable : Op → Bool
is_removable op = not (is_phi op) && not (is_alloca op) && not (is_terminator op)

-- ---- types of operands

abbrev pub same_types : Option Ty → Option Ty → Bool
same_types None None = true
same_types (Some t) (Some u) = same_ty t u
same_types _ _ = false

abbrev pub same_type : Module → ℕ → Opd → Opd → Bool
same_type m func old new = same_types (ty_in m new (slice_get (funcs_of m.items) func)) (ty_in m old (slice_get (funcs_of m.items) func))

abbrev pub holds : Option Opd → (Opd → Bool) → Bool
holds None test = false
holds (Some o) test = test o

-- ---- changes

abbrev pub fits_insert : Contents → Id → Inst → Bool
fits_insert s x new = stands (told s.own x) (λ t. is_place t.inst.op) && not (is_known s.own new.id) && all_there s.own new.opds

abbrev pub fits_remove : Contents → Id → Bool
fits_remove s x = stands (told s.own x) (λ t. is_removable t.inst.op) && not (is_some_use (s.lists x))

abbrev pub fits_move : Contents → Id → Id → Bool
fits_move s y x =
    stands (told s.own x) (λ t. is_place t.inst.op && stands (told s.own y) (λ u. same_place u.place t.place && is_movable u.inst.op)) && not (same_id y x)

abbrev pub fits_replace : Contents → Inst → Bool
fits_replace s new = stands (told s.own new.id) (λ t. same_ty t.inst.ty new.ty) && all_there s.own new.opds

abbrev pub fits_operand : Contents → Id → ℕ → Opd → Bool
fits_operand s x slot o =
    stands (told s.own x) (λ t. holds (slice_get t.inst.opds slot) (λ old. same_type s.own t.place.func old o)) && is_there s.own o

abbrev pub fits : Contents → Change → Bool
fits s (Insert x new) = fits_insert s x new
fits s (Remove x) = fits_remove s x
fits s (Move y x) = fits_move s y x
fits s (Replace new) = fits_replace s new
fits s (SetOperand x slot o) = fits_operand s x slot o

-- ---- worked examples, in the function of a sum 1 of the parameter 0 with itself, and a return 2

abbrev read : Contents
read = record { own = doubles; lists = lifted doubles }

-- what has a use does not go
the_sum_stays : fits read (Remove (value 1)) ≡ false
the_sum_stays = refl

-- what names an id that is not there does not come
no_such_operand : fits read (Insert (value 2) (line 9 (Val (value 7) ∷ []))) ≡ false
no_such_operand = refl

before_the_return : fits read (Insert (value 2) (line 9 (Val (value 1) ∷ []))) ≡ true
before_the_return = refl

-- the sum is given as nothing here, and the parameter as 8 bits
other_type : fits read (SetOperand (value 2) 0 (Val (value 0))) ≡ false
other_type = refl
