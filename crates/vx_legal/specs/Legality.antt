-- How a bundle of lanes is had, but for the order of bundles: what is decided before any window has to be put in order.
--
-- The rules are those of `legal`, in their order. Lanes that no rule takes fit; they are widened where the bundles so far and these have
-- an order, and else are packed for want of one.
use Rattle.std.specs.Prelude.{◌≡◌, refl, ℕ, Bool, true, false, Option, None, Some, List, [], ◌∷◌, option_map}
use Rattle.std.specs.Int.{int_wrap}
use Rattle.ir_types.specs.declared.id.Id.{Id}
use Rattle.ir_types.specs.declared.opd.Opd.{Opd}
use Rattle.ir_types.specs.declared.inst.Inst.{Inst}
use Rattle.ir_types.specs.declared.module.Module.{Module}
use Rattle.vx_view.specs.Addresses.{value, number}
use Rattle.vx_serial.specs.declared.cause.Cause.{Cause}
use Rattle.vx_serial.specs.declared.cause.Cause.TheVariants.{Constants, Outside, Kind, Unlike, Repeated, Apart, Cycle}
use Rattle.vx_serial.specs.declared.node.How.{How}
use Rattle.vx_serial.specs.declared.node.How.TheVariants as had
use Rattle.vx_serial.specs.declared.node.Node.{Node}
use Rattle.vx_serial.specs.Window.{id}
use Rattle.vx_serial.specs.Legal.{reused, identity, early_causes, first_cause, insts_of, adding, sums_of}
use Rattle.vx_legal.specs.declared.legality.Legality.{Legality}
use Rattle.vx_legal.specs.declared.legality.Legality.TheVariants.{Reuse, Ident, Pack, Fits}

abbrev pub packed : Option Cause → Legality
packed None = Fits
packed (Some cause) = Pack cause

abbrev pub or_else : Option Legality → Legality → Legality
or_else None other = other
or_else (Some known) other = known

-- how lanes are had in a block of a module, where a region's last store is `last` and these nodes stand already
abbrev pub legality : Module → List Inst → Id → List Node → List Opd → Legality
legality m block last tree lanes =
    or_else (option_map Reuse (reused 0 lanes tree))
    (or_else (option_map Ident (identity m block lanes))
    (packed (first_cause (early_causes m block last tree lanes (insts_of block lanes)))))

-- what fits is widened, but where the bundles have no order
abbrev pub unless_cycle : Bool → How
unless_cycle true = had.Pack Cycle
unless_cycle false = had.Widen

abbrev pub as_how : Bool → Legality → How
as_how cycle (Reuse number) = had.Reuse number
as_how cycle (Ident vector) = had.Ident vector
as_how cycle (Pack cause) = had.Pack cause
as_how cycle Fits = unless_cycle cycle

-- ---- worked examples, in the block of two sums that are stored side by side

abbrev sums : List Inst
sums = sums_of 0

abbrev stored : Node
stored = record { lanes = value 6 ∷ value 7 ∷ []; how = had.Widen; slots = [] }

abbrev told : List Node → ℕ → ℕ → Legality
told tree a b = legality (adding sums) sums (id 7) tree (value a ∷ value b ∷ [])

stores_fit : told [] 6 7 ≡ Fits
unfolding int_wrap
stores_fit = refl

sums_fit : told (stored ∷ []) 2 4 ≡ Fits
unfolding int_wrap
sums_fit = refl

again : told (stored ∷ []) 6 7 ≡ Reuse 0
again = refl

unlike : told (stored ∷ []) 2 3 ≡ Pack Unlike
unlike = refl

repeated : told (stored ∷ []) 2 2 ≡ Pack Repeated
repeated = refl

outside : told (stored ∷ []) 2 0 ≡ Pack Outside
outside = refl

constants : legality (adding sums) sums (id 7) (stored ∷ []) (number 1 ∷ number 2 ∷ []) ≡ Pack Constants
constants = refl

no_store : told (stored ∷ []) 7 6 ≡ Pack Kind
no_store = refl

backwards : told [] 7 6 ≡ Pack Apart
unfolding int_wrap
backwards = refl
