-- Where a use that was taken out comes back, and what is remembered of it.
use Rattle.std.specs.Prelude.{◌≡◌, true, false}
use Rattle.std.specs.declared.option.Option.{Option}
use Rattle.std.specs.declared.option.Option.TheVariants.{None, Some}
use Rattle.ir_types.specs.declared.id.Id.{Id}
use Rattle.ir_types.specs.declared.id.Use.{Use}
use Rattle.sb_uses.specs.declared.chains.Chains.{Chains}
use Rattle.sb_uses.specs.declared.use_lists.Spot.{Spot}
use Rattle.sb_uses.specs.Chains.{known, lists}
use Rattle.sb_uses.specs.Places.{has, stands}

-- every head and every slot of the one is in the other
abbrev pub Keeps : Chains → Chains → Type 0
Keeps s t = (x : Id) (c : Option Use) → known s x c ≡ true → known t x c ≡ true

-- a use can be put back: its list lacks it, has its newer neighbour, and its head and its slot are still there
pub record CanPutBack (s : Chains) (v : Id) (u : Use) (spot : Spot) : Type 0 where
  pub lacks : has u (lists s v) ≡ false
  pub place : stands spot.newer (lists s v) ≡ true
  pub head : known s v None ≡ true
  pub slot : known s v (Some u) ≡ true
