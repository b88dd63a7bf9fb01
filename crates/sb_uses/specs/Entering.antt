-- What slots name after a head and a slot were made.
use Rattle.std.specs.Prelude.{◌≡◌, true}
use Rattle.std.specs.declared.option.Option.{Option}
use Rattle.ir_types.specs.declared.id.Id.{Id}
use Rattle.ir_types.specs.declared.id.Use.{Use}
use Rattle.sb_uses.specs.declared.chains.Chains.{Chains}
use Rattle.sb_uses.specs.Chains.{next, prev, known}

-- all name what they named, and no head or slot is gone
pub record IsEntered (s t : Chains) : Type 0 where
  pub next_is : (x : Id) (c : Option Use) → next t x c ≡ next s x c
  pub prev_is : (x : Id) (w : Use) → prev t x w ≡ prev s x w
  pub keeps : (x : Id) (c : Option Use) → known s x c ≡ true → known t x c ≡ true
