-- When one lane, or what one operation came to, may stand in place of another: the other is poison
-- or undefined, or both are the same.
use Rattle.std.specs.Prelude.{◌≡◌, ℕ, true, ⊤}
use Rattle.std.specs.declared.option.Option.{Option}
use Rattle.std.specs.declared.option.Option.TheVariants.{None, Some}
use Rattle.vx_num.specs.declared.lanes.Done.{Done}
use Rattle.vx_num.specs.declared.lanes.Done.TheVariants.{Value, Undefined}
use Rattle.vx_num.specs.declared.operations.Flags.{Flags}

-- the new lane stands for the old one
abbrev pub LaneRefines : Option ℕ → Option ℕ → Type 0
LaneRefines new None = ⊤
LaneRefines new (Some n) = new ≡ Some n

-- what the new operation came to stands for what the old one did
abbrev pub DoneRefines : Done → Done → Type 0
DoneRefines new Undefined = ⊤
DoneRefines (Value new) (Value old) = LaneRefines new old
DoneRefines Undefined (Value old) = ⊥

-- each flag of the first is one of the second
pub record Fewer (g f : Flags) : Type 0 where
  pub nuw : g.nuw ≡ true → f.nuw ≡ true
  pub nsw : g.nsw ≡ true → f.nsw ≡ true
  pub exact : g.exact ≡ true → f.exact ≡ true
  pub disjoint : g.disjoint ≡ true → f.disjoint ≡ true
