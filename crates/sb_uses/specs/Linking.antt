-- What slots name after one of them was linked in or taken out.
use Rattle.std.specs.Prelude.{◌≡◌, cond, ◌&&◌}
use Rattle.std.specs.declared.option.Option.{Option}
use Rattle.std.specs.declared.option.Option.TheVariants.{Some}
use Rattle.ir_types.specs.declared.id.Id.{Id}
use Rattle.ir_types.specs.declared.id.Use.{Use}
use Rattle.ir_types.specs.Available.{same_id}
use Rattle.sb_uses.specs.declared.chains.Chains.{Chains}
use Rattle.sb_uses.specs.Chains.{next, prev, known, same_end, SameRoom}

-- the slot of `u` stands after `newer`, before what came after that
pub record IsLinked (s t : Chains) (v : Id) (newer : Option Use) (u : Use) : Type 0 where
  pub next_is : (x : Id) (c : Option Use) → next t x c ≡ cond (same_id v x && same_end newer c) (Some u) (cond (same_id v x && same_end (Some u) c) (next s v newer) (next s x c))
  pub prev_is : (x : Id) (w : Use) → prev t x w ≡ cond (same_id v x && same_end (next s v newer) (Some w)) (Some u) (cond (same_id v x && same_end (Some u) (Some w)) newer (prev s x w))
  pub known_is : (x : Id) (c : Option Use) → known t x c ≡ known s x c
  pub room : SameRoom s t

-- the neighbours of the slot of `u` name each other
pub record IsUnlinked (s t : Chains) (v : Id) (u : Use) : Type 0 where
  pub next_is : (x : Id) (c : Option Use) → next t x c ≡ cond (same_id v x && same_end (prev s v u) c) (next s v (Some u)) (next s x c)
  pub prev_is : (x : Id) (w : Use) → prev t x w ≡ cond (same_id v x && same_end (next s v (Some u)) (Some w)) (prev s v u) (prev s x w)
  pub known_is : (x : Id) (c : Option Use) → known t x c ≡ known s x c
  pub room : SameRoom s t
