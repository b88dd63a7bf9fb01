-- The names of the keys that were passed are not the name.
use Rattle.std.proofs.Common.{◌≡◌, ◌<◌}
use Rattle.vx_cost.specs.Keys as keys
use Rattle.vx_cost.specs.declared.key.Key.{Key}
use Rattle.vx_cost.specs.declared.key.TheConstants.{KEYS}
use Rattle.vx_cost.proofs.key.Key.named.Given as goal

abbrev pub invariant-loop-key : goal.invariant-loop-key
invariant-loop-key l = record {
  all : l.key-items ≡ KEYS;
  passed : (key : Key) → keys.place_of key < l.key-index → keys.name_of key ≡ l.name → ⊥;
}
