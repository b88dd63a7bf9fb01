use Rattle.std.proofs.Common.{◌≡◌, ◌++◌, drop, map}
use Rattle.vx_deps.specs.Orders.{place_of}
use Rattle.vx_deps.proofs.window.places.Given as goal

abbrev pub invariant-loop-id : goal.invariant-loop-id
invariant-loop-id l = l.places ++ map (place_of l.ids) (drop l.id-index l.bundle) ≡ map (place_of l.ids) l.bundle
