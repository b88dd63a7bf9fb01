use Rattle.std.proofs.Common.{◌≡◌, ◌++◌, drop, map}
use Rattle.vx_deps.specs.Orders.{place_of}
use Rattle.vx_deps.proofs.window.groups_in.Given as goal

abbrev pub invariant-loop-bundle : goal.invariant-loop-bundle
invariant-loop-bundle l = l.groups ++ map (map (place_of l.ids)) (drop l.bundle-index l.bundles) ≡ map (map (place_of l.ids)) l.bundles
