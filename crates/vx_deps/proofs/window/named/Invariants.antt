use Rattle.std.proofs.Common.{◌≡◌, ◌++◌, [], drop, map, get_or}
use Rattle.vx_deps.specs.Orders.{ids_at}
use Rattle.vx_deps.proofs.window.named.Given as goal

abbrev pub invariant-loop-number : goal.invariant-loop-number
invariant-loop-number l = l.named ++ map (λ g. ids_at l.ids (get_or l.groups g [])) (drop l.number-index l.numbers) ≡ map (λ g. ids_at l.ids (get_or l.groups g [])) l.numbers
