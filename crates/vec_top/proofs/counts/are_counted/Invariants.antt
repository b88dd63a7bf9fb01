-- Those that are left decide.
use Rattle.std.proofs.Common.{◌≡◌, drop}
use Rattle.std.specs.List.{list_all}
use Rattle.vec_top.specs.Counts.{is_counted}
use Rattle.vec_top.proofs.counts.are_counted.Given as goal

abbrev pub invariant-loop-item : goal.invariant-loop-item
invariant-loop-item l = list_all is_counted (drop l.item-index l.m.items) ≡ list_all is_counted l.m.items
