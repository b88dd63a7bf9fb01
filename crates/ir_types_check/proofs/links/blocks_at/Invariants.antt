-- The blocks so far, with those of the places that are left, are all.
use Rattle.std.proofs.Common.{◌≡◌, ◌++◌, drop, map}
use Rattle.ir_types_check.specs.Links.{block_at}
use Rattle.ir_types_check.proofs.links.blocks_at.Given as goal

abbrev pub invariant-loop-place : goal.invariant-loop-place
invariant-loop-place l = l.found ++ map (block_at l.blocks) (drop l.place-index l.places) ≡ map (block_at l.blocks) l.places
