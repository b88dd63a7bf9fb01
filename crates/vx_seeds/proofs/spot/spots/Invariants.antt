use Rattle.std.proofs.Common.{◌≡◌, take}
use Rattle.vx_serial.specs.Regions as region
use Rattle.vx_seeds.specs.Spots.{as_spots}
use Rattle.vx_seeds.proofs.spot.spots.Given as goal

abbrev pub invariant-loop-inst : goal.invariant-loop-inst
invariant-loop-inst l = record {
  done : as_spots l.spots.items ≡ region.spots_among l.block (take l.inst-index l.block);
  same : l.index ≡ l.fn.index;
}
