use Rattle.std.proofs.Common.{◌≡◌, ◌++◌, drop}
use Rattle.vx_view.specs.Answers.{funcs_of}
use Rattle.vx_serial.specs.Regions as region
use Rattle.vx_seeds.proofs.module.add_items.Given as goal

abbrev pub invariant-loop-item : goal.invariant-loop-item
invariant-loop-item l = record {
  done : l.seeds.items ++ region.regions_of l.width l.number (funcs_of (drop l.item-index l.items)) ≡ l.fn.seeds.items ++ region.regions_of l.width 0 (funcs_of l.items);
  same : l.index ≡ l.fn.index;
  left : drop l.number (funcs_of l.items) ≡ funcs_of (drop l.item-index l.items);
}
