use Rattle.std.proofs.Common.{◌≡◌, ◌++◌, drop}
use Rattle.ir_types.specs.Available.{graph_of}
use Rattle.vx_serial.specs.Regions as region
use Rattle.vx_seeds.proofs.module.add_func.Given as goal

abbrev pub invariant-loop-block : goal.invariant-loop-block
invariant-loop-block l = record {
  done : l.seeds.items ++ region.regions_in l.width l.number (graph_of l.func) l.at (drop l.block-index l.func.blocks)
      ≡ l.fn.seeds.items ++ region.regions_in l.width l.number (graph_of l.func) 0 l.func.blocks;
  same : l.index ≡ l.fn.index;
  at : l.at ≡ l.block-index;
}
