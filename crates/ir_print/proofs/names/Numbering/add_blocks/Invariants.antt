-- What is there with what is left is the whole.
use Rattle.std.proofs.Common.{◌≡◌, ◌++◌, drop}
use Rattle.ir_print.specs.Names.{locals_from, labels_from, blocks_named}
use Rattle.ir_print.proofs.names.Numbering.add_blocks.Given as goal

abbrev pub invariant-loop-block : goal.invariant-loop-block
invariant-loop-block l = record {
  locals : l.self.locals.items ++ locals_from l.self.next (blocks_named (drop l.block-index l.blocks)) ≡ l.fn.self.locals.items ++ locals_from l.fn.self.next (blocks_named l.blocks);
  labels : l.self.labels.items ++ labels_from l.self.next (blocks_named (drop l.block-index l.blocks)) ≡ l.fn.self.labels.items ++ labels_from l.fn.self.next (blocks_named l.blocks);
}
