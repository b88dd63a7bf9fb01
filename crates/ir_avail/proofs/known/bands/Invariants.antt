use Rattle.ir_avail.specs.Known.{AreBands}
use Rattle.ir_avail.proofs.known.bands.Given as goal

abbrev pub invariant-loop-part : goal.invariant-loop-part
invariant-loop-part l = AreBands l.graph l.bands.items
