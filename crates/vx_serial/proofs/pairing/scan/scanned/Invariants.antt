use Rattle.std.proofs.Common.{◌≡◌, ◌+◌, None, length}
use Rattle.vx_serial.specs.PairScan.{leads_in, scan}
use Rattle.vx_serial.proofs.pairing.scan.scanned.Given as goal

abbrev pub invariant-loop-rest : goal.invariant-loop-rest
invariant-loop-rest l = record {
  same : scan (leads_in l.known.table) l.waiting l.at l.rest ≡ scan (leads_in l.fn.known.table) None 0 l.fn.insts;
  counted : l.at + length l.rest ≡ length l.fn.insts;
}

abbrev pub decreases-loop-rest : goal.decreases-loop-rest
decreases-loop-rest l = length l.rest
