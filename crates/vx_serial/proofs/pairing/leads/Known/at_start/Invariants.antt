use Rattle.std.proofs.Common.{◌≡◌, take}
use Rattle.vx_serial.specs.Pair.{leads_at_start}
use Rattle.vx_serial.specs.PairScan.{leads_in}
use Rattle.vx_serial.proofs.pairing.leads.Known.at_start.Given as goal

abbrev pub invariant-loop-param : goal.invariant-loop-param
invariant-loop-param l = leads_in l.known.table ≡ leads_at_start (take l.param-index l.params)
