use Rattle.std.proofs.Common.{sym, subst, ap, ◌∙◌, ◌<◌, length, option_map, IfSome, Option}
use Rattle.vx_serial.specs.declared.pairing.scan.Found.{Found}
use Rattle.vx_serial.specs.PairScan.{leads_in, with_found}
use Rattle.vx_serial.proofs.Scan.{scan_pairs, scan_orders, if_ok_then}
use Rattle.vx_serial.proofs.pairing.scan.first_pair.Goals as goal

pub returns : goal.returns
returns c = record {
  pair = if_ok_then c.scanned.result
      (λ found e. scan_pairs (leads_in c.args.known.now.table) c.args.insts.now ∙ ap (option_map (with_found c.args.insts.now)) (sym e)) c.scanned.ensures;
  order = if_ok_then c.scanned.result
      (λ found e. subst (λ (o : Option Found). IfSome o (λ f. (f.first < f.second) × (f.second < length c.args.insts.now))) (sym e)
      (scan_orders (leads_in c.args.known.now.table) c.args.insts.now)) c.scanned.ensures;
}
