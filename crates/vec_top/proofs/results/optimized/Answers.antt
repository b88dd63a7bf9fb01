-- What `opt` makes of a module that is counted is one module, which refines it and is read again.
use Rattle.std.proofs.Common.{rules, ◌≡◌, true, refl}
use Rattle.vx_serial.specs.Pair.{pair_of}
use Rattle.rf_pack.proofs.Modules.{pair_refines-proof}
use Rattle.rf_formed.proofs.PairedPrintable.{pair_again}
use Rattle.vec_top.specs.Counts.{are_counted}
use Rattle.vec_top.proofs.Counting.{counted}
use Rattle.vec_top.proofs.results.optimized.Goals as goal

pub returns-in-Ok-print : goal.returns-in-Ok-print
returns-in-Ok-print c =
    let few : are_counted c.args.m ≡ true = search rules in (
      search rules,
      (pair_of c.args.m, record { written = refl; made = refl; refines = pair_refines-proof c.args.m; again = pair_again c.args.m c.requires.formed c.requires.printable (counted c.args.m few) }),
    )
