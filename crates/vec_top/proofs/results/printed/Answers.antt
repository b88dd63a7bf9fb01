-- What is printed of a module that is counted is read again.
use Rattle.std.proofs.Common.{rules, ◌≡◌, true}
use Rattle.rf_text.proofs.TextsAgain.{texts_again}
use Rattle.vec_top.specs.Counts.{are_counted}
use Rattle.vec_top.proofs.Counting.{counted}
use Rattle.vec_top.proofs.results.printed.Goals as goal

pub returns-in-Ok : goal.returns-in-Ok
returns-in-Ok c =
    let few : are_counted c.args.m.now ≡ true = search rules in
    (search rules, texts_again c.args.m.now c.requires.formed c.requires.printable c.requires.numbered (counted c.args.m.now few))
