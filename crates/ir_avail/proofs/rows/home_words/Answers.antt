use Rattle.ir_avail.proofs.Bits.{no_homes}
use Rattle.ir_avail.proofs.rows.home_words.Goals as goal

pub loop-column-init : goal.loop-column-init
loop-column-init c = no_homes c.args.homes.now c.in_ok-words.words.items c.in_ok-words.ensures
