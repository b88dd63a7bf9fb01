use Rattle.ir_avail.proofs.Bits.{band_made, band_full}
use Rattle.ir_avail.proofs.rows.Band.new.Goals as goal

pub returns-then-is_closed : goal.returns-then-is_closed
returns-then-is_closed c =
    band_made c.args.graph.now c.args.homes.now c.in_ok-homes.homes.items c.in_ok-words.words.items c.deref-2.result.now c.in_ok-rows.rows.items
    c.deref-3.result.now c.in_ok-homes.ensures.items c.deref-2.ensures.value c.deref-3.ensures.value c.in_ok-words.ensures
    (c.is_closed.ensures.closed c.if-is_closed.true) (c.is_closed.ensures.entry c.if-is_closed.true)

pub returns : goal.returns
returns c = band_full c.args.graph.now c.in_ok-homes.homes.items c.in_ok-rows-2.rows.items c.in_ok-rows-2.ensures
