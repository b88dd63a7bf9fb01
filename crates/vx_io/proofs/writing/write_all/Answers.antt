-- A write that took a front of the rest leaves a longer front taken.
use Rattle.std.proofs.Common.{◌∙◌}
use Rattle.vx_io.proofs.Moves.{Appends-front_more, within_rest, UsesRoom-more}
use Rattle.vx_io.proofs.writing.write_all.Goals as goal

pub loop-done-preserved : goal.loop-done-preserved
loop-done-preserved g c = record {
  in_range = within_rest c.args.bytes.now _ _ c.loop-done.invariant.in_range c.in-Ok.ensures.bound;
  front = Appends-front_more _ _ _ c.args.bytes.now _ _ c.loop-done.invariant.front c.in-Ok.ensures.bytes;
  quiet = c.in-Ok.ensures.kept ∙ c.loop-done.invariant.quiet;
  room = UsesRoom-more _ _ _ _ _ c.loop-done.invariant.room c.in-Ok.ensures.uses;
}
