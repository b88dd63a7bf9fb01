-- The row is taken out and put back with one more.
use Rattle.std.proofs.Common.{ap, ◌∙◌}
use Rattle.std.specs.Prelude.{slice_set}
use Rattle.ir_types_check.proofs.Rows.{put_row}
use Rattle.ir_types_check.proofs.edges.add_edge.Goals as goal

pub returns-in_ok-push : goal.returns-in_ok-push
returns-in_ok-push c =
    put_row _ _ _ _ _ _ _ c.replace-row.ensures.was (c.replace-row.ensures.now ∙ ap (slice_set c.args.sources.now c.args.to) c.new.ensures) c.in_ok-push.ensures.ok c.replace.ensures.now
