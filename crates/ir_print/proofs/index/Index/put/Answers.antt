-- The place that is put is found, and the others are as before.
use Rattle.std.proofs.Common.{Some, refl, sym, ◌∙◌}
use Rattle.std.specs.Vec.{with_item}
use Rattle.ir_print.proofs.Rows.{put_in_row}
use Rattle.ir_print.proofs.index.Index.put.Goals as goal

pub returns-in-Some : goal.returns-in-Some
returns-in-Some c = λ other.
    put_in_row c.args.self.now (record { region = c.args.self.now.region; first = c.args.self.now.first; row = with_item c.args.self.now.row c.in-Some.slot (Some c.args.place); others = c.args.self.now.others })
    c.args.id other c.in-Some.slot c.args.place (sym c.slot.ensures.slot ∙ c.in-Some.is) c.in-Some.ensures.within refl refl refl refl
