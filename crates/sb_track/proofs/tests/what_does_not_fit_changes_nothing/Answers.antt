-- Notes are open until they are closed.
use Rattle.vx_view.specs.declared.question.Question.TheVariants as ask
use Rattle.sb_track.specs.Tracking.{seen}
use Rattle.sb_track.proofs.Agreeing.{open_still}
use Rattle.sb_track.proofs.tests.what_does_not_fit_changes_nothing.Goals as goal

pub noted-reads-requires-clause-opened : goal.noted-reads-requires-clause-opened
noted-reads-requires-clause-opened g c h =
    open_still (seen c.reserve.new.self) (seen c.note.new.self) (seen c.ask.new.self) (seen c.ask-2.new.self) (ask.First (record { func = 0; block = 0 })) c.in_ok-ask.field-0 c.in_ok-ask-2.field-0
    c.note.ensures c.in_ok-ask.ensures.noted c.in_ok-ask-2.ensures.noted h
