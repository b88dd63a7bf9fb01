-- What was answered is so in each module that the view then stands for.
use Rattle.std.proofs.Common.{◌≡◌}
use Rattle.vx_view.specs.Answers.{answer}
use Rattle.sb_values.specs.Sandboxes.{contents}
use Rattle.sb_track.proofs.Agreeing.{asked_tracked, asked_holds, asked_own}
use Rattle.sb_track.proofs.track.Track.ask.Goals as goal

pub returns-clause-tracked : goal.returns-clause-tracked
returns-clause-tracked c =
    let e : answer (contents c.args.self.now.sand).own c.args.question.now ≡ c.in_ok-answer.answer = c.in_ok-answer.ensures in
    asked_tracked c.args.question.now c.in_ok-answer.answer c.args.self.now c.note_down.new.self c.note_down.ensures.sand c.note_down.ensures.undos c.note_down.ensures.mark c.in_ok-note_down.ensures.ok
    c.requires.tracked c.requires.askable e

pub returns-clause-answers : goal.returns-clause-answers
returns-clause-answers c =
    let e : answer (contents c.args.self.now.sand).own c.args.question.now ≡ c.in_ok-answer.answer = c.in_ok-answer.ensures in
    asked_holds c.args.question.now c.in_ok-answer.answer c.args.self.now c.note_down.new.self c.note_down.ensures.sand c.note_down.ensures.undos c.note_down.ensures.mark c.in_ok-note_down.ensures.ok
    c.requires.tracked e

pub returns-clause-own : goal.returns-clause-own
returns-clause-own c =
    let e : answer (contents c.args.self.now.sand).own c.args.question.now ≡ c.in_ok-answer.answer = c.in_ok-answer.ensures in
    asked_own c.args.question.now c.in_ok-answer.answer c.args.self.now c.note_down.new.self c.note_down.ensures.sand c.note_down.ensures.undos c.note_down.ensures.mark c.in_ok-note_down.ensures.ok
    c.requires.tracked e
