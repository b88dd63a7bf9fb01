-- What is known after the line goes by its form.
use Rattle.std.proofs.Common.{◌∙◌, sym, ap, Ok}
use Rattle.ir_lex.proofs.Laws.{lexed_by_cut}
use Rattle.ir_read.proofs.LineForms.{without_fault, seen_line}
use Rattle.ir_read.proofs.survey.note_outside.Goals as goal

pub returns : goal.returns
returns c =
    let lexed = lexed_by_cut c.args.line.now c.in_ok-sound.ensures.none in
    seen_line _ _ _ _ _ _ _ (without_fault _ _ _ _ lexed ∙ ap Ok (sym c.in_ok-form.ensures)) c.in_ok-note.ensures c.inside_after.ensures
