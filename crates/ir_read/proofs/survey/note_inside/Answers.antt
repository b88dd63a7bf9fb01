-- Only a brace alone ends the function.
use Rattle.std.proofs.Common.{◌∙◌, not, sym, ap, Ok}
use Rattle.ir_lex.proofs.Laws.{lexed_by_cut, words_of_line}
use Rattle.ir_line.specs.Body.{is_brace}
use Rattle.ir_read.proofs.InsideLines.{goes_on}
use Rattle.ir_read.proofs.survey.note_inside.Goals as goal

pub returns : goal.returns
returns c =
    let lexed = lexed_by_cut c.args.line.now c.in_ok-sound.ensures.none in
    goes_on _ _ _ lexed ∙ ap (λ brace. Ok (not brace)) (ap is_brace (words_of_line c.args.line.now) ∙ sym c.is_lone_brace.ensures)
