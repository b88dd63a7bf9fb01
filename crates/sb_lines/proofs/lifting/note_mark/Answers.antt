-- The mark of the block alone is written.
use Rattle.std.proofs.Common.{ap, ◌∙◌, cond, Some}
use Rattle.std.specs.HashMap.{get}
use Rattle.sb_lines.specs.Arena.{same_key, key_of}
use Rattle.sb_lines.proofs.lifting.note_mark.Goals as goal

pub returns : goal.returns
returns c = λ q.
    c.in_ok-insert.ensures.updates.0 (key_of q)
    ∙ ap (λ k. cond (same_key k (key_of q)) (Some c.args.at) (get same_key c.args.marks.now (key_of q))) c.key_of.ensures
