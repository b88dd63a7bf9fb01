-- The words of the two parts are the parts of the words.
use Rattle.ir_words.proofs.Lists.{split_words}
use Rattle.ir_words.proofs.flags.split.Goals as goal

pub returns : goal.returns
returns c = rw (c.front.ensures.line, c.front.ensures.tokens, c.skip.ensures.line, c.skip.ensures.tokens) (split_words _ _ _)
