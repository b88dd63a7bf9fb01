use Rattle.sb_uses.proofs.laws.stocks_have_the_lists.Goals as goal
use Rattle.sb_uses.proofs.Counted.{after_lists}

pub returns : goal.returns
returns c = after_lists
