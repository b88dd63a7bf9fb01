use Rattle.sb_uses.proofs.laws.stocks_are_undone.Goals as goal
use Rattle.sb_uses.proofs.Undoing.{undone_stock, can_undo}

pub returns-clause-back : goal.returns-clause-back
returns-clause-back c = λ m h s apart exact fits. undone_stock m s apart exact h fits

pub returns-clause-can : goal.returns-clause-can
returns-clause-can c = λ m h s apart exact fits. can_undo m s apart exact h fits
