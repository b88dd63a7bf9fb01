use Rattle.sb_uses.proofs.laws.ids_stay_apart.Goals as goal
use Rattle.sb_uses.proofs.Totals.{formed_apart}
use Rattle.sb_uses.proofs.Changed.{apart_after}

pub returns-clause-formed : goal.returns-clause-formed
returns-clause-formed c = formed_apart

pub returns-clause-changed : goal.returns-clause-changed
returns-clause-changed c = apart_after
