use Rattle.rf_text.proofs.spelled.accepted_texts_spell.Goals as goal
use Rattle.rf_text.proofs.Spells.Module.{texts_spell}

pub returns : goal.returns
returns c = texts_spell
