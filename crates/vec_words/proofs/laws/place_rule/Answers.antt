-- Command by command.
use Rattle.vec_words.proofs.Places.{is_place}
use Rattle.vec_words.proofs.laws.place_rule.Goals as goal

pub returns : goal.returns
returns c = λ words k e. is_place words k e
