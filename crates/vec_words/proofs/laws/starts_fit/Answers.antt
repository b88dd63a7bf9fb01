use Rattle.vec_words.proofs.Fitting.{start_fits}
use Rattle.vec_words.proofs.laws.starts_fit.Goals as goal

pub returns : goal.returns
returns c = start_fits
