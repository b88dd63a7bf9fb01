use Rattle.vx_deps.proofs.Growing.{told}
use Rattle.vx_deps.proofs.laws.graphs_tell_dependences.Goals as goal

pub returns : goal.returns
returns c m kept f right x y h g = told m kept f right x y h g
