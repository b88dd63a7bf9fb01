-- What is left decides.
use Rattle.std.proofs.Common.{◌≡◌, drop}
use Rattle.std.specs.List.{list_all}
use Rattle.vec_words.specs.Pieces.{goes_on}
use Rattle.vec_words.proofs.pieces.all_go_on.Given as goal

abbrev pub invariant-loop-byte : goal.invariant-loop-byte
invariant-loop-byte l = list_all goes_on (drop l.byte-index l.bytes) ≡ list_all goes_on l.bytes
