-- What is written, with the text of what is left, is the whole.
use Rattle.std.proofs.Common.{◌≡◌, ◌++◌, drop}
use Rattle.vec_words.specs.Hex.{bytes_text}
use Rattle.vec_words.proofs.hex.push_bytes.Given as goal

abbrev pub invariant-loop-byte : goal.invariant-loop-byte
invariant-loop-byte l = l.out.items ++ bytes_text (drop l.byte-index l.bytes) ≡ l.fn.out.items ++ bytes_text l.bytes
