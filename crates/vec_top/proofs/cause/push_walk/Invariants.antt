-- What is written, with the text of what is left, is the whole.
use Rattle.std.proofs.Common.{◌≡◌, ◌++◌, drop}
use Rattle.vec_top.specs.Replies.{walk_text}
use Rattle.vec_top.proofs.cause.push_walk.Given as goal

abbrev pub invariant-loop-block : goal.invariant-loop-block
invariant-loop-block l = l.out.items ++ walk_text (drop l.block-index l.walk) ≡ l.fn.out.items ++ walk_text l.walk
