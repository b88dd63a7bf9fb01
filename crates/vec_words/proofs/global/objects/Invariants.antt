-- What the rest gives is what all give.
use Rattle.std.proofs.Common.{◌≡◌, length}
use Rattle.vec_words.specs.Globals.{untouched, with_words}
use Rattle.vec_words.proofs.global.objects.Given as goal

abbrev pub invariant-each : goal.invariant-each
invariant-each l = with_words l.names l.given l.place l.rest ≡ with_words l.names (untouched (length l.names)) 1 l.words

abbrev pub decreases-each : goal.decreases-each
decreases-each l = length l.rest
