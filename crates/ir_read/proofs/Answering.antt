-- A refusal of the first part is one of the whole.
use Rattle.std.proofs.Common.{Result, ap}
use Rattle.ir_read.specs.declared.refusal.ReadRefusal.{ReadRefusal}
use Rattle.ir_read.specs.declared.refusal.ReadRefusal.TheVariants.{OutOfMemory, Lex, NotALine, Misplaced, Limit}
use Rattle.ir_read.specs.Answers.{◌>>=◌, Refuses}

pub refused_on : {A B : Type 0} (e : ReadRefusal) (said : Result A ReadRefusal) (f : A → Result B ReadRefusal) → Refuses e said → Refuses e (said >>= f)
refused_on OutOfMemory said f r = tt
refused_on (Lex line byte) said f r = ap (λ x. x >>= f) r
refused_on (NotALine line) said f r = ap (λ x. x >>= f) r
refused_on (Misplaced line) said f r = ap (λ x. x >>= f) r
refused_on (Limit which) said f r = ap (λ x. x >>= f) r
