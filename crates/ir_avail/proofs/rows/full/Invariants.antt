use Rattle.std.proofs.Common.{◌≡◌, ℕ}
use Rattle.std.specs.Prelude.{slice_get}
use Rattle.std.specs.declared.option.Option.TheVariants.{Some}
use Rattle.ir_avail.proofs.rows.full.Given as goal

abbrev pub invariant-each : goal.invariant-each
invariant-each l = (k row : ℕ) → slice_get l.words.items k ≡ Some row → row ≡ l.word
