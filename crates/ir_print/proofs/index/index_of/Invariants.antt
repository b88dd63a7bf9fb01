-- What the index has, with the locals that are left, gives the value of each id.
use Rattle.std.proofs.Common.{◌≡◌, drop, None, slice_get}
use Rattle.std.specs.Prelude.{option_and_then}
use Rattle.ir_types.specs.declared.id.Id.{Id}
use Rattle.ir_print.specs.Index.{place_in}
use Rattle.ir_print.specs.Names.{last_of}
use Rattle.ir_print.proofs.index.index_of.Given as goal

abbrev pub invariant-loop-at : goal.invariant-loop-at
invariant-loop-at l = (id : Id) → last_of id (drop l.at l.locals) (option_and_then (λ at. slice_get l.locals at) (place_in l.index id)) ≡ last_of id l.locals None
