-- What stays the same may stand for itself.
use Rattle.std.proofs.Common.{refl, Option, None, Some, List, [], ◌∷◌}
use Rattle.std.specs.List.{AllZip}
use Rattle.ir_model.specs.declared.value.Value.{Value}
use Rattle.ir_model.specs.declared.value.Value.TheVariants.{Lane as LaneValue, Row as RowValue, Ptr as PtrValue}
use Rattle.ir_model.specs.declared.outcome.Outcome.{Outcome}
use Rattle.ir_model.specs.declared.outcome.Outcome.TheVariants.{Returned, Undefined, Cut}
use Rattle.ir_model.specs.Values.{MayStandFor, ValueRefines}
use Rattle.ir_model.specs.Memory.{Memory, MemoryRefines}
use Rattle.ir_model.specs.Refines.{ResultRefines, OutcomeRefines}

pub stands_for_itself : {A : Type 0} (x : Option A) → MayStandFor x x
stands_for_itself None = tt
stands_for_itself (Some x) = refl

pub zip_same : {A : Type 0} (R : A → A → Type 0) → ((x : A) → R x x) → (xs : List A) → AllZip R xs xs
zip_same R same [] = tt
zip_same R same (x ∷ xs) = (same x, zip_same R same xs)

pub value_same : (v : Value) → ValueRefines v v
value_same (LaneValue lane) = stands_for_itself lane
value_same (RowValue lanes) = zip_same MayStandFor stands_for_itself lanes
value_same (PtrValue p) = stands_for_itself p

pub memory_same : (m : Memory) → MemoryRefines m m
memory_same m = zip_same (AllZip MayStandFor) (λ object. zip_same MayStandFor stands_for_itself object) m

pub result_same : (v : Option Value) → ResultRefines v v
result_same None = tt
result_same (Some v) = value_same v

pub outcome_same : (o : Outcome) → OutcomeRefines o o
outcome_same (Returned v m) = (result_same v, memory_same m)
outcome_same Undefined = tt
outcome_same (Cut m) = memory_same m
