-- The types of what names stand for, and how their values are made, by names that a crate above can use.
use Rattle.std.specs.Prelude.{ℕ}
use Rattle.ir_types.specs.declared.ty.Ty.{Ty}
use Rattle.ir_types_check.specs.declared.locals.Meaning.{Meaning}
use Rattle.ir_types_check.specs.declared.locals.Meaning.TheVariants.{Value, Block}
use Rattle.ir_types_check.specs.declared.locals.Locals.{Locals}
use Rattle.ir_types_check.specs.declared.outline.At.{At}
use Rattle.ir_types_check.specs.declared.tops.Signature.{Signature}
use Rattle.ir_types_check.specs.declared.tops.Top.{Top}
use Rattle.ir_types_check.specs.declared.tops.Top.TheVariants.{Global, Function, Other}
use Rattle.ir_types_check.specs.declared.tops.Tops.{Tops}
use Rattle.ir_types_check.specs.declared.building.Built.{Built}
use Rattle.ir_types_check.specs.declared.building.Done.{Done}
use Rattle.ir_types_check.specs.declared.links.Linked.{Linked}
use Rattle.ir_types_check.specs.declared.links.Cases.{Cases}

-- ---- in a function

abbrev pub LocalMeaning : Type 0
LocalMeaning = Meaning

abbrev pub value_at : ℕ → Ty → LocalMeaning
value_at place ty = Value place ty

abbrev pub block_at : ℕ → LocalMeaning
block_at number = Block number

abbrev pub LinePlace : Type 0
LinePlace = At

abbrev pub LocalNames : Type 0
LocalNames = Locals

abbrev pub BuiltSoFar : Type 0
BuiltSoFar = Built

abbrev pub LinkedNames : Type 0
LinkedNames = Linked

abbrev pub LinkedCases : Type 0
LinkedCases = Cases

-- ---- in a module

abbrev pub TopMeaning : Type 0
TopMeaning = Top

abbrev pub global_at : ℕ → TopMeaning
global_at number = Global number

abbrev pub function_of : Signature → TopMeaning
function_of signature = Function signature

abbrev pub other_top : TopMeaning
other_top = Other

abbrev pub TopNames : Type 0
TopNames = Tops

abbrev pub DoneSoFar : Type 0
DoneSoFar = Done
