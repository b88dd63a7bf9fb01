-- A last rule of a list of rules is asked where none before it holds.
use Rattle.std.proofs.Common.{◌≡◌, refl, ℕ, Bool, true, false, Option, None, Some, List, [], ◌∷◌, ◌++◌}
use Rattle.std.specs.Prelude.{option_map}
use Rattle.ir_types.specs.declared.id.Id.{Id}
use Rattle.ir_types.specs.declared.opd.Opd.{Opd}
use Rattle.ir_types.specs.declared.inst.Inst.{Inst}
use Rattle.ir_types.specs.declared.module.Module.{Module}
use Rattle.vx_serial.specs.declared.cause.Cause.{Cause}
use Rattle.vx_serial.specs.declared.cause.Cause.TheVariants.{Cycle}
use Rattle.vx_serial.specs.declared.node.Node.{Node}
use Rattle.vx_serial.specs.declared.node.How.TheVariants as had
use Rattle.vx_serial.specs.Legal as serial
use Rattle.vx_legal.specs.Legality as told
use Rattle.vx_legal.specs.declared.legality.Legality.TheVariants.{Reuse, Ident}

last_rule : (cycle : Bool) → (rules : List (Bool × Cause)) → serial.packed (serial.first_cause (rules ++ (cycle, Cycle) ∷ [])) ≡ told.as_how cycle (told.packed (serial.first_cause rules))
last_rule true [] = refl
last_rule false [] = refl
last_rule cycle ((true, cause) ∷ rules) = refl
last_rule cycle ((false, cause) ∷ rules) = last_rule cycle rules

as_had : (cycle : Bool) → (rules : List (Bool × Cause)) → (a : Option ℕ) → (b : Option Id) → serial.or_else (option_map had.Reuse a) (serial.or_else (option_map had.Ident b) (serial.packed (serial.first_cause (rules ++ (cycle, Cycle) ∷ [])))) ≡ told.as_how cycle (told.or_else (option_map Reuse a) (told.or_else (option_map Ident b) (told.packed (serial.first_cause rules))))
as_had cycle rules (Some n) b = refl
as_had cycle rules None (Some v) = refl
as_had cycle rules None None = last_rule cycle rules

pub tells : (m : Module) → (block : List Inst) → (last : Id) → (tree : List Node) → (lanes : List Opd) → serial.legal m block last tree lanes ≡ told.as_how (serial.has_cycle m block last tree (serial.insts_of block lanes)) (told.legality m block last tree lanes)
tells m block last tree lanes = as_had (serial.has_cycle m block last tree (serial.insts_of block lanes)) (serial.early_causes m block last tree lanes (serial.insts_of block lanes)) (serial.reused 0 lanes tree) (serial.identity m block lanes)
