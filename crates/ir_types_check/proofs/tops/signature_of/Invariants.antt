-- The types so far, with those of the parameters that are left, are all.
use Rattle.std.proofs.Common.{◌≡◌, ◌++◌, drop, map}
use Rattle.ir_types.specs.declared.func.Param.{Param}
use Rattle.ir_types_check.proofs.tops.signature_of.Given as goal

abbrev pub invariant-loop-param : goal.invariant-loop-param
invariant-loop-param l = l.params ++ map (λ (p : Param). p.ty) (drop l.param-index l.head.params) ≡ map (λ (p : Param). p.ty) l.head.params
