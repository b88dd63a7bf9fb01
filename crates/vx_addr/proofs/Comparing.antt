-- What is kept of two instructions tells whether they conflict.
use Rattle.std.proofs.Common.{◌≡◌, refl, ap, ◌&&◌, ◌||◌, Option, None, Some, List}
use Rattle.ir_types.specs.declared.inst.Inst.{Inst}
use Rattle.ir_types.specs.declared.module.Module.{Module}
use Rattle.vx_view.specs.Conflicts.{Access, access_of, is_call, minds_calls, meet, conflict_in}
use Rattle.vx_addr.specs.Effects.{touch_of, touches_meet, effect_of, effects_conflict}

module _ (m : Module) (block : List Inst) where
  touches : (a b : Option Access) → touches_meet (touch_of m block a) (touch_of m block b) ≡ meet m block a b
  touches (Some a) (Some b) = refl
  touches (Some a) None = refl
  touches None (Some b) = refl
  touches None None = refl

  pub effects_are : (i j : Inst) → effects_conflict (effect_of m block i) (effect_of m block j) ≡ conflict_in m block i j
  effects_are i j = ap (λ r. is_call i.op && minds_calls j.op || is_call j.op && minds_calls i.op || r) (touches (access_of i) (access_of j))
