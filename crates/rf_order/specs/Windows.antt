-- The instructions of a window in the order that the window has.
use Rattle.std.specs.Prelude.{◌≡◌, Some, List}
use Rattle.ir_types.specs.declared.id.Id.{Id}
use Rattle.ir_types.specs.declared.inst.Inst.{Inst}
use Rattle.ir_types.specs.declared.module.Module.{Module}
use Rattle.vx_view.specs.Conflicts.{depends}
use Rattle.vx_serial.specs.Window.{order_in, joined}
use Rattle.vx_serial.specs.Bundles.{AreOnce, ids_of, AreBundles}
use Rattle.rf_order.specs.Rows.{Reordered}

-- where a window has an order, its instructions come in it with each after all that it depends on
abbrev pub OrdersReorder : Type 0
OrdersReorder =
    (m : Module) (block insts : List Inst) (bundles : List (List Id)) → AreOnce (ids_of insts) → AreBundles insts bundles →
    (groups : List (List Inst)) → order_in m block insts bundles ≡ Some groups → Reordered (depends m block) insts (joined groups)
