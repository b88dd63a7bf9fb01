-- What is written, with the text of what is left, is the whole.
use Rattle.std.proofs.Common.{◌≡◌, ◌++◌, drop}
use Rattle.ir_print.specs.Text.{more_items}
use Rattle.ir_print.proofs.module.push_more_items.Given as goal

abbrev pub invariant-loop-item : goal.invariant-loop-item
invariant-loop-item l = l.out.items ++ more_items l.globals l.before (drop l.item-index l.items) ≡ l.fn.out.items ++ more_items l.globals l.after_function l.items
