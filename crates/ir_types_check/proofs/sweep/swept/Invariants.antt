-- What the items so far come to, with those that are left, is the whole.
use Rattle.std.proofs.Common.{◌≡◌, [], length, IfOk}
use Rattle.std.specs.Vec.Iter.{into_iter_items}
use Rattle.ir_types_check.specs.Answers.{◌>>=◌}
use Rattle.ir_types_check.specs.InOrder.{told, all_own_names}
use Rattle.ir_types_check.specs.Resolved.{resolved_items}
use Rattle.ir_types_check.specs.Typed.{items_typed}
use Rattle.ir_types_check.proofs.sweep.swept.Given as goal

abbrev pub invariant-each : goal.invariant-each
invariant-each l = record {
  own : all_own_names (into_iter_items l.left) ≡ all_own_names l.fn.items;
  linked : (l.whole.linked >>= λ done. resolved_items l.tops done (into_iter_items l.left)) ≡ resolved_items l.tops (record { items = []; lines = [] }) l.fn.items;
  typed : IfOk l.whole.linked (λ _. (told l.whole.ill >>= λ _. items_typed l.tops (into_iter_items l.left)) ≡ items_typed l.tops l.fn.items);
}

abbrev pub decreases-each : goal.decreases-each
decreases-each l = length (into_iter_items l.left)
