use Rattle.std.proofs.Common.{◌≡◌, ℕ, ◌+◌, ◌-◌, List, [], ◌∙◌, ap, sym, subst, arith, append-nil}
use Rattle.std.specs.declared.option.Option.TheVariants.{Some}
use Rattle.ir_avail.specs.Avoids.{distance_at, IsLeast}
use Rattle.ir_avail.proofs.Leasts.{Leads, least_nil, leads_step, some_target}
use Rattle.ir_avail.proofs.least.least.Goals as goal

pub down-preserved-in-Some : goal.down-preserved-in-Some
down-preserved-in-Some c barred end are start =
    let before = c.down.invariant barred end are start in
    let found = c.in-Some.ensures in
    let one : c.down.left ≡ c.down.left - 1 + 1 = omega arith in
    let P : List ℕ → Type 0 = λ xs. Leads c.args.graph.now barred end c.args.len xs c.in-Some.next (c.down.left - 1) in
    (found.some.1, subst P (sym c.in_ok-push-2.ensures.ok) (leads_step c.args.graph.now barred end c.args.distances.now are c.args.len c.down.at c.down.left (c.down.left - 1) c.in-Some.next c.down.walk one before.0 found.some found.least before.1))

pub down-preserved : goal.down-preserved
down-preserved c barred end are start =
    let before = c.down.invariant barred end are start in
    let one : c.down.left ≡ c.down.left - 1 + 1 = omega arith in
    let at : distance_at c.args.distances.now c.down.at ≡ Some (c.down.left - 1 + 1) = before.0 ∙ ap (λ x. Some x) one in
    let some = some_target c.args.graph.now barred end c.args.distances.now are c.down.at (c.down.left - 1) at in
    absurd (c.in_default.ensures.none some.0 some.1)

pub returns : goal.returns
returns c barred end are start =
    let before = c.down.invariant barred end are start in
    let done : c.down.left ≡ 0 = omega arith in
    let P : ℕ → Type 0 = λ k. IsLeast c.args.graph.now barred end c.down.at k [] in
    let none = subst P (sym done) (least_nil c.args.graph.now barred end c.args.distances.now are c.down.at (before.0 ∙ ap (λ x. Some x) done)) in
    let all = before.1 [] none in
    (all.0, sym (append-nil c.down.walk) ∙ all.1, all.2)
