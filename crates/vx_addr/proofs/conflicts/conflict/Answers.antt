use Rattle.std.proofs.Common.{◌≡◌, ◌∙◌, sym, ◌||◌, Bool}
use Rattle.ir_types.specs.declared.id.Id.{Id}
use Rattle.ir_types.specs.declared.module.Module.{Module}
use Rattle.ir_types.specs.Available.{same_id}
use Rattle.ir_types.specs.Formed.{IsFormed}
use Rattle.vx_view.specs.Blocks.{block_at}
use Rattle.vx_view.specs.Conflicts.{access_of, conflict_in, conflict}
use Rattle.vx_view.specs.Views.{StandsFor}
use Rattle.vx_view.proofs.Asking.{asks_more, asks_then}
use Rattle.vx_addr.specs.Walks.{Names, on_access, conflict_names}
use Rattle.vx_addr.proofs.Lookups.{names_more, if_ok}
use Rattle.vx_addr.proofs.Pairs.{paired_conflict, paired_names, both_names}
use Rattle.vx_addr.proofs.conflicts.conflict.Goals as goal

pub returns-in_err-found-clause-asks : goal.returns-in_err-found-clause-asks
returns-in_err-found-clause-asks g c =
    let ids : Id → Bool = λ x. same_id c.args.i x || same_id c.args.j x in
    asks_more (λ m. Names ids) (λ m. Names (conflict_names m c.args.i c.args.j)) (g.V.View.seen c.args.view.now) (g.V.View.seen c.both.new.view) c.in_err-found.ensures.asks
    (λ m t f. names_more ids (conflict_names m c.args.i c.args.j) (both_names m c.args.i c.args.j))

pub returns-in-Some-clause-is : goal.returns-in-Some-clause-is
returns-in-Some-clause-is g c =
    let P : Bool → Type 0 = λ r. (m : Module) → StandsFor (g.V.View.seen c.meets.new.view) m → IsFormed m → r ≡ conflict_in m (block_at m c.in-Some.place) c.in-Some.first c.in-Some.second in
    let Q : Bool → Type 0 = λ r. (m : Module) → StandsFor (g.V.View.seen c.meets.new.view) m → IsFormed m → r ≡ conflict m c.args.i c.args.j in
    if_ok c.meets.result P Q
    (λ r h m t f.
    paired_conflict m c.args.i c.args.j c.in-Some.place c.in-Some.first c.in-Some.second
    (sym c.in-Some.is ∙ c.in_ok-found.ensures.is m (c.meets.ensures.asks.narrows m t) f) r (h m t f))
    c.meets.ensures.is

pub returns-in-Some-clause-asks : goal.returns-in-Some-clause-asks
returns-in-Some-clause-asks g c =
    let ids : Id → Bool = λ x. same_id c.args.i x || same_id c.args.j x in
    let touched : Module → Id → Bool = λ m x. on_access (block_at m c.in-Some.place) (access_of c.in-Some.first) x || on_access (block_at m c.in-Some.place) (access_of c.in-Some.second) x in
    asks_then (λ m. Names ids) (λ m. Names (touched m)) (λ m. Names (conflict_names m c.args.i c.args.j)) (g.V.View.seen c.args.view.now) (g.V.View.seen c.both.new.view) (g.V.View.seen c.meets.new.view)
    c.in_ok-found.ensures.asks c.meets.ensures.asks
    (λ m t f. names_more ids (conflict_names m c.args.i c.args.j) (both_names m c.args.i c.args.j))
    (λ m t f.
    names_more (touched m) (conflict_names m c.args.i c.args.j)
    (paired_names m c.args.i c.args.j c.in-Some.place c.in-Some.first c.in-Some.second
    (sym c.in-Some.is ∙ c.in_ok-found.ensures.is m (c.meets.ensures.asks.narrows m t) f)))

pub returns-in-None-clause-asks : goal.returns-in-None-clause-asks
returns-in-None-clause-asks g c =
    let ids : Id → Bool = λ x. same_id c.args.i x || same_id c.args.j x in
    asks_more (λ m. Names ids) (λ m. Names (conflict_names m c.args.i c.args.j)) (g.V.View.seen c.args.view.now) (g.V.View.seen c.both.new.view) c.in_ok-found.ensures.asks
    (λ m t f. names_more ids (conflict_names m c.args.i c.args.j) (both_names m c.args.i c.args.j))
