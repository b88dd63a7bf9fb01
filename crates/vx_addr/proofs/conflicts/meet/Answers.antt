use Rattle.std.proofs.Common.{◌∙◌, sym, ap, ◌||◌, Bool, option_map}
use Rattle.ir_types.specs.declared.id.Id.{Id}
use Rattle.ir_types.specs.declared.module.Module.{Module}
use Rattle.vx_view.specs.Blocks.{block_at}
use Rattle.vx_view.specs.Conflicts.{Access, access_of}
use Rattle.vx_view.proofs.Asking.{asks_more}
use Rattle.vx_addr.specs.Parts.{as_access}
use Rattle.vx_addr.specs.Walks.{Names, on_walks, on_access}
use Rattle.vx_addr.proofs.Lookups.{names_more}
use Rattle.vx_addr.proofs.Steps.{accesses_on}
use Rattle.vx_addr.proofs.conflicts.meet.Goals as goal

pub returns-in_err-apart-in-Some-Some-clause-asks : goal.returns-in_err-apart-in-Some-Some-clause-asks
returns-in_err-apart-in-Some-Some-clause-asks g c =
    let a : Access = as_access c.in-Some-Some.a in
    let b : Access = as_access c.in-Some-Some.b in
    let walks : Module → Id → Bool = λ m x. on_walks (block_at m c.args.place) a.pointer x || on_walks (block_at m c.args.place) b.pointer x in
    let touched : Module → Id → Bool = λ m x. on_access (block_at m c.args.place) (access_of c.args.first.now) x || on_access (block_at m c.args.place) (access_of c.args.second.now) x in
    asks_more (λ m. Names (walks m)) (λ m. Names (touched m)) (g.V.View.seen c.args.view.now) (g.V.View.seen c.accesses_apart.new.view) c.in_err-apart-in-Some-Some.ensures.asks
    (λ m t f.
    names_more (walks m) (touched m)
    (accesses_on (block_at m c.args.place) (access_of c.args.first.now) (access_of c.args.second.now) a b
    (sym (ap (option_map as_access) c.in-Some-Some.is-0) ∙ c.access_of.ensures) (sym (ap (option_map as_access) c.in-Some-Some.is-1) ∙ c.access_of-2.ensures)))

pub returns-in_ok-apart-in-Some-Some-clause-asks : goal.returns-in_ok-apart-in-Some-Some-clause-asks
returns-in_ok-apart-in-Some-Some-clause-asks g c =
    let a : Access = as_access c.in-Some-Some.a in
    let b : Access = as_access c.in-Some-Some.b in
    let walks : Module → Id → Bool = λ m x. on_walks (block_at m c.args.place) a.pointer x || on_walks (block_at m c.args.place) b.pointer x in
    let touched : Module → Id → Bool = λ m x. on_access (block_at m c.args.place) (access_of c.args.first.now) x || on_access (block_at m c.args.place) (access_of c.args.second.now) x in
    asks_more (λ m. Names (walks m)) (λ m. Names (touched m)) (g.V.View.seen c.args.view.now) (g.V.View.seen c.accesses_apart.new.view) c.in_ok-apart-in-Some-Some.ensures.asks
    (λ m t f.
    names_more (walks m) (touched m)
    (accesses_on (block_at m c.args.place) (access_of c.args.first.now) (access_of c.args.second.now) a b
    (sym (ap (option_map as_access) c.in-Some-Some.is-0) ∙ c.access_of.ensures) (sym (ap (option_map as_access) c.in-Some-Some.is-1) ∙ c.access_of-2.ensures)))
