use Rattle.std.proofs.Common.{◌+◌, ◌&&◌, None, reverse, take, drop, get_or, sym, ap, ◌∙◌, arith}
use Rattle.std.proofs.lemmas.Option.{slice_get-get_or}
use Rattle.ir_model.specs.declared.value.Value.TheVariants.{Ptr as PtrValue}
use Rattle.ir_model.specs.Run.{noalias_holds}
use Rattle.ir_interp.proofs.Items.{read-next, got-next, items-end, items-none}
use Rattle.ir_interp.proofs.Alone.{noalias_holds-more, noalias_holds-nil}
use Rattle.ir_interp.proofs.noalias.noalias_holds.Goals as goal

pub returns-in_default : goal.returns-in_default
returns-in_default c =
    let i = c.loop-i.i in
    ap (λ l. noalias_holds c.args.globals (reverse (take i c.args.args.now)) l (drop i c.args.args.now)) (sym (items-none c.args.params.now i (sym c.in_default.ensures)))
    ∙ c.loop-i.invariant

pub returns-then-not-holds_at : goal.returns-then-not-holds_at
returns-then-not-holds_at c =
    let i = c.loop-i.i in
    let vs = c.args.args.now in
    let value = get_or vs i (PtrValue None) in
    let got = slice_get-get_or vs i (PtrValue None) (omega arith) in
    ap (λ b. b && noalias_holds c.args.globals (reverse (take (i + 1) vs)) (drop (i + 1) c.args.params.now) (drop (i + 1) vs))
    (sym c.if-not-holds_at.true ∙ c.holds_at.ensures value got)
    ∙ noalias_holds-more c.args.globals c.args.params.now vs i c.in-Some.param.now value
    (got-next c.args.params.now i c.in-Some.param.now (sym c.in-Some.ensures)) (read-next vs i (PtrValue None) (omega arith)) got
    ∙ c.loop-i.invariant

pub loop-i-preserved : goal.loop-i-preserved
loop-i-preserved c =
    let i = c.loop-i.i in
    let vs = c.args.args.now in
    let value = get_or vs i (PtrValue None) in
    let got = slice_get-get_or vs i (PtrValue None) (omega arith) in
    ap (λ b. b && noalias_holds c.args.globals (reverse (take (i + 1) vs)) (drop (i + 1) c.args.params.now) (drop (i + 1) vs))
    (sym c.if-not-holds_at.false ∙ c.holds_at.ensures value got)
    ∙ noalias_holds-more c.args.globals c.args.params.now vs i c.in-Some.param.now value
    (got-next c.args.params.now i c.in-Some.param.now (sym c.in-Some.ensures)) (read-next vs i (PtrValue None) (omega arith)) got
    ∙ c.loop-i.invariant

pub returns : goal.returns
returns c =
    let i = c.loop-i.i in
    let before = reverse (take i c.args.args.now) in
    sym (noalias_holds-nil c.args.globals before (drop i c.args.params.now))
    ∙ ap (noalias_holds c.args.globals before (drop i c.args.params.now)) (sym (items-end c.args.args.now i (omega arith)))
    ∙ c.loop-i.invariant
