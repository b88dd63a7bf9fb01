use Rattle.std.proofs.Common.{◌≡◌, ◌+◌, ◌∷◌, ap, sym, ◌∙◌, drop, get_or, arith}
use Rattle.ir_model.specs.Values.{with_value}
use Rattle.ir_model.specs.Run.{start_env}
use Rattle.ir_interp.specs.Slots.{over}
use Rattle.ir_interp.proofs.Items.{read-next, got-next, items-end, items-none, start_env-nil}
use Rattle.ir_interp.proofs.environment.Environment.start.Goals as goal

pub loop-i-init : goal.loop-i-init
loop-i-init c = c.new-values.ensures (start_env c.args.params.now c.args.args.now)

pub loop-i-preserved : goal.loop-i-preserved
loop-i-preserved c =
    let ps = c.args.params.now in
    let vs = c.args.args.now in
    let i = c.loop-i.i in
    let value = c.in-Some.value.now in
    let slots = c.loop-i.values.items in
    let rest = start_env (drop (i + 1) ps) (drop (i + 1) vs) in
    let p = get_or ps i c.index-params-i.result in
    let added : over c.add.new.self.items rest ≡ over slots (with_value rest p.id c.in_ok-try_clone.field-0) = c.in_ok-add.ensures rest in
    added
    ∙ ap (λ v. over slots (with_value rest p.id v)) c.in_ok-try_clone.ensures
    ∙ ap (λ l. over slots (start_env l (value ∷ drop (i + 1) vs))) (read-next ps i c.index-params-i.result (omega arith))
    ∙ ap (λ l. over slots (start_env (drop i ps) l)) (got-next vs i value (sym c.in-Some.ensures))
    ∙ c.loop-i.invariant

pub returns-in_default : goal.returns-in_default
returns-in_default c =
    let vs = c.args.args.now in
    let i = c.loop-i.i in
    let slots = c.loop-i.values.items in
    ap (over slots) (sym (start_env-nil (drop i c.args.params.now)))
    ∙ ap (λ l. over slots (start_env (drop i c.args.params.now) l)) (sym (items-none vs i (sym c.in_default.ensures)))
    ∙ c.loop-i.invariant

pub returns : goal.returns
returns c =
    let i = c.loop-i.i in
    ap (λ l. over c.loop-i.values.items (start_env l (drop i c.args.args.now))) (sym (items-end c.args.params.now i (omega arith)))
    ∙ c.loop-i.invariant
