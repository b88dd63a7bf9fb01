-- The last byte decides.
use Rattle.std.proofs.Common.{◌-◌, cond, length, take, sym, ◌∙◌, ap, eq-eqb}
use Rattle.std.proofs.lemmas.Bool.{ne_eqb}
use Rattle.ir_read.proofs.Splitting.{stripped}
use Rattle.ir_read.proofs.lines.without_return.Goals as goal

pub returns-then-last-eq13 : goal.returns-then-last-eq13
returns-then-last-eq13 c =
    sym (stripped c.args.line.now c.in-len1-up.len_at_least ∙ ap (λ b. cond b (take (length c.args.line.now - 1) c.args.line.now) c.args.line.now) (eq-eqb _ 13 c.if-last-eq13.true))

pub returns-else-last-eq13 : goal.returns-else-last-eq13
returns-else-last-eq13 c =
    sym (stripped c.args.line.now c.in-len1-up.len_at_least ∙ ap (λ b. cond b (take (length c.args.line.now - 1) c.args.line.now) c.args.line.now) (ne_eqb _ 13 c.if-last-eq13.false))
