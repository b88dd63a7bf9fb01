-- Digits that are written of a number are parsed to it.
use Rattle.std.proofs.Common.{◌≡◌, true, Ok, arith}
use Rattle.std.proofs.lemmas.Fmt.{parse-decimal}
use Rattle.std.proofs.lemmas.Slice.Eq.{bytes_eq-Decides}
use Rattle.std.specs.Fmt.{decimal}
use Rattle.std.specs.Str.{bytes_eq}
use Rattle.vx_cost.proofs.settings.cost_in.Goals as goal
use Rattle.vx_cost.proofs.settings.cost_in.Goals.{else-n-le1000000-via-then-n-le1000000+else-eq, else-n-le1000000-via-else-n-le1000000}

pub returns-in_default-clause-none : goal.returns-in_default-clause-none
returns-in_default-clause-none c = λ n e small.
    c.in_default.not-Ok n (parse-decimal 32 n c.args.digits.now c.parse.result (omega arith) (omega arith) e c.parse.ensures.value.0)

pub returns-else-n-le1000000-clause-none : goal.returns-else-n-le1000000-clause-none
returns-else-n-le1000000-clause-none c = λ n e small.
    let is_ok : c.parse.result ≡ Ok n = parse-decimal 32 n c.args.digits.now c.parse.result (omega arith) (omega arith) e c.parse.ensures.value.0 in
    let found : c.parse.result ≡ Ok c.in-Ok.n = c.in-Ok.is in
    let same : c.in-Ok.n ≡ n = cc in
    elim c.else-n-le1000000.branch [
      | else-n-le1000000-via-then-n-le1000000+else-eq w ↦
          (let written : w.format.result.now ≡ decimal c.in-Ok.n = w.format.ensures.text in
          let equal : w.format.result.now ≡ c.args.digits.now = cc in
          let yes : bytes_eq w.format.result.now c.args.digits.now ≡ true = (bytes_eq-Decides w.format.result.now c.args.digits.now).1 equal in
          cc (w.if-eq.false, w.eq.ensures, yes))
      | else-n-le1000000-via-else-n-le1000000 w ↦ absurd (omega arith)
    ]
