-- A number of 64 bits is small where there are more.
use Rattle.std.proofs.Common.{◌≤◌, ◌<◌, ◌-◌, ◌^◌, arith, sym}
use Rattle.std.proofs.Math.Pow.{pow_mono}
use Rattle.std.proofs.lemmas.Bool.{lt-ltb}
use Rattle.vx_digits.proofs.writing.is_small.Goals as goal

pub returns-then-w-gt64-clause-value : goal.returns-then-w-gt64-clause-value
returns-then-w-gt64-clause-value c =
    let wide : 2 ^ 64 ≤ 2 ^ (c.args.w - 1) = pow_mono {i = 64} {j = c.args.w - 1} (omega arith) in
    let small : c.args.n < 2 ^ (c.args.w - 1) = omega arith in
    sym (lt-ltb _ _ small)
