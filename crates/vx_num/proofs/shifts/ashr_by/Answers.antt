-- What is shifted and what fills it are together below 2^w.
use Rattle.std.proofs.Common.{◌≡◌, ◌+◌, ◌/◌, ◌^◌, ◌<◌, ◌≤◌, arith, ap}
use Rattle.std.proofs.Math.Pow.{pow_mono}
use Rattle.vx_num.proofs.Ranges.{shr_fill-lt}
use Rattle.vx_num.specs.Shifts.{sign_fill}
use Rattle.vx_num.proofs.shifts.ashr_by.Goals as goal

pub overflow_cast-filled-2 : goal.overflow_cast-filled-2
overflow_cast-filled-2 c =
    let amount : c.args.k ≤ c.args.w = omega arith in
    let below : c.args.a / 2 ^ c.args.k + sign_fill c.args.w c.args.k c.args.a < 2 ^ c.args.w =
    shr_fill-lt c.args.w c.args.k c.args.a amount c.requires.left in
    let powers : 2 ^ c.args.w ≤ 2 ^ 64 = pow_mono c.requires.width in
    let same : c.args.a / c.power.result ≡ c.args.a / 2 ^ c.args.k = ap (λ p. c.args.a / p) c.power.ensures.value in
    let filled : c.fill.result ≡ sign_fill c.args.w c.args.k c.args.a = c.fill.ensures in
    record { fits = omega arith }
