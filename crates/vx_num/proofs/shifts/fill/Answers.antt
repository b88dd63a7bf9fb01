-- The smaller width has the smaller power.
use Rattle.std.proofs.Common.{◌≤◌, ◌-◌, ◌^◌, arith}
use Rattle.std.proofs.Math.Pow.{pow_mono}
use Rattle.vx_num.proofs.shifts.fill.Goals as goal

pub overflow_sub-result : goal.overflow_sub-result
overflow_sub-result c =
    let less : c.args.w - c.args.k ≤ c.args.w = omega arith in
    let powers : 2 ^ (c.args.w - c.args.k) ≤ 2 ^ c.args.w = pow_mono less in
    omega arith
