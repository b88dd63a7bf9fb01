-- The mask has a bit at each notable byte.
use Rattle.std.proofs.Common.{refl, arith}
use Rattle.std.proofs.lemmas.Simd.{zip2_splat, length-chunk}
use lib.Lanes.{chunk}
use Rattle.ir_lex.specs.Bytes.{is_notable, is_control}
use Rattle.ir_lex.proofs.Lanes.{joined, first_notable}
use Rattle.ir_lex.proofs.faults.calm_in_step.Goals as goal

pub returns : goal.returns
unfolding is_notable is_control
returns c =
    let v = chunk 0 16 c.args.bytes.now in
    let long = length-chunk 0 16 c.args.bytes.now (omega arith) in
    let control = joined _ _ _ v (zip2_splat _ v 16 32 long) (zip2_splat _ v 16 9 long) in
    let opening = joined _ _ _ v (zip2_splat _ v 16 34 long) (zip2_splat _ v 16 59 long) in
    first_notable c.args.bytes.now _ _ _ c.requires c.type_inv.bytes c.first_set.ensures (joined _ _ _ v (joined _ _ _ v control (zip2_splat _ v 16 127 long)) opening) refl
