use Rattle.std.proofs.Common.{◌∙◌, ap, ◌-◌, ◌++◌, ◌∷◌, [], take}
use Rattle.vx_serial.specs.Regions as region
use Rattle.vx_seeds.proofs.Chains.{piece_step}
use Rattle.vx_seeds.proofs.Blocks.{more}
use Rattle.vx_seeds.proofs.piece.add_pieces.Goals as goal

pub loop-bound-preserved : goal.loop-bound-preserved
loop-bound-preserved c =
    let before = c.loop-bound.pieces.items in
    let size = c.power_in-size.result in
    let n = c.loop-bound.bound in
    let left = c.loop-bound.left.now in
    ap (λ l. l ++ region.pieces (n - 1) c.args.lanes c.split_at.result.1.now) c.in_ok-push.ensures.items
    ∙ ap (λ p. (before ++ p ∷ []) ++ region.pieces (n - 1) c.args.lanes c.split_at.result.1.now) (c.in_ok-from_slice.ensures ∙ c.split_at.ensures.front)
    ∙ ap (λ r. (before ++ take size left ∷ []) ++ region.pieces (n - 1) c.args.lanes r) c.split_at.ensures.back
    ∙ piece_step before (n - 1) c.args.lanes size left _ (c.power_in-size.ensures ∙ ap region.power_in c.min.ensures) c.if-size-eq0.false
    (ap (λ k. before ++ region.pieces k c.args.lanes left) (more n c.loop-bound-test.true) ∙ c.loop-bound.invariant)
