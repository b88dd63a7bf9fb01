use Rattle.std.proofs.Common.{◌≡◌, true, Some, sym, ap, ◌∙◌, length, length-append, arith}
use Rattle.ir_model.specs.Run.{is_phi, arm_of}
use Rattle.ir_interp.specs.Slots.{env_in}
use Rattle.ir_interp.proofs.Items.{item-next}
use Rattle.ir_interp.proofs.Edges.{entered-more}
use Rattle.ir_interp.proofs.blocks.arrivals.Goals as goal

pub loop-inst-preserved : goal.loop-inst-preserved
loop-inst-preserved c =
    let inst = c.inst-item.result in
    let phi : is_phi inst.op ≡ true = sym c.if-not-is_phi.ensures in
    let arm : arm_of c.args.from inst.op inst.opds ≡ Some c.in-Some.opd.now = ap (arm_of c.args.from inst.op) (sym c.as_slice.ensures) ∙ sym c.in-Some.ensures in (
      omega (arith, simp length-append at (ap length c.in_ok-push.ensures.ok)),
      λ types s.
          entered-more types c.args.from (env_in c.args.edge.now.values.items) c.args.insts.now c.loop-inst.inst-index inst c.loop-inst.arrivals c.push.new.self
          c.in-Some.opd.now c.in_ok-value_of.field-0 s
          (item-next c.args.insts.now c.loop-inst.inst-index inst (omega arith) c.inst-item.is) phi arm c.in_ok-value_of.ensures c.in_ok-push.ensures.ok
          ∙ c.loop-inst.invariant.1 types s,
    )
