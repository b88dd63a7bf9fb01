use Rattle.std.proofs.Common.{ap, ◌∙◌}
use Rattle.ir_model.specs.Run.{types_of, typed_params, typed_blocks}
use Rattle.ir_interp.specs.Slots.{over}
use Rattle.ir_interp.proofs.environment.Types.of.Goals as goal

pub returns : goal.returns
returns c =
    c.in_ok-add_blocks.ensures
    ∙ ap (λ l. over c.add_params.new.self.types.items (typed_blocks l)) c.as_slice-2.ensures
    ∙ c.in_ok-add_params.ensures (typed_blocks c.args.func.now.blocks)
    ∙ ap (λ l. over c.new.result.items (typed_params l (typed_blocks c.args.func.now.blocks))) c.as_slice.ensures
    ∙ c.new.ensures (types_of c.args.func.now)
