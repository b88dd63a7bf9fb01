use Rattle.std.proofs.Common.{◌+◌, ◌-◌, Some, sym, ap, ◌∙◌, arith}
use Rattle.ir_model.specs.declared.outcome.Outcome.TheVariants.{Returned}
use Rattle.ir_model.specs.CallFree.{end_on, run_blocks}
use Rattle.ir_interp.specs.Slots.{types_in}
use Rattle.ir_interp.specs.Effects.{state_in}
use Rattle.ir_interp.specs.Blocks.{ended_in}
use Rattle.ir_interp.proofs.Steps.{run_blocks-more}
use Rattle.ir_interp.proofs.functions.run_blocks.Goals as goal

pub returns-in-Stops : goal.returns-in-Stops
returns-in-Stops c =
    let types = types_in c.args.types.now.types.items in
    let bs = c.args.blocks.now in
    let s = state_in c.loop.state.env.values.items c.loop.state.memory in
    let t = state_in c.run_block.new.state.env.values.items c.run_block.new.state.memory in
    ap (λ k. end_on (ended_in k t) (λ to u. run_blocks types bs (c.args.bound - (c.loop.counter + 1)) (Some c.loop.at) to u)) (sym c.in-Stops.is)
    ∙ run_blocks-more types bs c.args.bound c.loop.counter c.loop.from c.loop.at s t c.in_ok-run_block.field-0 _ (omega arith) c.get.ensures c.in_ok-run_block.ensures
    ∙ c.loop.invariant

pub returns-in-Returns : goal.returns-in-Returns
returns-in-Returns c =
    let types = types_in c.args.types.now.types.items in
    let bs = c.args.blocks.now in
    let s = state_in c.loop.state.env.values.items c.loop.state.memory in
    let t = state_in c.run_block.new.state.env.values.items c.run_block.new.state.memory in
    ap (Returned c.in-Returns.value) c.memory_of.ensures
    ∙ ap (λ k. end_on (ended_in k t) (λ to u. run_blocks types bs (c.args.bound - (c.loop.counter + 1)) (Some c.loop.at) to u)) (sym c.in-Returns.is)
    ∙ run_blocks-more types bs c.args.bound c.loop.counter c.loop.from c.loop.at s t c.in_ok-run_block.field-0 _ (omega arith) c.get.ensures c.in_ok-run_block.ensures
    ∙ c.loop.invariant

pub loop-preserved : goal.loop-preserved
loop-preserved c =
    let types = types_in c.args.types.now.types.items in
    let bs = c.args.blocks.now in
    let s = state_in c.loop.state.env.values.items c.loop.state.memory in
    let t = state_in c.run_block.new.state.env.values.items c.run_block.new.state.memory in
    ap (λ k. end_on (ended_in k t) (λ to u. run_blocks types bs (c.args.bound - (c.loop.counter + 1)) (Some c.loop.at) to u)) (sym c.in-Goes.is)
    ∙ run_blocks-more types bs c.args.bound c.loop.counter c.loop.from c.loop.at s t c.in_ok-run_block.field-0 _ (omega arith) c.get.ensures c.in_ok-run_block.ensures
    ∙ c.loop.invariant
