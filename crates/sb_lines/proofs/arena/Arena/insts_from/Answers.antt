-- What was walked and what is left are the block.
use Rattle.std.proofs.Common.{rules, ◌≡◌, sym, ap, ◌∙◌, ℕ, List, [], ◌∷◌, ◌++◌, ◌-◌, Some}
use Rattle.std.proofs.lemmas.List.{append_assoc}
use Rattle.std.specs.Option.{option_copied}
use Rattle.ir_types.specs.declared.inst.Inst.{Inst}
use Rattle.sb_lines.specs.declared.nodes.Held.{Held}
use Rattle.sb_lines.specs.Nodes.{held, next, lines}
use Rattle.sb_lines.specs.Arena.{inst_in}
use Rattle.sb_lines.proofs.Walks.{step-some}
use Rattle.sb_lines.proofs.arena.Arena.insts_from.Goals as goal

pub loop-left-preserved : goal.loop-left-preserved
loop-left-preserved c =
    let h : ℕ → Held = held c.args.self.now.nodes.items in
    let n : ℕ → ℕ = next c.args.self.now.nodes.items in
    let i : Inst = c.in-Some.inst.now in
    let at_next : c.next_node-at.result ≡ n c.loop-left.at = c.next_node-at.ensures in
    let copied : c.push.new.self ≡ c.loop-left.insts ++ i ∷ [] = search (rules) in
    let there : inst_in (h (n c.loop-left.at)) ≡ Some i = ap (λ y. inst_in (h y)) (sym at_next) ∙ sym c.inst_at.ensures ∙ ap option_copied c.in-Some.is in
    let step : lines h n c.loop-left.left c.loop-left.at ≡ i ∷ lines h n (c.loop-left.left - 1) (n c.loop-left.at) = step-some h n c.loop-left.left c.loop-left.at i c.loop-left-test.true there in
    let rest : List Inst = lines h n (c.loop-left.left - 1) c.next_node-at.result in
    ap (λ us. us ++ rest) copied
    ∙ append_assoc c.loop-left.insts (i ∷ []) rest
    ∙ ap (λ y. c.loop-left.insts ++ i ∷ lines h n (c.loop-left.left - 1) y) at_next
    ∙ ap (λ r. c.loop-left.insts ++ r) (sym step)
    ∙ c.loop-left.invariant
