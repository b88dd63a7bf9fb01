-- What the rings say, in the words of the module.
use Rattle.std.proofs.Common.{◌≡◌, sym, ◌∙◌, subst, Some, IsSome}
use Rattle.vx_view.specs.Changes.{applied, setting}
use Rattle.vx_view.specs.declared.change.Change.TheVariants.{SetOperand}
use Rattle.sb_lines.specs.declared.arena.Arena.{Arena}
use Rattle.sb_lines.specs.Spots.{operand}
use Rattle.sb_lines.specs.Arena.{seen}
use Rattle.sb_lines.proofs.Filled.{seen-edited}
use Rattle.sb_lines.proofs.Wholes.{whole-kept, operand-told}
use Rattle.sb_lines.proofs.Said.{edit-back}
use Rattle.sb_lines.proofs.lines.Lines.set_operand.Goals as goal

pub set_operand-requires-clause-there : goal.set_operand-requires-clause-there
set_operand-requires-clause-there c =
    subst IsSome (operand-told c.self.inside.arena c.self.invariant c.args.id c.args.slot) (subst (λ (s : Arena). IsSome (operand (seen s) c.args.id c.args.slot)) (sym c.self.view_is) c.requires.there)

pub returns-clause-now : goal.returns-clause-now
returns-clause-now c =
    subst (λ (s : Arena). seen c.set_operand.new.self ≡ applied (SetOperand c.args.id c.args.slot c.args.to) (seen s)) c.self.view_is (seen-edited c.self.inside.arena c.set_operand.new.self (setting c.args.id c.args.slot c.args.to) c.set_operand.ensures.same c.set_operand.ensures.contents)

pub returns-clause-was : goal.returns-clause-was
returns-clause-was c =
    subst (λ (s : Arena). operand (seen s) c.args.id c.args.slot ≡ Some c.set_operand.result) c.self.view_is (operand-told c.self.inside.arena c.self.invariant c.args.id c.args.slot ∙ c.set_operand.ensures.was)

pub returns-clause-back : goal.returns-clause-back
returns-clause-back c =
    subst (λ (s : Arena). applied (SetOperand c.args.id c.args.slot c.set_operand.result) (seen c.set_operand.new.self) ≡ seen s) c.self.view_is (edit-back c.self.inside.arena c.set_operand.new.self (setting c.args.id c.args.slot c.set_operand.result) c.set_operand.ensures.same c.set_operand.ensures.back)

pub returns-clause-there : goal.returns-clause-there
returns-clause-there c =
    operand-told c.set_operand.new.self (whole-kept c.self.inside.arena c.set_operand.new.self c.self.invariant c.set_operand.ensures.same c.set_operand.ensures.rings) c.args.id c.args.slot ∙ c.set_operand.ensures.there
