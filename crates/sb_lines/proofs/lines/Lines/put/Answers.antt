-- What the rings say, in the words of the module.
use Rattle.std.proofs.Common.{◌≡◌, sym, ap, ◌∙◌, subst, Some, IsSome, option_map}
use Rattle.vx_view.specs.Answers.{found}
use Rattle.vx_view.specs.Changes.{applied, putting}
use Rattle.vx_view.specs.declared.change.Change.TheVariants.{Replace}
use Rattle.sb_lines.specs.declared.arena.Arena.{Arena}
use Rattle.sb_lines.specs.Spots.{inst_of}
use Rattle.sb_lines.specs.Arena.{seen, standing}
use Rattle.sb_lines.specs.Steps.{told_inst}
use Rattle.sb_lines.proofs.Filled.{seen-edited}
use Rattle.sb_lines.proofs.Wholes.{whole-kept, stands-there, inst-told}
use Rattle.sb_lines.proofs.Said.{edit-back}
use Rattle.sb_lines.proofs.lines.Lines.put.Goals as goal

pub put-requires-clause-there : goal.put-requires-clause-there
put-requires-clause-there c =
    stands-there c.self.inside.arena c.self.invariant c.args.inst.id (subst (λ (s : Arena). IsSome (found (seen s) c.args.inst.id)) (sym c.self.view_is) c.requires.there)

pub returns-clause-now : goal.returns-clause-now
returns-clause-now c =
    subst (λ (s : Arena). seen c.put.new.self ≡ applied (Replace c.args.inst) (seen s)) c.self.view_is (seen-edited c.self.inside.arena c.put.new.self (putting c.args.inst) c.put.ensures.same c.put.ensures.contents)

pub returns-clause-was : goal.returns-clause-was
returns-clause-was c =
    subst (λ (s : Arena). option_map inst_of (found (seen s) c.args.inst.id) ≡ Some c.put.result) c.self.view_is (inst-told c.self.inside.arena c.self.invariant c.args.inst.id ∙ c.put.ensures.was)

pub returns-clause-back : goal.returns-clause-back
returns-clause-back c =
    subst (λ (s : Arena). applied (Replace c.put.result) (seen c.put.new.self) ≡ seen s) c.self.view_is (edit-back c.self.inside.arena c.put.new.self (putting c.put.result) c.put.ensures.same c.put.ensures.back)

pub returns-clause-there : goal.returns-clause-there
returns-clause-there c =
    inst-told c.put.new.self (whole-kept c.self.inside.arena c.put.new.self c.self.invariant c.put.ensures.same c.put.ensures.rings) c.put.result.id ∙ ap (λ x. option_map told_inst (standing c.put.new.self x)) c.put.ensures.id ∙ c.put.ensures.there
