-- What the rings say, in the words of the module.
use Rattle.std.proofs.Common.{◌≡◌, sym, ◌∙◌, subst, None}
use Rattle.vx_view.specs.Answers.{found}
use Rattle.vx_view.specs.Changes.{applied, removing}
use Rattle.vx_view.specs.declared.change.Change.TheVariants.{Remove}
use Rattle.sb_lines.specs.declared.arena.Arena.{Arena}
use Rattle.sb_lines.specs.Spots.{put_in, HasSpot}
use Rattle.sb_lines.specs.Arena.{seen}
use Rattle.sb_lines.proofs.Filled.{seen-put}
use Rattle.sb_lines.proofs.Wholes.{whole-kept, stands-not, has-place, inst-told}
use Rattle.sb_lines.proofs.Said.{edit-back}
use Rattle.sb_lines.proofs.lines.Lines.insert.Goals as goal

pub insert-requires-clause-place : goal.insert-requires-clause-place
insert-requires-clause-place c =
    has-place c.self.inside.arena c.self.invariant c.args.before (subst (λ (s : Arena). HasSpot (seen s) c.args.before) (sym c.self.view_is) c.requires.can.place)

pub insert-requires-clause-lacks : goal.insert-requires-clause-lacks
insert-requires-clause-lacks c =
    stands-not c.self.inside.arena c.self.invariant c.args.inst.id (subst (λ (s : Arena). found (seen s) c.args.inst.id ≡ None) (sym c.self.view_is) c.requires.can.lacks)

pub returns-clause-now : goal.returns-clause-now
returns-clause-now c =
    subst (λ (s : Arena). seen c.insert.new.self ≡ put_in c.args.before c.args.inst (seen s)) c.self.view_is (seen-put c.self.inside.arena c.insert.new.self c.args.before c.args.inst c.insert.ensures.same c.insert.ensures.contents)

pub returns-clause-back : goal.returns-clause-back
returns-clause-back c =
    subst (λ (s : Arena). applied (Remove c.args.inst.id) (seen c.insert.new.self) ≡ seen s) c.self.view_is (edit-back c.self.inside.arena c.insert.new.self (removing c.args.inst.id) c.insert.ensures.same c.insert.ensures.back)

pub returns-clause-there : goal.returns-clause-there
returns-clause-there c =
    inst-told c.insert.new.self (whole-kept c.self.inside.arena c.insert.new.self c.self.invariant c.insert.ensures.same c.insert.ensures.rings) c.args.inst.id ∙ c.insert.ensures.there
