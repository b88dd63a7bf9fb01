-- What the rings say, in the words of the module.
use Rattle.std.proofs.Common.{◌≡◌, sym, subst, None}
use Rattle.vx_view.specs.Answers.{found}
use Rattle.sb_lines.specs.declared.arena.Arena.{Arena}
use Rattle.sb_lines.specs.Spots.{put_in, HasSpot}
use Rattle.sb_lines.specs.Arena.{seen}
use Rattle.sb_lines.proofs.Filled.{seen-put}
use Rattle.sb_lines.proofs.Wholes.{stands-not, has-place}
use Rattle.sb_lines.proofs.lines.Lines.bring_back.Goals as goal

pub insert-requires-clause-place : goal.insert-requires-clause-place
insert-requires-clause-place c =
    has-place c.self.inside.arena c.self.invariant c.args.spot.before (subst (λ (s : Arena). HasSpot (seen s) c.args.spot.before) (sym c.self.view_is) c.requires.can.place)

pub insert-requires-clause-lacks : goal.insert-requires-clause-lacks
insert-requires-clause-lacks c =
    stands-not c.self.inside.arena c.self.invariant c.args.spot.inst.id (subst (λ (s : Arena). found (seen s) c.args.spot.inst.id ≡ None) (sym c.self.view_is) c.requires.can.lacks)

pub returns-clause-now : goal.returns-clause-now
returns-clause-now c =
    subst (λ (s : Arena). seen c.insert.new.self ≡ put_in c.args.spot.before c.args.spot.inst (seen s)) c.self.view_is (seen-put c.self.inside.arena c.insert.new.self c.args.spot.before c.args.spot.inst c.insert.ensures.same c.insert.ensures.contents)
