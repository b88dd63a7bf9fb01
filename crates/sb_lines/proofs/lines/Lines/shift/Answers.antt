-- What the rings say, in the words of the module.
use Rattle.std.proofs.Common.{◌≡◌, sym, ◌∙◌, subst, Some, IsSome, option_map}
use Rattle.vx_view.specs.Answers.{found}
use Rattle.sb_lines.specs.declared.arena.Arena.{Arena}
use Rattle.sb_lines.specs.Spots.{moved_to, HasSpot, spot_of}
use Rattle.sb_lines.specs.Arena.{seen}
use Rattle.sb_lines.proofs.Wholes.{whole-kept, stands-there, there-stands, has-place, place-has}
use Rattle.sb_lines.proofs.Said.{frame-back, before-said, move-said, moved-there}
use Rattle.sb_lines.proofs.lines.Lines.shift.Goals as goal

pub shift-requires-clause-there : goal.shift-requires-clause-there
shift-requires-clause-there c =
    stands-there c.self.inside.arena c.self.invariant c.args.id (subst (λ (s : Arena). IsSome (found (seen s) c.args.id)) (sym c.self.view_is) c.requires.there)

pub shift-requires-clause-place : goal.shift-requires-clause-place
shift-requires-clause-place c =
    has-place c.self.inside.arena c.self.invariant c.args.before (subst (λ (s : Arena). HasSpot (seen s) c.args.before) (sym c.self.view_is) c.requires.place)

pub returns-clause-now : goal.returns-clause-now
returns-clause-now c =
    subst (λ (s : Arena). seen c.shift.new.self ≡ moved_to c.args.id c.args.before (seen s)) c.self.view_is (move-said c.self.inside.arena c.shift.new.self c.self.invariant c.args.id c.args.before c.shift.ensures.same (stands-there c.self.inside.arena c.self.invariant c.args.id (subst (λ (s : Arena). IsSome (found (seen s) c.args.id)) (sym c.self.view_is) c.requires.there)) c.shift.ensures.contents)

pub returns-clause-was : goal.returns-clause-was
returns-clause-was c =
    subst (λ (s : Arena). option_map (λ t. (spot_of c.args.id t).before) (found (seen s) c.args.id) ≡ Some c.shift.result) c.self.view_is (before-said c.self.inside.arena c.self.invariant c.args.id c.shift.result (stands-there c.self.inside.arena c.self.invariant c.args.id (subst (λ (s : Arena). IsSome (found (seen s) c.args.id)) (sym c.self.view_is) c.requires.there)) c.shift.ensures.before)

pub returns-clause-back : goal.returns-clause-back
returns-clause-back c =
    subst (λ (s : Arena). moved_to c.args.id c.shift.result (seen c.shift.new.self) ≡ seen s) c.self.view_is (sym (move-said c.shift.new.self c.self.inside.arena (whole-kept c.self.inside.arena c.shift.new.self c.self.invariant c.shift.ensures.same c.shift.ensures.rings) c.args.id c.shift.result (frame-back c.self.inside.arena c.shift.new.self c.shift.ensures.same) (moved-there _ _ c.shift.ensures.there (stands-there c.self.inside.arena c.self.invariant c.args.id (subst (λ (s : Arena). IsSome (found (seen s) c.args.id)) (sym c.self.view_is) c.requires.there))) (λ inst e q. sym (c.shift.ensures.back inst (sym c.shift.ensures.there ∙ e) q))))

pub returns-clause-there : goal.returns-clause-there
returns-clause-there c =
    there-stands c.shift.new.self (whole-kept c.self.inside.arena c.shift.new.self c.self.invariant c.shift.ensures.same c.shift.ensures.rings) c.args.id (moved-there _ _ c.shift.ensures.there (stands-there c.self.inside.arena c.self.invariant c.args.id (subst (λ (s : Arena). IsSome (found (seen s) c.args.id)) (sym c.self.view_is) c.requires.there)))

pub returns-clause-place : goal.returns-clause-place
returns-clause-place c =
    place-has c.shift.new.self (whole-kept c.self.inside.arena c.shift.new.self c.self.invariant c.shift.ensures.same c.shift.ensures.rings) c.shift.result c.shift.ensures.place
