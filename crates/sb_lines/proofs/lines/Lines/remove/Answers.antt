-- What the rings say, in the words of the module.
use Rattle.std.proofs.Common.{◌≡◌, sym, ap, ◌∙◌, subst, Some, IsSome, option_map}
use Rattle.vx_view.specs.Answers.{found}
use Rattle.vx_view.specs.Changes.{applied, removing}
use Rattle.vx_view.specs.declared.change.Change.TheVariants.{Remove}
use Rattle.sb_lines.specs.declared.arena.Arena.{Arena}
use Rattle.sb_lines.specs.Spots.{put_in, spot_of}
use Rattle.sb_lines.specs.Arena.{seen, standing}
use Rattle.sb_lines.proofs.Filled.{seen-edited}
use Rattle.sb_lines.proofs.Wholes.{whole-kept, stands-there, not-stands, place-has}
use Rattle.sb_lines.proofs.Said.{put-back, spot-said}
use Rattle.sb_lines.proofs.lines.Lines.remove.Goals as goal

pub remove-requires-clause-there : goal.remove-requires-clause-there
remove-requires-clause-there c =
    stands-there c.self.inside.arena c.self.invariant c.args.id (subst (λ (s : Arena). IsSome (found (seen s) c.args.id)) (sym c.self.view_is) c.requires.there)

pub returns-clause-now : goal.returns-clause-now
returns-clause-now c =
    subst (λ (s : Arena). seen c.remove.new.self ≡ applied (Remove c.args.id) (seen s)) c.self.view_is (seen-edited c.self.inside.arena c.remove.new.self (removing c.args.id) c.remove.ensures.same c.remove.ensures.contents)

pub returns-clause-spot : goal.returns-clause-spot
returns-clause-spot c =
    subst (λ (s : Arena). option_map (spot_of c.args.id) (found (seen s) c.args.id) ≡ Some c.remove.result) c.self.view_is (spot-said c.self.inside.arena c.self.invariant c.args.id c.remove.result (stands-there c.self.inside.arena c.self.invariant c.args.id (subst (λ (s : Arena). IsSome (found (seen s) c.args.id)) (sym c.self.view_is) c.requires.there)) c.remove.ensures.inst c.remove.ensures.before)

pub returns-clause-back : goal.returns-clause-back
returns-clause-back c =
    subst (λ (s : Arena). put_in c.remove.result.before c.remove.result.inst (seen c.remove.new.self) ≡ seen s) c.self.view_is (put-back c.self.inside.arena c.remove.new.self c.remove.result.before c.remove.result.inst c.remove.ensures.same c.remove.ensures.back)

pub returns-clause-can : goal.returns-clause-can
returns-clause-can c =
    record {
      place = place-has c.remove.new.self (whole-kept c.self.inside.arena c.remove.new.self c.self.invariant c.remove.ensures.same c.remove.ensures.rings) c.remove.result.before c.remove.ensures.place;
      lacks = not-stands c.remove.new.self (whole-kept c.self.inside.arena c.remove.new.self c.self.invariant c.remove.ensures.same c.remove.ensures.rings) c.remove.result.inst.id (ap (standing c.remove.new.self) c.remove.ensures.id ∙ c.remove.ensures.lacks);
    }
