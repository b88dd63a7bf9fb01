-- A change that fits can be made where there is room, and what it makes is whole.
use Rattle.std.proofs.Common.{rules, ◌≡◌, refl, ◌∙◌, sym, ap, subst, ◌≤◌, ◌<◌, true}
use Rattle.std.specs.Prelude.{is_err}
use Rattle.vx_view.specs.Changes.{Fits}
use Rattle.vx_view.specs.UsesAfter.{changed, cost}
use Rattle.sb_lines.specs.Arena.{seen}
use Rattle.sb_values.specs.declared.parts.Parts.{Parts}
use Rattle.sb_values.specs.Sandboxes.{State, state, contents_of, contents, spare, IsWhole}
use Rattle.sb_values.proofs.Deciding.{fits_so, fits_not}
use Rattle.sb_values.proofs.Making.{can_make, made_contents, made_whole, still_whole, still_fits, too_dear}
use Rattle.sb_values.proofs.sandbox.Sandbox.edit.Goals as goal

pub returns-then-not-fits-clause-refused : goal.returns-then-not-fits-clause-refused
returns-then-not-fits-clause-refused c = (
  refl,
  λ fits. fits_not (contents c.self.inside.parts) c.self.invariant.exact c.args.change (sym c.fits.ensures ∙ c.if-not-fits.true)
      (subst (λ (p : Parts). Fits (contents p).own c.args.change) (sym c.self.view_is) fits),
)

pub returns-then-is_err-clause-refused : goal.returns-then-is_err-clause-refused
returns-then-is_err-clause-refused c =
    let fits : Fits (seen c.self.inside.parts.lines) c.args.change = fits_so (contents c.self.inside.parts) c.self.invariant.exact c.args.change (sym c.fits.ensures ∙ c.if-not-fits.false) in
    let failed : is_err c.reserve.result ≡ true = sym c.is_err.ensures.value ∙ c.if-is_err.true in
    let dear : spare c.self.inside.parts < c.cost_of.result = too_dear c.reserve.result c.cost_of.result (spare c.self.inside.parts) c.reserve.ensures.had_room failed in (
      refl,
      subst (λ (p : Parts). Fits (contents p).own c.args.change) c.self.view_is fits,
      subst (λ (p : Parts). spare p < cost c.args.change) c.self.view_is (subst (λ n. spare c.self.inside.parts < n) c.cost_of.ensures dear),
    )

pub make-requires : goal.make-requires
make-requires c =
    let fits : Fits (seen c.self.inside.parts.lines) c.args.change = fits_so (contents c.self.inside.parts) c.self.invariant.exact c.args.change (sym c.fits.ensures ∙ c.if-not-fits.false) in
    let room : c.cost_of.result ≤ spare c.reserve.new.self = search rules in
    can_make c.reserve.new.self (still_whole c.self.inside.parts c.reserve.new.self c.reserve.ensures.same c.self.invariant) c.args.change (still_fits c.self.inside.parts c.reserve.new.self c.args.change c.reserve.ensures.same fits)
    (subst (λ n. n ≤ spare c.reserve.new.self) c.cost_of.ensures room)

pub invariant_of-self-2 : goal.invariant_of-self-2
invariant_of-self-2 c =
    let fits : Fits (seen c.self.inside.parts.lines) c.args.change = fits_so (contents c.self.inside.parts) c.self.invariant.exact c.args.change (sym c.fits.ensures ∙ c.if-not-fits.false) in
    let room : c.cost_of.result ≤ spare c.reserve.new.self = search rules in
    made_whole c.args.change c.make.result c.reserve.new.self c.make.new.self (still_whole c.self.inside.parts c.reserve.new.self c.reserve.ensures.same c.self.invariant) (still_fits c.self.inside.parts c.reserve.new.self c.args.change c.reserve.ensures.same fits) c.make.ensures
    (subst (λ n. n ≤ spare c.reserve.new.self) c.cost_of.ensures room)

pub returns-clause-now : goal.returns-clause-now
returns-clause-now c =
    let fits : Fits (seen c.self.inside.parts.lines) c.args.change = fits_so (contents c.self.inside.parts) c.self.invariant.exact c.args.change (sym c.fits.ensures ∙ c.if-not-fits.false) in
    let whole : IsWhole (state c.reserve.new.self) = still_whole c.self.inside.parts c.reserve.new.self c.reserve.ensures.same c.self.invariant in
    made_contents c.args.change c.make.result c.reserve.new.self c.make.new.self whole (still_fits c.self.inside.parts c.reserve.new.self c.args.change c.reserve.ensures.same fits) c.make.ensures
    ∙ ap (λ (s : State). changed c.args.change (contents_of s)) c.reserve.ensures.same
    ∙ ap (λ (p : Parts). changed c.args.change (contents p)) c.self.view_is

pub returns-clause-fits : goal.returns-clause-fits
returns-clause-fits c =
    let fits : Fits (seen c.self.inside.parts.lines) c.args.change = fits_so (contents c.self.inside.parts) c.self.invariant.exact c.args.change (sym c.fits.ensures ∙ c.if-not-fits.false) in
    subst (λ (p : Parts). Fits (contents p).own c.args.change) c.self.view_is fits
