-- What is tested is whether the change fits.
use Rattle.std.proofs.Common.{◌∙◌, sym, subst}
use Rattle.vx_view.specs.Changes.{Fits}
use Rattle.sb_values.specs.declared.parts.Parts.{Parts}
use Rattle.sb_values.specs.Sandboxes.{contents}
use Rattle.sb_values.proofs.Deciding.{fits_so, fits_not}
use Rattle.sb_values.proofs.sandbox.Sandbox.fits.Goals as goal

pub returns-clause-yes : goal.returns-clause-yes
returns-clause-yes c t =
    subst (λ (p : Parts). Fits (contents p).own c.args.change.now) c.self.view_is
    (fits_so (contents c.self.inside.parts) c.self.invariant.exact c.args.change.now (sym c.fits.ensures ∙ t))

pub returns-clause-no : goal.returns-clause-no
returns-clause-no c t fits =
    fits_not (contents c.self.inside.parts) c.self.invariant.exact c.args.change.now (sym c.fits.ensures ∙ t)
    (subst (λ (p : Parts). Fits (contents p).own c.args.change.now) (sym c.self.view_is) fits)
