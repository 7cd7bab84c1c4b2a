-- What does not fit leaves no passing row.
use mathlib.Core.Path.{sym, ◌∙◌}
use borrow.Author.Tests.{not-true}
use Rattle.search.proofs.Tested.{unfit_barren}
use Rattle.search.proofs.hopeless.Goals as goal

pub returns : goal.returns
returns c = λ e. unfit_barren _ _ _ c.requires.inside (sym c.fits.ensures ∙ not-true _ e)
