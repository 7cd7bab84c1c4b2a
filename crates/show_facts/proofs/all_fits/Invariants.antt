-- The invariant: the first k places are filled, and the others are false still.
use Rattle.std.proofs.Common.{◌≡◌, false}
use Rattle.paper.specs.Numbers.{per_task}
use Rattle.show_facts.specs.Facts.{fits_at}
use Rattle.show_facts.proofs.all_fits.Given as goal

abbrev pub invariant-loop-k : goal.invariant-loop-k
invariant-loop-k l = l.fits ≡ per_task l.k (fits_at l.rs l.lengths l.own l.catalogue) false
