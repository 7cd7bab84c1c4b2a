-- The invariant: ok says whether the first i regions fit.
use Rattle.std.proofs.Common.{◌≡◌, ◌+◌}
use lib.IntN.{pos}
use lib.ListN.{get_or}
use lib.Signed.{le_z}
use Rattle.paper.specs.Vocabulary.{every}
use Rattle.fits.proofs.regions_fit.Given as goal

abbrev pub invariant-loop-i : goal.invariant-loop-i
invariant-loop-i l = l.ok ≡ every l.i (λ i. le_z (pos (get_or l.list (l.first + i) 0)) l.q)
