-- The invariant: ok says whether the regions of the first k records fit.
use Rattle.std.proofs.Common.{◌≡◌}
use lib.IntN.{pos}
use lib.ListN.{get_or}
use Rattle.paper.specs.Vocabulary.{every}
use Rattle.paper.specs.Numbers.{rec}
use Rattle.paper.specs.Regions.{list_of}
use Rattle.paper.specs.Lengths.{regions_fit}
use Rattle.fits.proofs.all_fit.Given as goal

abbrev pub invariant-loop-k : goal.invariant-loop-k
invariant-loop-k l =
    l.ok ≡ every l.k (λ k. regions_fit (list_of (rec l.t.records k).source l.own l.catalogue) (rec l.t.records k) (get_or l.lengths k (pos 0)))
