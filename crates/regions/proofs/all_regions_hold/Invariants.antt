-- The invariant: ok says whether the regions of the first k records hold.
use Rattle.std.proofs.Common.{◌≡◌}
use Rattle.paper.specs.Numbers.{rec}
use Rattle.paper.specs.Regions.{record_regions_hold}
use Rattle.paper.specs.Vocabulary.{every}
use Rattle.regions.proofs.all_regions_hold.Given as goal

abbrev pub invariant-loop-k : goal.invariant-loop-k
invariant-loop-k l = l.ok ≡ every l.k (λ j. record_regions_hold l.own l.catalogue (rec l.t.records j))
