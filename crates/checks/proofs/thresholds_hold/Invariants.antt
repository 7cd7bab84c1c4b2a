-- The invariant: ok says whether the first k thresholds hold.
use Rattle.std.proofs.Common.{◌≡◌}
use mathlib.Core.Bool.{◌&&◌}
use lib.Dec.{leb}
use lib.ListN.{get_or}
use Rattle.paper.specs.Vocabulary.{every}
use Rattle.checks.proofs.thresholds_hold.Given as goal

abbrev pub invariant-loop-k : goal.invariant-loop-k
invariant-loop-k l = l.ok ≡ every l.k (λ j. leb 1 (get_or l.hs j 0) && leb (get_or l.hs j 0) (get_or l.ps j 0))
