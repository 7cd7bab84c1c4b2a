-- The invariant: ok says it of the records so far.
use Rattle.std.proofs.Common.{◌≡◌}
use lib.Dec.{leb}
use Rattle.paper.specs.Numbers.{rec}
use Rattle.paper.specs.Vocabulary.{every}
use Rattle.checks.proofs.deadlines_hold.Given as goal

abbrev pub invariant-loop-r : goal.invariant-loop-r
invariant-loop-r l = l.ok ≡ every l.r-index (λ j. leb (rec l.t.records j).deadline (rec l.t.records j).period)
