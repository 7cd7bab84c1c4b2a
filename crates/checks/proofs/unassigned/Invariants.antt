-- The invariant: ok says it of the records so far.
use Rattle.std.proofs.Common.{◌≡◌}
use mathlib.Core.Bool.{◌&&◌}
use lib.Dec.{eqb}
use Rattle.paper.specs.Numbers.{rec}
use Rattle.paper.specs.Vocabulary.{every}
use Rattle.checks.proofs.unassigned.Given as goal

abbrev pub invariant-loop-r : goal.invariant-loop-r
invariant-loop-r l = l.ok ≡ every l.r-index (λ j. eqb (rec l.t.records j).priority 0 && eqb (rec l.t.records j).threshold 0)
