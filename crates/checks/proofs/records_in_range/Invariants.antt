-- The invariant: ok says it of the records so far.
use Rattle.std.proofs.Common.{◌≡◌}
use Rattle.paper.specs.Numbers.{rec, record_in_range}
use Rattle.paper.specs.Vocabulary.{every}
use Rattle.checks.proofs.records_in_range.Given as goal

abbrev pub invariant-loop-k : goal.invariant-loop-k
invariant-loop-k l = l.ok ≡ every l.k (λ j. record_in_range (rec l.t.records j))
