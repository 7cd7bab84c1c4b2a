-- The invariant: ok says whether x is none of the first j numbers.
use Rattle.std.proofs.Common.{◌≡◌}
use mathlib.Core.Bool.{not}
use lib.Dec.{eqb}
use lib.ListN.{get_or}
use Rattle.paper.specs.Vocabulary.{every}
use Rattle.checks.proofs.none_of.Given as goal

abbrev pub invariant-loop-j : goal.invariant-loop-j
invariant-loop-j l = l.ok ≡ every l.j (λ i. not (eqb (get_or l.xs i 0) l.x))
