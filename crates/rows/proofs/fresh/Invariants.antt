-- The invariant: `ok` tells of the first i numbers.
use mathlib.Core.Path.{◌≡◌}
use mathlib.Core.Bool.{not}
use lib.Dec.{eqb}
use lib.ListN.{get_or}
use Rattle.paper.specs.Vocabulary.{every}
use Rattle.rows.proofs.fresh.Given as goal

abbrev pub invariant-loop-i : goal.invariant-loop-i
invariant-loop-i l = l.ok ≡ every l.i (λ j. not (eqb (get_or l.d j 0) (get_or l.d l.k 0)))
