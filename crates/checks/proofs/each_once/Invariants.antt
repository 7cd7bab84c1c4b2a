-- The invariant: inside says whether the first k numbers lie from 1 to n, apart whether no two of them are the same.
use Rattle.std.proofs.Common.{◌≡◌}
use mathlib.Core.Bool.{not, ◌&&◌}
use lib.Dec.{leb, eqb}
use lib.ListN.{get_or}
use Rattle.paper.specs.Vocabulary.{every}
use Rattle.checks.proofs.each_once.Given as goal

abbrev pub invariant-loop-k : goal.invariant-loop-k
invariant-loop-k l =
    (l.inside ≡ every l.k (λ j. leb 1 (get_or l.xs j 0) && leb (get_or l.xs j 0) l.n))
    × (l.apart ≡ every l.k (λ j. every j (λ i. not (eqb (get_or l.xs i 0) (get_or l.xs j 0)))))
