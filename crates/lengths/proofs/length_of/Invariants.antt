-- The invariant: q is the smallest of C(k) and of what the tasks above k among the first j allow.
use Rattle.std.proofs.Common.{◌≡◌}
use lib.Dec.{ltb}
use lib.IntN.{pos}
use lib.ListN.{get_or}
use Rattle.paper.specs.Lengths.{allowed, least_of}
use Rattle.columns.specs.Columns.{ranked_by}
use Rattle.columns.specs.Tasks.{tasks_in}
use Rattle.lengths.proofs.length_of.Given as goal

abbrev pub invariant-loop-j : goal.invariant-loop-j
invariant-loop-j l =
    l.q ≡ least_of l.j (λ j. ltb (get_or l.p j 0) (get_or l.p l.k 0)) (allowed (tasks_in l.y) (ranked_by l.p)) (pos ((tasks_in l.y).c l.k))
